-- Operators found on bytes.
--     encode_marks                     a character's first byte has its strength, its other bytes have 0
--     marks_encode                    the marks of the bytes are those of the characters
--     loosest_encode, cut_encode      the loosest strength, and the pieces
use Prim.Native.Nat.{ℕ, zero, suc, ◌+◌, ◌/◌, ◌%◌, ◌<◌, ◌≤◌}
use native.Mathlib.Omega.{arith}
use mathlib.Core.Bool.{Bool, true, false, ◌&&◌, ◌||◌, and-false}
use mathlib.Core.List.{List, [], ◌∷◌, ◌++◌, map}
use mathlib.Core.Path.{◌≡◌, refl, sym, ap, ◌∙◌}
use lib.Dec.{eqb, ltb}
use lib.ListN.{length, take, drop, get_or}
use lib.Seq.{get_or-take}
use borrow.Author.Tests.{eqb-true, ne_eqb, le-ltb}
use Rattle.utf8.specs.Unicode.{tail, encode_char, encode}
use Rattle.utf8.proofs.Tests.{and_left, and_right, by_test}
use Rattle.utf8.proofs.Table.{Shape, one, two, three, four, shape, tail_make, not_tail_low, not_tail_high, Bytes, single, several, bytes}
use Rattle.rules.specs.declared.Class.{Class}
use Rattle.rules.specs.Basics.{choose, is, codes, at, same, one_of, starts_with, first_is, Pieces}
use Rattle.rules.specs.Scan.{Cell, cell, chars_of, is_str}
use Rattle.rules.specs.Operators.{operators}
use Rattle.rules.specs.SplitOperation.{ends_operand, atom_char, atom_len, starts_pair, Ops, OpStep, token, operator, escape, bracket, one_char_step, two_char_step, code_step, fresh_step, op_step_at, op_step, OpMark, op_mark, marks_from, no_ops, top_level_ops, looser, loosest, at_mark, cut_before}
use Rattle.rules.specs.OperatorBytes.{byte_step, byte_marks}
use Rattle.rules.proofs.Choose.{choose_case}
use Rattle.rules.proofs.StartsBytes.{all_ascii, Steady, not_ascii, low_of, steady_is, steady_blank, steady_opener, steady_closer, steady_ident, starts_cons, starts_ascii, first_encode, take_ascii, drop_ascii, leading_encode, leading_ascii}
use Rattle.rules.proofs.ScanBytes.{label, encode_cells, chars_encode_cells}
use Rattle.rules.proofs.WordsBytes.{encode_pieces}

-- ---- definitions

-- a strength at the first of some bytes, 0 at the others
unfoldable pub mark_bytes : ℕ → List ℕ → List OpMark
mark_bytes n [] = []
mark_bytes n (b ∷ bs) = op_mark b n ∷ mark_bytes 0 bs

unfoldable pub encode_marks : List OpMark → List OpMark
encode_marks [] = []
encode_marks (m ∷ ms) = mark_bytes m.strength (encode_char m.ch) ++ encode_marks ms

-- ---- the bytes of a character: only the first is no tail

data Tails : List ℕ → Type 0 where
  end : Tails []
  more : {b : ℕ} {bs : List ℕ} → tail b ≡ true → Tails bs → Tails (b ∷ bs)

data Lead (c : ℕ) : List ℕ → Type 0 where
  low : c < 0x80 → tail c ≡ false → Lead c (c ∷ [])
  high : {b : ℕ} {bs : List ℕ} → 0x80 ≤ c → 0x80 ≤ b → tail b ≡ false → Tails bs → Lead c (b ∷ bs)

lead : (c : ℕ) → Lead c (encode_char c)
lead c = go (shape c)
  where
    t : (x : ℕ) → tail (0x80 + x % 64) ≡ true
    t x = tail_make (0x80 + x % 64) (omega arith) (omega arith)

    go : Shape c → Lead c (encode_char c)
    go (one h e) = rw e (low h (not_tail_low c h))
    go (two h k e) = rw e (high {b = 0xC0 + c / 64} h (omega arith) (not_tail_high (0xC0 + c / 64) (omega arith)) (more (t c) end))
    go (three h k e) =
        rw e (high {b = 0xE0 + c / 4096} (omega arith) (omega arith) (not_tail_high (0xE0 + c / 4096) (omega arith)) (more (t (c / 64)) (more (t c) end)))
    go (four h e) =
        rw e
        (high {b = 0xF0 + c / 262144} (omega arith) (omega arith) (not_tail_high (0xF0 + c / 262144) (omega arith))
        (more (t (c / 4096)) (more (t (c / 64)) (more (t c) end))))

-- ---- a character from 80 hex on, and its first byte: an operand in a string, else no operand and no operator

steady_ends : Steady ends_operand false
unfolding ends_operand
steady_ends b h = rw (steady_ident b h, not_ascii b 41 h refl, not_ascii b 93 h refl, not_ascii b 34 h refl, not_ascii b 39 h refl)

all_texts : List (List ℕ) → Bool
all_texts [] = true
all_texts (w ∷ ws) = all_ascii w && all_texts ws

same_ascii : (k w : List ℕ) → all_ascii k ≡ true → same k w ≡ true → all_ascii w ≡ true
unfolding same
same_ascii [] [] a h = refl
same_ascii [] (y ∷ ys) a h = cc
same_ascii (x ∷ xs) [] a h = refl
same_ascii (x ∷ xs) (y ∷ ys) a h =
    rw (
      ← (eqb-true x y (and_left (eqb x y) (same xs ys) h)),
      and_left (ltb x 0x80) (all_ascii xs) a,
      same_ascii xs ys (and_right (ltb x 0x80) (all_ascii xs) a) (and_right (eqb x y) (same xs ys) h),
    )

one_ascii : (ws : List (List ℕ)) (w : List ℕ) → all_texts ws ≡ true → one_of ws w ≡ true → all_ascii w ≡ true
unfolding one_of all_texts
one_ascii [] w a h = cc
one_ascii (v ∷ vs) w a h = by_test (same v w) (λ e. same_ascii v w (and_left (all_ascii v) (all_texts vs) a) e) (λ e. one_ascii vs w (and_right (all_ascii v) (all_texts vs) a) (rw e at h))

pub operator_ascii : (w : List ℕ) → one_of operators w ≡ true → all_ascii w ≡ true
unfolding all_texts
operator_ascii w h = one_ascii operators w refl h

-- a text with a character from 80 hex on is no operator
no_operator : (w : List ℕ) → all_ascii w ≡ false → one_of operators w ≡ false
no_operator w a = by_test (one_of operators w) (λ e. let z = operator_ascii w e in cc) (λ e. e)

high_step : Class → Ops → OpStep
high_step k s =
    choose (is_str k) (record { strength = 0; after = record { opened = s.opened; closed = s.closed; operand = true; esc = s.esc; skip = 0 } })
    (choose s.esc (escape s false) (token s false 0))

code_high : (table : List ℕ) (s : Ops) (b : ℕ) (cs : List ℕ) → 0x80 ≤ b → code_step table s b cs ≡ token s false 0
unfolding code_step one_char_step starts_with choose
code_high table s b cs h =
    rw (
      not_ascii b 58 h refl,
      steady_blank b h,
      steady_opener b h,
      steady_closer b h,
      not_ascii b 46 h refl,
      not_ascii b 45 h refl,
      not_ascii b 61 h refl,
      no_operator (take 2 (b ∷ cs)) (rw (le-ltb b 0x80 h)),
      and-false (eqb (length (take 2 (b ∷ cs))) 2),
      no_operator (b ∷ []) (rw (le-ltb b 0x80 h)),
      steady_ends b h,
    )

fresh_high : (table : List ℕ) (s : Ops) (b : ℕ) (k : Class) (cs : List ℕ) → 0x80 ≤ b → fresh_step table s (cell b k) cs ≡ high_step k s
unfolding fresh_step high_step choose
fresh_high table s b k cs h = rw (not_ascii b 92 h refl, code_high table s b cs h)

-- ---- a character below 80 hex, before bytes

choose_with : {A : Type 0} (b b' : Bool) (x x' y y' : A) → b ≡ b' → (b' ≡ true → x ≡ x') → y ≡ y' → choose b x y ≡ choose b' x' y'
unfolding choose
choose_with b true x x' y y' e f g = rw e (f refl)
choose_with b false x x' y y' e f g = rw e g

steady_atom : Steady atom_char false
steady_atom b h = rw (steady_ident b h, not_ascii b 45 h refl)

atom_encode : (l : List ℕ) → atom_len (encode l) ≡ atom_len l
atom_encode l = leading_encode atom_char steady_atom l

atom_ascii : (l : List ℕ) → all_ascii (take (atom_len l) l) ≡ true
atom_ascii l = leading_ascii atom_char steady_atom l

get_d_ascii : (n c : ℕ) (l : List ℕ) → all_ascii (take n l) ≡ true → get_or (c ∷ encode l) n 0 ≡ get_or (c ∷ l) n 0
get_d_ascii zero c l a = refl
get_d_ascii (suc n) c l a =
    sym (get_or-take (suc n) (encode l) n 0 (omega arith)) ∙ ap (λ (s : List ℕ). get_or s n 0) (take_ascii (suc n) l a) ∙ get_or-take (suc n) l n 0 (omega arith)

pair_encode : (c : ℕ) (l : List ℕ) → starts_pair (c ∷ encode l) ≡ starts_pair (c ∷ l)
unfolding encode
pair_encode c [] = refl
pair_encode c (d ∷ ds) = go (encode_char d) (bytes d)
  where
    none_high : (b : ℕ) → 0x80 ≤ b → one_of operators (c ∷ b ∷ []) ≡ false
    none_high b h = no_operator (c ∷ b ∷ []) (rw (le-ltb b 0x80 h) (and-false (ltb c 0x80)))

    go : (bs : List ℕ) → Bytes d bs → starts_pair (c ∷ (bs ++ encode ds)) ≡ starts_pair (c ∷ d ∷ ds)
    go bs (single h) = refl
    go bs (several {b = b} hc hb hs) = rw (none_high b hb, none_high d hc)

two_low : (table : List ℕ) (s : Ops) (c : ℕ) (cs : List ℕ) → starts_pair (c ∷ cs) ≡ true
    → two_char_step table s (take 2 (c ∷ encode cs)) (drop 1 (encode cs)) ≡ two_char_step table s (take 2 (c ∷ cs)) (drop 1 cs)
unfolding two_char_step
two_low table s c cs e =
    let a : all_ascii (take 2 (c ∷ cs)) ≡ true = operator_ascii (take 2 (c ∷ cs)) (and_right (eqb (length (take 2 (c ∷ cs))) 2) (one_of operators (take 2 (c ∷ cs))) e) in
    let a1 : all_ascii (take 1 cs) ≡ true = and_right (ltb c 0x80) (all_ascii (take 1 cs)) a in
    rw (take_ascii 1 cs a1, drop_ascii 1 cs a1, first_encode (is "=") false (steady_is "=" refl) (drop 1 cs))

one_low : (table : List ℕ) (s : Ops) (c : ℕ) (cs : List ℕ) → one_char_step table s c (encode cs) ≡ one_char_step table s c cs
unfolding one_char_step
one_low table s c cs = rw (first_encode (is "=") false (steady_is "=" refl) cs)

code_low : (table : List ℕ) (s : Ops) (c : ℕ) (cs : List ℕ) → code_step table s c (encode cs) ≡ code_step table s c cs
unfolding code_step
code_low table s c cs =
    rw (
      atom_encode cs,
      get_d_ascii (atom_len cs) c cs (atom_ascii cs),
      starts_cons c cs (codes "...") refl,
      starts_cons c cs (codes "->") refl,
      starts_cons c cs (codes "=>") refl,
      pair_low,
    )
  where
    pair_low : choose (starts_pair (c ∷ encode cs)) (two_char_step table s (take 2 (c ∷ encode cs)) (drop 1 (encode cs))) (one_char_step table s c (encode cs))
        ≡ choose (starts_pair (c ∷ cs)) (two_char_step table s (take 2 (c ∷ cs)) (drop 1 cs)) (one_char_step table s c cs)
    pair_low = choose_with _ _ _ _ _ _ (pair_encode c cs) (two_low table s c cs) (one_low table s c cs)

step_low : (n : ℕ) (table : List ℕ) (s : Ops) (x : Cell) (cs : List ℕ) → op_step_at n table s x (encode cs) ≡ op_step_at n table s x cs
unfolding op_step_at fresh_step
step_low zero table s x cs = rw (code_low table s x.ch cs)
step_low (suc n) table s x cs = refl

-- ---- what a token passes over is ASCII

record Skips (cs : List ℕ) (r : OpStep) : Type 0 where
  ascii : all_ascii (take r.after.skip cs) ≡ true

module _ (cs : List ℕ) where
  skip_none : (s : Ops) (o : Bool) → Skips cs (token s o 0)
  unfolding token
  skip_none s o = record { ascii = refl }

  skip_token : (s : Ops) (o : Bool) (n : ℕ) → all_ascii (take n cs) ≡ true → Skips cs (token s o n)
  unfolding token
  skip_token s o n a = record { ascii = a }

  skip_operator : (s : Ops) (p n : ℕ) → all_ascii (take n cs) ≡ true → Skips cs (operator s p n)
  unfolding operator
  skip_operator s p n a = record { ascii = a }

  skip_escape : (s : Ops) (e : Bool) → Skips cs (escape s e)
  unfolding escape
  skip_escape s e = record { ascii = refl }

  skip_bracket : (m n : ℕ) (o : Bool) → Skips cs (bracket m n o)
  unfolding bracket
  skip_bracket m n o = record { ascii = refl }

  skip_or_law : (b : Bool) (x y : OpStep) → (b ≡ true → Skips cs x) → Skips cs y → Skips cs (choose b x y)
  skip_or_law b x y f g = choose_case (Skips cs) f (λ e. g)

first_ascii : (cs : List ℕ) → first_is (is "=") cs ≡ true → all_ascii (take 1 cs) ≡ true
unfolding first_is
first_ascii [] h = refl
first_ascii (c ∷ cs) h = rw (low_of (is "=") (steady_is "=" refl) c h)

second_ascii : (cs : List ℕ) → all_ascii (take 1 cs) ≡ true → all_ascii (take 1 (drop 1 cs)) ≡ true → all_ascii (take 2 cs) ≡ true
second_ascii [] a b = refl
second_ascii (c ∷ cs) a b = rw (and_left (ltb c 0x80) true a) b

-- after the first character of an ASCII text
starts_rest : (w : ℕ) (ws : List ℕ) (c : ℕ) (cs : List ℕ) → all_ascii (w ∷ ws) ≡ true → starts_with (c ∷ cs) (w ∷ ws) ≡ true → all_ascii (take (length ws) cs) ≡ true
starts_rest w ws c cs a h = and_right (ltb c 0x80) (all_ascii (take (length ws) cs)) (starts_ascii (w ∷ ws) (c ∷ cs) a h)

one_skips : (table : List ℕ) (s : Ops) (c : ℕ) (cs : List ℕ) → Skips cs (one_char_step table s c cs)
unfolding one_char_step
one_skips table s c cs =
    skip_or_law cs _ _ _ (λ e. skip_none cs s (ends_operand c))
    (skip_or_law cs _ _ _ (λ e. skip_token cs s false 1 (first_ascii cs e))
    (skip_or_law cs _ _ _ (λ e. skip_none cs s false)
    (skip_operator cs s _ 0 refl)))

two_skips : (table : List ℕ) (s : Ops) (op cs : List ℕ) → all_ascii (take 1 cs) ≡ true → Skips cs (two_char_step table s op (drop 1 cs))
unfolding two_char_step
two_skips table s op cs a =
    skip_or_law cs _ _ _
    (λ e. skip_token cs s false 2 (second_ascii cs a (first_ascii (drop 1 cs) (and_right (same op (codes "<<") || same op (codes ">>")) (first_is (is "=") (drop 1 cs)) e))))
    (skip_operator cs s _ 1 a)

code_skips : (table : List ℕ) (s : Ops) (c : ℕ) (cs : List ℕ) → Skips cs (code_step table s c cs)
unfolding code_step
code_skips table s c cs =
    skip_or_law cs _ _ _ (λ e. skip_token cs s _ (atom_len cs) (atom_ascii cs))
    (skip_or_law cs _ _ _ (λ e. skip_none cs s s.operand)
    (skip_or_law cs _ _ _ (λ e. skip_bracket cs (suc s.opened) s.closed false)
    (skip_or_law cs _ _ _ (λ e. skip_bracket cs s.opened (suc s.closed) (ends_operand c))
    (skip_or_law cs _ _ _ (λ e. skip_token cs s false 2 (starts_rest 46 (codes "..") c cs refl e))
    (skip_or_law cs _ _ _ (λ e. skip_token cs s false 1 (arrow e))
    (skip_or_law cs _ _ _ (λ e. two_skips table s (take 2 (c ∷ cs)) cs (pair_ascii e))
    (one_skips table s c cs)))))))
  where
    arrow : (at (c ∷ cs) "->" || at (c ∷ cs) "=>") ≡ true → all_ascii (take 1 cs) ≡ true
    arrow e = by_test (at (c ∷ cs) "->") (λ h. starts_rest 45 (codes ">") c cs refl h) (λ h. starts_rest 61 (codes ">") c cs refl (rw h at e))

    pair_ascii : starts_pair (c ∷ cs) ≡ true → all_ascii (take 1 cs) ≡ true
    pair_ascii e =
        and_right (ltb c 0x80) (all_ascii (take 1 cs))
        (operator_ascii (take 2 (c ∷ cs)) (and_right (eqb (length (take 2 (c ∷ cs))) 2) (one_of operators (take 2 (c ∷ cs))) e))

fresh_skips : (table : List ℕ) (s : Ops) (x : Cell) (cs : List ℕ) → Skips cs (fresh_step table s x cs)
unfolding fresh_step
fresh_skips table s x cs =
    skip_or_law cs _ _ _ (λ e. record { ascii = refl })
    (skip_or_law cs _ _ _ (λ e. skip_escape cs s false)
    (skip_or_law cs _ _ _ (λ e. skip_escape cs s true)
    (code_skips table s x.ch cs)))

step_skips : (n : ℕ) (table : List ℕ) (s : Ops) (x : Cell) (cs : List ℕ) → all_ascii (take n (x.ch ∷ cs)) ≡ true → Skips cs (op_step_at n table s x cs)
unfolding op_step_at
step_skips zero table s x cs a = fresh_skips table s x cs
step_skips (suc n) table s x cs a = skip_token cs s s.operand n (and_right (ltb x.ch 0x80) (all_ascii (take n cs)) a)

-- ---- the line

-- where a character from 80 hex on stands, no token is passed over
step_high : (n : ℕ) (table : List ℕ) (s : Ops) (b c : ℕ) (k : Class) (cs ds : List ℕ) → all_ascii (take n (c ∷ cs)) ≡ true → 0x80 ≤ c → 0x80 ≤ b
    → op_step_at n table s (cell b k) ds ≡ op_step_at n table s (cell c k) cs
unfolding op_step_at
step_high zero table s b c k cs ds a hc hb = fresh_high table s b k ds hb ∙ sym (fresh_high table s c k cs hc)
step_high (suc n) table s b c k cs ds a hc hb =
    let z : ltb c 0x80 ≡ true = and_left (ltb c 0x80) (all_ascii (take n cs)) a in
    let y : ltb c 0x80 ≡ false = le-ltb c 0x80 hc in
    cc

module _ (table : List ℕ) where
  marks_cons : (s : Ops) (x : Cell) (xs : List Cell) (r : OpStep) → byte_step table s x (chars_of xs) ≡ r
      → byte_marks table s (x ∷ xs) ≡ op_mark x.ch r.strength ∷ byte_marks table r.after xs
  unfolding byte_marks
  marks_cons s x xs r e = ap (λ (t : OpStep). op_mark x.ch t.strength ∷ byte_marks table t.after xs) e

  tails_marks : (bs : List ℕ) → Tails bs → (k : Class) (s : Ops) (ys : List Cell) → byte_marks table s (label k bs ++ ys) ≡ mark_bytes 0 bs ++ byte_marks table s ys
  unfolding label mark_bytes choose
  tails_marks bs end k s ys = refl
  tails_marks bs (more {b = b} {bs = bs'} t ts) k s ys =
      marks_cons s (cell b k) (label k bs' ++ ys) (record { strength = 0; after = s }) (rw t) ∙ rw (tails_marks bs' ts k s ys)

  marks_from_law : (cells : List Cell) (s : Ops) → all_ascii (take s.skip (chars_of cells)) ≡ true → byte_marks table s (encode_cells cells) ≡ encode_marks (marks_from table s cells)
  unfolding byte_marks encode_marks marks_from encode_cells chars_of label mark_bytes choose
  marks_from_law [] s a = refl
  marks_from_law (x ∷ xs) s a =
      go (encode_char x.ch) refl (lead x.ch) (marks_from_law xs r.after (step_skips s.skip table s x (chars_of xs) a).ascii)
    where
      r : OpStep
      r = op_step table s x (chars_of xs)

      go : (bs : List ℕ) → encode_char x.ch ≡ bs → Lead x.ch bs → byte_marks table r.after (encode_cells xs) ≡ encode_marks (marks_from table r.after xs)
          → byte_marks table s (label x.class bs ++ encode_cells xs) ≡ encode_marks (op_mark x.ch r.strength ∷ marks_from table r.after xs)
      go bs e (low h t) i = marks_cons s x (encode_cells xs) r (rw (t, chars_encode_cells xs) (step_low s.skip table s x (chars_of xs))) ∙ rw (i, e)
      go bs e (high {b = b} {bs = bs'} hc hb t ts) i =
          marks_cons s (cell b x.class) (label x.class bs' ++ encode_cells xs) r
          (rw t (step_high s.skip table s b x.ch x.class (chars_of xs) _ a hc hb))
          ∙ rw (tails_marks bs' ts x.class r.after (encode_cells xs), i, e)

  pub marks_encode : (cells : List Cell) → byte_marks table no_ops (encode_cells cells) ≡ encode_marks (top_level_ops table cells)
  unfolding top_level_ops
  marks_encode cells = marks_from_law cells no_ops refl

-- ---- the loosest strength, and the pieces

loosest_rest : (bs : List ℕ) (ms : List OpMark) → loosest (mark_bytes 0 bs ++ ms) ≡ loosest ms
unfolding loosest looser mark_bytes
loosest_rest [] ms = refl
loosest_rest (b ∷ bs) ms = loosest_rest bs ms

pub loosest_encode : (ms : List OpMark) → loosest (encode_marks ms) ≡ loosest ms
unfolding loosest encode_marks mark_bytes
loosest_encode [] = refl
loosest_encode (m ∷ ms) = go (encode_char m.ch) (bytes m.ch) (loosest_encode ms)
  where
    go : (bs : List ℕ) → Bytes m.ch bs → loosest (encode_marks ms) ≡ loosest ms → loosest (mark_bytes m.strength bs ++ encode_marks ms) ≡ looser m.strength (loosest ms)
    go bs (single h) i = rw i
    go bs (several {b = b} {bs = bs'} hc hb hs) i = rw (loosest_rest bs' (encode_marks ms), i)

module _ (p : ℕ) (some : 0 < p) where
  -- at the bytes after a character's first nothing is cut
  cut_rest : (bs : List ℕ) (ms : List OpMark) → cut_before p (mark_bytes 0 bs ++ ms) ≡ record { first = bs ++ (cut_before p ms).first; rest = (cut_before p ms).rest }
  unfolding cut_before at_mark mark_bytes
  cut_rest [] ms = refl
  cut_rest (b ∷ bs) ms = rw (ne_eqb 0 p (omega arith), cut_rest bs ms)

  cut_char : (t : Bool) (c : ℕ) (b : ℕ) (bs : List ℕ) (q : Pieces) → encode_char c ≡ b ∷ bs
      → at_mark t b (record { first = bs ++ encode q.first; rest = map encode q.rest }) ≡ encode_pieces (at_mark t c q)
  unfolding at_mark encode
  cut_char true c b bs q e = rw e
  cut_char false c b bs q e = rw e

  pub cut_encode : (ms : List OpMark) → cut_before p (encode_marks ms) ≡ encode_pieces (cut_before p ms)
  unfolding cut_before encode_marks mark_bytes encode
  cut_encode [] = refl
  cut_encode (m ∷ ms) = go (encode_char m.ch) refl (bytes m.ch) (cut_encode ms)
    where
      on : (b : ℕ) (bs : List ℕ) → encode_char m.ch ≡ b ∷ bs → cut_before p (encode_marks ms) ≡ encode_pieces (cut_before p ms)
          → cut_before p (mark_bytes m.strength (b ∷ bs) ++ encode_marks ms) ≡ encode_pieces (at_mark (eqb m.strength p) m.ch (cut_before p ms))
      on b bs e i =
          ap (λ (q : Pieces). at_mark (eqb m.strength p) b q)
          (cut_rest bs (encode_marks ms) ∙ ap (λ (q : Pieces). record { first = bs ++ q.first; rest = q.rest }) i)
          ∙ cut_char (eqb m.strength p) m.ch b bs (cut_before p ms) e

      go : (bs : List ℕ) → encode_char m.ch ≡ bs → Bytes m.ch bs → cut_before p (encode_marks ms) ≡ encode_pieces (cut_before p ms)
          → cut_before p (mark_bytes m.strength bs ++ encode_marks ms) ≡ encode_pieces (at_mark (eqb m.strength p) m.ch (cut_before p ms))
      go bs e (single h) i = on m.ch [] e i
      go bs e (several {b = b} {bs = bs'} hc hb hs) i = on b bs' e i

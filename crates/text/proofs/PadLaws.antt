-- A line after its indent; a line that an else is joined to.
use Prim.Native.Nat.{ℕ, zero, suc, ◌+◌, ◌≤◌, ◌<◌}
use mathlib.Core.Bool.{Bool, true, false, not, ◌&&◌, ◌||◌, and-true}
use mathlib.Core.Path.{◌≡◌, refl, sym, ap, ◌∙◌, subst}
use mathlib.Core.List.{List, [], ◌∷◌, ◌++◌}
use native.Mathlib.Omega.{arith}
use borrow.Author.Tests.{eqb-true, ne_eqb, not-true}
use lib.Dec.{eqb}
use lib.ListN.{length, length-append}
use Rattle.utf8.specs.Unicode.{encode_char, encode, size, is_white, trim_start, trim_end}
use Rattle.utf8.proofs.Tests.{by_test, and_left, and_right}
use Rattle.utf8.proofs.Decode.{Ascii, ascii_append, encode_nil, encode_cons, encode_ascii, encode_append}
use Rattle.utf8.proofs.Table.{Shape, one, two, three, four, shape}
use Rattle.utf8.proofs.Trim.{White, white_append, start_append_white, start_white, start_other, end_append, end_none, end_split}
use Rattle.buffer.specs.Repeat.{times}
use Rattle.rules.specs.Basics.{is, codes, starts_with, last_is, is_blank}
use Rattle.rules.specs.Options.{all_blank}
use Rattle.rules.specs.Else.{joinable}
use Rattle.rules.proofs.StartsBytes.{last_after}
use Rattle.rules.proofs.Choose.{choose_true, choose_false}
use Rattle.text.specs.Text.{tail_of}

no : {A : Type 0} → ◌≡◌ {A = Bool} false true → A
no e = absurd (let z : ◌≡◌ {A = ℕ} 0 1 = cc in omega arith)

-- ---- an indent: spaces and tabs

pub record Blanks (p : List ℕ) : Type 0 where
  pub white : White p
  pub ascii : Ascii p

blank_is : (c : ℕ) (a b : Bool) → eqb c 32 ≡ a → eqb c 9 ≡ b → (a || b) ≡ true → (is_white c ≡ true) × (c < 0x80)
unfolding is_white
blank_is c true b e f h = let k : c ≡ 32 = eqb-true c 32 e in rw k (refl, omega arith)
blank_is c false true e f h = let k : c ≡ 9 = eqb-true c 9 f in rw k (refl, omega arith)
blank_is c false false e f h = no h

blanks_of_law : (p : List ℕ) → all_blank p ≡ true → Blanks p
unfolding all_blank
blanks_of_law [] e = record { white = tt; ascii = tt }
blanks_of_law (c ∷ cs) e =
    let b = blank_is c (eqb c 32) (eqb c 9) refl refl (and_left (is_blank c) (all_blank cs) e) in
    let r = blanks_of_law cs (and_right (is_blank c) (all_blank cs) e) in
    record { white = (b.0, r.white); ascii = (b.1, r.ascii) }

blanks_times : (n : ℕ) (w : List ℕ) → Blanks w → Blanks (times n w)
unfolding times
blanks_times zero w p = record { white = tt; ascii = tt }
blanks_times (suc n) w p =
    let r = blanks_times n w p in
    record { white = white_append w (times n w) p.white r.white; ascii = ascii_append w (times n w) p.ascii r.ascii }

pub indent_blanks : (levels : ℕ) (indent : List ℕ) → all_blank indent ≡ true → Blanks (times levels indent)
indent_blanks levels indent e = blanks_times levels indent (blanks_of_law indent e)

pub blanks_encode : (p l : List ℕ) → Blanks p → encode (p ++ l) ≡ p ++ encode l
blanks_encode p l b = encode_append p l ∙ ap (λ (x : List ℕ). x ++ encode l) (encode_ascii p b.ascii)

pub blanks_size : (p l : List ℕ) → Blanks p → size (p ++ l) ≡ length p + size l
blanks_size p l b = ap length (blanks_encode p l b) ∙ length-append p (encode l)

-- ---- only an empty text has no bytes

char_some : (c : ℕ) → Shape c → 1 ≤ length (encode_char c)
char_some c (one h e) = rw e (omega arith)
char_some c (two h k e) = rw e (omega arith)
char_some c (three h k e) = rw e (omega arith)
char_some c (four h e) = rw e (omega arith)

pub some_size : (c : ℕ) (cs : List ℕ) → 1 ≤ size (c ∷ cs)
some_size c cs = omega (arith, ap length (encode_cons c cs), length-append (encode_char c) (encode cs), char_some c (shape c))

pub some_chars : (cs : List ℕ) → 1 ≤ size cs → 1 ≤ length cs
some_chars [] h = absurd (omega (arith, ap length encode_nil))
some_chars (c ∷ cs) h = omega arith

pub none_test : eqb (size []) 0 ≡ true
none_test = rw encode_nil refl

pub some_test : (l : List ℕ) → 1 ≤ size l → eqb (size l) 0 ≡ false
some_test l h = ne_eqb (size l) 0 (λ q. absurd (omega arith))

-- ---- trimmed at its end

pub white_of : (l : List ℕ) → trim_end l ≡ [] → White l
white_of l e = let w = end_split l in subst White (sym (w.2 ∙ ap (λ (x : List ℕ). x ++ w.0) e)) w.1

pub tail_pad : (p l : List ℕ) → Blanks p → size (trim_end (p ++ l)) ≡ tail_of (length p) (size (trim_end l))
tail_pad p l b = go (trim_end l) refl
  where
    go : (x : List ℕ) → trim_end l ≡ x → size (trim_end (p ++ l)) ≡ tail_of (length p) (size x)
    go [] e =
        ap size (end_none (p ++ l) (white_append p l b.white (white_of l e))) ∙ ap length encode_nil
        ∙ sym (choose_true (eqb (size []) 0) 0 (length p + size []) none_test)
    go (y ∷ ys) e =
        ap size (end_append p l y ys e) ∙ blanks_size p (y ∷ ys) b
        ∙ sym (choose_false (eqb (size (y ∷ ys)) 0) 0 (length p + size (y ∷ ys)) (some_test (y ∷ ys) (some_size y ys)))

pub join_pad : (p l : List ℕ) → Blanks p → joinable (p ++ l) ≡ joinable l
unfolding joinable
join_pad p l b = rw (start_append_white p l b.white, ends (trim_end l) refl)
  where
    ends : (x : List ℕ) → trim_end l ≡ x → last_is (is "}") (trim_end (p ++ l)) ≡ last_is (is "}") (trim_end l)
    ends [] e = ap (last_is (is "}")) (end_none (p ++ l) (white_append p l b.white (white_of l e)) ∙ sym e)
    ends (y ∷ ys) e = ap (last_is (is "}")) (end_append p l y ys e) ∙ last_after (is "}") p (y ∷ ys) refl ∙ ap (last_is (is "}")) (sym e)

-- ---- what a line that ends in `}` starts with

NoBrace : List ℕ → Type 0
NoBrace [] = Unit {0}
NoBrace (w ∷ ws) = (eqb 125 w ≡ false) × NoBrace ws

-- a word without `}` does not reach past a text that ends in `}`
starts_front : (x y w : List ℕ) → NoBrace w → last_is (is "}") x ≡ true → starts_with (x ++ y) w ≡ starts_with x w
unfolding NoBrace last_is starts_with
starts_front x y [] n e = refl
starts_front [] y (w ∷ ws) n e = no e
starts_front (c ∷ []) y (w ∷ ws) n e = let k : c ≡ 125 = eqb-true c 125 e in rw (k, n.0)
starts_front (c ∷ d ∷ x) y (w ∷ ws) n e = ap (λ (b : Bool). eqb c w && b) (starts_front (d ∷ x) y ws n.1 e)

record Brace (x y : List ℕ) : Type 0 where
  pub front : trim_start (x ++ y) ≡ trim_start x ++ y
  pub last : last_is (is "}") (trim_start x) ≡ true

brace : (x y : List ℕ) → last_is (is "}") x ≡ true → Brace x y
unfolding last_is
brace [] y e = no e
brace (c ∷ []) y e =
    let k : is_white c ≡ false = rw (eqb-true c 125 e) (unfold is_white in refl) in
    let s : trim_start (c ∷ []) ≡ c ∷ [] = start_other c [] k in
    record { front = start_other c y k ∙ ap (λ (z : List ℕ). z ++ y) (sym s); last = ap (last_is (is "}")) s ∙ e }
brace (c ∷ d ∷ x) y e =
    by_test (is_white c)
    (λ k. let r = brace (d ∷ x) y e in
    let s : trim_start (c ∷ d ∷ x) ≡ trim_start (d ∷ x) = start_white c (d ∷ x) k in
    record { front = start_white c ((d ∷ x) ++ y) k ∙ r.front ∙ ap (λ (z : List ℕ). z ++ y) (sym s); last = ap (last_is (is "}")) s ∙ r.last })
    (λ k. let s : trim_start (c ∷ d ∷ x) ≡ c ∷ d ∷ x = start_other c (d ∷ x) k in
    record { front = start_other c ((d ∷ x) ++ y) k ∙ ap (λ (z : List ℕ). z ++ y) (sym s); last = ap (last_is (is "}")) s ∙ e })

starts_else : (x y : List ℕ) → last_is (is "}") x ≡ true → starts_with (trim_start (x ++ y)) (codes "else") ≡ starts_with (trim_start x) (codes "else")
unfolding NoBrace
starts_else x y e =
    let r = brace x y e in
    ap (λ (z : List ℕ). starts_with z (codes "else")) r.front ∙ starts_front (trim_start x) y (codes "else") (refl, (refl, (refl, (refl, tt)))) r.last

-- ---- an else joined

-- the new newest line: trimmed already, and able to take an else if the else line ends in `}`
pub else_trimmed : (x line : List ℕ) → trim_end line ≡ line → 1 ≤ length line → trim_end (x ++ (32 ∷ line)) ≡ x ++ (32 ∷ line)
else_trimmed x [] e h = absurd (omega arith)
else_trimmed x (y ∷ ys) e h = end_append x (32 ∷ y ∷ ys) 32 (y ∷ ys) (end_append (32 ∷ []) (y ∷ ys) y ys e)

last_space : (line : List ℕ) → 1 ≤ length line → last_is (is "}") (32 ∷ line) ≡ last_is (is "}") line
unfolding last_is
last_space [] h = absurd (omega arith)
last_space (y ∷ ys) h = refl

pub else_joinable : (l line : List ℕ) → trim_end line ≡ line → 1 ≤ length line → joinable l ≡ true → joinable (trim_end l ++ (32 ∷ line)) ≡ last_is (is "}") line
unfolding joinable
else_joinable l line e h j =
    let x = trim_end l in
    let w = end_split l in
    let a : last_is (is "}") x ≡ true = and_left (last_is (is "}") x) (not (starts_with (trim_start l) (codes "else"))) j in
    let b : starts_with (trim_start l) (codes "else") ≡ false = not-true (starts_with (trim_start l) (codes "else")) (and_right (last_is (is "}") x) (not (starts_with (trim_start l) (codes "else"))) j) in
    let s : starts_with (trim_start (x ++ (32 ∷ line))) (codes "else") ≡ false =
    starts_else x (32 ∷ line) a ∙ sym (starts_else x w.0 a) ∙ ap (λ (z : List ℕ). starts_with (trim_start z) (codes "else")) (sym w.2) ∙ b in
    let t : last_is (is "}") (trim_end (x ++ (32 ∷ line))) ≡ last_is (is "}") line =
    ap (last_is (is "}")) (else_trimmed x line e h) ∙ last_after (is "}") x (32 ∷ line) refl ∙ last_space line h in
    rw (t, s) (and-true (last_is (is "}") line))

-- A line's UTF-8 bytes have the classes of their characters, and leave the same open: every test of a mark is on
-- characters below 80 hex, and a character from 80 hex on leaves a mode as it is.
--     label, encode_cells          each character's bytes, with its class
--     classify_encode             classify on bytes
--     carry_encode                what is open after a line's bytes
--     chars_classify, chars_encode_cells, chars_bytes
--     fold_encode                 a pass over cells, made over the cells of their bytes
--     code_part_law, comment_part_law, all_code_or_str_law     of encode_cells
use Prim.Native.Nat.{ℕ, zero, suc, ◌≤◌, ◌<◌}
use native.Mathlib.Omega.{arith}
use mathlib.Core.Bool.{Bool, true, false, ◌&&◌, and_self_left}
use mathlib.Core.List.{List, [], ◌∷◌, ◌++◌, foldl, foldl-append}
use mathlib.Core.Path.{◌≡◌, refl, sym, ap, subst, ◌∙◌}
use lib.Dec.{eqb, ltb}
use lib.ListN.{length}
use Rattle.utf8.specs.Unicode.{encode_char, encode}
use Rattle.utf8.proofs.Tests.{and_left, and_right}
use Rattle.utf8.proofs.Table.{High, none, also, Bytes, single, several, bytes}
use Rattle.utf8.proofs.Decode.{encode_cons}
use Rattle.rules.specs.declared.Class.{Class}
use Rattle.rules.specs.declared.Carry.{Carry}
use Rattle.rules.specs.declared.Mode.{Mode}
use Rattle.rules.specs.declared.Mark.{Mark}
use Rattle.rules.specs.Basics.{choose, starts_with}
use Rattle.rules.specs.Scan.{long, one, in_code, in_quoted, in_interp, in_inner, in_block, in_prefab, mark_at, ordinary, next_of, next, Cell, cell, chars_of, scan, final, begin, open_after, classify, carry_after, is_line_comment, is_code_or_str, before, from, in_comment, code_part, comment_part, all_code_or_str}
use Rattle.rules.proofs.Choose.{choose_case}
use Rattle.rules.proofs.StartsBytes.{all_ascii, Steady, not_ascii, starts_encode}

-- bytes, all of one class
unfoldable pub label : Class → List ℕ → List Cell
label k [] = []
label k (b ∷ bs) = cell b k ∷ label k bs

unfoldable pub encode_cells : List Cell → List Cell
encode_cells [] = []
encode_cells (x ∷ xs) = label x.class (encode_char x.ch) ++ encode_cells xs

-- ---- marks

-- a mark that has no character left, with the class of an ordinary character in its mode
abbrev pub rest : Mode → Mark
rest m = one (ordinary m) m

pub mark_high : (m : Mode) (b : ℕ) (s : List ℕ) → 0x80 ≤ b → mark_at m (b ∷ s) ≡ rest m
unfolding starts_with choose in_code in_quoted in_interp in_inner in_block in_prefab
mark_high Mode.Code b s h = simp (not_ascii b)
mark_high (Mode.Quoted true) b s h = simp (not_ascii b)
mark_high (Mode.Quoted false) b s h = simp (not_ascii b)
mark_high (Mode.Interp q d) b s h = simp (not_ascii b)
mark_high (Mode.Inner q d true) b s h = simp (not_ascii b)
mark_high (Mode.Inner q d false) b s h = simp (not_ascii b)
mark_high Mode.Line b s h = refl
mark_high (Mode.Block d) b s h = simp (not_ascii b)
mark_high Mode.Prefab b s h = simp (not_ascii b)

mark_encode : (m : Mode) (s : List ℕ) → mark_at m (encode s) ≡ mark_at m s
unfolding in_code in_quoted in_interp in_inner in_block in_prefab
mark_encode Mode.Code s = simp starts_encode
mark_encode (Mode.Quoted true) s = simp starts_encode
mark_encode (Mode.Quoted false) s = simp starts_encode
mark_encode (Mode.Interp q d) s = simp starts_encode
mark_encode (Mode.Inner q d true) s = simp starts_encode
mark_encode (Mode.Inner q d false) s = simp starts_encode
mark_encode Mode.Line s = refl
mark_encode (Mode.Block d) s = simp starts_encode
mark_encode Mode.Prefab s = simp starts_encode

-- What is left of a mark, n characters of class k with the mode m after it, stands before s: a character from 80 hex on
-- is its last one, and has m's own class
pub Ready : ℕ → Class → Mode → List ℕ → Type 0
Ready zero k m s = Unit {0}
Ready (suc n) k m [] = Unit {0}
Ready (suc n) k m (c ∷ s) = (0x80 ≤ c → (n ≡ 0) × (k ≡ ordinary m)) × Ready n k m s

pub record Fit (s : List ℕ) (t : Mark) : Type 0 where
  pub fit : Ready t.more t.class t.mode s

pub fit_one : (s : List ℕ) (k : Class) (m : Mode) → Fit s (one k m)
unfolding Ready
fit_one s k m = record { fit = tt }

ready_pair : (s : List ℕ) (k : Class) (m : Mode) → k ≡ ordinary m → Ready 1 k m s
unfolding Ready
ready_pair [] k m e = tt
ready_pair (c ∷ s) k m e = (λ h. (refl, e), tt)

fit_pair : (s : List ℕ) (k : Class) (m : Mode) → k ≡ ordinary m → Fit s (long 1 k m)
fit_pair s k m e = record { fit = ready_pair s k m e }

ready_starts : (p s : List ℕ) (k : Class) (m : Mode) → all_ascii p ≡ true → starts_with s p ≡ true → Ready (length p) k m s
unfolding Ready starts_with
ready_starts [] s k m l e = tt
ready_starts (p ∷ ps) [] k m l e = tt
ready_starts (p ∷ ps) (c ∷ s) k m l e = (
  λ h. absurd (never (not_ascii c p h (and_left (ltb p 0x80) (all_ascii ps) l)) (and_left (eqb c p) (starts_with s ps) e)),
  ready_starts ps s k m (and_right (ltb p 0x80) (all_ascii ps) l) (and_right (eqb c p) (starts_with s ps) e),
)
  where
    never : {b : Bool} → b ≡ false → b ≡ true → ⊥
    never p q = let z : ◌≡◌ {A = ℕ} 0 1 = cc in omega arith

fit_starts : (c a n : ℕ) (p s : List ℕ) (k : Class) (m : Mode) → starts_with (c ∷ s) (a ∷ p) ≡ true → all_ascii p ≡ true → n ≡ length p → Fit s (long n k m)
unfolding starts_with
fit_starts c a n p s k m e l w =
    subst (λ (x : ℕ). Fit s (long x k m)) (sym w) (record { fit = ready_starts p s k m l (and_right (eqb c a) (starts_with s p) e) })

fork : (s : List ℕ) (b : Bool) (x y : Mark) → (b ≡ true → Fit s x) → Fit s y → Fit s (choose b x y)
fork s b x y p q = choose_case (Fit s) p (λ e. q)

ruleset fits = (fork, fit_one, fit_pair, fit_starts)

mark_fit : (m : Mode) (c : ℕ) (s : List ℕ) → Fit s (mark_at m (c ∷ s))
unfolding in_code in_quoted in_interp in_inner in_block in_prefab
mark_fit Mode.Code c s = search fits depth 10
mark_fit (Mode.Quoted q) c s = search fits depth 10
mark_fit (Mode.Interp q d) c s = search fits depth 10
mark_fit (Mode.Inner q d k) c s = search fits depth 10
mark_fit Mode.Line c s = search fits depth 10
mark_fit (Mode.Block d) c s = search fits depth 10
mark_fit Mode.Prefab c s = search fits depth 10

pub next_fit : (n : ℕ) (k : Class) (m : Mode) (c : ℕ) (s : List ℕ) → Ready n k m (c ∷ s) → Fit s (next_of n k m (c ∷ s))
unfolding Ready
next_fit zero k m c s r = mark_fit m c s
next_fit (suc n) k m c s r = record { fit = r.1 }

-- a character below 80 hex is its own byte
pub next_single : (n : ℕ) (k : Class) (m : Mode) (c : ℕ) (s : List ℕ) → encode (c ∷ s) ≡ c ∷ encode s → next_of n k m (c ∷ encode s) ≡ next_of n k m (c ∷ s)
next_single zero k m c s e = rw (← e) (mark_encode m (c ∷ s))
next_single (suc n) k m c s e = refl

-- a character, and a byte, from 80 hex on leaves a mark with no character left
pub next_high : (n : ℕ) (k : Class) (m : Mode) (c b : ℕ) (s s' : List ℕ) → Ready n k m (c ∷ s) → 0x80 ≤ c → 0x80 ≤ b → (next_of n k m (c ∷ s) ≡ rest m) × (next_of n k m (b ∷ s') ≡ rest m)
unfolding Ready
next_high zero k m c b s s' r hc hb = (mark_high m c s hc, mark_high m b s' hb)
next_high (suc n) k m c b s s' r hc hb = let (z, e) = r.0 hc in (rw (z, e), rw (z, e))

-- ---- the clauses, one at a time

scan_cons : (t : Mark) (c : ℕ) (s : List ℕ) → scan t (c ∷ s) ≡ cell c (next t (c ∷ s)).class ∷ scan (next t (c ∷ s)) s
unfolding scan
scan_cons t c s = refl

final_cons : (t : Mark) (c : ℕ) (s : List ℕ) → final t (c ∷ s) ≡ final (next t (c ∷ s)) s
unfolding final
final_cons t c s = refl

pub encode_cells_cons : (x : Cell) (xs : List Cell) → encode_cells (x ∷ xs) ≡ label x.class (encode_char x.ch) ++ encode_cells xs
unfolding encode_cells
encode_cells_cons x xs = refl

-- ---- the line

rest_scan : (m : Mode) (bs s : List ℕ) → High bs → scan (rest m) (bs ++ s) ≡ label (ordinary m) bs ++ scan (rest m) s
unfolding label
rest_scan m bs s none = refl
rest_scan m bs s (also {b = b} {bs = bs'} h hs) = rw (scan_cons (rest m) b (bs' ++ s), mark_high m b (bs' ++ s) h, rest_scan m bs' s hs)

rest_final : (m : Mode) (bs s : List ℕ) → High bs → final (rest m) (bs ++ s) ≡ final (rest m) s
rest_final m bs s none = refl
rest_final m bs s (also {b = b} {bs = bs'} h hs) = rw (final_cons (rest m) b (bs' ++ s), mark_high m b (bs' ++ s) h, rest_final m bs' s hs)

record Same (t : Mark) (s : List ℕ) : Type 0 where
  each : scan t (encode s) ≡ encode_cells (scan t s)
  last : final t (encode s) ≡ final t s

same_none : (t : Mark) → Same t []
unfolding scan final encode encode_cells
same_none t = record { each = refl; last = refl }

same_single : (t : Mark) (c : ℕ) (s : List ℕ) → encode_char c ≡ c ∷ [] → Same (next t (c ∷ s)) s → Same t (c ∷ s)
unfolding label
same_single t c s e i =
    let E : encode (c ∷ s) ≡ c ∷ encode s = rw (encode_cons, e) in
    let N : next t (c ∷ encode s) ≡ next t (c ∷ s) = next_single t.more t.class t.mode c s E in
    record {
      each = rw (E, scan_cons t c (encode s), scan_cons t c s, encode_cells_cons, e, N, i.each);
      last = rw (E, final_cons t c (encode s), final_cons t c s, N) i.last;
    }

same_several : (t : Mark) (c b : ℕ) (bs s : List ℕ) → encode_char c ≡ b ∷ bs → Ready t.more t.class t.mode (c ∷ s) → 0x80 ≤ c → 0x80 ≤ b → High bs → Same (next t (c ∷ s)) s → Same t (c ∷ s)
unfolding label
same_several t c b bs s e r hc hb hs i =
    let E : encode (c ∷ s) ≡ b ∷ (bs ++ encode s) = rw (encode_cons, e) in
    let m : Mode = t.mode in
    let N = next_high t.more t.class m c b s (bs ++ encode s) r hc hb in
    let i' : Same (rest m) s = rw N.0 at i in
    record {
      each = rw (E, scan_cons t b (bs ++ encode s), scan_cons t c s, encode_cells_cons, e, N.0, N.1, rest_scan m bs (encode s) hs, i'.each) (ap (λ (x : Mark). cell b (ordinary m) ∷ (label x.class bs ++ encode_cells (scan (rest m) s))) (sym N.0));
      last = rw (E, final_cons t b (bs ++ encode s), final_cons t c s, N.0, N.1, rest_final m bs (encode s) hs) i'.last;
    }

same : (s : List ℕ) (t : Mark) → Ready t.more t.class t.mode s → Same t s
same [] t r = same_none t
same (c ∷ s) t r = go (encode_char c) refl (bytes c) (same s (next t (c ∷ s)) (next_fit t.more t.class t.mode c s r).fit)
  where
    go : (bs : List ℕ) → encode_char c ≡ bs → Bytes c bs → Same (next t (c ∷ s)) s → Same t (c ∷ s)
    go bs e (single h) i = same_single t c s e i
    go bs e (several {b = b} {bs = bs'} hc hb hs) i = same_several t c b bs' s e r hc hb hs i

pub classify_encode : (y : Carry) (l : List ℕ) → classify y (encode l) ≡ encode_cells (classify y l)
unfolding Ready classify
classify_encode y l = (same l (begin y) tt).each

pub carry_encode : (y : Carry) (l : List ℕ) → carry_after y (encode l) ≡ carry_after y l
unfolding Ready carry_after
carry_encode y l = ap (λ (t : Mark). open_after t.mode) (same l (begin y) tt).last

-- ---- the characters of cells

pub chars_append : (xs ys : List Cell) → chars_of (xs ++ ys) ≡ chars_of xs ++ chars_of ys
unfolding chars_of
chars_append [] ys = refl
chars_append (x ∷ xs) ys = rw (chars_append xs ys)

pub chars_label : (k : Class) (bs : List ℕ) → chars_of (label k bs) ≡ bs
unfolding chars_of label
chars_label k [] = refl
chars_label k (b ∷ bs) = rw (chars_label k bs)

chars_scan : (t : Mark) (l : List ℕ) → chars_of (scan t l) ≡ l
unfolding chars_of scan
chars_scan t [] = refl
chars_scan t (c ∷ s) = rw (chars_scan (next t (c ∷ s)) s)

pub chars_classify : (y : Carry) (l : List ℕ) → chars_of (classify y l) ≡ l
unfolding classify
chars_classify y l = chars_scan (begin y) l

pub chars_encode_cells : (xs : List Cell) → chars_of (encode_cells xs) ≡ encode (chars_of xs)
unfolding chars_of encode_cells encode
chars_encode_cells [] = refl
chars_encode_cells (x ∷ xs) = rw (chars_append (label x.class (encode_char x.ch)) (encode_cells xs), chars_label, chars_encode_cells xs)

-- ---- a pass over cells

-- A pass f over cells and a pass g over the cells of their bytes keep a relation R of their states, if they keep it at
-- a character below 80 hex, which is its own byte, and at any other, all of whose bytes are 80 hex or more.
module _
    {ℓ κ μ} {S : Type ℓ} {U : Type κ} (f : S → Cell → S) (g : U → Cell → U) (R : S → U → Type μ)
    (low : (t : S) (u : U) (c : ℕ) (k : Class) → c < 0x80 → R t u → R (f t (cell c k)) (g u (cell c k)))
    (high : (t : S) (u : U) (c b : ℕ) (bs : List ℕ) (k : Class) → encode_char c ≡ b ∷ bs → 0x80 ≤ c → 0x80 ≤ b → High bs → R t u
    → R (f t (cell c k)) (foldl g (g u (cell b k)) (label k bs)))
  where
    one_char : (c : ℕ) (k : Class) (t : S) (u : U) → R t u → R (f t (cell c k)) (foldl g u (label k (encode_char c)))
    unfolding label
    one_char c k t u r = go (encode_char c) refl (bytes c)
      where
        go : (bs : List ℕ) → encode_char c ≡ bs → Bytes c bs → R (f t (cell c k)) (foldl g u (label k bs))
        go bs e (single h) = low t u c k h r
        go bs e (several {b = b} {bs = bs'} hc hb hs) = high t u c b bs' k e hc hb hs r

    pub fold_encode : (xs : List Cell) (t : S) (u : U) → R t u → R (foldl f t xs) (foldl g u (encode_cells xs))
    unfolding encode_cells
    fold_encode [] t u r = r
    fold_encode (x ∷ xs) t u r =
        rw (foldl-append g u (label x.class (encode_char x.ch)) (encode_cells xs))
        (fold_encode xs (f t x) _ (one_char x.ch x.class t u r))

-- ---- before the first cell that passes a test, and from it on: code_part and comment_part, and an import's parts, are
-- this for a test each

-- the test gives one answer for all characters of a class from 80 hex on
abbrev pub SteadyCell : (Cell → Bool) → (Class → Bool) → Type 0
SteadyCell p v = (k : Class) → Steady (λ c. p (cell c k)) (v k)

before_high : (p : Cell → Bool) (k : Class) → Steady (λ c. p (cell c k)) false → (bs : List ℕ) (ys : List Cell) → High bs → before p (label k bs ++ ys) ≡ label k bs ++ before p ys
unfolding before label choose
before_high p k f bs ys none = refl
before_high p k f bs ys (also {b = b} {bs = bs'} h hs) = rw (f b h, before_high p k f bs' ys hs)

from_high : (p : Cell → Bool) (k : Class) → Steady (λ c. p (cell c k)) false → (bs : List ℕ) (ys : List Cell) → High bs → from p (label k bs ++ ys) ≡ from p ys
unfolding from label choose
from_high p k f bs ys none = refl
from_high p k f bs ys (also {b = b} {bs = bs'} h hs) = rw (f b h) (from_high p k f bs' ys hs)

module _ (p : Cell → Bool) (v : Class → Bool) (f : SteadyCell p v) where
  pub before_encode : (xs : List Cell) → before p (encode_cells xs) ≡ encode_cells (before p xs)
  unfolding before encode_cells label choose
  before_encode [] = refl
  before_encode (x ∷ xs) = go (encode_char x.ch) refl (bytes x.ch) (p x) refl (before_encode xs)
    where
      go : (bs : List ℕ) → encode_char x.ch ≡ bs → Bytes x.ch bs → (t : Bool) → p x ≡ t → before p (encode_cells xs) ≡ encode_cells (before p xs)
          → before p (label x.class bs ++ encode_cells xs) ≡ encode_cells (choose t [] (x ∷ before p xs))
      go bs e (single h) true q i = rw q
      go bs e (single h) false q i = rw (q, i, e)
      go bs e (several {b = b} {bs = bs'} hc hb hs) true q i = rw (f x.class b hb ∙ sym (f x.class x.ch hc) ∙ q)
      go bs e (several {b = b} {bs = bs'} hc hb hs) false q i =
          before_high p x.class (λ c h. f x.class c h ∙ sym (f x.class x.ch hc) ∙ q) (b ∷ bs') (encode_cells xs) (also hb hs) ∙ rw (i, e)

  pub from_encode : (xs : List Cell) → from p (encode_cells xs) ≡ encode_cells (from p xs)
  unfolding from encode_cells label choose
  from_encode [] = refl
  from_encode (x ∷ xs) = go (encode_char x.ch) refl (bytes x.ch) (p x) refl (from_encode xs)
    where
      go : (bs : List ℕ) → encode_char x.ch ≡ bs → Bytes x.ch bs → (t : Bool) → p x ≡ t → from p (encode_cells xs) ≡ encode_cells (from p xs)
          → from p (label x.class bs ++ encode_cells xs) ≡ encode_cells (choose t (x ∷ xs) (from p xs))
      go bs e (single h) true q i = rw (q, e)
      go bs e (single h) false q i = rw (q, i)
      go bs e (several {b = b} {bs = bs'} hc hb hs) true q i = rw (f x.class b hb ∙ sym (f x.class x.ch hc) ∙ q, e)
      go bs e (several {b = b} {bs = bs'} hc hb hs) false q i =
          from_high p x.class (λ c h. f x.class c h ∙ sym (f x.class x.ch hc) ∙ q) (b ∷ bs') (encode_cells xs) (also hb hs) ∙ i

-- ---- the code part, the comment, and whether all is code or string

pub code_part_encode : (xs : List Cell) → code_part (encode_cells xs) ≡ encode_cells (code_part xs)
code_part_encode xs = before_encode in_comment is_line_comment (λ k b h. refl) xs

pub comment_part_encode : (xs : List Cell) → comment_part (encode_cells xs) ≡ encode_cells (comment_part xs)
comment_part_encode xs = from_encode in_comment is_line_comment (λ k b h. refl) xs

all_label : (k : Class) (b : ℕ) (bs : List ℕ) (ys : List Cell) → all_code_or_str (label k (b ∷ bs) ++ ys) ≡ (is_code_or_str k && all_code_or_str ys)
unfolding all_code_or_str label
all_label k b [] ys = refl
all_label k b (c ∷ bs) ys = rw (all_label k c bs ys, and_self_left (is_code_or_str k) (all_code_or_str ys))

pub all_encode : (xs : List Cell) → all_code_or_str (encode_cells xs) ≡ all_code_or_str xs
unfolding all_code_or_str encode_cells
all_encode [] = refl
all_encode (x ∷ xs) = go (encode_char x.ch) (bytes x.ch) (all_encode xs)
  where
    go : (bs : List ℕ) → Bytes x.ch bs → all_code_or_str (encode_cells xs) ≡ all_code_or_str xs → all_code_or_str (label x.class bs ++ encode_cells xs) ≡ (is_code_or_str x.class && all_code_or_str xs)
    go bs (single h) i = all_label x.class x.ch [] (encode_cells xs) ∙ rw i
    go bs (several {b = b} {bs = bs'} hc hb hs) i = all_label x.class b bs' (encode_cells xs) ∙ rw i

-- White space and commas: characters that no mark is told by, so that they part what stands before them from what
-- follows.
--     Sep               such a character
--     mark_sep          a mark at one: its mode goes on
--     next_before, next_ahead     a mark before one, and before white space at a line's end
--     not_open          nothing opens at one
use Prim.Native.Nat.{ℕ, zero, suc}
use native.Mathlib.Omega.{arith}
use mathlib.Core.Bool.{Bool, true, false, not, ◌&&◌}
use mathlib.Core.List.{List, [], ◌∷◌, ◌++◌, append-nil}
use mathlib.Core.Path.{◌≡◌, refl, sym, ap, ◌∙◌}
use lib.Dec.{eqb, leb}
use borrow.Author.Tests.{eqb-true, ne_eqb, leb-true}
use Rattle.utf8.specs.Unicode.{is_white}
use Rattle.utf8.proofs.Tests.{by_test, and_left, and_right}
use Rattle.utf8.proofs.Trim.{White}
use Rattle.rules.specs.Basics.{choose, starts_with}
use Rattle.rules.specs.Scan.{long, in_code, in_quoted, in_interp, in_inner, in_block, in_prefab, mark_at, next_of, next, begin}
use Rattle.rules.specs.Prefabs.{opens}
use Rattle.rules.specs.declared.Class.{Class}
use Rattle.rules.specs.declared.Carry.{Carry}
use Rattle.rules.specs.declared.Mode.{Mode}
use Rattle.rules.specs.declared.Mark.{Mark}
use Rattle.rules.proofs.Prefix.{visible}
use Rattle.rules.proofs.ScanBytes.{rest}
use Rattle.rules.proofs.Prefix.{never}

-- characters that marks are told by: visible, and no comma
abbrev marking : ℕ → Bool
marking k = leb 33 k && leb k 126 && not (eqb k 44)

abbrev all_marking : List ℕ → Bool
all_marking [] = true
all_marking (c ∷ cs) = marking c && all_marking cs

pub record Sep (w : ℕ) : Type 0 where
  pub apart : (k : ℕ) → marking k ≡ true → eqb w k ≡ false

pub sep_white : (w : ℕ) → is_white w ≡ true → Sep w
sep_white w h =
    record {
      apart = λ k m. by_test (eqb w k)
          (λ e. let v : leb 33 k && leb k 126 ≡ true = and_left (leb 33 k && leb k 126) (not (eqb k 44)) m in
          let low = leb-true 33 k (and_left (leb 33 k) (leb k 126) v) in
          let high = leb-true k 126 (and_right (leb 33 k) (leb k 126) v) in
          never h (ap is_white (eqb-true w k e) ∙ visible k low high))
          (λ e. e);
    }

pub sep_comma : (w : ℕ) → w ≡ 44 → Sep w
sep_comma w h =
    record {
      apart = λ k m. by_test (eqb w k)
          (λ e. let z : k ≡ 44 = sym (eqb-true w k e) ∙ h in
          never (and_right (leb 33 k && leb k 126) (not (eqb k 44)) m) (rw z))
          (λ e. e);
    }

module _ (w : ℕ) (sep : Sep w) where
  starts_sep : (s r p : List ℕ) → all_marking p ≡ true → starts_with (s ++ (w ∷ r)) p ≡ starts_with s p
  unfolding starts_with
  starts_sep [] r [] v = refl
  starts_sep [] r (k ∷ p) v = rw (sep.apart k (and_left (marking k) (all_marking p) v))
  starts_sep (c ∷ s) r [] v = refl
  starts_sep (c ∷ s) r (k ∷ p) v =
      ap (λ (b : Bool). eqb c k && b) (starts_sep s r p (and_right (marking k) (all_marking p) v))

  -- a mark at a separator
  pub mark_sep : (m : Mode) (s : List ℕ) → mark_at m (w ∷ s) ≡ rest m
  unfolding starts_with choose in_code in_quoted in_interp in_inner in_block in_prefab
  mark_sep Mode.Code s = simp sep.apart
  mark_sep (Mode.Quoted true) s = simp sep.apart
  mark_sep (Mode.Quoted false) s = simp sep.apart
  mark_sep (Mode.Interp q d) s = simp sep.apart
  mark_sep (Mode.Inner q d true) s = simp sep.apart
  mark_sep (Mode.Inner q d false) s = simp sep.apart
  mark_sep Mode.Line s = refl
  mark_sep (Mode.Block d) s = simp sep.apart
  mark_sep Mode.Prefab s = simp sep.apart

  -- a mark before a separator
  mark_before : (m : Mode) (s r : List ℕ) → mark_at m (s ++ (w ∷ r)) ≡ mark_at m s
  unfolding in_code in_quoted in_interp in_inner in_block in_prefab
  mark_before Mode.Code s r = simp (starts_sep s r)
  mark_before (Mode.Quoted true) s r = simp (starts_sep s r)
  mark_before (Mode.Quoted false) s r = simp (starts_sep s r)
  mark_before (Mode.Interp q d) s r = simp (starts_sep s r)
  mark_before (Mode.Inner q d true) s r = simp (starts_sep s r)
  mark_before (Mode.Inner q d false) s r = simp (starts_sep s r)
  mark_before Mode.Line s r = refl
  mark_before (Mode.Block d) s r = simp (starts_sep s r)
  mark_before Mode.Prefab s r = simp (starts_sep s r)

  next_before_of : (n : ℕ) (k : Class) (m : Mode) (s r : List ℕ) → next_of n k m (s ++ (w ∷ r)) ≡ next_of n k m s
  next_before_of zero k m s r = mark_before m s r
  next_before_of (suc n) k m s r = refl

  pub next_before : (t : Mark) (s r : List ℕ) → next t (s ++ (w ∷ r)) ≡ next t s
  next_before t s r = next_before_of t.more t.class t.mode s r

  -- in code, with nothing left of a mark, a separator leaves code
  pub next_code : (t : Mark) (r : List ℕ) → t.more ≡ 0 → t.mode ≡ Mode.Code → next t (w ∷ r) ≡ begin Carry.Code
  next_code t r n m = rw (n, m) (mark_sep Mode.Code r)

  -- the mode goes on
  sep_mode_of : (n : ℕ) (k : Class) (m : Mode) (s : List ℕ) → (next_of n k m (w ∷ s)).mode ≡ m
  sep_mode_of zero k m s = ap (λ (u : Mark). u.mode) (mark_sep m s)
  sep_mode_of (suc n) k m s = refl

  pub sep_mode : (t : Mark) (s : List ℕ) → (next t (w ∷ s)).mode ≡ t.mode
  sep_mode t s = sep_mode_of t.more t.class t.mode s

  -- nothing opens
  module _ (p : Class → Bool) (off : p Class.Code ≡ false) where
    not_open_of : (n : ℕ) (k : Class) (m : Mode) (s : List ℕ) → opens p (long n k m) (next_of n k m (w ∷ s)) ≡ false
    unfolding opens
    not_open_of zero k Mode.Code s = ap (λ (u : Mark). p u.class) (mark_sep Mode.Code s) ∙ off
    not_open_of zero k (Mode.Quoted q) s = refl
    not_open_of zero k (Mode.Interp q d) s = refl
    not_open_of zero k (Mode.Inner q d j) s = refl
    not_open_of zero k Mode.Line s = refl
    not_open_of zero k (Mode.Block d) s = refl
    not_open_of zero k Mode.Prefab s = refl
    not_open_of (suc n) k m s = rw (ne_eqb (suc n) 0 (omega arith))

    pub not_open : (t : Mark) (s : List ℕ) → opens p t (next t (w ∷ s)) ≡ false
    not_open t s = not_open_of t.more t.class t.mode s

-- with white space behind a text
pub next_ahead : (t : Mark) (s w : List ℕ) → White w → next t (s ++ w) ≡ next t s
next_ahead t s [] h = ap (next t) (append-nil s)
next_ahead t s (c ∷ w) h = next_before c (sep_white c h.0) t s w

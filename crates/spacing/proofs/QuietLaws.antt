-- Bytes that are not busy, or not odd: spacing leaves them as they are.
use Prim.Native.Nat.{ℕ, zero, suc, ◌+◌, ◌-◌, ◌≤◌, ◌<◌}
use mathlib.Core.Bool.{Bool, true, false, not, ◌&&◌, ◌||◌, and-false, true≢false}
use mathlib.Core.List.{List}
use mathlib.Core.Path.{◌≡◌, refl, sym, ◌∙◌}
use native.Mathlib.Omega.{arith}
use borrow.Author.Tests.{eqb-true, eqb-false, not-false}
use lib.Dec.{eqb}
use lib.ListN.{length, get_or}
use Rattle.blocks.specs.Blocks.{FirstFrom}
use Rattle.utf8.proofs.Tests.{by_test, neither_left, neither_right}
use Rattle.rules.specs.Basics.{is_blank, is_closer}
use Rattle.rules.specs.Scan.{is_code}
use Rattle.rules.specs.ClassBytes.{class_of}
use Rattle.spacing.specs.Respaced.{InCode, Kept, NoBlank, Keeping, Evened, busy_at, odd_at}
use Rattle.spacing.proofs.KeptLaws.{kept_other, kept_char, space_then, space_end, pair_end, comma_gap, blank_last, keeping_start, keeping_more}

module _ (line ks : List ℕ) (long : length line ≤ length ks) (i : ℕ) (h : i + 1 < length line) (q : busy_at line i ≡ false) (w : Keeping line ks i) where
  pair : (eqb (get_or line i 0) 32 && eqb (get_or line (i + 1) 0) 32) ≡ false
  pair = neither_right (eqb (get_or line i 0) 44 || eqb (get_or line i 0) 92) _ q

  neither : (eqb (get_or line i 0) 44 || eqb (get_or line i 0) 92) ≡ false
  neither = neither_left _ (eqb (get_or line i 0) 32 && eqb (get_or line (i + 1) 0) 32) q

  quiet_space : eqb (get_or ks i 0) 0 ≡ true → eqb (get_or line i 0) 32 ≡ true → Keeping line ks (i + 1)
  quiet_space k s =
      let v : InCode line ks i 32 = record { within = omega arith; classes = long; char = eqb-true _ _ s; code = eqb-true _ _ k } in
      keeping_more line ks i 1 w (space_then line ks i v h (eqb-false _ _ (rw s at pair)))

  quiet_one : Keeping line ks (i + 1)
  quiet_one =
      by_test (eqb (get_or ks i 0) 0)
      (λ k. by_test (eqb (get_or line i 0) 32) (quiet_space k)
      (λ s. keeping_more line ks i 1 w (kept_char line ks i (omega arith, long) (eqb-false _ _ s)
      (eqb-false _ _ (neither_left _ (eqb (get_or line i 0) 92) neither)) (eqb-false _ _ (neither_right (eqb (get_or line i 0) 44) _ neither)))))
      (λ k. keeping_more line ks i 1 w (kept_other line ks i (omega arith, long) (eqb-false _ _ k)))

-- from one place to the next, up to the first at which the test p holds
module _ (keeps : ℕ → Type 0) (p : ℕ → Bool) (last : ℕ) (one : (i : ℕ) → i < last → p i ≡ false → keeps i → keeps (i + 1)) where
  run_more : (n i : ℕ) → i + n ≤ last → ((j : ℕ) → i ≤ j → j < i + n → p j ≡ false) → keeps i → keeps (i + n)
  run_more zero i h q w = let e : i + 0 ≡ i = omega arith in rw e w
  run_more (suc n) i h q w =
      let e : i + 1 + n ≡ i + suc n = omega arith in
      rw e at (run_more n (i + 1) (omega arith) (λ j a b. q j (omega arith) (omega arith)) (one i (omega arith) (q i (omega arith) (omega arith)) w))

  run_to : (i e : ℕ) → FirstFrom p i last e → keeps i → keeps e
  run_to i e f w =
      let j : i + (e - i) ≡ e = omega (arith, f.from) in
      rw j at (run_more (e - i) i (omega (arith, f.from, f.within)) (λ k a b. f.none k a (omega arith)) w)

-- up to the first busy byte, or the last
pub quiet_run : (line ks : List ℕ) → length line ≤ length ks → (i e : ℕ) → 0 < length line → FirstFrom (busy_at line) i (length line - 1) e → Keeping line ks i → Keeping line ks e
quiet_run line ks long i e l f w = run_to (Keeping line ks) (busy_at line) (length line - 1) (λ j h q v. quiet_one line ks long j (omega arith) q v) i e f w

-- ---- bytes that are not odd

-- a comma before a space of code, and then something that is no blank and no closer
comma_one : (line ks : List ℕ) (i : ℕ) → InCode line ks i 44 → NoBlank line i false → InCode line ks (i + 1) 32 → i + 2 < length line → is_blank (get_or line (i + 2) 0) ≡ false
    → is_closer (get_or line (i + 2) 0) ≡ false → Kept line ks i 1
comma_one line ks i w b v h p q =
    let m : i + 1 + 1 ≡ i + 2 = omega arith in
    let x = comma_gap line ks i w b _ _ v h refl (rw p (and-false (is_code (class_of (get_or ks (i + 2) 0))))) refl q in
    let n : get_or line (i + 1 + 1) 0 ≡ 32 → ⊥ = rw m (eqb-false _ _ (neither_left (eqb (get_or line (i + 2) 0) 32) (eqb (get_or line (i + 2) 0) 9) p)) in
    let y = space_then line ks (i + 1) v (omega arith) n in
    record { some = omega arith; fits = omega arith; kept = x.kept ∙ sym (rw m at y.kept) }

both : (x y : Bool) → (x && y) ≡ false → x ≡ true → y ≡ false
both true y e q = e
both false y e q = absurd (true≢false (sym q))

module _ (line ks : List ℕ) (long : length line ≤ length ks) (j : ℕ) (h : j + 3 < length line) (q : odd_at line ks j ≡ false) (w : Keeping line ks (j + 1)) where
  next : j + 1 + 1 ≡ j + 2
  next = omega arith

  after : j + 1 + 2 ≡ j + 3
  after = omega arith

  in_code : (c : ℕ) → eqb (get_or ks (j + 1) 0) 0 ≡ true → eqb (get_or line (j + 1) 0) c ≡ true → InCode line ks (j + 1) c
  in_code c k e = record { within = omega arith; classes = long; char = eqb-true _ _ e; code = eqb-true _ _ k }

  space_after : eqb (get_or ks (j + 2) 0) 0 ≡ true → eqb (get_or line (j + 2) 0) 32 ≡ true → InCode line ks (j + 1 + 1) 32
  space_after k e = record { within = omega arith; classes = long; char = rw next (eqb-true _ _ e); code = rw next (eqb-true _ _ k) }

  none_before : is_blank (get_or line j 0) ≡ false → NoBlank line (j + 1) false
  none_before e = let o : j + 1 - 1 ≡ j = omega arith in blank_last line (j + 1) false (omega arith) (λ z. absurd (omega arith)) (rw o (sym e))

  within : j + 1 + 2 < length line
  within = omega arith

  module _ (k : eqb (get_or ks (j + 1) 0) 0 ≡ true) where
    plain : (eqb (get_or line (j + 1) 0) 92 || (eqb (get_or line (j + 1) 0) 32 && eqb (get_or line (j + 2) 0) 32)) ≡ false
    plain = neither_left _ _ (both (eqb (get_or ks (j + 1) 0) 0) _ q k)

    even_space : eqb (get_or line (j + 1) 0) 32 ≡ true → Keeping line ks (j + 1 + 1)
    even_space s =
        let n : eqb (get_or line (j + 1 + 1) 0) 32 ≡ false = rw next (both _ _ (neither_right (eqb (get_or line (j + 1) 0) 92) _ plain) s) in
        keeping_more line ks (j + 1) 1 w (space_then line ks (j + 1) (in_code 32 k s) (omega arith) (eqb-false _ _ n))

    even_comma : eqb (get_or line (j + 1) 0) 44 ≡ true → Keeping line ks (j + 1 + 1)
    even_comma c =
        let blank : Bool = is_blank (get_or line j 0) in
        let apart : Bool = not (eqb (get_or line (j + 2) 0) 32) || not (eqb (get_or ks (j + 2) 0) 0) in
        let shut : Bool = is_blank (get_or line (j + 3) 0) || is_closer (get_or line (j + 3) 0) in
        let all : (eqb (get_or line (j + 1) 0) 44 && ((blank || apart) || shut)) ≡ false = neither_right _ _ (both (eqb (get_or ks (j + 1) 0) 0) _ q k) in
        let gap : ((blank || apart) || shut) ≡ false = both (eqb (get_or line (j + 1) 0) 44) _ all c in
        let front : (blank || apart) ≡ false = neither_left (blank || apart) shut gap in
        let behind : shut ≡ false = neither_right (blank || apart) shut gap in
        let beside : apart ≡ false = neither_right blank apart front in
        let y : eqb (get_or line (j + 2) 0) 32 ≡ true = not-false _ (neither_left (not (eqb (get_or line (j + 2) 0) 32)) (not (eqb (get_or ks (j + 2) 0) 0)) beside) in
        let l : eqb (get_or ks (j + 2) 0) 0 ≡ true = not-false _ (neither_right (not (eqb (get_or line (j + 2) 0) 32)) (not (eqb (get_or ks (j + 2) 0) 0)) beside) in
        let d : is_blank (get_or line (j + 1 + 2) 0) ≡ false = rw after (neither_left (is_blank (get_or line (j + 3) 0)) (is_closer (get_or line (j + 3) 0)) behind) in
        let e : is_closer (get_or line (j + 1 + 2) 0) ≡ false = rw after (neither_right (is_blank (get_or line (j + 3) 0)) (is_closer (get_or line (j + 3) 0)) behind) in
        keeping_more line ks (j + 1) 1 w (comma_one line ks (j + 1) (in_code 44 k c) (none_before (neither_left blank apart front)) (space_after l y) within d e)

    even_code : Keeping line ks (j + 1 + 1)
    even_code =
        by_test (eqb (get_or line (j + 1) 0) 32) even_space
        (λ s. by_test (eqb (get_or line (j + 1) 0) 44) even_comma
        (λ c. keeping_more line ks (j + 1) 1 w (kept_char line ks (j + 1) (omega arith, long) (eqb-false _ _ s) (eqb-false _ _ c) (eqb-false _ _ (neither_left _ (eqb (get_or line (j + 1) 0) 32 && eqb (get_or line (j + 2) 0) 32) plain)))))

  even_one : Keeping line ks (j + 1 + 1)
  even_one =
      by_test (eqb (get_or ks (j + 1) 0) 0) even_code
      (λ k. keeping_more line ks (j + 1) 1 w (kept_other line ks (j + 1) (omega arith, long) (eqb-false _ _ k)))

-- up to the first odd byte, or the last but one
pub even_run : (line ks : List ℕ) → length line ≤ length ks → (i e : ℕ) → 0 < i → i + 3 ≤ length line → FirstFrom (odd_at line ks) (i - 1) (length line - 3) e → Keeping line ks i
    → Evened line ks i (e + 1)
even_run line ks long i e l h f w =
    let o : i - 1 + 1 ≡ i = omega arith in
    record {
      from = omega (arith, f.from);
      within = omega (arith, f.within);
      keeping = run_to (λ j. Keeping line ks (j + 1)) (odd_at line ks) (length line - 3) (λ j m q v. even_one line ks long j (omega arith) q v) (i - 1) e f (rw o w);
    }

-- ---- the last byte, where it is no comma

module _ (line ks : List ℕ) (long : length line ≤ length ks) (i : ℕ) (e : i + 1 ≡ length line) where
  last_code : eqb (get_or ks i 0) 0 ≡ true → (get_or line i 0 ≡ 44 → ⊥) → Kept line ks i 1
  last_code k c =
      by_test (eqb (get_or line i 0) 32) (λ s. space_end line ks i (the_code 32 s) (omega arith))
      (λ s. by_test (eqb (get_or line i 0) 92) (λ b. pair_end line ks i (the_code 92 b) (omega arith))
      (λ b. kept_char line ks i (omega arith, long) (eqb-false _ _ s) c (eqb-false _ _ b)))
    where
      the_code : (a : ℕ) → eqb (get_or line i 0) a ≡ true → InCode line ks i a
      the_code a o = record { within = omega arith; classes = long; char = eqb-true _ _ o; code = eqb-true _ _ k }

  last_one : (get_or line i 0 ≡ 44 → ⊥) → Kept line ks i 1
  last_one c = by_test (eqb (get_or ks i 0) 0) (λ k. last_code k c) (λ k. kept_other line ks i (omega arith, long) (eqb-false _ _ k))

-- a line of which no byte before the last is busy
pub quiet_all : (line ks : List ℕ) → length line ≤ length ks → (e : ℕ) → 0 < length line → FirstFrom (busy_at line) 0 (length line - 1) e → e ≡ length line - 1 → (get_or line e 0 ≡ 44 → ⊥)
    → Keeping line ks (length line)
quiet_all line ks long e l f d n =
    let o : e + 1 ≡ length line = omega arith in
    rw o at (keeping_more line ks e 1 (quiet_run line ks long 0 e l f (keeping_start line ks)) (last_one line ks long e o n))

-- The greatest length that standard input asks for.
use Prim.Native.Nat.{ℕ, ◌-◌, ◌≤◌, ◌<◌}
use native.Mathlib.Omega.{arith}
use mathlib.Core.List.{List, [], ◌∷◌}
use mathlib.Core.Path.{◌≡◌, refl, sym, ◌∙◌}
use lib.ListN.{length, get_or, take}
use borrow.Author.Tests.{le-leb, lt-leb, eq-eqb, ne_eqb}
use Rattle.utf8.proofs.Tests.{in_range_law}
use Rattle.rules.specs.Basics.{choose}
use Rattle.rules.proofs.Choose.{choose_case, choose_true, choose_false}
use Rattle.short_sources.specs.Printed.{digit_in, greatest_in}

-- ---- for `main`

digit_few : (d : ℕ) → digit_in d ≤ 6
digit_few d =
    choose_case (λ (n : ℕ). n ≤ 6)
    (λ h. let r = in_range_law 48 54 d h in omega (arith, r.0, r.1))
    (λ h. omega arith)

in_few : (s : List ℕ) → greatest_in s ≤ 6
unfolding greatest_in
in_few [] = omega arith
in_few (d ∷ []) = digit_few d
in_few (d ∷ c ∷ []) = choose_case (λ (n : ℕ). n ≤ 6) (λ h. digit_few d) (λ h. omega arith)
in_few (d ∷ c ∷ b ∷ s) = omega arith

pub greatest_few : (s : List ℕ) (r : ℕ) → r ≡ greatest_in s → r ≤ 6
greatest_few s r e = omega (arith, in_few s)

-- three bytes of the input decide
pub greatest_three : (s : List ℕ) → greatest_in (take 3 s) ≡ greatest_in s
unfolding greatest_in
greatest_three [] = refl
greatest_three (d ∷ []) = refl
greatest_three (d ∷ c ∷ []) = refl
greatest_three (d ∷ c ∷ b ∷ s) = refl

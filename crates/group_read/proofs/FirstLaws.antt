-- The first characters of operators: the ranges that crate operators tests are those of the rules' table.
use Prim.Native.Nat.{ℕ}
use mathlib.Core.Bool.{Bool, true, false}
use mathlib.Core.Path.{◌≡◌, refl, sym, ◌∙◌}
use lib.Dec.{eqb}
use borrow.Author.Tests.{ne_eqb, eqb-true, eqb-false}
use Rattle.rules.proofs.Computing.{computing}
use Rattle.rules.specs.Operators as F
use Rattle.group_rules.specs.Expression.{starts_operator}

pub by_equal : {P : Type 0} (c k : ℕ) → (c ≡ k → P) → ((c ≡ k → ⊥) → P) → P
by_equal {P} c k f g = go (eqb c k) refl
  where
    go : (b : Bool) → eqb c k ≡ b → P
    go true e = f (eqb-true c k e)
    go false e = g (eqb-false c k e)

module _ (c : ℕ) (n33 : c ≡ 33 → ⊥) (n37 : c ≡ 37 → ⊥) (n38 : c ≡ 38 → ⊥) (n42 : c ≡ 42 → ⊥) (n43 : c ≡ 43 → ⊥) (n45 : c ≡ 45 → ⊥)
    (n46 : c ≡ 46 → ⊥) (n47 : c ≡ 47 → ⊥) (n60 : c ≡ 60 → ⊥) (n61 : c ≡ 61 → ⊥) (n62 : c ≡ 62 → ⊥) (n94 : c ≡ 94 → ⊥) (n124 : c ≡ 124 → ⊥) where
  none_starts : F.starts_operator c ≡ false
  unfolding computing F.starts_operator
  none_starts =
      rw (
        ne_eqb c 33 n33,
        ne_eqb c 37 n37,
        ne_eqb c 38 n38,
        ne_eqb c 42 n42,
        ne_eqb c 43 n43,
        ne_eqb c 45 n45,
        ne_eqb c 46 n46,
        ne_eqb c 47 n47,
        ne_eqb c 60 n60,
        ne_eqb c 61 n61,
        ne_eqb c 62 n62,
        ne_eqb c 94 n94,
        ne_eqb c 124 n124,
      )

  none_first : starts_operator c ≡ false
  unfolding computing starts_operator
  none_first =
      rw (
        ne_eqb 33 c (λ e. n33 (sym e)),
        ne_eqb 37 c (λ e. n37 (sym e)),
        ne_eqb 38 c (λ e. n38 (sym e)),
        ne_eqb 42 c (λ e. n42 (sym e)),
        ne_eqb 43 c (λ e. n43 (sym e)),
        ne_eqb 45 c (λ e. n45 (sym e)),
        ne_eqb 46 c (λ e. n46 (sym e)),
        ne_eqb 47 c (λ e. n47 (sym e)),
        ne_eqb 60 c (λ e. n60 (sym e)),
        ne_eqb 61 c (λ e. n61 (sym e)),
        ne_eqb 62 c (λ e. n62 (sym e)),
        ne_eqb 94 c (λ e. n94 (sym e)),
        ne_eqb 124 c (λ e. n124 (sym e)),
      )

pub starts_same : (c : ℕ) → F.starts_operator c ≡ starts_operator c
unfolding computing starts_operator F.starts_operator
starts_same c =
    by_equal c 33 (λ e. rw e) (λ n33.
    by_equal c 37 (λ e. rw e) (λ n37.
    by_equal c 38 (λ e. rw e) (λ n38.
    by_equal c 42 (λ e. rw e) (λ n42.
    by_equal c 43 (λ e. rw e) (λ n43.
    by_equal c 45 (λ e. rw e) (λ n45.
    by_equal c 46 (λ e. rw e) (λ n46.
    by_equal c 47 (λ e. rw e) (λ n47.
    by_equal c 60 (λ e. rw e) (λ n60.
    by_equal c 61 (λ e. rw e) (λ n61.
    by_equal c 62 (λ e. rw e) (λ n62.
    by_equal c 94 (λ e. rw e) (λ n94.
    by_equal c 124 (λ e. rw e) (λ n124.
    none_starts c n33 n37 n38 n42 n43 n45 n46 n47 n60 n61 n62 n94 n124
    ∙ sym (none_first c n33 n37 n38 n42 n43 n45 n46 n47 n60 n61 n62 n94 n124))))))))))))))

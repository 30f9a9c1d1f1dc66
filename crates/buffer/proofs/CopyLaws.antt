-- What is copied element by element is written over the front.
use Prim.Native.Nat.{ℕ, suc, ◌≤◌, ◌<◌, min, zero-le, suc-le-suc}
use mathlib.Core.List.{List, [], ◌∷◌}
use mathlib.Core.Path.{◌≡◌, refl, ap₂, ◌∙◌}
use native.Mathlib.Omega.{arith}
use lib.ListN.{length, get_or}
use Rattle.buffer.specs.Buffer.{over, Wrote}
use Rattle.buffer.specs.Copy.{Copies}
use Rattle.buffer.proofs.OverLaws.{over_nil}

over_points : (d t x : List ℕ) → length x ≡ length d → ((j : ℕ) → j < length d → j < length t → get_or x j 0 ≡ get_or t j 0)
    → ((j : ℕ) → length t ≤ j → get_or x j 0 ≡ get_or d j 0) → x ≡ over d t
unfolding over
over_points [] t [] h f g = refl
over_points [] t (c ∷ x) h f g = absurd (omega arith)
over_points (a ∷ d) t [] h f g = absurd (omega arith)
over_points (a ∷ d) [] (c ∷ x) h f g =
    ap₂ (λ (p : ℕ) (q : List ℕ). p ∷ q) (g 0 zero-le) (over_points d [] x (omega arith) (λ j i k. absurd (omega arith)) (λ j k. g (suc j) zero-le) ∙ over_nil d)
over_points (a ∷ d) (b ∷ t) (c ∷ x) h f g =
    ap₂ (λ (p : ℕ) (q : List ℕ). p ∷ q) (f 0 (suc-le-suc zero-le) (suc-le-suc zero-le))
    (over_points d t x (omega arith) (λ j i k. f (suc j) (suc-le-suc i) (suc-le-suc k)) (λ j k. g (suc j) (suc-le-suc k)))

pub copied : (x y l : List ℕ) (n : ℕ) → n ≡ min (length l) (length x) → Copies x y l 0 n → Wrote x y l (length l)
copied x y l n e w =
    record { size = refl; is = over_points x l y w.long (λ j i k. w.is j zero-le (omega arith)) (λ j k. w.back j (omega arith)) }

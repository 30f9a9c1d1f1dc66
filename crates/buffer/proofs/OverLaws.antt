-- Laws on a buffer over whose front a text is written, as much of it as fits.
use mathlib.Core.Path.{◌≡◌, refl, ap}
use mathlib.Core.List.{List, [], ◌∷◌, ◌++◌}
use Prim.Native.Nat.{ℕ, zero, suc, ◌≤◌, min}
use native.Mathlib.Nat.{not-suc-le-zero, le_of_suc-le-suc, zero-min, min-zero, suc-min-suc}
use lib.ListN.{length, take, drop, replicate}
use Rattle.buffer.specs.Buffer.{over}

pub over_nil : (d : List ℕ) → over d [] ≡ d
unfolding over
over_nil [] = refl
over_nil (x ∷ d) = refl

pub length_over : (d t : List ℕ) → length (over d t) ≡ length d
unfolding over
length_over [] t = refl
length_over (x ∷ d) [] = refl
length_over (x ∷ d) (a ∷ t) = ap suc (length_over d t)

-- what comes after a text that fills the buffer is left out
pub over_full : (d t l : List ℕ) → length d ≤ length t → over d (t ++ l) ≡ over d t
unfolding over
over_full [] t l h = refl
over_full (x ∷ d) [] l h = absurd (not-suc-le-zero h)
over_full (x ∷ d) (a ∷ t) l h = ap (λ (r : List ℕ). a ∷ r) (over_full d t l (le_of_suc-le-suc h))

-- a line written where the text ends, past the end too
pub over_next : (d t l : List ℕ) → take (length t) (over d t) ++ over (drop (length t) (over d t)) l ≡ over d (t ++ l)
unfolding over
over_next d [] l = ap (λ (r : List ℕ). over r l) (over_nil d)
over_next [] (a ∷ t) l = refl
over_next (x ∷ d) (a ∷ t) l = ap (λ (r : List ℕ). a ∷ r) (over_next d t l)

-- n times the byte b
pub over_run : (d : List ℕ) (n b : ℕ) → over d (replicate n b) ≡ replicate (min n (length d)) b ++ drop (min n (length d)) d
unfolding over
over_run [] n b = rw min-zero
over_run (x ∷ d) zero b = rw zero-min
over_run (x ∷ d) (suc n) b = rw suc-min-suc (ap (λ (l : List ℕ). b ∷ l) (over_run d n b))

-- A rule of every byte, proved by one test that antt computes, one byte after the other.
use Prim.Native.Nat.{ℕ, zero, suc, ◌≤◌, ◌<◌}
use native.Mathlib.Omega.{arith}
use mathlib.Core.Bool.{Bool, true, false, not, ◌&&◌, ◌||◌}
use mathlib.Core.Logic.{◌⊎◌, inl, inr}
use mathlib.Core.Path.{◌≡◌, refl, sym, ◌∙◌}
use lib.Dec.{eqb}
use Rattle.utf8.proofs.Tests.{and_left, and_right, split}
use Rattle.rules.specs.Basics.{first_is}
use Rattle.rules.specs.Operators.{starts_one, starts_operator}

-- the test passes for every number below n
every : (ℕ → Bool) → ℕ → Bool
every f zero = true
every f (suc n) = f n && every f n

at : (f : ℕ → Bool) (n : ℕ) → every f n ≡ true → (k : ℕ) → k < n → f k ≡ true
unfolding every
at f zero e k h = absurd (omega arith)
at f (suc n) e k h = go (split k n) (at f n (and_right (f n) (every f n) e) k)
  where
    go : (k < n) ⊎ (n ≤ k) → (k < n → f k ≡ true) → f k ≡ true
    go (inl l) below = below l
    go (inr l) below = let q : k ≡ n = omega arith in rw q (and_left (f n) (every f n) e)

-- both say the same
alike : Bool → Bool → Bool
alike true b = b
alike false b = not b

alike_eq : (a b : Bool) → alike a b ≡ true → a ≡ b
unfolding alike
alike_eq true true e = refl
alike_eq true false e = sym e
alike_eq false true e = e
alike_eq false false e = refl

-- ---- the first bytes of the operators, as the code tests them

abbrev pub first_byte : ℕ → Bool
first_byte c =
    eqb c 33 || eqb c 37 || eqb c 38 || eqb c 42 || eqb c 43 || eqb c 45 || eqb c 46 || eqb c 47 || eqb c 60 || eqb c 61 || eqb c 62 || eqb c 94 || eqb c 124

every_first : every (λ c. alike (first_byte c) (starts_operator c)) 256 ≡ true
unfolding every alike starts_operator starts_one first_is
every_first = refl

pub first_byte_law : (c : ℕ) (r : Bool) → c < 256 → r ≡ first_byte c → r ≡ starts_operator c
first_byte_law c r h e = e ∙ alike_eq (first_byte c) (starts_operator c) (at (λ c. alike (first_byte c) (starts_operator c)) 256 every_first c h)

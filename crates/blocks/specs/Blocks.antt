-- What the contracts say of a test that is made at many places.
use Rattle.std.specs.Prelude.{ℕ, ◌+◌, ◌<◌, ◌≤◌, Bool, true, false, ◌≡◌}

-- from `at` up to `end` the test may be made, by pre, and answers as p does, by post
abbrev pub Tells : (ℕ → Type 0) → (ℕ → Bool → Type 0) → (ℕ → Bool) → ℕ → ℕ → Type 0
Tells pre post p at end = ((i : ℕ) → at ≤ i → i < end → pre i) × ((i : ℕ) → (r : Bool) → post i r → r ≡ p i)

-- any is false only where none of the n places from `at` on passes the test p
pub record NoneAmong (p : ℕ → Bool) (at n : ℕ) (any : Bool) : Type 0 where
  pub none : any ≡ false → (j : ℕ) → j < n → p (at + j) ≡ false

-- none of the places from `at` up to r passes the test p, and r is at most end
pub record NoneFrom (p : ℕ → Bool) (at end r : ℕ) : Type 0 where
  pub from : at ≤ r
  pub within : r ≤ end
  pub none : (j : ℕ) → at ≤ j → j < r → p j ≡ false

-- r is the first place from `at` on that passes the test p, or end where none before it does
pub record FirstFrom (p : ℕ → Bool) (at end r : ℕ) : Type 0 where
  pub from : at ≤ r
  pub within : r ≤ end
  pub none : (j : ℕ) → at ≤ j → j < r → p j ≡ false
  pub passes : r < end → p r ≡ true

-- clear is true only where none of the places before end passes the test p
pub record NoneBefore (p : ℕ → Bool) (end : ℕ) (clear : Bool) : Type 0 where
  pub none : clear ≡ true → (j : ℕ) → j < end → p j ≡ false

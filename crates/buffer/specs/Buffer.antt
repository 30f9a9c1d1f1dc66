-- Parts of a buffer, and a text in a buffer that may be too short for it.
use Rattle.std.specs.Prelude.{ℕ, ◌+◌, ◌-◌, Bool, true, false, List, [], ◌∷◌, ◌++◌, ◌≡◌, length, take, drop, replicate}

-- the elements of l from a up to, not including, e
abbrev pub part : List ℕ → ℕ → ℕ → List ℕ
part l a e = take (e - a) (drop a l)

-- d, with the elements from at on replaced by those of x
unfoldable pub put : List ℕ → ℕ → List ℕ → List ℕ
put d at x = take at d ++ x ++ drop (at + length x) d

-- d, with t written over its front; what of t does not fit is left out
unfoldable pub over : List ℕ → List ℕ → List ℕ
over [] t = []
over (x ∷ d) [] = x ∷ d
over (x ∷ d) (a ∷ t) = a ∷ over d t

-- x and t are equal as far as both reach: x holds as much of the text t as fits, whatever stands after it
unfoldable pub Agree : List ℕ → List ℕ → Type 0
Agree [] t = Unit {0}
Agree (a ∷ x) [] = Unit {0}
Agree (a ∷ x) (b ∷ t) = (a ≡ b) × Agree x t

-- x' is x with l written over its front; what of l does not fit is left out. r is l's whole length
pub record Wrote (x x' l : List ℕ) (r : ℕ) : Type 0 where
  pub size : r ≡ length l
  pub is : x' ≡ over x l

-- x' is x with l written from the place at on, which may lie past the end; what of l does not fit is left out. r is the
-- next place
pub record Appended (x x' : List ℕ) (at : ℕ) (l : List ℕ) (r : ℕ) : Type 0 where
  pub next : r ≡ at + length l
  pub is : x' ≡ take at x ++ over (drop at x) l

-- x' is what x holds before at, then zeros
pub record Finishes (x x' : List ℕ) (at : ℕ) : Type 0 where
  pub is : x' ≡ take at x ++ replicate (length x - at) 0

-- r tells whether every element of s is b
pub record AllAre (s : List ℕ) (b : ℕ) (r : Bool) : Type 0 where
  pub yes : r ≡ true → s ≡ replicate (length s) b
  pub no : r ≡ false → s ≡ replicate (length s) b → ⊥

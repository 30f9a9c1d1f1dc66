-- The generator, step by step, and what is promised of the whole run.
use Rattle.std.specs.Prelude.{ℕ, zero, suc, ◌+◌, ◌<◌, ◌≤◌, ◌^◌, List, [], ◌∷◌, ◌++◌, ◌≡◌, Option, Some, None, ltb, length, get_or, take}
use Rattle.rules.specs.Basics.{choose}
use Rattle.rules.specs.Call.{filled}
use Rattle.short_texts.specs.declared.Place.{Place}
use Rattle.short_texts.specs.declared.Given.{Given}
use Rattle.short_texts.specs.Texts.{texts, Short}

abbrev pub place_at : ℕ → Place
place_at number = record { number = number }

abbrev pub begin : Place
begin = place_at 0

-- the text t, and the place after it
abbrev pub given : List ℕ → ℕ → Given
given t next = record { size = length t; text = filled 6 t; next = place_at next }

-- the text whose number in the list is the place's; any other place is the end
unfoldable pub step_of : Place → Option Given
step_of p = choose (ltb p.number (length texts)) (Some (given (get_or texts p.number []) (p.number + 1))) None

-- the place that a step from p hands on; at the end it stays
abbrev pub handed_on : Place → Option Given → Place
handed_on p (Some g) = g.next
handed_on p None = p

-- the place after k steps from the start, each with the place that the one before it handed on
unfoldable pub place_after : ℕ → Place
place_after zero = begin
place_after (suc k) = handed_on (place_after k) (step_of (place_after k))

-- the text that a step gave, behind those before it; the end adds none
abbrev pub add_given : Option Given → List (List ℕ) → List (List ℕ)
add_given (Some g) ts = ts ++ (take g.size g.text ∷ [])
add_given None ts = ts

-- the texts that the first k steps give
unfoldable pub given_by : ℕ → List (List ℕ)
given_by zero = []
given_by (suc k) = add_given (step_of (place_after k)) (given_by k)

-- t stands in the list
pub record Comes (t : List ℕ) : Type 0 where
  pub at : ℕ
  pub within : at < length texts
  pub is : get_or texts at [] ≡ t

-- the whole run from the start
pub record WholeRun : Type 0 where
  -- how many texts there are
  pub many : length texts ≡ 3257437
  -- the texts that the first k steps give are the list's first k
  pub first : (k : ℕ) → given_by k ≡ take k texts
  -- as many steps as there are texts, or more, give the whole list
  pub all : (k : ℕ) → length texts ≤ k → given_by k ≡ texts
  -- every text of 0 to 6 of the twelve characters comes
  pub comes : (t : List ℕ) → Short t → Comes t
  -- each comes once
  pub once : (i j : ℕ) → i < length texts → j < length texts → get_or texts i [] ≡ get_or texts j [] → i ≡ j
  -- no other comes
  pub only : (k : ℕ) → k < length texts → Short (get_or texts k [])
  -- the end is told after the last text, and from then on
  pub end : (k : ℕ) → length texts ≤ k → (step_of (place_after k) ≡ None) × (place_after (suc k) ≡ place_after k)
  -- any other state gives the end, and stays
  pub other : (p : Place) → length texts ≤ p.number → (step_of p ≡ None) × (handed_on p (step_of p) ≡ p)

-- number is that of a text of this size; weight is 12 to the power of the size
pub record Numbered (size weight number : ℕ) : Type 0 where
  pub few : size ≤ 6
  pub weighs : weight ≡ 12 ^ size
  pub small : number < weight

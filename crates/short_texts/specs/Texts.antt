-- Every text over twelve characters, of 0 to 6 of them: shorter ones first, then in the order of the characters.
use Rattle.std.specs.Prelude.{ℕ, zero, suc, ◌<◌, ◌≤◌, List, [], ◌∷◌, ◌++◌, map, ◌≡◌, length, get_or}
use Rattle.rules.specs.Basics.{codes}

-- the twelve characters, in their order
abbrev pub letters : List ℕ
letters = codes " \n,\"\\/*${}+a"

-- each of the characters cs, in their order, before each of the texts ts
unfoldable pub led : List ℕ → List (List ℕ) → List (List ℕ)
led [] ts = []
led (c ∷ cs) ts = map (λ t. c ∷ t) ts ++ led cs ts

-- the texts of n characters; the first character weighs most, the last changes fastest
unfoldable pub of_length : ℕ → List (List ℕ)
of_length zero = [] ∷ []
of_length (suc n) = led letters (of_length n)

-- the texts of fewer than n characters, shorter ones first
unfoldable pub shorter : ℕ → List (List ℕ)
shorter zero = []
shorter (suc n) = shorter n ++ of_length n

-- the texts of 0 to 6 characters
unfoldable pub texts : List (List ℕ)
texts = shorter 7

-- every character of a text is one of the twelve
unfoldable pub AllLetters : List ℕ → Type 0
AllLetters [] = Unit {0}
AllLetters (c ∷ t) = ((k : ℕ) × (k < 12) × (get_or letters k 0 ≡ c)) × AllLetters t

-- a text of 0 to 6 of the twelve characters
pub record Short (t : List ℕ) : Type 0 where
  pub letters : AllLetters t
  pub few : length t ≤ 6

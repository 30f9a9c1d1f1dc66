-- The 21 binary operators: one list, which whatever asks for operators asks.
use Rattle.std.specs.Prelude.{ℕ, suc, ◌≤◌, Bool, false, ◌||◌, List, [], ◌∷◌, map, eqb}
use Prim.Native.String.{String}
use Rattle.rules.specs.Basics.{choose, codes, same, first_is}

pub record Operator : Type 0 where
  pub text : List ℕ
  pub strength : ℕ

abbrev pub op : String → ℕ → Operator
op text strength = record { text = codes text; strength = strength }

-- 01's tightness list
abbrev pub tightness : List Operator
tightness =
    op "||" 1 ∷ op "^^" 1 ∷ op "&&" 2 ∷ op "|" 3 ∷ op "^" 4 ∷ op "&" 5 ∷ op "==" 6 ∷ op "!=" 6
    ∷ op "<" 7 ∷ op ">" 7 ∷ op "<=" 7 ∷ op ">=" 7 ∷ op "<<" 8 ∷ op ">>" 8 ∷ op ".." 9
    ∷ op "+" 10 ∷ op "-" 10 ∷ op "*" 11 ∷ op "/" 11 ∷ op "%" 11 ∷ op "**" 12 ∷ []

-- which they are, and a strength for each, in their order
abbrev pub operators : List (List ℕ)
operators = map (λ o. o.text) tightness

abbrev pub strengths : List ℕ
strengths = map (λ o. o.strength) tightness

-- a strength takes 4 bits
abbrev pub max_strength : ℕ
max_strength = 15

-- no strength of a table is over k
abbrev pub AtMost : ℕ → List ℕ → Type 0
AtMost k [] = Unit {0}
AtMost k (n ∷ ns) = (n ≤ k) × AtMost k ns

-- the place of a text among others, or how many they are if it is none of them
unfoldable pub index_in : List (List ℕ) → List ℕ → ℕ
index_in [] w = 0
index_in (k ∷ ks) w = let r = suc (index_in ks w) in choose (same k w) 0 r

-- c is the first character of one of the texts
unfoldable pub starts_one : List (List ℕ) → ℕ → Bool
starts_one [] c = false
starts_one (w ∷ ws) c = first_is (eqb c) w || starts_one ws c

unfoldable pub starts_operator : ℕ → Bool
starts_operator c = starts_one operators c

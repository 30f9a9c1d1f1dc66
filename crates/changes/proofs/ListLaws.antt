-- Changes read back from the numbers of a list.
use Prim.Native.Nat.{ℕ, ◌*◌}
use mathlib.Core.List.{List, [], ◌∷◌}
use mathlib.Core.Path.{◌≡◌, refl, ap, ◌∙◌}
use native.Mathlib.Omega.{arith}
use lib.ListN.{length, take}
use lib.Seq.{take_at}
use Rattle.rules.specs.Call.{filled}
use Rattle.changes.specs.Changes.{numbers, changes_in}
use Rattle.changes.specs.declared.Change.{Change}

pub length_numbers : (cs : List Change) → length (numbers cs) ≡ length cs * 4
unfolding numbers
length_numbers [] = refl
length_numbers (c ∷ cs) = let r = length_numbers cs in omega arith

numbers_in : (cs : List Change) → changes_in (numbers cs) ≡ cs
unfolding numbers changes_in
numbers_in [] = refl
numbers_in (c ∷ cs) = ap {B = List Change} (λ r. c ∷ r) (numbers_in cs)

-- the first entries of a list that holds the changes
pub filled_in : (n : ℕ) (cs : List Change) → changes_in (take (length cs * 4) (filled n (numbers cs))) ≡ cs
unfolding filled
filled_in n cs = ap changes_in (take_at (numbers cs) _ (length cs * 4) (length_numbers cs)) ∙ numbers_in cs

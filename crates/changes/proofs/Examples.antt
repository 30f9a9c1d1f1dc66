-- The changes of the readings, computed.
use Prim.Native.Nat.{ℕ}
use Prim.Native.String.{String}
use mathlib.Core.List.{List, [], ◌∷◌, ◌++◌}
use mathlib.Core.Path.{◌≡◌, refl}
use Rattle.utf8.specs.Unicode.{encode}
use Rattle.rules.specs.Basics.{codes}
use Rattle.rules.specs.Demand3.{strike}
use Rattle.rules.proofs.Computing.{computing}
use Rattle.gaps.specs.Gaps.{gap, after}
use Rattle.changes.specs.Changes.{change_at, changes_from, changes, carried, numbers, changes_in}

unfoldable pub opened : Unit {0}
unfolding computing strike gap after change_at changes_from changes carried numbers changes_in
opened = tt

abbrev given : String → String → List ℕ
given source text = numbers (changes (codes source) (codes text))

abbrev done : String → String → List ℕ
done source text = carried 0 (changes (codes source) (codes text)) (encode (codes source)) (encode (codes text))

spaced : given " a  b " "a b" ≡ 0 ∷ 1 ∷ 0 ∷ 0 ∷ 2 ∷ 2 ∷ 1 ∷ 1 ∷ 5 ∷ 1 ∷ 3 ∷ 0 ∷ []
unfolding opened
spaced = refl

nothing : given "" "\n" ≡ 0 ∷ 0 ∷ 0 ∷ 1 ∷ []
unfolding opened
nothing = refl

unchanged : given "a, ü\n" "a, ü\n" ≡ []
unfolding opened
unchanged = refl

-- with no kept character the whole is one gap
one_gap : given " ,\n" "\n" ≡ 0 ∷ 3 ∷ 0 ∷ 1 ∷ []
unfolding opened
one_gap = refl

-- ü takes two bytes, U+3000 three
longer : given "ü\u{3000}ü" "ü ü\n" ≡ 2 ∷ 3 ∷ 2 ∷ 1 ∷ 7 ∷ 0 ∷ 5 ∷ 1 ∷ []
unfolding opened
longer = refl

carried_out_law : done "ü\u{3000}ü" "ü ü\n" ≡ encode (codes "ü ü\n")
unfolding opened
carried_out_law = refl

-- what a list holds; an incomplete last entry doesn't count
read_back : changes_in (given " a  b " "a b" ++ 7 ∷ 8 ∷ []) ≡ changes (codes " a  b ") (codes "a b")
unfolding opened
read_back = refl

-- Which texts count: the nearest first, each with the path relative to its directory.
use Rattle.std.specs.Prelude.{ℕ, false, List, [], ◌∷◌, ◌++◌, drop}
use Rattle.rules.specs.Basics.{choose, is, first_is}
use Rattle.rules.specs.declared.Resolved.{Resolved}
use Rattle.config_rules.specs.Lines.{lines_of}
use Rattle.config_rules.specs.Values.{unset}
use Rattle.config_rules.specs.Sections.{root_at, settings}

-- what follows each slash, the last one first
unfoldable pub below_slashes : List ℕ → List (List ℕ)
below_slashes [] = []
below_slashes (c ∷ s) = below_slashes s ++ choose (is "/" c) (s ∷ []) []

-- a leading slash is dropped; each other slash is one directory down from the top
unfoldable pub relatives : List ℕ → List (List ℕ)
relatives path = let p = choose (first_is (is "/") path) (drop 1 path) path in below_slashes p ++ (p ∷ [])

-- up to and with the first text that is a root, the farther ones first; a text above the path's top is unused
unfoldable pub resolved : List (List ℕ) → List (List ℕ) → Resolved
resolved [] rels = unset
resolved (t ∷ ts) [] = unset
resolved (t ∷ ts) (rel ∷ rels) =
    settings rel false (choose (root_at false (lines_of t)) unset (resolved ts rels)) (lines_of t)

-- The directories of a path without a leading slash, from the nearest outward, by bytes.
use Rattle.std.specs.Prelude.{ℕ, ◌-◌, ◌≤◌, false, List, [], ◌∷◌, ◌++◌, map, ◌≡◌, eqb, length, take, drop, Option, Some, None}
use Rattle.utf8.specs.Unicode.{decode, WellFormed}
use Rattle.rules.specs.Basics.{choose, is, first_is}
use Rattle.rules.specs.declared.Resolved.{Resolved}
use Rattle.config_rules.specs.Lines.{lines_of}
use Rattle.config_rules.specs.Sections.{root_at}
use Rattle.config_rules.specs.Texts.{below_slashes, resolved}

-- r is the path without its leading slash
pub record Unslashed (path r : List ℕ) : Type 0 where
  pub well : WellFormed r
  pub is : decode r ≡ choose (first_is (is "/") (decode path)) (drop 1 (decode path)) (decode path)

-- what follows each slash of u in u ++ w, the last one first
unfoldable pub below : List ℕ → List ℕ → List (List ℕ)
below [] w = []
below (c ∷ u) w = below u w ++ choose (is "/" c) ((u ++ w) ∷ []) []

-- what follows each slash before e, and the whole path
unfoldable pub outward : List ℕ → ℕ → List (List ℕ)
outward p e = below (take e p) (drop e p) ++ (p ∷ [])

-- the paths relative to the directories above the one that the path from r on is relative to
abbrev pub rels_above : List ℕ → ℕ → List (List ℕ)
rels_above p r = choose (eqb r 0) [] (outward p (r - 1))

-- the path relative to that directory too
abbrev pub rels_at : List ℕ → ℕ → List (List ℕ)
rels_at p r = drop r p ∷ rels_above p r

abbrev pub rels_in : List ℕ → Option ℕ → List (List ℕ)
rels_in p None = []
rels_in p (Some r) = rels_at p r

-- a character starts at r
pub record LevelAt (p : List ℕ) (r : ℕ) : Type 0 where
  pub fits : r ≤ length p
  pub well : WellFormed (drop r p)

-- r is the place of the nearest directory up to e
pub record LevelFrom (p : List ℕ) (e r : ℕ) : Type 0 where
  pub at : LevelAt p r
  pub is : outward p e ≡ rels_at p r

pub record Nearest (p : List ℕ) (r : ℕ) : Type 0 where
  pub at : LevelAt p r
  pub is : rels_at p r ≡ below_slashes p ++ (p ∷ [])

abbrev pub LevelIn : List ℕ → Option ℕ → Type 0
LevelIn p None = Unit {0}
LevelIn p (Some r) = LevelAt p r

-- one directory up from r, if there is one and the text of r is no root
pub record Above (p text : List ℕ) (r : ℕ) (up : Option ℕ) : Type 0 where
  pub at : LevelIn p up
  pub is : rels_in p up ≡ choose (root_at false (lines_of (decode text))) [] (rels_above p r)

-- what texts give, the nearest of them in the directory that the path from r on is relative to
abbrev pub resolved_at : List ℕ → ℕ → List (List ℕ) → Resolved
resolved_at p r texts = resolved (map decode texts) (map decode (rels_at p r))

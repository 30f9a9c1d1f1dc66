-- A path read from its end.
use Rattle.std.specs.Prelude.{ℕ, ◌+◌, ◌<◌, Bool, List, ◌∷◌, ◌++◌, ◌≡◌, length, take}
use Rattle.utf8.specs.Unicode.{decode}
use Rattle.rules.specs.Basics.{choose, is, first_is}
use Rattle.config_rules.specs.Name.{Token}
use Rattle.config_rules.specs.Globs.{suffix, rooted, matches}
use Rattle.glob_pass.specs.Kinds.{held, kind_at}
use Rattle.glob_pass.specs.declared.kinds.Kind.{Kind}
use Rattle.glob_pass.specs.Pass.{here_at, Values, Hits}
use Rattle.ranges.specs.declared.State.{State}
use Rattle.ranges.specs.Ranges.{range_for, Kept}

abbrev pub range_kind : Kind
range_kind = Kind.Range

-- what is kept of each range at s
pub record SlotsAt (ks : List Kind) (cs s : List ℕ) (t : State) : Type 0 where
  pub at : (j : ℕ) → j < length ks → kind_at ks j ≡ range_kind → Kept cs j (range_for cs j) (here_at (held ks cs) (j + 1)) s t

-- one character more
pub record RangesNext (ks : List Kind) (cs : List ℕ) (v : List Bool) (c : ℕ) (t t' : State) (h' : List Bool) : Type 0 where
  pub is : (s : List ℕ) → Values (held ks cs) s v → SlotsAt ks cs s t
      → Hits (held ks cs) (c ∷ s) h' × SlotsAt ks cs (c ∷ s) t'

-- the whole string, or also what remains of it from some place on
unfoldable pub matches_at : List Token → Bool → List ℕ → Bool
matches_at ts levels s = choose levels (suffix (here_at ts 0) s) (here_at ts 0 s)

-- the characters of a name stand from k on, up to n
pub record Decoded (name : List ℕ) (k : ℕ) (old new : List ℕ) (n : ℕ) : Type 0 where
  pub long : length new ≡ length old
  pub end : n ≡ k + length (decode name)
  pub is : take n new ≡ take k old ++ decode name

unfoldable pub first_place : Bool → ℕ
first_place slash = choose slash 0 1

-- r is what a name says of a path, where chars are its characters with a slash before them, which it has itself if
-- `slash` says so
pub record NameMatches (chars : List ℕ) (slash : Bool) (path : List ℕ) (r : Bool) : Type 0 where
  pub is : (name : List ℕ) → chars ≡ rooted name → slash ≡ first_is (is "/") name → r ≡ matches name path

-- C-22: the prefabs that are closed on a later line, with the lines strictly between; how those follow in a text.
use Rattle.std.specs.Prelude.{ℕ, eqb, Bool, true, ◌&&◌, ◌⊎◌, List, [], ◌∷◌, ◌++◌, ◌≡◌}
use Rattle.std.proofs.Math.Option.{Option, none, some}
use Rattle.utf8.specs.Unicode.{trim_end}
use Rattle.rules.specs.Basics.{choose, codes, pieces, split_on}
use Rattle.rules.specs.Lines.{drop_cr}
use Rattle.rules.specs.Scan.{ordinary, is_code, is_prefab, next, begin, carry_after}
use Rattle.rules.specs.Demand3.{strike_white}
use Rattle.rules.specs.declared.Class.{Class}
use Rattle.rules.specs.declared.Carry.{Carry}
use Rattle.rules.specs.declared.Mode.{Mode}
use Rattle.rules.specs.declared.Mark.{Mark}

-- A prefab: all of the source before its $```, its line from there on, and the lines behind that one, up to the one
-- that it is closed on.
pub record Prefab : Type 0 where
  pub before : List ℕ
  pub line : List ℕ
  pub inner : List (List ℕ)

abbrev pub in_code_mode : Mode → Bool
in_code_mode m = is_code (ordinary m)

abbrev pub in_prefab_mode : Mode → Bool
in_prefab_mode m = is_prefab (ordinary m)

-- What p tells opens at the mark u, which follows the mark t: t is at its end and leaves code, and u passes p.
unfoldable pub opens : (Class → Bool) → Mark → Mark → Bool
opens p t u = eqb t.more 0 && in_code_mode t.mode && p u.class

-- the mode is that of a prefab behind every character of s; t is the mark before s
unfoldable pub stays : Mark → List ℕ → Bool
stays t [] = true
stays t (c ∷ s) = in_prefab_mode (next t (c ∷ s)).mode && stays (next t (c ∷ s)) s

abbrev pub opened : List ℕ → List ℕ → Prefab
opened before line = record { before = before; line = line; inner = [] }

-- the prefab that opens in s and is open at its end, if there is one; t is the mark before s
unfoldable pub left_open : List ℕ → Mark → List ℕ → Option Prefab
left_open before t [] = none
left_open before t (c ∷ s) =
    let u = next t (c ∷ s) in
    let r = left_open (before ++ (c ∷ [])) u s in
    choose (opens is_prefab t u && in_prefab_mode u.mode && stays u s) (some (opened before (c ∷ s))) r

-- with one line more
abbrev pub longer : Prefab → List ℕ → Prefab
longer p l = record { before = p.before; line = p.line; inner = p.inner ++ (l ∷ []) }

-- Those that are closed in these lines: y is what is open before them, p the prefab that is. A line is read without the
-- CR at its end.
unfoldable pub prefabs_from : List ℕ → Carry → Option Prefab → List (List ℕ) → List Prefab
prefabs_from before y p [] = []
prefabs_from before y none (l ∷ ls) =
    let raw = drop_cr l in
    prefabs_from (before ++ (l ++ codes "\n")) (carry_after y raw) (left_open before (begin y) raw) ls
prefabs_from before y (some p) (l ∷ ls) =
    let raw = drop_cr l in
    let behind = before ++ (l ++ codes "\n") in
    let within = prefabs_from behind (carry_after y raw) (some (longer p raw)) ls in
    let closed = p ∷ prefabs_from behind (carry_after y raw) (left_open before (begin y) raw) ls in
    choose (stays (begin y) raw) within closed

-- the prefabs of a source that are closed on a later line, in order
unfoldable pub prefabs_of : List ℕ → List Prefab
prefabs_of source = prefabs_from [] Carry.Code none (pieces (split_on "\n" source))

-- lines, each followed by the ending
unfoldable pub ended : List ℕ → List (List ℕ) → List ℕ
ended eol [] = []
ended eol (l ∷ ls) = l ++ (eol ++ ended eol ls)

-- Behind the same characters other than White_Space as in the source stands the opening line from its $``` on, whole or
-- without the white space at its end; directly behind it, after an ending, the lines within, each whole and followed by
-- the ending.
pub record Follows (eol text : List ℕ) (p : Prefab) : Type 0 where
  pub before : List ℕ
  pub line : List ℕ
  pub after : List ℕ
  pub whole : text ≡ before ++ (line ++ (eol ++ (ended eol p.inner ++ after)))
  pub behind : strike_white before ≡ strike_white p.before
  pub opening : (line ≡ p.line) ⊎ (line ≡ trim_end p.line)

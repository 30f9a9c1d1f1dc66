-- C-22: the strings that are closed on their line, with their places; where one stands in a text; what a text keeps of
-- its source's quoted text with no print width.
use Rattle.rules.specs.Options.{EndOfLine}
use Rattle.std.specs.Prelude.{ℕ, List, [], ◌∷◌, ◌++◌, ◌≡◌}
use Rattle.std.proofs.Math.Option.{Option, none, some, map}
use Rattle.rules.specs.Basics.{choose, codes, pieces, split_on}
use Rattle.rules.specs.Lines.{as_str, drop_cr}
use Rattle.rules.specs.Scan.{is_str, next, begin, carry_after}
use Rattle.rules.specs.Assembly.{ending_of}
use Rattle.rules.specs.Demand3.{strike_white}
use Rattle.rules.specs.Prefabs.{in_code_mode, opens, prefabs_of, Follows}
use Rattle.rules.specs.declared.Carry.{Carry}
use Rattle.rules.specs.declared.Mark.{Mark}

-- A string, from quote to quote, and all of the source that stands before it.
pub record Quoted : Type 0 where
  pub before : List ℕ
  pub string : List ℕ

-- the rest of a string, up to the character behind which the mode is code, if it comes in s; t is the mark before s
unfoldable pub closing : Mark → List ℕ → Option (List ℕ)
closing t [] = none
closing t (c ∷ s) =
    let u = next t (c ∷ s) in
    let r = map (λ (l : List ℕ). c ∷ l) (closing u s) in
    choose (in_code_mode u.mode) (some (c ∷ [])) r

abbrev pub found : List ℕ → ℕ → Option (List ℕ) → List Quoted
found before c none = []
found before c (some l) = record { before = before; string = c ∷ l } ∷ []

-- the string that opens at c, if one does and is closed in s; u is the mark at c, t the one before
unfoldable pub quoted_at : List ℕ → Mark → Mark → ℕ → List ℕ → List Quoted
quoted_at before t u c s = let r = found before c (closing u s) in choose (opens is_str t u) r []

-- those of a line, from s on; t is the mark before s
unfoldable pub quoted_in : List ℕ → Mark → List ℕ → List Quoted
quoted_in before t [] = []
quoted_in before t (c ∷ s) =
    quoted_at before t (next t (c ∷ s)) c s ++ quoted_in (before ++ (c ∷ [])) (next t (c ∷ s)) s

-- those of these lines, where y is what is open before them; a line is read without the CR at its end
unfoldable pub quoted_from : List ℕ → Carry → List (List ℕ) → List Quoted
quoted_from before y [] = []
quoted_from before y (l ∷ ls) =
    quoted_in before (begin y) (drop_cr l) ++ quoted_from (before ++ (l ++ codes "\n")) (carry_after y (drop_cr l)) ls

-- the strings of a source that are closed on their line, in order
unfoldable pub quoted_of : List ℕ → List Quoted
quoted_of source = quoted_from [] Carry.Code (pieces (split_on "\n" source))

-- The string stands in the text, character for character, behind the same characters other than White_Space as in the
-- source.
pub record Stands (text : List ℕ) (q : Quoted) : Type 0 where
  pub before : List ℕ
  pub after : List ℕ
  pub whole : text ≡ before ++ (q.string ++ after)
  pub behind : strike_white before ≡ strike_white q.before

abbrev pub All : {A : Type 0} → (A → Type 0) → List A → Type 0
All P [] = Unit
All P (x ∷ xs) = P x × All P xs

-- A text whose lines are ended as e says keeps the source's strings, and the lines within its prefabs.
pub record QuotedKept (e : EndOfLine) (source text : List ℕ) : Type 0 where
  pub strings : All (Stands text) (quoted_of source)
  pub prefabs : All (Follows (as_str (ending_of e source)) text) (prefabs_of source)

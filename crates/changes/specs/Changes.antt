-- The changes that turn a source into its text, what carrying them out gives, and how a list holds them.
use Rattle.std.specs.Prelude.{ℕ, suc, ◌+◌, ◌≤◌, List, [], ◌∷◌, ◌++◌, ◌≡◌, length, drop}
use Rattle.utf8.specs.Unicode.{encode_char, size, decode, WellFormed}
use Rattle.buffer.specs.Buffer.{part}
use Rattle.rules.specs.Basics.{choose, same}
use Rattle.rules.specs.Demand3.{strike}
use Rattle.gaps.specs.Gaps.{gap, after, Unkept}
use Rattle.changes.specs.declared.Change.{Change}

abbrev pub change : ℕ → ℕ → ℕ → ℕ → Change
change at removed from put = record { at = at; removed = removed; from = from; put = put }

-- the change of a gap g of the source, at its byte i, to the gap h of the text, at its byte j: none if they are equal
unfoldable pub change_at : ℕ → ℕ → List ℕ → List ℕ → List Change
change_at i j g h = choose (same g h) [] (change i (size g) j (size h) ∷ [])

-- the changes of a source from its byte i on, to a text from its byte j on: of the gap before each of the kept
-- characters, and of the last gap
unfoldable pub changes_from : List ℕ → ℕ → ℕ → List ℕ → List ℕ → List Change
changes_from [] i j source text = change_at i j (gap source) (gap text)
changes_from (k ∷ ks) i j source text =
    change_at i j (gap source) (gap text)
    ++ changes_from ks (i + size (gap source) + length (encode_char k)) (j + size (gap text) + length (encode_char k))
    (after source) (after text)

unfoldable pub changes : List ℕ → List ℕ → List Change
changes source text = changes_from (strike source) 0 0 source text

-- ---- what is asked of changes

-- carrying out changes on the bytes of a source, from its byte `at` on; what is put in is read from the text's
unfoldable pub carried : ℕ → List Change → List ℕ → List ℕ → List ℕ
carried at [] source text = drop at source
carried at (c ∷ cs) source text =
    part source at c.at ++ part text c.from (c.from + c.put) ++ carried (c.at + c.removed) cs source text

-- the changes ascend from the byte n on, and a byte at least stands between any two of them
abbrev pub Ascending : ℕ → List Change → Type 0
Ascending n [] = Unit {0}
Ascending n (c ∷ cs) = (n ≤ c.at) × Ascending (suc (c.at + c.removed)) cs

-- the bytes from a up to e are whole characters, none of them kept
pub record UnkeptPart (s : List ℕ) (a e : ℕ) : Type 0 where
  pub fits : e ≤ length s
  pub well : WellFormed (part s a e)
  pub unkept : Unkept (decode (part s a e))

-- every change removes and puts in such characters alone
abbrev pub Harmless : List Change → List ℕ → List ℕ → Type 0
Harmless [] source text = Unit {0}
Harmless (c ∷ cs) source text =
    UnkeptPart source c.at (c.at + c.removed) × UnkeptPart text c.from
    (c.from + c.put) × Harmless cs source text

-- the changes of a source's bytes to a text's
pub record Faithful (source text : List ℕ) (cs : List Change) : Type 0 where
  pub carried_out : carried 0 cs source text ≡ text
  pub ascends : Ascending 0 cs
  pub harmless : Harmless cs source text
  pub unchanged : source ≡ text → cs ≡ []

-- ---- changes in a list of numbers, four to each

unfoldable pub numbers : List Change → List ℕ
numbers [] = []
numbers (c ∷ cs) = c.at ∷ c.removed ∷ c.from ∷ c.put ∷ numbers cs

-- the changes that a list holds; an incomplete last entry doesn't count
unfoldable pub changes_in : List ℕ → List Change
changes_in [] = []
changes_in (a ∷ []) = []
changes_in (a ∷ r ∷ []) = []
changes_in (a ∷ r ∷ f ∷ []) = []
changes_in (a ∷ r ∷ f ∷ p ∷ list) = change a r f p ∷ changes_in list

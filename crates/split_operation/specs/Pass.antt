-- What the passes over a line's bytes find: the strength that the line is broken at, and its pieces.
use Rattle.std.specs.Prelude.{ℕ, zero, suc, ◌+◌, ◌^◌, ◌≤◌, ◌<◌, Bool, true, false, not, ◌&&◌, ◌||◌, ◌≡◌, ltb, length, get_or, drop, Some, None}
use Rattle.std.specs.Prelude as code
use mathlib.Core.List.{List, [], ◌∷◌, ◌++◌, foldl, reverse}
use Rattle.std.proofs.Math.Option.{Option, none, some}
use Rattle.buffer.specs.Buffer.{part}
use Rattle.rules.specs.Basics.{choose, is, is_blank, one_of, Pieces}
use Rattle.utf8.specs.Unicode.{tail}
use Rattle.rules.specs.Scan.{Cell, is_code, is_str}
use Rattle.rules.specs.ClassBytes.{cells_of, cell_at}
use Rattle.rules.specs.SplitOperation.{OpMark, no_ops, balance_step, is_zero, is_balanced, in_word, word_on}
use Rattle.rules.specs.SplitOperation.{has_word, keywords, looser, loosest, cut_before}
use Rattle.rules.specs.OperatorBytes.{byte_marks}
use Rattle.top_level_ops.specs.Steps.{ops_of}
use Rattle.top_level_ops.specs.declared.OpState.{OpState}
use Rattle.split_operation.specs.declared.pass.Break.{Break}
use Rattle.split_operation.specs.declared.pass.Cut.{Cut}

-- the operators of what is left of a line at i
abbrev pub marks_at : List ℕ → OpState → List ℕ → List ℕ → ℕ → List OpMark
marks_at table s line class i = byte_marks table (ops_of s) (cells_of (drop i line) (drop i class))

-- before a line's first byte
abbrev pub line_start : OpState
line_start = record { opened = 0; closed = 0; operand = false; esc = false; skip = 0 }

-- n bytes were read
pub record Sound (s : OpState) (n : ℕ) : Type 0 where
  pub opened : s.opened ≤ n
  pub closed : s.closed ≤ n

-- ---- a run of words, strings and gaps

-- nothing is pending
pub record NonePending (s : OpState) : Type 0 where
  pub skip : s.skip ≡ 0
  pub esc : s.esc ≡ false

pub record PlainTest (s : OpState) (b : Bool) : Type 0 where
  pub yes : b ≡ true → NonePending s

-- a byte that an operand ends with: one of a word, or one of a string that starts a character
abbrev pub is_operand : Cell → Bool
is_operand x = in_word x || (is_str x.class && not (tail x.ch))

-- a space or a tab of code, or a byte that starts no character
abbrev pub in_gap : Cell → Bool
in_gap x = tail x.ch || (is_code x.class && is_blank x.ch)

-- either of them
abbrev pub is_quiet : Cell → Bool
is_quiet x = is_operand x || in_gap x

-- from `from` up to e stand such cells and those of words, with nothing pending in the state s, and an operand ends
-- after them if `operand` says so
pub data QuietRun (line class : List ℕ) (from : ℕ) (s : OpState) : ℕ → Bool → Type 0 where
  begins : QuietRun line class from s from s.operand
  word : {e : ℕ} {operand : Bool} → QuietRun line class from s e operand → e < length line → NonePending s
      → is_operand (cell_at line class e) ≡ true → QuietRun line class from s (e + 1) true
  gap : {e : ℕ} {operand : Bool} → QuietRun line class from s e operand → e < length line → NonePending s
      → in_gap (cell_at line class e) ≡ true → QuietRun line class from s (e + 1) operand

-- after such a run
abbrev pub past_run : OpState → Bool → OpState
past_run s operand =
    record { opened = s.opened; closed = s.closed; operand = operand; esc = s.esc; skip = s.skip }

-- ---- the pieces

abbrev pub cuts_at : List ℕ → ℕ → OpState → List ℕ → List ℕ → ℕ → Pieces
cuts_at table strength s line class i = cut_before strength (marks_at table s line class i)

-- the pieces from a cut on: none at the line's end
unfoldable pub rest_from : List ℕ → ℕ → List ℕ → List ℕ → Cut → List (List ℕ)
rest_from table strength line class c =
    choose (ltb c.place (length line))
    ((get_or line c.place 0 ∷ (cuts_at table strength c.after line class (c.place + 1)).first)
    ∷ (cuts_at table strength c.after line class (c.place + 1)).rest)
    []

-- a line and its classes
pub record Breakable (line class : List ℕ) : Type 0 where
  pub short : length line < 2 ^ 31
  pub long : length line ≤ length class

pub record Cutting (strength : ℕ) (line class : List ℕ) (from : ℕ) (start : OpState) : Type 0 where
  pub some : strength ≡ 0 → ⊥
  pub within : from ≤ length line
  pub breaks : Breakable line class
  pub sound : Sound start from

-- c is the next cut from `from` on
pub record NextOp (table : List ℕ) (strength : ℕ) (line class : List ℕ) (from : ℕ) (start : OpState)
    (c : Cut) : Type 0 where
  pub after : from ≤ c.place
  pub fits : c.place ≤ length line
  pub first : (cuts_at table strength start line class from).first ≡ part line from c.place
  pub rest : (cuts_at table strength start line class from).rest ≡ rest_from table strength line class c
  pub sound : c.place < length line → Sound c.after (c.place + 1)

-- none of the strength stands before i
pub record Seeking (table : List ℕ) (strength : ℕ) (line class : List ℕ) (from : ℕ) (start s : OpState)
    (i : ℕ) : Type 0 where
  pub some : strength ≡ 0 → ⊥
  pub after : from ≤ i
  pub within : i ≤ length line
  pub breaks : Breakable line class
  pub sound : Sound s i
  pub first : (cuts_at table strength start line class from).first
      ≡ part line from i ++ (cuts_at table strength s line class i).first
  pub rest : (cuts_at table strength start line class from).rest ≡ (cuts_at table strength s line class i).rest

-- ---- the strength that a line is broken at

unfoldable pub break_strength : List ℕ → List Cell → ℕ
break_strength table cells =
    choose (has_word keywords cells) 0
    (choose (not (is_balanced cells)) 0
    (loosest (byte_marks table no_ops cells)))

-- the depth of brackets as the code holds it
abbrev pub depth_as : code.Option ℕ → Option ℕ
depth_as None = none
depth_as (Some d) = some d

-- that depth, or 0 where there is none
abbrev pub depth_of : code.Option ℕ → ℕ
depth_of None = 0
depth_of (Some d) = d

pub record Balances (depth : ℕ) (x : Cell) (r : code.Option ℕ) : Type 0 where
  pub is : depth_as r ≡ balance_step (some depth) x
  pub small : depth_of r ≤ depth + 1

-- at x a keyword ends that starts at `was`
abbrev pub keyword_ends : List ℕ → ℕ → ℕ → Cell → Bool
keyword_ends line was i x = not (in_word x) && one_of keywords (part line was i)

-- `was` is where the word that ends at i starts, and it is no keyword that ends; r says it at i + 1
pub record WordOn (line : List ℕ) (was i : ℕ) (x : Cell) (r : ℕ) : Type 0 where
  pub start : r ≤ i + 1
  pub word : reverse (part line r (i + 1)) ≡ word_on (reverse (part line was i)) x
  pub other : keyword_ends line was i x ≡ false

abbrev pub WordStep : List ℕ → ℕ → ℕ → Cell → code.Option ℕ → Type 0
WordStep line was i x None = keyword_ends line was i x ≡ true
WordStep line was i x (Some r) = WordOn line was i x r

-- a, b and c are the first bytes of a keyword, or the first two are one
abbrev pub starts_keyword : ℕ → ℕ → ℕ → Bool
starts_keyword a b c =
    (is "i" a && is "f" b) || (is "t" a && is "h" b && is "e" c) || (is "e" a && is "l" b && is "s" c)
    || (is "m" a && is "a" b && is "t" c) || (is "a" a && is "w" b && is "a" c)

abbrev pub keyword_starts_at : List ℕ → ℕ → Bool
keyword_starts_at line i = starts_keyword (get_or line i 0) (get_or line (i + 1) 0) (get_or line (i + 2) 0)

-- where r is false, no keyword stands in the line, whatever its classes
pub record NoKeyword (line : List ℕ) (r : Bool) : Type 0 where
  pub none : r ≡ false → (class : List ℕ) → length line ≤ length class
      → has_word keywords (cells_of line class) ≡ false

-- a is the strength of an operator, and it is looser than b
pub record TakesOver (a b : ℕ) : Type 0 where
  pub some : 0 < a
  pub less : 0 < b → a < b
  pub is : looser b a ≡ a

pub record IsLooser (a b : ℕ) (r : Bool) : Type 0 where
  pub taken : r ≡ true → TakesOver a b
  pub left : r ≡ false → looser b a ≡ b

-- the state of the operators, the loosest strength so far, 0 for none, and the first operator of that strength
pub record Loosest : Type 0 where
  pub ops : OpState
  pub strength : ℕ
  pub cut : Cut

-- what the first i bytes say of the operators of the whole line; no operator before i is looser than the one kept
pub record OpsAt (table line class : List ℕ) (b : Loosest) (i : ℕ) : Type 0 where
  pub within : i ≤ length line
  pub breaks : Breakable line class
  pub sound : Sound b.ops i
  pub loosest : loosest (marks_at table line_start line class 0)
      ≡ looser b.strength (loosest (marks_at table b.ops line class i))
  pub clear : (p : ℕ) → 0 < p → (0 < b.strength → p < b.strength) → Seeking table p line class 0 line_start b.ops i
  pub found : 0 < b.strength → NextOp table b.strength line class 0 line_start b.cut

-- what a pass knows before a byte: the operators, and the depth of brackets
pub record Pass : Type 0 where
  pub ops : Loosest
  pub depth : ℕ

-- the strength of what was found so far, 0 for nothing, and its cut, any for nothing
abbrev pub strength_of : code.Option Break → ℕ
strength_of None = 0
strength_of (Some b) = b.strength

abbrev pub cut_of : code.Option Break → Cut
cut_of None = record { place = 0; after = line_start }
cut_of (Some b) = b.cut

abbrev pub pass_at : OpState → ℕ → code.Option Break → Pass
pass_at s depth b = record { ops = record { ops = s; strength = strength_of b; cut = cut_of b }; depth = depth }

-- what is found has a strength
abbrev pub Strong : code.Option Break → Type 0
Strong None = Unit {0}
Strong (Some b) = b.strength ≡ 0 → ⊥

-- a line broken at what was found at i
abbrev pub broken_at : ℕ → ℕ → OpState → Break
broken_at i strength after = record { strength = strength; cut = record { place = i; after = after } }

-- what the first i bytes say of the whole line, which has no keyword
pub record Passing (table line class : List ℕ) (p : Pass) (i : ℕ) : Type 0 where
  pub ops : OpsAt table line class p.ops i
  pub deep : p.depth ≤ i
  pub words : has_word keywords (cells_of line class) ≡ false
  pub balance : is_balanced (cells_of line class)
      ≡ is_zero (foldl balance_step (some p.depth) (cells_of (drop i line) (drop i class)))

-- a line is broken so
pub record BreakAt (table line class : List ℕ) (r : Break) : Type 0 where
  pub strength : r.strength ≡ break_strength table (cells_of line class)
  pub some : r.strength ≡ 0 → ⊥
  pub cut : NextOp table r.strength line class 0 line_start r.cut

abbrev pub BreakFound : List ℕ → List ℕ → List ℕ → code.Option Break → Type 0
BreakFound table line class None = 0 ≡ break_strength table (cells_of line class)
BreakFound table line class (Some r) = BreakAt table line class r

-- what a pass over the whole line says
pub record PassEnd (depth : ℕ) (b r : code.Option Break) : Type 0 where
  pub found : (table line class : List ℕ) (s : OpState) → Passing table line class (pass_at s depth b) (length line)
      → Strong b → BreakFound table line class r

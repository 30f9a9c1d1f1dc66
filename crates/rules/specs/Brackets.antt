-- Brackets: the stack, one entry for each open bracket, the newest first; and the levels.
use Rattle.std.specs.Prelude.{ℕ, ◌+◌, Bool, true, false, not, leb, drop}
use mathlib.Core.List.{List, [], ◌∷◌, ◌++◌, foldl}
use Rattle.rules.specs.Basics.{choose, is, is_opener, is_closer, leading}
use Rattle.rules.specs.Scan.{Cell, is_code}

-- an entry of the stack: whether opening the bracket added a level, and the source line, from 0, of the opener
pub record Entry : Type 0 where
  pub adds : Bool
  pub line : ℕ

-- the closers that the line starts with
unfoldable pub leading_closers : List ℕ → ℕ
leading_closers line = leading is_closer line

-- Within a line, with its number: its net added count is `added` less `popped`.
pub record Open : Type 0 where
  pub line : ℕ
  pub added : ℕ
  pub popped : ℕ
  pub esc : Bool
  pub stack : List Entry

abbrev pub opened : ℕ → ℕ → ℕ → Bool → List Entry → Open
opened line added popped esc stack = record { line = line; added = added; popped = popped; esc = esc; stack = stack }

-- an opener adds a level only while the count is at most 0, and the count rises by one if it does
unfoldable pub push : Open → Open
push o =
    let adds = leb o.added o.popped in
    opened o.line (o.added + choose adds 1 0) o.popped false (record { adds = adds; line = o.line } ∷ o.stack)

-- a closer pops any opener, from any line, and the count falls by one if that added a level; on an empty stack it does
-- nothing
unfoldable pub pop_from : List Entry → Open → Open
pop_from [] o = opened o.line o.added o.popped false []
pop_from (e ∷ stack) o = opened o.line o.added (o.popped + choose e.adds 1 0) false stack

abbrev pub pop : Open → Open
pop o = pop_from o.stack o

-- whether the next character is escaped
abbrev pub escaped : Bool → Open → Open
escaped esc o = opened o.line o.added o.popped esc o.stack

unfoldable pub bracket_step : Open → Cell → Open
bracket_step o x =
    choose (not (is_code x.class)) o
    (choose o.esc (escaped false o)
    (choose (is "\\" x.ch) (escaped true o)
    (choose (is_opener x.ch) (push o)
    (choose (is_closer x.ch) (pop o)
    o))))

-- scan_brackets, of the line with this number: the net added count starts at 0
unfoldable pub scan_brackets : ℕ → List Cell → List Entry → List Entry
scan_brackets line cells stack = (foldl bracket_step (opened line 0 0 false stack) cells).stack

-- how many of the open brackets added a level
unfoldable pub levels : List Entry → ℕ
levels [] = 0
levels (e ∷ stack) = choose e.adds 1 0 + levels stack

-- a line in code: its n leading closers pop first, the rest is scanned
unfoldable pub count_brackets : ℕ → ℕ → List Cell → List Entry → List Entry
count_brackets line n cells stack = scan_brackets line (drop n cells) (drop n stack)

-- the lines of the brackets that are open, the oldest first
unfoldable pub open_lines : List Entry → List ℕ
open_lines [] = []
open_lines (e ∷ stack) = open_lines stack ++ (e.line ∷ [])

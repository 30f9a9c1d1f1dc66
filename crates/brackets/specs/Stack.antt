-- The stack of open brackets as it lies in scratch: from base on, the oldest first, three bytes for each.
use Rattle.std.specs.Prelude.{ℕ, zero, suc, ◌+◌, ◌-◌, ◌*◌, ◌/◌, ◌%◌, ◌≤◌, Bool, not, ◌||◌, true, List, [], ◌∷◌, ◌≡◌, eqb, ltb, length, get_or}
use Rattle.utf8.specs.Unicode.{within}
use Rattle.rules.specs.Basics.{choose, is_closer}
use Rattle.rules.specs.Brackets.{Entry, Open, levels}
use Rattle.rules.specs.Call.{listed}
use Rattle.rules.specs.Refusals.{max_source}
use Rattle.basics.specs.Region.{Only}
use Rattle.brackets.specs.declared.Nesting.{Nesting}
use Rattle.brackets.specs.declared.Tally.{Tally}

abbrev pub entry_size : ℕ
entry_size = 3

-- whether an entry with this first byte added a level
abbrev pub adds_of : ℕ → Bool
adds_of b = not (eqb (b % 2) 0)

-- the line that an entry's three bytes hold
abbrev pub line_of : ℕ → ℕ → ℕ → ℕ
line_of a b c = a / 2 * 65536 + b + c * 256

-- the entry that stands at p
unfoldable pub entry_at : List ℕ → ℕ → Entry
entry_at buf p =
    record { adds = adds_of (get_or buf p 0); line = line_of (get_or buf p 0) (get_or buf (p + 1) 0) (get_or buf (p + 2) 0) }

-- the stack of n entries, the newest first
unfoldable pub stacked : List ℕ → ℕ → ℕ → List Entry
stacked buf base zero = []
stacked buf base (suc n) = entry_at buf (base + entry_size * n) ∷ stacked buf base n

-- an entry fits at p
pub record EntryRoom (buf : List ℕ) (p line : ℕ) : Type 0 where
  pub place : p + entry_size ≤ length buf
  pub early : line ≤ max_source

-- it was written
pub record EntryPut (before : List ℕ) (p : ℕ) (adds : Bool) (line : ℕ) (after : List ℕ) : Type 0 where
  pub is : entry_at after p ≡ record { adds = adds; line = line }
  pub only : Only before after p (p + entry_size)

-- what stands at i in the list of the lines
abbrev pub line_at : List ℕ → ℕ → ℕ → ℕ → ℕ
line_at buf base depth i = choose (ltb i depth) (entry_at buf (base + entry_size * i)).line 0

-- the lines are listed, as many as fit into n, and r is how many there are
pub record Listed (lines : List ℕ) (n r : ℕ) (list : List ℕ) : Type 0 where
  pub holds : list ≡ listed n lines
  pub count : r ≡ length lines

-- The running value: the levels that b keeps are those of the stack that lies in buf. The line's number fits into an
-- entry.
pub record Nested (buf : List ℕ) (base : ℕ) (b : Nesting) : Type 0 where
  pub fits : base + entry_size * b.depth ≤ length buf
  pub runs : b.levels ≡ levels (stacked buf base b.depth)
  pub line : b.line ≤ max_source

-- n closers popped
pub record Popped (buf : List ℕ) (base : ℕ) (b : Nesting) (n : ℕ) (r : Nesting) : Type 0 where
  pub depth : r.depth ≡ b.depth - n
  pub nested : Nested buf base r
  pub line : r.line ≡ b.line

-- the code's tally, with the stack that lies in buf, is the rules' record o within a line
pub record Tallies (buf : List ℕ) (t : Tally) (o : Open) : Type 0 where
  pub stack : stacked buf 0 t.nesting.depth ≡ o.stack
  pub line : t.nesting.line ≡ o.line
  pub net : o.added + t.from ≡ o.popped + t.nesting.levels
  pub esc : t.esc ≡ o.esc

-- the ranges that the brackets and the backslash stand in
unfoldable pub may_turn : ℕ → Bool
may_turn c = within 40 41 c || within 91 93 c || within 123 125 c

abbrev pub turns_at : List ℕ → ℕ → Bool
turns_at s i = may_turn (get_or s i 0)

-- the byte at i is no closer
abbrev pub solid_at : List ℕ → ℕ → Bool
solid_at s i = not (is_closer (get_or s i 0))

-- there is room for one more
pub record StackRoom (buf : List ℕ) (t : Tally) : Type 0 where
  pub place : entry_size * t.nesting.depth + entry_size ≤ length buf
  pub runs : t.nesting.levels ≡ levels (stacked buf 0 t.nesting.depth)
  pub line : t.nesting.line ≤ max_source

-- one character
pub record Turned (g : Open → Open) (before : List ℕ) (t : Tally) (after : List ℕ) (u : Tally) : Type 0 where
  pub is : (o : Open) → Tallies before t o → Tallies after u (g o)
  pub runs : u.nesting.levels ≡ levels (stacked after 0 u.nesting.depth)
  pub depth : u.nesting.depth ≤ t.nesting.depth + 1
  pub line : u.nesting.line ≡ t.nesting.line
  pub only : Only before after 0 (entry_size * t.nesting.depth + entry_size)

-- the stack after an opener that adds a level, on the line with this number
abbrev pub opened_by : ℕ → List Entry → List Entry
opened_by line stack = record { adds = true; line = line } ∷ stack

-- the class bytes of n characters stand before the stack, which has room for n more
pub record StackFits (buf : List ℕ) (class n base : ℕ) (b : Nesting) : Type 0 where
  pub classes : class + n ≤ base
  pub stack : base + entry_size * (b.depth + n) ≤ length buf
  pub runs : b.levels ≡ levels (stacked buf base b.depth)
  pub line : b.line ≤ max_source

-- a line has a class byte for each byte, and the stack alone has room for as many more entries
pub record ScanFits (bytes class buf : List ℕ) (b : Nesting) : Type 0 where
  pub classes : length bytes ≤ length class
  pub stack : entry_size * (b.depth + length bytes) ≤ length buf
  pub runs : b.levels ≡ levels (stacked buf 0 b.depth)
  pub line : b.line ≤ max_source

-- a line of n characters: the stack s after it
pub record BracketsDone (before after : List ℕ) (base : ℕ) (b : Nesting) (n : ℕ) (s : List Entry)
    (r : Nesting) : Type 0 where
  pub is : stacked after base r.depth ≡ s
  pub runs : r.levels ≡ levels (stacked after base r.depth)
  pub most : r.depth ≤ b.depth + n
  pub line : r.line ≡ b.line
  pub only : Only before after base (base + entry_size * (b.depth + n))

-- How far a list of places is answered, and what each step of the reading does.
use Rattle.std.specs.Prelude.{ℕ, suc, ◌+◌, ◌-◌, ◌*◌, ◌≤◌, ◌<◌, ◌^◌, Bool, true, false, List, map, ◌⊎◌, ◌≡◌, eqb, length, get_or, take, drop, replicate, Option, Some, None, Result}
use Rattle.rules.specs.declared.Carry.{Carry}
use Rattle.rules.specs.declared.TextKind.{TextKind}
use Rattle.rules.specs.Scan.{begin, classify}
use Rattle.rules.specs.ClassBytes.{class_of, class_bytes}
use Rattle.rules.specs.Basics.{pieces, split_on}
use Rattle.rules.specs.Call.{filled}
use Rattle.rules.specs.declared.Refusal.{Refusal}
use Rattle.rules.specs.TextKind.{rust_lines, text_kind_at, class_kind, kind_number}
use Rattle.basics.specs.Depth.{carry_depth}
use Rattle.utf8.specs.Unicode.{decode}
use Rattle.utf8.specs.Places.{high_at}
use Rattle.text_kind.specs.Kind.{byte_kinds, kind_from}
use Rattle.text_kinds.specs.Places.{Place, place_at, places_in, ascending, kind_of_place, lines_asked, lines_classified}
use Rattle.text_kinds.specs.Places.{kinds_verdict, kinds_after, kinds_answer, kinds_left, kinds_of}
use Rattle.text_kinds.specs.declared.Progress.{Progress}
use Rattle.text_kinds.specs.declared.Kinds.{Kinds}

-- line and column of entry k, and how many whole entries a list has
abbrev pub line_of : List ℕ → ℕ → ℕ
line_of list k = get_or list (2 * k) 0

abbrev pub column_of : List ℕ → ℕ → ℕ
column_of list k = get_or list (2 * k + 1) 0

abbrev pub place_count : List ℕ → ℕ
place_count list = length (places_in list)

-- entry k of the list, or None past its last
pub record EntryAt (list : List ℕ) (k : ℕ) (r : Option Place) : Type 0 where
  pub some : (p : Place) → r ≡ Some p → (k < place_count list) × (p ≡ place_at (line_of list k) (column_of list k))
  pub none : r ≡ None → place_count list ≤ k

-- r tells whether entry k is this place
pub record IsPlace (list : List ℕ) (k line column : ℕ) (r : Bool) : Type 0 where
  pub there : r ≡ true → k < place_count list
  pub same_line : r ≡ true → line_of list k ≡ line
  pub same_column : r ≡ true → column_of list k ≡ column
  pub other : r ≡ false → k < place_count list → line_of list k ≡ line → column_of list k ≡ column → ⊥

-- r tells whether entry k is on this line
pub record IsOn (list : List ℕ) (k line : ℕ) (r : Bool) : Type 0 where
  pub there : r ≡ true → k < place_count list
  pub same_line : r ≡ true → line_of list k ≡ line
  pub other : r ≡ false → k < place_count list → line_of list k ≡ line → ⊥

-- a place is not before another: it is on a later line, or on the same one at no smaller column
abbrev pub From : ℕ → ℕ → ℕ → ℕ → Type 0
From line column l c = (line < l) ⊎ ((line ≡ l) × (column ≤ c))

-- entry k, if there is one, is not before this place
pub record Ahead (list : List ℕ) (line column k : ℕ) : Type 0 where
  pub from : k < place_count list → From line column (line_of list k) (column_of list k)

-- The first k places have their kinds, the rest of the answers is zeros; the lines of these places are fewer than
-- `lines`.
pub record Filled (f : Place → ℕ) (list : List ℕ) (lines k : ℕ) (kinds : List ℕ) : Type 0 where
  pub within : k ≤ place_count list
  pub room : place_count list ≤ length kinds
  pub front : take k kinds ≡ map f (take k (places_in list))
  pub back : drop k kinds ≡ replicate (length kinds - k) 0
  pub passed : lines_asked (take k (places_in list)) ≤ lines

-- the list is in order, and there is an answer for each place
pub record Listed (list kinds : List ℕ) : Type 0 where
  pub order : ascending (places_in list) ≡ true
  pub room : place_count list ≤ length kinds

-- all places from entry k on that are this one have the answer `kind`
pub record Answered (list : List ℕ) (line column kind k : ℕ) (kinds : List ℕ) (next : ℕ)
    (kinds' : List ℕ) : Type 0 where
  pub long : length kinds' ≡ length kinds
  pub filled : (f : Place → ℕ) → f (place_at line column) ≡ kind
      → Filled f list (suc line) k kinds → Filled f list (suc line) next kinds'
  pub ahead : Ahead list line column k → Ahead list line (suc column) next

-- all places of this line, from entry k on, are passed over: they stand at the column or behind it, where nothing is
pub record PassedOver (list : List ℕ) (line k next : ℕ) : Type 0 where
  pub filled : (f : Place → ℕ) (kinds : List ℕ) (column : ℕ) → Ahead list line column k
      → ((c : ℕ) → column ≤ c → f (place_at line c) ≡ 0)
      → Filled f list (suc line) k kinds → Filled f list (suc line) next kinds
  pub ahead : (column : ℕ) → Ahead list line column k → Ahead list (suc line) 0 next

-- a line before which `carry` is open, with so many bytes
pub record Shallow (carry : Carry) (n : ℕ) : Type 0 where
  pub deep : carry_depth carry + n + 1 < 2 ^ 32

-- the number of the kind at a column of a line before which y is open
abbrev pub kind_number_at : Carry → List ℕ → ℕ → ℕ
kind_number_at y line c = kind_number (get_or (byte_kinds (begin y) line) c TextKind.Code)

-- all places of a line, from entry k on, are answered
pub record LineAnswered (line : List ℕ) (carry : Carry) (number : ℕ) (list : List ℕ) (k : ℕ) (kinds : List ℕ)
    (next : ℕ) (kinds' : List ℕ) : Type 0 where
  pub long : length kinds' ≡ length kinds
  pub filled : (f : Place → ℕ) → ((c : ℕ) → f (place_at number c) ≡ kind_number_at carry line c)
      → Filled f list (suc number) k kinds → Filled f list (suc number) next kinds'
  pub ahead : Ahead list (suc number) 0 next

-- ---- kinds by class bytes

-- the test p fails at each place from `at` up to `to`
pub record Without (p : ℕ → Bool) (at to : ℕ) : Type 0 where
  pub none : (j : ℕ) → at ≤ j → j < to → p j ≡ false

-- the byte at i is `$`
abbrev pub dollar_at : List ℕ → ℕ → Bool
dollar_at s i = eqb (get_or s i 0) 36

-- the class bytes of a line, before which y is open, stand at the front of a buffer
pub record ClassesIn (y : Carry) (line class : List ℕ) : Type 0 where
  pub bytes : take (length line) class ≡ class_bytes (classify y line)

-- the kind that a class byte stands for outside `${..}`
abbrev pub kind_of_class : ℕ → TextKind
kind_of_class b = class_kind (class_of b) false

-- what is known of a line with its class bytes: the first a bytes are ASCII, and the first d are no `$`
pub record Tells (line class : List ℕ) (a d : ℕ) : Type 0 where
  pub room : length line ≤ length class
  pub ascii : Without (high_at line) 0 a
  pub clear : Without (dollar_at line) 0 d

-- `kind` is the kind at a column, or None; the line's first d bytes are no `$`
pub record KindTold (line class : List ℕ) (column : ℕ) (kind : Option TextKind) (d : ℕ) : Type 0 where
  pub told : (k : TextKind) → kind ≡ Some k → (y : Carry) → ClassesIn y line class
      → kind_number k ≡ kind_number_at y line column
  pub clear : Without (dollar_at line) 0 d

-- the places of a line from entry k up to `next` are answered, if the buffer has the line's class bytes
pub record PartAnswered (line class : List ℕ) (number : ℕ) (list : List ℕ) (k : ℕ) (kinds : List ℕ) (next : ℕ)
    (kinds' : List ℕ) : Type 0 where
  pub long : length kinds' ≡ length kinds
  pub filled : (y : Carry) → ClassesIn y line class
      → (f : Place → ℕ) → ((c : ℕ) → f (place_at number c) ≡ kind_number_at y line c)
      → Filled f list (suc number) k kinds → Filled f list (suc number) next kinds'
  pub ahead : Ahead list number 0 k → Ahead list number 0 next

-- how many lines a text has, as Rust's `lines` cuts them
abbrev pub line_count : List ℕ → ℕ
line_count s = length (rust_lines (pieces (split_on "\n" s)))

-- So far is the source read: every place before entry `next` has its kind, and none of the others is before the line.
pub record Read (source list kinds : List ℕ) (p : Progress) : Type 0 where
  pub within : p.at ≤ length source + 1
  pub depth : carry_depth p.carry ≤ p.at
  pub small : p.lines ≤ p.at
  pub same : (n c : ℕ) → text_kind_at (decode source) (p.lines + n) c ≡ kind_from p.carry (drop p.at source) n c
  pub count : line_count source ≡ p.lines + line_count (drop p.at source)
  pub asked : p.lines ≤ lines_asked (places_in list)
  pub answers : Filled (kind_of_place (decode source)) list p.lines p.next kinds
  pub ahead : Ahead list p.lines 0 p.next
  pub plain : Without (high_at source) p.at p.ascii

-- the kinds of all places, then zeros, in n bytes; r is the number of lines classified
pub record KindsFound (source list : List ℕ) (n r : ℕ) (kinds : List ℕ) : Type 0 where
  pub lines : r ≡ lines_classified (decode source) (places_in list)
  pub answers : kinds ≡ filled n (kinds_of source list)

-- the outcome r, and the answer bytes
pub record KindsRan (source list : List ℕ) (room scratch : ℕ) (r : Result ℕ Refusal) (kinds : List ℕ) : Type 0 where
  pub outcome : r ≡ kinds_after (kinds_verdict source list room scratch) (lines_classified (decode source) (places_in list))
  pub answers : kinds ≡ kinds_left (kinds_verdict source list room scratch) room (kinds_of source list)

-- the answer r, and the answer bytes
pub record KindsGiven (source list : List ℕ) (room scratch : ℕ) (r : Kinds) (kinds : List ℕ) : Type 0 where
  pub answer : r ≡ kinds_answer (kinds_after (kinds_verdict source list room scratch) (lines_classified (decode source) (places_in list)))
  pub answers : kinds ≡ kinds_left (kinds_verdict source list room scratch) room (kinds_of source list)

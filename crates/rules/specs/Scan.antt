-- scan.rs: what each character of a line is part of, and what is still open after the line. A line is read as a row of
-- marks, from left to right. `mark_at m s` is the mark at the head of s in mode m: how many characters it has after its
-- first, what they are part of, and the mode after it.
use Rattle.std.specs.Prelude.{ℕ, zero, suc, ◌+◌, ◌-◌, Bool, true, false, ◌&&◌, List, [], ◌∷◌, leb}
use Rattle.rules.specs.Basics.{choose, starts_with, at}
use Rattle.rules.specs.declared.Class.{Class}
use Rattle.rules.specs.declared.Carry.{Carry}
use Rattle.rules.specs.declared.Mode.{Mode}
use Rattle.rules.specs.declared.Mark.{Mark}

-- a mark of n + 1 characters of class k, with the mode m after it
abbrev pub long : ℕ → Class → Mode → Mark
long n k m = record { more = n; class = k; mode = m }

-- a mark of one character
abbrev pub one : Class → Mode → Mark
one k m = long 0 k m

-- the quote that ends a string: 34, ", or 39, '
abbrev pub quote : Bool → ℕ
quote true = 34
quote false = 39

abbrev pub at_quote : List ℕ → Bool → Bool
at_quote s q = starts_with s (quote q ∷ [])

-- in code: a backslash escapes one character; quotes open a string; `//`, `/*` and $``` open what they open
unfoldable pub in_code : List ℕ → Mark
in_code s =
    choose (at s "\\") (long 1 Class.Code Mode.Code)
    (choose (at s "\"") (one Class.Str (Mode.Quoted true))
    (choose (at s "'") (one Class.Str (Mode.Quoted false))
    (choose (at s "//") (one Class.LineComment Mode.Line)
    (choose (at s "/*") (long 1 Class.BlockComment (Mode.Block 1))
    (choose (at s "$```") (long 3 Class.Prefab Mode.Prefab)
    (one Class.Code Mode.Code))))))

-- in a string that the quote q ends
unfoldable pub in_quoted : Bool → List ℕ → Mark
in_quoted q s =
    choose (at s "\\") (long 1 Class.Str (Mode.Quoted q))
    (choose (at s "${") (long 1 Class.Str (Mode.Interp q 1))
    (choose (at_quote s q) (one Class.Str Mode.Code)
    (one Class.Str (Mode.Quoted q))))

-- in d nested braces of a `${` in a string that q ends (interp_len)
unfoldable pub in_interp : Bool → ℕ → List ℕ → Mark
in_interp q d s =
    choose (at s "\\") (long 1 Class.Str (Mode.Interp q d))
    (choose (at s "\"") (one Class.Str (Mode.Inner q d true))
    (choose (at s "'") (one Class.Str (Mode.Inner q d false))
    (choose (at s "{") (one Class.Str (Mode.Interp q (d + 1)))
    (choose (at s "}") (choose (leb d 1) (one Class.Str (Mode.Quoted q)) (one Class.Str (Mode.Interp q (d - 1))))
    (one Class.Str (Mode.Interp q d))))))

-- in a string inside a `${`, which k ends
unfoldable pub in_inner : Bool → ℕ → Bool → List ℕ → Mark
in_inner q d k s =
    choose (at s "\\") (long 1 Class.Str (Mode.Inner q d k))
    (choose (at_quote s k) (one Class.Str (Mode.Interp q d))
    (one Class.Str (Mode.Inner q d k)))

-- in d nested block comments
unfoldable pub in_block : ℕ → List ℕ → Mark
in_block d s =
    choose (at s "/*") (long 1 Class.BlockComment (Mode.Block (d + 1)))
    (choose (at s "*/")
    (choose (leb d 1) (long 1 Class.BlockComment Mode.Code) (long 1 Class.BlockComment (Mode.Block (d - 1))))
    (one Class.BlockComment (Mode.Block d)))

-- in a prefab, to ```
unfoldable pub in_prefab : List ℕ → Mark
in_prefab s = choose (at s "```") (long 2 Class.Prefab Mode.Code) (one Class.Prefab Mode.Prefab)

abbrev pub mark_at : Mode → List ℕ → Mark
mark_at Mode.Code s = in_code s
mark_at (Mode.Quoted q) s = in_quoted q s
mark_at (Mode.Interp q d) s = in_interp q d s
mark_at (Mode.Inner q d k) s = in_inner q d k s
mark_at Mode.Line s = one Class.LineComment Mode.Line
mark_at (Mode.Block d) s = in_block d s
mark_at Mode.Prefab s = in_prefab s

-- the class of a character that means nothing in mode m
abbrev pub ordinary : Mode → Class
ordinary Mode.Code = Class.Code
ordinary (Mode.Quoted q) = Class.Str
ordinary (Mode.Interp q d) = Class.Str
ordinary (Mode.Inner q d k) = Class.Str
ordinary Mode.Line = Class.LineComment
ordinary (Mode.Block d) = Class.BlockComment
ordinary Mode.Prefab = Class.Prefab

-- one character on: the rest of the mark, or the next mark
abbrev pub next_of : ℕ → Class → Mode → List ℕ → Mark
next_of zero k m s = mark_at m s
next_of (suc n) k m s = long n k m

abbrev pub next : Mark → List ℕ → Mark
next t s = next_of t.more t.class t.mode s

-- a character and what it is part of
pub record Cell : Type 0 where
  pub ch : ℕ
  pub class : Class

abbrev pub cell : ℕ → Class → Cell
cell c k = record { ch = c; class = k }

unfoldable pub chars_of : List Cell → List ℕ
chars_of [] = []
chars_of (x ∷ xs) = x.ch ∷ chars_of xs

unfoldable pub classes_of : List Cell → List Class
classes_of [] = []
classes_of (x ∷ xs) = x.class ∷ classes_of xs

-- the characters of s with their classes; t is the mark before them
unfoldable pub scan : Mark → List ℕ → List Cell
scan t [] = []
scan t (c ∷ s) = cell c (next t (c ∷ s)).class ∷ scan (next t (c ∷ s)) s

-- the mark at the end of s
unfoldable pub final : Mark → List ℕ → Mark
final t [] = t
final t (c ∷ s) = final (next t (c ∷ s)) s

-- before a line's first character
abbrev pub mode_of : Carry → Mode
mode_of Carry.Code = Mode.Code
mode_of (Carry.Block d) = Mode.Block d
mode_of Carry.Prefab = Mode.Prefab

abbrev pub begin : Carry → Mark
begin y = one Class.Code (mode_of y)

-- what is still open after a line that ends in mode m: a string and a line comment end with it
abbrev pub open_after : Mode → Carry
open_after Mode.Code = Carry.Code
open_after (Mode.Quoted q) = Carry.Code
open_after (Mode.Interp q d) = Carry.Code
open_after (Mode.Inner q d k) = Carry.Code
open_after Mode.Line = Carry.Code
open_after (Mode.Block d) = Carry.Block d
open_after Mode.Prefab = Carry.Prefab

unfoldable pub classify : Carry → List ℕ → List Cell
classify carry line = scan (begin carry) line

unfoldable pub carry_after : Carry → List ℕ → Carry
carry_after carry line = open_after (final (begin carry) line).mode

abbrev pub is_code : Class → Bool
is_code Class.Code = true
is_code Class.Str = false
is_code Class.LineComment = false
is_code Class.BlockComment = false
is_code Class.Prefab = false

abbrev pub is_str : Class → Bool
is_str Class.Code = false
is_str Class.Str = true
is_str Class.LineComment = false
is_str Class.BlockComment = false
is_str Class.Prefab = false

abbrev pub is_line_comment : Class → Bool
is_line_comment Class.Code = false
is_line_comment Class.Str = false
is_line_comment Class.LineComment = true
is_line_comment Class.BlockComment = false
is_line_comment Class.Prefab = false

abbrev pub is_code_or_str : Class → Bool
is_code_or_str Class.Code = true
is_code_or_str Class.Str = true
is_code_or_str Class.LineComment = false
is_code_or_str Class.BlockComment = false
is_code_or_str Class.Prefab = false

abbrev pub is_prefab : Class → Bool
is_prefab Class.Code = false
is_prefab Class.Str = false
is_prefab Class.LineComment = false
is_prefab Class.BlockComment = false
is_prefab Class.Prefab = true

-- before the first character that passes the test, and from it on
unfoldable pub before : (Cell → Bool) → List Cell → List Cell
before p [] = []
before p (x ∷ xs) = let r = before p xs in choose (p x) [] (x ∷ r)

unfoldable pub from : (Cell → Bool) → List Cell → List Cell
from p [] = []
from p (x ∷ xs) = let r = from p xs in choose (p x) (x ∷ xs) r

-- code_end: before the line's `//` comment, and from it on
abbrev pub in_comment : Cell → Bool
in_comment x = is_line_comment x.class

abbrev pub code_part : List Cell → List Cell
code_part cells = before in_comment cells

abbrev pub comment_part : List Cell → List Cell
comment_part cells = from in_comment cells

-- all characters of the line are code or string
unfoldable pub all_code_or_str : List Cell → Bool
all_code_or_str [] = true
all_code_or_str (x ∷ xs) = is_code_or_str x.class && all_code_or_str xs

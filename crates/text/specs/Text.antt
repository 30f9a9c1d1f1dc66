-- The text as its lines, the newest first, joined by the ending `eol`; and what the code holds of it.
use Rattle.std.specs.Prelude.{ℕ, ◌+◌, ◌≤◌, ◌^◌, Bool, true, false, List, [], ◌∷◌, ◌++◌, ◌≡◌, eqb, length, replicate}
use Rattle.utf8.specs.Unicode.{encode, decode, size, trim_end, WellFormed}
use Rattle.utf8.specs.Places.{TrimmedEnd}
use Rattle.compare.specs.Common.{Keeps}
use Rattle.check_rules.specs.Check.{settled_lines, closed}
use Rattle.rules.specs.Basics.{choose, is, last_is}
use Rattle.rules.specs.Assembly.{joined, drop_empty}
use Rattle.rules.specs.Line.{drop_blank}
use Rattle.rules.specs.Else.{joinable, can_join, join_else}
use Rattle.rules.specs.Call.{filled}
use Rattle.text.specs.declared.Last.{Last}
use Rattle.text.specs.declared.Last.TheVariants.{Nothing, Empty, Joinable, Other}
use Rattle.text.specs.declared.Written.{Written}

-- a place that no text of a source reaches: what is written next fits below 2 ^ 64
abbrev pub far_place : ℕ
far_place = 2 ^ 60

-- the newest line trimmed at its end
unfoldable pub trim_newest : List (List ℕ) → List (List ℕ)
trim_newest [] = []
trim_newest (l ∷ ls) = trim_end l ∷ ls

abbrev pub newest_by : ℕ → Bool → Last
newest_by long joins = choose joins Joinable (choose (eqb long 0) Empty Other)

unfoldable pub newest_of : List (List ℕ) → Last
newest_of [] = Nothing
newest_of (l ∷ ls) = newest_by (size l) (joinable l)

abbrev pub is_first : Last → Bool
is_first Nothing = true
is_first Empty = false
is_first Joinable = false
is_first Other = false

abbrev pub is_joinable : Last → Bool
is_joinable Nothing = false
is_joinable Empty = false
is_joinable Joinable = true
is_joinable Other = false

-- what stands between a line and the next: nothing before the first
abbrev pub sep_by : List ℕ → Bool → List ℕ
sep_by eol first = choose first [] eol

abbrev pub sep_of : List ℕ → Last → List ℕ
sep_of eol last = sep_by eol (is_first last)

abbrev pub kept_lines : Bool → List (List ℕ) → List (List ℕ)
kept_lines drops ls = choose drops (drop_blank ls) ls

abbrev pub alone_after : ℕ → Bool → Bool
alone_after long first = choose (eqb long 0) first false

-- the length of a line trimmed at its end: pad blanks, and then a line whose trimmed length is tail
abbrev pub tail_of : ℕ → ℕ → ℕ
tail_of pad tail = choose (eqb tail 0) 0 (pad + tail)

abbrev pub full_of : ℕ → ℕ → ℕ → ℕ
full_of long full at = choose (eqb long 0) full at

-- before anything is written
abbrev pub nothing : Written
nothing = record { at = record { 0 = 0 }; cut = 0; full = 0; below = 0; alone = true; last = Nothing; settled = 0 }

-- after several lines that reach up to next, of which the newest, from `last` on, is trimmed and not empty
abbrev pub after_lines : ℕ → ℕ → Bool → Written
after_lines last next joins =
    record {
      at = record { 0 = next };
      cut = next;
      full = next;
      below = next;
      alone = false;
      last = newest_by 1 joins;
      settled = last;
    }

-- what the caller tells of a line: its length trimmed at its end, and whether it can take an else
pub record Line (line : List ℕ) (tail : ℕ) (joins : Bool) : Type 0 where
  pub well : WellFormed line
  pub trims : TrimmedEnd line tail
  pub takes : joins ≡ joinable (decode line)

-- a trimmed else, and whether it ends in `}`
pub record ElseLine (line : List ℕ) (joins : Bool) : Type 0 where
  pub well : WellFormed line
  pub trimmed : trim_end (decode line) ≡ decode line
  pub some : 1 ≤ length line
  pub takes : joins ≡ last_is (is "}") (decode line)

-- The code's record t and `out`, an output or what a comparison with the model keeps, hold the text whose lines are ls:
-- lengths are in bytes.
pub record Text (model eol : List ℕ) (ls : List (List ℕ)) (t : Written) (out : List ℕ) : Type 0 where
  pub at : t.at.0 ≡ size (joined eol ls)
  pub holds : Keeps model out (encode (joined eol ls))
  pub cut : t.cut ≡ size (joined eol (trim_newest ls))
  pub full : t.full ≡ size (joined eol (drop_empty ls))
  pub last : t.last ≡ newest_of ls
  pub below : t.below ≡ size (joined eol (drop_blank ls))
  pub alone : t.alone ≡ is_first (newest_of (drop_blank ls))
  pub settles : t.settled ≡ size (closed eol (settled_lines ls))

-- the lengths after a step that adds at most n bytes
pub record Grown (t : Written) (n : ℕ) (u : Written) : Type 0 where
  pub at : u.at.0 ≤ t.at.0 + n
  pub cut : u.cut ≤ u.at.0
  pub full : u.full ≤ u.below
  pub below : u.below ≤ u.at.0

-- the lengths are in order
pub record Ordered (t : Written) : Type 0 where
  pub cut : t.cut ≤ t.at.0
  pub full : t.full ≤ t.below
  pub below : t.below ≤ t.at.0

-- where a line is written
pub record From (drops : Bool) (t : Written) (r : ℕ) : Type 0 where
  pub is : r ≡ choose drops t.below t.at.0
  pub small : r ≤ t.at.0

-- a line l of characters is added, after an empty newest line is dropped if `drops` says so
pub record Adds (eol : List ℕ) (drops : Bool) (l model out : List ℕ) (t : Written) (out' : List ℕ)
    (u : Written) : Type 0 where
  pub text : (ls : List (List ℕ)) → Text model eol ls t out → Text model eol (l ∷ kept_lines drops ls) u out'
  pub grown : Grown t (size l + 2) u

-- an else, trimmed, is joined to the newest line
pub record Joins (line model out : List ℕ) (t : Written) (out' : List ℕ) (u : Written) : Type 0 where
  pub text : (eol : List ℕ) (ls : List (List ℕ)) → Text model eol ls t out → can_join ls ≡ true
      → Text model eol (join_else line ls) u out'
  pub grown : Grown t (size line + 1) u

-- the separator before new lines was written; the first of them starts at r
pub record Continued (eol : List ℕ) (drops : Bool) (model out : List ℕ) (t : Written) (out' : List ℕ)
    (r : ℕ) : Type 0 where
  pub place : (ls : List (List ℕ)) → Text model eol ls t out
      → r ≡ size (joined eol (kept_lines drops ls) ++ sep_of eol (newest_of (kept_lines drops ls)))
  pub holds : (ls : List (List ℕ)) → Text model eol ls t out
      → Keeps model out' (encode (joined eol (kept_lines drops ls) ++ sep_of eol (newest_of (kept_lines drops ls))))
  pub small : r ≤ t.at.0 + 2

-- the last ending was written: the text's length, and the text
pub record Ended (eol rest model out : List ℕ) (t : Written) (out' : List ℕ) (r : ℕ) : Type 0 where
  pub long : (ls : List (List ℕ)) → Text model eol ls t out → r ≡ size (joined eol (drop_empty ls) ++ rest)
  pub text : (ls : List (List ℕ)) → Text model eol ls t out
      → Keeps model out' (encode (joined eol (drop_empty ls) ++ rest))
  pub room : length out' ≡ length out

-- the text is finished: its length, and the output, which is the text and then zeros, or all zeros where it does not
-- fit
pub record Finished (eol rest out : List ℕ) (t : Written) (out' : List ℕ) (r : ℕ) : Type 0 where
  pub long : (ls : List (List ℕ)) → Text [] eol ls t out → r ≡ size (joined eol (drop_empty ls) ++ rest)
  pub text : (ls : List (List ℕ)) → Text [] eol ls t out → r ≤ length out
      → out' ≡ filled (length out) (encode (joined eol (drop_empty ls) ++ rest))
  pub zeros : length out + 1 ≤ r → out' ≡ replicate (length out) 0

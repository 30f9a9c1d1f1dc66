-- What the functions that read a stretch of a line ask of their caller, and what they do.
use Rattle.std.specs.Prelude.{ℕ, ◌+◌, ◌^◌, ◌<◌, ◌≤◌, Bool, ◌||◌, ◌≡◌, List, ◌++◌, length, take, drop, get_or}
use Rattle.rules.specs.declared.Class.{Class}
use Rattle.rules.specs.declared.Carry.{Carry}
use Rattle.rules.specs.declared.Mode.{Mode}
use Rattle.rules.specs.declared.Mark.{Mark}
use Rattle.rules.specs.Basics.{is}
use Rattle.rules.specs.Scan.{long, one, mark_at, scan, final, open_after, begin}
use Rattle.rules.specs.ClassBytes.{class_byte, class_bytes}
use Rattle.scan.specs.declared.Stop.{Stop}
use Rattle.basics.specs.Depth.{carry_depth}

-- a byte at which a mark of code can start that is not one character of code
unfoldable pub starts_in_code : ℕ → Bool
starts_in_code b = is "\\" b || is "\"" b || is "'" b || is "/" b || is "$" b

-- and a byte at which a mark of a string may start that is not one character of it
unfoldable pub stops_string : ℕ → Bool
stops_string b = is "\\" b || is "\"" b || is "'" b || is "$" b

-- and a byte at which a mark of a block comment may start that is not one character of it
abbrev pub turns_comment : ℕ → Bool
turns_comment b = is "/" b || is "*" b

-- `at` is a place of the line or its end, and its class bytes have room
pub record Room (line : List ℕ) (at : ℕ) (class : List ℕ) : Type 0 where
  pub within : at ≤ length line
  pub room : length line ≤ length class

-- `at` is a place of the line
pub record Inside (line : List ℕ) (at : ℕ) (class : List ℕ) : Type 0 where
  pub inside : at < length line
  pub room : length line ≤ length class

-- the byte b stands there
pub record At (b : ℕ) (line : List ℕ) (at : ℕ) (class : List ℕ) : Type 0 where
  pub inside : at < length line
  pub byte : get_or line at 0 ≡ b
  pub room : length line ≤ length class

-- and d comments may be open there: what the rest of the line opens can be counted
pub record Deep (d : ℕ) (line : List ℕ) (at : ℕ) (class : List ℕ) : Type 0 where
  pub inside : at < length line
  pub room : length line ≤ length class
  pub few : d + length line + 1 < 2 ^ 32 + at

-- before a mark, in mode m
abbrev pub fresh : Mode → Mark
fresh m = one Class.Code m

-- from place a to place e, in class bytes that stay as many
pub record Moved (line : List ℕ) (a : ℕ) (before : List ℕ) (e : ℕ) (after : List ℕ) : Type 0 where
  pub on : a ≤ e
  pub within : e ≤ length line
  pub as_long : length after ≡ length before

-- The mark t stands before place a of the line. From there to place e the class bytes were written, and u is the mark
-- before e: the classes of the rest of the line, and what is open after it, are those that follow u. Nothing is written
-- past the line.
pub record Scanned (line : List ℕ) (t : Mark) (a : ℕ) (before : List ℕ) (u : Mark) (e : ℕ)
    (after : List ℕ) : Type 0 where
  pub moved : Moved line a before e after
  pub bytes : take a before ++ class_bytes (scan t (drop a line)) ≡ take e after ++ class_bytes (scan u (drop e line))
  pub carry : open_after (final t (drop a line)).mode ≡ open_after (final u (drop e line)).mode
  pub beyond : drop (length line) after ≡ drop (length line) before

-- over a mark of two bytes of the class byte k at place a, or its first byte at the line's end
pub record PairRead (line : List ℕ) (a k : ℕ) (before : List ℕ) (e : ℕ) (after : List ℕ) : Type 0 where
  pub moved : Moved line (a + 1) before e after
  pub scanned : (m u : Mode) (x : Class) → k ≡ class_byte x → mark_at m (drop a line) ≡ long 1 x u
      → Scanned line (fresh m) a before (fresh u) e after

-- over the rest of a string inside a `${`, which k ends, wherever the `${` stands
pub record InnerRead (line : List ℕ) (a : ℕ) (k : Bool) (before : List ℕ) (e : ℕ) (after : List ℕ) : Type 0 where
  pub moved : Moved line a before e after
  pub scanned : (q : Bool) (d : ℕ) → Scanned line (fresh (Mode.Inner q d k)) a before (fresh (Mode.Interp q d)) e after

-- over the rest of a `${..}`, whichever string it stands in
pub record InterpRead (line : List ℕ) (a : ℕ) (before : List ℕ) (e : ℕ) (after : List ℕ) : Type 0 where
  pub moved : Moved line a before e after
  pub scanned : (q : Bool) → Scanned line (fresh (Mode.Interp q 1)) a before (fresh (Mode.Quoted q)) e after

-- over bytes of a string, whichever quote ends it
pub record PlainString (line : List ℕ) (a : ℕ) (before : List ℕ) (e : ℕ) (after : List ℕ) : Type 0 where
  pub moved : Moved line a before e after
  pub scanned : (q : Bool) → Scanned line (fresh (Mode.Quoted q)) a before (fresh (Mode.Quoted q)) e after

-- over bytes of block comments, however many are open
pub record PlainComment (line : List ℕ) (a : ℕ) (before : List ℕ) (e : ℕ) (after : List ℕ) : Type 0 where
  pub moved : Moved line a before e after
  pub scanned : (d : ℕ) → Scanned line (fresh (Mode.Block d)) a before (fresh (Mode.Block d)) e after

-- from a `$` in a string on
pub record DollarRead (line : List ℕ) (a : ℕ) (before : List ℕ) (e : ℕ) (after : List ℕ) : Type 0 where
  pub moved : Moved line (a + 1) before e after
  pub scanned : (q : Bool) → Scanned line (fresh (Mode.Quoted q)) a before (fresh (Mode.Quoted q)) e after

-- The same between places where code, a comment or a prefab begins or goes on; and no more comments are opened than
-- there are bytes.
pub record Stretch (line : List ℕ) (y : Carry) (a : ℕ) (before : List ℕ) (r : Stop) (after : List ℕ) : Type 0 where
  pub scanned : Scanned line (begin y) a before (begin r.carry) r.at after
  pub further : a < r.at
  pub depth : carry_depth r.carry + a ≤ carry_depth y + r.at

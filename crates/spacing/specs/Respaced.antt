-- The respaced line, written into a slice.
use Rattle.std.specs.Prelude.{ℕ, Option, Some, None, ◌+◌, ◌*◌, ◌≤◌, ◌<◌, Bool, true, false, not, ◌&&◌, ◌||◌, ◌≡◌, eqb, length, get_or, take, drop}
use mathlib.Core.List.{List, foldl}
use Rattle.rules.specs.Basics.{is_blank, is_closer}
use Rattle.rules.specs.Scan.{Cell}
use Rattle.rules.specs.ClassBytes.{cells_of}
use Rattle.rules.specs.Spacing.{Spaced, spaced, trim_blanks, space_step, normalize_spacing}
use Rattle.rules.specs.declared.Gap.{Gap}
use Rattle.basics.specs.Region.{Only}
use Rattle.spacing.specs.declared.Respaced.{Respaced}

-- the text so far, and what its last character was
abbrev pub spaced_at : List ℕ → Respaced → Spaced
spaced_at buf t = spaced (take t.len buf) t.gap

-- its first r bytes are the text without the blanks at its end
pub record Trimmed (text : List ℕ) (r : ℕ) : Type 0 where
  pub is : take r text ≡ trim_blanks text
  pub most : r ≤ length text

-- a step from a text of n bytes to w, which writes at most `more` bytes
pub record Wrote (w : Spaced) (more : ℕ) (before : List ℕ) (n : ℕ) (after : List ℕ) (r : Respaced) : Type 0 where
  pub is : spaced_at after r ≡ w
  pub most : r.len ≤ n + more
  pub only : Only before after 0 (n + more)

-- a character c that is put as it is, whatever its class
pub record Plain (c : ℕ) (gap : Gap) (r : Bool) : Type 0 where
  pub yes : r ≡ true → (gap ≡ Gap.Nothing) × ((c ≡ 92 → ⊥) × ((c ≡ 44 → ⊥) × (c ≡ 32 → ⊥)))

-- a character c that is left out, a space after a space
pub record Dropped (c : ℕ) (gap : Gap) (r : Bool) : Type 0 where
  pub yes : r ≡ true → (gap ≡ Gap.Space) × (c ≡ 32)

-- the byte at i is no space
abbrev pub other_at : List ℕ → ℕ → Bool
other_at line i = not (eqb (get_or line i 0) 32)

-- n bytes have a class byte each, and there is room for twice as many
pub record Room (n : ℕ) (class out : List ℕ) : Type 0 where
  pub classes : n ≤ length class
  pub room : 2 * n ≤ length out

-- the text t of n bytes stands at the front
pub record Copied (t before after : List ℕ) (n : ℕ) : Type 0 where
  pub is : take n after ≡ t
  pub only : Only before after 0 n

-- the respaced line has r bytes, at the front
pub record Normalized (cells : List Cell) (before after : List ℕ) (n r : ℕ) : Type 0 where
  pub is : take r after ≡ normalize_spacing cells
  pub most : r ≤ 2 * n
  pub only : Only before after 0 (2 * n)

-- ---- a line that is spaced already

-- the respaced line, given that spacing leaves the first i characters as they are and remembers nothing of them
unfoldable pub respaced_from : List ℕ → List ℕ → ℕ → List ℕ
respaced_from line ks i = (foldl space_step (spaced (take i line) Gap.Nothing) (cells_of (drop i line) (drop i ks))).out

-- the character c of code stands at i
pub record InCode (line ks : List ℕ) (i c : ℕ) : Type 0 where
  pub within : i < length line
  pub classes : length line ≤ length ks
  pub char : get_or line i 0 ≡ c
  pub code : get_or ks i 0 ≡ 0

-- n characters from i on, at least one, stay as they are
pub record Kept (line ks : List ℕ) (i n : ℕ) : Type 0 where
  pub some : 0 < n
  pub fits : i + n ≤ length line
  pub kept : respaced_from line ks i ≡ respaced_from line ks (i + n)

-- r characters from i on do, if r says how many
abbrev pub KeptAt : List ℕ → List ℕ → ℕ → Option ℕ → Type 0
KeptAt line ks i (Some n) = Kept line ks i n
KeptAt line ks i None = Unit {0}

-- r says whether a blank stands before i; if not, none is to be left out there
pub record NoBlank (line : List ℕ) (i : ℕ) (r : Bool) : Type 0 where
  pub none : r ≡ false → trim_blanks (take i line) ≡ take i line

-- spacing leaves the first i characters as they are
pub record Keeping (line ks : List ℕ) (i : ℕ) : Type 0 where
  pub within : i ≤ length line
  pub same : normalize_spacing (cells_of line ks) ≡ respaced_from line ks i

-- r is i or a place after it, within the line, and spacing leaves what stands before it
pub record Evened (line ks : List ℕ) (i r : ℕ) : Type 0 where
  pub from : i ≤ r
  pub within : r < length line
  pub keeping : Keeping line ks r

-- a comma, a backslash or the first of two spaces: x, which y follows
abbrev pub busy : ℕ → ℕ → Bool
busy x y = eqb x 44 || eqb x 92 || (eqb x 32 && eqb y 32)

abbrev pub busy_at : List ℕ → ℕ → Bool
busy_at line i = busy (get_or line i 0) (get_or line (i + 1) 0)

-- of the byte x of class k, behind w and before y of class l and z, spacing may change something: in code, a backslash,
-- the first of two spaces, or a comma but one behind no blank, before a space of code and then no blank and no closer
abbrev pub odd : ℕ → ℕ → ℕ → ℕ → ℕ → ℕ → Bool
odd w x y z k l =
    eqb k 0
    && ((eqb x 92 || (eqb x 32 && eqb y 32))
    || (eqb x 44 && ((is_blank w || (not (eqb y 32) || not (eqb l 0))) || (is_blank z || is_closer z))))

-- the byte after the place i is one
abbrev pub odd_at : List ℕ → List ℕ → ℕ → Bool
odd_at line ks i =
    odd (get_or line i 0) (get_or line (i + 1) 0) (get_or line (i + 2) 0) (get_or line (i + 3) 0) (get_or ks (i + 1) 0)
    (get_or ks (i + 2) 0)

-- a line that is said to be spaced is what spacing makes of it
pub record Unchanged (line ks : List ℕ) (r : Bool) : Type 0 where
  pub yes : r ≡ true → normalize_spacing (cells_of line ks) ≡ line

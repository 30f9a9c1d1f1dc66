-- Demand 3: what a text keeps of its source. A comma is U+002C wherever it stands, in strings and comments too.
use Rattle.rules.specs.Options.{PrintWidth}
use Rattle.std.specs.Prelude.{ℕ, ◌+◌, Bool, not, ◌&&◌, List, ◌≡◌, None}
use Rattle.utf8.specs.Unicode.{is_white}
use Rattle.rules.specs.Basics.{is, keep, count}

-- a text without its White_Space
unfoldable pub strike_white : List ℕ → List ℕ
strike_white l = keep (λ c. not (is_white c)) l

-- a text without its White_Space and without its commas: the characters that are kept
abbrev pub is_kept : ℕ → Bool
is_kept c = not (is_white c) && not (is "," c)

unfoldable pub strike : List ℕ → List ℕ
strike l = keep is_kept l

-- how many commas a text has
unfoldable pub commas_in : List ℕ → ℕ
commas_in l = count (is ",") l

pub record Kept (width : PrintWidth) (source text : List ℕ) (imports_split blank_names : ℕ) : Type 0 where
  -- source and text, struck, are equal
  pub struck : strike text ≡ strike source
  -- with no print width it is enough to strike the white space
  pub unbroken : width ≡ None → strike_white text ≡ strike_white source
  -- each import split adds a comma, each blank name takes one
  pub commas : commas_in text + blank_names ≡ commas_in source + imports_split

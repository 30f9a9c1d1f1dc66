-- 01's program: from the bytes of standard input to the bytes written.
use Rattle.std.specs.Prelude.{ℕ, ◌≤◌, not, List, ◌++◌, ◌≡◌, ltb, length}
use Rattle.utf8.specs.Unicode.{well_formed, prefix_len}
use Rattle.decimal.specs.Decimal.{digits}
use Rattle.rules.specs.Basics.{choose, codes}
use Rattle.rules.specs.Assembly.{default_text}
use Rattle.rules.specs.Call.{filled}

-- reads standard input up to 4,096 bytes, formats into 16,384
abbrev pub max_input : ℕ
max_input = 4096

abbrev pub max_text : ℕ
max_text = 16384

-- `refused N at P` and LF, in decimal
unfoldable pub refusal : ℕ → ℕ → List ℕ
refusal number place = codes "refused " ++ digits number ++ codes " at " ++ digits place ++ codes "\n"

-- The text alone, or the refusal; longer input gives `refused 1 at 4096`. Of a call's refusals only 4 and 5 can
-- apply: the source is short, the options are valid, and the scratch is long enough.
unfoldable pub written : List ℕ → List ℕ
written source =
    choose (ltb max_input (length source)) (refusal 1 max_input)
    (choose (not (well_formed source)) (refusal 4 (prefix_len source))
    (choose (ltb max_text (length (default_text source))) (refusal 5 (length (default_text source)))
    (default_text source)))

-- what the program writes for source are the first r bytes of out; zeros stand after them
pub record Printed (source out : List ℕ) (r : ℕ) : Type 0 where
  pub size : r ≡ length (written source)
  pub fits : r ≤ length out
  pub is : out ≡ filled max_text (written source)

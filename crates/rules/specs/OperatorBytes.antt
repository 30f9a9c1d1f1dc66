-- Operators, as the code finds them on a line's bytes. `top_level_ops` itself would take the tail bytes of an escaped
-- longer character for ordinary characters, so a byte that is a tail changes nothing here.
use Rattle.std.specs.Prelude.{ℕ, List, [], ◌∷◌}
use Rattle.utf8.specs.Unicode.{tail}
use Rattle.rules.specs.Basics.{choose}
use Rattle.rules.specs.Scan.{Cell, chars_of}
use Rattle.rules.specs.SplitOperation.{Ops, OpStep, op_step, OpMark, op_mark}

abbrev pub byte_step : List ℕ → Ops → Cell → List ℕ → OpStep
byte_step table s x cs = choose (tail x.ch) (record { strength = 0; after = s }) (op_step table s x cs)

unfoldable pub byte_marks : List ℕ → Ops → List Cell → List OpMark
byte_marks table s [] = []
byte_marks table s (x ∷ xs) =
    op_mark x.ch (byte_step table s x (chars_of xs)).strength
    ∷ byte_marks table (byte_step table s x (chars_of xs)).after xs

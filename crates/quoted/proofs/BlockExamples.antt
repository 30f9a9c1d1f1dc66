-- A string and a prefab in a protected block, computed.
use Rattle.std.specs.Prelude.{None}
use mathlib.Core.List.{List, [], ◌∷◌}
use mathlib.Core.Path.{◌≡◌, refl}
use Prim.Native.Nat.{ℕ}
use Rattle.rules.specs.Basics.{codes}
use Rattle.rules.specs.Assembly.{format_with}
use Rattle.rules.specs.Quoted.{quoted_of}
use Rattle.rules.proofs.Computing.{computing}
use Rattle.rules.proofs.Examples.{with_width}

abbrev source : List ℕ
source = codes "// fmt-ignore\n{\n  f( \"a  b\"  ,c)\n$```\n  d \n```}\n g( \"e  f\"  ,h)"

in_block_law : quoted_of source
    ≡ (record { before = codes "// fmt-ignore\n{\n  f( "; string = codes "\"a  b\"" }
    ∷ record { before = codes "// fmt-ignore\n{\n  f( \"a  b\"  ,c)\n$```\n  d \n```}\n g( "; string = codes "\"e  f\"" }
    ∷ [])
unfolding computing
in_block_law = refl

kept : (format_with (with_width None) source).text
    ≡ codes "// fmt-ignore\n{\n  f( \"a  b\"  ,c)\n$```\n  d \n```}\ng( \"e  f\", h)\n"
unfolding computing
kept = refl

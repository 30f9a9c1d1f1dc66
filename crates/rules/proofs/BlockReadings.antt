-- What a lone marker protects, as computed cases: the readings of request C-15.
use mathlib.Core.Path.{◌≡◌, refl}
use mathlib.Core.List.{List, [], ◌∷◌, map}
use Rattle.rules.specs.Options.{defaults}
use Rattle.rules.proofs.Computing.{computing}
use Rattle.rules.proofs.Examples.{Case, at_width, expected, given}

abbrev pub blocks : List Case
blocks =
    -- blank lines before the protected line follow 01, in the block all stay
    (defaults, "// fmt-ignore\n\n\n  (\n\n \n  )\n\n\nx ,", "// fmt-ignore\n\n  (\n\n \n  )\n\nx,\n", 0, 0)
    -- counts are compared at the ends of lines
    ∷ (defaults, "// fmt-ignore\n(\n) (\nx ,\n)\ny ,", "// fmt-ignore\n(\n) (\nx ,\n)\ny,\n", 0, 0)
    ∷ (defaults, "{\n// fmt-ignore\n  } {\n  x ,y", "{\n  // fmt-ignore\n  } {\n  x, y\n", 0, 0)
    ∷ (defaults, "{\n// fmt-ignore\n(\n) } x ,\ny ,", "{\n  // fmt-ignore\n(\n) } x ,\ny,\n", 0, 0)
    -- brackets that add no level count
    ∷ (defaults, "// fmt-ignore\n((\n)\nx ,\n)\ny ,", "// fmt-ignore\n((\n)\nx ,\n)\ny,\n", 0, 0)
    -- a marker of its own behind the protected line's code; a protected marker
    ∷ (defaults, "// fmt-ignore\n( // fmt-ignore\n x ,\n )", "// fmt-ignore\n( // fmt-ignore\n x ,\n )\n", 0, 0)
    ∷ (defaults, "// fmt-ignore\n// fmt-ignore\n x ,", "// fmt-ignore\n// fmt-ignore\nx,\n", 0, 0)
    ∷ (defaults, "( // fmt-ignore\n x ,\n )", "( // fmt-ignore\n  x,\n)\n", 0, 0)
    -- markers in the block, or on its last line, do nothing
    ∷ (defaults, "// fmt-ignore\n(\n// fmt-ignore\n(\n)\nx ,\n)", "// fmt-ignore\n(\n// fmt-ignore\n(\n)\nx ,\n)\n", 0, 0)
    ∷ (defaults, "// fmt-ignore\n(\n) // fmt-ignore\n x ,", "// fmt-ignore\n(\n) // fmt-ignore\nx,\n", 0, 0)
    -- comments and prefabs in the block are as written; one opened on its last line goes on outside it
    ∷ (defaults, "// fmt-ignore\n( /*\n x  \n*/  \n$```\n y \n``` )", "// fmt-ignore\n( /*\n x  \n*/  \n$```\n y \n``` )\n", 0, 0)
    ∷ (defaults, "// fmt-ignore\n(\n) /*\n x  \n*/", "// fmt-ignore\n(\n) /*\n x\n*/\n", 0, 0)
    -- unclosed, only lines of no characters go at the end
    ∷ (defaults, "// fmt-ignore\n(\n  \n\n", "// fmt-ignore\n(\n  \n", 0, 0)
    -- an else joins the last line, and none inside the block
    ∷ (defaults, "// fmt-ignore\n  {\n  } }   \n  else {", "// fmt-ignore\n  {\n  } } else {\n", 0, 0)
    ∷ (defaults, "// fmt-ignore\n{ {\n }\n else {\n", "// fmt-ignore\n{ {\n }\n else {\n", 0, 0)
    -- the previous line is the block's last
    ∷ (defaults, "// fmt-ignore\n(\nin )\n\nin b", "// fmt-ignore\n(\nin )\nin b\n", 0, 0)
    ∷ (defaults, "// fmt-ignore\nin (\n  )\n\nin b", "// fmt-ignore\nin (\n  )\n\nin b\n", 0, 0)
    -- imports in a block count for nothing
    ∷ (at_width 3, "// fmt-ignore\n(\nimport {a,,b}\n)", "// fmt-ignore\n(\nimport {a,,b}\n)\n", 0, 0)
    ∷ []

pub block_readings : map given blocks ≡ map expected blocks
unfolding computing
block_readings = refl

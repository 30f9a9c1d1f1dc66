use native.Mathlib.Omega.{arith}
use mathlib.Core.Path.{ap}
use lib.ListN.{length}
use Rattle.buffer.proofs.RepeatLaws.{times_nil}
use Rattle.line.proofs.HoldsLaws.{indent_none, line_none}
use Rattle.line.proofs.KeptLaws.{blank_same, blank_new}
use Rattle.line.proofs.kept.blank_line.Goals as goal

pub returns-then-adds_nothing : goal.returns-then-adds_nothing
returns-then-adds_nothing c =
    blank_same _ _ _ _ _ c.requires c.adds_nothing.ensures c.if-adds_nothing.true

pub push_line-requires : goal.push_line-requires
push_line-requires c =
    record { indent_value = indent_none; line = line_none; ordered = c.requires.ordered; line_bound = omega (arith, ap length (times_nil 0), c.requires.at) }

pub returns : goal.returns
returns c =
    blank_new _ _ _ _ _ c.requires c.adds_nothing.ensures _ _ c.if-adds_nothing.false c.push_line.ensures

use native.Mathlib.Omega.{arith}
use Rattle.line.proofs.HoldsLaws.{indent_small, trimmed_told}
use borrow.Author.Rules.{rules}
use Rattle.place.proofs.push_one.Goals as goal

pub push_line-requires : goal.push_line-requires
push_line-requires c =
    record { indent_value = search rules; line = search (rules, trimmed_told); ordered = search rules; line_bound = omega (arith, indent_small c.args.indent.bytes.now c.args.slot.level c.args.indent.valid c.requires.level_le_max_source) }

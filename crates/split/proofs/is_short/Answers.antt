use borrow.Author.Tests.{leb-true}
use native.Mathlib.Omega.{arith}
use Rattle.split.proofs.MeasureLaws.{indent_room, bytes_room, columns_small, wide_not}
use Rattle.split.proofs.is_short.Goals as goal

pub overflow_mul-bytes : goal.overflow_mul-bytes
overflow_mul-bytes c = record { fits = indent_room c.requires.indent }

pub overflow_add-bytes : goal.overflow_add-bytes
overflow_add-bytes c = record { fits = bytes_room c.args.line.now c.requires.indent c.requires.well_formed.1 }

pub overflow_mul-result : goal.overflow_mul-result
overflow_mul-result c =
    record { fits = omega (arith, columns_small c.args.line.now c.requires.indent c.args.ruler c.requires.well_formed.1 (omega arith)) }

pub returns : goal.returns
returns c = record { fits = λ q. wide_not _ c.requires.indent _ _ c.requires.well_formed.0 (leb-true _ _ q) }

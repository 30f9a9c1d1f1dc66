use Rattle.std.proofs.Common.{rules, arith}
use Rattle.utf8.proofs.TrimScan.{end_begin, end_turn, end_found, end_all}
use Rattle.utf8.proofs.trim_end.Goals as goal

pub loop-e-init : goal.loop-e-init
loop-e-init c = search (rules, end_begin)

pub returns-in_default : goal.returns-in_default
returns-in_default c = search (rules, end_found)

pub overflow_sub-e : goal.overflow_sub-e
overflow_sub-e c = let b = c.white_before.ensures.white _ c.in-Some.is in omega (arith, b.0.fits)

pub loop-e-smaller : goal.loop-e-smaller
loop-e-smaller c = let b = c.white_before.ensures.white _ c.in-Some.is in omega (arith, b.0.fits, b.0.some)

pub loop-e-preserved : goal.loop-e-preserved
loop-e-preserved c = search (rules, end_turn)

pub returns : goal.returns
returns c = search (rules, end_all)

use Rattle.std.proofs.Common.{rules, arith}
use Rattle.glob_name.proofs.RawLaws.{scanning_start, scanning_part, scanning_token, scanning_end}
use Rattle.glob_name.proofs.read.raw_kinds.Goals as goal

pub loop-i-init : goal.loop-i-init
loop-i-init c = search (rules, scanning_start)

pub loop-i-preserved-then-more-gt0 : goal.loop-i-preserved-then-more-gt0
loop-i-preserved-then-more-gt0 c =
    let l = c.loop-i.invariant.long in scanning_part _ _ _ _ _ c.loop-i.invariant (omega (arith, l)) (omega arith)

pub loop-i-preserved : goal.loop-i-preserved
loop-i-preserved c = search (rules, scanning_token)

pub returns : goal.returns
returns c = search (rules, scanning_end)

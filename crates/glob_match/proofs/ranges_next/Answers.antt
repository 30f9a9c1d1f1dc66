use borrow.Author.Rules.{rules}
use native.Mathlib.Omega.{arith}
use Rattle.glob_match.proofs.SlotsLaws.{ranging_start, ranging_end, ranging_other, ranging_range}
use Rattle.glob_match.proofs.ranges_next.Goals as goal
use Rattle.glob_match.proofs.ranges_next.Goals.{then-is_range, else-is_range}

pub loop-p-init : goal.loop-p-init
loop-p-init c = search (rules, ranging_start)

pub range_next-requires : goal.range_next-requires
range_next-requires c = (c.requires.some _ c.if-is_range.ensures, omega arith, omega arith)

pub loop-p-preserved : goal.loop-p-preserved
loop-p-preserved c =
    elim c.if-is_range.branch [
      | then-is_range w ↦
          rw (w.state-is, w.hits-is)
          (ranging_range _ _ _ _ _ _ _ _ c.loop-p.invariant c.loop-p-test.true (omega arith) w.if-is_range.ensures _ _ w.range_next.ensures)
      | else-is_range w ↦ rw (w.state-is, w.hits-is) (ranging_other _ _ _ _ _ _ _ _ c.loop-p.invariant c.loop-p-test.true w.if-is_range.ensures)
    ]

pub returns : goal.returns
returns c = search (rules, ranging_end)

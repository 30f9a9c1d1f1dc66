use borrow.Author.Rules.{rules}
use mathlib.Core.Path.{◌≡◌}
use Prim.Native.Nat.{◌+◌, ◌-◌}
use native.Mathlib.Omega.{arith}
use Rattle.ranges.proofs.SlotLaws.{moving_start, moving_more, moving_end}
use Rattle.ranges.proofs.slots_next.Goals as goal

pub loop-j-init : goal.loop-j-init
loop-j-init c = moving_start _ _ _ _ _ c.requires.0 (omega arith)

pub loop-j-preserved : goal.loop-j-preserved
loop-j-preserved c =
    let e : c.args.p + (c.loop-j.j - 1) + 1 ≡ c.args.p + c.loop-j.j = omega arith in
    rw e (moving_more _ _ _ _ _ _ _ c.loop-j.invariant c.loop-j-test.true _ _ _ c.slot_next.ensures c.digit-d.ensures c.digit-e.ensures)

pub returns : goal.returns
returns c = search (rules, moving_end)

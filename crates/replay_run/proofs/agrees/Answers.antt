use mathlib.Core.Path.{sym}
use lib.Seq.{length-take-le}
use Rattle.call.proofs.CallLaws.{text_within}
use Rattle.replay_run.proofs.RunLaws.{refused, told}
use Rattle.replay_run.proofs.agrees.Goals as goal

pub slice_bounds-same-end : goal.slice_bounds-same-end
slice_bounds-same-end c = text_within _ _ _ _ _ c.in-Ok.ensures

pub slice_bounds-same-end-in-Ok : goal.slice_bounds-same-end-in-Ok
slice_bounds-same-end-in-Ok c = sym (length-take-le _ _ (text_within _ _ _ _ _ c.in-Ok.ensures))

pub returns-in-Ok : goal.returns-in-Ok
returns-in-Ok c = told _ _ _ _ _ _ _ _ _ c.in-Ok.ensures c.same.ensures

pub returns-in-Err : goal.returns-in-Err
returns-in-Err c = refused _ _ _ _ _ _ _ _ c.in-Err.ensures

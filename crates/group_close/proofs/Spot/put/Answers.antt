use mathlib.Core.Path.{refl}
use Rattle.group_close.proofs.ForthLaws.{put_fits, put_past}
use Rattle.group_close.proofs.Spot.put.Goals as goal
use Rattle.group_close.proofs.Spot.put.Goals.{then-self-out, else-self-out}

pub returns : goal.returns
returns c =
    elim c.if-self-out.branch [
      | then-self-out w ↦ record { wrote = put_fits _ _ _ _ w.if-self-out.true w.out-is; height = refl }
      | else-self-out w ↦ record { wrote = put_past _ _ _ _ w.if-self-out.false w.out-is; height = refl }
    ]

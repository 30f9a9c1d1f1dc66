use Rattle.split_operation.proofs.OperationLaws.{round_none, round_fits, round_wide, round_plain}
use Rattle.split_operation.proofs.round_break.Goals.{then-rounds-eq0-via-then-rounds-eq0, then-rounds-eq0-via-else-rounds-eq0+then-not-over_wide, then-rounds-eq0-via-else-rounds-eq0+else-not-over_wide+then-not-has_operator}
use Rattle.split_operation.proofs.round_break.Goals as goal

pub returns-then-rounds-eq0 : goal.returns-then-rounds-eq0
returns-then-rounds-eq0 c =
    elim c.then-rounds-eq0.branch [
      | then-rounds-eq0-via-then-rounds-eq0 w ↦ round_none _ _ _ _ _ _ _ _ w.if-rounds-eq0.true
      | then-rounds-eq0-via-else-rounds-eq0+then-not-over_wide w ↦
          round_fits _ _ _ _ _ _ _ _ w.if-rounds-eq0.false _ w.over_wide.ensures w.if-not-over_wide.true
      | then-rounds-eq0-via-else-rounds-eq0+else-not-over_wide+then-not-has_operator w ↦
          round_plain _ _ _ _ _ _ _ _ _ c.requires.breaks.long w.has_operator.ensures w.if-not-has_operator.true
    ]

pub returns : goal.returns
returns c = round_wide _ _ _ _ _ _ _ _ c.if-rounds-eq0.false _ c.over_wide.ensures c.if-not-over_wide.false _ c.find_break.ensures

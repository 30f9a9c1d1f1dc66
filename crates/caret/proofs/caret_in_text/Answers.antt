use Rattle.caret.proofs.AnswerLaws.{standing, answered}
use Rattle.caret.proofs.caret_in_text.Goals as goal

pub move_caret-requires : goal.move_caret-requires
move_caret-requires c = standing _ _ _ _ c.requires _ c.in_ok-at.ensures

pub returns : goal.returns
returns c = answered _ _ _ _ c.requires _ c.in_ok-at.ensures _ c.move_caret.ensures

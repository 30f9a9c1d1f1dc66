use mathlib.Core.Bool.{true, false}
use Rattle.rules.specs.Brackets.{bracket_step}
use Rattle.rules.proofs.Choose.{picks}
use Rattle.basics.proofs.ClassPicks.{class-picks}
use Rattle.brackets.proofs.StackLaws.{turn_same, turn_escaped, turn_by}
use Rattle.brackets.proofs.bracket_step.Goals as goal

pub returns-then-k-ne-CODE : goal.returns-then-k-ne-CODE
unfolding bracket_step
returns-then-k-ne-CODE c = turn_by _ _ (turn_same _ _ c.requires.runs) (λ o h. search (picks, class-picks) depth 20)

pub returns-then-t : goal.returns-then-t
unfolding bracket_step
returns-then-t c = turn_by _ _ (turn_escaped _ _ c.requires.runs false) (λ o h. search (picks, class-picks) depth 20)

pub returns-then-c-eq92 : goal.returns-then-c-eq92
unfolding bracket_step
returns-then-c-eq92 c = turn_by _ _ (turn_escaped _ _ c.requires.runs true) (λ o h. search (picks, class-picks) depth 20)

pub returns-then-is_opener : goal.returns-then-is_opener
unfolding bracket_step
returns-then-is_opener c = turn_by _ _ c.push.ensures (λ o h. search (picks, class-picks) depth 20)

pub returns-then-is_closer : goal.returns-then-is_closer
unfolding bracket_step
returns-then-is_closer c = turn_by _ _ c.pop.ensures (λ o h. search (picks, class-picks) depth 20)

pub returns : goal.returns
unfolding bracket_step
returns c = turn_by _ _ (turn_same _ _ c.requires.runs) (λ o h. search (picks, class-picks) depth 20)

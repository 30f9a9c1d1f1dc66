use Rattle.rules.proofs.Choose.{picks}
use Rattle.operators.specs.Places.{place_of}
use Rattle.top_level_ops.specs.Steps.{sign_step}
use Rattle.top_level_ops.proofs.StepLaws.{Two, pick_two, pick_one, two_token, two_operator, token_operator}
use Rattle.top_level_ops.proofs.sign_step.Goals as goal

pub returns-then-starts_with : goal.returns-then-starts_with
unfolding sign_step
returns-then-starts_with c = λ table s e. let h = c.plain_token.ensures table s in search picks depth 20

pub returns-then-is_arrow : goal.returns-then-is_arrow
unfolding sign_step
returns-then-is_arrow c = λ table s e. let h = c.plain_token-then-is_arrow.ensures table s in search picks depth 20

pub returns-in_default : goal.returns-in_default
unfolding sign_step
returns-in_default c = λ table s e. let h = c.one_char_step.ensures table s _ e c.is_assign.ensures in let g : Two c.args.l.now 21 = c.in_default.ensures in search (picks, pick_one) depth 20

pub returns-then-is_shift_assign : goal.returns-then-is_shift_assign
unfolding sign_step
returns-then-is_shift_assign c =
    λ table s e. let h = c.plain_token-then-is_shift_assign.ensures table s in let g : Two c.args.l.now (place_of c.in-Some.operator) = c.in-Some.ensures in
    search (picks, pick_two _ c.in-Some.operator g, two_token) depth 20

pub returns : goal.returns
unfolding sign_step
returns c =
    λ table s e. let g : Two c.args.l.now (place_of c.in-Some.operator) = c.in-Some.ensures in
    search (picks, pick_two _ c.in-Some.operator g, two_operator table s _ c.in-Some.operator g, token_operator) depth 20

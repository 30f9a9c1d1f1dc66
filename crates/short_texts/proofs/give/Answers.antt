use native.Mathlib.Omega.{arith}
use borrow.Author.Rules.{rules}
use Rattle.short_texts.proofs.TextLaws.{length_texts}
use Rattle.short_texts.proofs.StepLaws.{looking_start, looking_small, looking_more}
use Rattle.short_texts.proofs.StepLaws.{looking_numbered, looking_end}
use Rattle.short_texts.proofs.give.Goals as goal

pub loop-weight-init : goal.loop-weight-init
loop-weight-init c = search (rules, looking_start)

pub overflow_mul-weight : goal.overflow_mul-weight
overflow_mul-weight c = omega (arith, looking_small _ _ _ _ c.loop-weight.invariant)

pub loop-weight-preserved : goal.loop-weight-preserved
loop-weight-preserved c = search (rules, looking_more)

pub text_of-text-requires : goal.text_of-text-requires
text_of-text-requires c = search (rules, looking_numbered)

pub overflow_add-result : goal.overflow_add-result
overflow_add-result c = omega (arith, length_texts)

pub returns : goal.returns
returns c = search (rules, looking_end)

use borrow.Author.Rules.{rules}
use native.Mathlib.Omega.{arith}
use Rattle.short_texts.proofs.StepLaws.{spelling_start, spelling_pos, spelling_letter}
use Rattle.short_texts.proofs.StepLaws.{spelling_more, spelling_end}
use Rattle.short_texts.proofs.text_of.Goals as goal

pub loop-i-init : goal.loop-i-init
loop-i-init c = search (rules, spelling_start)

pub nonzero_div-left : goal.nonzero_div-left
nonzero_div-left c = search (rules, spelling_pos)

pub letter-requires : goal.letter-requires
letter-requires c = search (rules, spelling_letter)

pub bounds-t-i : goal.bounds-t-i
bounds-t-i c = omega arith

pub nonzero_rem-left : goal.nonzero_rem-left
nonzero_rem-left c = search (rules, spelling_pos)

pub loop-i-preserved : goal.loop-i-preserved
loop-i-preserved c = search (rules, spelling_more)

pub returns : goal.returns
returns c = search (rules, spelling_end)

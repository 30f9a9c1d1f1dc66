use borrow.Author.Rules.{rules}
use Rattle.split_operation.proofs.WordLaws.{words_start, words_keyword, words_more, words_end}
use Rattle.split_operation.proofs.pass.has_keyword.Goals as goal

pub loop-i-init : goal.loop-i-init
loop-i-init c = words_start _ _

pub returns-in_default : goal.returns-in_default
returns-in_default c = search (rules, words_keyword)

pub loop-i-preserved : goal.loop-i-preserved
loop-i-preserved c = search (rules, words_more)

pub returns : goal.returns
returns c = search (rules, words_end)

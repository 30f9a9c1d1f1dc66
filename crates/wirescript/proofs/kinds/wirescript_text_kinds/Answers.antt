-- `wirescript::kinds::wirescript_text_kinds` meets its contract: the answer is that of `text_kinds::answer`, and the
-- scratch is cleared after it.
use borrow.Author.Rules.{rules}
use Rattle.text_kinds.proofs.KindsCall.{kinds_answered}
use Rattle.wirescript.proofs.kinds.wirescript_text_kinds.Goals as goal

pub returns : goal.returns
returns c = search (rules, kinds_answered)

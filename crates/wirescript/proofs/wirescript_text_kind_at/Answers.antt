-- `wirescript::wirescript_text_kind_at` meets its contract: the answer is that of `text_kind::answer`, and the scratch
-- is cleared after it.
use borrow.Author.Rules.{rules}
use Rattle.text_kind.proofs.KindCall.{answered}
use Rattle.wirescript.proofs.wirescript_text_kind_at.Goals as goal

pub returns : goal.returns
returns c = search (rules, answered)

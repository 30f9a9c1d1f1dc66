use borrow.Author.Rules.{rules}
use Rattle.text_kind.proofs.KindCall.{source_fits, kind_refused, kind_found}
use Rattle.text_kind.proofs.outcome_of.Goals as goal

pub text_kind_at-requires : goal.text_kind_at-requires
text_kind_at-requires c = search (rules, source_fits)

pub returns-in_err-test : goal.returns-in_err-test
returns-in_err-test c = search (rules, kind_refused)

pub returns : goal.returns
returns c = search (rules, kind_found)

use borrow.Author.Rules.{rules}
use Rattle.text_kinds.proofs.KindsCall.{kinds_refused, kinds_fits, kinds_listed, kinds_found}
use Rattle.text_kinds.proofs.run_kinds.Goals as goal

pub text_kinds-requires : goal.text_kinds-requires
text_kinds-requires c = record { source_fits = search (rules, kinds_fits); listed = search (rules, kinds_listed) }

pub returns-in-Err : goal.returns-in-Err
returns-in-Err c = search (rules, kinds_refused)

pub returns-in-Ok : goal.returns-in-Ok
returns-in-Ok c = search (rules, kinds_found)

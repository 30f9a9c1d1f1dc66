-- `format_short` meets its contract: no refusal applies, and the text fits.
use borrow.Author.Rules.{rules}
use Rattle.short_sources.proofs.SourceLaws.{called}
use Rattle.short_sources.proofs.page.format_short.Goals as goal

pub returns : goal.returns
returns c = search (rules, called)

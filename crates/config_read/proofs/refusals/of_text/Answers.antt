use borrow.Author.Rules.{rules}
use Rattle.config_read.proofs.RefusalLaws.{readable, rank_long, rank_ill, rank_name, rank_none}
use Rattle.config_read.proofs.refusals.of_text.Goals as goal

pub returns-then-text-gt-MAX_TEXT : goal.returns-then-text-gt-MAX_TEXT
returns-then-text-gt-MAX_TEXT c = search (rules, rank_long)

pub returns-then-well_formed_prefix-text : goal.returns-then-well_formed_prefix-text
returns-then-well_formed_prefix-text c = search (rules, rank_ill)

pub has_long_name-requires : goal.has_long_name-requires
has_long_name-requires c = search (rules, readable)

pub returns-then-has_long_name : goal.returns-then-has_long_name
returns-then-has_long_name c = search (rules, rank_name)

pub returns : goal.returns
returns c = search (rules, rank_none)

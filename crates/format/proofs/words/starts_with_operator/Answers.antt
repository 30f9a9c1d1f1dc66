use borrow.Author.Rules.{rules}
use Rattle.format.proofs.BoolPicks.{bools}
use Rattle.format.proofs.WordLaws.{after_one, one_follows}
use Rattle.format.proofs.words.starts_with_operator.Goals as goal

pub starts_white_or-requires : goal.starts_white_or-requires
starts_white_or-requires c = (search (rules, after_one), search rules)

pub returns-then-is_one : goal.returns-then-is_one
returns-then-is_one c = search (rules, one_follows)

pub returns-else-is_one : goal.returns-else-is_one
returns-else-is_one c = search (rules, bools)

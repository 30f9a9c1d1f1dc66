use borrow.Author.Rules.{rules}
use Rattle.format.proofs.BoolPicks.{bools}
use Rattle.format.proofs.WordLaws.{after_pair, pair_follows}
use Rattle.format.proofs.words.starts_with_operator_pair.Goals as goal

pub starts_white_or-requires : goal.starts_white_or-requires
starts_white_or-requires c = (search (rules, after_pair), search rules)

pub returns-then-is_two : goal.returns-then-is_two
returns-then-is_two c = search (rules, pair_follows)

pub returns-else-is_two : goal.returns-else-is_two
returns-else-is_two c = search (rules, bools)

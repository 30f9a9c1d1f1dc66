use borrow.Author.Rules.{rules}
use Rattle.caret.proofs.PlaceLaws.{line_well, line_length}
use Rattle.caret.proofs.line_chars.Goals as goal

pub char_count-n-requires : goal.char_count-n-requires
char_count-n-requires c = search (rules, line_well)

pub returns : goal.returns
returns c = search (rules, line_length)

use borrow.Author.Rules.{rules}
use Rattle.caret.proofs.PlaceLaws.{no_line, no_column, place_found}
use Rattle.caret.proofs.find_place.Goals as goal

pub returns-then-start-ne0 : goal.returns-then-start-ne0
returns-then-start-ne0 c = search (rules, no_line)

pub returns-then-line_chars-place : goal.returns-then-line_chars-place
returns-then-line_chars-place c = search (rules, no_column)

pub returns : goal.returns
returns c = search (rules, place_found)

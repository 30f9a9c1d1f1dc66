use borrow.Author.Rules.{rules}
use mathlib.Core.Path.{◌∙◌}
use borrow.Author.Tests.{le-ltb}
use Rattle.glob_name.proofs.ReadLaws.{first_at, first_past}
use Rattle.glob_name.proofs.read.char_is.Goals as goal

pub returns-then-i-chars : goal.returns-then-i-chars
returns-then-i-chars c = search (rules, first_at)

pub returns-else-i-chars : goal.returns-else-i-chars
returns-else-i-chars c = le-ltb _ _ c.if-i-chars.false ∙ first_past c.args.chars.now c.args.i c.args.c c.if-i-chars.false

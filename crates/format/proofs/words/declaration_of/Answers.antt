use Rattle.rules.proofs.Choose.{picks}
use Rattle.format.specs.Words.{declaration_of}
use Rattle.format.proofs.words.declaration_of.Goals as goal

pub returns-then-starts_with : goal.returns-then-starts_with
unfolding declaration_of
returns-then-starts_with c = search picks depth 10

pub returns-then-starts_with-2 : goal.returns-then-starts_with-2
unfolding declaration_of
returns-then-starts_with-2 c = search picks depth 10

pub returns-then-starts_with-3 : goal.returns-then-starts_with-3
unfolding declaration_of
returns-then-starts_with-3 c = search picks depth 10

pub returns-else-starts_with-3 : goal.returns-else-starts_with-3
unfolding declaration_of
returns-else-starts_with-3 c = search picks depth 10

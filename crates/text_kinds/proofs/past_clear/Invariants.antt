use Rattle.text_kinds.specs.Reading.{dollar_at}
use Rattle.text_kinds.proofs.past_clear.Given as goal

abbrev pub ghost-first_from : goal.ghost-first_from
ghost-first_from a = dollar_at a.test.now.0.now

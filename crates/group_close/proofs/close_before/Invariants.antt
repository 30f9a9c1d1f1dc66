use Rattle.group_rules.specs.Grouping.{takes}
use Rattle.group_close.proofs.close_before.Given as goal

abbrev pub ghost-close_until : goal.ghost-close_until
ghost-close_until a = λ t. takes t a.stop.now.0.now

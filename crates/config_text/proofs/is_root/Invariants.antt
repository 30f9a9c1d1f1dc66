use Rattle.config_text.proofs.WalkLaws.{Root}
use Rattle.config_text.proofs.is_root.Given as goal

abbrev pub invariant-loop-line : goal.invariant-loop-line
invariant-loop-line l = Root l.text l.root l.line-iterator

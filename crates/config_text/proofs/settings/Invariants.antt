use Rattle.config_text.proofs.WalkLaws.{Setting}
use Rattle.config_text.proofs.settings.Given as goal

abbrev pub invariant-loop-line : goal.invariant-loop-line
invariant-loop-line l = Setting l.text l.rel l.initial.values l.values l.applies l.line-iterator

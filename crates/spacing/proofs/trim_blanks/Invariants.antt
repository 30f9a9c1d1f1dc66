-- `trim_blanks` meets its contract: the invariant is `Trimming`, the text's first i bytes, trimmed, are the whole text,
-- trimmed; its laws are in proofs/SpacingLaws.antt.
use Rattle.spacing.proofs.SpacingLaws.{Trimming}
use Rattle.spacing.proofs.trim_blanks.Given as goal

abbrev pub invariant-loop-i : goal.invariant-loop-i
invariant-loop-i l = Trimming l.text l.i

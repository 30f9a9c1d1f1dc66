-- `raw_kinds` meets its contract: the invariant is `Scanning`, the first i kinds are the tokens read so far, the last
-- of which takes `more` characters more; its laws are in proofs/RawLaws.antt.
use Rattle.glob_name.proofs.RawLaws.{Scanning}
use Rattle.glob_name.proofs.read.raw_kinds.Given as goal

abbrev pub invariant-loop-i : goal.invariant-loop-i
invariant-loop-i l = Scanning l.chars l.i l.more l.deep l.kinds

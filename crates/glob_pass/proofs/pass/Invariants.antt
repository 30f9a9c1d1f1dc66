-- `pass` meets its contract: the invariant is `Going`, places from p on have their new values, those before p the old
-- ones, and the open braces stand on the stack; its laws are in proofs/PassLaws.antt.
use lib.ListN.{length, set}
use Rattle.glob_pass.proofs.PassLaws.{Going}
use Rattle.glob_pass.proofs.pass.Given as goal

abbrev pub invariant-loop-p : goal.invariant-loop-p
invariant-loop-p l = Going l.name.kinds.now l.name.chars.now l.c l.base l.hits (set l.initial.v (length l.name.kinds.now) l.initial.prior) l.p l.v l.prior l.braces l.next

-- `names` meets its contract: the invariant is `Naming` of specs/Kinds.antt, the set goes on with n before it; its laws
-- are in proofs/SetLaws.antt.
use Rattle.glob_pass.specs.Kinds.{Naming}
use Rattle.glob_pass.proofs.set.names.Given as goal

abbrev pub invariant-loop-d : goal.invariant-loop-d
invariant-loop-d l = Naming l.set l.c l.d-index l.n

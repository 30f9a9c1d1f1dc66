-- `prefab` meets its contract: the invariant is `InPrefab`, the line is classified up to i, which is in the prefab; its
-- laws are in proofs/CodeLaws.antt.
use Rattle.scan.proofs.CodeLaws.{InPrefab}
use Rattle.scan.proofs.prefab.Given as goal

abbrev pub invariant-loop-i : goal.invariant-loop-i
invariant-loop-i l = InPrefab l.line l.at l.initial.class l.class l.i

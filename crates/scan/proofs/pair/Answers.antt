use native.Mathlib.Omega.{arith}
use lib.ListN.{length-set}
use Rattle.scan.proofs.ScannedLaws.{moved_two, moved_last, scanned_two, scanned_cut}
use Rattle.scan.proofs.pair.Goals as goal

pub bounds-class-at-then-at-line : goal.bounds-class-at-then-at-line
bounds-class-at-then-at-line c = simp length-set (omega arith)

pub returns-then-at-line : goal.returns-then-at-line
returns-then-at-line c = record { moved = moved_two _ _ _ _ (omega arith); scanned = λ m u x e f. scanned_two _ m _ _ x u _ (omega arith) (omega arith) f e (omega arith) }

pub returns : goal.returns
returns c = record { moved = moved_last _ _ _ _ (omega arith); scanned = λ m u x e f. scanned_cut _ m _ _ x u _ (omega arith) (omega arith) f e (omega arith) }

-- `decode_into` meets its contract: the invariant is `Decoding`, the characters of the name's first i bytes stand from
-- k up to n; its laws are in proofs/NameLaws.antt.
use Prim.Native.Nat.{◌-◌}
use lib.ListN.{length}
use Rattle.glob_match.proofs.NameLaws.{Decoding}
use Rattle.glob_match.proofs.name.decode_into.Given as goal

abbrev pub invariant-loop-i : goal.invariant-loop-i
invariant-loop-i l = Decoding l.name l.k l.initial.chars l.i l.n l.chars

abbrev pub decreases-loop-i : goal.decreases-loop-i
decreases-loop-i l = length l.name - l.i

-- The invariant is `Indenting`, so many indents are written over the front of out; its laws are in proofs/LoopLaws.antt.
use Rattle.buffer.proofs.LoopLaws.{Indenting}
use Rattle.buffer.proofs.put_levels.Given as goal

abbrev pub invariant-loop : goal.invariant-loop
invariant-loop l = Indenting l.initial.out l.pad.indent.now l.pad.levels l.out l.counter l.at

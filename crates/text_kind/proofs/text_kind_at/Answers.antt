use Prim.Native.Nat.{◌+◌, ◌-◌}
use mathlib.Core.Path.{◌≡◌}
use native.Mathlib.Omega.{arith}
use Rattle.text_kind.proofs.KindLines.{seeking_start, seeking_past, seeking_more, seeking_room, seeking_line, seeking_found}
use Rattle.text_kind.proofs.text_kind_at.Goals as goal

pub loop-init : goal.loop-init
loop-init c = let z : c.args.line - 0 ≡ c.args.line = omega arith in rw z (seeking_start _ _ _ _ c.requires)

pub returns-then-source-end : goal.returns-then-source-end
returns-then-source-end c = seeking_past c.loop.invariant _ (omega arith) c.line_end-end.ensures c.if-source-end.true

pub classify-carry-requires : goal.classify-carry-requires
classify-carry-requires c = seeking_room c.loop.invariant _ _ c.line_end-end.ensures c.if-source-end.false c.without_cr.ensures c.requires

pub loop-preserved : goal.loop-preserved
loop-preserved c =
    let n : c.args.line - c.loop.counter - 1 ≡ c.args.line - (c.loop.counter + 1) = omega arith in
    rw (← n) (seeking_more c.loop.invariant _ _ _ _ (omega arith) c.line_end-end.ensures c.if-source-end.false c.without_cr.ensures c.classify-carry.ensures c.classify-carry.auto.class)

pub kind_in_line-requires : goal.kind_in_line-requires
kind_in_line-requires c = seeking_line c.loop.invariant _ c.line_at.ensures c.requires

pub returns : goal.returns
returns c = seeking_found c.loop.invariant _ _ (omega arith) c.line_at.ensures c.kind_in_line.ensures

use Rattle.lines.specs.Lines.{Passed}
use Rattle.check_call.proofs.CheckLaws.{found_early, found_late}
use Rattle.compare.proofs.WriterLaws.{keeps_start}
use native.Mathlib.Omega.{arith}
use Rattle.check_call.proofs.check_with.Goals as goal

pub read_lines-lines-requires : goal.read_lines-lines-requires
read_lines-lines-requires c =
    record { passed = rw c.as_bytes-indent.ensures c.requires.passed; starts = record { none = keeps_start _ _ (omega arith) (omega (arith, c.requires.passed.limit)) } }

pub end_text-n-requires : goal.end_text-n-requires
end_text-n-requires c =
    let d = c.read_lines-lines.ensures.done c.if-lines.true in
    omega (arith, d.small.ordered.full, d.small.ordered.below, d.small.at)

pub returns-then-lines : goal.returns-then-lines
returns-then-lines c =
    let p : Passed c.args.source.now c.as_bytes-indent.result.now c.args.scratch.now = rw c.as_bytes-indent.ensures c.requires.passed in
    found_late _ _ c.args.options c.as_bytes-indent.ensures _ _ _ _ p c.ending_of-ending.ensures _ (rw c.style_of-style.ensures at c.read_lines-lines.ensures) c.if-lines.true _ c.has_last_ending-last.ensures _ _
    c.end_text-n.ensures _ c.equals.ensures

pub returns : goal.returns
returns c =
    let p : Passed c.args.source.now c.as_bytes-indent.result.now c.args.scratch.now = rw c.as_bytes-indent.ensures c.requires.passed in
    found_early _ _ c.args.options c.as_bytes-indent.ensures _ _ _ _ p c.ending_of-ending.ensures _ (rw c.style_of-style.ensures at c.read_lines-lines.ensures) c.if-lines.false

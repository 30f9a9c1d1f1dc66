use Rattle.call.proofs.CallLaws.{all_done, text_short, text_fits}
use Rattle.compare.proofs.WriterLaws.{keeps_out}
use Rattle.call.proofs.assembly.format_with.Goals as goal

pub read_lines-read-requires : goal.read_lines-read-requires
read_lines-read-requires c = record { passed = rw c.as_bytes-indent.ensures c.requires.passed; starts = record { none = keeps_out _ } }

pub returns-then-output-n : goal.returns-then-output-n
returns-then-output-n c =
    text_short _ _ c.args.options c.as_bytes-indent.ensures _ _ _ c.args.output.now c.args.opened.now c.args.scratch.now _ _ _ _ _ _ _
    c.ending_of-ending.ensures (all_done (rw c.style_of-style.ensures at c.read_lines-read.ensures)) c.has_last_ending-last.ensures c.finish_text-n.ensures
    c.output-1.given c.scratch-1.given c.output-2-1.given c.if-output-n.true c.list_open.ensures

pub returns : goal.returns
returns c =
    text_fits _ _ c.args.options c.as_bytes-indent.ensures _ _ _ c.args.output.now c.args.opened.now c.args.scratch.now _ _ _ _ _ _ _
    c.ending_of-ending.ensures (all_done (rw c.style_of-style.ensures at c.read_lines-read.ensures)) c.has_last_ending-last.ensures c.finish_text-n.ensures
    c.output-1.given c.scratch-1.given c.output-2-1.given c.if-output-n.false c.list_open-count.ensures

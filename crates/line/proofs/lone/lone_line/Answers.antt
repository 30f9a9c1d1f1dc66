use native.Mathlib.Omega.{arith}
use mathlib.Core.Path.{refl}
use Rattle.line.proofs.LoneLaws.{lone_short, lone_told, lone_room, lone_fits, lone_step}
use Rattle.line.proofs.lone.lone_line.Goals as goal

pub bounds-line-0 : goal.bounds-line-0
bounds-line-0 c = omega (arith, lone_short c.args.line.now c.requires.line_value)

pub push_line-text-requires : goal.push_line-text-requires
push_line-text-requires c =
    let l = c.pop_closers-left.ensures in
    record { indent_value = c.args.indent.valid.blank; line = lone_told c.args.line.now c.requires.line_value _ refl; ordered = c.requires.ready.small.ordered; line_bound = lone_room c.args.line.now c.args.indent.bytes.now _ _ _ c.requires.ready c.requires.line_value c.args.indent.valid _ _ l }

pub turn-requires : goal.turn-requires
turn-requires c =
    lone_fits c.args.line.now c.args.indent.bytes.now _ _ _ c.requires.ready c.requires.line_value c.args.indent.valid _ _ c.pop_closers-left.ensures

pub returns : goal.returns
returns c =
    lone_step c.args.line.now c.args.indent.bytes.now _ _ _ c.requires.ready c.requires.line_value c.args.indent.valid _ _ c.pop_closers-left.ensures _ _ _ _ _ _ _ _ _ c.closers_in.ensures refl c.push_line-text.ensures c.turn.ensures

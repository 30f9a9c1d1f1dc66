-- What stands before a line, as bytes.
use Rattle.std.specs.Prelude.{ℕ, List}
use Rattle.buffer.specs.Repeat.{times}
use Rattle.buffer.specs.declared.pad.Pad.{Pad}

-- the bytes of an indent, levels times over
abbrev pub spelled : Pad → List ℕ
spelled p = times p.levels p.indent.now

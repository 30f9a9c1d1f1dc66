-- What is written at once, as bytes.
use Rattle.std.specs.Prelude.{ℕ, List, [], ◌++◌, Option, Some, None}
use Rattle.buffer.specs.Pad.{spelled}
use Rattle.buffer.specs.declared.pad.Pad.{Pad}
use Rattle.rules.specs.declared.LineEnding.{LineEnding}
use Rattle.rules.specs.Lines.{as_str}

-- those of a line ending, if there is one
abbrev pub ending_of : Option LineEnding → List ℕ
ending_of None = []
ending_of (Some e) = as_str e

-- those of a line ending, an indent and a line
abbrev pub written : Option LineEnding → Pad → List ℕ → List ℕ
written e p l = ending_of e ++ (spelled p ++ l)

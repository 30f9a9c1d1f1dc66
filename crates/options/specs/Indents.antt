-- The bytes of an indent in the array that holds them, and the zeros behind them.
use Rattle.std.specs.Prelude.{ℕ, List, ◌≡◌, length, take}
use Rattle.rules.specs.Options.{max_indent}
use Rattle.rules.specs.Call.{filled}
use Rattle.options.specs.declared.indent.Indent.TheInside.{Inside}

-- the first bytes of the array
abbrev pub bytes_of : Inside → List ℕ
bytes_of a = take a.len a.bytes

-- the array that holds these bytes
abbrev pub filled_with : List ℕ → Inside
filled_with l = record { bytes = filled max_indent l; len = length l }

-- zeros follow the bytes
abbrev pub IsFilled : Inside → Type 0
IsFilled a = filled_with (bytes_of a) ≡ a

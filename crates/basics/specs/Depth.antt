-- How deep a mark stands: what code counts in 32 bits.
use Rattle.std.specs.Prelude.{ℕ}
use Rattle.rules.specs.declared.Carry.{Carry}
use Rattle.rules.specs.declared.Mode.{Mode}
use Rattle.rules.specs.Scan.{mode_of}

-- how many braces or comments are open in a mode
abbrev pub depth_of : Mode → ℕ
depth_of Mode.Code = 0
depth_of (Mode.Quoted q) = 0
depth_of (Mode.Interp q d) = d
depth_of (Mode.Inner q d k) = d
depth_of Mode.Line = 0
depth_of (Mode.Block d) = d
depth_of Mode.Prefab = 0

-- and how many block comments after a line
abbrev pub carry_depth : Carry → ℕ
carry_depth y = depth_of (mode_of y)

-- What `classify` does.
use Rattle.std.specs.Prelude.{ℕ, ◌+◌, ◌≤◌, ◌≡◌, List, ◌++◌, length, drop}
use Rattle.rules.specs.declared.Carry.{Carry}
use Rattle.rules.specs.Scan.{classify, carry_after}
use Rattle.rules.specs.ClassBytes.{class_bytes}
use Rattle.basics.specs.Depth.{carry_depth}

-- the class bytes of the line's bytes stand at the front of the buffer, and the rest of it is as it was
pub record Classified (y : Carry) (line before after : List ℕ) (r : Carry) : Type 0 where
  pub bytes : after ≡ class_bytes (classify y line) ++ drop (length line) before
  pub carry : r ≡ carry_after y line
  pub depth : carry_depth r ≤ carry_depth y + length line

-- What `classify_at` asks, and what it does.
use Rattle.std.specs.Prelude.{ℕ, ◌+◌, ◌≤◌, ◌<◌, ◌^◌, ◌≡◌, List, length}
use Rattle.buffer.specs.Buffer.{part}
use Rattle.rules.specs.declared.Carry.{Carry}
use Rattle.rules.specs.Scan.{classify, carry_after}
use Rattle.rules.specs.ClassBytes.{class_bytes}
use Rattle.basics.specs.Depth.{carry_depth}
use Rattle.basics.specs.Region.{Only}

-- a line of n bytes from at on, and room for its class bytes after it
pub record ClassRoom (buf : List ℕ) (at n class : ℕ) : Type 0 where
  pub apart : at + n ≤ class
  pub room : class + n ≤ length buf
  pub small : n + 1 < 2 ^ 32

-- the class bytes of the line that stands in the buffer, from class on; the rest of the buffer is as it was
pub record ClassifiedAt (before : List ℕ) (at n class : ℕ) (after : List ℕ) (r : Carry) : Type 0 where
  pub bytes : part after class (class + n) ≡ class_bytes (classify Carry.Code (part before at (at + n)))
  pub carry : r ≡ carry_after Carry.Code (part before at (at + n))
  pub depth : carry_depth r ≤ n
  pub only : Only before after class (class + n)

-- Scratch, for a source of `unit` bytes: the classes of the line from 0 on, the respaced line, its classes, the stack
-- of open brackets. A respaced line has at most twice the bytes, and the stack, while such a line is scanned, room for
-- twice the entries.
use Rattle.std.specs.Prelude.{ℕ, ◌*◌}

abbrev pub respaced_at : ℕ → ℕ
respaced_at unit = 1 * unit

abbrev pub reclassed_at : ℕ → ℕ
reclassed_at unit = 3 * unit

abbrev pub stack_at : ℕ → ℕ
stack_at unit = 5 * unit

-- how much of it is used
abbrev pub scratch_used : ℕ → ℕ
scratch_used unit = 11 * unit

-- The call within the program.
use Rattle.std.specs.Prelude.{ℕ, List, ◌≡◌, replicate, Ok, Err}
use Rattle.rules.specs.Refusals.{number_of, place_of}
use Rattle.rules.specs.Call.{Outcome}
use Rattle.rules.specs.declared.Refusal.{Refusal}
use Rattle.rules.specs.declared.Formatted.{Formatted}
use Rattle.wsfmt_run.specs.Program.{max_text, refusal, written, Printed}

-- a refused call: what is to be written, and the output of n bytes is all zeros
pub record Turned (source out : List ℕ) (n : ℕ) (why : Refusal) : Type 0 where
  pub told : written source ≡ refusal (number_of why) (place_of why)
  pub room : n ≡ max_text
  pub zeros : out ≡ replicate n 0

-- the call's outcome r, and what it leaves in the output of n bytes
pub record Called (source out : List ℕ) (n : ℕ) (r : Outcome) : Type 0 where
  pub accepted : (t : Formatted) → r ≡ Ok t → Printed source out t.length
  pub refused : (why : Refusal) → r ≡ Err why → Turned source out n why

-- What a grouping call leaves in its buffers, step by step.
use Rattle.std.specs.Prelude.{ℕ, List, ◌≡◌, replicate, Ok}
use Rattle.group_rules.specs.Outcome.{GroupOutcome, group_outcome, group_output}

-- the outcome r of the call, and what its output of n bytes holds if the source has a text
pub record GroupWritten (source : List ℕ) (n m : ℕ) (r : GroupOutcome) (out : List ℕ) : Type 0 where
  pub outcome : r ≡ group_outcome source n m
  pub output : (len : ℕ) → r ≡ Ok len → out ≡ group_output source n m

-- the outcome r of the call, and what its buffers of n and m bytes hold after it
pub record GroupRan (source : List ℕ) (n m : ℕ) (r : GroupOutcome) (out work : List ℕ) : Type 0 where
  pub outcome : r ≡ group_outcome source n m
  pub output : out ≡ group_output source n m
  pub cleared : work ≡ replicate m 0

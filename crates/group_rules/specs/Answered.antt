-- C-21: what a grouping call gives: the answer, the output and the scratch, and what it promises of them.
use Rattle.std.specs.Prelude.{ℕ, List, ◌≡◌, take, replicate}
use Rattle.utf8.specs.Unicode.{decode}
use Rattle.group_rules.specs.Promises.{Groups, Longest}
use Rattle.group_rules.specs.Outcome.{group_outcome, group_answer, group_output}
use Rattle.group_rules.specs.declared.GroupAnswer.{GroupAnswer}

-- The answer r to the call, and what its buffers of n and m bytes hold after it.
pub record GroupAnswered (source : List ℕ) (n m : ℕ) (r : GroupAnswer) (out work : List ℕ) : Type 0 where
  pub answer : r ≡ group_answer (group_outcome source n m)
  pub output : out ≡ group_output source n m
  pub scratch : work ≡ replicate m 0
  -- the text of an accepted call shows how the source groups
  pub groups : r.refusal ≡ 0 → Groups (decode source) (decode (take r.length out))
  -- refusal 14 names the longest beginning that an expression also has
  pub place : r.refusal ≡ 14 → Longest (decode source) r.place

-- What the finish gives, and a refusal.
use Rattle.std.specs.Prelude.{ℕ, List, ◌≡◌, replicate, Err}
use Rattle.utf8.specs.Unicode.{encode, size}
use Rattle.rules.specs.Refusals.{short_output}
use Rattle.rules.specs.Assembly.{Formatted}
use Rattle.rules.specs.Call.{Outcome, outcome_after, output_for, opened_for}
use Rattle.rules.specs.declared.Refusal.{Refusal}
use Rattle.brackets.specs.Stack.{Listed}

-- what a finished text comes to in an output of n bytes
abbrev pub outcome_in : ℕ → Formatted → Outcome
outcome_in n t = outcome_after (short_output (size t.text) n) (size t.text) t

-- these lines of open brackets were listed, as many as fit into k, and there are r; the scratch of m bytes is cleared
pub record Told (lines : List ℕ) (k m r : ℕ) (list scratch : List ℕ) : Type 0 where
  pub listed : Listed lines k r list
  pub cleared : scratch ≡ replicate m 0

-- the text t went to an output of n bytes, its open brackets to a list of k lines; the scratch of m bytes is cleared
pub record Fitted (t : Formatted) (n k m : ℕ) (r : Outcome) (out list scratch : List ℕ) : Type 0 where
  pub outcome : r ≡ outcome_in n t
  pub output : out ≡ output_for r n (encode t.text)
  pub opened : list ≡ opened_for r k t.open_brackets
  pub cleared : scratch ≡ replicate m 0

-- a refusal: all buffers are cleared
pub record RefusedCall (why : Refusal) (n k m : ℕ) (r : Outcome) (out list scratch : List ℕ) : Type 0 where
  pub outcome : r ≡ Err why
  pub zeros : out ≡ replicate n 0
  pub none : list ≡ replicate k 0
  pub cleared : scratch ≡ replicate m 0

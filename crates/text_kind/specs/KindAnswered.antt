-- The exported contract of a call for a text kind.
use Rattle.std.specs.Prelude.{ℕ, List, ◌≡◌, length, replicate}
use Rattle.rules.specs.TextKind.{kind_outcome_of, kind_answer}
use Rattle.rules.specs.declared.Kind.{Kind}

-- The answer r, and the scratch before and after the call: all zeros, whatever stood there.
pub record KindAnswered (source : List ℕ) (line col : ℕ) (before after : List ℕ) (r : Kind) : Type 0 where
  pub answer : r ≡ kind_answer (kind_outcome_of source line col (length before))
  pub scratch : after ≡ replicate (length before) 0

use Prim.Native.Nat.{ℕ}
use mathlib.Core.Path.{ap, ◌∙◌}
use lib.ListN.{replicate}
use Rattle.group.proofs.GroupCall.{ran_refused, ran_text}
use Rattle.group.proofs.run_group.Goals.{then-is_err, else-is_err}
use Rattle.group.proofs.run_group.Goals as goal

pub returns : goal.returns
returns c =
    let zeros = λ (n : ℕ). replicate n 0 in
    let z = c.zero-2.ensures ∙ ap zeros c.write_group-outcome.auto.scratch in
    elim c.if-is_err.branch [
      | then-is_err w ↦ ran_refused c.write_group-outcome.ensures z w.if-is_err.ensures.value (w.output-is ∙ w.zero.ensures ∙ ap zeros c.write_group-outcome.auto.output)
      | else-is_err w ↦ rw w.output-is (ran_text c.write_group-outcome.ensures z w.if-is_err.ensures.value)
    ]

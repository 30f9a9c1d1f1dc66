use Prim.Native.Nat.{ℕ, max}
use mathlib.Core.Path.{ap, ◌∙◌}
use Rattle.config_read.specs.Refusals.{rank_number}
use Rattle.config_read.proofs.RefusalLaws.{worst_start, worst_more}
use Rattle.config_read.proofs.refusals.worst_of.Goals as goal

pub loop-text-init : goal.loop-text-init
loop-text-init c = worst_start _ _ c.of_path-refusal.ensures

pub loop-text-preserved : goal.loop-text-preserved
loop-text-preserved c = worst_more c.args.texts.now _ _ _ _ _ c.loop-text-test.true c.loop-text.invariant (c.worse-refusal.ensures ∙ ap (λ (x : ℕ). max (rank_number c.loop-text.refusal) x) c.of_text.ensures)

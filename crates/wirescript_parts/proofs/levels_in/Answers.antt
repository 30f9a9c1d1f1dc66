use Rattle.wirescript_parts.proofs.LevelLaws.{counting_start, counting_flat, counting_level}
use borrow.Author.Rules.{rules}
use Rattle.wirescript_parts.proofs.levels_in.Goals as goal
use Rattle.wirescript_parts.proofs.levels_in.Goals.{then-scratch-base-ne0, else-scratch-base-ne0}

pub loop-i-init : goal.loop-i-init
loop-i-init c = counting_start _ _ _

pub loop-i-preserved : goal.loop-i-preserved
loop-i-preserved c =
    elim c.if-scratch-base-ne0.branch [ then-scratch-base-ne0 w ↦ rw w.levels-is (search (rules, counting_level)) | else-scratch-base-ne0 w ↦ rw w.levels-is (search (rules, counting_flat)) ]

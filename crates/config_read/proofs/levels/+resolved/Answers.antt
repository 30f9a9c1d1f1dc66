use mathlib.Core.Path.{sym, ◌∙◌}
use Rattle.config_read.proofs.LevelLaws.{unset_is, resolved_none, resolved_end, resolved_more}
use Rattle.config_read.proofs.levels.+resolved.Goals as goal
use Rattle.config_read.proofs.levels.+resolved.Goals.{in-Some, in-None}

pub returns-in_default : goal.returns-in_default
returns-in_default t c = resolved_end c.args.p.now c.args.from _ _ c.in_default.len_below (unset_is _ c.default.ensures)

pub returns : goal.returns
returns t c =
    resolved_more c.args.p.now c.args.from c.args.texts.now _ c.in-len1-up.len_at_least _ _ _ c.above.ensures
    (elim c.match-above.branch [
      | in-Some w ↦ rw (w.in-Some.is, w.old-is) w.resolved-old.ensures
      | in-None w ↦ rw (w.in-None.is, w.old-is) (unset_is _ w.default-old.ensures ∙ sym (resolved_none _))
    ])
    c.settings.ensures

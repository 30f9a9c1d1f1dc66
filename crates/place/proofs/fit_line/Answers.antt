use Rattle.place.proofs.FitLaws.{is_broken_law, fit_whole, fit_broken}
use mathlib.Core.Path.{sym, ◌∙◌}
use Rattle.place.proofs.fit_line.Goals as goal

pub break_line-requires : goal.break_line-requires
break_line-requires c =
    rw c.layout-s.ensures
    record { level_le_max_source = c.requires.level_le_max_source; goes_on = c.requires.goes_on; ordered = c.requires.ordered; line_value = (is_broken_law _ _ _ _ (sym c.fit_of.ensures ∙ c.in-Some.is)).1.1 }

pub returns-in-None : goal.returns-in-None
returns-in-None c =
    fit_whole _ _ _ _ _ _ _ _ _ _ _ _ c.args.indent.valid c.requires.level_le_max_source c.requires.goes_on c.push_one.ensures _ c.alone.ensures _ _
    (sym c.fit_of.ensures ∙ c.in-None.is)

pub returns-in-Some : goal.returns-in-Some
returns-in-Some c =
    let broken = rw c.layout-s.ensures at c.break_line.ensures in
    fit_broken _ _ _ _ _ _ _ _ _ _ _ _ _ _ _ c.requires.goes_on (sym c.fit_of.ensures ∙ c.in-Some.is) broken

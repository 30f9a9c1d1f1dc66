use native.Mathlib.Omega.{arith}
use mathlib.Core.Path.{sym, ◌∙◌}
use Rattle.place.proofs.FitLaws.{code_bytes, fit_off, fit_narrow, fit_mixed, fit_wide}
use Rattle.place.proofs.fit_of.Goals as goal
use Rattle.place.proofs.fit_of.Goals.{else-over_wide-via-then-over_wide+else-all_code_or_str, else-over_wide-via-else-over_wide}

pub is_short-requires : goal.is_short-requires
is_short-requires c =
    record { indent = record { blank = c.args.indent.valid.blank; short = c.args.indent.valid.short; flat = omega (arith, c.requires.level_le_max_source) }; well_formed = (c.requires.goes_on.well, omega (arith, c.requires.goes_on.short)) }

pub over_wide-requires : goal.over_wide-requires
over_wide-requires c =
    rw c.layout.ensures
    record { indent = record { blank = c.args.indent.valid.blank; short = c.args.indent.valid.short; flat = omega (arith, c.requires.level_le_max_source) }; well_formed = (c.requires.goes_on.well, omega (arith, c.requires.goes_on.short)) }

pub returns-in_err-max : goal.returns-in_err-max
returns-in_err-max c = c.from_residual.ensures ∙ fit_off _ _ _ (c.in_err-max.was)

pub returns-then-is_short : goal.returns-then-is_short
returns-then-is_short c =
    fit_narrow _ _ _ _ (c.in_ok-max.was) (sym (c.is_short.ensures.fits c.if-is_short.true).is)

pub returns-then-all_code_or_str : goal.returns-then-all_code_or_str
returns-then-all_code_or_str c =
    let wide = rw c.layout.ensures at c.over_wide.ensures in
    fit_wide _ _ _ _ (c.in_ok-max.was) (sym wide.is ∙ c.if-over_wide.true)
    (sym (code_bytes _ _ _ c.requires.goes_on c.all_code_or_str.ensures) ∙ c.if-all_code_or_str.true)

pub returns-else-over_wide : goal.returns-else-over_wide
returns-else-over_wide c =
    let wide = rw c.layout.ensures at c.over_wide.ensures in
    elim c.else-over_wide.branch [
      | else-over_wide-via-then-over_wide+else-all_code_or_str w ↦
          fit_mixed _ _ _ _ (c.in_ok-max.was)
          (sym (code_bytes _ _ _ c.requires.goes_on w.all_code_or_str.ensures) ∙ w.if-all_code_or_str.false)
      | else-over_wide-via-else-over_wide w ↦ fit_narrow _ _ _ _ (c.in_ok-max.was) (sym wide.is ∙ w.if-over_wide.false)
    ]

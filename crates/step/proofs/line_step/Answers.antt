use borrow.Author.Tests.{eqb-true}
use mathlib.Core.Path.{sym, ◌∙◌}
use Rattle.line.proofs.KeptLaws.{blank_same}
use Rattle.step.proofs.StepLaws.{code_carry, code_free, format_raw, format_blank, empty_trim}
use Rattle.step.proofs.line_step.Goals as goal

pub returns-then-is_raw : goal.returns-then-is_raw
returns-then-is_raw c =
    λ o u. format_raw _ _ c.in_block.ensures c.is_raw.ensures _ o c.if-is_raw.true c.raw_line-after.ensures

pub returns-then-adds_nothing : goal.returns-then-adds_nothing
returns-then-adds_nothing c =
    λ o u. format_blank _ _ c.in_block.ensures c.is_raw.ensures _ o c.if-is_raw.false (empty_trim _ (eqb-true _ _ (sym c.is_empty.ensures ∙ c.if-is_empty.true))) ((blank_same _ _ _ _ _ c.requires.ready.small c.adds_nothing.ensures c.if-adds_nothing.true).step _ _)

pub code_line-requires : goal.code_line-requires
code_line-requires c =
    let p = c.in_block.result in
    let q = c.is_raw.ensures in
    record { ready = c.requires.ready; carry_value = code_carry p c.is_raw.result _ q c.if-is_raw.false; ignore_value = code_free p c.is_raw.result c.args.st.carry c.args.st.ignore c.in_block.ensures q c.if-is_raw.false; well_formed = c.requires.well_formed }

pub returns : goal.returns
returns c = c.code_line.ensures

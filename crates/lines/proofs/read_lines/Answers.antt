use borrow.Author.Rules.{rules}
use mathlib.Core.Path.{◌∙◌}
use native.Mathlib.Omega.{arith}
use Rattle.lines.proofs.LoopLaws.{as_made, given_is, reached_ready, reached_well, number_fits}
use Rattle.lines.proofs.CheckLaws.{looked_start, looked_more, looked_stop, looked_end}
use Rattle.lines.proofs.read_lines.Goals as goal

pub loop-at-init : goal.loop-at-init
loop-at-init c =
    looked_start _ _ _ _ _ _ _ _ c.requires.passed c.requires.starts c.new-st.ensures

pub line_step-requires : goal.line_step-requires
line_step-requires c =
    let i = c.loop-at.invariant.reached in
    record { ready = reached_ready i c.requires.passed (omega arith) c.line_end-end.ensures c.without_cr-raw.ensures; well_formed = reached_well i c.requires.passed (omega arith) c.line_end-end.ensures c.without_cr-raw.ensures }

pub overflow_add-at : goal.overflow_add-at
overflow_add-at c =
    omega (arith, c.line_end-end.ensures.fits, c.requires.passed.limit)

pub shape_of-out-then-differs : goal.shape_of-out-then-differs
shape_of-out-then-differs c =
    c.out-1.given ∙ c.loop-at.invariant.reached.as_long

pub shape_of-scratch-then-differs : goal.shape_of-scratch-then-differs
shape_of-scratch-then-differs c =
    c.scratch-1.given ∙ c.loop-at.invariant.reached.as_wide

pub returns-then-differs : goal.returns-then-differs
returns-then-differs c =
    looked_stop c.loop-at.invariant c.requires.passed (omega arith) c.line_end-end.ensures c.without_cr-raw.ensures (as_made _ c.remade-st.ensures (search (rules, given_is)) c.line_step.ensures) c.differs.ensures c.if-differs.true

pub loop-at-smaller : goal.loop-at-smaller
loop-at-smaller c =
    omega (arith, c.line_end-end.ensures.from, c.loop-at-test.true)

pub loop-at-preserved : goal.loop-at-preserved
loop-at-preserved c =
    looked_more c.loop-at.invariant c.requires.passed (omega arith) c.line_end-end.ensures c.without_cr-raw.ensures (as_made _ c.remade-st.ensures (search (rules, given_is)) c.line_step.ensures) c.differs.ensures c.if-differs.false c.out-1.given c.scratch-1.given

pub overflow_add-st : goal.overflow_add-st
overflow_add-st c =
    omega (arith, number_fits c.loop-at.invariant.reached c.requires.passed (omega arith) c.line_end-end.ensures c.without_cr-raw.ensures (as_made _ c.remade-st.ensures (search (rules, given_is)) c.line_step.ensures))

pub returns : goal.returns
returns c = looked_end c.loop-at.invariant c.requires.passed (omega arith)

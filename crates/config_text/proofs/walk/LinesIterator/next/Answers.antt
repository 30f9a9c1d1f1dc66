use native.Mathlib.Omega.{arith}
use mathlib.Core.Path.{ap}
use lib.ListN.{length}
use Rattle.config_text.proofs.WalkLaws.{first_well, lines_next, next_well}
use Rattle.config_text.proofs.walk.LinesIterator.next.Goals as goal

pub trimmed-line-requires : goal.trimmed-line-requires
trimmed-line-requires c = first_well _ _ c.in_ok-rest.was c.requires _ c.line_end-end.ensures

pub returns-clause-steps : goal.returns-clause-steps
returns-clause-steps c =
    (lines_next _ _ c.in_ok-rest.was c.requires _ c.line_end-end.ensures _ _ c.trimmed-line.ensures c.kind_of.ensures _ c.get-self.ensures.lookup, c.kind_of.ensures.parts)

pub returns-clause-goes : goal.returns-clause-goes
returns-clause-goes c =
    let w = next_well _ _ c.in_ok-rest.was c.requires _ c.line_end-end.ensures _ _ c.trimmed-line.ensures c.kind_of.ensures _ c.get-self.ensures.lookup in
    let e = lines_next _ _ c.in_ok-rest.was c.requires _ c.line_end-end.ensures _ _ c.trimmed-line.ensures c.kind_of.ensures _ c.get-self.ensures.lookup in
    record { on = (λ f. (w, tt, omega (arith, ap length e))); keeps = w; rests = (λ f. tt) }

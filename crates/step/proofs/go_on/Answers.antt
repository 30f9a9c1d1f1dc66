use mathlib.Core.Path.{refl}
use Rattle.spacing.proofs.KeptLaws.{keeping_unchanged}
use Rattle.step.proofs.GoingLaws.{goes_own, goes_spaced}
use Rattle.step.proofs.go_on.Goals as goal

pub returns-then-kept-n : goal.returns-then-kept-n
returns-then-kept-n c =
    goes_own _ _ _ _ c.requires.well_formed c.requires.line_room c.requires.classes _ (keeping_unchanged _ _ _ _ c.spaced_to-kept.ensures (λ e. c.if-kept-n.true)) refl

pub returns : goal.returns
returns c =
    let s = c.split_at_mut-front.ensures in
    goes_spaced _ _ _ _ _ c.requires.line_room s.front s.back _ c.requires.well_formed c.requires.classes _ _ _ _ c.normalize_from-len.ensures c.classify_at-carry.ensures

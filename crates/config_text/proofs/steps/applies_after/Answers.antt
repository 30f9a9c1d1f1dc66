use Rattle.std.proofs.Common.{rules}
use Rattle.std.specs.Prelude.{Some}
use mathlib.Core.Path.{◌≡◌}
use Rattle.config_lines.specs.declared.kinds.LineKind.{LineKind}
use Rattle.config_text.proofs.StepLaws.{name_well, name_fits}
use Rattle.config_text.proofs.steps.applies_after.Goals as goal

pub glob_matches-requires : goal.glob_matches-requires
glob_matches-requires c =
    let e : c.args.line ≡ Some (LineKind.Header c.in-Some-Header.name) = search rules in
    (name_well _ _ e c.requires.parts, c.requires.well, name_fits _ _ e c.requires.short)

use Rattle.wirescript.proofs.SettingLaws.{indent_answered}
use Rattle.wirescript.proofs.settings.wirescript_indent_with.Goals as goal

pub returns : goal.returns
returns c = indent_answered _ c.answered.ensures _ _ c.indent_step.ensures

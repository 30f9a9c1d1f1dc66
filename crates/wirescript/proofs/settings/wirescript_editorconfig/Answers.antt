use Rattle.wirescript.proofs.SettingLaws.{config_answered}
use Rattle.wirescript.proofs.settings.wirescript_editorconfig.Goals as goal

pub returns : goal.returns
returns c = config_answered _ c.answered.ensures _ c.config_step.ensures

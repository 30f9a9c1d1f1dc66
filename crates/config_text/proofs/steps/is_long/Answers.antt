use Rattle.std.proofs.Common.{rules}
use Rattle.config_text.proofs.StepLaws.{name_well}
use Rattle.config_text.proofs.steps.is_long.Goals as goal

pub char_count-requires : goal.char_count-requires
char_count-requires c = name_well c.args.line c.in-Some-Header.name (search rules) c.requires

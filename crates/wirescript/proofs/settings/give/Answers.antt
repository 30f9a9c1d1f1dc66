use Rattle.std.proofs.Common.{arith}
use Rattle.wirescript.proofs.SettingLaws.{given_made}
use Rattle.wirescript.proofs.settings.give.Goals as goal

pub returns : goal.returns
returns c = given_made _ _ _ _ _ _ _ c.as_bytes-indent.ensures (omega arith) c.put_line.ensures c.finish.ensures c.from-numbers.ensures

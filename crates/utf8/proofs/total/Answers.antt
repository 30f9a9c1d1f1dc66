use Rattle.std.proofs.Common.{rules}
use Rattle.utf8.proofs.Bytewise.{sum_end}
use Rattle.utf8.proofs.total.Goals as goal

pub returns : goal.returns
returns g c = search (rules, sum_end)

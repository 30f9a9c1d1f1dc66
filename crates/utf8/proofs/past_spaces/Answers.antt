use Rattle.utf8.proofs.TrimScan.{spaces_passed}
use Rattle.utf8.proofs.past_spaces.Goals as goal

pub returns-else-s-lt16 : goal.returns-else-s-lt16
returns-else-s-lt16 c = spaces_passed _ _ c.requires c.first_in.ensures

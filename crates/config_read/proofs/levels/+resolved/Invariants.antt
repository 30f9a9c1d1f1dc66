use lib.ListN.{length}
use Rattle.config_read.proofs.levels.+resolved.Given as goal

abbrev pub decreases-resolved : goal.decreases-resolved
decreases-resolved l = length l.texts.now

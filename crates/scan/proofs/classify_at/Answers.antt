use Rattle.scan.proofs.WithinLaws.{classified_at}
use Rattle.scan.proofs.classify_at.Goals as goal

pub returns : goal.returns
returns c = classified_at _ _ _ _ _ _ _ _ c.requires c.split_at_mut-front.ensures.front c.split_at_mut-front.ensures.back c.classify.ensures

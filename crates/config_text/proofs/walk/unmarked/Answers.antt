use Rattle.std.proofs.lemmas.Bool.Decides.{Decides-eqb}
use Rattle.std.proofs.lemmas.Slice.Eq.{strip_prefix_is}
use Rattle.config_text.proofs.WalkLaws.{unmarked_strip}
use Rattle.config_text.proofs.walk.unmarked.Goals as goal

pub returns : goal.returns
returns c =
    let m = strip_prefix_is Decides-eqb _ _ _ c.strip_prefix.ensures.cases in
    rw c.unwrap_or.ensures (unmarked_strip _ _ c.requires c.as_bytes.ensures.value _ m)

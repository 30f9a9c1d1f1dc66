use Rattle.gaps.specs.Gaps.{is_unkept}
use Rattle.gaps.proofs.gap_end.Given as goal

abbrev pub ghost-past_chars : goal.ghost-past_chars
ghost-past_chars a = is_unkept

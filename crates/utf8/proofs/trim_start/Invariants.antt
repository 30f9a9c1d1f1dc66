use Rattle.utf8.specs.Unicode.{is_white}
use Rattle.utf8.proofs.trim_start.Given as goal

abbrev pub ghost-past_chars : goal.ghost-past_chars
ghost-past_chars a = is_white

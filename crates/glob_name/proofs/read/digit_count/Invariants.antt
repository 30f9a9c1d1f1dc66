use Rattle.glob_name.proofs.ReadLaws.{no_digit_at}
use Rattle.glob_name.proofs.read.digit_count.Given as goal

abbrev pub ghost-first_from : goal.ghost-first_from
ghost-first_from a = no_digit_at a.test.now.0.now

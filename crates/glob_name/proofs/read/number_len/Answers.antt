use Rattle.glob_name.proofs.ReadLaws.{sign_inside, number_given}
use Rattle.glob_name.proofs.read.number_len.Goals as goal

pub digit_count-digits-requires : goal.digit_count-digits-requires
digit_count-digits-requires c = sign_inside _ _ _ c.char_is-sign.ensures c.requires

pub returns : goal.returns
returns c = number_given _ _ _ c.char_is-sign.ensures c.requires _ c.digit_count-digits.ensures _ c.then_some.ensures

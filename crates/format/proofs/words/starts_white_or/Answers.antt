use native.Mathlib.Omega.{arith}
use Rattle.format.proofs.WordLaws.{white_or_end, white_or_byte, white_or_other}
use Rattle.format.proofs.words.starts_white_or.Goals as goal

pub returns-else-not-is_empty : goal.returns-else-not-is_empty
returns-else-not-is_empty c = grind (arith, white_or_end)

pub returns-then-rest-c : goal.returns-then-rest-c
returns-then-rest-c c = grind (arith, white_or_byte)

pub returns-else-rest-c : goal.returns-else-rest-c
returns-else-rest-c c = grind (arith, white_or_other)

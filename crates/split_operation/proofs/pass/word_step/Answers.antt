use mathlib.Core.Path.{refl}
use Rattle.split_operation.proofs.WordLaws.{word_on_law, word_end, word_short}
use Rattle.split_operation.proofs.pass.word_step.Goals.{else-start-i-via-then-start-i+else-is_keyword, else-start-i-via-else-start-i}
use Rattle.split_operation.proofs.pass.word_step.Goals as goal

pub returns-then-in_word : goal.returns-then-in_word
returns-then-in_word c = word_on_law _ _ _ _ c.requires _ c.in_word.ensures refl c.if-in_word.true

pub returns : goal.returns
returns c =
    elim c.else-start-i.branch [
      | else-start-i-via-then-start-i+else-is_keyword w ↦ word_end _ _ _ _ c.requires _ c.in_word.ensures c.if-in_word.false _ w.is_keyword.ensures w.if-is_keyword.false
      | else-start-i-via-else-start-i w ↦ word_short _ _ _ _ c.requires _ c.in_word.ensures c.if-in_word.false w.if-start-i.false
    ]

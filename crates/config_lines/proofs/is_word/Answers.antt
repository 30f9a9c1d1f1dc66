use Rattle.std.proofs.Common.{rules, tests}
use Rattle.std.proofs.lemmas.Iterator.{YieldsList-from_slice, YieldsList-from_zip}
use Rattle.std.proofs.lemmas.Iterator.Search.{all_from_yields_List}
use mathlib.Core.Path.{◌∙◌}
use borrow.Author.Tests.{ne_eqb}
use Rattle.config_lines.proofs.WordLaws.{same_at, word_is, word_longer}
use Rattle.config_lines.proofs.is_word.Goals as goal

pub returns-then-s-word : goal.returns-then-s-word
returns-then-s-word c =
    word_is c.args.s.now c.args.word.now c.all.result
    (all_from_yields_List same_at c.all.new.self _ _ c.all.ensures.ran
    (YieldsList-from_zip (YieldsList-from_slice c.args.s.now cc) (YieldsList-from_slice c.args.word.now cc))
    (λ x b q k. search (rules, tests)))
    c.if-s-word.true

pub returns-else-s-word : goal.returns-else-s-word
returns-else-s-word c = ne_eqb _ _ c.if-s-word.false ∙ word_longer _ _ c.if-s-word.false

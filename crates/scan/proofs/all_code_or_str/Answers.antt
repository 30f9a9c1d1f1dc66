use Rattle.std.proofs.Common.{rules, tests}
use Rattle.std.proofs.lemmas.Iterator.{YieldsList-from_slice}
use Rattle.std.proofs.lemmas.Iterator.Search.{all_from_yields_List}
use lib.Dec.{leb}
use Rattle.scan.proofs.CodeEnd.{all_given}
use Rattle.scan.proofs.all_code_or_str.Goals as goal

pub returns : goal.returns
returns c =
    all_given _ _
    (all_from_yields_List (λ k. leb k 1) c.all.new.self _ _ c.all.ensures.ran (YieldsList-from_slice c.args.class.now cc)
    (λ x b q k. search (rules, tests)))

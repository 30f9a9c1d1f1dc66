use Rattle.std.proofs.Common.{true, false, Bool, ◌≡◌, ℕ, rules, tests}
use Rattle.std.proofs.lemmas.Iterator.{first_from_Range}
use Rattle.blocks.proofs.Laws.{first_found}
use Rattle.blocks.proofs.lanes.first.Goals as goal

pub returns-else-end-ge8 : goal.returns-else-end-ge8
returns-else-end-ge8 g c =
    let h : ℕ → Bool = g.S.PlaceTest.holds c.args.s.now in
    first_found h _ _ c.find.result c.unwrap_or.result c.requires.0
    (first_from_Range _ _ _ _ (λ x. h x ≡ true) (λ x. h x ≡ false) c.find.ensures.ran
    (λ x q k. search (rules, tests)) (λ x q k. (search rules, search (rules, tests))))
    c.unwrap_or.ensures

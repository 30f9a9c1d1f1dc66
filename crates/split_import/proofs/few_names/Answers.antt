use borrow.Author.Rules.{rules}
use Rattle.std.proofs.Common.{tests}
use Rattle.std.proofs.lemmas.Fn.{always_returns_same}
use Rattle.split_import.proofs.NameLaws.{comma, counting_start, piece_whole, counting_blank, counting_first, counting_second, counting_end}
use Rattle.split_import.proofs.few_names.Goals as goal

pub loop-piece-init : goal.loop-piece-init
loop-piece-init c =
    rw (c.into_iter-piece-iterator.ensures.into_iter_gives, c.split-piece-items.ensures.done, c.split-piece-items.ensures.rest) (counting_start _ c.requires)

pub trim_part-p-requires : goal.trim_part-p-requires
trim_part-p-requires c =
    let k = c.in-Some.ensures.steps in
    piece_whole _ _ _ _ _ _ _ c.loop-piece.invariant k.0 k.1 (k.2 comma (always_returns_same _ _ _ (λ a r q m. search (rules, tests)))).1

pub returns-then-some : goal.returns-then-some
returns-then-some c =
    let k = c.in-Some.ensures.steps in
    counting_second _ _ _ _ _ _ _ c.loop-piece.invariant k.0 k.1 (k.2 comma (always_returns_same _ _ _ (λ a r q m. search (rules, tests)))).1
    _ c.trim_part-p.ensures c.if-p.true c.if-some.true

pub loop-piece-preserved-then-p : goal.loop-piece-preserved-then-p
loop-piece-preserved-then-p c =
    let k = c.in-Some.ensures.steps in
    counting_first _ _ _ _ _ _ _ c.loop-piece.invariant k.0 k.1 (k.2 comma (always_returns_same _ _ _ (λ a r q m. search (rules, tests)))).1
    _ c.trim_part-p.ensures c.if-p.true c.if-some.false

pub loop-piece-preserved : goal.loop-piece-preserved
loop-piece-preserved c =
    let k = c.in-Some.ensures.steps in
    counting_blank _ _ _ _ _ _ _ c.loop-piece.invariant k.0 k.1 (k.2 comma (always_returns_same _ _ _ (λ a r q m. search (rules, tests)))).1
    _ c.trim_part-p.ensures c.if-p.false

pub returns : goal.returns
returns c = counting_end _ _ _ _ c.loop-piece.invariant c.in-None.ensures.steps.0

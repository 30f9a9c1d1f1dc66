use mathlib.Core.Path.{sym}
use lib.Seq.{length-take-le}
use borrow.Author.Rules.{rules}
use Rattle.short_sources.proofs.PageLaws.{filling_start, filling_more, filling_out, filling_end}
use Rattle.short_sources.proofs.PageLaws.{filling_full, given_short, given_fits, given_less}
use Rattle.short_sources.proofs.page.fill.Goals as goal

pub loop-page-init : goal.loop-page-init
loop-page-init c = search (rules, filling_start)

pub returns-in_default : goal.returns-in_default
returns-in_default c = filling_end _ _ _ _ _ _ c.loop-page.invariant c.requires.most_bound c.in_default.ensures

pub returns-then-most-g : goal.returns-then-most-g
returns-then-most-g c = filling_out _ _ _ _ _ _ c.loop-page.invariant _ c.in-Some.ensures c.if-most-g.true

pub slice_bounds-add_source-end : goal.slice_bounds-add_source-end
slice_bounds-add_source-end c = sym (length-take-le _ _ (given_fits c.args.most _ _ c.in-Some.ensures))

pub add_source-size-requires : goal.add_source-size-requires
add_source-size-requires c = record { short = given_short c.args.most _ _ c.in-Some.ensures; at_in_bounds = search rules }

pub loop-page-smaller : goal.loop-page-smaller
loop-page-smaller c = given_less c.args.most _ _ c.in-Some.ensures

pub loop-page-preserved : goal.loop-page-preserved
loop-page-preserved c = filling_more _ _ _ _ _ _ c.loop-page.invariant _ c.in-Some.ensures (search rules) (search rules) _ _ c.add_source-size.ensures

pub returns : goal.returns
returns c = search (rules, filling_full)

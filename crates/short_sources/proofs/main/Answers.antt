use mathlib.Core.Path.{sym}
use lib.Seq.{length-take-le}
use borrow.Author.Rules.{rules}
use Rattle.short_sources.proofs.InputLaws.{greatest_few}
use Rattle.short_sources.proofs.PageLaws.{page_nearer}
use Rattle.short_sources.proofs.main.Goals as goal

pub loop-next-init : goal.loop-next-init
loop-next-init c = (search rules, search (rules, greatest_few))

pub fill-filled-requires : goal.fill-filled-requires
fill-filled-requires c = record { in_bounds = search rules; most_bound = search rules }

pub slice_bounds-write_all-end : goal.slice_bounds-write_all-end
slice_bounds-write_all-end c = sym (length-take-le _ _ (search rules))

pub loop-next-smaller : goal.loop-next-smaller
loop-next-smaller c = page_nearer _ _ _ _ _ c.fill-filled.ensures c.in-Some.is

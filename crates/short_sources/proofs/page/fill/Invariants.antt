-- `fill` meets its contract. The loop: what stands in the page, then what is printed from the next place on.
use Prim.Native.Nat.{◌-◌}
use lib.ListN.{length}
use Rattle.short_texts.specs.Texts.{texts}
use Rattle.short_sources.proofs.PageLaws.{Filling}
use Rattle.short_sources.proofs.page.fill.Given as goal

abbrev pub invariant-loop-page : goal.invariant-loop-page
invariant-loop-page l = Filling l.most l.initial.next l.initial.page l.page l.size l.next

abbrev pub decreases-loop-page : goal.decreases-loop-page
decreases-loop-page l = length texts - l.next.number

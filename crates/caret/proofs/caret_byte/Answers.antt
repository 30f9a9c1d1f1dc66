use borrow.Author.Rules.{rules}
use Rattle.caret.proofs.ScanLaws.{caret_end, caret_stays, caret_goes}
use Rattle.caret.proofs.caret_byte.Goals as goal
use Rattle.caret.proofs.caret_byte.Goals.{else-at-source-via-then-at-source+else-is_none, else-at-source-via-else-at-source}

pub returns-then-is_none : goal.returns-then-is_none
returns-then-is_none c =
    caret_goes _ _ _ _ _ c.requires c.count_chars-n.ensures c.past_nth-p.ensures.here _ _ _ c.if-at-source.true
    c.unkept_at.ensures c.is_none.ensures c.if-is_none.true c.gap_end.ensures

pub returns-else-at-source : goal.returns-else-at-source
returns-else-at-source c =
    elim c.else-at-source.branch [
      | else-at-source-via-then-at-source+else-is_none w ↦
          caret_stays _ _ _ _ _ c.requires c.count_chars-n.ensures c.past_nth-p.ensures.here _ _ w.if-at-source.true
          w.unkept_at.ensures w.is_none.ensures w.if-is_none.false
      | else-at-source-via-else-at-source w ↦ search (rules, caret_end)
    ]

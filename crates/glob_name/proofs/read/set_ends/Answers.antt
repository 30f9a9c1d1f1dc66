use borrow.Author.Rules.{rules}
use Rattle.glob_name.proofs.ReadLaws.{ending_start, ending_close, ending_escape, ending_other, ending_end}
use Rattle.glob_name.proofs.read.set_ends.Goals as goal
use Rattle.glob_name.proofs.read.set_ends.Goals.{in-93, in-92, in_default}

pub loop-i-init : goal.loop-i-init
loop-i-init c = search (rules, ending_start)

pub loop-i-preserved : goal.loop-i-preserved
loop-i-preserved c =
    elim c.match-chars-i.branch [
      | in-93 w ↦ rw (w.plain-is, w.escaped-is) (search (rules, ending_close))
      | in-92 w ↦ rw (w.plain-is, w.escaped-is) (search (rules, ending_escape))
      | in_default w ↦ rw (w.plain-is, w.escaped-is) (search (rules, ending_other))
    ]

pub returns : goal.returns
returns c = search (rules, ending_end)

use Rattle.std.proofs.Common.{rules, arith}
use Rattle.utf8.proofs.CharScan.{chars_begin, chars_turn, chars_found, chars_end}
use Rattle.utf8.proofs.past_chars.Goals as goal

pub loop-i-init : goal.loop-i-init
loop-i-init g c = search (rules, chars_begin)

pub returns-in_default : goal.returns-in_default
returns-in_default g c =
    let h = c.loop-i-test.true in
    chars_found _ _ _ _ _ c.loop-i.invariant h (c.requires.1.1.1 _ _ h c.test.ensures) c.in_default.is

pub overflow_add-i : goal.overflow_add-i
overflow_add-i g c =
    let t = (c.requires.1.1.1 _ _ c.loop-i-test.true c.test.ensures).step _ c.in-Some.is in omega (arith, t.fits)

pub loop-i-preserved : goal.loop-i-preserved
loop-i-preserved g c = search (rules, chars_turn)

pub returns : goal.returns
returns g c = search (rules, chars_end)

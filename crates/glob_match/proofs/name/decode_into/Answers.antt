use borrow.Author.Rules.{rules}
use native.Mathlib.Omega.{arith}
use Rattle.glob_match.proofs.NameLaws.{decoding_start, decoding_room, decoding_more, decoding_end}
use Rattle.glob_match.proofs.name.decode_into.Goals as goal

pub loop-i-init : goal.loop-i-init
loop-i-init c = search (rules, decoding_start)

pub offset_bounds-chars-n : goal.offset_bounds-chars-n
offset_bounds-chars-n c = omega (arith, (decoding_room _ _ _ _ _ _ c.loop-i.invariant _ c.size_at-m.ensures).0)

pub bounds-chars-n : goal.bounds-chars-n
bounds-chars-n c = omega (arith, (decoding_room _ _ _ _ _ _ c.loop-i.invariant _ c.size_at-m.ensures).0)

pub overflow_add-n : goal.overflow_add-n
overflow_add-n c = omega (arith, (decoding_room _ _ _ _ _ _ c.loop-i.invariant _ c.size_at-m.ensures).0)

pub loop-i-preserved : goal.loop-i-preserved
loop-i-preserved c = search (rules, decoding_more)

pub returns : goal.returns
returns c = search (rules, decoding_end)

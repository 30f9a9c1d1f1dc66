use Rattle.std.proofs.Common.{rules, ap, ◌∙◌}
use Rattle.std.specs.Slice.Iter.{chunks_rest, chunks_size}
use Rattle.options.proofs.EndingLaws.{to_start, dominant_crlf, dominant_lf}
use Rattle.options.proofs.ending.dominant_in.Goals as goal

pub loop-block-init : goal.loop-block-init
loop-block-init c =
    let g = c.into_iter-block-iterator.ensures.into_iter_gives in
    (ap chunks_size g ∙ c.chunks-block-items.ensures.size, to_start _ _ (ap chunks_rest g ∙ c.chunks-block-items.ensures.rest))

pub returns-then-lf-crlf : goal.returns-then-lf-crlf
returns-then-lf-crlf c = search (rules, dominant_crlf)

pub returns-else-lf-crlf : goal.returns-else-lf-crlf
returns-else-lf-crlf c = search (rules, dominant_lf)

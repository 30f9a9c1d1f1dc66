use Prim.Native.Nat.{◌+◌}
use mathlib.Core.Path.{◌≡◌}
use native.Mathlib.Omega.{arith}
use Rattle.std.proofs.lemmas.List.FromFn.{length-range_with_len}
use Rattle.blocks.proofs.Marks.{bytes_at, marks_by}
use Rattle.spacing.specs.Respaced.{odd_at}
use Rattle.spacing.proofs.SaidLaws.{both_said, either_said, is_said, is_not_said, top_said}
use Rattle.spacing.proofs.odd.OddLaneTest.marks.Goals as goal

pub returns : goal.returns
returns g c =
    let s = c.args.self.now.line.now in
    let t = c.args.self.now.class.now in
    let n = g.row.N in
    let l = length-range_with_len c.args.i n in
    let o : c.args.i + 0 ≡ c.args.i = omega arith in
    let w = rw o at (bytes_at s c.args.i 0 n (omega arith)) in
    let x = bytes_at s c.args.i 1 n (omega arith) in
    let y = bytes_at s c.args.i 2 n (omega arith) in
    let z = bytes_at s c.args.i 3 n (omega arith) in
    let k = bytes_at t c.args.i 1 n (omega arith) in
    let m = bytes_at t c.args.i 2 n (omega arith) in
    let blank = either_said _ _ _ (is_said _ _ n 32 l w) (is_said _ _ n 9 l w) in
    let closer = either_said _ _ _ (either_said _ _ _ (is_said _ _ n 125 l z) (is_said _ _ n 41 l z)) (is_said _ _ n 93 l z) in
    let shut = either_said _ _ _ (either_said _ _ _ (is_said _ _ n 32 l z) (is_said _ _ n 9 l z)) closer in
    let gap = either_said _ _ _ (either_said _ _ _ blank (either_said _ _ _ (is_not_said _ _ n 32 l y) (is_not_said _ _ n 0 l m))) shut in
    let pair = either_said _ _ _ (is_said _ _ n 92 l x) (both_said _ _ _ (is_said _ _ n 32 l x) (is_said _ _ n 32 l y)) in
    marks_by _ (odd_at s t) c.args.i n (omega arith)
    (both_said _ _ _ (is_said _ _ n 0 l k) (either_said _ _ _ pair (both_said _ _ _ (is_said _ _ n 44 l x) gap)))
    (λ j. let q : j + 0 ≡ j = omega arith in rw q (top_said (odd_at s t j)))

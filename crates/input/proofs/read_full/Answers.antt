use Rattle.std.proofs.Common.{◌≡◌, ℕ, ◌+◌, ◌-◌, ◌≤◌, List, ◌++◌, rules, arith, length, take, slice_range, sym, ap, ◌∙◌, subst, le_refl, drop_at, length-take-le}
use Rattle.std.proofs.lemmas.Slice.{take-put_mid_below}
use Rattle.std.specs.Io.KnownBytes.{Consumes}
use Rattle.std.proofs.KnownBytes.{Consumes-trans}
use borrow.Rule.Slice.PartMut.{put_mid, post_of}
use lib.Seq.{take-add, take-append-le}
use Rattle.input.proofs.read_full.Goals as goal

-- what stands before a, then the n bytes that a read put from a on
front_part : (a k n : ℕ) (xs ys : List ℕ) → a ≤ length xs → n ≤ length ys
    → take a xs ++ take n ys ≡ take (a + n) (put_mid a k xs ys)
front_part a k n xs ys within fits =
    let new = put_mid a k xs ys in
    let same : a + n - a ≡ n = omega arith in
    let front : take a new ≡ take a xs = take-put_mid_below _ _ _ _ _ (le_refl _) within in
    let part : slice_range new a (a + n) ≡ take n ys =
    ap (take (a + n - a)) (drop_at (take a xs) (ys ++ post_of a k xs) a (length-take-le a xs within))
    ∙ ap (λ m. take m (ys ++ post_of a k xs)) same ∙ take-append-le n ys (post_of a k xs) fits in
    let same' : a + (a + n - a) ≡ a + n = omega arith in
    ap (λ l. take a xs ++ l) (sym part) ∙ ap (λ l. l ++ slice_range new a (a + n)) (sym front)
    ∙ sym (take-add a (a + n - a) new) ∙ ap (λ m. take m new) same'

pub loop-done-preserved : goal.loop-done-preserved
loop-done-preserved g c =
    let k = length c.loop-done.buf - c.loop-done.done in
    let e = front_part c.loop-done.done k c.in_ok-n.n c.loop-done.buf c.read.new.buf c.loop-done.invariant.within c.in_ok-n.ensures.bound.0 in
    record {
      within = search rules;
      bytes = subst (Consumes _ _) e (Consumes-trans _ _ _ _ _ c.loop-done.invariant.bytes c.in_ok-n.ensures.bytes.0);
    }

pub returns-then-n-eq0 : goal.returns-then-n-eq0
returns-then-n-eq0 g c =
    let k = length c.loop-done.buf - c.loop-done.done in
    let e = front_part c.loop-done.done k c.in_ok-n.n c.loop-done.buf c.read.new.buf c.loop-done.invariant.within c.in_ok-n.ensures.bound.0 in
    let z : c.loop-done.done + c.in_ok-n.n ≡ c.loop-done.done = omega arith in
    record {
      bound = search rules;
      bytes = subst (Consumes _ _) (e ∙ ap (λ m. take m (put_mid c.loop-done.done k c.loop-done.buf c.read.new.buf)) z)
          (Consumes-trans _ _ _ _ _ c.loop-done.invariant.bytes c.in_ok-n.ensures.bytes.0);
      end = λ h. c.in_ok-n.ensures.bytes.1 c.if-n-eq0.true (omega arith);
    }

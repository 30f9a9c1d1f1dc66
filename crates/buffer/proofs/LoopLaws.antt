-- What the loops keep: a record for each, and the laws of its start, its turn and its end.
use mathlib.Core.Path.{◌≡◌, refl, sym, ap, ◌∙◌}
use mathlib.Core.List.{List, ◌++◌}
use Prim.Native.Nat.{ℕ, ◌+◌, ◌-◌, ◌≤◌, ◌<◌, zero-le}
use native.Mathlib.Omega.{arith}
use lib.ListN.{length, take, drop, length-append}
use Rattle.buffer.specs.Buffer.{over, Wrote}
use Rattle.buffer.specs.Repeat.{times}
use Rattle.buffer.proofs.RegionLaws.{part_from, back_from}
use Rattle.buffer.proofs.OverLaws.{over_nil, over_full, over_next, length_over}
use Rattle.buffer.proofs.RepeatLaws.{times_snoc, times_split}

-- ---- `put_levels`: the indent stands over the front i times, and at is its length so far

pub record Indenting (out₀ indent : List ℕ) (levels : ℕ) (out : List ℕ) (i at : ℕ) : Type 0 where
  pub within : i ≤ levels
  pub is : out ≡ over out₀ (times i indent)
  pub reached : at ≡ length (times i indent)
  pub long : length out ≡ length out₀

pub indenting_start : (out indent : List ℕ) (levels : ℕ) → Indenting out indent levels out 0 0
unfolding times
indenting_start out indent levels = record { within = zero-le; is = sym (over_nil out); reached = refl; long = refl }

module _ (out₀ indent : List ℕ) (levels : ℕ) (out : List ℕ) (i at : ℕ) (r : Indenting out₀ indent levels out i at) where
  pub indenting_more : (y : List ℕ) (k : ℕ) → i < levels → Wrote (take (length out - at) (drop at out)) y indent k
      → Indenting out₀ indent levels (take at out ++ (y ++ drop (length out - at) (drop at out))) (i + 1) (at + length indent)
  indenting_more y k h w =
      let e : take at out ++ (y ++ drop (length out - at) (drop at out)) ≡ over out₀ (times (i + 1) indent) =
      back_from out y at ∙ rw (w.is, part_from, r.is, r.reached) (over_next out₀ (times i indent) indent) ∙ ap (over out₀) (sym (times_snoc i indent)) in
      record {
        within = omega arith;
        is = e;
        reached = rw (times_snoc, length-append, r.reached);
        long = ap length e ∙ length_over out₀ (times (i + 1) indent);
      }

  pub indenting_full : (n : ℕ) → length out ≤ at → n ≡ length (times levels indent) → Wrote out₀ out (times levels indent) n
  indenting_full n h e =
      let k : length out₀ ≤ length (times i indent) = omega (arith, r.reached, r.long) in
      record { size = e; is = r.is ∙ sym (rw (times_split i levels indent r.within, over_full out₀ (times i indent) (times (levels - i) indent) k)) }

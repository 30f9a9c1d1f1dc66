-- Bytes that are a mark each and leave the mode as it is, in one go.
use Prim.Native.Nat.{ℕ, zero, suc, ◌+◌, ◌-◌, ◌<◌, ◌≤◌}
use mathlib.Core.Path.{◌≡◌, refl, sym, ◌∙◌}
use mathlib.Core.List.{List, [], ◌∷◌, ◌++◌}
use native.Mathlib.Nat.{add-zero}
use native.Mathlib.Omega.{arith}
use lib.ListN.{length, take, drop, set, replicate, length-replicate, length-append, length-set}
use lib.Seq.{length-take-le, take_at}
use Rattle.buffer.specs.Buffer.{put}
use Rattle.buffer.proofs.RegionLaws.{put_nil, put_put, set_put}
use Rattle.rules.specs.declared.Class.{Class}
use Rattle.rules.specs.declared.Mode.{Mode}
use Rattle.rules.specs.Scan.{one, mark_at}
use Rattle.rules.specs.ClassBytes.{class_byte}
use Rattle.scan.specs.Marked.{Marked}
use Rattle.scan.specs.Stretch.{Scanned, fresh}
use Rattle.scan.proofs.ScannedLaws.{scanned_start, scanned_then, scanned_one}

module _ (line : List ℕ) (m : Mode) (k : Class) where
  same_run : (n i : ℕ) (d : List ℕ) → i + n ≤ length line → length line ≤ length d → ((j : ℕ) → j < n → mark_at m (drop (i + j) line) ≡ one k m)
      → Scanned line (fresh m) i d (fresh m) (i + n) (put d i (replicate n (class_byte k)))
  same_run zero i d l room same = rw (add-zero, put_nil) (scanned_start line (fresh m) i d (omega arith))
  same_run (suc n) i d l room same =
      let b = class_byte k in
      let z : i + 0 ≡ i = omega arith in
      let j : i + 1 + n ≡ i + suc n = omega arith in
      let e : put (set d i b) (i + 1) (replicate n b) ≡ put d i (b ∷ replicate n b) = rw (set_put d i b (omega arith)) (put_put d i (b ∷ []) (replicate n b) (omega arith)) in
      let p = scanned_one line m i d k m b (omega arith) room (rw z at (same 0 (omega arith))) refl in
      let q = same_run n (i + 1) (set d i b) (omega arith) (simp length-set room) (λ x h. rw (shift x) at (same (suc x) (omega arith))) in
      scanned_then p (rw (j, e) at q)
    where
      shift : (x : ℕ) → i + suc x ≡ i + 1 + x
      shift x = omega arith

  -- bytes from a to e, however what follows them was written
  pub run_marked : (a e : ℕ) (d z : List ℕ) → a ≤ e → e ≤ length line → length line ≤ length d → ((j : ℕ) → a ≤ j → j < e → mark_at m (drop j line) ≡ one k m)
      → Marked (class_byte k) a e (length line) d z → Scanned line (fresh m) a d (fresh m) e z
  unfolding put
  run_marked a e d z h l room same p =
      let b = class_byte k in
      let r = replicate (e - a) b in
      let j : a + (e - a) ≡ e = omega arith in
      let q = rw j at (same_run (e - a) a d (omega arith) room (λ x i. same (a + x) (omega arith) (omega arith))) in
      let x = take a d ++ r in
      let lx : length x ≡ e = length-append (take a d) r ∙ omega (arith, length-replicate (e - a) b, length-take-le a d (omega arith)) in
      let t : take e z ≡ take e (put d a r) = p.bytes ∙ sym (take_at x (drop (a + length r) d) e lx) in
      record {
        moved = record { on = h; within = l; as_long = p.as_long };
        bytes = rw t q.bytes;
        carry = q.carry;
        beyond = p.beyond;
      }

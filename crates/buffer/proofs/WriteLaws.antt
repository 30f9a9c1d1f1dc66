-- Laws on writing a text piece by piece, each into the part that starts at the place reached.
use mathlib.Core.Path.{◌≡◌, refl, sym, ap, ◌∙◌}
use mathlib.Core.Bool.{Bool, true}
use mathlib.Core.List.{List, [], ◌∷◌, ◌++◌}
use Prim.Native.Nat.{ℕ, zero, suc, ◌+◌, ◌-◌, min}
use native.Mathlib.Nat.{zero-add, suc-add}
use native.Mathlib.Omega.{arith, min_cases}
use lib.ListN.{length, take, drop, replicate, length-append, length-drop, length-replicate, drop_of_length-le, take-append-drop}
use lib.Seq.{take_all, take-length, drop-length, length-take-le}
use Rattle.buffer.specs.Buffer.{over, Wrote, Appended, Finishes, AllAre}
use Rattle.buffer.specs.Repeat.{times}
use Rattle.buffer.proofs.RegionLaws.{part_from, back_from}
use Rattle.buffer.proofs.OverLaws.{over_nil, over_next, over_run}
use Rattle.buffer.proofs.RepeatLaws.{times_nil, times_alike}

-- nothing is written
pub appended_nil : (x : List ℕ) (at : ℕ) → Appended x x at [] at
appended_nil x at = record { next = omega arith; is = sym (rw over_nil (take-append-drop at x)) }

-- two lines, one after the other
append_twice : (x l k : List ℕ) (at : ℕ) (y : List ℕ) → y ≡ take at x ++ over (drop at x) l
    → take (at + length l) y ++ over (drop (at + length l) y) k ≡ take at x ++ over (drop at x) (l ++ k)
unfolding over
append_twice x l k zero y e = rw (zero-add, e) (over_next x l k)
append_twice [] l k (suc at) y e = rw (suc-add, e)
append_twice (a ∷ x) l k (suc at) y e = rw (suc-add, e) (ap (λ (r : List ℕ). a ∷ r) (append_twice x l k at (take at x ++ over (drop at x) l) refl))

pub appended_append : {x y z l k : List ℕ} {at m n : ℕ} → Appended x y at l m → Appended y z m k n → Appended x z at (l ++ k) n
appended_append {x} {y} {z} {l} {k} {at} {m} {n} v w =
    record {
      next = omega (arith, length-append l k, v.next, w.next);
      is = w.is ∙ rw v.next (append_twice x l k at y v.is);
    }

-- the place reached in a buffer that is too short is its end
from_place : (x l : List ℕ) (at p : ℕ) → p ≡ min at (length x) → take p x ++ over (drop p x) l ≡ take at x ++ over (drop at x) l
from_place x l at p e =
    min_cases at (length x) (take p x ++ over (drop p x) l ≡ take at x ++ over (drop at x) l)
    (λ h m. rw (e, m))
    (λ h m. rw (e, m, take-length, take_all at x h, drop-length, drop_of_length-le x {i = at} h))

-- what comes back of the part that starts at the place reached, `put_line(&mut out[p..], line)`: y is what it left in
-- the part
pub appended_from : (x y l : List ℕ) (at p n : ℕ) → p ≡ min at (length x) → Wrote (take (length x - p) (drop p x)) y l n
    → Appended x (take p x ++ (y ++ drop (length x - p) (drop p x))) at l (at + n)
appended_from x y l at p n e w =
    record {
      next = ap (λ (k : ℕ). at + k) w.size;
      is = back_from x y p ∙ rw (w.is, part_from) (from_place x l at p e);
    }

-- what comes back of the part that is filled with zeros, `zero(&mut out[at..])`
pub finishes_from : (x y : List ℕ) (at : ℕ) → y ≡ replicate (length (take (length x - at) (drop at x))) 0
    → Finishes x (take at x ++ (y ++ drop (length x - at) (drop at x))) at
finishes_from x y at e = record { is = back_from x y at ∙ rw (e, part_from, length-drop) }

-- what comes back of the part that is filled with b, `fill(&mut out[..m], b)`
pub wrote_run : (x y : List ℕ) (n b m : ℕ) → m ≡ min n (length x) → y ≡ replicate (length (take m x)) b → Wrote x (y ++ drop m x) (replicate n b) n
wrote_run x y n b m h e =
    record { size = sym (length-replicate n b); is = rw (e, length-take-le m x (omega arith), h) (sym (over_run x n b)) }

-- an indent that is empty, and one of one kind of byte
pub wrote_none : (x w : List ℕ) (n : ℕ) → length w ≡ 0 → Wrote x x (times n w) 0
wrote_none x [] n h = record { size = sym (ap length (times_nil n)); is = sym (rw times_nil (over_nil x)) }
wrote_none x (a ∷ w) n h = absurd (omega arith)

pub wrote_times : (x y w : List ℕ) (n b k r : ℕ) (same : Bool) → AllAre w b same → same ≡ true → k ≡ length (times n w) → Wrote x y (replicate k b) r → Wrote x y (times n w) r
wrote_times x y w n b k r same h e l v = rw (times_alike w n b k same h e l) v

-- A buffer split in two, `split_at_mut`: what a part of the front is, and what the whole is after a change of the back.
use Prim.Native.Nat.{ℕ, ◌+◌, ◌-◌, ◌≤◌}
use mathlib.Core.List.{List, ◌++◌}
use mathlib.Core.Path.{◌≡◌, sym, ap, ◌∙◌}
use native.Mathlib.Omega.{arith}
use lib.ListN.{length, take, drop, length-take, length-drop, length-append}
use lib.Seq.{take-take, drop-drop, take-append_seam, drop-append_seam, drop-append-add}
use Rattle.buffer.specs.Buffer.{part}
use Rattle.buffer.proofs.RegionLaws.{drop_take, length_part}
use Rattle.basics.specs.Region.{Only}

module _ (buf front : List ℕ) (base a n : ℕ) (f : front ≡ take base buf) (h : a + n ≤ base) where
  pub front_part : part front a (a + n) ≡ part buf a (a + n)
  front_part =
      let e : a + n - a ≡ n = omega arith in
      rw (f, e, drop_take a base buf) (take-take n (base - a) (drop a buf) (omega arith))

  pub front_long : base ≤ length buf → length (part front a (a + n)) ≡ n
  front_long k = length_part front a n (omega (arith, ap length f, length-take base buf))

module _ (buf front x y : List ℕ) (base : ℕ) (fits : base ≤ length buf) (f : front ≡ take base buf) (g : x ≡ drop base buf) where
  pub after_back : drop base (front ++ y) ≡ y
  after_back =
      let l : base ≡ length front = omega (arith, ap length f, length-take base buf) in
      rw l (drop-append_seam front y)

  pub only_from : (m : ℕ) → Only x y 0 (0 + m) → Only buf (front ++ y) base (base + m)
  only_from m w =
      let l : length front ≡ base = omega (arith, ap length f, length-take base buf) in
      record {
        long = omega (arith, length-append front y, w.long, ap length g, length-drop base buf);
        front = rw (← l) (take-append_seam front y) ∙ f;
        back =
            (let a : drop (base + m) (front ++ y) ≡ drop m y = rw (← l) (drop-append-add front y m) in
            let b : drop (base + m) buf ≡ drop m (drop base buf) = rw (drop-drop m base buf) in
            let z : 0 + m ≡ m = omega arith in
            a ∙ rw z at w.back ∙ ap (drop m) g ∙ sym b);
      }

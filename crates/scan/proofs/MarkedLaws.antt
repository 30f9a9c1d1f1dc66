-- Class bytes that are written in one go, of the bytes that a search passes.
use Prim.Native.Nat.{ℕ, ◌+◌, ◌-◌, ◌<◌, ◌≤◌}
use mathlib.Core.Bool.{Bool, false}
use mathlib.Core.Path.{◌≡◌, refl, sym, ap, ◌∙◌}
use mathlib.Core.List.{List, ◌++◌, append-nil, append_assoc}
use native.Mathlib.Nat.{le_refl}
use native.Mathlib.Omega.{arith}
use lib.ListN.{length, take, drop, replicate, length-replicate, length-append, length-drop, take-append-drop}
use lib.Seq.{length-take-le, take_at, drop-drop}
use Rattle.std.proofs.lemmas.List.{take-append-le, take-replicate, replicate-append-replicate}
use Rattle.std.proofs.Math.Seq.{take-append-add, drop-append-add}
use Rattle.buffer.specs.Buffer.{put}
use Rattle.buffer.proofs.RegionLaws.{length_put, put_back}
use Rattle.std.proofs.Common.{◌⊎◌, inl, inr}
use Rattle.std.proofs.lemmas.Bool.{cases_lt}
use Rattle.blocks.specs.Blocks.{FirstFrom}
use Rattle.scan.specs.Marked.{Span, Marked}

-- class bytes a to e, lent to `fill`, when they are back
pub filled : (d y : List ℕ) (a n b : ℕ) → a + n ≤ length d → y ≡ replicate (length (take n (drop a d))) b → take a d ++ (y ++ drop n (drop a d)) ≡ put d a (replicate n b)
filled d y a n b l e =
    let m : length (take n (drop a d)) ≡ n = length-take-le n (drop a d) (omega (arith, length-drop a d)) in
    let f : y ≡ replicate n b = rw m at e in
    put_back d y a n (ap length f ∙ length-replicate n b) ∙ ap (put d a) f

pub marked_none : (k a n : ℕ) (d : List ℕ) → a ≤ length d → Marked k a a n d d
marked_none k a n d l =
    let e : a - a ≡ 0 = omega arith in
    record { bytes = rw e (sym (append-nil (take a d))); as_long = refl; beyond = refl }

module _ {k a e n : ℕ} {d y : List ℕ} (p : Marked k a e n d y) where
  -- w bytes more
  pub marked_more : (w : ℕ) (z : List ℕ) → a ≤ e → e + w ≤ n → n ≤ length d → z ≡ put y e (replicate w k) → Marked k a (e + w) n d z
  unfolding put
  marked_more w z h l room q =
      let r = replicate w k in
      let x = take e y ++ r in
      let lr : length r ≡ w = length-replicate w k in
      let lx : length x ≡ e + w = length-append (take e y) r ∙ omega (arith, lr, length-take-le e y (omega (arith, p.as_long))) in
      let j : (e - a) + w ≡ e + w - a = omega arith in
      let m : length x + (n - (e + w)) ≡ n = omega (arith, lx) in
      let o : e + length r + (n - (e + w)) ≡ n = omega (arith, lr) in
      record {
        bytes = ap (take (e + w)) q ∙ take_at x (drop (e + length r) y) (e + w) lx ∙ ap (λ u. u ++ r) p.bytes
            ∙ append_assoc (take a d) (replicate (e - a) k) r ∙ ap (λ u. take a d ++ u) (replicate-append-replicate (e - a) w k ∙ ap (λ u. replicate u k) j);
        as_long = ap length q ∙ length_put y e r (omega (arith, lr, p.as_long)) ∙ p.as_long;
        beyond =
            ap (drop n) q ∙ ap (λ u. drop u (x ++ drop (e + length r) y)) (sym m) ∙ drop-append-add x (drop (e + length r) y) (n - (e + w))
            ∙ drop-drop (n - (e + w)) (e + length r) y ∙ ap (λ u. drop u y) o ∙ p.beyond;
      }

  -- up to a place before
  pub marked_less : (i : ℕ) → a ≤ i → i ≤ e → e ≤ length d → a ≤ length d → Marked k a i n d y
  marked_less i h l m o =
      let le : i ≤ length (take e y) = omega (arith, length-take-le e y (omega (arith, p.as_long))) in
      let la : length (take a d) ≡ a = length-take-le a d o in
      let j : length (take a d) + (i - a) ≡ i = omega (arith, la) in
      record {
        bytes =
            ap (take i) (sym (take-append-drop e y)) ∙ take-append-le i (take e y) (drop e y) le ∙ ap (take i) p.bytes
            ∙ ap (λ u. take u (take a d ++ replicate (e - a) k)) (sym j) ∙ take-append-add (take a d) (replicate (e - a) k) (i - a)
            ∙ ap (λ u. take a d ++ u) (take-replicate (i - a) (e - a) k (omega arith));
        as_long = p.as_long;
        beyond = p.beyond;
      }

-- bytes that were lent to `fill`
pub marked_filled : (k a e n : ℕ) (d y : List ℕ) → Span a e n d → y ≡ replicate (length (take (e - a) (drop a d))) k → Marked k a e n d (take a d ++ (y ++ drop (e - a) (drop a d)))
marked_filled k a e n d y s q =
    let j : a + (e - a) ≡ e = omega (arith, s.from) in
    rw j at (marked_more (marked_none k a n d (omega (arith, s.from, s.within, s.room))) (e - a) _ (omega arith) (omega (arith, s.within)) s.room
    (filled d y a (e - a) k (omega (arith, s.within, s.room)) q))

-- one run after another
pub marked_then : {k a i e n : ℕ} {d y z : List ℕ} → Marked k a i n d y → Marked k i e n y z → a ≤ i → i ≤ e → Marked k a e n d z
marked_then {k} {a} {i} {e} {n} {d} {y} p q h l =
    let j : (i - a) + (e - i) ≡ e - a = omega arith in
    record {
      bytes = q.bytes ∙ ap (λ u. u ++ replicate (e - i) k) p.bytes ∙ append_assoc (take a d) (replicate (i - a) k) (replicate (e - i) k)
          ∙ ap (λ u. take a d ++ u) (replicate-append-replicate (i - a) (e - i) k ∙ ap (λ u. replicate u k) j);
      as_long = q.as_long ∙ p.as_long;
      beyond = q.beyond ∙ p.beyond;
    }

module _ {p : ℕ → Bool} where
  -- a search that found no place before m
  pub first_past : {a m e : ℕ} → FirstFrom p a m e → m ≤ e → FirstFrom p a e e
  first_past {a} {m} {e} f h = record { from = f.from; within = le_refl e; none = f.none; passes = λ l. absurd (omega arith) }

  -- one that goes on behind another
  pub first_then : {a i n e : ℕ} → FirstFrom p a i i → FirstFrom p i n e → FirstFrom p a n e
  first_then {a} {i} {n} {e} f g = record { from = omega (arith, f.from, g.from); within = g.within; none = λ j h l. go j h l (cases_lt j i); passes = g.passes }
    where
      go : (j : ℕ) → a ≤ j → j < e → (j < i) ⊎ (i ≤ j) → p j ≡ false
      go j h l (inl k) = f.none j h k
      go j h l (inr k) = g.none j k l

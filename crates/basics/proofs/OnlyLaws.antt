-- Laws on a buffer of which at most a region changed.
use Prim.Native.Nat.{ℕ, zero, suc, ◌+◌, ◌-◌, ◌≤◌, ◌<◌}
use mathlib.Core.List.{List, [], ◌∷◌}
use mathlib.Core.Path.{◌≡◌, refl, sym, ap, ◌∙◌}
use native.Mathlib.Nat.{le_refl}
use native.Mathlib.Omega.{arith}
use lib.ListN.{get_or, take, drop, set, length-set}
use lib.Seq.{take-take, drop-drop, get_or-take, get_or-drop, take-set-le, drop-set-lt, take-nil}
use Rattle.buffer.specs.Buffer.{part}
use Rattle.basics.specs.Region.{Only}

pub only_same : (x : List ℕ) (a e : ℕ) → Only x x a e
only_same x a e = record { long = refl; front = refl; back = refl }

pub only_set : (x : List ℕ) (i v a e : ℕ) → a ≤ i → i < e → Only x (set x i v) a e
only_set x i v a e h k = record { long = length-set x i v; front = take-set-le a x i v h; back = drop-set-lt e x i v k }

-- a larger region
pub only_wider : {x y : List ℕ} {a e : ℕ} (b f : ℕ) → Only x y a e → b ≤ a → e ≤ f → Only x y b f
only_wider {x} {y} {a} {e} b f w h k =
    let m : e + (f - e) ≡ f = omega arith in
    record {
      long = w.long;
      front = sym (take-take b a y h) ∙ ap (take b) w.front ∙ take-take b a x h;
      back = rw (← m, ← drop-drop (f - e) e y, ← drop-drop (f - e) e x, w.back);
    }

-- one change after another
pub only_then : {x y z : List ℕ} {a e : ℕ} → Only x y a e → Only y z a e → Only x z a e
only_then v w = record { long = w.long ∙ v.long; front = w.front ∙ v.front; back = w.back ∙ v.back }

-- a part by what stands before its end
part_front : (x : List ℕ) (b f : ℕ) → b ≤ f → drop b (take f x) ≡ part x b f
part_front x zero f h = let e : f - 0 ≡ f = omega arith in rw e
part_front x (suc b) zero h = absurd (omega arith)
part_front [] (suc b) (suc f) h = sym (take-nil (suc f - suc b))
part_front (c ∷ x) (suc b) (suc f) h = let e : suc f - suc b ≡ f - b = omega arith in rw e (part_front x b f (omega arith))

-- what stands before the region
pub only_at : {x y : List ℕ} {a e : ℕ} → Only x y a e → (i : ℕ) → i < a → get_or y i 0 ≡ get_or x i 0
only_at {x} {y} {a} w i h = sym (get_or-take a y i 0 h) ∙ ap (λ (l : List ℕ). get_or l i 0) w.front ∙ get_or-take a x i 0 h

-- what stands after it
pub only_past : {x y : List ℕ} {a e : ℕ} → Only x y a e → (i : ℕ) → e ≤ i → get_or y i 0 ≡ get_or x i 0
only_past {x} {y} {a} {e} w i h =
    let m : e + (i - e) ≡ i = omega arith in
    rw (← m, ← get_or-drop e y (i - e) 0, ← get_or-drop e x (i - e) 0, w.back)

-- a part before it, a part after it
pub only_part_before : {x y : List ℕ} {a e : ℕ} → Only x y a e → (b f : ℕ) → b ≤ f → f ≤ a → part y b f ≡ part x b f
only_part_before {x} {y} {a} w b f h k =
    rw (← part_front y b f h, ← part_front x b f h, (only_wider f _ w k (le_refl _)).front)

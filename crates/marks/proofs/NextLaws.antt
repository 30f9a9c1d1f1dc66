-- Laws of `next`: in the middle of a mark, and how deep a mark goes.
use Prim.Native.Nat.{ℕ, zero, suc, ◌+◌, ◌-◌, ◌≤◌}
use mathlib.Core.Bool.{Bool, true, false}
use mathlib.Core.Path.{◌≡◌, refl, ap}
use mathlib.Core.List.{List}
use native.Mathlib.Nat.{le_refl}
use native.Mathlib.Omega.{arith}
use Rattle.rules.specs.declared.Class.{Class}
use Rattle.rules.specs.declared.Mode.{Mode}
use Rattle.rules.specs.declared.Mark.{Mark}
use Rattle.rules.specs.Basics.{choose}
use Rattle.rules.specs.Scan.{long, next, next_of, mark_at, in_code, in_quoted, in_interp, in_inner, in_block, in_prefab}
use Rattle.basics.specs.Depth.{depth_of}

next_of_more : (n : ℕ) (k : Class) (m : Mode) (s : List ℕ) → (n ≡ 0 → ⊥) → long (n - 1) k m ≡ next_of n k m s
next_of_more zero k m s h = absurd (h refl)
next_of_more (suc n) k m s h = let e : suc n - 1 ≡ n = omega arith in ap (λ (x : ℕ). long x k m) e

-- in the middle of a mark
pub next_more : (t : Mark) (s : List ℕ) → (t.more ≡ 0 → ⊥) → long (t.more - 1) t.class t.mode ≡ next t s
next_more t s h = next_of_more t.more t.class t.mode s h

-- a mark opens at most one brace or comment more than are open before it
record Shallow (d : ℕ) (t : Mark) : Type 0 where
  below : depth_of t.mode ≤ d + 1

leaf : {d : ℕ} {t : Mark} → depth_of t.mode ≤ d + 1 → Shallow d t
leaf h = record { below = h }

fork : {d : ℕ} (b : Bool) (x y : Mark) → Shallow d x → Shallow d y → Shallow d (choose b x y)
unfolding choose
fork true x y p q = p
fork false x y p q = q

none≤ : (d : ℕ) → 0 ≤ d + 1
none≤ d = omega arith

one≤ : (d : ℕ) → 1 ≤ d + 1
one≤ d = omega arith

same≤ : (d : ℕ) → d ≤ d + 1
same≤ d = omega arith

fewer≤ : (d : ℕ) → d - 1 ≤ d + 1
fewer≤ d = omega arith

ruleset depths = (fork, leaf, none≤, one≤, same≤, fewer≤, le_refl)

shallow : (m : Mode) (s : List ℕ) → Shallow (depth_of m) (mark_at m s)
unfolding in_code in_quoted in_interp in_inner in_block in_prefab
shallow Mode.Code s = search depths depth 10
shallow (Mode.Quoted q) s = search depths depth 10
shallow (Mode.Interp q d) s = search depths depth 10
shallow (Mode.Inner q d k) s = search depths depth 10
shallow Mode.Line s = search depths depth 10
shallow (Mode.Block d) s = search depths depth 10
shallow Mode.Prefab s = search depths depth 10

next_of_shallow : (n : ℕ) (k : Class) (m : Mode) (s : List ℕ) → Shallow (depth_of m) (next_of n k m s)
next_of_shallow zero k m s = shallow m s
next_of_shallow (suc n) k m s = leaf (omega arith)

pub next_shallow : (t : Mark) (s : List ℕ) → depth_of (next t s).mode ≤ depth_of t.mode + 1
next_shallow t s = (next_of_shallow t.more t.class t.mode s).below

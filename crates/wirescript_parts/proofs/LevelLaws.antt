-- The loop that counts the levels of a stack, from the oldest entry on.
use Prim.Native.Nat.{ℕ, ◌+◌, ◌*◌, ◌%◌, ◌≤◌, ◌<◌, zero-le}
use mathlib.Core.List.{List}
use mathlib.Core.Path.{◌≡◌, refl}
use native.Mathlib.Numerals.{add-one}
use native.Mathlib.Omega.{arith}
use borrow.Author.Tests.{ne_eqb}
use lib.ListN.{get_or}
use Rattle.rules.specs.Basics.{choose}
use Rattle.rules.specs.Brackets.{levels}
use Rattle.brackets.specs.Stack.{entry_size, adds_of, entry_at, stacked}

levels_next : (buf : List ℕ) (base i : ℕ) → levels (stacked buf base (i + 1)) ≡ choose (adds_of (get_or buf (base + entry_size * i) 0)) 1 0 + levels (stacked buf base i)
unfolding stacked levels entry_at
levels_next buf base i = rw (add-one i)

-- of the first i entries n added a level
pub record Counting (buf : List ℕ) (base depth n i : ℕ) : Type 0 where
  pub within : i ≤ depth
  pub is : n ≡ levels (stacked buf base i)
  pub most : n ≤ i

pub counting_start : (buf : List ℕ) (base depth : ℕ) → Counting buf base depth 0 0
unfolding stacked levels
counting_start buf base depth = record { within = zero-le; is = refl; most = zero-le }

module _ (buf : List ℕ) (base depth n i : ℕ) (w : Counting buf base depth n i) where
  pub counting_flat : i < depth → get_or buf (base + entry_size * i) 0 % 2 ≡ 0 → Counting buf base depth n (i + 1)
  unfolding choose
  counting_flat h e = record { within = omega arith; is = omega (arith, w.is, rw e at (levels_next buf base i)); most = omega (arith, w.most) }

  pub counting_level : i < depth → (get_or buf (base + entry_size * i) 0 % 2 ≡ 0 → ⊥) → Counting buf base depth (n + 1) (i + 1)
  unfolding choose
  counting_level h e =
      record { within = omega arith; is = omega (arith, w.is, rw (ne_eqb (get_or buf (base + entry_size * i) 0 % 2) 0 e) at (levels_next buf base i)); most = omega (arith, w.most) }

  pub counting_end : depth ≤ i → n ≡ levels (stacked buf base depth)
  counting_end h = let e : i ≡ depth = omega (arith, w.within) in rw e at w.is

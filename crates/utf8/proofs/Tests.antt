-- Tests, and the cases that they make. `search tests` answers a `return` where the specification picks by the same
-- tests as the code: it rewrites each test by the fact that the branches on the way give, found by itself in the record
-- of what is known there. A test that a call makes, as `is_tail(b)`, is handed over as an equation: `search (tests, sym
-- c.before.is-tail.ensures ∙ c.if4.taken)`.
use Prim.Native.Nat.{ℕ, ◌<◌, ◌≤◌}
use mathlib.Core.Bool.{Bool, true, false, cond, ◌&&◌, ◌||◌}
use mathlib.Core.Logic.{◌⊎◌, inl, inr}
use mathlib.Core.Path.{◌≡◌, refl, sym, subst}
use borrow.Author.Rules.{rules}
use borrow.Author.Tests.{lt-ltb, le-ltb, le-leb, lt-leb, eq-eqb, ne_eqb, ltb-true, ltb-false, leb-true}
use lib.Dec.{T, leb, ltb}
use Rattle.utf8.specs.Unicode.{within}

pub ruleset tests = (rules, lt-ltb, le-ltb, le-leb, lt-leb, eq-eqb, ne_eqb)

pub cond_elim : {A : Type 0} (P : A → Type 0) (t : Bool) (x y : A) → (t ≡ true → P x) → (t ≡ false → P y) → P (cond t x y)
cond_elim P true x y f g = f refl
cond_elim P false x y f g = g refl

pub by_test : {A : Type 0} (t : Bool) → (t ≡ true → A) → (t ≡ false → A) → A
by_test true f g = f refl
by_test false f g = g refl

pub split : (a b : ℕ) → (a < b) ⊎ (b ≤ a)
split a b = by_test (ltb a b) (λ e. inl (ltb-true a b e)) (λ e. inr (ltb-false a b e))

pub T_of : (t : Bool) → t ≡ true → T t
T_of t e = subst T (sym e) tt

pub of_T : (t : Bool) → T t → t ≡ true
of_T true h = refl
of_T false h = absurd h

pub and_left : (a b : Bool) → a && b ≡ true → a ≡ true
and_left true b e = refl
and_left false b e = e

pub and_right : (a b : Bool) → a && b ≡ true → b ≡ true
and_right true b e = e
and_right false b e = absurd (subst T (sym e) tt)

pub neither_left : (a b : Bool) → (a || b) ≡ false → a ≡ false
neither_left true b e = e
neither_left false b e = refl

pub neither_right : (a b : Bool) → (a || b) ≡ false → b ≡ false
neither_right true b e = absurd (subst T e tt)
neither_right false b e = e

pub in_range_law : (lo hi b : ℕ) → within lo hi b ≡ true → (lo ≤ b) × (b ≤ hi)
in_range_law lo hi b e = (leb-true lo b (and_left (leb lo b) (leb b hi) e), leb-true b hi (and_right (leb lo b) (leb b hi) e))

pub range : (lo hi b : ℕ) → lo ≤ b → b ≤ hi → within lo hi b ≡ true
range lo hi b p q = simp (le-leb lo b p, le-leb b hi q)

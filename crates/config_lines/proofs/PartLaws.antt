-- The first `=`, and a trimmed part.
use Rattle.std.specs.Prelude.{Option}
use Rattle.std.specs.Option.{MatchOption}
use Rattle.std.specs.List.{position, position_or_len}
use Prim.Native.Nat.{ℕ, suc, ◌+◌, ◌-◌, ◌≤◌}
use mathlib.Core.Bool.{true, false}
use mathlib.Core.List.{List, [], ◌∷◌}
use mathlib.Core.Logic.{◌⊎◌, inl, inr}
use mathlib.Core.Path.{◌≡◌, refl, ap, ◌∙◌}
use native.Mathlib.Numerals.{add-one}
use native.Mathlib.Omega.{arith}
use borrow.Author.Tests.{lt-ltb, le-ltb}
use lib.ListN.{length, take, drop}
use Rattle.utf8.specs.Unicode.{WellFormed, trim, trim_end}
use Rattle.utf8.specs.Places.{TrimmedStart, TrimmedEnd}
use Rattle.utf8.proofs.Tests.{by_test}
use Rattle.buffer.proofs.RegionLaws.{part_from}
use Rattle.rules.specs.Basics.{choose, is}
use Rattle.config_rules.specs.Lines.{has_eq, key, setting}
use Rattle.config_lines.specs.Words.{EqAt, Trimmed}

-- ---- the first `=`

eq_here : (c : ℕ) (s : List ℕ) → is "=" c ≡ true → EqAt (c ∷ s) 0
unfolding has_eq key setting choose
eq_here c s t = record { fits = omega arith; has = rw t; key = rw t; setting = rw t }

eq_later : (c : ℕ) (s : List ℕ) (n : ℕ) → is "=" c ≡ false → EqAt s n → EqAt (c ∷ s) (suc n)
unfolding has_eq key setting choose
eq_later c s n t f =
    let q : drop (suc n + 1) (c ∷ s) ≡ drop (n + 1) s = rw (add-one (suc n), add-one n) in
    record { fits = omega (arith, f.fits); has = rw t f.has; key = rw t (ap (λ (l : List ℕ). c ∷ l) f.key); setting = rw (t, q) f.setting }

none_here : (c : ℕ) (s : List ℕ) → is "=" c ≡ false → has_eq (c ∷ s) ≡ has_eq s
unfolding has_eq
none_here c s t = rw t

none_at_all : has_eq [] ≡ false
unfolding has_eq
none_at_all = refl

abbrev first : List ℕ → ℕ
first s = position_or_len (is "=") s

first_eq : (s : List ℕ) → ((has_eq s ≡ false) × (length s ≤ first s)) ⊎ EqAt s (first s)
first_eq [] = inl (none_at_all, omega arith)
first_eq (c ∷ s) = by_test (is "=" c) (λ t. inr (rw t (eq_here c s t))) (λ t. later t (first_eq s))
  where
    one_more : is "=" c ≡ false → first (c ∷ s) ≡ suc (first s)
    one_more t = rw t (omega arith)

    later : is "=" c ≡ false → ((has_eq s ≡ false) × (length s ≤ first s)) ⊎ EqAt s (first s) → ((has_eq (c ∷ s) ≡ false) × (length (c ∷ s) ≤ first (c ∷ s))) ⊎ EqAt (c ∷ s) (first (c ∷ s))
    later t (inl f) = inl (none_here c s t ∙ f.0, omega (arith, f.1, one_more t))
    later t (inr f) = inr (rw (one_more t) (eq_later c s (first s) t f))

pub eq_is : (s : List ℕ) (r : Option ℕ) → r ≡ position (is "=") s → MatchOption r (has_eq s ≡ false) (EqAt s)
eq_is s r e = go (first_eq s)
  where
    go : ((has_eq s ≡ false) × (length s ≤ first s)) ⊎ EqAt s (first s) → MatchOption r (has_eq s ≡ false) (EqAt s)
    go (inl f) = rw (e, le-ltb (first s) (length s) f.1) f.0
    go (inr f) = rw (e, lt-ltb (first s) (length s) f.fits) f

pub end_well : (s : List ℕ) (a : ℕ) → TrimmedStart s a → WellFormed (take (length s - a) (drop a s))
end_well s a b = rw (part_from s a) b.well

pub trimmed_is : (s : List ℕ) (a n : ℕ) → TrimmedStart s a → TrimmedEnd (take (length s - a) (drop a s)) n → Trimmed s (take (a + n - a) (drop a s))
unfolding trim
trimmed_is s a n b e =
    let q : TrimmedEnd (drop a s) n = rw (part_from s a) at e in
    let z : a + n - a ≡ n = omega arith in
    record { well = rw z q.well; is = rw z (q.text ∙ ap trim_end b.text) }

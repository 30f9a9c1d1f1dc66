-- Sets: the loop over what stands between the brackets.
use Prim.Native.Nat.{ℕ, ◌+◌, ◌-◌, ◌≤◌, ◌<◌}
use mathlib.Core.Bool.{Bool, true, false, not, ◌&&◌, ◌||◌}
use mathlib.Core.List.{List, [], ◌∷◌}
use mathlib.Core.Path.{◌≡◌, refl, sym, ◌∙◌}
use native.Mathlib.Numerals.{add-one}
use native.Mathlib.Omega.{arith}
use borrow.Author.Tests.{ne_eqb}
use lib.ListN.{length, take, drop, get_or, drop_of_length-le}
use lib.Seq.{drop-cons, take_all}
use Rattle.rules.specs.Basics.{choose, is, first_is}
use Rattle.rules.proofs.Choose.{choose_case, choose_true, choose_false}
use Rattle.config_rules.specs.declared.Named.{Named}
use Rattle.config_rules.specs.Sets.{fresh, escapes, named_after, names_at, names, in_set}
use Rattle.glob_pass.specs.Kinds.{up_to, last_names, Naming}

esc_after : (n : Named) (d : ℕ) → (named_after n d).esc ≡ (not n.esc && is "\\" d)
unfolding named_after escapes
esc_after n d =
    let E : Bool = not n.esc && is "\\" d in
    choose_case (λ (r : Named). r.esc ≡ E) (λ e. sym e)
    (λ e. choose_case (λ (r : Named). r.esc ≡ E) (λ f. sym e) (λ f. choose_case (λ (r : Named). r.esc ≡ E) (λ g. sym e) (λ g. sym e)))

pub naming_start : (chars : List ℕ) (c : ℕ) → Naming chars c 0 fresh
naming_start chars c = record { bound = omega arith; same = refl }

module _ (chars : List ℕ) (c i : ℕ) (n : Named) (w : Naming chars c i n) where
  up_at : i < length chars
      → up_to n.esc (drop i chars) ≡ choose (not n.esc && is "]" (get_or chars i 0)) [] (get_or chars i 0 ∷ up_to (not n.esc && is "\\" (get_or chars i 0)) (drop (i + 1) chars))
  unfolding up_to
  up_at h = rw (add-one, drop-cons chars i 0)

  pub naming_end : (r : Bool) → length chars ≤ i → r ≡ last_names n c → r ≡ names fresh (up_to false chars) c
  unfolding up_to names last_names
  naming_end r h f = f ∙ sym (w.same ∙ rw (drop_of_length-le chars {i = i}))

  pub naming_close : (r t : Bool) → i < length chars → r ≡ (not n.esc && is "]" (get_or chars i 0)) → r ≡ true
      → t ≡ last_names n c → t ≡ names fresh (up_to false chars) c
  unfolding names last_names
  naming_close r t h e q f = f ∙ sym (w.same ∙ rw (up_at h, choose_true _ [] (get_or chars i 0 ∷ up_to (not n.esc && is "\\" (get_or chars i 0)) (drop (i + 1) chars)) (sym e ∙ q)))

  goes_on_law : (r : Bool) → i < length chars → r ≡ (not n.esc && is "]" (get_or chars i 0)) → r ≡ false
      → names fresh (up_to false chars) c
      ≡ (names_at n (get_or chars i 0) c || names (named_after n (get_or chars i 0)) (up_to (named_after n (get_or chars i 0)).esc (drop (i + 1) chars)) c)
  unfolding names
  goes_on_law r h e q =
      w.same
      ∙ rw (up_at h, choose_false _ [] (get_or chars i 0 ∷ up_to (not n.esc && is "\\" (get_or chars i 0)) (drop (i + 1) chars)) (sym e ∙ q), esc_after n (get_or chars i 0))

  pub naming_hit : (r t : Bool) → i < length chars → r ≡ (not n.esc && is "]" (get_or chars i 0)) → r ≡ false → t ≡ names_at n (get_or chars i 0) c → t ≡ true
      → true ≡ names fresh (up_to false chars) c
  naming_hit r t h e q f g = sym (goes_on_law r h e q ∙ rw (sym f ∙ g))

  pub naming_more : (r t : Bool) (m : Named) → i < length chars → r ≡ (not n.esc && is "]" (get_or chars i 0)) → r ≡ false → t ≡ names_at n (get_or chars i 0) c → t ≡ false
      → m ≡ named_after n (get_or chars i 0) → Naming chars c (i + 1) m
  naming_more r t m h e q f g k = record { bound = omega arith; same = goes_on_law r h e q ∙ rw (sym f ∙ g, k) }

-- ---- negated or not

pub set_not : (set : List ℕ) (c : ℕ) (r : Bool) → 1 ≤ length set → get_or set 0 0 ≡ 33
    → r ≡ names fresh (up_to false (take (length set - 1) (drop 1 set))) c → not r ≡ in_set (up_to false set) c
unfolding in_set up_to choose first_is
set_not [] c r h e f = absurd (omega arith)
set_not (d ∷ set) c r h e f =
    let g : r ≡ names fresh (up_to false set) c = rw (take_all (length (d ∷ set) - 1) set (omega arith)) at f in rw (e, ← g)

not_first : (d : ℕ) (s : List ℕ) → (d ≡ 33 → ⊥) → first_is (is "!") (up_to false (d ∷ s)) ≡ false
unfolding up_to first_is
not_first d s h = choose_case (λ (l : List ℕ). first_is (is "!") l ≡ false) (λ e. refl) (λ e. ne_eqb d 33 h)

pub set_plain : (set : List ℕ) (c : ℕ) (r : Bool) → 1 ≤ length set → (get_or set 0 0 ≡ 33 → ⊥) → r ≡ names fresh (up_to false set) c
    → r ≡ in_set (up_to false set) c
unfolding in_set
set_plain [] c r h e f = absurd (omega arith)
set_plain (d ∷ set) c r h e f = f ∙ sym (choose_false _ _ _ (not_first d set e))

pub set_none : (set : List ℕ) (c : ℕ) (r : Bool) → length set < 1 → r ≡ names fresh (up_to false set) c → r ≡ in_set (up_to false set) c
unfolding in_set up_to choose first_is
set_none [] c r h f = f
set_none (d ∷ set) c r h f = absurd (omega arith)

-- A line without a byte that starts an operator has none: no byte of it has a strength.
use Prim.Native.Nat.{ℕ, zero, suc}
use mathlib.Core.Bool.{false, not, true≢false}
use mathlib.Core.List.{List, [], ◌∷◌}
use mathlib.Core.Path.{◌≡◌, refl, sym, ap, ◌∙◌}
use lib.Dec.{eqb}
use lib.ListN.{length, take}
use borrow.Author.Tests.{eq-eqb, eqb-true}
use Rattle.utf8.proofs.Tests.{by_test, and_right, neither_left, neither_right}
use Rattle.rules.specs.Basics.{same, one_of, first_is}
use Rattle.rules.specs.Scan.{Cell, chars_of}
use Rattle.rules.specs.Operators.{operators, starts_one, starts_operator}
use Rattle.rules.specs.SplitOperation.{Ops, OpStep, token, escape, bracket, one_char_step, code_step, fresh_step, op_step_at, looser, loosest}
use Rattle.rules.specs.OperatorBytes.{byte_step, byte_marks}
use Rattle.rules.proofs.Choose.{choose_true, choose_case}
use Rattle.operators.specs.First.{any_starts}

not_same : (w : List ℕ) (c : ℕ) (cs : List ℕ) → first_is (eqb c) w ≡ false → same w (c ∷ cs) ≡ false
unfolding same first_is
not_same [] c cs e = refl
not_same (d ∷ w) c cs e =
    by_test (eqb d c) (λ h. absurd (true≢false (sym (eq-eqb c d (sym (eqb-true d c h))) ∙ e))) (λ h. rw h)

none_of : (ws : List (List ℕ)) (c : ℕ) (cs : List ℕ) → starts_one ws c ≡ false → one_of ws (c ∷ cs) ≡ false
unfolding starts_one one_of
none_of [] c cs e = refl
none_of (w ∷ ws) c cs e =
    rw (not_same w c cs (neither_left (first_is (eqb c) w) (starts_one ws c) e)) (none_of ws c cs (neither_right (first_is (eqb c) w) (starts_one ws c) e))

no_operator : (c : ℕ) (cs : List ℕ) → starts_operator c ≡ false → one_of operators (c ∷ cs) ≡ false
unfolding starts_operator
no_operator c cs e = none_of operators c cs e

abbrev Weak : OpStep → Type 0
Weak r = r.strength ≡ 0

module _ (table : List ℕ) where
  one_none : (s : Ops) (c : ℕ) (cs : List ℕ) → starts_operator c ≡ false → Weak (one_char_step table s c cs)
  unfolding one_char_step token
  one_none s c cs e = ap (λ (r : OpStep). r.strength) (choose_true _ _ _ (ap not (no_operator c [] e)))

  code_none : (s : Ops) (c : ℕ) (cs : List ℕ) → starts_operator c ≡ false → Weak (code_step table s c cs)
  unfolding code_step token bracket
  code_none s c cs e =
      choose_case Weak (λ _. refl) (λ _. choose_case Weak (λ _. refl) (λ _. choose_case Weak (λ _. refl) (λ _. choose_case Weak (λ _. refl)
      (λ _. choose_case Weak (λ _. refl) (λ _. choose_case Weak (λ _. refl)
      (λ _. choose_case Weak (λ h. absurd (true≢false (sym (and_right (eqb (length (take 2 (c ∷ cs))) 2) (one_of operators (take 2 (c ∷ cs))) h) ∙ no_operator c (take 1 cs) e)))
      (λ _. one_none s c cs e)))))))

  fresh_none : (s : Ops) (x : Cell) (cs : List ℕ) → starts_operator x.ch ≡ false → Weak (fresh_step table s x cs)
  unfolding fresh_step escape
  fresh_none s x cs e = choose_case Weak (λ _. refl) (λ _. choose_case Weak (λ _. refl) (λ _. choose_case Weak (λ _. refl) (λ _. code_none s x.ch cs e)))

  step_none : (n : ℕ) (s : Ops) (x : Cell) (cs : List ℕ) → starts_operator x.ch ≡ false → Weak (op_step_at n table s x cs)
  unfolding op_step_at token
  step_none zero s x cs e = fresh_none s x cs e
  step_none (suc n) s x cs e = refl

  byte_none : (s : Ops) (x : Cell) (cs : List ℕ) → starts_operator x.ch ≡ false → Weak (byte_step table s x cs)
  byte_none s x cs e = choose_case Weak (λ _. refl) (λ _. step_none s.skip s x cs e)

  pub loosest_none : (cells : List Cell) (s : Ops) → any_starts (chars_of cells) ≡ false → loosest (byte_marks table s cells) ≡ 0
  unfolding byte_marks loosest looser chars_of any_starts
  loosest_none [] s e = refl
  loosest_none (x ∷ xs) s e =
      rw (byte_none s x (chars_of xs) (neither_left (starts_operator x.ch) (any_starts (chars_of xs)) e)) (loosest_none xs _ (neither_right (starts_operator x.ch) (any_starts (chars_of xs)) e))

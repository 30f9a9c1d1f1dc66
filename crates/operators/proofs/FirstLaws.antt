-- Whether an operator starts in a line, by the first place where one does.
use Prim.Native.Nat.{ℕ, zero, suc, ◌<◌, zero-le}
use native.Mathlib.Omega.{arith}
use mathlib.Core.Bool.{true, false, or-true}
use mathlib.Core.List.{List, [], ◌∷◌}
use mathlib.Core.Path.{◌≡◌, refl, sym, ◌∙◌}
use lib.Dec.{ltb}
use lib.ListN.{length}
use borrow.Author.Tests.{ltb-true, ltb-false}
use Rattle.utf8.proofs.Tests.{by_test}
use Rattle.blocks.specs.Blocks.{FirstFrom}
use Rattle.operators.specs.First.{operator_starts_at, any_starts}

none_starts : (s : List ℕ) → ((j : ℕ) → j < length s → operator_starts_at s j ≡ false) → any_starts s ≡ false
unfolding any_starts
none_starts [] n = refl
none_starts (c ∷ s) n = rw (n 0 (omega arith)) (none_starts s (λ j l. n (suc j) (omega arith)))

one_starts : (s : List ℕ) (i : ℕ) → i < length s → operator_starts_at s i ≡ true → any_starts s ≡ true
unfolding any_starts
one_starts [] i l e = absurd (omega arith)
one_starts (c ∷ s) zero l e = rw e
one_starts (c ∷ s) (suc i) l e = rw (one_starts s i (omega arith) e, or-true)

pub first_starts : (s : List ℕ) (r : ℕ) → FirstFrom (operator_starts_at s) 0 (length s) r → ltb r (length s) ≡ any_starts s
first_starts s r w =
    by_test (ltb r (length s)) (λ e. let l = ltb-true r (length s) e in e ∙ sym (one_starts s r l (w.passes l)))
    (λ e. let l = ltb-false r (length s) e in e ∙ sym (none_starts s (λ j k. w.none j zero-le (omega arith))))

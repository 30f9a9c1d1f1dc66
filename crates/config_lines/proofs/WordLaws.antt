-- A word compared without regard to case.
use Rattle.std.specs.Char.{to_ascii_lowercase}
use Rattle.std.specs.List.{list_all, zip}
use mathlib.Core.Logic.{⊎_elim}
use Rattle.utf8.proofs.Tests.{split}
use Prim.Native.Nat.{ℕ, suc, ◌+◌, ◌≤◌, ◌<◌}
use mathlib.Core.Bool.{Bool, false, and-false}
use mathlib.Core.List.{List, [], ◌∷◌}
use mathlib.Core.Path.{◌≡◌, refl, sym, ap, ◌∙◌}
use native.Mathlib.Omega.{arith}
use borrow.Author.Tests.{lt-leb, le-leb, lt-ltb, le-ltb}
use lib.Dec.{eqb, leb}
use lib.ListN.{length}
use Rattle.rules.specs.Basics.{choose, same}
use Rattle.config_rules.specs.Lines.{lower}
use Rattle.config_lines.specs.Words.{lowered}

pub low_below : (c : ℕ) → c < 65 → c ≡ lowered c
unfolding choose
low_below c h = rw (lt-leb 65 c h)

pub low_above : (c : ℕ) → 90 < c → c ≡ lowered c
unfolding choose
low_above c h = rw (lt-leb c 90 h, and-false (leb 65 c))

pub low_letter : (c : ℕ) → 65 ≤ c → c ≤ 90 → c + 32 ≡ lowered c
unfolding choose
low_letter c h k = rw (le-leb 65 c h, le-leb c 90 k)

length_differs : (l w : List ℕ) → (length l ≡ length w → ⊥) → false ≡ same l w
unfolding same
length_differs [] [] n = absurd (n refl)
length_differs [] (y ∷ w) n = refl
length_differs (x ∷ l) [] n = refl
length_differs (x ∷ l) (y ∷ w) n = sym (rw (sym (length_differs l w (λ e. n (ap suc e)))) (and-false (eqb x y)))

pub length_lower : (s : List ℕ) → length (lower s) ≡ length s
unfolding lower
length_lower [] = refl
length_lower (c ∷ s) = ap suc (length_lower s)

pub word_longer : (s w : List ℕ) → (length s ≡ length w → ⊥) → false ≡ same (lower s) w
word_longer s w n = length_differs (lower s) w (λ e. n (sym (length_lower s) ∙ e))

-- std's word for the same
std_lowered : (c : ℕ) → to_ascii_lowercase c ≡ lowered c
std_lowered c =
    ⊎_elim (λ h. rw (lt-ltb c 65 h) (low_below c h))
    (λ h. rw (le-ltb c 65 h) (⊎_elim (λ k. rw (lt-ltb c 91 k) (low_letter c h (omega arith))) (λ k. rw (le-ltb c 91 k) (low_above c (omega arith))) (split c 91)))
    (split c 65)

abbrev pub same_at : ℕ × ℕ → Bool
same_at p = eqb (to_ascii_lowercase p.0) p.1

all_same : (s w : List ℕ) → length s ≡ length w → list_all same_at (zip s w) ≡ same (lower s) w
unfolding same lower
all_same [] [] e = refl
all_same [] (y ∷ w) e = absurd (omega arith)
all_same (x ∷ s) [] e = absurd (omega arith)
all_same (x ∷ s) (y ∷ w) e = rw (std_lowered x, all_same s w (omega arith))

pub word_is : (s w : List ℕ) (b : Bool) → b ≡ list_all same_at (zip s w) → length s ≡ length w → b ≡ same (lower s) w
word_is s w b p e = p ∙ all_same s w e

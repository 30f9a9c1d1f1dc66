-- Whole numbers have no letters: lower case makes no difference to them.
use Rattle.std.specs.Prelude.{Option, Some, None, option_map}
use Prim.Native.Nat.{ℕ, suc, ◌+◌, ◌≤◌}
use mathlib.Core.Bool.{Bool, true, false, and-false}
use mathlib.Core.List.{List, [], ◌∷◌}
use mathlib.Core.Path.{◌≡◌, refl, sym, ap, ◌∙◌}
use native.Mathlib.Omega.{arith}
use borrow.Author.Tests.{lt-leb, eqb-true}
use lib.Dec.{eqb, leb, ltb}
use lib.ListN.{length}
use Rattle.utf8.specs.Unicode.{within}
use Rattle.utf8.proofs.Tests.{by_test, in_range_law}
use Rattle.rules.specs.Basics.{choose, codes, same}
use Rattle.rules.proofs.Choose.{choose_true, choose_false}
use Rattle.config_rules.specs.Numbers.{is_digit, digit_count, value}
use Rattle.config_rules.specs.Lines.{lower}
use Rattle.rules.specs.declared.IndentSize.{IndentSize}
use Rattle.rules.specs.declared.MaxLineLen.{MaxLineLen}
use Rattle.config_rules.specs.Values.{is_whole, size_of, tab_of, max_of}
use Rattle.config_lines.specs.Whole.{WholeOf}
use Rattle.config_lines.specs.Words.{lowered}
use Rattle.config_lines.proofs.WordLaws.{low_below, length_lower}

digit_lower : (c : ℕ) → is_digit (lowered c) ≡ is_digit c
digit_lower c =
    by_test (within 65 90 c)
    (λ t.
    let r : (65 ≤ c) × (c ≤ 90) = in_range_law 65 90 c t in
    rw (choose_true (within 65 90 c) (c + 32) c t, lt-leb (c + 32) 57 (omega arith), lt-leb c 57 (omega arith), and-false (leb 48 (c + 32)), and-false (leb 48 c)))
    (λ t. rw (choose_false (within 65 90 c) (c + 32) c t))

same_digit : (c : ℕ) → is_digit c ≡ true → lowered c ≡ c
same_digit c t = let r : (48 ≤ c) × (c ≤ 57) = in_range_law 48 57 c t in sym (low_below c (omega arith))

count_lower : (s : List ℕ) → digit_count (lower s) ≡ digit_count s
unfolding lower digit_count
count_lower [] = refl
count_lower (c ∷ s) = rw (digit_lower c, count_lower s)

lower_digits : (s : List ℕ) → digit_count s ≡ length s → lower s ≡ s
unfolding lower digit_count
lower_digits [] e = refl
lower_digits (c ∷ s) e =
    by_test (is_digit c)
    (λ t.
    let k : choose (is_digit c) (suc (digit_count s)) 0 ≡ suc (digit_count s) = choose_true (is_digit c) (suc (digit_count s)) 0 t in
    rw (same_digit c t, lower_digits s (omega (arith, k))))
    (λ t. let k : choose (is_digit c) (suc (digit_count s)) 0 ≡ 0 = choose_false (is_digit c) (suc (digit_count s)) 0 t in absurd (omega (arith, k)))

pub not_whole : (v : List ℕ) → eqb (digit_count v) (length v) ≡ false → is_whole v ≡ false
unfolding is_whole
not_whole v d = rw (d, and-false (ltb 0 (length v)))

pub whole_lower : {A : Type 0} (f : ℕ → A) (z : A) (v : List ℕ) → choose (is_whole v) (f (value v)) z ≡ choose (is_whole (lower v)) (f (value (lower v))) z
whole_lower f z v =
    by_test (eqb (digit_count v) (length v))
    (λ t. rw (lower_digits v (eqb-true (digit_count v) (length v) t)))
    (λ t.
    choose_false (is_whole v) (f (value v)) z (not_whole v t)
    ∙ sym (choose_false (is_whole (lower v)) (f (value (lower v))) z (not_whole (lower v) (rw (count_lower v, length_lower v) t))))

-- ---- what a whole number makes of a value

module _ (v : List ℕ) (r : Option ℕ) (w : WholeOf v r) where
  mapped : {A : Type 0} (f : ℕ → A) → option_map f r ≡ choose (is_whole (lower v)) (Some (f (value (lower v)))) None
  unfolding choose
  mapped f = ap (option_map f) w.is ∙ by_test (is_whole v) (λ t. rw t) (λ t. rw t) ∙ whole_lower (λ (n : ℕ). Some (f n)) None v

  pub tab_is : r ≡ tab_of (lower v)
  unfolding tab_of
  tab_is = w.is ∙ whole_lower Some None v

  module _ (b : Bool) where
    pub size_is : b ≡ same (lower v) (codes "tab") → b ≡ false → option_map IndentSize.Value r ≡ size_of (lower v)
    unfolding size_of
    size_is p q = mapped IndentSize.Value ∙ sym (choose_false _ _ _ (sym p ∙ q))

    pub max_is : b ≡ same (lower v) (codes "off") → b ≡ false → option_map MaxLineLen.Value r ≡ max_of (lower v)
    unfolding max_of
    max_is p q = mapped MaxLineLen.Value ∙ sym (choose_false _ _ _ (sym p ∙ q))

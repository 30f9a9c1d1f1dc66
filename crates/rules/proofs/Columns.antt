-- Laws of the measure.
--     measure_append    a joined text: the second part is measured from where the first ends
--     measure_zero      at ruler 0 the UTF-16 width is added
--     measure_bytes     at most a column for each byte and the ruler for each tab
--     measure_short     the same where the tabs aren't counted
--     measure_grows     no part goes back
--     measure_shift     from some whole steps of the ruler further on, as many further on
--     indent_levels     an indent several times over: each level after the first adds what the second adds
use Prim.Native.Nat.{ℕ, zero, suc, ◌+◌, ◌-◌, ◌*◌, ◌/◌, ◌%◌, ◌≤◌, ◌<◌}
use mathlib.Core.Bool.{Bool, true, false, ◌&&◌, ◌||◌}
use mathlib.Core.List.{List, [], ◌∷◌, ◌++◌}
use mathlib.Core.Logic.{◌⊎◌, inl, inr}
use mathlib.Core.Path.{◌≡◌, refl, sym, ap, ◌∙◌}
use native.Mathlib.Omega.{arith}
use native.Mathlib.Nat.{zero-add, add-mul, mul-add, one-mul, mul-le-mul_left, mul_comm, mul_assoc, mod-lt, div-add-mod', add-mul-div_right, mul-sub}
use lib.Dec.{eqb, ltb}
use lib.ListN.{length, length-append}
use borrow.Author.Tests.{eqb-true, lt-ltb, le-ltb, ltb-true}
use Rattle.buffer.specs.Repeat.{times}
use Rattle.utf8.specs.Unicode.{encode_char, encode, size, units, width}
use Rattle.utf8.proofs.Tests.{by_test, and_left, and_right}
use Rattle.utf8.proofs.Table.{Shape, one, two, three, four, shape}
use Rattle.utf8.proofs.Bytewise.{width_nil, width_cons}
use Rattle.utf8.proofs.Decode.{encode_cons}
use Rattle.rules.specs.Basics.{choose, is, is_blank, count}
use Rattle.rules.specs.Options.{all_blank, next_stop, column_after, measure}
use Rattle.rules.proofs.Choose.{choose_case, choose_true, choose_false}

-- ---- the next multiple

stop_is : (r from : ℕ) → next_stop r from ≡ from / r * r + r
stop_is r from = add-mul (from / r) 1 r ∙ ap (λ (k : ℕ). from / r * r + k) (one-mul r)

pub stop_low : (r from : ℕ) → 0 < r → from < next_stop r from
stop_low r from h = omega (arith, stop_is r from, div-add-mod' from r, mod-lt from h)

pub stop_high : (r from : ℕ) → next_stop r from ≤ from + r
stop_high r from = omega (arith, stop_is r from, div-add-mod' from r)

pub stop_left_over : (r from : ℕ) → 0 < r → next_stop r from ≡ from + (r - from % r)
stop_left_over r from h = omega (arith, stop_is r from, div-add-mod' from r, mod-lt from h)

stop_shift : (r from k : ℕ) → 0 < r → next_stop r (from + k * r) ≡ next_stop r from + k * r
stop_shift r from k h =
    omega (arith, stop_is r from, stop_is r (from + k * r), ap (λ (n : ℕ). n * r) (add-mul-div_right from k h), add-mul (from / r) k r)

sub_mul : (a b r : ℕ) → (a - b) * r ≡ a * r - b * r
sub_mul a b r = omega (arith, mul_comm (a - b) r, mul-sub r a b, mul_comm r a, mul_comm r b)

-- ---- one character

module _ (r from c : ℕ) where
  -- at ruler 0
  pub after_zero : r ≡ 0 → column_after r from c ≡ from + units c
  unfolding column_after
  after_zero e = choose_false _ _ _ (rw e refl)

  pub after_tab : 0 < r → c ≡ 9 → column_after r from c ≡ next_stop r from
  unfolding column_after
  after_tab h e = choose_true _ _ _ (rw (lt-ltb 0 r h, e) refl)

  pub after_other : eqb c 9 ≡ false → column_after r from c ≡ from + units c
  unfolding column_after
  after_other e = choose_false _ _ _ (rw e (go (ltb 0 r)))
    where
      go : (b : Bool) → (b && false) ≡ false
      go true = refl
      go false = refl

-- ---- parts

pub measure_append : (r from : ℕ) (a b : List ℕ) → measure r from (a ++ b) ≡ measure r (measure r from a) b
unfolding measure
measure_append r from [] b = refl
measure_append r from (c ∷ a) b = measure_append r (column_after r from c) a b

pub measure_zero : (from : ℕ) (l : List ℕ) → measure 0 from l ≡ from + width l
unfolding measure
measure_zero from [] = omega (arith, width_nil)
measure_zero from (c ∷ l) = omega (arith, measure_zero (column_after 0 from c) l, after_zero 0 from c refl, width_cons c l)

units_low : (c : ℕ) → c < 0x10000 → units c ≡ 1
unfolding units
units_low c h = rw (lt-ltb c 0x10000 h)

units_high : (c : ℕ) → 0x10000 ≤ c → units c ≡ 2
unfolding units
units_high c h = rw (le-ltb c 0x10000 h)

-- ---- bounds

-- a character takes no more UTF-16 units than bytes
units_size : (c : ℕ) → units c ≤ length (encode_char c)
units_size c = go (shape c)
  where
    go : Shape c → units c ≤ length (encode_char c)
    go (one h e) = omega (arith, units_low c (omega arith), ap length e)
    go (two h k e) = omega (arith, units_low c (omega arith), ap length e)
    go (three h k e) = omega (arith, units_low c k, ap length e)
    go (four h e) = omega (arith, units_high c h, ap length e)

char_some : (c : ℕ) → 1 ≤ length (encode_char c)
char_some c = go (shape c)
  where
    go : Shape c → 1 ≤ length (encode_char c)
    go (one h e) = omega (arith, ap length e)
    go (two h k e) = omega (arith, ap length e)
    go (three h k e) = omega (arith, ap length e)
    go (four h e) = omega (arith, ap length e)

char_size : (c : ℕ) (cs : List ℕ) → size (c ∷ cs) ≡ length (encode_char c) + size cs
char_size c cs = ap length (encode_cons c cs) ∙ length-append (encode_char c) (encode cs)

-- how many tabs stand in a text
abbrev pub tabs : List ℕ → ℕ
tabs l = count (is "\t") l

after_bytes : (r from c : ℕ) → column_after r from c ≤ from + length (encode_char c) + r * choose (is "\t" c) 1 0
unfolding column_after
after_bytes r from c =
    choose_case (λ (n : ℕ). n ≤ from + length (encode_char c) + r * choose (is "\t" c) 1 0)
    (λ e. rw (choose_true {A = ℕ} (is "\t" c) 1 0 (and_right (ltb 0 r) (is "\t" c) e)) (omega (arith, stop_high r from)))
    (λ e. omega (arith, units_size c))

pub measure_bytes : (r from : ℕ) (l : List ℕ) → measure r from l ≤ from + size l + r * tabs l
unfolding measure count
measure_bytes r from [] = omega arith
measure_bytes r from (c ∷ l) =
    omega (arith, measure_bytes r (column_after r from c) l, after_bytes r from c, char_size c l, mul-add r (choose (is "\t" c) 1 0) (count (is "\t") l))

tabs_size : (l : List ℕ) → tabs l ≤ size l
unfolding count
tabs_size [] = omega arith
tabs_size (c ∷ l) = choose_case (λ (n : ℕ). n + count (is "\t") l ≤ size (c ∷ l)) (λ e. omega (arith, char_size c l, char_some c, tabs_size l)) (λ e. omega (arith, char_size c l, tabs_size l))

pub measure_short : (r from : ℕ) (l : List ℕ) → measure r from l ≤ from + size l * (r + 1)
measure_short r from l =
    omega (arith, measure_bytes r from l, mul-le-mul_left r (tabs_size l), mul-add (size l) r 1, mul_comm r (size l))

after_grows : (r from c : ℕ) → from ≤ column_after r from c
unfolding column_after
after_grows r from c =
    choose_case (λ (n : ℕ). from ≤ n) (λ e. omega (arith, stop_low r from (ltb-true 0 r (and_left (ltb 0 r) (is "\t" c) e)))) (λ e. omega arith)

pub measure_grows : (r from : ℕ) (l : List ℕ) → from ≤ measure r from l
unfolding measure
measure_grows r from [] = omega arith
measure_grows r from (c ∷ l) = omega (arith, measure_grows r (column_after r from c) l, after_grows r from c)

-- ---- whole steps of the ruler

module _ (r : ℕ) (h : 0 < r) where
  after_shift : (from k c : ℕ) → column_after r (from + k * r) c ≡ column_after r from c + k * r
  after_shift from k c =
      by_test (eqb c 9)
      (λ e. after_tab r (from + k * r) c h (eqb-true c 9 e) ∙ stop_shift r from k h ∙ sym (ap (λ (n : ℕ). n + k * r) (after_tab r from c h (eqb-true c 9 e))))
      (λ e. omega (arith, after_other r (from + k * r) c e, after_other r from c e))

  pub measure_shift : (from k : ℕ) (l : List ℕ) → measure r (from + k * r) l ≡ measure r from l + k * r
  unfolding measure
  measure_shift from k [] = refl
  measure_shift from k (c ∷ l) = ap (λ (n : ℕ). measure r n l) (after_shift from k c) ∙ measure_shift (column_after r from c) k l

  -- ---- an indent: without a tab it adds its length from any column; with one it ends, from any column, a fixed rest
  -- after a multiple
  abbrev Adds : List ℕ → Type 0
  Adds l = (from : ℕ) → measure r from l ≡ from + length l

  record Lands (l : List ℕ) : Type 0 where
    rest : ℕ
    stops : ℕ → ℕ
    is : (from : ℕ) → measure r from l ≡ rest + stops from * r

  blank_kind : (l : List ℕ) → all_blank l ≡ true → Adds l ⊎ Lands l
  unfolding measure all_blank
  blank_kind [] b = inl (λ from. omega arith)
  blank_kind (c ∷ l) b =
      by_test (eqb c 9)
      (λ e. inr (record {
        rest = measure r 0 l;
        stops = λ from. from / r + 1;
        is = λ from. ap (λ (n : ℕ). measure r n l) (after_tab r from c h (eqb-true c 9 e) ∙ sym (zero-add (next_stop r from))) ∙ measure_shift 0 (from / r + 1) l;
      }))
      (λ e. go e (blank_kind l (and_right (is_blank c) (all_blank l) b)))
    where
      space : eqb c 9 ≡ false → units c ≡ 1
      space e = units_low c (omega (arith, eqb-true c 32 (left_of_law (is " " c) e (and_left (is_blank c) (all_blank l) b))))
        where
          left_of_law : (s : Bool) → eqb c 9 ≡ false → (s || eqb c 9) ≡ true → s ≡ true
          left_of_law true e q = refl
          left_of_law false e q = sym e ∙ q

      go : eqb c 9 ≡ false → Adds l ⊎ Lands l → Adds (c ∷ l) ⊎ Lands (c ∷ l)
      go e (inl a) = inl (λ from. omega (arith, a (column_after r from c), after_other r from c e, space e))
      go e (inr a) = inr (record { rest = a.rest; stops = λ from. a.stops (column_after r from c); is = λ from. a.is (column_after r from c) })

  module _ (indent : List ℕ) (blank : all_blank indent ≡ true) where
    abbrev first : ℕ
    first = measure r 0 indent

    abbrev each : ℕ
    each = measure r first indent - first

    one_more : (j : ℕ) → measure r (first + j * each) indent ≡ first + (j + 1) * each
    one_more j = go (blank_kind indent blank)
      where
        sum : first + (j + 1) * each ≡ measure r first indent + j * each
        sum = omega (arith, measure_grows r first indent, add-mul j 1 each, one-mul each)

        go : Adds indent ⊎ Lands indent → measure r (first + j * each) indent ≡ first + (j + 1) * each
        go (inl a) = omega (arith, a (first + j * each), a first, sum)
        go (inr a) =
            let turns : ℕ = a.stops first - a.stops 0 in
            let more : each ≡ turns * r = landed a in
            ap (λ (n : ℕ). measure r (first + n) indent) (ap (λ (n : ℕ). j * n) more ∙ sym (mul_assoc j turns r))
            ∙ measure_shift first (j * turns) indent ∙ ap (λ (n : ℕ). measure r first indent + n) (mul_assoc j turns r ∙ sym (ap (λ (n : ℕ). j * n) more)) ∙ sym sum
          where
            landed : (a : Lands indent) → each ≡ (a.stops first - a.stops 0) * r
            landed a = omega (arith, a.is 0, a.is first, measure_grows r first indent, sub_mul (a.stops first) (a.stops 0) r)

    levels_from : (n j : ℕ) → measure r (first + j * each) (times n indent) ≡ first + (j + n) * each
    unfolding measure times
    levels_from zero j = ap (λ (k : ℕ). first + k * each) (omega arith)
    levels_from (suc n) j =
        measure_append r (first + j * each) indent (times n indent) ∙ ap (λ (k : ℕ). measure r k (times n indent)) (one_more j)
        ∙ levels_from n (j + 1) ∙ ap (λ (k : ℕ). first + k * each) (omega arith)

    pub indent_levels : (n : ℕ) → measure r 0 (times (suc n) indent) ≡ first + n * each
    unfolding times
    indent_levels n = measure_append r 0 indent (times n indent) ∙ ap (λ (k : ℕ). measure r k (times n indent)) start ∙ levels_from n 0 ∙ ap (λ (k : ℕ). first + k * each) (zero-add n)
      where
        start : first ≡ first + 0 * each
        start = omega arith

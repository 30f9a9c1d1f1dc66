-- What is read at a character.
use Prim.Native.Nat.{ℕ, zero, suc, ◌+◌, ◌-◌, ◌≤◌, ◌<◌}
use mathlib.Core.Bool.{Bool, true, false, not, ◌&&◌, ◌||◌, and-false, and-true, and_assoc, true≢false}
use mathlib.Core.List.{List, [], ◌∷◌}
use mathlib.Core.Option.{Option as Found, none, some}
use Rattle.std.specs.Prelude.{Option, Some, None}
use Rattle.std.specs.Option.{MatchOption}
use Rattle.std.specs.Bool.{then_some}
use mathlib.Core.Path.{◌≡◌, refl, sym, ap, ◌∙◌, subst}
use mathlib.Core.Logic.{⊎_elim}
use native.Mathlib.Omega.{arith}
use borrow.Author.Tests.{ne_eqb, eqb-true, lt-ltb, le-ltb, le-leb, lt-leb, eqb-false, ltb-true, ltb-false}
use lib.Dec.{eqb, ltb, leb}
use mir.Val.{bool_byte}
use lib.ListN.{length, drop, get_or, set, length-set, drop_of_length-le}
use lib.Seq.{drop-cons, drop-drop, drop-length, get_or-set_same, get_or-set_other}
use Rattle.utf8.proofs.Tests.{by_test, split, neither_left, neither_right, and_right}
use Rattle.blocks.specs.Blocks.{FirstFrom}
use Rattle.rules.specs.Basics.{choose, is, at, first_is, starts_with}
use Rattle.rules.proofs.Choose.{choose_true, choose_false}
use Rattle.config_rules.specs.Numbers.{is_digit, digit_count, sign, number_len}
use Rattle.config_rules.specs.Name.{reading, cons_to, to_bracket, bracket_at, escape_at, range_at, brace_at, star_at, slash_at, reading_at}
use Rattle.config_rules.specs.Name.Token.{item, opens}
use Rattle.glob_pass.specs.Kinds.{up_to, range_in, held_at}
use Rattle.glob_pass.specs.declared.kinds.Kind.{Kind}
use Rattle.glob_name.specs.declared.read.Read.{Read}
use Rattle.glob_name.specs.Read.{Counted, NumberAt, Told, rest_more, range_more, set_end, set_more, longer, Ends}
use Rattle.glob_name.specs.Read.{plain_read, star_read, slash_read, escape_read, set_read, brace_read, as_reading}
use Rattle.glob_name.specs.Read.{is_raw, Good, TokenRead}

-- ---- one character

module _ (cs : List ℕ) (i c : ℕ) where
  pub first_at : i < length cs → eqb (get_or cs i 0) c ≡ first_is (λ (d : ℕ). eqb d c) (drop i cs)
  unfolding first_is
  first_at h = rw (drop-cons cs i 0)

  pub first_past : length cs ≤ i → false ≡ first_is (λ (d : ℕ). eqb d c) (drop i cs)
  unfolding first_is
  first_past h = rw (drop_of_length-le cs {i = i})

-- ---- digits

abbrev pub no_digit_at : List ℕ → ℕ → Bool
no_digit_at cs i = ltb (get_or cs i 0) 48 || ltb 57 (get_or cs i 0)

digit_is : (c : ℕ) → (ltb c 48 || ltb 57 c) ≡ false → is_digit c ≡ true
digit_is c e =
    rw (le-leb 48 c (ltb-false c 48 (neither_left _ _ e)), le-leb c 57 (ltb-false 57 c (neither_right (ltb c 48) _ e)))

digit_not : (c : ℕ) → (ltb c 48 || ltb 57 c) ≡ true → is_digit c ≡ false
digit_not c e =
    by_test (ltb c 48) (λ a. rw (lt-leb 48 c (ltb-true c 48 a))) (λ a. rw (lt-leb c 57 (ltb-true 57 c (rw a at e)), and-false (leb 48 c)))

-- n digits, and none behind them
digits_run : (cs : List ℕ) (from n : ℕ) → from + n ≤ length cs → ((j : ℕ) → j < n → is_digit (get_or cs (from + j) 0) ≡ true)
    → (from + n < length cs → is_digit (get_or cs (from + n) 0) ≡ false) → n ≡ digit_count (drop from cs)
unfolding digit_count choose
digits_run cs from zero h are then =
    let z : from + 0 ≡ from = omega arith in
    ⊎_elim (λ (l : from < length cs). rw (drop-cons cs from 0 l, rw z at (then (omega arith)))) (λ (l : length cs ≤ from). rw (drop_of_length-le cs {i = from} l))
    (split from (length cs))
digits_run cs from (suc n) h are then =
    let z : from + 0 ≡ from = omega arith in
    let y : from + suc n ≡ suc from + n = omega arith in
    rw (drop-cons cs from 0 (omega arith), rw z at (are 0 (omega arith)))
    (ap suc (digits_run cs (suc from) n (omega arith)
    (λ j l. let x : from + suc j ≡ suc from + j = omega arith in rw x at (are (suc j) (omega arith)))
    (λ l. rw y at (then (omega arith)))))

pub digits_first : (cs : List ℕ) (from r : ℕ) → FirstFrom (no_digit_at cs) from (length cs) r → Counted cs from (digit_count (drop from cs)) (r - from)
digits_first cs from r f =
    let e : from + (r - from) ≡ r = omega (arith, f.from) in
    record {
      is = digits_run cs from (r - from) (rw e f.within) (λ j l. digit_is (get_or cs (from + j) 0) (f.none (from + j) (omega arith) (omega arith)))
          (rw e (λ l. digit_not (get_or cs r 0) (f.passes l)));
      fits = rw e f.within;
    }

-- ---- a number

module _ (cs : List ℕ) (from : ℕ) (b : Bool) (e : b ≡ first_is (λ (d : ℕ). eqb d 45) (drop from cs)) (f : from ≤ length cs) where
  pub sign_is : bool_byte b ≡ sign (drop from cs)
  unfolding sign choose
  sign_is = rw e (go (first_is (λ (d : ℕ). eqb d 45) (drop from cs)))
    where
      go : (b : Bool) → bool_byte b ≡ choose b 1 0
      go true = refl
      go false = refl

  pub sign_inside : from + bool_byte b ≤ length cs
  sign_inside = by_test b (λ t. rw t (inside t)) (λ t. rw t (omega arith))
    where
      inside : b ≡ true → from + 1 ≤ length cs
      inside t =
          ⊎_elim (λ (h : from < length cs). omega arith)
          (λ (h : length cs ≤ from). absurd (true≢false (sym t ∙ e ∙ sym (first_past cs from 45 h))))
          (split from (length cs))

  module _ (n : ℕ) (w : Counted cs (from + bool_byte b) (digit_count (drop (from + bool_byte b) cs)) n) where
    digits_are : n ≡ digit_count (drop (sign (drop from cs)) (drop from cs))
    digits_are = w.is ∙ rw (← sign_is) (sym (ap digit_count (drop-drop (bool_byte b) from cs)))

    number_none : n ≡ 0 → number_len (drop from cs) ≡ 0
    unfolding number_len choose
    number_none z = rw (← digits_are, z)

    number_some : (n ≡ 0 → ⊥) → NumberAt cs from (bool_byte b + n)
    unfolding number_len choose
    number_some z =
        record {
          is = rw (← digits_are, ne_eqb n 0 z, ← sign_is);
          some = omega arith;
          fits = omega (arith, w.fits);
        }

    pub number_given : (r : Option ℕ) → r ≡ then_some (not (eqb n 0)) (bool_byte b + n) → MatchOption r (number_len (drop from cs) ≡ 0) (NumberAt cs from)
    number_given r g =
        by_test (eqb n 0)
        (λ t. let o : r ≡ None = rw t at g in rw o (number_none (eqb-true n 0 t)))
        (λ t. let o : r ≡ Some (bool_byte b + n) = rw t at g in rw o (number_some (eqb-false n 0 t)))

-- ---- a range

-- no second number
pub rest_none : (cs : List ℕ) (from m : ℕ) → number_len (drop (from + m + 2) cs) ≡ 0 → rest_more cs from m ≡ 0
unfolding rest_more choose
rest_none cs from m z = rw z

module _ (cs : List ℕ) (from m n : ℕ) (e : NumberAt cs (from + m + 2) n) (b : Bool) (f : b ≡ first_is (λ (d : ℕ). eqb d 125) (drop (from + m + 2 + n) cs)) where
  some_n : n ≡ 0 → ⊥
  some_n z = absurd (omega (arith, e.some))

  rest_some : b ≡ true → (m + n + 3 ≡ rest_more cs from m) × (0 < m + n + 3)
  unfolding rest_more choose
  rest_some t = (rw (← e.is, ne_eqb n 0 some_n, ← f, t), omega arith)

  rest_other : b ≡ false → rest_more cs from m ≡ 0
  unfolding rest_more choose
  rest_other t = rw (← e.is, ne_eqb n 0 some_n, ← f, t)

  pub rest_given : (r : Option ℕ) → r ≡ then_some b (m + n + 3) → Told (rest_more cs from m) r
  rest_given r g =
      by_test b
      (λ t. let o : r ≡ Some (m + n + 3) = rw t at g in rw o (rest_some t))
      (λ t. let o : r ≡ None = rw t at g in rw o (rest_other t))

-- no first number
pub range_none : (cs : List ℕ) (from : ℕ) → number_len (drop from cs) ≡ 0 → range_more cs from ≡ 0
unfolding range_more choose
range_none cs from z = rw z

module _ (cs : List ℕ) (from m : ℕ) (e : NumberAt cs from m) (b d : Bool)
    (f : b ≡ first_is (λ (d : ℕ). eqb d 46) (drop (from + m) cs)) (g : d ≡ first_is (λ (d : ℕ). eqb d 46) (drop (from + m + 1) cs)) where
  dots : range_more cs from ≡ choose (b && d) (rest_more cs from m) 0
  unfolding range_more choose
  dots = rw (← e.is, ne_eqb m 0 (λ z. absurd (omega (arith, e.some))), ← f, ← g) (go b)
    where
      go : (b : Bool) → choose b (choose d (rest_more cs from m) 0) 0 ≡ choose (b && d) (rest_more cs from m) 0
      go true = refl
      go false = refl

  pub range_other : (b && d) ≡ false → range_more cs from ≡ 0
  range_other t = dots ∙ choose_false _ _ _ t

  pub range_both : (b && d) ≡ true → (r : Option ℕ) → Told (rest_more cs from m) r → Told (range_more cs from) r
  range_both t r k = subst (λ (x : ℕ). Told x r) (sym (dots ∙ choose_true _ _ _ t)) k

-- two dots are there, so the place behind them is
pub dots_inside : (cs : List ℕ) (from m : ℕ) (b d : Bool) → d ≡ first_is (λ (d : ℕ). eqb d 46) (drop (from + m + 1) cs) → (b && d) ≡ true → from + m + 2 ≤ length cs
dots_inside cs from m b d e t =
    ⊎_elim (λ (h : from + m + 1 < length cs). omega arith)
    (λ (h : length cs ≤ from + m + 1). absurd (true≢false (sym (and_right b d t) ∙ e ∙ sym (first_past cs (from + m + 1) 46 h))))
    (split (from + m + 1) (length cs))

two_at : (s : List ℕ) (a b : ℕ) → starts_with s (a ∷ b ∷ []) ≡ (first_is (λ (d : ℕ). eqb d a) s && first_is (λ (d : ℕ). eqb d b) (drop 1 s))
unfolding starts_with first_is
two_at [] a b = refl
two_at (x ∷ []) a b = refl
two_at (x ∷ y ∷ s) a b = ap (λ (r : Bool). eqb x a && r) (and-true (eqb y b))

three_at : (s : List ℕ) (a b c : ℕ)
    → starts_with s (a ∷ b ∷ c ∷ [])
    ≡ (first_is (λ (d : ℕ). eqb d a) s && (first_is (λ (d : ℕ). eqb d b) (drop 1 s) && first_is (λ (d : ℕ). eqb d c) (drop 2 s)))
unfolding starts_with first_is
three_at [] a b c = refl
three_at (x ∷ []) a b c = refl
three_at (x ∷ y ∷ []) a b c = refl
three_at (x ∷ y ∷ z ∷ s) a b c = ap (λ (r : Bool). eqb x a && (eqb y b && r)) (and-true (eqb z c))

module _ (cs : List ℕ) (i : ℕ) (b : Bool) (e : b ≡ first_is (λ (d : ℕ). eqb d 42) (drop i cs)) where
  stars_are : at (drop i cs) "**/" ≡ (b && (first_is (λ (d : ℕ). eqb d 42) (drop (i + 1) cs) && first_is (λ (d : ℕ). eqb d 47) (drop (i + 2) cs)))
  stars_are = three_at (drop i cs) 42 42 47 ∙ rw (e, drop-drop 1 i cs, drop-drop 2 i cs)

  pub stars_is : (d f : Bool) → d ≡ first_is (λ (d : ℕ). eqb d 42) (drop (i + 1) cs) → f ≡ first_is (λ (d : ℕ). eqb d 47) (drop (i + 2) cs)
      → ((b && d) && f) ≡ at (drop i cs) "**/"
  stars_is d f p q = and_assoc b d f ∙ sym (stars_are ∙ rw (← p, ← q))

chosen : {A : Type 0} (f : ℕ → A) (z : A) (m n : ℕ) (p q r : Bool)
    → choose (ltb 0 m && (p && q) && ltb 0 n && r) (f (m + n + 3)) z
    ≡ (let R = choose (eqb m 0) 0 (choose p (choose q (choose (eqb n 0) 0 (choose r (m + n + 3) 0)) 0) 0) in choose (eqb R 0) z (f R))
unfolding choose
chosen f z zero n p q r = refl
chosen f z (suc m) n false q r = rw (lt-ltb 0 (suc m) (omega arith), ne_eqb (suc m) 0 (λ e. absurd (omega arith)))
chosen f z (suc m) n true false r = rw (lt-ltb 0 (suc m) (omega arith), ne_eqb (suc m) 0 (λ e. absurd (omega arith)))
chosen f z (suc m) zero true true r = rw (lt-ltb 0 (suc m) (omega arith), ne_eqb (suc m) 0 (λ e. absurd (omega arith)))
chosen f z (suc m) (suc n) true true false =
    rw (lt-ltb 0 (suc m) (omega arith), ne_eqb (suc m) 0 (λ e. absurd (omega arith)), lt-ltb 0 (suc n) (omega arith), ne_eqb (suc n) 0 (λ e. absurd (omega arith)))
chosen f z (suc m) (suc n) true true true =
    rw (
      lt-ltb 0 (suc m) (omega arith),
      ne_eqb (suc m) 0 (λ e. absurd (omega arith)),
      lt-ltb 0 (suc n) (omega arith),
      ne_eqb (suc n) 0 (λ e. absurd (omega arith)),
      ne_eqb (suc m + suc n + 3) 0 (λ e. absurd (omega arith)),
    )

brace_is : (cs : List ℕ) (from : ℕ)
    → brace_at (drop from cs)
    ≡ choose (eqb (range_more cs from) 0) (reading opens 0) (reading (item (range_in (drop from cs))) (range_more cs from))
unfolding brace_at range_at range_more rest_more range_in
brace_is cs from =
    let m : ℕ = number_len (drop from cs) in
    let n : ℕ = number_len (drop (m + 2) (drop from cs)) in
    let z : from + (m + 2) ≡ from + m + 2 = omega arith in
    let a : drop (m + 2) (drop from cs) ≡ drop (from + m + 2) cs = drop-drop (m + 2) from cs ∙ ap (λ (i : ℕ). drop i cs) z in
    let b : drop n (drop (m + 2) (drop from cs)) ≡ drop (from + m + 2 + n) cs = ap (drop n) a ∙ drop-drop n (from + m + 2) cs in
    let c : drop m (drop from cs) ≡ drop (from + m) cs = drop-drop m from cs in
    let d : drop 1 (drop (from + m) cs) ≡ drop (from + m + 1) cs = drop-drop 1 (from + m) cs in
    rw (two_at (drop m (drop from cs)) 46 46, c, d, b)
    (chosen (λ (k : ℕ). reading (item (range_in (drop from cs))) k) (reading opens 0) m n (first_is (is ".") (drop (from + m) cs))
    (first_is (is ".") (drop (from + m + 1) cs)) (first_is (is "}") (drop (from + m + 2 + n) cs))
    ∙ rw a)

-- ---- the end of a set

more_cons : (c : ℕ) (o : Found (List ℕ)) → set_end (cons_to c o) ≡ longer (set_end o)
more_cons c none = refl
more_cons c (some l) = ap Some (let e : suc (suc (length l)) ≡ suc (length l) + 1 = omega arith in e)

set_none : (esc : Bool) → set_more esc [] ≡ None
unfolding set_more to_bracket
set_none esc = refl

set_cons : (esc : Bool) (c : ℕ) (s : List ℕ) → (not esc && is "]" c) ≡ false → set_more esc (c ∷ s) ≡ longer (set_more (not esc && is "\\" c) s)
unfolding set_more to_bracket
set_cons esc c s e =
    ap set_end (choose_false (not esc && is "]" c) (some []) (cons_to c (to_bracket (not esc && is "\\" c) s)) e)
    ∙ more_cons c (to_bracket (not esc && is "\\" c) s)

set_close : (s : List ℕ) → set_more false (93 ∷ s) ≡ Some 1
unfolding set_more to_bracket choose
set_close s = refl

-- a distance stays in the text
abbrev Within : List ℕ → ℕ → Option ℕ → Type 0
Within cs i o = MatchOption o (Unit {0}) (λ n. n + i ≤ length cs)

within_longer : (cs : List ℕ) (i : ℕ) (o : Option ℕ) → 0 < i → Within cs i o → Within cs (i - 1) (longer o)
within_longer cs i None h w = tt
within_longer cs i (Some n) h w = omega arith

pub record Ending (cs : List ℕ) (i : ℕ) (plain escaped : Option ℕ) (ends : List (Option ℕ)) : Type 0 where
  pub bound : i ≤ length cs
  pub room : length cs < length ends
  pub low : Within cs i plain
  pub high : Within cs i escaped
  pub here : plain ≡ set_more false (drop i cs)
  pub there : escaped ≡ set_more true (drop i cs)
  pub done : (j : ℕ) → i ≤ j → j ≤ length cs → get_or ends j None ≡ set_more false (drop j cs)

pub ending_start : (cs : List ℕ) (ends : List (Option ℕ)) → length cs < length ends → Ending cs (length cs) None None (set ends (length cs) None)
ending_start cs ends h =
    record {
      bound = omega arith;
      room = rw (length-set ends (length cs) None) h;
      low = tt;
      high = tt;
      here = sym (ap (set_more false) (drop-length cs) ∙ set_none false);
      there = sym (ap (set_more true) (drop-length cs) ∙ set_none true);
      done = λ j a b.
          let e : j ≡ length cs = omega arith in
          rw e (get_or-set_same ends (length cs) None None h ∙ sym (ap (set_more false) (drop-length cs) ∙ set_none false));
    }

pub ending_end : (cs : List ℕ) (i : ℕ) (plain escaped : Option ℕ) (ends : List (Option ℕ)) → Ending cs i plain escaped ends → i ≤ 0 → Ends cs ends
ending_end cs i plain escaped ends w z = record { at = λ j h. w.done j (omega arith) h }

module _ (cs : List ℕ) (i : ℕ) (plain escaped : Option ℕ) (ends : List (Option ℕ)) (w : Ending cs i plain escaped ends) (h : 0 < i) where
  drop_back : drop (i - 1) cs ≡ get_or cs (i - 1) 0 ∷ drop i cs
  drop_back =
      let b : i ≤ length cs = w.bound in
      let e : suc (i - 1) ≡ i = omega arith in
      drop-cons cs (i - 1) 0 (omega arith) ∙ ap (λ (j : ℕ). get_or cs (i - 1) 0 ∷ drop j cs) e

  ending_back : (p q : Option ℕ) → Within cs (i - 1) p → Within cs (i - 1) q → p ≡ set_more false (get_or cs (i - 1) 0 ∷ drop i cs)
      → q ≡ set_more true (get_or cs (i - 1) 0 ∷ drop i cs) → Ending cs (i - 1) p q (set ends (i - 1) p)
  ending_back p q a c e f =
      let b : i ≤ length cs = w.bound in
      let r : length cs < length ends = w.room in
      record {
        bound = omega arith;
        room = rw (length-set ends (i - 1) p) w.room;
        low = a;
        high = c;
        here = e ∙ ap (set_more false) (sym drop_back);
        there = f ∙ ap (set_more true) (sym drop_back);
        done = λ j x y.
            ⊎_elim
            (λ (g : i - 1 < j). get_or-set_other ends (i - 1) j p None (λ q. absurd (omega arith)) ∙ w.done j (omega arith) y)
            (λ (g : j ≤ i - 1).
            let z : j ≡ i - 1 = omega arith in rw z (get_or-set_same ends (i - 1) p None (omega arith) ∙ e ∙ ap (set_more false) (sym drop_back)))
            (split (i - 1) j);
      }

  pub ending_close : get_or cs (i - 1) 0 ≡ 93 → (q : Option ℕ) → q ≡ longer plain → Ending cs (i - 1) (Some 1) q (set ends (i - 1) (Some 1))
  ending_close e q f =
      let b : i ≤ length cs = w.bound in
      rw f
      (ending_back (Some 1) (longer plain) (omega arith) (within_longer cs i plain h w.low) (rw e (sym (set_close (drop i cs))))
      (ap longer w.here ∙ sym (set_cons true (get_or cs (i - 1) 0) (drop i cs) refl)))

  pub ending_escape : get_or cs (i - 1) 0 ≡ 92 → (p q : Option ℕ) → p ≡ longer escaped → q ≡ longer plain → Ending cs (i - 1) p q (set ends (i - 1) p)
  ending_escape e p q f g =
      rw (f, g)
      (ending_back (longer escaped) (longer plain) (within_longer cs i escaped h w.high) (within_longer cs i plain h w.low)
      (rw e (ap longer w.there ∙ sym (set_cons false 92 (drop i cs) refl)))
      (ap longer w.here ∙ sym (set_cons true (get_or cs (i - 1) 0) (drop i cs) refl)))

  pub ending_other : (get_or cs (i - 1) 0 ≡ 93 → ⊥) → (get_or cs (i - 1) 0 ≡ 92 → ⊥) → (p : Option ℕ) → p ≡ longer plain → Ending cs (i - 1) p p (set ends (i - 1) p)
  ending_other x y p f =
      let c : ℕ = get_or cs (i - 1) 0 in
      rw f
      (ending_back (longer plain) (longer plain) (within_longer cs i plain h w.low) (within_longer cs i plain h w.low)
      (ap longer (w.here ∙ ap (λ (b : Bool). set_more b (drop i cs)) (sym (ne_eqb c 92 y))) ∙ sym (set_cons false c (drop i cs) (ne_eqb c 93 x)))
      (ap longer w.here ∙ sym (set_cons true c (drop i cs) refl)))

-- ---- the token

upto_cons : (c : ℕ) (u l : List ℕ) (o : Found (List ℕ)) → ((k : List ℕ) → o ≡ some k → u ≡ k) → cons_to c o ≡ some l → c ∷ u ≡ l
upto_cons c u l none f g = absurd (let z : ◌≡◌ {A = ℕ} 0 1 = cc in omega arith)
upto_cons c u l (some k) f g = rw (f k refl) (let h : some (c ∷ k) ≡ some l = g in cc)

upto_is : (esc : Bool) (s l : List ℕ) → to_bracket esc s ≡ some l → up_to esc s ≡ l
unfolding to_bracket up_to
upto_is esc [] l e = absurd (let z : ◌≡◌ {A = ℕ} 0 1 = cc in omega arith)
upto_is esc (c ∷ s) l e =
    by_test (not esc && is "]" c)
    (λ t. choose_true _ _ _ t ∙ (let f : some [] ≡ some l = sym (choose_true _ _ _ t) ∙ e in cc))
    (λ t.
    choose_false _ _ _ t
    ∙ upto_cons c (up_to (not esc && is "\\" c) s) l (to_bracket (not esc && is "\\" c) s) (λ k. upto_is (not esc && is "\\" c) s k) (sym (choose_false _ _ _ t) ∙ e))

bracket_read : (s : List ℕ) (o : Found (List ℕ)) → to_bracket false s ≡ o → as_reading (set_read (set_end o)) (91 ∷ s) ≡ bracket_at o
unfolding bracket_at held_at
bracket_read s none e = refl
bracket_read s (some l) e = rw (upto_is false s l e)

pub brace_range : (x m : ℕ) → (m ≡ x) × (0 < m) → plain_read Kind.Range m ≡ brace_read x
unfolding brace_read choose
brace_range x m w = rw (← w.0, ne_eqb m 0 (λ z. absurd (omega (arith, w.1))))

-- the kind is one that is read
good_kind : (x : ℕ) (r : Read) → is_raw r.kind ≡ true → (r.kind ≡ Kind.Range → ⊥) → Good x r
good_kind x r h n = record { raw = h; spans = λ e. absurd (n e) }

good_choose : (x : ℕ) (b : Bool) (r t : Read) → Good x r → Good x t → Good x (choose b r t)
unfolding choose
good_choose x true r t g h = g
good_choose x false r t g h = h

good_set : (x : ℕ) (end : Option ℕ) → Good x (set_read end)
good_set x None = good_kind x (set_read None) refl (λ e. cc)
good_set x (Some n) = good_kind x (set_read (Some n)) refl (λ e. cc)

good_range : (x : ℕ) → Good x (choose (eqb x 0) (plain_read Kind.Opens 0) (plain_read Kind.Range x))
unfolding choose
good_range x =
    by_test (eqb x 0)
    (λ t. rw t (good_kind x (plain_read Kind.Opens 0) refl (λ e. cc)))
    (λ t. rw t (record { raw = refl; spans = λ e. (refl, ⊎_elim (λ (h : 0 < x). h) (λ (h : x ≤ 0). absurd (eqb-false x 0 t (omega arith))) (split 0 x)) }))

module _ (cs : List ℕ) (i : ℕ) (deep : Bool) (h : i < length cs) where
  abbrev c : ℕ
  c = get_or cs i 0

  abbrev s : List ℕ
  s = drop (i + 1) cs

  escape_token : c ≡ 92 → as_reading (choose (ltb (i + 1) (length cs)) (plain_read Kind.Escape 1) (plain_read Kind.Plain 0)) (92 ∷ s) ≡ escape_at s
  unfolding choose held_at
  escape_token e =
      ⊎_elim
      (λ (l : i + 1 < length cs). rw (lt-ltb (i + 1) (length cs) l, drop-cons cs (i + 1) 0 l) (unfold escape_at in refl))
      (λ (l : length cs ≤ i + 1). rw (le-ltb (i + 1) (length cs) l, drop_of_length-le cs {i = i + 1}) (unfold escape_at in refl))
      (split (i + 1) (length cs))

  brace_token : as_reading (choose (eqb (range_more cs (i + 1)) 0) (plain_read Kind.Opens 0) (plain_read Kind.Range (range_more cs (i + 1)))) (123 ∷ s) ≡ brace_at s
  unfolding choose held_at
  brace_token =
      by_test (eqb (range_more cs (i + 1)) 0) (λ t. rw t (sym (brace_is cs (i + 1) ∙ rw t))) (λ t. rw t (sym (brace_is cs (i + 1) ∙ rw t)))

  pub token_escape : (r : Read) → c ≡ 92 → r ≡ escape_read (ltb (i + 1) (length cs)) → TokenRead cs i deep r
  token_escape r q f =
      record {
        is = rw (f, q) (unfold escape_read in unfold reading_at in unfold choose in escape_token q);
        good =
            rw f
            (unfold escape_read in
            good_choose _ (ltb (i + 1) (length cs)) _ _ (good_kind _ _ refl (λ e. cc)) (good_kind _ _ refl (λ e. cc)));
      }

  pub token_set : (ends : List (Option ℕ)) (r : Read) → Ends cs ends → c ≡ 91 → r ≡ set_read (get_or ends (i + 1) None)
      → TokenRead cs i deep r
  token_set ends r w q f =
      record {
        is =
            rw (f, q, w.at (i + 1) (omega arith))
            (unfold reading_at in unfold choose in unfold set_more in bracket_read s (to_bracket false s) refl);
        good = rw f (good_set _ (get_or ends (i + 1) None));
      }

  pub token_brace : (r : Read) → c ≡ 123 → r ≡ brace_read (range_more cs (i + 1)) → TokenRead cs i deep r
  token_brace r q f =
      record {
        is = rw (f, q) (unfold brace_read in unfold reading_at in unfold choose in brace_token);
        good = rw f (unfold brace_read in good_range (range_more cs (i + 1)));
      }

  pub token_star : (r : Read) → c ≡ 42 → r ≡ star_read deep s → TokenRead cs i deep r
  unfolding reading_at star_read star_at choose held_at
  token_star r e f =
      by_test (first_is (is "*") s)
      (λ t. record { is = rw (f, e, t); good = rw (f, t) (good_kind _ _ refl (λ e. cc)) })
      (λ t. record { is = rw (f, e, t); good = rw (f, t) (good_kind _ _ refl (λ e. cc)) })

  pub token_slash : (r : Read) → c ≡ 47 → r ≡ slash_read deep s → TokenRead cs i deep r
  unfolding reading_at slash_read slash_at choose held_at
  token_slash r e f =
      by_test deep
      (λ t. record { is = rw (f, e, t); good = rw (f, t) (good_kind _ _ refl (λ e. cc)) })
      (λ t.
      by_test (at s "**/")
      (λ u. record { is = rw (f, e, t, u); good = rw (f, t, u) (good_kind _ _ refl (λ e. cc)) })
      (λ u. record { is = rw (f, e, t, u); good = rw (f, t, u) (good_kind _ _ refl (λ e. cc)) }))

  module _ (r : Read) where
    pub token_one : c ≡ 63 → r ≡ plain_read Kind.One 0 → TokenRead cs i deep r
    unfolding reading_at choose held_at
    token_one q f = record { is = rw (f, q); good = rw f (good_kind _ _ refl (λ e. cc)) }

    pub token_comma : c ≡ 44 → r ≡ plain_read Kind.Comma 0 → TokenRead cs i deep r
    unfolding reading_at choose held_at
    token_comma q f = record { is = rw (f, q); good = rw f (good_kind _ _ refl (λ e. cc)) }

    pub token_closes : c ≡ 125 → r ≡ plain_read Kind.Closes 0 → TokenRead cs i deep r
    unfolding reading_at choose held_at
    token_closes q f = record { is = rw (f, q); good = rw f (good_kind _ _ refl (λ e. cc)) }

    pub token_plain : (c ≡ 92 → ⊥) → (c ≡ 91 → ⊥) → (c ≡ 123 → ⊥) → (c ≡ 42 → ⊥) → (c ≡ 47 → ⊥) → (c ≡ 63 → ⊥)
        → (c ≡ 44 → ⊥) → (c ≡ 125 → ⊥) → r ≡ plain_read Kind.Plain 0 → TokenRead cs i deep r
    unfolding reading_at choose held_at
    token_plain n o p q t u v w f =
        record {
          is =
              rw (
                f,
                ne_eqb c 92 n,
                ne_eqb c 91 o,
                ne_eqb c 123 p,
                ne_eqb c 42 q,
                ne_eqb c 47 t,
                ne_eqb c 63 u,
                ne_eqb c 44 v,
                ne_eqb c 125 w,
              );
          good = rw f (good_kind _ _ refl (λ e. cc));
        }

-- Laws of one step of top_level_ops.
use Prim.Native.Nat.{ℕ, zero, suc, ◌+◌, ◌-◌, ◌≤◌, ◌<◌, zero-le}
use mathlib.Core.Bool.{Bool, true, false, not, ◌&&◌, ◌||◌, and-true, and-false, true≢false}
use mathlib.Core.List.{List, [], ◌∷◌}
use Rattle.std.specs.Prelude.{Option, Some, None}
use Rattle.std.specs.Bool.{then_some}
use mathlib.Core.Path.{◌≡◌, refl, sym, ap, subst, ◌∙◌}
use native.Mathlib.Omega.{arith}
use native.Mathlib.Nat.{le_refl}
use native.Mathlib.Numerals.{add-one}
use lib.Dec.{eqb, ltb}
use mir.Val.{bool_byte}
use lib.ListN.{length, get_or, take, drop, length-drop}
use borrow.Author.Tests.{ne_eqb, eq-eqb, eqb-true, eqb-false, lt-ltb, ltb-true, ltb-false, not-false, not-true}
use Rattle.rules.specs.Basics.{choose, is, codes, at, same, one_of, starts_with, first_is}
use Rattle.rules.specs.ClassBytes.{class_of}
use Rattle.rules.specs.Scan.{Cell, is_str}
use Rattle.rules.specs.Operators.{operators, index_in}
use Rattle.rules.specs.SplitOperation.{Ops, OpStep, precedence, ends_operand, atom_char, atom_len, starts_pair, token, operator, escape, bracket, is_sign, one_char_step, two_char_step, code_step, fresh_step, op_step_at}
use Rattle.rules.specs.OperatorBytes.{byte_step}
use Rattle.rules.proofs.CellsLaws.{str_byte}
use Rattle.rules.proofs.Choose.{choose_true, choose_false}
use Rattle.rules.proofs.StartsBytes.{choose_both}
use Rattle.rules.proofs.Leading.{Passing, passing_start, passing_more, passing_stop, passing_end}
use Rattle.utf8.specs.Unicode.{tail}
use Rattle.utf8.proofs.Tests.{by_test, and_left}
use Rattle.buffer.proofs.RegionLaws.{part_from}
use Rattle.blocks.specs.Blocks.{FirstFrom}
use Rattle.operators.specs.Places.{place_of}
use Rattle.operators.specs.declared.Operator.{Operator}
use Rattle.operators.proofs.OperatorLaws.{strength_index, one_of_index, place_below, is_operator, no_operator}
use Rattle.top_level_ops.specs.Steps.{AtomLen, AtomAt, AtomFound, atom_ends_at, sign_step, token_step, strength_in, step_with, goes_on, LongToken, ops_of, step_or, passed, found_as, code_or, fresh_or, skip_or, byte_or}
use Rattle.top_level_ops.specs.declared.OpState.{OpState}
use Rattle.top_level_ops.specs.declared.Token.{Token}

-- ---- an operator of two characters at the head of l, by the place that was found

abbrev pub Two : List ℕ → ℕ → Type 0
Two l k = k ≡ choose (eqb (length (take 2 l)) 2) (index_in operators (take 2 l)) 21

two_cases : (l : List ℕ) (k : ℕ) → Two l k → (starts_pair l ≡ ltb k 21) × (k < 21 → k ≡ index_in operators (take 2 l))
unfolding choose
two_cases l k e =
    by_test (eqb (length (take 2 l)) 2)
    (λ h. let f : k ≡ index_in operators (take 2 l) = rw h at e in (rw (h, one_of_index operators (take 2 l), f), λ _. f))
    (λ h. let f : k ≡ 21 = rw h at e in (rw (h, f), λ p. absurd (omega arith)))

pub two_short : (l : List ℕ) → length l < 2 → 21 ≡ choose (eqb (length (take 2 l)) 2) (index_in operators (take 2 l)) 21
unfolding choose
two_short [] h = refl
two_short (a ∷ []) h = refl
two_short (a ∷ b ∷ l) h = absurd (omega arith)

pub two_long : (l : List ℕ) (k : ℕ) → 2 ≤ length l → k ≡ index_in operators (get_or l 0 0 ∷ get_or l 1 0 ∷ []) → Two l k
unfolding choose
two_long [] k h e = absurd (omega arith)
two_long (a ∷ []) k h e = absurd (omega arith)
two_long (a ∷ b ∷ l) k h e = e

module _ (l : List ℕ) where
  pub pick_two : (o : Operator) → Two l (place_of o) → (x y z : OpStep) → x ≡ y → x ≡ choose (starts_pair l) y z
  pick_two o e x y z f = f ∙ sym (choose_true (starts_pair l) y z ((two_cases l (place_of o) e).0 ∙ lt-ltb (place_of o) 21 (place_below o)))

  pub pick_one : Two l 21 → (x y z : OpStep) → x ≡ z → x ≡ choose (starts_pair l) y z
  pick_one e x y z f = f ∙ sym (choose_false (starts_pair l) y z (two_cases l 21 e).0)

-- `<<=` and `>>=`
factor : (p q r s e : Bool) → (p && (q && (e && true))) || (r && (s && (e && true))) ≡ ((p && (q && true)) || (r && (s && true))) && e
factor p q r s true = simp (and-true)
factor p q r s false = simp (and-false)

none_starts : (p q r s : Bool) → (p && (q && false)) || (r && (s && false)) ≡ ((p && (q && true)) || (r && (s && true))) && false
none_starts p q r s = simp (and-false)

pub shift_assign : (l : List ℕ) → (at l "<<=" || at l ">>=") ≡ ((same (take 2 l) (codes "<<") || same (take 2 l) (codes ">>")) && first_is (is "=") (drop 2 l))
unfolding starts_with same first_is
shift_assign [] = refl
shift_assign (a ∷ []) = simp (and-false)
shift_assign (a ∷ b ∷ []) = none_starts (eqb a 60) (eqb b 60) (eqb a 62) (eqb b 62)
shift_assign (a ∷ b ∷ c ∷ l) = factor (eqb a 60) (eqb b 60) (eqb a 62) (eqb b 62) (eqb c 61)

module _ (table : List ℕ) (s : Ops) (l : List ℕ) (x : OpStep) where
  pub two_token : (r : Bool) → r ≡ (at l "<<=" || at l ">>=") → r ≡ true → x ≡ token s false 2 → x ≡ two_char_step table s (take 2 l) (drop 2 l)
  unfolding two_char_step
  two_token r p q f = f ∙ sym (choose_true _ _ _ (sym (shift_assign l) ∙ sym p ∙ q))

pub two_operator : (table : List ℕ) (s : Ops) (l : List ℕ) (o : Operator) → Two l (place_of o) → (x : OpStep) (r : Bool) → r ≡ (at l "<<=" || at l ">>=") → r ≡ false
    → x ≡ operator s (get_or table (place_of o) 0) 1 → x ≡ two_char_step table s (take 2 l) (drop 2 l)
unfolding two_char_step
two_operator table s l o e x r p q f =
    f ∙ ap (λ (m : ℕ). operator s m 1) (strength_index table (take 2 l) (place_of o) ((two_cases l (place_of o) e).1 (place_below o)))
    ∙ sym (choose_false _ _ _ (sym (shift_assign l) ∙ sym p ∙ q))

-- ---- an operator of one character

module _ (table : List ℕ) (s : Ops) (c : ℕ) (cs : List ℕ) (x : OpStep) where
  pub one_token : (b : Bool) → 21 ≡ index_in operators (c ∷ []) → b ≡ ends_operand c → x ≡ token s b 0 → x ≡ one_char_step table s c cs
  unfolding one_char_step
  one_token b e g f =
      f ∙ ap (λ (v : Bool). token s v 0) g
      ∙ sym (choose_true _ _ _ (ap not (no_operator (c ∷ []) 21 e (le_refl 21))))

  abbrev signed : OpStep
  signed =
      choose (first_is (is "=") cs) (token s false 1)
      (choose (is_sign c && not s.operand) (token s false 0)
      (operator s (precedence table (c ∷ [])) 0))

  -- n is 1 where b holds, else 0
  module _ (n : ℕ) (b : Bool) (e : n ≡ bool_byte b) (f : b ≡ first_is (is "=") cs) (g : x ≡ token s false n) where
    pub signed_assigns : b ≡ true → x ≡ signed
    signed_assigns t = g ∙ ap (λ (m : ℕ). token s false m) (e ∙ ap bool_byte t) ∙ sym (choose_true _ _ _ (sym f ∙ t))

    pub signed_unary : b ≡ false → (is_sign c && not s.operand) ≡ true → x ≡ signed
    signed_unary t u =
        g ∙ ap (λ (m : ℕ). token s false m) (e ∙ ap bool_byte t) ∙ sym (choose_false _ _ _ (sym f ∙ t) ∙ choose_true _ _ _ u)

  pub one_operator : (o : Operator) → place_of o ≡ index_in operators (c ∷ []) → x ≡ signed → x ≡ one_char_step table s c cs
  unfolding one_char_step
  one_operator o e f = f ∙ sym (choose_false _ _ _ (ap not (is_operator (c ∷ []) o e)))

pub operator_strength : (table : List ℕ) (s : Ops) (w : List ℕ) (x : OpStep) (k m : ℕ) → k ≡ index_in operators w → x ≡ operator s (get_or table k 0) m → x ≡ operator s (precedence table w) m
operator_strength table s w x k m e f = f ∙ ap (λ (i : ℕ). operator s i m) (strength_index table w k e)

pub assign_short : (l : List ℕ) → length l < 2 → false ≡ first_is (is "=") (drop 1 l)
unfolding first_is
assign_short [] h = refl
assign_short (a ∷ []) h = refl
assign_short (a ∷ b ∷ l) h = absurd (omega arith)

pub assign_equals : (l : List ℕ) → 2 ≤ length l → get_or l 1 0 ≡ 61 → true ≡ first_is (is "=") (drop 1 l)
unfolding first_is
assign_equals [] h e = absurd (omega arith)
assign_equals (a ∷ []) h e = absurd (omega arith)
assign_equals (a ∷ b ∷ l) h e = rw e refl

pub assign_other : (l : List ℕ) → 2 ≤ length l → (get_or l 1 0 ≡ 61 → ⊥) → false ≡ first_is (is "=") (drop 1 l)
unfolding first_is
assign_other [] h e = absurd (omega arith)
assign_other (a ∷ []) h e = absurd (omega arith)
assign_other (a ∷ b ∷ l) h e = sym (ne_eqb b 61 e)

pub unary_at : (b v w r : Bool) → v ≡ w → r ≡ (b && not w) → r ≡ (b && not v)
unary_at b v w r e f = rw e f

-- ---- an atom's name, as `first_from` finds its end

module _ (s : List ℕ) (r : ℕ) (f : FirstFrom (atom_ends_at s) 0 (length s) r) where
  atom_run : (n : ℕ) → n ≤ r → Passing atom_char s n
  atom_run zero h = passing_start atom_char s
  atom_run (suc n) h =
      rw (← (add-one n)) (passing_more (atom_run n (omega arith)) (omega (arith, f.within)) (not-false (atom_char (get_or s n 0)) (f.none n zero-le (omega arith))))

  atom_scan : Passing atom_char s r
  atom_scan = atom_run r (omega arith)

  pub atom_first : AtomLen s r
  atom_first =
      by_test (ltb r (length s))
      (λ t. let h : r < length s = ltb-true r (length s) t in record { is = passing_stop atom_scan h (not-true (atom_char (get_or s r 0)) (f.passes h)); fits = f.within })
      (λ t. record { is = passing_end atom_scan (ltb-false r (length s) t); fits = f.within })

module _ (operand : Bool) (l : List ℕ) (some : 0 < length l) where
  pub atom_operand : operand ≡ true → AtomAt operand l 0
  atom_operand e = record { is = sym (choose_false _ _ _ (rw e (and-false (is ":" (get_or l 0 0))))); fits = some }

  pub atom_colon : (r : ℕ) → get_or l 0 0 ≡ 58 → operand ≡ false → AtomLen (take (length l - 1) (drop 1 l)) r → AtomAt operand l r
  atom_colon r h e q =
      let d : take (length l - 1) (drop 1 l) ≡ drop 1 l = part_from l 1 in
      record {
        is = q.is ∙ ap atom_len d ∙ sym (choose_true _ _ _ (rw (h, e)));
        fits = omega (arith, q.fits, ap length d, length-drop 1 l);
      }

  atom_none : (r : ℕ) → get_or l 0 0 ≡ 58 → operand ≡ false → AtomLen (take (length l - 1) (drop 1 l)) r → r ≡ 0 → AtomAt operand l 0
  atom_none r h e q z = subst (λ (n : ℕ). AtomAt operand l n) z (atom_colon r h e q)

  pub atom_some : (r : ℕ) → get_or l 0 0 ≡ 58 → operand ≡ false → AtomLen (take (length l - 1) (drop 1 l)) r → (o : Option ℕ) → o ≡ then_some (not (eqb r 0)) r → AtomFound operand l o
  atom_some r h e q o f =
      by_test (eqb r 0)
      (λ t. let g : o ≡ None = rw t at f in subst (AtomFound operand l) (sym g) (atom_none r h e q (eqb-true r 0 t)))
      (λ t. let g : o ≡ Some r = rw t at f in let z : r ≡ 0 → ⊥ = eqb-false r 0 t in subst (AtomFound operand l) (sym g) (omega arith, atom_colon r h e q))

  pub atom_other : (get_or l 0 0 ≡ 58 → ⊥) → AtomAt operand l 0
  atom_other h = record { is = sym (choose_false _ _ _ (rw (ne_eqb (get_or l 0 0) 58 h))); fits = some }

-- ---- tokens

pub token_step_law : (table : List ℕ) (s : Ops) (operand : Bool) (n : ℕ) → step_with table s (record { operator = None; operand = operand; skip = n }) ≡ token s operand n
unfolding token
token_step_law table s operand n = rw (choose_both {A = ℕ} (eqb s.opened s.closed) 0)

pub token_operator : (table : List ℕ) (s : Ops) (o : Operator) (n : ℕ) → step_with table s (record { operator = Some o; operand = false; skip = n }) ≡ operator s (get_or table (place_of o) 0) n
unfolding operator
token_operator table s o n = refl

module _ (table : List ℕ) (s : Ops) (l : List ℕ) (some : 0 < length l) (operand : Bool) (o : s.operand ≡ operand) (x : OpStep) (n : ℕ) (q : AtomAt operand l n) where
  abbrev colon : Bool
  colon = is ":" (get_or l 0 0) && not operand

  pub token_atom : (b : Bool) → 0 < n → b ≡ ends_operand (get_or l n 0) → x ≡ token s b n → x ≡ token_step table s l
  unfolding token_step
  token_atom b h g f =
      let yes : colon ≡ true = by_test colon (λ t. t) (λ t. absurd (omega (arith, q.is ∙ choose_false _ _ _ t))) in
      let e : n ≡ atom_len (drop 1 l) = q.is ∙ choose_true _ _ _ yes in
      let z : eqb (atom_len (drop 1 l)) 0 ≡ false = ne_eqb (atom_len (drop 1 l)) 0 (λ (y : atom_len (drop 1 l) ≡ 0). omega arith) in
      f ∙ ap (λ (v : Bool). token s v n) g ∙ ap (λ (m : ℕ). token s (ends_operand (get_or l m 0)) m) e
      ∙ sym (choose_true _ _ _ (rw (o, yes, z)))

  pub token_sign : n ≤ 0 → x ≡ sign_step table s l → x ≡ token_step table s l
  unfolding token_step
  token_sign h f =
      let no : (colon && not (eqb (atom_len (drop 1 l)) 0)) ≡ false = by_test colon (λ t. rw (t, eq-eqb (atom_len (drop 1 l)) 0 (omega (arith, q.is ∙ choose_true _ _ _ t)))) (λ t. rw t) in
      f ∙ sym (choose_false _ _ _ (rw o no))

-- ---- a token of one character: the second byte b, 0 where there is none, goes on with none

off : (k b : ℕ) → goes_on b ≡ false → goes_on k ≡ true → eqb k b ≡ false
off k b h t = ne_eqb k b (λ (e : k ≡ b). true≢false (sym t ∙ ap goes_on e ∙ h))

module _ (l : List ℕ) (h : goes_on (get_or l 1 0) ≡ false) where
  no_pair : (l : List ℕ) → goes_on (get_or l 1 0) ≡ false → starts_pair l ≡ false
  unfolding one_of same
  no_pair [] h = refl
  no_pair (a ∷ []) h = refl
  no_pair (a ∷ b ∷ l) h =
      simp (off 124 b h refl, off 94 b h refl, off 38 b h refl, off 61 b h refl, off 60 b h refl, off 62 b h refl, off 46 b h refl, off 42 b h refl, and-false)

  no_assign : (l : List ℕ) → goes_on (get_or l 1 0) ≡ false → first_is (is "=") (drop 1 l) ≡ false
  unfolding first_is
  no_assign [] h = refl
  no_assign (a ∷ []) h = refl
  no_assign (a ∷ b ∷ l) h = ne_eqb b 61 (λ (e : b ≡ 61). true≢false (sym (ap goes_on e) ∙ h))

  no_dots : (l : List ℕ) → goes_on (get_or l 1 0) ≡ false → at l "..." ≡ false
  unfolding starts_with
  no_dots [] h = refl
  no_dots (a ∷ []) h = simp and-false
  no_dots (a ∷ b ∷ l) h = rw (ne_eqb b 46 (λ (e : b ≡ 46). true≢false (sym (ap goes_on e) ∙ h)), and-false)

  no_arrow : (l : List ℕ) → goes_on (get_or l 1 0) ≡ false → (at l "->" || at l "=>") ≡ false
  unfolding starts_with
  no_arrow [] h = refl
  no_arrow (a ∷ []) h = simp and-false
  no_arrow (a ∷ b ∷ l) h = simp (ne_eqb b 62 (λ (e : b ≡ 62). true≢false (sym (ap goes_on e) ∙ h)), and-false)

  pub long_not : (get_or l 0 0 ≡ 58 → ⊥) → LongToken l false
  unfolding token_step sign_step
  long_not n =
      record {
        short = λ e table s.
            choose_false _ _ _ (rw (ne_eqb (get_or l 0 0) 58 n)) ∙ choose_false _ _ _ (no_dots l h) ∙ choose_false _ _ _ (no_arrow l h)
            ∙ choose_false _ _ _ (no_pair l h);
        alone = λ e. no_assign l h;
      }

pub long_may : (l : List ℕ) → LongToken l true
long_may l = record { short = λ e. absurd (true≢false e); alone = λ e. absurd (true≢false e) }

pub long_short : (l : List ℕ) → length l ≤ 1 → (get_or l 0 0 ≡ 58 → ⊥) → LongToken l false
long_short [] h n = long_not [] refl n
long_short (a ∷ []) h n = long_not (a ∷ []) refl n
long_short (a ∷ b ∷ l) h n = absurd (omega arith)

pub long_by : (l : List ℕ) (r : Bool) → r ≡ goes_on (get_or l 1 0) → (get_or l 0 0 ≡ 58 → ⊥) → LongToken l r
long_by l true e n = long_may l
long_by l false e n = long_not l (sym e) n

-- ---- a byte

pub opens : (x : OpStep) (m n : ℕ) → x ≡ bracket (m + 1) n false → x ≡ bracket (suc m) n false
opens x m n e = rw (← add-one m) e

pub closes : (x : OpStep) (m n c : ℕ) (b : Bool) → b ≡ ends_operand c → x ≡ bracket m (n + 1) b → x ≡ bracket m (suc n) (ends_operand c)
closes x m n c b g e = rw (← g, ← add-one n) e

-- the steps as the code gives them
module _ (n s : OpState) (t : OpStep) where
  pub passed_token : (operand : Bool) (k : ℕ) → n ≡ passed s operand false k → step_or t (Some n) ≡ token (ops_of s) operand k
  unfolding token
  passed_token operand k e = rw e

  pub passed_escape : (esc : Bool) → n ≡ passed s s.operand esc 0 → step_or t (Some n) ≡ escape (ops_of s) esc
  unfolding escape
  passed_escape esc e = rw e

  pub passed_string : n ≡ passed s true s.esc 0
      → step_or t (Some n) ≡ record { strength = 0; after = record { opened = s.opened; closed = s.closed; operand = true; esc = s.esc; skip = 0 } }
  passed_string e = rw e

  pub passed_bracket : (i k : ℕ) (operand : Bool) → n ≡ record { opened = i; closed = k; operand = operand; esc = false; skip = 0 } → step_or t (Some n) ≡ bracket i k operand
  unfolding bracket
  passed_bracket i k operand e = rw e

module _ (n s : OpState) (t : Token) (e : n ≡ passed s t.operand false t.skip) where
  pub taken_outside : n.opened ≡ n.closed → (table : List ℕ) → found_as (strength_in table t.operator) n ≡ step_with table (ops_of s) t
  taken_outside h table =
      let k : s.opened ≡ s.closed = rw e at h in
      rw (e, choose_true {A = ℕ} _ (strength_in table t.operator) 0 (eq-eqb _ _ k))

  pub taken_inside : (n.opened ≡ n.closed → ⊥) → (table : List ℕ) → found_as 0 n ≡ step_with table (ops_of s) t
  taken_inside h table =
      let k : s.opened ≡ s.closed → ⊥ = rw e at h in
      rw (e, choose_false {A = ℕ} _ (strength_in table t.operator) 0 (ne_eqb _ _ k))

module _ (k : ℕ) (x y z : OpStep) where
  pub pick_string : k ≡ 1 → x ≡ y → x ≡ choose (is_str (class_of k)) y z
  pick_string h f = f ∙ sym (choose_true _ _ _ (str_byte k ∙ eq-eqb k 1 h))

  pub pick_code : (k ≡ 1 → ⊥) → x ≡ z → x ≡ choose (is_str (class_of k)) y z
  pick_code h f = f ∙ sym (choose_false _ _ _ (str_byte k ∙ ne_eqb k 1 h))

-- a colon is neither blank nor a bracket
colon_or : (t : OpStep) (s : Ops) (c : ℕ) → is ":" c ≡ true → code_or t s c ≡ t
unfolding code_or choose
colon_or t s c e = rw (eqb-true c 58 e)

code_or_law : (table : List ℕ) (s : Ops) (c : ℕ) (cs : List ℕ) → code_step table s c cs ≡ code_or (token_step table s (c ∷ cs)) s c
unfolding code_step token_step sign_step
code_or_law table s c cs =
    by_test (is ":" c && not s.operand && not (eqb (atom_len cs) 0))
    (λ e. choose_true _ _ _ e ∙ sym (colon_or _ s c (and_left (is ":" c) (not s.operand) (and_left (is ":" c && not s.operand) (not (eqb (atom_len cs) 0)) e)) ∙ choose_true _ _ _ e))
    (λ e. choose_false _ _ _ e ∙ (unfold code_or in (ap (λ (t : OpStep). code_or t s c) (sym (choose_false _ _ _ e)))))

skip_or_law : (n : ℕ) (table : List ℕ) (s : Ops) (x : Cell) (cs : List ℕ) → op_step_at n table s x cs ≡ skip_or n (token_step table s (x.ch ∷ cs)) s x
unfolding op_step_at skip_or fresh_step fresh_or
skip_or_law zero table s x cs = rw (code_or_law table s x.ch cs)
skip_or_law (suc n) table s x cs = refl

-- the step of a byte, by the token that may start there
pub byte_or_law : (table : List ℕ) (s : Ops) (x : Cell) (cs : List ℕ) → byte_step table s x cs ≡ byte_or (token_step table s (x.ch ∷ cs)) s x
unfolding byte_or
byte_or_law table s x cs = rw (skip_or_law s.skip table s x cs)

skip_on : (n : ℕ) (t : OpStep) (s : Ops) (x : Cell) → 0 < n → token s s.operand (n - 1) ≡ skip_or n t s x
unfolding skip_or
skip_on zero t s x h = absurd (omega arith)
skip_on (suc n) t s x h = let e : suc n - 1 ≡ n = omega arith in rw e

skip_none : (n : ℕ) (t : OpStep) (s : Ops) (x : Cell) → n ≤ 0 → fresh_or t s x ≡ skip_or n t s x
unfolding skip_or
skip_none zero t s x h = refl
skip_none (suc n) t s x h = absurd (omega arith)

module _ (t : OpStep) (s : Ops) (x : Cell) (r : Bool) (p : r ≡ tail x.ch) where
  pub byte_stays : r ≡ true → record { strength = 0; after = s } ≡ byte_or t s x
  unfolding byte_or
  byte_stays e = sym (choose_true _ _ _ (sym p ∙ e))

  pub byte_skips : r ≡ false → 0 < s.skip → (y : OpStep) → y ≡ token s s.operand (s.skip - 1) → y ≡ byte_or t s x
  unfolding byte_or
  byte_skips e h y f = f ∙ skip_on s.skip t s x h ∙ sym (choose_false _ _ _ (sym p ∙ e))

  pub byte_fresh : r ≡ false → s.skip ≤ 0 → (y : OpStep) → y ≡ fresh_or t s x → y ≡ byte_or t s x
  unfolding byte_or
  byte_fresh e h y f = f ∙ skip_none s.skip t s x h ∙ sym (choose_false _ _ _ (sym p ∙ e))

-- split_once breaks an accepted source at its loosest operators outside brackets.
use Prim.Native.Nat.{ℕ, zero, suc, ◌+◌}
use mathlib.Core.Bool.{Bool, true, false, not, ◌&&◌, ◌||◌}
use mathlib.Core.List.{List, [], ◌∷◌, ◌++◌, foldl, reverse, reverse-cons, reverse-reverse, append_assoc, append-nil}
use mathlib.Core.Option.{Option, some}
use mathlib.Core.Path.{◌≡◌, refl, ap, sym, ◌∙◌}
use native.Mathlib.Omega.{arith}
use lib.Dec.{eqb}
use lib.ListN.{length, take, drop}
use borrow.Author.Tests.{eqb-true, eq-eqb, ne_eqb}
use Rattle.rules.specs.Basics.{choose, is, codes, at, same, one_of, starts_with, first_is, is_blank, is_opener, is_closer, is_ident}
use Rattle.rules.specs.Operators.{operators}
use Rattle.rules.specs.Scan.{Cell, cell, chars_of, classify, scan, in_code}
use Rattle.rules.specs.Scan as Scan
use Rattle.rules.specs.declared.Class.{Class}
use Rattle.rules.specs.declared.Mode.{Mode}
use Rattle.rules.specs.declared.Carry.{Carry}
use Rattle.rules.specs.SplitOperation as SO
use Rattle.rules.specs.Operators.{strengths}
use Rattle.rules.specs.SplitOperation.{ends_operand, atom_len, Ops, OpStep, is_sign, one_char_step, two_char_step, code_step, fresh_step, op_step_at, op_step, OpMark, op_mark, marks_from, no_ops, top_level_ops, deeper, shallower, balance_step, is_zero, is_balanced, word_on, has_word_from, has_word, keywords, looser, loosest, break_at, split_once}
use Rattle.rules.proofs.Computing.{computing}
use Rattle.rules.proofs.Choose.{choose_true, choose_false, choose_case}
use Rattle.group_rules.specs.Expression.{Token, Stage, due, in_name, in_number, after, in_operator, read, reading_to}
use Rattle.group_rules.specs.Grouping.{strength_of}
use Rattle.group_rules.proofs.TableLaws.{or_cases, or_false, and_none, not_of, unlike, all_of, found}
use Rattle.group_rules.specs.Split.{plain_marks, operator_marks, depth_of, marks_back, marks_of, inked, SplitsAlike}
use Rattle.group_rules.proofs.LaidLaws.{CalmChar, Calm, Laid, ends, blank_due, sign_due, open_due, number_due, name_due, more_number, more_name, end_number, end_name, blank_after, close_after, operator_one, operator_two, laid}

-- ---- the characters of operators: tests that are computed for each

first_not : (ℕ → Bool) → List ℕ → Bool
first_not p [] = true
first_not p (a ∷ r) = not (p a)

pair_not : (ℕ → ℕ → Bool) → List ℕ → Bool
pair_not p [] = true
pair_not p (a ∷ []) = true
pair_not p (a ∷ c ∷ r) = not (p a c)

not_first : (p : ℕ → Bool) → all_of (first_not p) operators ≡ true → (a : ℕ) (r : List ℕ) → one_of operators (a ∷ r) ≡ true → p a ≡ false
not_first p t a r h = not_of (p a) (unfold first_not in found (first_not p) operators (a ∷ r) t h)

not_pair : (p : ℕ → ℕ → Bool) → all_of (pair_not p) operators ≡ true → (a c : ℕ) → one_of operators (a ∷ c ∷ []) ≡ true → p a c ≡ false
not_pair p t a c h = not_of (p a c) (unfold pair_not in found (pair_not p) operators (a ∷ c ∷ []) t h)

-- a character of a word is none of an operator
ident_none : (c : ℕ) (r : List ℕ) → is_ident c ≡ true → one_of operators (c ∷ r) ≡ false
ident_none c r h = go (one_of operators (c ∷ r)) refl
  where
    go : (b : Bool) → one_of operators (c ∷ r) ≡ b → b ≡ false
    go true e = sym h ∙ not_first is_ident (unfold all_of first_not is_ident in refl) c r e
    go false e = refl

-- ---- all characters are code

unfoldable code : List ℕ → List Cell
code [] = []
code (c ∷ cs) = cell c Class.Code ∷ code cs

chars_code : (cs : List ℕ) → chars_of (code cs) ≡ cs
unfolding chars_of code
chars_code [] = refl
chars_code (c ∷ cs) = ap (λ l. c ∷ l) (chars_code cs)

-- a character that opens no string, comment or prefab, with what follows
record Clear (c : ℕ) (cs : List ℕ) : Type 0 where
  slash : eqb c 92 ≡ false
  double : eqb c 34 ≡ false
  single : eqb c 39 ≡ false
  dollar : eqb c 36 ≡ false
  line : (eqb c 47 && starts_with cs (47 ∷ [])) ≡ false
  block : (eqb c 47 && starts_with cs (42 ∷ [])) ≡ false

Clean : List ℕ → Type 0
Clean [] = Unit {0}
Clean (c ∷ cs) = Clear c cs × Clean cs

in_code_law : (c : ℕ) (cs : List ℕ) → Clear c cs → in_code (c ∷ cs) ≡ Scan.one Class.Code Mode.Code
unfolding in_code starts_with
in_code_law c cs k =
    choose_false (eqb c 92 && true) _ _ (ap (λ (b : Bool). b && true) k.slash) ∙ choose_false (eqb c 34 && true) _ _ (ap (λ (b : Bool). b && true) k.double)
    ∙ choose_false (eqb c 39 && true) _ _ (ap (λ (b : Bool). b && true) k.single) ∙ choose_false (eqb c 47 && starts_with cs (47 ∷ [])) _ _ k.line
    ∙ choose_false (eqb c 47 && starts_with cs (42 ∷ [])) _ _ k.block
    ∙ choose_false (eqb c 36 && starts_with cs (96 ∷ 96 ∷ 96 ∷ [])) _ _ (ap (λ (b : Bool). b && starts_with cs (96 ∷ 96 ∷ 96 ∷ [])) k.dollar)

scan_code : (cs : List ℕ) → Clean cs → scan (Scan.one Class.Code Mode.Code) cs ≡ code cs
unfolding scan code Clean
scan_code [] h = refl
scan_code (c ∷ cs) h =
    ap (λ m. cell c m.class ∷ scan m cs) (in_code_law c cs h.0) ∙ ap (λ l. cell c Class.Code ∷ l) (scan_code cs h.1)

classify_code : (cs : List ℕ) → Clean cs → classify Carry.Code cs ≡ code cs
unfolding classify
classify_code cs h = scan_code cs h

clear_of : (p : ℕ → Bool) (c : ℕ) (cs : List ℕ) → p c ≡ true → p 92 ≡ false → p 34 ≡ false → p 39 ≡ false → p 36 ≡ false → p 47 ≡ false → Clear c cs
clear_of p c cs h a b d e f =
    record {
      slash = unlike p c 92 h a;
      double = unlike p c 34 h b;
      single = unlike p c 39 h d;
      dollar = unlike p c 36 h e;
      line = ap (λ (x : Bool). x && starts_with cs (47 ∷ [])) (unlike p c 47 h f);
      block = ap (λ (x : Bool). x && starts_with cs (42 ∷ [])) (unlike p c 47 h f);
    }

clear_blank : (c : ℕ) (cs : List ℕ) → is_blank c ≡ true → Clear c cs
clear_blank c cs h = clear_of is_blank c cs h refl refl refl refl refl

clear_sign : (c : ℕ) (cs : List ℕ) → is_sign c ≡ true → Clear c cs
unfolding is_sign
clear_sign c cs h = clear_of is_sign c cs h refl refl refl refl refl

clear_is : (k c : ℕ) (cs : List ℕ) → eqb c k ≡ true → eqb 92 k ≡ false → eqb 34 k ≡ false → eqb 39 k ≡ false → eqb 36 k ≡ false → eqb 47 k ≡ false → Clear c cs
clear_is k c cs h a b d e f = clear_of (λ x. eqb x k) c cs h a b d e f

clear_ident : (c : ℕ) (cs : List ℕ) → is_ident c ≡ true → Clear c cs
unfolding is_ident
clear_ident c cs h = clear_of is_ident c cs h refl refl refl refl refl

next_clear : (x : ℕ) (cs : List ℕ) → CalmChar x → (starts_with (x ∷ cs) (47 ∷ []) ≡ false) × (starts_with (x ∷ cs) (42 ∷ []) ≡ false)
unfolding starts_with
next_clear x cs k = (ap (λ (b : Bool). b && true) k.slash, ap (λ (b : Bool). b && true) k.star)

-- an operator's first character, with what follows
clear_first : (a : ℕ) (r cs : List ℕ) → one_of operators (a ∷ r) ≡ true → (eqb a 47 && starts_with cs (47 ∷ [])) ≡ false → (eqb a 47 && starts_with cs (42 ∷ [])) ≡ false → Clear a cs
unfolding all_of first_not
clear_first a r cs h k l =
    record {
      slash = not_first (λ x. eqb x 92) refl a r h;
      double = not_first (λ x. eqb x 34) refl a r h;
      single = not_first (λ x. eqb x 39) refl a r h;
      dollar = not_first (λ x. eqb x 36) refl a r h;
      line = k;
      block = l;
    }

clear_second : (a c : ℕ) (cs : List ℕ) → one_of operators (a ∷ c ∷ []) ≡ true → Clear c cs
unfolding all_of pair_not
clear_second a c cs h =
    record {
      slash = not_pair (λ x y. eqb y 92) refl a c h;
      double = not_pair (λ x y. eqb y 34) refl a c h;
      single = not_pair (λ x y. eqb y 39) refl a c h;
      dollar = not_pair (λ x y. eqb y 36) refl a c h;
      line = ap (λ (x : Bool). x && starts_with cs (47 ∷ [])) (not_pair (λ x y. eqb y 47) refl a c h);
      block = ap (λ (x : Bool). x && starts_with cs (42 ∷ [])) (not_pair (λ x y. eqb y 47) refl a c h);
    }

and_second_none : (a b : Bool) → b ≡ false → (a && b) ≡ false
and_second_none a b e = ap (λ (x : Bool). a && x) e ∙ and_none a

clean : {all : List Token} {m : Stage} {d : ℕ} {ts : List Token} {cs : List ℕ} → Laid all m d ts cs → Clean cs
unfolding Clean
clean (ends e) = tt
clean (blank_due {c = c} {cs = cs} h l) = (clear_blank c cs h, clean l)
clean (sign_due {c = c} {cs = cs} h k l) = (clear_sign c cs h, clean l)
clean (open_due {c = c} {cs = cs} h l) = (clear_is 40 c cs h refl refl refl refl refl, clean l)
clean (number_due {c = c} {cs = cs} h l) = (clear_ident c cs h, clean l)
clean (name_due {c = c} {cs = cs} h l) = (clear_ident c cs h, clean l)
clean (more_number {c = c} {cs = cs} h l) = (clear_ident c cs h, clean l)
clean (more_name {c = c} {cs = cs} h l) = (clear_ident c cs h, clean l)
clean (end_number k l) = clean l
clean (end_name k l) = clean l
clean (blank_after {c = c} {cs = cs} h l) = (clear_blank c cs h, clean l)
clean (close_after {c = c} {cs = cs} h l) = (clear_is 41 c cs h refl refl refl refl refl, clean l)
clean (operator_one {a = a} {c = c} {cs = cs} n h k l) =
    let r = clean l in
    let s = next_clear c cs k in
    (clear_first a [] (c ∷ cs) h (and_second_none (eqb a 47) (starts_with (c ∷ cs) (47 ∷ [])) s.0) (and_second_none (eqb a 47) (starts_with (c ∷ cs) (42 ∷ [])) s.1), r)
clean (operator_two {a = a} {c = c} {cs = cs} h k l) =
    let z = slash_first in
    (clear_first a (c ∷ []) (c ∷ cs) h (ap (λ (x : Bool). x && starts_with (c ∷ cs) (47 ∷ [])) z) (ap (λ (x : Bool). x && starts_with (c ∷ cs) (42 ∷ [])) z), (clear_second a c cs h, clean l))
  where
    slash_first : eqb a 47 ≡ false
    slash_first = not_pair (λ x y. eqb x 47) (unfold all_of pair_not in refl) a c h

-- ---- the marks of each character

-- o brackets opened and k closed; whether an operand has ended
abbrev st : ℕ → ℕ → Bool → Ops
st o k b = record { opened = o; closed = k; operand = b; esc = false; skip = 0 }

fresh : (o k : ℕ) (b : Bool) (c : ℕ) (cs : List ℕ) → eqb c 92 ≡ false → op_step strengths (st o k b) (cell c Class.Code) (chars_of (code cs)) ≡ code_step strengths (st o k b) c cs
unfolding op_step_at fresh_step
fresh o k b c cs h =
    choose_false false _ _ refl ∙ choose_false false _ _ refl ∙ choose_false (eqb c 92) _ _ h ∙ ap (code_step strengths (st o k b) c) (chars_code cs)

marks_step : (o k : ℕ) (b : Bool) (c : ℕ) (cs : List ℕ) (x : OpStep) → eqb c 92 ≡ false → code_step strengths (st o k b) c cs ≡ x
    → marks_from strengths (st o k b) (code (c ∷ cs)) ≡ op_mark c x.strength ∷ marks_from strengths x.after (code cs)
unfolding marks_from code
marks_step o k b c cs x h e = ap (λ (y : OpStep). op_mark c y.strength ∷ marks_from strengths y.after (code cs)) (fresh o k b c cs h ∙ e)

-- a blank leaves no mark
pass_blank : (o k : ℕ) (b : Bool) (c : ℕ) (cs : List ℕ) → is_blank c ≡ true → inked (marks_from strengths (st o k b) (code (c ∷ cs))) ≡ inked (marks_from strengths (st o k b) (code cs))
pass_blank o k b c cs h =
    ap inked (marks_step o k b c cs (SO.token (st o k b) b 0) (unlike is_blank c 92 h refl) stepped) ∙ (unfold inked SO.token in choose_true (is_blank c) _ _ h)
  where
    stepped : code_step strengths (st o k b) c cs ≡ SO.token (st o k b) b 0
    stepped = unfold code_step in
        (choose_false (is ":" c && not b && not (eqb (atom_len cs) 0)) _ _ (ap (λ (x : Bool). x && not b && not (eqb (atom_len cs) 0)) (unlike is_blank c 58 h refl))
        ∙ choose_true (is_blank c) _ _ h)

-- any other character leaves one
leave : (o k : ℕ) (b : Bool) (c : ℕ) (cs : List ℕ) (x : OpStep) → eqb c 92 ≡ false → is_blank c ≡ false → code_step strengths (st o k b) c cs ≡ x
    → inked (marks_from strengths (st o k b) (code (c ∷ cs))) ≡ op_mark c x.strength ∷ inked (marks_from strengths x.after (code cs))
leave o k b c cs x h n e = ap inked (marks_step o k b c cs x h e) ∙ (unfold inked in choose_false (is_blank c) _ _ n)

-- brackets
leave_open : (o k : ℕ) (c : ℕ) (cs : List ℕ) → eqb c 40 ≡ true
    → inked (marks_from strengths (st o k false) (code (c ∷ cs))) ≡ op_mark c 0 ∷ inked (marks_from strengths (st (suc o) k false) (code cs))
leave_open o k c cs h = leave o k false c cs (SO.bracket (suc o) k false) (unlike (λ x. eqb x 40) c 92 h refl) no_blank stepped ∙ (unfold SO.bracket in refl)
  where
    no_blank : is_blank c ≡ false
    no_blank = rw (eqb-true c 40 h)

    stepped : code_step strengths (st o k false) c cs ≡ SO.bracket (suc o) k false
    stepped = rw (eqb-true c 40 h) (unfold code_step choose in refl)

leave_close : (o k : ℕ) (c : ℕ) (cs : List ℕ) → eqb c 41 ≡ true
    → inked (marks_from strengths (st o k true) (code (c ∷ cs))) ≡ op_mark c 0 ∷ inked (marks_from strengths (st o (suc k) true) (code cs))
leave_close o k c cs h = leave o k true c cs (SO.bracket o (suc k) true) (unlike (λ x. eqb x 41) c 92 h refl) no_blank stepped ∙ (unfold SO.bracket in refl)
  where
    no_blank : is_blank c ≡ false
    no_blank = rw (eqb-true c 41 h)

    stepped : code_step strengths (st o k true) c cs ≡ SO.bracket o (suc k) true
    stepped = rw (eqb-true c 41 h) (unfold code_step choose ends_operand is_ident in refl)

-- the tests of `code_step` that come before those of operators
before_tests : (b : Bool) (c : ℕ) (cs : List ℕ) (s : Ops) → s.operand ≡ b → eqb c 58 ≡ false → is_blank c ≡ false → is_opener c ≡ false → is_closer c ≡ false
    → code_step strengths s c cs ≡ choose (at (c ∷ cs) "...") (SO.token s false 2)
    (choose (at (c ∷ cs) "->" || at (c ∷ cs) "=>") (SO.token s false 1)
    (choose (eqb (length (take 2 (c ∷ cs))) 2 && one_of operators (take 2 (c ∷ cs))) (two_char_step strengths s (take 2 (c ∷ cs)) (drop 1 cs))
    (one_char_step strengths s c cs)))
unfolding code_step
before_tests b c cs s e h i j k =
    choose_false (is ":" c && not s.operand && not (eqb (atom_len cs) 0)) _ _ (ap (λ (x : Bool). x && not s.operand && not (eqb (atom_len cs) 0)) h)
    ∙ choose_false (is_blank c) _ _ i ∙ choose_false (is_opener c) _ _ j ∙ choose_false (is_closer c) _ _ k

pair_none : (c : ℕ) (cs : List ℕ) → ((x : ℕ) → one_of operators (c ∷ x ∷ []) ≡ false) → (eqb (length (take 2 (c ∷ cs))) 2 && one_of operators (take 2 (c ∷ cs))) ≡ false
pair_none c [] h = refl
pair_none c (x ∷ cs) h = h x

-- a character of a word
leave_ident : (o k : ℕ) (b : Bool) (c : ℕ) (cs : List ℕ) → is_ident c ≡ true
    → inked (marks_from strengths (st o k b) (code (c ∷ cs))) ≡ op_mark c 0 ∷ inked (marks_from strengths (st o k true) (code cs))
unfolding is_ident
leave_ident o k b c cs h = leave o k b c cs (SO.token (st o k b) true 0) (no 92 refl) (or_false (eqb c 32) (eqb c 9) (no 32 refl) (no 9 refl)) stepped ∙ (unfold SO.token in refl)
  where
    no : (x : ℕ) → is_ident x ≡ false → eqb c x ≡ false
    no x n = unlike is_ident c x h n

    openers : is_opener c ≡ false
    openers = or_false (eqb c 123 || eqb c 40) (eqb c 91) (or_false (eqb c 123) (eqb c 40) (no 123 (unfold is_ident in refl)) (no 40 (unfold is_ident in refl))) (no 91 (unfold is_ident in refl))

    closers : is_closer c ≡ false
    closers = or_false (eqb c 125 || eqb c 41) (eqb c 93) (or_false (eqb c 125) (eqb c 41) (no 125 (unfold is_ident in refl)) (no 41 (unfold is_ident in refl))) (no 93 (unfold is_ident in refl))

    ends_operand_law : ends_operand c ≡ true
    ends_operand_law = unfold ends_operand in ap (λ (x : Bool). x || is ")" c || is "]" c || is "\"" c || is "'" c) h

    stepped : code_step strengths (st o k b) c cs ≡ SO.token (st o k b) true 0
    stepped =
        before_tests b c cs (st o k b) refl (no 58 (unfold is_ident in refl)) (or_false (eqb c 32) (eqb c 9) (no 32 (unfold is_ident in refl)) (no 9 (unfold is_ident in refl))) openers closers
        ∙ (unfold starts_with one_char_step in
        (choose_false (eqb c 46 && starts_with cs (46 ∷ 46 ∷ [])) _ _ (ap (λ (x : Bool). x && starts_with cs (46 ∷ 46 ∷ [])) (no 46 (unfold is_ident in refl)))
        ∙ choose_false ((eqb c 45 && starts_with cs (62 ∷ [])) || (eqb c 61 && starts_with cs (62 ∷ []))) _ _
        (or_false (eqb c 45 && starts_with cs (62 ∷ [])) (eqb c 61 && starts_with cs (62 ∷ [])) (ap (λ (x : Bool). x && starts_with cs (62 ∷ [])) (no 45 (unfold is_ident in refl))) (ap (λ (x : Bool). x && starts_with cs (62 ∷ [])) (no 61 (unfold is_ident in refl))))
        ∙ choose_false (eqb (length (take 2 (c ∷ cs))) 2 && one_of operators (take 2 (c ∷ cs))) _ _ (pair_none c cs (λ x. ident_none c (x ∷ []) h))
        ∙ choose_true (not (one_of operators (c ∷ []))) _ _ (ap not (ident_none c [] h))
        ∙ ap (λ x. SO.token (st o k b) x 0) ends_operand_law))

-- ---- signs and operators: what follows makes no other token of them

no_greater : (cs : List ℕ) → Calm cs → starts_with cs (62 ∷ []) ≡ false
unfolding starts_with
no_greater [] h = refl
no_greater (x ∷ cs) h = ap (λ (b : Bool). b && true) h.greater

no_dot : (cs : List ℕ) → Calm cs → starts_with cs (46 ∷ []) ≡ false
unfolding starts_with
no_dot [] h = refl
no_dot (x ∷ cs) h = ap (λ (b : Bool). b && true) h.dot

no_equals : (cs : List ℕ) → Calm cs → first_is (is "=") cs ≡ false
unfolding first_is
no_equals [] h = refl
no_equals (x ∷ cs) h = h.equals

sign_operator : (c : ℕ) → is_sign c ≡ true → one_of operators (c ∷ []) ≡ true
unfolding computing
sign_operator c h = or_cases (eqb c 43) (eqb c 45) (λ e. rw (eqb-true c 43 e)) (λ e. rw (eqb-true c 45 e)) h

sign_alone : (c x : ℕ) → is_sign c ≡ true → one_of operators (c ∷ x ∷ []) ≡ false
sign_alone c x h = go (one_of operators (c ∷ x ∷ [])) refl
  where
    go : (b : Bool) → one_of operators (c ∷ x ∷ []) ≡ b → b ≡ false
    go true e = sym h ∙ not_pair (λ a y. is_sign a) (unfold all_of pair_not is_sign in refl) c x e
    go false e = refl

leave_sign : (o k : ℕ) (c : ℕ) (cs : List ℕ) → is_sign c ≡ true → Calm cs
    → inked (marks_from strengths (st o k false) (code (c ∷ cs))) ≡ op_mark c 0 ∷ inked (marks_from strengths (st o k false) (code cs))
unfolding is_sign
leave_sign o k c cs h q = leave o k false c cs (SO.token (st o k false) false 0) (no 92 refl) blank stepped ∙ (unfold SO.token in refl)
  where
    no : (x : ℕ) → is_sign x ≡ false → eqb c x ≡ false
    no x n = unlike is_sign c x h n

    blank : is_blank c ≡ false
    blank = or_false (eqb c 32) (eqb c 9) (no 32 refl) (no 9 refl)

    openers : is_opener c ≡ false
    openers = or_false (eqb c 123 || eqb c 40) (eqb c 91) (or_false (eqb c 123) (eqb c 40) (no 123 refl) (no 40 refl)) (no 91 refl)

    closers : is_closer c ≡ false
    closers = or_false (eqb c 125 || eqb c 41) (eqb c 93) (or_false (eqb c 125) (eqb c 41) (no 125 refl) (no 41 refl)) (no 93 refl)

    stepped : code_step strengths (st o k false) c cs ≡ SO.token (st o k false) false 0
    stepped =
        before_tests false c cs (st o k false) refl (no 58 refl) blank openers closers
        ∙ (unfold starts_with one_char_step in
        (choose_false (eqb c 46 && starts_with cs (46 ∷ 46 ∷ [])) _ _ (ap (λ (x : Bool). x && starts_with cs (46 ∷ 46 ∷ [])) (no 46 refl))
        ∙ choose_false ((eqb c 45 && starts_with cs (62 ∷ [])) || (eqb c 61 && starts_with cs (62 ∷ []))) _ _
        (or_false (eqb c 45 && starts_with cs (62 ∷ [])) (eqb c 61 && starts_with cs (62 ∷ [])) (and_second_none (eqb c 45) (starts_with cs (62 ∷ [])) (no_greater cs q)) (and_second_none (eqb c 61) (starts_with cs (62 ∷ [])) (no_greater cs q)))
        ∙ choose_false (eqb (length (take 2 (c ∷ cs))) 2 && one_of operators (take 2 (c ∷ cs))) _ _ (pair_none c cs (λ x. sign_alone c x h))
        ∙ choose_false (not (one_of operators (c ∷ []))) _ _ (ap not (sign_operator c h))
        ∙ choose_false (first_is (is "=") cs) _ _ (no_equals cs q)
        ∙ choose_true (is_sign c && not false) _ _ (ap (λ (x : Bool). x && true) h)))

-- what an operator's first character is not
module _ (a : ℕ) (r : List ℕ) (h : one_of operators (a ∷ r) ≡ true) where
  op_blank : is_blank a ≡ false
  op_blank = not_first is_blank (unfold all_of first_not in refl) a r h

  op_opener : is_opener a ≡ false
  op_opener = not_first is_opener (unfold all_of first_not in refl) a r h

  op_closer : is_closer a ≡ false
  op_closer = not_first is_closer (unfold all_of first_not in refl) a r h

  op_is : (k : ℕ) → all_of (first_not (λ x. eqb x k)) operators ≡ true → eqb a k ≡ false
  op_is k t = not_first (λ x. eqb x k) t a r h

same_depth : (k d : ℕ) → eqb (k + d) k ≡ eqb d 0
same_depth k zero = eq-eqb (k + 0) k (omega arith)
same_depth k (suc d) = ne_eqb (k + suc d) k (λ e. omega arith) ∙ sym (ne_eqb (suc d) 0 (λ e. omega arith))

-- the strength of an operator where d brackets are open
abbrev at_depth : ℕ → List ℕ → ℕ
at_depth d op = choose (eqb d 0) (strength_of op) 0

leave_one : (k d a c : ℕ) (cs : List ℕ) → one_of operators (a ∷ c ∷ []) ≡ false → one_of operators (a ∷ []) ≡ true → CalmChar c
    → inked (marks_from strengths (st (k + d) k true) (code (a ∷ c ∷ cs))) ≡ op_mark a (at_depth d (a ∷ [])) ∷ inked (marks_from strengths (st (k + d) k false) (code (c ∷ cs)))
leave_one k d a c cs n h q =
    leave (k + d) k true a (c ∷ cs) (SO.operator (st (k + d) k true) (strength_of (a ∷ [])) 0) (op_is a [] h 92 (unfold all_of first_not in refl)) (op_blank a [] h) stepped
    ∙ (unfold SO.operator in ap (λ (x : Bool). op_mark a (choose x (strength_of (a ∷ [])) 0) ∷ inked (marks_from strengths (st (k + d) k false) (code (c ∷ cs)))) (same_depth k d))
  where
    stepped : code_step strengths (st (k + d) k true) a (c ∷ cs) ≡ SO.operator (st (k + d) k true) (strength_of (a ∷ [])) 0
    stepped =
        before_tests true a (c ∷ cs) (st (k + d) k true) refl (op_is a [] h 58 (unfold all_of first_not in refl)) (op_blank a [] h) (op_opener a [] h) (op_closer a [] h)
        ∙ (unfold starts_with one_char_step first_is in
        (choose_false (eqb a 46 && (eqb c 46 && starts_with cs (46 ∷ []))) _ _ (and_second_none (eqb a 46) (eqb c 46 && starts_with cs (46 ∷ [])) (ap (λ (x : Bool). x && starts_with cs (46 ∷ [])) q.dot))
        ∙ choose_false ((eqb a 45 && (eqb c 62 && true)) || (eqb a 61 && (eqb c 62 && true))) _ _
        (or_false (eqb a 45 && (eqb c 62 && true)) (eqb a 61 && (eqb c 62 && true)) (and_second_none (eqb a 45) (eqb c 62 && true) (ap (λ (x : Bool). x && true) q.greater)) (and_second_none (eqb a 61) (eqb c 62 && true) (ap (λ (x : Bool). x && true) q.greater)))
        ∙ choose_false (one_of operators (a ∷ c ∷ [])) _ _ n
        ∙ choose_false (not (one_of operators (a ∷ []))) _ _ (ap not h)
        ∙ choose_false (eqb c 61) _ _ q.equals
        ∙ choose_false (is_sign a && not true) _ _ (and_none (is_sign a))))

-- the second character of an operator is passed over
skip_step : (o k c : ℕ) (cs : List ℕ) → is_blank c ≡ false
    → inked (marks_from strengths (record { opened = o; closed = k; operand = false; esc = false; skip = 1 }) (code (c ∷ cs))) ≡ op_mark c 0 ∷ inked (marks_from strengths (st o k false) (code cs))
unfolding marks_from code op_step_at SO.token inked
skip_step o k c cs n = choose_false (is_blank c) _ _ n

leave_two : (k d a c : ℕ) (cs : List ℕ) → one_of operators (a ∷ c ∷ []) ≡ true → Calm cs
    → inked (marks_from strengths (st (k + d) k true) (code (a ∷ c ∷ cs))) ≡ op_mark a (at_depth d (a ∷ c ∷ [])) ∷ op_mark c 0 ∷ inked (marks_from strengths (st (k + d) k false) (code cs))
leave_two k d a c cs h q =
    leave (k + d) k true a (c ∷ cs) (SO.operator (st (k + d) k true) (strength_of (a ∷ c ∷ [])) 1) (op_is a (c ∷ []) h 92 (unfold all_of first_not in refl)) (op_blank a (c ∷ []) h) stepped
    ∙ (unfold SO.operator in
    (ap (λ (x : Bool). op_mark a (choose x (strength_of (a ∷ c ∷ [])) 0) ∷ inked (marks_from strengths (record { opened = k + d; closed = k; operand = false; esc = false; skip = 1 }) (code (c ∷ cs)))) (same_depth k d)
    ∙ ap (λ l. op_mark a (at_depth d (a ∷ c ∷ [])) ∷ l) (skip_step (k + d) k c cs (not_pair (λ x y. is_blank y) (unfold all_of pair_not in refl) a c h))))
  where
    stepped : code_step strengths (st (k + d) k true) a (c ∷ cs) ≡ SO.operator (st (k + d) k true) (strength_of (a ∷ c ∷ [])) 1
    stepped =
        before_tests true a (c ∷ cs) (st (k + d) k true) refl (op_is a (c ∷ []) h 58 (unfold all_of first_not in refl)) (op_blank a (c ∷ []) h) (op_opener a (c ∷ []) h) (op_closer a (c ∷ []) h)
        ∙ (unfold starts_with two_char_step in
        (choose_false (eqb a 46 && (eqb c 46 && starts_with cs (46 ∷ []))) _ _ (and_second_none (eqb a 46) (eqb c 46 && starts_with cs (46 ∷ [])) (and_second_none (eqb c 46) (starts_with cs (46 ∷ [])) (no_dot cs q)))
        ∙ choose_false ((eqb a 45 && (eqb c 62 && true)) || (eqb a 61 && (eqb c 62 && true))) _ _
        (not_pair (λ x y. (eqb x 45 && (eqb y 62 && true)) || (eqb x 61 && (eqb y 62 && true))) (unfold all_of pair_not in refl) a c h)
        ∙ choose_true (one_of operators (a ∷ c ∷ [])) _ _ h
        ∙ choose_false ((same (a ∷ c ∷ []) (codes "<<") || same (a ∷ c ∷ []) (codes ">>")) && first_is (is "=") cs) _ _
        (and_second_none (same (a ∷ c ∷ []) (codes "<<") || same (a ∷ c ∷ []) (codes ">>")) (first_is (is "=") cs) (no_equals cs q))))

-- ---- the marks of the whole source

abbrev pend : Stage → List ℕ
pend due = []
pend (in_name w) = w
pend (in_number w) = w
pend after = []
pend (in_operator a) = []

abbrev operand_at : Stage → Bool
operand_at due = false
operand_at (in_name w) = true
operand_at (in_number w) = true
operand_at after = true
operand_at (in_operator a) = true

abbrev Marked : List Token → Stage → ℕ → List Token → List ℕ → ℕ → Type 0
Marked all m d ts cs k = marks_of all ≡ (marks_back ts ++ plain_marks (pend m)) ++ inked (marks_from strengths (st (k + d) k (operand_at m)) (code cs))

plain_more : (w : List ℕ) (c : ℕ) → plain_marks (w ++ c ∷ []) ≡ plain_marks w ++ op_mark c 0 ∷ []
unfolding plain_marks
plain_more [] c = refl
plain_more (x ∷ w) c = ap (λ l. op_mark x 0 ∷ l) (plain_more w c)

shift : (a b i : List OpMark) → ((a ++ b) ++ []) ++ i ≡ (a ++ []) ++ (b ++ i)
shift a b i = ap (λ l. l ++ i) (append-nil (a ++ b)) ∙ append_assoc a b i ∙ ap (λ l. l ++ (b ++ i)) (sym (append-nil a))

-- marks b come next, and are those of the new tokens
emit : (all : List Token) (a b i j : List OpMark) → marks_of all ≡ ((a ++ b) ++ []) ++ i → j ≡ b ++ i → marks_of all ≡ (a ++ []) ++ j
emit all a b i j e f = e ∙ shift a b i ∙ ap (λ l. (a ++ []) ++ l) (sym f)

emit_word : (all : List Token) (a : List OpMark) (w : List ℕ) (c : ℕ) (i j : List OpMark) → marks_of all ≡ (a ++ plain_marks (w ++ c ∷ [])) ++ i → j ≡ op_mark c 0 ∷ i
    → marks_of all ≡ (a ++ plain_marks w) ++ j
emit_word all a w c i j e f =
    e ∙ ap (λ l. (a ++ l) ++ i) (plain_more w c) ∙ ap (λ l. l ++ i) (sym (append_assoc a (plain_marks w) (op_mark c 0 ∷ [])))
    ∙ append_assoc (a ++ plain_marks w) (op_mark c 0 ∷ []) i ∙ ap (λ l. (a ++ plain_marks w) ++ l) (sym f)

one_more : (k d : ℕ) → suc (k + d) ≡ k + suc d
one_more k d = omega arith

one_less : (k d : ℕ) → suc (k + d) ≡ suc k + d
one_less k d = omega arith

marked : {all : List Token} {m : Stage} {d : ℕ} {ts : List Token} {cs : List ℕ} → Laid all m d ts cs → (k : ℕ) → depth_of ts ≡ d → Marked all m d ts cs k
unfolding marks_back depth_of plain_marks operator_marks
marked {all} (ends {ts = ts} e) k n =
    ap marks_of e ∙ ap marks_back (reverse-reverse ts) ∙ sym (append-nil (marks_back ts)) ∙ sym (append-nil (marks_back ts ++ [])) ∙ ap (λ l. (marks_back ts ++ []) ++ l) (unfold inked marks_from code in refl)
marked {all} (blank_due {d = d} {c = c} {ts = ts} {cs = cs} h l) k n = marked l k n ∙ ap (λ x. (marks_back ts ++ []) ++ x) (sym (pass_blank (k + d) k false c cs h))
marked {all} (sign_due {d = d} {c = c} {ts = ts} {cs = cs} h q l) k n =
    emit all (marks_back ts) (op_mark c 0 ∷ []) _ _ (marked l k n) (leave_sign (k + d) k c cs h q)
marked {all} (open_due {d = d} {c = c} {ts = ts} {cs = cs} h l) k n =
    emit all (marks_back ts) (op_mark 40 0 ∷ []) _ _ (marked l k (ap suc n))
    (leave_open (k + d) k c cs h ∙ ap (λ x. op_mark x 0 ∷ inked (marks_from strengths (st (suc (k + d)) k false) (code cs))) (eqb-true c 40 h)
    ∙ ap (λ o. op_mark 40 0 ∷ inked (marks_from strengths (st o k false) (code cs))) (one_more k d))
marked {all} (number_due {d = d} {c = c} {ts = ts} {cs = cs} h l) k n = emit_word all (marks_back ts) [] c _ _ (marked l k n) (leave_ident (k + d) k false c cs h)
marked {all} (name_due {d = d} {c = c} {ts = ts} {cs = cs} h l) k n = emit_word all (marks_back ts) [] c _ _ (marked l k n) (leave_ident (k + d) k false c cs h)
marked {all} (more_number {d = d} {c = c} {w = w} {ts = ts} {cs = cs} h l) k n = emit_word all (marks_back ts) w c _ _ (marked l k n) (leave_ident (k + d) k true c cs h)
marked {all} (more_name {d = d} {c = c} {w = w} {ts = ts} {cs = cs} h l) k n = emit_word all (marks_back ts) w c _ _ (marked l k n) (leave_ident (k + d) k true c cs h)
marked {all} (end_number {d = d} {w = w} {ts = ts} {cs = cs} q l) k n = marked l k n ∙ ap (λ x. x ++ inked (marks_from strengths (st (k + d) k true) (code cs))) (append-nil (marks_back ts ++ plain_marks w))
marked {all} (end_name {d = d} {w = w} {ts = ts} {cs = cs} q l) k n = marked l k n ∙ ap (λ x. x ++ inked (marks_from strengths (st (k + d) k true) (code cs))) (append-nil (marks_back ts ++ plain_marks w))
marked {all} (blank_after {d = d} {c = c} {ts = ts} {cs = cs} h l) k n = marked l k n ∙ ap (λ x. (marks_back ts ++ []) ++ x) (sym (pass_blank (k + d) k true c cs h))
marked {all} (close_after {d = d} {c = c} {ts = ts} {cs = cs} h l) k n =
    emit all (marks_back ts) (op_mark 41 0 ∷ []) _ _ (marked l (suc k) (omega arith))
    (leave_close (k + suc d) k c cs h ∙ ap (λ x. op_mark x 0 ∷ inked (marks_from strengths (st (k + suc d) (suc k) true) (code cs))) (eqb-true c 41 h)
    ∙ ap (λ o. op_mark 41 0 ∷ inked (marks_from strengths (st o (suc k) true) (code cs))) (sym (one_more k d) ∙ one_less k d))
marked {all} (operator_one {d = d} {a = a} {c = c} {ts = ts} {cs = cs} q h s l) k n =
    emit all (marks_back ts) (op_mark a (at_depth (depth_of ts) (a ∷ [])) ∷ []) _ _ (marked l k n)
    (leave_one k d a c cs q h s ∙ ap (λ x. op_mark a (at_depth x (a ∷ [])) ∷ inked (marks_from strengths (st (k + d) k false) (code (c ∷ cs)))) (sym n))
marked {all} (operator_two {d = d} {a = a} {c = c} {ts = ts} {cs = cs} h q l) k n =
    emit all (marks_back ts) (op_mark a (at_depth (depth_of ts) (a ∷ c ∷ [])) ∷ op_mark c 0 ∷ []) _ _ (marked l k n)
    (leave_two k d a c cs h q ∙ ap (λ x. op_mark a (at_depth x (a ∷ c ∷ [])) ∷ op_mark c 0 ∷ inked (marks_from strengths (st (k + d) k false) (code cs))) (sym n))

-- ---- no keyword stands in the source

word_off : (c : ℕ) (cs v : List ℕ) → is_ident c ≡ false → one_of keywords (reverse v) ≡ false → has_word_from keywords v (code (c ∷ cs)) ≡ has_word_from keywords [] (code cs)
unfolding has_word_from code word_on
word_off c cs v h k =
    ap (λ (b : Bool). (not (is_ident c) && b) || has_word_from keywords (choose (is_ident c) (c ∷ v) []) (code cs)) k
    ∙ ap (λ (b : Bool). b || has_word_from keywords (choose (is_ident c) (c ∷ v) []) (code cs)) (and_none (not (is_ident c)))
    ∙ ap (λ l. has_word_from keywords l (code cs)) (choose_false (is_ident c) _ _ h)

word_on_law : (c : ℕ) (cs v : List ℕ) → is_ident c ≡ true → has_word_from keywords v (code (c ∷ cs)) ≡ has_word_from keywords (c ∷ v) (code cs)
unfolding has_word_from code word_on
word_on_law c cs v h =
    ap (λ (b : Bool). (not b && one_of keywords (reverse v)) || has_word_from keywords (choose (is_ident c) (c ∷ v) []) (code cs)) h
    ∙ ap (λ l. has_word_from keywords l (code cs)) (choose_true (is_ident c) _ _ h)

abbrev WordAt : Stage → List ℕ → Type 0
WordAt due v = v ≡ []
WordAt (in_name w) v = reverse v ≡ w
WordAt (in_number w) v = reverse v ≡ w
WordAt after v = one_of keywords (reverse v) ≡ false
WordAt (in_operator a) v = Unit {0}

no_word : one_of keywords (reverse []) ≡ false
unfolding one_of same
no_word = refl

apart : (p q : ℕ → Bool) (x y c : ℕ) → p c ≡ true → ((c : ℕ) → p c ≡ true → (eqb c x || eqb c y) ≡ true) → q x ≡ false → q y ≡ false → q c ≡ false
apart p q x y c h f a b = or_cases (eqb c x) (eqb c y) (λ e. ap q (eqb-true c x e) ∙ a) (λ e. ap q (eqb-true c y e) ∙ b) (f c h)

blank_word : (c : ℕ) → is_blank c ≡ true → is_ident c ≡ false
unfolding is_ident
blank_word c h = apart is_blank is_ident 32 9 c h (λ c k. k) refl refl

sign_word : (c : ℕ) → is_sign c ≡ true → is_ident c ≡ false
unfolding is_ident is_sign
sign_word c h = apart is_sign is_ident 43 45 c h (λ c k. k) refl refl

is_word : (k c : ℕ) → eqb c k ≡ true → is_ident k ≡ false → is_ident c ≡ false
is_word k c h e = ap is_ident (eqb-true c k h) ∙ e

due_word : (c : ℕ) (cs v : List ℕ) → is_ident c ≡ false → v ≡ [] → has_word_from keywords v (code (c ∷ cs)) ≡ has_word_from keywords [] (code cs)
due_word c cs v h e = word_off c cs v h (ap (λ l. one_of keywords (reverse l)) e ∙ no_word)

grown : (c : ℕ) (v w : List ℕ) → reverse v ≡ w → reverse (c ∷ v) ≡ w ++ c ∷ []
grown c v w e = reverse-cons c v ∙ ap (λ l. l ++ c ∷ []) e

free : {all : List Token} {m : Stage} {d : ℕ} {ts : List Token} {cs : List ℕ} → Laid all m d ts cs → (v : List ℕ) → WordAt m v → has_word_from keywords v (code cs) ≡ false
free (ends e) v k = unfold has_word_from code in k
free (blank_due {c = c} {cs = cs} h l) v k = due_word c cs v (blank_word c h) k ∙ free l [] refl
free (sign_due {c = c} {cs = cs} h q l) v k = due_word c cs v (sign_word c h) k ∙ free l [] refl
free (open_due {c = c} {cs = cs} h l) v k = due_word c cs v (is_word 40 c h (unfold is_ident in refl)) k ∙ free l [] refl
free (number_due {c = c} {cs = cs} h l) v k = word_on_law c cs v h ∙ free l (c ∷ v) (ap (λ u. reverse (c ∷ u)) k)
free (name_due {c = c} {cs = cs} h l) v k = word_on_law c cs v h ∙ free l (c ∷ v) (ap (λ u. reverse (c ∷ u)) k)
free (more_number {c = c} {w = w} {cs = cs} h l) v k = word_on_law c cs v h ∙ free l (c ∷ v) (grown c v w k)
free (more_name {c = c} {w = w} {cs = cs} h l) v k = word_on_law c cs v h ∙ free l (c ∷ v) (grown c v w k)
free (end_number {w = w} q l) v k = free l v (ap (one_of keywords) k ∙ q)
free (end_name {w = w} q l) v k = free l v (ap (one_of keywords) k ∙ q)
free (blank_after {c = c} {cs = cs} h l) v k = word_off c cs v (blank_word c h) k ∙ free l [] no_word
free (close_after {c = c} {cs = cs} h l) v k = word_off c cs v (is_word 41 c h (unfold is_ident in refl)) k ∙ free l [] no_word
free (operator_one {a = a} {c = c} {cs = cs} q h s l) v k =
    word_off a (c ∷ cs) v (not_first is_ident (unfold all_of first_not is_ident in refl) a [] h) k ∙ free l [] refl
free (operator_two {a = a} {c = c} {cs = cs} h q l) v k =
    word_off a (c ∷ cs) v (not_first is_ident (unfold all_of first_not is_ident in refl) a (c ∷ []) h) k
    ∙ word_off c cs [] (not_pair (λ x y. is_ident y) (unfold all_of pair_not is_ident in refl) a c h) no_word ∙ free l [] refl

-- ---- its brackets are balanced

still : (d c : ℕ) → is_opener c ≡ false → is_closer c ≡ false → balance_step (some d) (cell c Class.Code) ≡ some d
unfolding balance_step
still d c h k = choose_false false _ _ refl ∙ choose_false (is_opener c) _ _ h ∙ choose_false (is_closer c) _ _ k

ident_still : (d c : ℕ) → is_ident c ≡ true → balance_step (some d) (cell c Class.Code) ≡ some d
unfolding is_ident
ident_still d c h = still d c
    (or_false (eqb c 123 || eqb c 40) (eqb c 91) (or_false (eqb c 123) (eqb c 40) (unlike is_ident c 123 h refl) (unlike is_ident c 40 h refl)) (unlike is_ident c 91 h refl))
    (or_false (eqb c 125 || eqb c 41) (eqb c 93) (or_false (eqb c 125) (eqb c 41) (unlike is_ident c 125 h refl) (unlike is_ident c 41 h refl)) (unlike is_ident c 93 h refl))

blank_still : (d c : ℕ) → is_blank c ≡ true → balance_step (some d) (cell c Class.Code) ≡ some d
blank_still d c h = still d c (apart is_blank is_opener 32 9 c h (λ c k. k) refl refl) (apart is_blank is_closer 32 9 c h (λ c k. k) refl refl)

sign_still : (d c : ℕ) → is_sign c ≡ true → balance_step (some d) (cell c Class.Code) ≡ some d
unfolding is_sign
sign_still d c h = still d c (apart is_sign is_opener 43 45 c h (λ c k. k) refl refl) (apart is_sign is_closer 43 45 c h (λ c k. k) refl refl)

open_deeper : (d c : ℕ) → eqb c 40 ≡ true → balance_step (some d) (cell c Class.Code) ≡ some (suc d)
unfolding balance_step deeper choose
open_deeper d c h = rw (eqb-true c 40 h)

close_shallower : (d c : ℕ) → eqb c 41 ≡ true → balance_step (some (suc d)) (cell c Class.Code) ≡ some d
unfolding balance_step shallower choose
close_shallower d c h = rw (eqb-true c 41 h)

second_still : (d a c : ℕ) → one_of operators (a ∷ c ∷ []) ≡ true → balance_step (some d) (cell c Class.Code) ≡ some d
unfolding all_of pair_not
second_still d a c h = still d c (not_pair (λ x y. is_opener y) refl a c h) (not_pair (λ x y. is_closer y) refl a c h)

from : (s : Option ℕ) (t : Option ℕ) (cs : List ℕ) → s ≡ t → foldl balance_step t (code cs) ≡ some 0 → foldl balance_step s (code cs) ≡ some 0
from s t cs e k = ap (λ x. foldl balance_step x (code cs)) e ∙ k

balanced : {all : List Token} {m : Stage} {d : ℕ} {ts : List Token} {cs : List ℕ} → Laid all m d ts cs → foldl balance_step (some d) (code cs) ≡ some 0
unfolding code
balanced (ends e) = refl
balanced (blank_due {d = d} {c = c} {cs = cs} h l) = from _ _ cs (blank_still d c h) (balanced l)
balanced (sign_due {d = d} {c = c} {cs = cs} h q l) = from _ _ cs (sign_still d c h) (balanced l)
balanced (open_due {d = d} {c = c} {cs = cs} h l) = from _ _ cs (open_deeper d c h) (balanced l)
balanced (number_due {d = d} {c = c} {cs = cs} h l) = from _ _ cs (ident_still d c h) (balanced l)
balanced (name_due {d = d} {c = c} {cs = cs} h l) = from _ _ cs (ident_still d c h) (balanced l)
balanced (more_number {d = d} {c = c} {cs = cs} h l) = from _ _ cs (ident_still d c h) (balanced l)
balanced (more_name {d = d} {c = c} {cs = cs} h l) = from _ _ cs (ident_still d c h) (balanced l)
balanced (end_number q l) = balanced l
balanced (end_name q l) = balanced l
balanced (blank_after {d = d} {c = c} {cs = cs} h l) = from _ _ cs (blank_still d c h) (balanced l)
balanced (close_after {d = d} {c = c} {cs = cs} h l) = from _ _ cs (close_shallower d c h) (balanced l)
balanced (operator_one {d = d} {a = a} {c = c} {cs = cs} q h s l) = from _ _ (c ∷ cs) (still d a (op_opener a [] h) (op_closer a [] h)) (balanced l)
balanced (operator_two {d = d} {a = a} {c = c} {cs = cs} h q l) =
    from _ _ (c ∷ cs) (still d a (op_opener a (c ∷ []) h) (op_closer a (c ∷ []) h)) (from _ _ cs (second_still d a c h) (balanced l))

-- ---- blanks are no operators, so that the loosest strength is that of the tokens

blank_none : (s : Ops) (c : ℕ) (cs : List ℕ) → is_blank c ≡ true → (n : ℕ) → (op_step_at n strengths s (cell c Class.Code) cs).strength ≡ 0
unfolding op_step_at fresh_step SO.token SO.escape
blank_none s c cs h zero =
    choose_case (λ (x : OpStep). x.strength ≡ 0) (λ _. refl)
    (λ _. choose_case (λ (x : OpStep). x.strength ≡ 0) (λ _. refl)
    (λ _. choose_case (λ (x : OpStep). x.strength ≡ 0) (λ _. refl)
    (λ _. unfold code_step in choose_case (λ (x : OpStep). x.strength ≡ 0) (λ _. refl)
    (λ _. ap (λ (x : OpStep). x.strength) (choose_true (is_blank c) _ _ h)))))
blank_none s c cs h (suc n) = refl

mark_loosest : (x : OpMark) (ms : List OpMark) → (is_blank x.ch ≡ true → x.strength ≡ 0) → loosest (inked ms) ≡ loosest ms → loosest (inked (x ∷ ms)) ≡ loosest (x ∷ ms)
unfolding inked loosest looser
mark_loosest x ms f r =
    choose_case (λ (l : List OpMark). loosest l ≡ looser x.strength (loosest ms))
    (λ h. r ∙ sym (ap (λ n. looser n (loosest ms)) (f h))) (λ _. ap (looser x.strength) r)

loosest_inked : (cs : List ℕ) (s : Ops) → loosest (inked (marks_from strengths s (code cs))) ≡ loosest (marks_from strengths s (code cs))
unfolding marks_from code
loosest_inked [] s = unfold inked in refl
loosest_inked (c ∷ cs) s =
    mark_loosest (op_mark c (op_step strengths s (cell c Class.Code) (chars_of (code cs))).strength) (marks_from strengths (op_step strengths s (cell c Class.Code) (chars_of (code cs))).after (code cs))
    (λ h. blank_none s c (chars_of (code cs)) h s.skip) (loosest_inked cs (op_step strengths s (cell c Class.Code) (chars_of (code cs))).after)

pub splits_alike : (limit : ℕ) (source : List ℕ) (ts : List Token) → reading_to limit source ≡ read ts → SplitsAlike source ts
unfolding top_level_ops split_once has_word is_balanced marks_back depth_of plain_marks
splits_alike limit source ts e = go (laid limit source ts e)
  where
    go : Laid ts due 0 [] source → SplitsAlike source ts
    go l =
        let c : classify Carry.Code source ≡ code source = classify_code source (clean l) in
        let m : marks_of ts ≡ inked (marks_from strengths no_ops (code source)) = marked l 0 refl in
        let p : loosest (marks_from strengths no_ops (code source)) ≡ loosest (marks_of ts) = sym (loosest_inked source no_ops) ∙ ap loosest (sym m) in
        record {
          operators = ap (λ (x : List Cell). inked (top_level_ops strengths x)) c ∙ sym m;
          breaks = ap (split_once strengths) c ∙ choose_false (has_word keywords (code source)) _ _ (free l [] refl)
              ∙ choose_false (not (is_balanced (code source))) _ _ (ap (λ (x : Option ℕ). not (is_zero x)) (balanced l))
              ∙ ap (λ n. break_at n (top_level_ops strengths (code source))) p
              ∙ ap (λ (x : List Cell). break_at (loosest (marks_of ts)) (top_level_ops strengths x)) (sym c);
        }

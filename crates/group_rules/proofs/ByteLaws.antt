-- A source's bytes are read as its characters are: no character from 80 hex on stands in an expression. And its text is
-- ASCII.
use Prim.Native.Nat.{ℕ, suc, ◌≤◌, ◌<◌}
use mathlib.Core.Bool.{Bool, true, false}
use mathlib.Core.List.{List, [], ◌∷◌, ◌++◌, map}
use mathlib.Core.Path.{◌≡◌, refl, ap, sym, ◌∙◌}
use native.Mathlib.Omega.{arith}
use lib.Dec.{eqb}
use borrow.Author.Tests as Tests
use lib.ListN.{take}
use Rattle.utf8.specs.Unicode.{encode_char, encode, decode, WellFormed}
use Rattle.utf8.proofs.Table.{Bytes, bytes}
use Rattle.utf8.proofs.Table as Tab
use Rattle.utf8.proofs.Decode.{Ascii, ascii_append, encode_ascii, encode_cons, encode_nil}
use Rattle.rules.specs.Basics.{choose, one_of, is_blank, is_ident}
use Rattle.rules.specs.Operators.{operators}
use Rattle.rules.specs.SplitOperation.{is_sign, keywords}
use Rattle.rules.proofs.Choose.{choose_false, choose_case}
use Rattle.rules.proofs.StartsBytes.{on_decode}
use Rattle.group_rules.specs.declared.Fault.{Fault}
use Rattle.group_rules.specs.Expression.{max_depth, Token, word, operator, closer, Stage, due, in_name, in_number, after, in_operator, State, state, Step, next, refused, is_digit, starts_operator, due_step, after_step, stage_step, step, Reading, refused_at, on_step, read_from, reading_to, reading}
use Rattle.group_rules.specs.Grouping.{Tree, operand, signed, bracketed, operation, written}
use Rattle.group_rules.proofs.TableLaws.{or_cases, all_of}
use Rattle.group_rules.proofs.SpelledLaws.{AllSpelled, SpelledToken, IsOperator, one, two, low_bytes, one_low, digit_low, ident_low, sign_low, word_ascii, operator_ascii, spelled_first, spelled_second}
use Rattle.group_rules.proofs.TokenLaws.{tokens_of}

-- ---- a character from 80 hex on is refused everywhere

not_true : (b : Bool) → (b ≡ true → ⊥) → b ≡ false
not_true true h = absurd (h refl)
not_true false h = refl

module _ (c : ℕ) (h : 128 ≤ c) where
  no_blank : is_blank c ≡ false
  no_blank = not_true (is_blank c) (λ e. or_cases (eqb c 32) (eqb c 9) (no_is 32 (omega arith)) (no_is 9 (omega arith)) e)
    where
      no_is : (k : ℕ) → k < 128 → eqb c k ≡ true → ⊥
      no_is k l e = let m = Tests.eqb-true c k e in omega arith

  no_one : (k : ℕ) → k < 128 → eqb c k ≡ false
  no_one k l = not_true (eqb c k) (λ e. let m = Tests.eqb-true c k e in omega arith)

  no_sign : is_sign c ≡ false
  no_sign = not_true (is_sign c) (λ e. let m = sign_low c e in omega arith)

  no_digit_law : is_digit c ≡ false
  no_digit_law = not_true (is_digit c) (λ e. let m = digit_low c e in omega arith)

  no_ident : is_ident c ≡ false
  no_ident = not_true (is_ident c) (λ e. let m = ident_low c e in omega arith)

  no_start : starts_operator c ≡ false
  unfolding starts_operator
  no_start =
      not_true (one_of (map (take 1) operators) (c ∷ []))
      (λ e. let m = (one_low (map (take 1) operators) (c ∷ []) (unfold all_of low_bytes in refl) e).0 in omega arith)

  no_second : (a : ℕ) → one_of operators (a ∷ c ∷ []) ≡ false
  no_second a = not_true (one_of operators (a ∷ c ∷ [])) (λ e. let m = (operator_ascii (a ∷ c ∷ []) e).1.0 in omega arith)

  high_due : (limit d : ℕ) (ts : List Token) → due_step limit d ts c ≡ refused Fault.NoExpression
  unfolding due_step
  high_due limit d ts =
      choose_false (is_blank c) _ _ no_blank ∙ choose_false (is_sign c) _ _ no_sign ∙ choose_false (eqb c 40) _ _ (no_one 40 (omega arith))
      ∙ choose_false (is_digit c) _ _ no_digit_law ∙ choose_false (is_ident c) _ _ no_ident

  high_after : (d : ℕ) (ts : List Token) → after_step d ts c ≡ refused Fault.NoExpression
  unfolding after_step
  high_after d ts =
      choose_false (is_blank c) _ _ no_blank ∙ choose_false (eqb c 41) _ _ (no_one 41 (omega arith)) ∙ choose_false (starts_operator c) _ _ no_start

  same_both : (b : Bool) (x y : Step) → x ≡ refused Fault.NoExpression → y ≡ refused Fault.NoExpression → choose b x y ≡ refused Fault.NoExpression
  same_both b x y e f = choose_case (λ z. z ≡ refused Fault.NoExpression) (λ _. e) (λ _. f)

  high : (limit : ℕ) (m : Stage) (d : ℕ) (ts : List Token) → stage_step limit m d ts c ≡ refused Fault.NoExpression
  unfolding stage_step
  high limit due d ts = high_due limit d ts
  high limit (in_name w) d ts =
      choose_false (is_ident c) _ _ no_ident ∙ same_both (one_of keywords w) (refused Fault.NoExpression) (after_step d (word w ∷ ts) c) refl (high_after d (word w ∷ ts))
  high limit (in_number w) d ts = choose_false (is_digit c) _ _ no_digit_law ∙ high_after d (word w ∷ ts)
  high limit after d ts = high_after d ts
  high limit (in_operator a) d ts =
      choose_false (one_of operators (a ∷ c ∷ [])) _ _ (no_second a)
      ∙ same_both (one_of operators (a ∷ [])) (due_step limit d (operator (a ∷ []) ∷ ts) c) (refused Fault.NoExpression) (high_due limit d (operator (a ∷ []) ∷ ts)) refl

  high_read : (limit i : ℕ) (s : State) (cs : List ℕ) → read_from limit i s (c ∷ cs) ≡ refused_at Fault.NoExpression i
  unfolding read_from on_step
  high_read limit i s cs = ap (λ (x : Step). on_step i x (λ (t : State). read_from limit (suc i) t cs)) (high limit s.stage s.depth s.tokens)

-- ---- so the bytes are read as the characters

on_both : (i : ℕ) (st : Step) (f g : State → Reading) → ((t : State) → f t ≡ g t) → on_step i st f ≡ on_step i st g
unfolding on_step
on_both i (next t) f g h = h t
on_both i (refused n) f g h = refl

read_char : (limit i : ℕ) (s : State) (c : ℕ) (bs cs : List ℕ) (x : List ℕ) → Bytes c bs → ((t : State) → read_from limit (suc i) t x ≡ read_from limit (suc i) t cs)
    → read_from limit i s (bs ++ x) ≡ read_from limit i s (c ∷ cs)
read_char limit i s c bs cs x (Tab.Bytes.single h) k = unfold read_from in on_both i (step limit s c) (λ t. read_from limit (suc i) t x) (λ t. read_from limit (suc i) t cs) k
read_char limit i s c bs cs x (Tab.Bytes.several {b = b} {bs = r} h l m) k = high_read b l limit i s (r ++ x) ∙ sym (high_read c h limit i s cs)

read_encode : (limit : ℕ) (cs : List ℕ) (i : ℕ) (s : State) → read_from limit i s (encode cs) ≡ read_from limit i s cs
read_encode limit [] i s = ap (read_from limit i s) encode_nil
read_encode limit (c ∷ cs) i s =
    ap (read_from limit i s) (encode_cons c cs) ∙ read_char limit i s c (encode_char c) cs (encode cs) (bytes c) (λ t. read_encode limit cs (suc i) t)

pub reading_bytes : (s : List ℕ) → WellFormed s → reading s ≡ reading (decode s)
unfolding reading_to
reading_bytes s w = on_decode reading reading (λ cs. read_encode max_depth cs 0 (state due 0 [])) s w

-- ---- the text is ASCII

pub written_ascii : (e : Tree) → AllSpelled (tokens_of e) → Ascii (written e)
unfolding written tokens_of AllSpelled SpelledToken
written_ascii (operand w) h = word_ascii h.0
written_ascii (signed c e) h = (sign_low c h.0, written_ascii e h.1)
written_ascii (bracketed e) h = written_ascii e (spelled_first (tokens_of e) (closer ∷ []) h.1)
written_ascii (operation op l r) h =
    let k = spelled_second (tokens_of l) (operator op ∷ tokens_of r) h in (
      omega arith,
      ascii_append (written l) _ (written_ascii l (spelled_first (tokens_of l) (operator op ∷ tokens_of r) h))
          (omega arith, ascii_append op _ (op_ascii k.0) (omega arith, ascii_append (written r) _ (written_ascii r k.1) (omega arith, tt))),
    )
  where
    op_ascii : {w : List ℕ} → IsOperator w → Ascii w
    op_ascii (one a e) = operator_ascii (a ∷ []) e
    op_ascii (two a c e) = operator_ascii (a ∷ c ∷ []) e

pub text_encode : (e : Tree) → AllSpelled (tokens_of e) → encode (written e) ≡ written e
text_encode e h = encode_ascii (written e) (written_ascii e h)

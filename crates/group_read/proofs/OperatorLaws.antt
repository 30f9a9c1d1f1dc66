-- Laws of the operators: their strengths, and the codes that they get.
use Prim.Native.Nat.{ℕ, zero, suc, ◌+◌, ◌≤◌, ◌<◌}
use mathlib.Core.Bool.{Bool, true, false, not, ◌||◌}
use mathlib.Core.List.{List, [], ◌∷◌, ◌++◌, reverse, append-nil}
use mathlib.Core.Path.{◌≡◌, refl, ap, sym, ◌∙◌, subst}
use native.Mathlib.Omega.{arith}
use lib.ListN.{length, take, get_or, length-drop, length-take, length-append}
use lib.Seq.{length-take-le}
use borrow.Rule.Slice.PartMut.{put_mid}
use Rattle.std.proofs.lemmas.Slice.{take-put_mid, drop-put_mid}
use lib.Dec.{eqb}
use borrow.Author.Tests.{ne_eqb, eq-eqb}
use Rattle.std.specs.Prelude.{Ok, Err}
use Rattle.std.specs.Option.{ok_or}
use Rattle.std.specs.Bool.{then_some}
use Rattle.rules.specs.Basics.{choose, same, one_of}
use Rattle.rules.specs.Operators.{operators, strengths, index_in}
use Rattle.rules.specs.Strengths.{strengths_in, built_in}
use Rattle.rules.proofs.OperatorReadings.{built_in_read}
use Rattle.rules.specs.SplitOperation.{precedence}
use Rattle.rules.proofs.Choose.{choose_true, choose_false}
use Rattle.group_rules.specs.Expression.{max_depth, Token, operator, in_operator, stage_step}
use Rattle.group_rules.specs.Grouping.{strength_of}
use Rattle.group_rules.specs.Passes.{coded}
use Rattle.group_rules.proofs.PlainLaws.{operator_plain}
use Rattle.group_read.specs.Read.{Next, onward, StepIs, DueRoom, DueSteps, Written, OperatorRoom, OperatorSteps}
use Rattle.group_read.specs.declared.Phase.TheVariants.{Due}
use Rattle.group_rules.specs.declared.Fault.{Fault}
use Rattle.group_read.proofs.FirstLaws.{by_equal}
use Rattle.std.specs.Prelude.{Option, Some, None}
use Rattle.group_read.specs.Strength.{Positive}
use Rattle.group_read.proofs.ReadLaws.{coded_more, went, stopped}

-- ---- the strengths

pub strength_of_law : (w : List ℕ) (k s : ℕ) → k ≡ index_in operators w → s ≡ get_or strengths k 0 → s ≡ strength_of w
unfolding precedence
strength_of_law w k s e h = h ∙ ap (λ n. get_or strengths n 0) e

pub built_read : (k r : ℕ) → r ≡ get_or (strengths_in built_in) k 0 → r ≡ get_or strengths k 0
built_read k r e = e ∙ ap (λ l. get_or l k 0) built_in_read

-- the table has no strength past the last operator
pub past_table : (k : ℕ) → 21 ≤ k → 0 ≡ get_or strengths k 0
past_table k h = sym (past strengths k h)
  where
    past : (l : List ℕ) (k : ℕ) → length l ≤ k → get_or l k 0 ≡ 0
    past [] k h = refl
    past (x ∷ l) zero h = absurd (omega arith)
    past (x ∷ l) (suc k) h = past l k (omega arith)

pub positive_some : (n s : ℕ) → s ≡ n → (s ≡ 0 → ⊥) → Positive n (Some s)
positive_some n s e h =
    record {
      some = λ t d. let y : s ≡ t = cc in subst (λ x. (x ≡ n) × (0 < x)) y (e, omega arith);
      none = λ d. absurd (cc);
    }

pub positive_none : (n : ℕ) → 0 ≡ n → Positive n None
positive_none n e = record { some = λ t d. absurd (cc); none = λ d. sym e }

pub positive_then : (n s : ℕ) → s ≡ n → (r : Option ℕ) → r ≡ then_some (not (eqb s 0)) s → Positive n r
positive_then n s e r f =
    by_equal s 0
    (λ (z : s ≡ 0). let g : r ≡ None = rw (eq-eqb s 0 z) at f in subst (Positive n) (sym g) (positive_none n (sym z ∙ e)))
    (λ (z : s ≡ 0 → ⊥). let g : r ≡ Some s = rw (ne_eqb s 0 z) at f in subst (Positive n) (sym g) (positive_some n s e z))

-- what `ok_or` makes of a strength, or of none
pub strength_err : (o : Option ℕ) (f e : Fault) → ok_or o f ≡ Err e → (o ≡ None) × (e ≡ f)
strength_err None f e h = (refl, cc)
strength_err (Some s) f e h = absurd (cc)

pub strength_ok : (o : Option ℕ) (f : Fault) (s : ℕ) → ok_or o f ≡ Ok s → o ≡ Some s
strength_ok None f s h = absurd (cc)
strength_ok (Some t) f s h = cc

pub strength_found : (w : List ℕ) (k : ℕ) (r : Option ℕ) → k ≡ index_in operators w → Positive (get_or strengths k 0) r
    → Positive (strength_of w) r
strength_found w k r e q = subst (λ n. Positive n r) (strength_of_law w k (get_or strengths k 0) e refl) q

found : (ks : List (List ℕ)) (ns w : List ℕ) → length ns ≤ length ks → 0 < get_or ns (index_in ks w) 0 → one_of ks w ≡ true
unfolding index_in one_of choose
found [] [] w l h = absurd (omega arith)
found [] (n ∷ ns) w l h = absurd (omega arith)
found (k ∷ ks) [] w l h = absurd (omega arith)
found (k ∷ ks) (n ∷ ns) w l h = go (same k w) h (found ks ns w (omega arith))
  where
    go : (t : Bool) → 0 < get_or (n ∷ ns) (choose t 0 (suc (index_in ks w))) 0 → (0 < get_or ns (index_in ks w) 0 → one_of ks w ≡ true) → (t || one_of ks w) ≡ true
    go true p r = refl
    go false p r = r p

-- what has a strength is an operator, and the other way round
pub is_operator : (w : List ℕ) → 0 < strength_of w → one_of operators w ≡ true
unfolding precedence
is_operator w h = found operators strengths w (omega arith) h

pub no_operator : (w : List ℕ) → strength_of w ≡ 0 → one_of operators w ≡ false
no_operator w h = go (one_of operators w) refl
  where
    go : (b : Bool) → one_of operators w ≡ b → b ≡ false
    go true e = absurd (let k = (operator_plain w e).positive in omega arith)
    go false e = refl

pub strength_small : (w : List ℕ) (s : ℕ) → s ≡ strength_of w → s ≤ 12
strength_small w s e = go (one_of operators w) refl
  where
    go : (b : Bool) → one_of operators w ≡ b → s ≤ 12
    go true h = let k = (operator_plain w h).small in omega arith
    go false h = by_equal (strength_of w) 0 (λ z. omega arith) (λ z. absurd (let y : ◌≡◌ {A = ℕ} 0 1 = cc (is_operator w (omega arith)) in omega arith))

-- ---- the codes

pub written : (l codes ys : List ℕ) (at n m : ℕ) → at + n ≤ length l → m ≡ n → length codes ≡ n → ys ≡ codes → Written l (put_mid at m l ys) at codes (at + n)
written l codes ys at n m h e g q =
    let k : length ys ≡ m = omega (arith, ap length q) in
    let a : at ≤ length l = omega arith in
    let x = ap length (drop-put_mid at m l ys (at + n) (omega arith) a k) in
    let y = ap length (take-put_mid at m l ys (at + n) (omega arith) a) in
    record {
      place = omega arith;
      is = take-put_mid at m l ys (at + n) (omega arith) a ∙ ap (λ x. take at l ++ x) q;
      size = omega (arith, h, x, y, length-drop (at + n) (put_mid at m l ys), length-drop (at + n) l, length-take (at + n) (put_mid at m l ys), length-append (take at l) ys, length-take-le at l a);
    }

-- ---- the step after an operator's first character

module _ {l : List ℕ} {i d at : ℕ} (a c : ℕ) (room : OperatorRoom l i d at) where
  -- the operator's codes after those of the tokens
  coded_operator : (op : List ℕ) (s p : ℕ) (l' : List ℕ) → s ≡ strength_of op → Written l l' at (s ∷ op ++ (s + 16) ∷ []) p → (ts : List Token)
      → take at l ≡ coded (reverse ts) → take p l' ≡ coded (reverse (operator op ∷ ts))
  coded_operator op s p l' e w ts g =
      w.is ∙ ap (λ x. x ++ (s ∷ op ++ (s + 16) ∷ [])) g ∙ ap (λ n. coded (reverse ts) ++ (n ∷ op ++ (n + 16) ∷ [])) e ∙ sym (coded_more (operator op) ts)

  pub operator_two_law : {l' : List ℕ} (s p : ℕ) → Positive (strength_of (a ∷ c ∷ [])) (Some s) → Written l l' at (s ∷ a ∷ c ∷ (s + 16) ∷ []) p
      → (z : Next) → z ≡ onward Due d i p → OperatorSteps l l' i a c d at z
  unfolding stage_step
  operator_two_law {l'} s p q' w z u =
      let e : s ≡ strength_of (a ∷ c ∷ []) = (q'.some s refl).0 in
      let h : 0 < s = (q'.some s refl).1 in
      record {
        is = λ source ts q j f k g. went z u source l' (suc i) (stage_step max_depth (in_operator a) d ts c) (operator (a ∷ c ∷ []) ∷ ts)
            (choose_true (one_of operators (a ∷ c ∷ [])) _ _ (is_operator (a ∷ c ∷ []) (subst (λ n. 0 < n) e h)))
            (record {
              codes = coded_operator (a ∷ c ∷ []) s p l' e w ts g ∙ sym (append-nil (coded (reverse (operator (a ∷ c ∷ []) ∷ ts))));
              room = omega (arith, w.place);
              started = omega arith;
              shallow = room.shallow;
              fits = omega (arith, w.size);
            });
        size = w.size;
      }

  module _ (two : Positive (strength_of (a ∷ c ∷ [])) None) where
    pub operator_none : Positive (strength_of (a ∷ [])) None → (z : Next) → z ≡ Err Fault.NoExpression → OperatorSteps l l i a c d at z
    unfolding stage_step
    operator_none one z u =
        record {
          is = λ source ts q j m n g. stopped z u source l (suc i) (stage_step max_depth (in_operator a) d ts c)
              (choose_false (one_of operators (a ∷ c ∷ [])) _ _ (no_operator (a ∷ c ∷ []) (two.none refl))
              ∙ choose_false (one_of operators (a ∷ [])) _ _ (no_operator (a ∷ []) (one.none refl)));
          size = refl;
        }

    pub operator_one_law : {m l' : List ℕ} (t p : ℕ) → Positive (strength_of (a ∷ [])) (Some t) → Written l m at (t ∷ a ∷ (t + 16) ∷ []) p → (z : Next)
        → DueSteps m l' i c d p z → OperatorSteps l l' i a c d at z
    unfolding stage_step
    operator_one_law {m} {l'} t p one w z v =
        let f : t ≡ strength_of (a ∷ []) = (one.some t refl).0 in
        let k : 0 < t = (one.some t refl).1 in
        record {
          is = λ source ts q j n o g. subst (λ st. StepIs source l' (suc i) st z)
              (sym (choose_false (one_of operators (a ∷ c ∷ [])) _ _ (no_operator (a ∷ c ∷ []) (two.none refl))
              ∙ choose_true (one_of operators (a ∷ [])) _ _ (is_operator (a ∷ []) (omega (arith, f)))))
              (v.is source (operator (a ∷ []) ∷ ts) q j (omega (arith, w.size)) (omega (arith, w.place)) (coded_operator (a ∷ []) t p m f w ts g));
          size = v.size ∙ w.size;
        }

-- Laws of the reader's steps.
use Prim.Native.Nat.{ℕ, suc, ◌+◌, ◌-◌, ◌≤◌, ◌<◌}
use mathlib.Core.Bool.{Bool, true, false}
use mathlib.Core.List.{List, [], ◌∷◌, ◌++◌, reverse, reverse-cons, append_assoc, append-nil}
use mathlib.Core.Path.{◌≡◌, refl, ap, sym, ◌∙◌, subst}
use native.Mathlib.Omega.{arith}
use native.Mathlib.Numerals.{add-one}
use lib.Dec.{eqb, leb}
use lib.ListN.{length, take, drop, get_or, set, length-set}
use lib.Seq.{take-suc-set, drop-cons}
use borrow.Author.Tests.{eq-eqb, ne_eqb, le-leb, lt-leb}
use Rattle.std.specs.Prelude.{Ok, Err}
use Rattle.buffer.specs.Buffer.{part}
use Rattle.buffer.proofs.RegionLaws.{part_more}
use Rattle.rules.specs.Basics.{one_of, is_blank, is_ident}
use Rattle.rules.specs.SplitOperation.{is_sign, keywords}
use Rattle.rules.proofs.Choose.{choose_true, choose_false}
use Rattle.group_rules.specs.Expression.{Token, word, sign, opener, closer, due, in_name, in_number, after, in_operator, state, Step, next, refused, max_depth, is_digit, open_step, due_step, close_step, after_step, stage_step, starts_operator}
use Rattle.rules.specs.Operators as F
use Rattle.group_rules.specs.Passes.{codes_of, coded}
use Rattle.group_read.proofs.FirstLaws.{starts_same}
use Rattle.group_read.specs.Read.{state_of, Holds, StepIs, DueRoom, Next, onward, DueSteps, AfterSteps, ByteRoom, WordSteps, name_step, number_step}
use Rattle.group_read.specs.declared.Phase.TheVariants.{Due, Name, Number, After, Operator}
use Rattle.group_read.specs.declared.Reader.{Reader}
use Rattle.group_rules.specs.declared.Fault.{Fault}
use Rattle.group_rules.proofs.PassLaws.{coded_append}

coded_one : (t : Token) → coded (t ∷ []) ≡ codes_of t
unfolding coded
coded_one t = append-nil (codes_of t)

pub coded_more : (t : Token) (ts : List Token) → coded (reverse (t ∷ ts)) ≡ coded (reverse ts) ++ codes_of t
coded_more t ts = ap coded (reverse-cons t ts) ∙ coded_append (reverse ts) (t ∷ []) ∙ ap (λ x. coded (reverse ts) ++ x) (coded_one t)

part_one : (s : List ℕ) (i : ℕ) → i < length s → part s i (suc i) ≡ get_or s i 0 ∷ []
part_one s i h = ap (λ m. take m (drop i s)) same ∙ ap (take 1) (drop-cons s i 0 h)
  where
    same : suc i - i ≡ 1
    same = omega arith

-- a step that goes on, or not
pub went : (z : Next) {r : Reader} → z ≡ Ok r → (source l : List ℕ) (i : ℕ) (st : Step) (ts : List Token)
    → st ≡ next (state_of source i r ts) → Holds source l i r ts → StepIs source l i st z
went z {r} w source l i st ts e h =
    subst (StepIs source l i st) (sym w)
    (record { goes = λ p k. record { tokens = ts; is = e ∙ ap next (same k p); holds = subst (λ x. Holds source l i x ts) (read_as k) h }; stops = λ f k. absurd (no_fault k) })
  where
    read_as : {p : Reader} → ◌≡◌ {A = Next} (Ok r) (Ok p) → r ≡ p
    read_as k = cc

    same : {p : Reader} → ◌≡◌ {A = Next} (Ok r) (Ok p) → (p' : Reader) → state_of source i r ts ≡ state_of source i p ts
    same k p' = ap (λ x. state_of source i x ts) (read_as k)

    no_fault : {f : Fault} → ◌≡◌ {A = Next} (Ok r) (Err f) → ⊥
    no_fault k = let z : ◌≡◌ {A = ℕ} 0 1 = cc in omega arith

pub stopped : (z : Next) {f : Fault} → z ≡ Err f → (source l : List ℕ) (i : ℕ) (st : Step) → st ≡ refused f → StepIs source l i st z
stopped z {f} w source l i st e =
    subst (StepIs source l i st) (sym w) (record { goes = λ r k. absurd (no_reader k); stops = λ g k. e ∙ ap refused (same k) })
  where
    no_reader : {r : Reader} → ◌≡◌ {A = Next} (Err f) (Ok r) → ⊥
    no_reader k = let z : ◌≡◌ {A = ℕ} 0 1 = cc in omega arith

    same : {g : Fault} → ◌≡◌ {A = Next} (Err f) (Err g) → f ≡ g
    same k = cc

module _ (l : List ℕ) (i c d at : ℕ) (room : DueRoom l i d at) where
  -- one code more
  more_codes : (v : ℕ) (ts : List Token) → take at l ≡ coded (reverse ts) → take (at + 1) (set l at v) ≡ coded (reverse ts) ++ v ∷ []
  more_codes v ts e = ap (λ n. take n (set l at v)) (add-one at) ∙ take-suc-set l at v room.fits ∙ ap (λ x. x ++ v ∷ []) e

  pub due_blank : (b : Bool) → b ≡ is_blank c → b ≡ true → (z : Next) → z ≡ onward Due d i at → DueSteps l l i c d at z
  unfolding due_step
  due_blank b e t z w =
      record {
        is = λ source ts q h f k g. went z w source l (suc i) (due_step max_depth d ts c) ts (choose_true (is_blank c) _ _ (sym e ∙ t))
            (record { codes = g ∙ sym (append-nil (coded (reverse ts))); room = omega arith; started = omega arith; shallow = room.shallow; fits = f });
        size = refl;
      }

  -- a token of one code
  one_token : (v : ℕ) (t : Token) → codes_of t ≡ v ∷ [] → (ts : List Token) → take at l ≡ coded (reverse ts) → take (at + 1) (set l at v) ≡ coded (reverse (t ∷ ts)) ++ []
  one_token v t e ts g = more_codes v ts g ∙ sym (append-nil (coded (reverse (t ∷ ts))) ∙ coded_more t ts ∙ ap (λ x. coded (reverse ts) ++ x) e)

  module _ (b : Bool) (e₁ : b ≡ is_blank c) (n₁ : b ≡ false) where
    pub due_sign : (s : Bool) → s ≡ is_sign c → s ≡ true → (z : Next) → z ≡ onward Due d i (at + 1) → DueSteps l (set l at c) i c d at z
    unfolding due_step
    due_sign s e t z w =
        record {
          is = λ source ts q h f k g. went z w source (set l at c) (suc i) (due_step max_depth d ts c) (sign c ∷ ts)
              (choose_false (is_blank c) _ _ (sym e₁ ∙ n₁) ∙ choose_true (is_sign c) _ _ (sym e ∙ t))
              (record { codes = one_token c (sign c) refl ts g; room = omega arith; started = omega arith; shallow = room.shallow; fits = omega (arith, length-set l at c) });
          size = length-set l at c;
        }

    module _ (s : Bool) (e₂ : s ≡ is_sign c) (n₂ : s ≡ false) where
      pub due_deep : c ≡ 40 → 64 ≤ d → (z : Next) → z ≡ Err Fault.TooDeep → DueSteps l l i c d at z
      unfolding due_step open_step
      due_deep p h z w =
          record {
            is = λ source ts q j f k g. stopped z w source l (suc i) (due_step max_depth d ts c)
                (choose_false (is_blank c) _ _ (sym e₁ ∙ n₁) ∙ choose_false (is_sign c) _ _ (sym e₂ ∙ n₂) ∙ choose_true (eqb c 40) _ _ (eq-eqb c 40 p)
                ∙ choose_true (leb 64 d) _ _ (le-leb 64 d h));
            size = refl;
          }

      pub due_open : c ≡ 40 → d < 64 → (z : Next) → z ≡ onward Due (d + 1) i (at + 1) → DueSteps l (set l at 14) i c d at z
      unfolding due_step open_step
      due_open p h z w =
          record {
            is = λ source ts q j f k g. went z w source (set l at 14) (suc i) (due_step max_depth d ts c) (opener ∷ ts)
                (choose_false (is_blank c) _ _ (sym e₁ ∙ n₁) ∙ choose_false (is_sign c) _ _ (sym e₂ ∙ n₂) ∙ choose_true (eqb c 40) _ _ (eq-eqb c 40 p)
                ∙ choose_false (leb 64 d) _ _ (lt-leb 64 d h) ∙ ap (λ x. next (state due x (opener ∷ ts))) (sym (add-one d)))
                (record { codes = one_token 14 opener refl ts g; room = omega arith; started = omega arith; shallow = omega arith; fits = omega (arith, length-set l at 14) });
            size = length-set l at 14;
          }

      module _ (n₃ : c ≡ 40 → ⊥) where
        pub due_number : (t : Bool) → t ≡ is_digit c → t ≡ true → (z : Next) → z ≡ onward Number d i (at + 1) → DueSteps l (set l at c) i c d at z
        unfolding due_step
        due_number t e y z w =
            record {
              is = λ source ts q j f k g. went z w source (set l at c) (suc i) (due_step max_depth d ts c) ts
                  (choose_false (is_blank c) _ _ (sym e₁ ∙ n₁) ∙ choose_false (is_sign c) _ _ (sym e₂ ∙ n₂) ∙ choose_false (eqb c 40) _ _ (ne_eqb c 40 n₃)
                  ∙ choose_true (is_digit c) _ _ (sym e ∙ y) ∙ ap (λ x. next (state (in_number x) d ts)) (ap (λ x. x ∷ []) q ∙ sym (part_one source i j)))
                  (record { codes = more_codes c ts g ∙ ap (λ x. coded (reverse ts) ++ x) (ap (λ x. x ∷ []) q ∙ sym (part_one source i j)); room = omega arith; started = omega arith; shallow = room.shallow; fits = omega (arith, length-set l at c) });
              size = length-set l at c;
            }

        module _ (t : Bool) (e₄ : t ≡ is_digit c) (n₄ : t ≡ false) where
          pub due_name : (u : Bool) → u ≡ is_ident c → u ≡ true → (z : Next) → z ≡ onward Name d i (at + 1) → DueSteps l (set l at c) i c d at z
          unfolding due_step
          due_name u e y z w =
              record {
                is = λ source ts q j f k g. went z w source (set l at c) (suc i) (due_step max_depth d ts c) ts
                    (choose_false (is_blank c) _ _ (sym e₁ ∙ n₁) ∙ choose_false (is_sign c) _ _ (sym e₂ ∙ n₂) ∙ choose_false (eqb c 40) _ _ (ne_eqb c 40 n₃)
                    ∙ choose_false (is_digit c) _ _ (sym e₄ ∙ n₄) ∙ choose_true (is_ident c) _ _ (sym e ∙ y)
                    ∙ ap (λ x. next (state (in_name x) d ts)) (ap (λ x. x ∷ []) q ∙ sym (part_one source i j)))
                    (record { codes = more_codes c ts g ∙ ap (λ x. coded (reverse ts) ++ x) (ap (λ x. x ∷ []) q ∙ sym (part_one source i j)); room = omega arith; started = omega arith; shallow = room.shallow; fits = omega (arith, length-set l at c) });
                size = length-set l at c;
              }

          pub due_refused : (u : Bool) → u ≡ is_ident c → u ≡ false → (z : Next) → z ≡ Err Fault.NoExpression → DueSteps l l i c d at z
          unfolding due_step
          due_refused u e y z w =
              record {
                is = λ source ts q j f k g. stopped z w source l (suc i) (due_step max_depth d ts c)
                    (choose_false (is_blank c) _ _ (sym e₁ ∙ n₁) ∙ choose_false (is_sign c) _ _ (sym e₂ ∙ n₂) ∙ choose_false (eqb c 40) _ _ (ne_eqb c 40 n₃)
                    ∙ choose_false (is_digit c) _ _ (sym e₄ ∙ n₄) ∙ choose_false (is_ident c) _ _ (sym e ∙ y));
                size = refl;
              }

-- ---- tests

pub digit_low : (c : ℕ) → c < 48 → false ≡ is_digit c
digit_low c h = rw (lt-leb 48 c h)

-- ---- where an operand has ended

module _ (l : List ℕ) (i c d at : ℕ) (room : DueRoom l i d at) where
  pub after_blank : (b : Bool) → b ≡ is_blank c → b ≡ true → (z : Next) → z ≡ onward After d i at → AfterSteps l l i c d at z
  unfolding after_step
  after_blank b e t z w =
      record {
        is = λ source ts q h f k g. went z w source l (suc i) (after_step d ts c) ts (choose_true (is_blank c) _ _ (sym e ∙ t))
            (record { codes = g ∙ sym (append-nil (coded (reverse ts))); room = omega arith; started = omega arith; shallow = room.shallow; fits = f });
        size = refl;
      }

  module _ (b : Bool) (e₁ : b ≡ is_blank c) (n₁ : b ≡ false) where
    pub after_none : c ≡ 41 → d ≡ 0 → (z : Next) → z ≡ Err Fault.NoExpression → AfterSteps l l i c d at z
    unfolding after_step
    after_none p o z w =
        record {
          is = λ source ts q j f k g. stopped z w source l (suc i) (after_step d ts c)
              (choose_false (is_blank c) _ _ (sym e₁ ∙ n₁) ∙ choose_true (eqb c 41) _ _ (eq-eqb c 41 p) ∙ ap (λ x. close_step x ts) o ∙ none ts);
          size = refl;
        }
      where
        none : (ts : List Token) → close_step 0 ts ≡ refused Fault.NoExpression
        none ts = unfold close_step in refl

    pub after_close : c ≡ 41 → (d ≡ 0 → ⊥) → (z : Next) → z ≡ onward After (d - 1) i (at + 1) → AfterSteps l (set l at 15) i c d at z
    unfolding after_step
    after_close p o z w =
        record {
          is = λ source ts q j f k g. went z w source (set l at 15) (suc i) (after_step d ts c) (closer ∷ ts)
              (choose_false (is_blank c) _ _ (sym e₁ ∙ n₁) ∙ choose_true (eqb c 41) _ _ (eq-eqb c 41 p) ∙ ap (λ x. close_step x ts) deeper ∙ one ts)
              (record { codes = one_token l i c d at room 15 closer refl ts g; room = omega arith; started = omega arith; shallow = omega (arith, room.shallow); fits = omega (arith, length-set l at 15) });
          size = length-set l at 15;
        }
      where
        deeper : d ≡ suc (d - 1)
        deeper = omega arith

        one : (ts : List Token) → close_step (suc (d - 1)) ts ≡ next (state after (d - 1) (closer ∷ ts))
        one ts = unfold close_step in refl

    module _ (n₂ : c ≡ 41 → ⊥) where
      pub after_operator : (s : Bool) → s ≡ F.starts_operator c → s ≡ true → (z : Next) → z ≡ onward Operator d i at → AfterSteps l l i c d at z
      unfolding after_step
      after_operator s e t z w =
          record {
            is = λ source ts q j f k g. went z w source l (suc i) (after_step d ts c) ts
                (choose_false (is_blank c) _ _ (sym e₁ ∙ n₁) ∙ choose_false (eqb c 41) _ _ (ne_eqb c 41 n₂) ∙ choose_true (starts_operator c) _ _ (sym (starts_same c) ∙ sym e ∙ t)
                ∙ ap (λ x. next (state (in_operator x) d ts)) q)
                (record { codes = g ∙ sym (append-nil (coded (reverse ts))); room = omega arith; started = omega arith; shallow = room.shallow; fits = f });
            size = refl;
          }

      pub after_refused : (s : Bool) → s ≡ F.starts_operator c → s ≡ false → (z : Next) → z ≡ Err Fault.NoExpression → AfterSteps l l i c d at z
      unfolding after_step
      after_refused s e t z w =
          record {
            is = λ source ts q j f k g. stopped z w source l (suc i) (after_step d ts c)
                (choose_false (is_blank c) _ _ (sym e₁ ∙ n₁) ∙ choose_false (eqb c 41) _ _ (ne_eqb c 41 n₂) ∙ choose_false (starts_operator c) _ _ (sym (starts_same c) ∙ sym e ∙ t));
            size = refl;
          }

-- ---- in a word

pub byte_room : {source l : List ℕ} {start i depth at : ℕ} → ByteRoom source l start i depth at → DueRoom l i depth at
byte_room r = record { fits = omega (arith, r.inside, r.fits, r.written); shallow = r.shallow; small = omega (arith, r.inside, r.small) }

module _ {source l : List ℕ} {start i d at : ℕ} (r : ByteRoom source l start i d at) where
  longer : (c : ℕ) → c ≡ get_or source i 0 → part source start i ++ c ∷ [] ≡ part source start (suc i)
  longer c e = ap (λ x. part source start i ++ x ∷ []) e ∙ sym (part_more source start i r.started r.inside) ∙ ap (part source start) (add-one i)

  longer_codes : (c : ℕ) → c ≡ get_or source i 0 → (ts : List Token) → take at l ≡ coded (reverse ts) ++ part source start i
      → take (at + 1) (set l at c) ≡ coded (reverse ts) ++ part source start (suc i)
  longer_codes c e ts g =
      ap (λ n. take n (set l at c)) (add-one at) ∙ take-suc-set l at c (byte_room r).fits ∙ ap (λ x. x ++ c ∷ []) g
      ∙ append_assoc (coded (reverse ts)) (part source start i) (c ∷ []) ∙ ap (λ x. coded (reverse ts) ++ x) (longer c e)

  pub number_goes : (c : ℕ) → c ≡ get_or source i 0 → (b : Bool) → b ≡ is_digit c → b ≡ true
      → (z : Next) → z ≡ onward Number d start (at + 1) → WordSteps source l (set l at c) start i at (number_step source start i d) z
  unfolding stage_step
  number_goes c e b p t z w =
      record {
        is = λ ts g. went z w source (set l at c) (suc i) (number_step source start i d ts) ts
            (choose_true (is_digit (get_or source i 0)) _ _ (ap is_digit (sym e) ∙ sym p ∙ t)
            ∙ ap (λ x. next (state (in_number x) d ts)) (ap (λ x. part source start i ++ x ∷ []) (sym e) ∙ longer c e))
            (record { codes = longer_codes c e ts g; room = omega (arith, r.written); started = omega (arith, r.started); shallow = r.shallow; fits = omega (arith, r.fits, length-set l at c) });
        size = length-set l at c;
      }

  pub name_goes : (c : ℕ) → c ≡ get_or source i 0 → (b : Bool) → b ≡ is_ident c → b ≡ true
      → (z : Next) → z ≡ onward Name d start (at + 1) → WordSteps source l (set l at c) start i at (name_step source start i d) z
  unfolding stage_step
  name_goes c e b p t z w =
      record {
        is = λ ts g. went z w source (set l at c) (suc i) (name_step source start i d ts) ts
            (choose_true (is_ident (get_or source i 0)) _ _ (ap is_ident (sym e) ∙ sym p ∙ t)
            ∙ ap (λ x. next (state (in_name x) d ts)) (ap (λ x. part source start i ++ x ∷ []) (sym e) ∙ longer c e))
            (record { codes = longer_codes c e ts g; room = omega (arith, r.written); started = omega (arith, r.started); shallow = r.shallow; fits = omega (arith, r.fits, length-set l at c) });
        size = length-set l at c;
      }

  -- the word is a token, and an operand has ended
  ended_word : {l' : List ℕ} {q : Next} (c : ℕ) → c ≡ get_or source i 0 → AfterSteps l l' i c d at q → (ts : List Token) → take at l ≡ coded (reverse ts) ++ part source start i
      → StepIs source l' (suc i) (after_step d (word (part source start i) ∷ ts) c) q
  ended_word c e a ts g = a.is source (word (part source start i) ∷ ts) e r.inside r.fits r.written (g ∙ sym (coded_more (word (part source start i)) ts))

  pub number_ends : {l' : List ℕ} {q : Next} (c : ℕ) → c ≡ get_or source i 0 → (b : Bool) → b ≡ is_digit c → b ≡ false → AfterSteps l l' i c d at q
      → WordSteps source l l' start i at (number_step source start i d) q
  unfolding stage_step
  number_ends {l'} {q} c e b p t a =
      record {
        is = λ ts g. subst (λ x. StepIs source l' (suc i) x q)
            (sym (choose_false (is_digit (get_or source i 0)) _ _ (ap is_digit (sym e) ∙ sym p ∙ t) ∙ ap (after_step d (word (part source start i) ∷ ts)) (sym e)))
            (ended_word c e a ts g);
        size = a.size;
      }

  module _ (c : ℕ) (e : c ≡ get_or source i 0) (b : Bool) (p : b ≡ is_ident c) (t : b ≡ false) where
    pub name_word : (k : Bool) → k ≡ one_of keywords (part source start i) → k ≡ true → (z : Next) → z ≡ Err Fault.NoExpression → WordSteps source l l start i at (name_step source start i d) z
    unfolding stage_step
    name_word k u v z w =
        record {
          is = λ ts g. stopped z w source l (suc i) (name_step source start i d ts)
              (choose_false (is_ident (get_or source i 0)) _ _ (ap is_ident (sym e) ∙ sym p ∙ t) ∙ choose_true (one_of keywords (part source start i)) _ _ (sym u ∙ v));
          size = refl;
        }

    pub name_ends : {l' : List ℕ} {q : Next} (k : Bool) → k ≡ one_of keywords (part source start i) → k ≡ false → AfterSteps l l' i c d at q
        → WordSteps source l l' start i at (name_step source start i d) q
    unfolding stage_step
    name_ends {l'} {q} k u v a =
        record {
          is = λ ts g. subst (λ x. StepIs source l' (suc i) x q)
              (sym (choose_false (is_ident (get_or source i 0)) _ _ (ap is_ident (sym e) ∙ sym p ∙ t) ∙ choose_false (one_of keywords (part source start i)) _ _ (sym u ∙ v)
              ∙ ap (after_step d (word (part source start i) ∷ ts)) (sym e)))
              (ended_word c e a ts g);
          size = a.size;
        }

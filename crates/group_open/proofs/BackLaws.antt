-- Laws of the pass in scratch.
use Prim.Native.Nat.{ℕ, zero, suc, ◌+◌, ◌*◌, ◌-◌, ◌≤◌, ◌<◌}
use mathlib.Core.Bool.{Bool, true, false}
use mathlib.Core.List.{List, [], ◌∷◌}
use mathlib.Core.Path.{◌≡◌, refl, ap, sym, ◌∙◌, subst}
use native.Mathlib.Omega.{arith}
use native.Mathlib.Numerals.{add-one}
use lib.Dec.{eqb, ltb}
use lib.ListN.{length, take, drop, get_or, set, length-set, length-take, drop_of_length-le}
use lib.Seq.{drop-cons, get_or-set_same, get_or-set_other, take-set-le, drop-set-lt, get_or-take}
use borrow.Author.Tests.{eq-eqb, ne_eqb, le-ltb, lt-ltb, ltb-true}
use mathlib.Core.Logic.{◌⊎◌, inl, inr}
use Rattle.utf8.proofs.Tests.{and_left}
use Rattle.buffer.specs.Buffer.{part}
use Rattle.buffer.proofs.RegionLaws.{drop_take}
use Rattle.rules.proofs.Choose.{choose_true, choose_false}
use Rattle.group_rules.specs.Grouping.{takes}
use Rattle.group_rules.proofs.TakesLaws.{star_is, takes_lt, takes_not}
use Rattle.group_rules.specs.Passes.{Pass, pass, opens_after, open_bracket, open_operator, open_back, back_step, is_right_code, opened_text}
use Rattle.group_rules.specs.Codes.{IsCode, IsRight}
use Rattle.group_rules.specs.declared.Code.{Code}
use Rattle.group_open.specs.Back.{stack_of, pass_in, Room, Put, Pushed, Opened, Moved, Backed, BackTo, OpenedAll}
use Rattle.group_open.specs.declared.Spot.{Spot}
use Rattle.group_open.specs.declared.Back.{Back}

-- ---- a byte that is set

pub part_cons : (l : List ℕ) (a e : ℕ) → a < e → e ≤ length l → part l a e ≡ get_or l a 0 ∷ part l (suc a) e
part_cons l a e h k = ap (λ x. take (e - a) x) (drop-cons l a 0 (omega arith)) ∙ ap (λ m. take m (get_or l a 0 ∷ drop (suc a) l)) same
  where
    same : e - a ≡ suc (e - suc a)
    same = omega arith

pub part_set : (l : List ℕ) (p e b : ℕ) → p < e → e ≤ length l → part (set l p b) p e ≡ b ∷ part l (suc p) e
part_set l p e b h k =
    part_cons (set l p b) p e h (rw length-set k)
    ∙ ap (λ x. x ∷ part (set l p b) (suc p) e) (get_or-set_same l p b 0 (omega arith))
    ∙ ap (λ x. b ∷ take (e - suc p) x) (drop-set-lt (suc p) l p b (omega arith))

pub part_set_after : (l : List ℕ) (a e p b : ℕ) → e ≤ p → part (set l p b) a e ≡ part l a e
part_set_after l a e p b h = sym (drop_take a e (set l p b)) ∙ ap (drop a) (take-set-le e l p b h) ∙ drop_take a e l

pub stack_set_before : (l : List ℕ) (base k p b : ℕ) → p < base → stack_of (set l p b) base k ≡ stack_of l base k
unfolding stack_of
stack_set_before l base zero p b h = refl
stack_set_before l base (suc k) p b h =
    ap (λ x. x ∷ stack_of (set l p b) base k) (get_or-set_other l p (base + k) b 0 (λ e. omega arith)) ∙ ap (λ x. get_or l (base + k) 0 ∷ x) (stack_set_before l base k p b h)

pub stack_set_above : (l : List ℕ) (base k p b : ℕ) → base + k ≤ p → stack_of (set l p b) base k ≡ stack_of l base k
unfolding stack_of
stack_set_above l base zero p b h = refl
stack_set_above l base (suc k) p b h =
    ap (λ x. x ∷ stack_of (set l p b) base k) (get_or-set_other l p (base + k) b 0 (λ e. omega arith)) ∙ ap (λ x. get_or l (base + k) 0 ∷ x) (stack_set_above l base k p b (omega arith))

pub stack_push : (l : List ℕ) (base k v : ℕ) → base + k < length l → stack_of (set l (base + k) v) base (suc k) ≡ v ∷ stack_of l base k
unfolding stack_of
stack_push l base k v h =
    ap (λ x. x ∷ stack_of (set l (base + k) v) base k) (get_or-set_same l (base + k) v 0 h) ∙ ap (λ x. v ∷ x) (stack_set_above l base k (base + k) v (omega arith))

pub stack_pop : (l : List ℕ) (base k : ℕ) → drop 1 (stack_of l base k) ≡ stack_of l base (k - 1)
unfolding stack_of
stack_pop l base zero = refl
stack_pop l base (suc k) = ap (stack_of l base) same
  where
    same : k ≡ suc k - 1
    same = omega arith

pub stack_top : (l : List ℕ) (base k : ℕ) → 0 < k → stack_of l base k ≡ get_or l (base + (k - 1)) 0 ∷ stack_of l base (k - 1)
stack_top l base zero h = absurd (omega arith)
stack_top l base (suc k) h = ap (λ m. stack_of l base m) same ∙ unfold stack_of in refl
  where
    same : suc k ≡ suc (suc k - 1)
    same = omega arith

-- ---- a byte of the text, and one of the stack

pub record Wrote (l l' : List ℕ) (n b : ℕ) (s r : Spot) : Type 0 where
  pub same : take n l' ≡ take n l
  pub text : part l' r.at (3 * n) ≡ b ∷ part l s.at (3 * n)
  pub spine : stack_of l' (3 * n) r.top ≡ stack_of l (3 * n) s.top
  pub size : length l' ≡ length l
  pub next : r.at + 1 ≡ s.at
  pub height : r.top ≡ s.top

pub wrote : {l l' : List ℕ} {b : ℕ} {s r : Spot} (n : ℕ) → Put l l' s b r → n < s.at → s.at ≤ 3 * n → 3 * n ≤ length l → Wrote l l' n b s r
wrote {l} {l'} {b} {s} {r} n w h k f = subst (λ x. Wrote l x n b s r) (sym w.is) set_here
  where
    set_here : Wrote l (set l r.at b) n b s r
    set_here =
        record {
          same = take-set-le n l r.at b (omega (arith, w.next));
          text = part_set l r.at (3 * n) b (omega (arith, w.next)) f ∙ ap (λ a. b ∷ part l a (3 * n)) (sym (add-one r.at) ∙ w.next);
          spine = stack_set_before l (3 * n) r.top r.at b (omega (arith, w.next)) ∙ ap (stack_of l (3 * n)) w.height;
          size = length-set l r.at b;
          next = w.next;
          height = w.height;
        }

pub record Grown (l l' : List ℕ) (n b : ℕ) (s r : Spot) : Type 0 where
  pub same : take n l' ≡ take n l
  pub text : part l' r.at (3 * n) ≡ part l s.at (3 * n)
  pub spine : stack_of l' (3 * n) r.top ≡ b ∷ stack_of l (3 * n) s.top
  pub size : length l' ≡ length l
  pub place : r.at ≡ s.at
  pub height : r.top ≡ s.top + 1

pub grown : {l l' : List ℕ} {n b : ℕ} {s r : Spot} → Pushed l l' n s b r → 3 * n + s.top < length l → Grown l l' n b s r
grown {l} {l'} {n} {b} {s} {r} w h = subst (λ x. Grown l x n b s r) (sym w.is) set_here
  where
    set_here : Grown l (set l (3 * n + s.top) b) n b s r
    set_here =
        record {
          same = take-set-le n l (3 * n + s.top) b (omega arith);
          text = part_set_after l r.at (3 * n) (3 * n + s.top) b (omega arith) ∙ ap (λ a. part l a (3 * n)) w.place;
          spine = ap (stack_of (set l (3 * n + s.top) b) (3 * n)) (w.height ∙ add-one s.top) ∙ stack_push l (3 * n) s.top b h;
          size = length-set l (3 * n + s.top) b;
          place = w.place;
          height = w.height;
        }

-- ---- open_after

pub record Opening (l₀ l : List ℕ) (n t : ℕ) (s₀ s : Spot) : Type 0 where
  pub same : take n l ≡ take n l₀
  pub is : opens_after t (part l₀ s₀.at (3 * n)) (stack_of l₀ (3 * n) s₀.top) ≡ opens_after t (part l s.at (3 * n)) (stack_of l (3 * n) s.top)
  pub lower : s.top ≤ s₀.top
  pub moved : s.at + s₀.top ≡ s₀.at + s.top
  pub size : length l ≡ length l₀
  pub room : Room l n s 0

module _ {l₀ l : List ℕ} {n t : ℕ} {s₀ s : Spot} (o : Opening l₀ l n t s₀ s) where
  abbrev left : ℕ
  left = get_or l (3 * n + (s.top - 1)) 0

  pub opening_more : {l' : List ℕ} {r : Spot} (b : Bool) → 0 < s.top → b ≡ takes t left → b ≡ true
      → Put l l' (record { at = s.at; top = s.top - 1 }) 40 r → Opening l₀ l' n t s₀ r
  opening_more {l'} {r} b h e k w =
      let g = wrote n w (omega (arith, o.room.room)) o.room.within (omega (arith, o.room.fits)) in
      let f : opens_after t (part l s.at (3 * n)) (stack_of l (3 * n) s.top) ≡ opens_after t (40 ∷ part l s.at (3 * n)) (stack_of l (3 * n) (s.top - 1))
      = ap (opens_after t (part l s.at (3 * n))) (stack_top l (3 * n) s.top h) ∙ (unfold opens_after in choose_true (takes t left) _ _ (sym e ∙ k)) in
      record {
        same = g.same ∙ o.same;
        is = o.is ∙ f ∙ ap (λ x. opens_after t x (stack_of l (3 * n) (s.top - 1))) (sym g.text) ∙ ap (opens_after t (part l' r.at (3 * n))) (sym g.spine);
        lower = omega (arith, o.lower, g.height);
        moved = omega (arith, o.moved, g.next, g.height);
        size = g.size ∙ o.size;
        room = record { room = omega (arith, o.room.room, g.next, g.height); within = omega (arith, o.room.within, g.next); height = omega (arith, o.room.height, g.height); fits = omega (arith, o.room.fits, g.size) };
      }

  opened_here : opens_after t (part l s.at (3 * n)) (stack_of l (3 * n) s.top) ≡ pass_in l n s → Opened l₀ l n t s₀ s
  opened_here e = record { same = o.same; is = o.is ∙ e; lower = o.lower; moved = o.moved; size = o.size }

  pub opening_stop : (b : Bool) → 0 < s.top → b ≡ takes t left → b ≡ false → Opened l₀ l n t s₀ s
  opening_stop b h e k =
      let f : opens_after t (part l s.at (3 * n)) (left ∷ stack_of l (3 * n) (s.top - 1)) ≡ pass (part l s.at (3 * n)) (left ∷ stack_of l (3 * n) (s.top - 1))
      = unfold opens_after in choose_false (takes t left) _ _ (sym e ∙ k) in
      opened_here (ap (opens_after t (part l s.at (3 * n))) (stack_top l (3 * n) s.top h) ∙ f ∙ ap (pass (part l s.at (3 * n))) (sym (stack_top l (3 * n) s.top h)))

  pub opening_end : s.top ≤ 0 → Opened l₀ l n t s₀ s
  opening_end h =
      opened_here
      (subst (λ k. opens_after t (part l s.at (3 * n)) (stack_of l (3 * n) k) ≡ pass (part l s.at (3 * n)) (stack_of l (3 * n) k)) zero_top (unfold opens_after stack_of in refl))
    where
      zero_top : 0 ≡ s.top
      zero_top = omega arith

-- ---- one code

pub moved_plain : {l l' : List ℕ} {n b : ℕ} {s r : Spot} → Room l n s 1 → Put l l' s b r
    → Moved l l' n s (pass (b ∷ part l s.at (3 * n)) (stack_of l (3 * n) s.top)) r
moved_plain {l} {l'} {n} {b} {s} {r} h w =
    let g = wrote n w (omega (arith, h.room)) h.within (omega (arith, h.fits)) in
    record {
      same = g.same;
      is = ap (λ x. pass x (stack_of l (3 * n) s.top)) (sym g.text) ∙ ap (pass (part l' r.at (3 * n))) (sym g.spine);
      within = omega (arith, h.within, g.next);
      cost = omega (arith, g.next, g.height);
      high = omega (arith, g.height);
      size = g.size;
    }

pub moved_closer : {l l₁ l₂ : List ℕ} {n : ℕ} {s p r : Spot} → Room l n s 1 → Put l l₁ s 15 p → Pushed l₁ l₂ n p 0 r
    → Moved l l₂ n s (pass (15 ∷ part l s.at (3 * n)) (0 ∷ stack_of l (3 * n) s.top)) r
moved_closer {l} {l₁} {l₂} {n} {s} {p} {r} h w u =
    let g = wrote n w (omega (arith, h.room)) h.within (omega (arith, h.fits)) in
    let k = grown u (omega (arith, h.fits, h.height, g.size, g.height)) in
    record {
      same = k.same ∙ g.same;
      is = ap (λ x. pass x (0 ∷ stack_of l (3 * n) s.top)) (sym (k.text ∙ g.text))
          ∙ ap (pass (part l₂ r.at (3 * n))) (sym (k.spine ∙ ap (λ x. 0 ∷ x) g.spine));
      within = omega (arith, h.within, g.next, k.place);
      cost = omega (arith, g.next, g.height, k.place, k.height);
      high = omega (arith, g.height, k.height);
      size = k.size ∙ g.size;
    }

module _ {l l₁ l₂ : List ℕ} {n t b : ℕ} {s o p : Spot} (h : Room l n s 1) (w : Opened l l₁ n t s o) (u : Put l₁ l₂ o b p) where
  after_opened : Wrote l₁ l₂ n b o p
  after_opened = wrote n u (omega (arith, h.room, w.moved)) (omega (arith, h.within, w.moved, w.lower)) (omega (arith, h.fits, w.size))

  pub moved_operator : {l₃ : List ℕ} {c : ℕ} {r : Spot} → b ≡ 32 → c ≡ t → Pushed l₂ l₃ n p c r
      → Moved l l₃ n s (open_operator t (opens_after t (part l s.at (3 * n)) (stack_of l (3 * n) s.top))) r
  unfolding open_operator
  moved_operator {l₃} {c} {r} e q v =
      let g = after_opened in
      let k = grown v (omega (arith, h.fits, h.height, w.lower, w.size, g.size, g.height)) in
      record {
        same = k.same ∙ g.same ∙ w.same;
        is = ap (open_operator t) w.is
            ∙ ap (λ x. pass x (t ∷ stack_of l₁ (3 * n) o.top)) (sym (k.text ∙ g.text ∙ ap (λ x. x ∷ part l₁ o.at (3 * n)) e))
            ∙ ap (pass (part l₃ r.at (3 * n))) (sym (k.spine ∙ ap (λ x. c ∷ x) g.spine ∙ ap (λ x. x ∷ stack_of l₁ (3 * n) o.top) q));
        within = omega (arith, h.within, g.next, w.moved, w.lower, k.place);
        cost = omega (arith, g.next, g.height, w.moved, k.place, k.height);
        high = omega (arith, w.lower, g.height, k.height);
        size = k.size ∙ g.size ∙ w.size;
      }

  pub moved_bracket : {k : ℕ} → b ≡ 14 → t ≡ 0 → k ≡ p.top - 1
      → Moved l l₂ n s (open_bracket (opens_after 0 (part l s.at (3 * n)) (stack_of l (3 * n) s.top))) (record { at = p.at; top = k })
  unfolding open_bracket
  moved_bracket {k} e z q =
      let g = after_opened in
      record {
        same = g.same ∙ w.same;
        is = ap (λ x. open_bracket (opens_after x (part l s.at (3 * n)) (stack_of l (3 * n) s.top))) (sym z) ∙ ap open_bracket w.is
            ∙ ap (λ x. pass x (drop 1 (stack_of l₁ (3 * n) o.top))) (sym (g.text ∙ ap (λ x. x ∷ part l₁ o.at (3 * n)) e))
            ∙ ap (pass (part l₂ p.at (3 * n))) (ap (drop 1) (sym g.spine) ∙ stack_pop l₂ (3 * n) p.top ∙ ap (stack_of l₂ (3 * n)) (sym q));
        within = omega (arith, h.within, g.next, w.moved, w.lower);
        cost = omega (arith, g.next, g.height, w.moved);
        high = omega (arith, w.lower, g.height);
        size = g.size ∙ w.size;
      }

module _ {l l' : List ℕ} {n : ℕ} {s r : Spot} where
  moved_as : {p q : Pass} → p ≡ q → Moved l l' n s p r → Moved l l' n s q r
  moved_as e m = subst (λ x. Moved l l' n s x r) e m

  module _ (b : ℕ) where
    pub code_bracket : b ≡ 14 → Moved l l' n s (open_bracket (opens_after 0 (part l s.at (3 * n)) (stack_of l (3 * n) s.top))) r
        → Moved l l' n s (back_step b (pass_in l n s)) r
    unfolding back_step
    code_bracket e m = moved_as (sym (choose_true (eqb b 14) _ _ (eq-eqb b 14 e))) m

    pub code_closer : (b ≡ 14 → ⊥) → b ≡ 15 → Moved l l' n s (pass (15 ∷ part l s.at (3 * n)) (0 ∷ stack_of l (3 * n) s.top)) r
        → Moved l l' n s (back_step b (pass_in l n s)) r
    unfolding back_step
    code_closer h e m = moved_as (sym (choose_false (eqb b 14) _ _ (ne_eqb b 14 h) ∙ choose_true (eqb b 15) _ _ (eq-eqb b 15 e))) m

    pub code_operator : {k : ℕ} → IsRight b k → Moved l l' n s (open_operator k (opens_after k (part l s.at (3 * n)) (stack_of l (3 * n) s.top))) r
        → Moved l l' n s (back_step b (pass_in l n s)) r
    unfolding back_step
    code_operator {k} e m =
        let h : 16 < b = ltb-true 16 b (and_left (ltb 16 b) (ltb b 32) e.right) in
        moved_as
        (ap (λ x. open_operator x (opens_after x (part l s.at (3 * n)) (stack_of l (3 * n) s.top))) (omega (arith, e.is))
        ∙ sym (choose_false (eqb b 14) _ _ (ne_eqb b 14 (λ (z : b ≡ 14). absurd (omega arith))) ∙ choose_false (eqb b 15) _ _ (ne_eqb b 15 (λ (z : b ≡ 15). absurd (omega arith))) ∙ choose_true (is_right_code b) _ _ e.right)) m

    code_other : (b ≡ 14 → ⊥) → (b ≡ 15 → ⊥) → is_right_code b ≡ false
        → Moved l l' n s (pass (b ∷ part l s.at (3 * n)) (stack_of l (3 * n) s.top)) r → Moved l l' n s (back_step b (pass_in l n s)) r
    unfolding back_step
    code_other h k e m =
        moved_as
        (sym (choose_false (eqb b 14) _ _ (ne_eqb b 14 h) ∙ choose_false (eqb b 15) _ _ (ne_eqb b 15 k) ∙ choose_false (is_right_code b) _ _ e)) m

    pub code_plain : {c : Code} → IsCode b c → ((x : ℕ) × (c ≡ Code.Left x)) ⊎ ((x : ℕ) × (c ≡ Code.Text x))
        → Moved l l' n s (pass (b ∷ part l s.at (3 * n)) (stack_of l (3 * n) s.top)) r → Moved l l' n s (back_step b (pass_in l n s)) r
    code_plain {c} q (inl (x, e)) m =
        let h : b ≤ 12 = (subst (IsCode b) e q).1 in
        let f : is_right_code b ≡ false = rw (le-ltb 16 b (omega arith)) in
        code_other (λ (z : b ≡ 14). absurd (omega arith)) (λ (z : b ≡ 15). absurd (omega arith)) f m
    code_plain {c} q (inr (x, e)) m = let t = (subst (IsCode b) e q).1 in code_other t.opener t.closer t.right m

-- ---- the codes one after the other

drop_back : (l : List ℕ) (i : ℕ) → 0 < i → i ≤ length l → drop (i - 1) l ≡ get_or l (i - 1) 0 ∷ drop i l
drop_back l i h k = drop-cons l (i - 1) 0 (omega arith) ∙ ap (λ m. get_or l (i - 1) 0 ∷ drop m l) same
  where
    same : suc (i - 1) ≡ i
    same = omega arith

pub backed_step : {l l' : List ℕ} {n b : ℕ} {s : Back} {r : Spot} → 0 < s.left → Backed (take n l) l n s → b ≡ get_or l (s.left - 1) 0
    → Moved l l' n s.spot (back_step b (pass_in l n s.spot)) r → BackTo l l' n 1 (s.left - 1) (record { left = s.left - 1; spot = r })
backed_step {l} {l'} {n} {b} {s} {r} h k e m =
    let f : open_back (drop (s.left - 1) (take n l)) ≡ back_step (get_or (take n l) (s.left - 1) 0) (open_back (drop s.left (take n l)))
    = ap open_back (drop_back (take n l) s.left h (omega (arith, length-take n l, k.height, k.fits))) ∙ unfold open_back in refl in
    let g : get_or (take n l) (s.left - 1) 0 ≡ b = get_or-take n l (s.left - 1) 0 (omega (arith, k.height)) ∙ sym e in
    record {
      backed =
          record {
            codes = m.same;
            is = f ∙ ap (λ x. back_step x (open_back (drop s.left (take n l)))) g ∙ ap (back_step b) k.is ∙ m.is;
            room = omega (arith, k.room, m.cost);
            within = m.within;
            height = omega (arith, k.height, m.high);
            fits = omega (arith, k.fits, m.size);
          };
      lower = omega arith;
      whole = λ x. absurd (omega arith);
      size = m.size;
    }

-- ---- tests

pub second_less : (s t : ℕ) → s < t → ltb s t ≡ takes s t
second_less s t h = lt-ltb s t h ∙ sym (takes_lt s t h)

pub second_equal : (s t : ℕ) → t ≤ s → s ≡ t → eqb t 12 ≡ takes s t
unfolding takes
second_equal s t h e = rw (le-ltb s t h, eq-eqb s t e, star_is)

pub second_more : (s t : ℕ) → t ≤ s → (s ≡ t → ⊥) → eqb s t ≡ takes s t
second_more s t h k = ne_eqb s t k ∙ sym (takes_not s t h (λ e q. k e))

-- ---- open_back

pub record Backing (l₀ l : List ℕ) (n left : ℕ) (s : Back) : Type 0 where
  pub backed : Backed (take n l₀) l n s
  pub lower : s.left ≤ left
  pub size : length l ≡ length l₀

-- ---- open_all

pub backed_start : (l : List ℕ) (n : ℕ) → 4 * n ≤ length l → Backed (take n l) l n (record { left = n; spot = record { at = 3 * n; top = 0 } })
backed_start l n h =
    record {
      codes = refl;
      is = ap open_back (drop_of_length-le (take n l) {i = n} (omega (arith, length-take n l))) ∙ (unfold open_back stack_of in ap (λ x. pass (take x (drop (3 * n) l)) []) none);
      room = omega arith;
      within = omega arith;
      height = omega arith;
      fits = h;
    }
  where
    none : 0 ≡ 3 * n - 3 * n
    none = omega arith

pub opened_all : {l l₁ l₂ : List ℕ} {n m : ℕ} {b : Back} {o : Spot} → BackTo l l₁ n 0 m b → Opened l₁ l₂ n 0 b.spot o → OpenedAll l l₂ n o.at
unfolding opened_text
opened_all {l} {l₁} {l₂} {n} {m} {b} {o} k w =
    record {
      is = ap (λ x. (opens_after 0 x.text x.spine).text) (ap (λ i. open_back (drop i (take n l))) (sym (k.whole refl)) ∙ k.backed.is) ∙ ap (λ x. x.text) w.is;
      within = omega (arith, k.backed.within, w.moved, w.lower);
      size = w.size ∙ k.size;
    }

pub opened_none : (l : List ℕ) (n : ℕ) → n ≡ 0 → OpenedAll l l n 0
unfolding opened_text open_back opens_after
opened_none l n e = subst (λ x. OpenedAll l l x 0) (sym e) (record { is = refl; within = omega arith; size = refl })

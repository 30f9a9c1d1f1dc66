-- Laws of the pass in scratch and output.
use Prim.Native.Nat.{ℕ, zero, suc, ◌+◌, ◌-◌, ◌≤◌, ◌<◌}
use mathlib.Core.Bool.{Bool, true, false}
use mathlib.Core.List.{List, [], ◌∷◌, ◌++◌, append_assoc, append-nil}
use mathlib.Core.Path.{◌≡◌, refl, ap, sym, ◌∙◌, subst}
use native.Mathlib.Omega.{arith}
use native.Mathlib.Nat.{sub_self}
use native.Mathlib.Numerals.{add-one}
use lib.Dec.{eqb}
use lib.ListN.{length, take, drop, get_or, set, length-set, drop_of_length-le}
use lib.Seq.{take_all, drop-cons, set_split, get_or-set_same, get_or-set_other, drop-set-lt}
use borrow.Author.Tests.{ne_eqb, le-leb, lt-leb}
use Rattle.buffer.specs.Buffer.{part, over, Appended}
use Rattle.buffer.proofs.OverLaws.{over_nil}
use Rattle.buffer.proofs.WriteLaws.{appended_nil, appended_append}
use Rattle.rules.specs.Basics.{choose}
use Rattle.rules.proofs.Choose.{choose_true, choose_false}
use Rattle.group_rules.specs.Grouping.{takes}
use Rattle.group_rules.specs.Passes.{Pass, pass, closes_before, close_end, close_bracket, close_operator, forth_step, close_forth, closed_text}
use Rattle.group_close.specs.Forth.{stack_of, Room, close_until, Put, Pushed, Closed, Stepped, begins, Ready, ForthTo}
use Rattle.group_close.specs.declared.Spot.{Spot}
use Rattle.group_close.specs.declared.Forth.{Forth}

-- ---- put

pub put_fits : (x y : List ℕ) (at b : ℕ) → at < length x → y ≡ set x at b → Appended x y at (b ∷ []) (at + 1)
unfolding over
put_fits x y at b h e =
    record {
      next = refl;
      is = e ∙ set_split x at b h
          ∙ ap (λ y. take at x ++ y) (sym (ap (λ y. over y (b ∷ [])) (drop-cons x at 0 h) ∙ ap (λ y. b ∷ y) (over_nil (drop (suc at) x))));
    }

pub put_past : (x y : List ℕ) (at b : ℕ) → length x ≤ at → y ≡ x → Appended x y at (b ∷ []) (at + 1)
unfolding over
put_past x y at b h e =
    record {
      next = refl;
      is = e ∙ sym (ap (λ y. take at x ++ over y (b ∷ [])) (drop_of_length-le x {i = at} h) ∙ append-nil (take at x) ∙ take_all at x h);
    }

-- ---- the stack

pub stack_top : (l : List ℕ) (k : ℕ) → 0 < k → stack_of l k ≡ get_or l (k - 1) 0 ∷ stack_of l (k - 1)
stack_top l zero h = absurd (omega arith)
stack_top l (suc k) h = ap (λ m. stack_of l m) same ∙ unfold stack_of in refl
  where
    same : suc k ≡ suc (suc k - 1)
    same = omega arith

-- ---- close_until, close_before and close_end

pub record Closing (l out₀ out : List ℕ) (s₀ s : Spot) (close : List ℕ → List ℕ → Pass) : Type 0 where
  pub added : List ℕ
  pub is : (t : List ℕ) → close t (stack_of l s₀.top) ≡ close (t ++ added) (stack_of l s.top)
  pub wrote : Appended out₀ out s₀.length added s.length
  pub lower : s.top ≤ s₀.top
  pub moved : s.length + s.top ≡ s₀.length + s₀.top
  pub room : Room l s 0

pub closing_start : (l out : List ℕ) (s : Spot) (close : List ℕ → List ℕ → Pass) → Room l s 0 → Closing l out out s s close
closing_start l out s close r =
    record { added = []; is = λ t. ap (λ x. close x (stack_of l s.top)) (sym (append-nil t)); wrote = appended_nil out s.length; lower = omega arith; moved = refl; room = r }

module _ (p : ℕ → Bool) {l out₀ out : List ℕ} {s₀ s : Spot} (o : Closing l out₀ out s₀ s (close_until p)) where
  abbrev left : ℕ
  left = get_or l (s.top - 1) 0

  abbrev below : List ℕ
  below = stack_of l (s.top - 1)

  pub until_more : {out' : List ℕ} {r : Spot} (b : Bool) → 0 < s.top → b ≡ p left → b ≡ false
      → Put out out' (record { length = s.length; top = s.top - 1 }) 41 r → Closing l out₀ out' s₀ r (close_until p)
  until_more {out'} {r} b h e f w =
      let k : (t : List ℕ) → close_until p t (left ∷ below) ≡ close_until p (t ++ 41 ∷ []) below
      = λ t. unfold close_until in choose_false (p left) _ _ (sym e ∙ f) in
      record {
        added = o.added ++ 41 ∷ [];
        is = λ t. o.is t ∙ ap (close_until p (t ++ o.added)) (stack_top l s.top h) ∙ k (t ++ o.added)
            ∙ ap (λ x. close_until p x below) (append_assoc t o.added (41 ∷ []))
            ∙ ap (λ n. close_until p (t ++ (o.added ++ 41 ∷ [])) (stack_of l n)) (sym w.height);
        wrote = appended_append o.wrote w.wrote;
        lower = omega (arith, o.lower, w.height);
        moved = omega (arith, o.moved, w.wrote.next, w.height);
        room = record { height = omega (arith, o.room.height, w.height); counted = omega (arith, o.room.counted, w.wrote.next, w.height) };
      }

  closing_here : ((t : List ℕ) → close_until p t (stack_of l s.top) ≡ pass t (stack_of l s.top)) → Closed l out₀ out s₀ (close_until p) s
  closing_here e = record { added = o.added; is = λ t. o.is t ∙ e (t ++ o.added); wrote = o.wrote; lower = o.lower; moved = o.moved }

  pub until_stop : (b : Bool) → 0 < s.top → b ≡ p left → b ≡ true → Closed l out₀ out s₀ (close_until p) s
  until_stop b h e f =
      let k : (t : List ℕ) → close_until p t (left ∷ below) ≡ pass t (left ∷ below)
      = λ t. unfold close_until in choose_true (p left) _ _ (sym e ∙ f) in
      closing_here (λ t. ap (close_until p t) (stack_top l s.top h) ∙ k t ∙ ap (pass t) (sym (stack_top l s.top h)))

  pub until_end : s.top ≤ 0 → Closed l out₀ out s₀ (close_until p) s
  until_end h = closing_here (λ t. subst (λ x. close_until p t (stack_of l x) ≡ pass t (stack_of l x)) zero_top (unfold close_until stack_of in refl))
    where
      zero_top : 0 ≡ s.top
      zero_top = omega arith

closed_as : {l out out' : List ℕ} {s : Spot} {close close' : List ℕ → List ℕ → Pass} {r : Spot}
    → ((t sp : List ℕ) → close t sp ≡ close' t sp) → Closed l out out' s close' r → Closed l out out' s close r
closed_as {l} {out} {out'} {s} {close} {close'} {r} e w =
    record { added = w.added; is = λ t. e t (stack_of l s.top) ∙ w.is t; wrote = w.wrote; lower = w.lower; moved = w.moved }

before_until : (s : ℕ) (t sp : List ℕ) → closes_before s t sp ≡ close_until (λ x. takes x s) t sp
unfolding closes_before close_until
before_until s t [] = refl
before_until s t (x ∷ sp) = ap (choose (takes x s) (pass t (x ∷ sp))) (before_until s (t ++ 41 ∷ []) sp)

end_until : (t sp : List ℕ) → close_end t sp ≡ close_until (λ x. eqb x 0) t sp
unfolding close_end close_until
end_until t [] = refl
end_until t (x ∷ sp) = ap (choose (eqb x 0) (pass t (x ∷ sp))) (end_until (t ++ 41 ∷ []) sp)

pub closed_before : (b : ℕ) {l out out' : List ℕ} {s r : Spot} → Closed l out out' s (close_until (λ x. takes x b)) r
    → Closed l out out' s (closes_before b) r
closed_before b w = closed_as (before_until b) w

pub closed_end : {l out out' : List ℕ} {s r : Spot} → Closed l out out' s (close_until (λ x. eqb x 0)) r
    → Closed l out out' s close_end r
closed_end w = closed_as end_until w

-- ---- one byte

stack_pop : (l : List ℕ) (k : ℕ) → drop 1 (stack_of l k) ≡ stack_of l (k - 1)
unfolding stack_of
stack_pop l zero = refl
stack_pop l (suc k) = ap (stack_of l) same
  where
    same : k ≡ suc k - 1
    same = omega arith

stack_above : (l : List ℕ) (k p v : ℕ) → k ≤ p → stack_of (set l p v) k ≡ stack_of l k
unfolding stack_of
stack_above l zero p v h = refl
stack_above l (suc k) p v h =
    ap (λ x. x ∷ stack_of (set l p v) k) (get_or-set_other l p k v 0 (λ e. omega arith)) ∙ ap (λ x. get_or l k 0 ∷ x) (stack_above l k p v (omega arith))

stack_push : (l : List ℕ) (k v : ℕ) → k < length l → stack_of (set l k v) (k + 1) ≡ v ∷ stack_of l k
unfolding stack_of
stack_push l k v h =
    ap (stack_of (set l k v)) (add-one k) ∙ ap (λ x. x ∷ stack_of (set l k v) k) (get_or-set_same l k v 0 h) ∙ ap (λ x. v ∷ x) (stack_above l k k v (omega arith))

rest_set : (l : List ℕ) (k v top : ℕ) → k ≤ top → (a e : ℕ) → top < a → part (set l k v) a e ≡ part l a e
rest_set l k v top h a e g = ap (take (e - a)) (drop-set-lt a l k v (omega arith))

pub stepped_bracket : {l out out' : List ℕ} {k : ℕ} {s c : Spot} → Closed l out out' s close_end c → k ≡ c.top - 1
    → Stepped l l out out' 15 s (record { length = c.length; top = k })
stepped_bracket {l} {out} {out'} {k} {s} {c} w e =
    record {
      added = w.added;
      is = λ t. go t ∙ ap close_bracket (w.is t) ∙ (unfold close_bracket in ap (pass (t ++ w.added)) (stack_pop l c.top ∙ ap (stack_of l) (sym e)));
      wrote = w.wrote;
      high = omega (arith, w.lower);
      cost = omega (arith, w.moved);
      rest = λ a e h. refl;
      size = refl;
    }
  where
    go : (t : List ℕ) → forth_step (pass t (stack_of l s.top)) 15 ≡ close_bracket (close_end t (stack_of l s.top))
    go t = unfold forth_step choose in refl

-- what a push leaves
pushed_stack : {l l' : List ℕ} {b : ℕ} {s r : Spot} → Pushed l l' s b r → s.top < length l → stack_of l' r.top ≡ b ∷ stack_of l s.top
pushed_stack {l} {l'} {b} {s} {r} w h = ap (λ x. stack_of x r.top) w.is ∙ ap (stack_of (set l s.top b)) w.height ∙ stack_push l s.top b h

pushed_rest : {l l' : List ℕ} {b : ℕ} {s r : Spot} (top : ℕ) → Pushed l l' s b r → s.top ≤ top → (a e : ℕ) → top < a → part l' a e ≡ part l a e
pushed_rest {l} {l'} {b} {s} {r} top w h a e g = ap (λ x. part x a e) w.is ∙ rest_set l s.top b top h a e g

pushed_size : {l l' : List ℕ} {b : ℕ} {s r : Spot} → Pushed l l' s b r → length l' ≡ length l
pushed_size {l} {l'} {b} {s} {r} w = ap length w.is ∙ length-set l s.top b

pub stepped_opener : {l l' : List ℕ} {s r : Spot} (out : List ℕ) → Room l s 1 → Pushed l l' s 0 r → Stepped l l' out out 14 s r
stepped_opener {l} {l'} {s} {r} out h w =
    record {
      added = [];
      is = λ t. go t ∙ ap (λ x. pass x (0 ∷ stack_of l s.top)) (sym (append-nil t)) ∙ ap (pass (t ++ [])) (sym (pushed_stack w (omega (arith, h.height))));
      wrote = subst (Appended out out s.length []) (sym w.long) (appended_nil out s.length);
      high = omega (arith, w.height);
      cost = omega (arith, w.long, w.height);
      rest = pushed_rest s.top w (omega arith);
      size = pushed_size w;
    }
  where
    go : (t : List ℕ) → forth_step (pass t (stack_of l s.top)) 14 ≡ pass t (0 ∷ stack_of l s.top)
    go t = unfold forth_step choose in refl

forth_operator : (b : ℕ) (t sp : List ℕ) → b ≤ 12 → forth_step (pass t sp) b ≡ close_operator b (closes_before b t sp)
unfolding forth_step choose
forth_operator b t sp h = rw (ne_eqb b 15 (λ e. omega arith), ne_eqb b 14 (λ e. omega arith), le-leb b 12 h)

forth_plain : (b : ℕ) (t sp : List ℕ) → (b ≡ 15 → ⊥) → (b ≡ 14 → ⊥) → 12 < b → forth_step (pass t sp) b ≡ pass (t ++ b ∷ []) sp
unfolding forth_step choose
forth_plain b t sp h k g = rw (ne_eqb b 15 h, ne_eqb b 14 k, lt-leb b 12 g)

pub stepped_operator : (b : ℕ) {l l' out o₁ o₂ : List ℕ} {s c p r : Spot} → b ≤ 12 → Room l s 1 → Closed l out o₁ s (closes_before b) c
    → Put o₁ o₂ c 32 p → Pushed l l' p b r → Stepped l l' out o₂ b s r
stepped_operator b {l} {l'} {out} {o₁} {o₂} {s} {c} {p} {r} h k w u v =
    record {
      added = w.added ++ 32 ∷ [];
      is = λ t. forth_operator b t (stack_of l s.top) h ∙ ap (close_operator b) (w.is t) ∙ spread t;
      wrote = subst (Appended out o₂ s.length (w.added ++ 32 ∷ [])) (sym v.long) (appended_append w.wrote u.wrote);
      high = omega (arith, w.lower, u.height, v.height);
      cost = omega (arith, w.moved, u.wrote.next, u.height, v.long, v.height);
      rest = pushed_rest s.top v (omega (arith, w.lower, u.height));
      size = pushed_size v;
    }
  where
    spread : (t : List ℕ) → close_operator b (pass (t ++ w.added) (stack_of l c.top)) ≡ pass (t ++ (w.added ++ 32 ∷ [])) (stack_of l' r.top)
    spread t =
        unfold close_operator in (ap (λ x. pass x (b ∷ stack_of l c.top)) (append_assoc t w.added (32 ∷ []))
        ∙ ap (λ x. pass (t ++ (w.added ++ 32 ∷ [])) (b ∷ stack_of l x)) (sym u.height)
        ∙ ap (pass (t ++ (w.added ++ 32 ∷ []))) (sym (pushed_stack v (omega (arith, k.height, w.lower, u.height)))))

pub stepped_plain : (b : ℕ) {l out out' : List ℕ} {s r : Spot} → (b ≡ 15 → ⊥) → (b ≡ 14 → ⊥) → 12 < b → Put out out' s b r
    → Stepped l l out out' b s r
stepped_plain b {l} {out} {out'} {s} {r} h k g u =
    record {
      added = b ∷ [];
      is = λ t. forth_plain b t (stack_of l s.top) h k g ∙ ap (λ x. pass (t ++ b ∷ []) (stack_of l x)) (sym u.height);
      wrote = u.wrote;
      high = omega (arith, u.height);
      cost = omega (arith, u.wrote.next, u.height);
      rest = λ a e m. refl;
      size = refl;
    }

pub stepped_as : {l l' out out' : List ℕ} {b d : ℕ} {s r : Spot} → b ≡ d → Stepped l l' out out' d s r → Stepped l l' out out' b s r
stepped_as {l} {l'} {out} {out'} {b} {d} {s} {r} e w = subst (λ x. Stepped l l' out out' x s r) (sym e) w

-- ---- the bytes one after the other

part_cons : (l : List ℕ) (a e : ℕ) → a < e → e ≤ length l → part l a e ≡ get_or l a 0 ∷ part l (a + 1) e
part_cons l a e h k =
    ap (λ x. take (e - a) x) (drop-cons l a 0 (omega arith)) ∙ ap (λ m. take m (get_or l a 0 ∷ drop (suc a) l)) same ∙ ap (λ m. get_or l a 0 ∷ take (e - m) (drop m l)) (sym (add-one a))
  where
    same : e - a ≡ suc (e - suc a)
    same = omega arith

pub ready_room : {l : List ℕ} {end : ℕ} {f : Forth} → f.at < end → Ready l end f → Room l f.spot 1
ready_room h r = record { height = omega (arith, r.height, r.fits); counted = omega (arith, r.counted, r.small) }

pub forth_step_law : {l l' out out' : List ℕ} {end b : ℕ} (s : Forth) {r : Spot} → s.at < end → Ready l end s → b ≡ get_or l s.at 0
    → Stepped l l' out out' b s.spot r → ForthTo l l' out out' end 1 s (record { at = s.at + 1; spot = r })
forth_step_law {l} {l'} {out} {out'} {end} {b} f {r} h k e s =
    record {
      added = s.added;
      is = λ t. ap (close_forth (pass t (stack_of l f.spot.top))) (part_cons l f.at end h k.fits ∙ ap (λ x. x ∷ part l (f.at + 1) end) (sym e))
          ∙ one t (part l (f.at + 1) end) ∙ ap (λ p. close_forth p (part l (f.at + 1) end)) (s.is t)
          ∙ ap (close_forth (pass (t ++ s.added) (stack_of l' r.top))) (sym (s.rest (f.at + 1) end (omega (arith, k.height))));
      wrote = s.wrote;
      further = omega arith;
      ready =
          record {
            within = omega arith;
            fits = omega (arith, k.fits, s.size);
            height = omega (arith, s.high, k.height);
            counted = omega (arith, s.cost, k.counted);
            small = k.small;
          };
      whole = λ x. absurd (omega arith);
      size = s.size;
    }
  where
    one : (t bs : List ℕ) → close_forth (pass t (stack_of l f.spot.top)) (b ∷ bs) ≡ close_forth (forth_step (pass t (stack_of l f.spot.top)) b) bs
    one t bs = unfold close_forth in refl

pub record Forthing (l₀ l out₀ out : List ℕ) (end : ℕ) (s₀ s : Forth) : Type 0 where
  pub added : List ℕ
  pub is : (t : List ℕ) → close_forth (pass t (stack_of l₀ s₀.spot.top)) (part l₀ s₀.at end)
      ≡ close_forth (pass (t ++ added) (stack_of l s.spot.top)) (part l s.at end)
  pub wrote : Appended out₀ out s₀.spot.length added s.spot.length
  pub further : s₀.at ≤ s.at
  pub ready : Ready l end s
  pub size : length l ≡ length l₀

pub forthing_start : (l out : List ℕ) (end : ℕ) (s : Forth) → Ready l end s → Forthing l l out out end s s
forthing_start l out end s r =
    record {
      added = [];
      is = λ t. ap (λ x. close_forth (pass x (stack_of l s.spot.top)) (part l s.at end)) (sym (append-nil t));
      wrote = appended_nil out s.spot.length;
      further = omega arith;
      ready = r;
      size = refl;
    }

module _ {l₀ l out₀ out : List ℕ} {end : ℕ} {s₀ s : Forth} (o : Forthing l₀ l out₀ out end s₀ s) where
  pub forthing_more : {l' out' : List ℕ} {depth : ℕ} {r : Forth} → ForthTo l l' out out' end depth s r → Forthing l₀ l' out₀ out' end s₀ r
  forthing_more {l'} {out'} {depth} {r} f =
      record {
        added = o.added ++ f.added;
        is = λ t. o.is t ∙ f.is (t ++ o.added) ∙ ap (λ x. close_forth (pass x (stack_of l' r.spot.top)) (part l' r.at end)) (append_assoc t o.added f.added);
        wrote = appended_append o.wrote f.wrote;
        further = omega (arith, o.further, f.further);
        ready = f.ready;
        size = f.size ∙ o.size;
      }

  forthing_here : (depth : ℕ) → (depth ≡ 0 → s.at ≡ end) → ForthTo l₀ l out₀ out end depth s₀ s
  forthing_here depth w =
      record { added = o.added; is = o.is; wrote = o.wrote; further = o.further; ready = o.ready; whole = w; size = o.size }

pub forth_none : {l out : List ℕ} {end : ℕ} (s : Forth) → Ready l end s → ForthTo l l out out end 1 s s
forth_none {l} {out} {end} s r = forthing_here (forthing_start l out end s r) 1 (λ f. absurd (omega arith))

no_stack : (l : List ℕ) → stack_of l 0 ≡ []
unfolding stack_of
no_stack l = refl

no_more : (p : Pass) → close_forth p [] ≡ p
unfolding close_forth
no_more p = refl

closed_text_law : (bs : List ℕ) → closed_text bs ≡ (close_end (close_forth (pass [] []) bs).text (close_forth (pass [] []) bs).spine).text
unfolding closed_text
closed_text_law bs = refl

pub closed_all : {l l' out o₁ o₂ : List ℕ} {end from : ℕ} {f : Forth} {c : Spot} → ForthTo l l' out o₁ end 0 (begins from) f
    → Closed l' o₁ o₂ f.spot close_end c → Appended out o₂ 0 (closed_text (part l from end)) c.length
closed_all {l} {l'} {out} {o₁} {o₂} {end} {from} {f} {c} k w =
    subst (λ x. Appended out o₂ 0 x c.length) (sym text) (appended_append k.wrote w.wrote)
  where
    none : part l' f.at end ≡ []
    none = ap (λ x. part l' x end) (k.whole refl) ∙ ap (λ x. take x (drop end l')) (sub_self end)

    forth : close_forth (pass [] []) (part l from end) ≡ pass k.added (stack_of l' f.spot.top)
    forth = ap (λ x. close_forth (pass [] x) (part l from end)) (sym (no_stack l)) ∙ k.is [] ∙ ap (close_forth (pass k.added (stack_of l' f.spot.top))) none ∙ no_more (pass k.added (stack_of l' f.spot.top))

    text : closed_text (part l from end) ≡ k.added ++ w.added
    text = closed_text_law (part l from end) ∙ ap (λ q. (close_end q.text q.spine).text) forth ∙ ap (λ q. q.text) (w.is k.added)

-- Laws of the gap at the start of a text.
--     cut_none, cut_some   a text is its gap, or its gap, the first kept character, and what is after it
--     cut_at               that is the only way to take a text apart so
use Prim.Native.Nat.{ℕ}
use mathlib.Core.Bool.{Bool, true, false}
use mathlib.Core.List.{List, [], ◌∷◌, ◌++◌, append_cancel_left}
use mathlib.Core.Path.{◌≡◌, refl, sym, ap, ◌∙◌, subst}
use native.Mathlib.Omega.{arith}
use lib.ListN.{length}
use Rattle.rules.specs.Basics.{choose, cons_if, keep}
use Rattle.rules.specs.Demand3.{is_kept, strike}
use Rattle.gaps.specs.Gaps.{gap, after, Unkept}

pub record Cut (l : List ℕ) (k : ℕ) (ks : List ℕ) : Type 0 where
  pub chars : l ≡ gap l ++ k ∷ after l
  pub kept : is_kept k ≡ true
  pub rest : strike (after l) ≡ ks

pub gap_kept : (c : ℕ) (l : List ℕ) → is_kept c ≡ true → gap (c ∷ l) ≡ []
unfolding gap choose
gap_kept c l e = rw e

pub gap_other : (c : ℕ) (l : List ℕ) → is_kept c ≡ false → gap (c ∷ l) ≡ c ∷ gap l
unfolding gap choose
gap_other c l e = rw e

pub after_kept : (c : ℕ) (l : List ℕ) → is_kept c ≡ true → after (c ∷ l) ≡ l
unfolding after choose
after_kept c l e = rw e

pub after_other : (c : ℕ) (l : List ℕ) → is_kept c ≡ false → after (c ∷ l) ≡ after l
unfolding after choose
after_other c l e = rw e

pub strike_kept : (c : ℕ) (l : List ℕ) → is_kept c ≡ true → strike (c ∷ l) ≡ c ∷ strike l
unfolding strike keep
strike_kept c l e = ap (λ (t : Bool). cons_if t c (keep is_kept l)) e

pub strike_other : (c : ℕ) (l : List ℕ) → is_kept c ≡ false → strike (c ∷ l) ≡ strike l
unfolding strike keep
strike_other c l e = ap (λ (t : Bool). cons_if t c (keep is_kept l)) e

pub strike_nil : strike [] ≡ []
unfolding strike keep
strike_nil = refl

pub unkept_gap : (l : List ℕ) → Unkept (gap l)
unfolding gap
unkept_gap [] = tt
unkept_gap (c ∷ l) = go (is_kept c) refl (unkept_gap l)
  where
    go : (t : Bool) → is_kept c ≡ t → Unkept (gap l) → Unkept (gap (c ∷ l))
    go true e r = subst Unkept (sym (gap_kept c l e)) tt
    go false e r = subst Unkept (sym (gap_other c l e)) (e, r)

pub strike_unkept : (g l : List ℕ) → Unkept g → strike (g ++ l) ≡ strike l
strike_unkept [] l u = refl
strike_unkept (c ∷ g) l u = strike_other c (g ++ l) u.0 ∙ strike_unkept g l u.1

pub cut_none : (l : List ℕ) → strike l ≡ [] → gap l ≡ l
unfolding gap
cut_none [] e = refl
cut_none (c ∷ l) e = go (is_kept c) refl (cut_none l)
  where
    go : (t : Bool) → is_kept c ≡ t → (strike l ≡ [] → gap l ≡ l) → gap (c ∷ l) ≡ c ∷ l
    go true k r = absurd (omega (arith, ap length (sym (strike_kept c l k) ∙ e)))
    go false k r = gap_other c l k ∙ ap {B = List ℕ} (λ m. c ∷ m) (r (sym (strike_other c l k) ∙ e))

pub cut_some : (l : List ℕ) (k : ℕ) (ks : List ℕ) → strike l ≡ k ∷ ks → Cut l k ks
cut_some [] k ks e = absurd (omega (arith, ap length (sym strike_nil ∙ e)))
cut_some (c ∷ l) k ks e = go (is_kept c) refl (cut_some l k ks)
  where
    go : (t : Bool) → is_kept c ≡ t → (strike l ≡ k ∷ ks → Cut l k ks) → Cut (c ∷ l) k ks
    go true h f =
        let q : c ∷ strike l ≡ k ∷ ks = sym (strike_kept c l h) ∙ e in
        let z : c ≡ k = cc in
        let y : strike l ≡ ks = cc in
        record {
          chars = rw (gap_kept c l h, after_kept c l h, z);
          kept = ap is_kept (sym z) ∙ h;
          rest = ap strike (after_kept c l h) ∙ y;
        }
    go false h f =
        let r : Cut l k ks = f (sym (strike_other c l h) ∙ e) in
        record {
          chars = ap {B = List ℕ} (λ m. c ∷ m) r.chars
              ∙ sym (ap (λ (g : List ℕ). g ++ k ∷ after (c ∷ l)) (gap_other c l h)
              ∙ ap {B = List ℕ} (λ m. c ∷ gap l ++ k ∷ m) (after_other c l h));
          kept = r.kept;
          rest = ap strike (after_other c l h) ∙ r.rest;
        }

-- a text taken apart at its first kept character
pub record CutAt (l : List ℕ) (k : ℕ) (m : List ℕ) : Type 0 where
  pub after : after l ≡ m
  pub struck : strike l ≡ k ∷ strike m

pub cut_at : (l : List ℕ) (k : ℕ) (m : List ℕ) → l ≡ gap l ++ k ∷ m → is_kept k ≡ true → CutAt l k m
cut_at l k m e h =
    let s : strike l ≡ k ∷ strike m = ap strike e ∙ strike_unkept (gap l) (k ∷ m) (unkept_gap l) ∙ strike_kept k m h in
    let r : Cut l k (strike m) = cut_some l k (strike m) s in
    let q : k ∷ after l ≡ k ∷ m = append_cancel_left (gap l) (k ∷ after l) (k ∷ m) (sym r.chars ∙ e) in
    record { after = cc; struck = s }

-- a text starts with its gap
pub gap_rest : (l : List ℕ) → (r : List ℕ) × (l ≡ gap l ++ r)
unfolding gap
gap_rest [] = ([], refl)
gap_rest (c ∷ l) = go (is_kept c) refl (gap_rest l)
  where
    go : (t : Bool) → is_kept c ≡ t → (r : List ℕ) × (l ≡ gap l ++ r) → (r : List ℕ) × (c ∷ l ≡ gap (c ∷ l) ++ r)
    go true e q = (c ∷ l, sym (ap (λ (g : List ℕ). g ++ c ∷ l) (gap_kept c l e)))
    go false e q = (q.0, ap {B = List ℕ} (λ m. c ∷ m) q.1 ∙ sym (ap (λ (g : List ℕ). g ++ q.0) (gap_other c l e)))

pub gap_front : (l : List ℕ) → l ≡ gap l ++ (gap_rest l).0
gap_front l = (gap_rest l).1

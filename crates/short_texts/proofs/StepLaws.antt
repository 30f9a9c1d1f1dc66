-- The loops of `text_of` and `give`; a step by its place.
--     Spelling    i characters are written, and left is the number of the others
--     Looking     all texts of fewer than n characters are passed, and left is the number among the others
use Prim.Native.Nat.{ℕ, suc, ◌+◌, ◌-◌, ◌*◌, ◌^◌, ◌/◌, ◌%◌, ◌≤◌, ◌<◌, zero-le}
use native.Mathlib.Nat.{sub-zero, pow-succ', pow-le-pow_right, mod-lt, mul-div_cancel_left}
use native.Mathlib.Numerals.{add-one}
use native.Mathlib.Omega.{arith}
use mathlib.Core.List.{List, [], ◌∷◌, ◌++◌, append-nil, append_assoc}
use mathlib.Core.Logic.{◌⊎◌, inl, inr}
use mathlib.Core.Path.{◌≡◌, refl, sym, ap, ◌∙◌}
use Rattle.std.specs.Prelude.{Some, None}
use lib.ListN.{length, get_or, take, drop, set, replicate, length-set, take-append-drop}
use lib.Seq.{take-suc-set, drop-set-lt, drop-drop}
use borrow.Author.Tests.{lt-ltb, le-ltb}
use Rattle.utf8.proofs.Tests.{split}
use Rattle.rules.specs.Call.{filled}
use Rattle.rules.proofs.Choose.{choose_true, choose_false}
use Rattle.short_texts.specs.declared.Place.{Place}
use Rattle.short_texts.specs.declared.Given.{Given}
use Rattle.short_texts.specs.Texts.{letters, of_length, shorter, texts}
use Rattle.short_texts.specs.Steps.{Numbered, place_at, given, step_of}
use Rattle.short_texts.proofs.TextLaws.{length_shorter, weight_pos, quotient_small}
use Rattle.short_texts.proofs.TextLaws.{of_at, of_none, of_size, shorter_grows, texts_at}

-- ---- `text_of`

pub record Spelling (n number : ℕ) (t : List ℕ) (left w i : ℕ) : Type 0 where
  pub few : n ≤ 6
  pub within : i ≤ n
  pub weighs : w ≡ 12 ^ (n - i)
  pub small : left < w
  pub is : get_or (of_length n) number [] ≡ take i t ++ get_or (of_length (n - i)) left []
  pub rest : drop i t ≡ replicate (6 - i) 0
  pub long : length t ≡ 6

pub spelling_start : (n w number : ℕ) → Numbered n w number → Spelling n number (replicate 6 0) number w 0
spelling_start n w number h =
    record {
      few = h.few;
      within = zero-le;
      weighs = rw sub-zero h.weighs;
      small = h.small;
      is = rw sub-zero;
      rest = refl;
      long = refl;
    }

module _ (n number : ℕ) (t : List ℕ) (left w i : ℕ) (r : Spelling n number t left w i) (h : i < n) where
  down : n - i ≡ suc (n - (i + 1))
  down = omega arith

  weigh : w ≡ 12 ^ suc (n - (i + 1))
  weigh = r.weighs ∙ ap (λ (k : ℕ). 12 ^ k) down

  pub spelling_weight : w / 12 ≡ 12 ^ (n - (i + 1))
  spelling_weight = rw (weigh, pow-succ') (mul-div_cancel_left (12 ^ (n - (i + 1))) (omega arith))

  pub spelling_pos : 0 < w / 12
  spelling_pos = rw spelling_weight (weight_pos (n - (i + 1)))

  below : left < 12 ^ suc (n - (i + 1))
  below = omega (arith, r.small, weigh)

  pub spelling_letter : left / (w / 12) < 12
  spelling_letter = rw spelling_weight (quotient_small (n - (i + 1)) left below)

  pub spelling_more : (c : ℕ) → c ≡ get_or letters (left / (w / 12)) 0
      → Spelling n number (set t i c) (left % (w / 12)) (w / 12) (i + 1)
  spelling_more c e =
      let long : i < length t = omega (arith, r.long, r.few) in
      let a : get_or (of_length (n - i)) left [] ≡ c ∷ get_or (of_length (n - (i + 1))) (left % (w / 12)) [] =
      ap (λ (k : ℕ). get_or (of_length k) left []) down ∙ of_at (n - (i + 1)) left below ∙ rw (e, spelling_weight) in
      let f : take (i + 1) (set t i c) ≡ take i t ++ (c ∷ []) = rw add-one (take-suc-set t i c long) in
      let g : drop (i + 1) (set t i c) ≡ drop (i + 1) t = drop-set-lt (i + 1) t i c (omega arith) in
      record {
        few = r.few;
        within = omega arith;
        weighs = spelling_weight;
        small = mod-lt left spelling_pos;
        is = r.is ∙ rw (a, f, append_assoc);
        rest = g ∙ tail;
        long = length-set t i c ∙ r.long;
      }
    where
      tail : drop (i + 1) t ≡ replicate (6 - (i + 1)) 0
      tail =
          let k : 6 - i ≡ suc (6 - (i + 1)) = omega (arith, r.few) in
          sym (drop-drop 1 i t) ∙ ap (drop 1) (r.rest ∙ ap (λ (m : ℕ). replicate m 0) k)

pub spelling_end : (n w₀ number : ℕ) (t : List ℕ) (left w i : ℕ)
    → Numbered n w₀ number → Spelling n number t left w i → n ≤ i
    → t ≡ filled 6 (get_or (of_length n) number [])
unfolding filled
spelling_end n w₀ number t left w i h r k =
    let e : i ≡ n = omega (arith, r.within) in
    let d : n - i ≡ 0 = omega arith in
    let s : length (get_or (of_length n) number []) ≡ n = of_size n number (rw h.weighs at h.small) in
    let f : get_or (of_length n) number [] ≡ take i t =
    r.is ∙ ap (λ (m : ℕ). take i t ++ get_or (of_length m) left []) d
    ∙ ap (λ (l : List ℕ). take i t ++ l) (of_none left) ∙ append-nil (take i t) in
    sym (take-append-drop i t) ∙ rw (r.rest, s, f, e)

-- ---- `give`

pub record Looking (number n w left : ℕ) : Type 0 where
  pub within : n < 7
  pub weighs : w ≡ 12 ^ n
  pub is : number ≡ length (shorter n) + left

pub looking_start : (number : ℕ) → Looking number 0 1 number
unfolding shorter
looking_start number = record { within = omega arith; weighs = refl; is = omega arith }

module _ (number n w left : ℕ) (r : Looking number n w left) where
  pub looking_small : w ≤ 2985984
  looking_small = rw r.weighs (pow-le-pow_right {n = 12} (omega arith) {i = n} {j = 6} (omega (arith, r.within)))

  pub looking_more : number < length texts → w ≤ left → Looking number (n + 1) (w * 12) (left - w)
  unfolding texts
  looking_more h k =
      let e : length (shorter (suc n)) ≤ number = omega (arith, r.is, r.weighs, length_shorter n) in
      record {
        within = go e (split (suc n) 7);
        weighs = rw (r.weighs, add-one, pow-succ') (omega arith);
        is = rw add-one (omega (arith, r.is, r.weighs, length_shorter n));
      }
    where
      go : length (shorter (suc n)) ≤ number → (suc n < 7) ⊎ (7 ≤ suc n) → n + 1 < 7
      go e (inl l) = omega arith
      go e (inr l) = absurd (omega (arith, shorter_grows (suc n) 7 l))

  pub looking_numbered : left < w → Numbered n w left
  looking_numbered k = record { few = omega (arith, r.within); weighs = r.weighs; small = k }

  pub looking_end : (t : List ℕ) → left < w → t ≡ filled 6 (get_or (of_length n) left [])
      → ◌≡◌ {A = Given} (record { size = n; text = t; next = place_at (number + 1) })
      (given (get_or texts number []) (number + 1))
  looking_end t k e =
      let b : left < 12 ^ n = rw r.weighs at k in
      let f : get_or texts number [] ≡ get_or (of_length n) left [] = rw r.is (texts_at n left r.within b) in
      let g : length (get_or texts number []) ≡ n = ap length f ∙ of_size n left b in
      let d : t ≡ filled 6 (get_or texts number []) = e ∙ ap (filled 6) (sym f) in
      rw (← g, d)

-- ---- `step`

pub step_in : (p : Place) → p.number < length texts
    → step_of p ≡ Some (given (get_or texts p.number []) (p.number + 1))
unfolding step_of
step_in p h = choose_true _ _ _ (lt-ltb _ _ h)

-- any other place is the end
pub step_out : (p : Place) → length texts ≤ p.number → step_of p ≡ None
unfolding step_of
step_out p h = choose_false _ _ _ (le-ltb _ _ h)

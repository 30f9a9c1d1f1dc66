-- From the start, each step with the place that the one before it handed on: the texts come in the list's order, each
-- once, and then the end.
--     whole_run    all that is promised of the run
--     gave         what a step tells its caller
--     few_in       the texts of at most n characters stand first
use Prim.Native.Nat.{ℕ, zero, suc, ◌+◌, ◌-◌, ◌*◌, ◌^◌, ◌/◌, ◌%◌, ◌≤◌, ◌<◌}
use native.Mathlib.Nat.{pow-succ', div-add-mod', mod-lt, not-suc-le-zero, le_of_suc-le-suc, suc-mul, mul-le-mul_right}
use native.Mathlib.Numerals.{add-one}
use native.Mathlib.Omega.{arith}
use mathlib.Core.Bool.{Bool, true, false, not, ◌&&◌, true≢false}
use mathlib.Core.Logic.{◌⊎◌, inl, inr}
use mathlib.Core.List.{List, [], ◌∷◌, ◌++◌, head-eq_of_cons-eq, tail-eq_of_cons-eq}
use mathlib.Core.Path.{◌≡◌, refl, sym, ap, ◌∙◌}
use Rattle.std.specs.Prelude.{Option, Some, None}
use lib.Dec.{eqb}
use lib.ListN.{length, get_or, take, replicate, length-append}
use lib.Seq.{take-suc, take_all, take-append_seam}
use borrow.Author.Tests.{eq-eqb}
use Rattle.utf8.proofs.Tests.{split, and_left, and_right}
use Rattle.rules.specs.Call.{filled}
use Rattle.short_texts.specs.declared.Place.{Place}
use Rattle.short_texts.specs.declared.Given.{Given}
use Rattle.short_texts.specs.Texts.{letters, of_length, shorter, texts, AllLetters, Short}
use Rattle.short_texts.specs.Steps.{place_at, given, step_of, handed_on, place_after, add_given, given_by, Comes, WholeRun}
use Rattle.short_texts.proofs.StepLaws.{step_in, step_out}
use Rattle.short_texts.proofs.TextLaws.{length_of, length_shorter, length_texts, led_at, weight_pos}
use Rattle.short_texts.proofs.TextLaws.{quotient_small, of_at, of_none, of_size}
use Rattle.short_texts.proofs.TextLaws.{shorter_in, shorter_at, shorter_grows, texts_in, texts_at}

-- ---- the steps

place_in : (k : ℕ) → k ≤ length texts → place_after k ≡ place_at k
unfolding place_after
place_in zero h = refl
place_in (suc k) h =
    ap (λ (p : Place). handed_on p (step_of p)) (place_in k (omega arith))
    ∙ ap (handed_on (place_at k)) (step_in (place_at k) (omega arith))
    ∙ ap place_at (add-one k)

place_out : (k : ℕ) → length texts ≤ k → place_after k ≡ place_at (length texts)
unfolding place_after
place_out zero h = absurd (omega (arith, length_texts))
place_out (suc k) h = go (split k (length texts)) (λ l. place_out k l)
  where
    go : (k < length texts) ⊎ (length texts ≤ k) → (length texts ≤ k → place_after k ≡ place_at (length texts))
        → handed_on (place_after k) (step_of (place_after k)) ≡ place_at (length texts)
    go (inl l) f =
        let e : suc k ≡ length texts = omega arith in
        place_in (suc k) l ∙ ap place_at e
    go (inr l) f =
        ap (λ (p : Place). handed_on p (step_of p)) (f l)
        ∙ ap (handed_on (place_at (length texts))) (step_out (place_at (length texts)) (omega arith))

-- the end is told after the last text, and from then on
end_out : (k : ℕ) → length texts ≤ k → step_of (place_after k) ≡ None
end_out k h = step_out (place_after k) (omega (arith, ap (λ (p : Place). p.number) (place_out k h)))

stays : (k : ℕ) → length texts ≤ k → place_after (suc k) ≡ place_after k
unfolding place_after
stays k h = ap (handed_on (place_after k)) (end_out k h)

more_in : (k : ℕ) → k < length texts → step_of (place_after k) ≡ Some (given (get_or texts k []) (k + 1))
more_in k h = ap step_of (place_in k (omega arith)) ∙ step_in (place_at k) h

-- the texts that the first k steps give are the list's first k, or all
given_by_law : (k : ℕ) → given_by k ≡ take k texts
unfolding given_by filled
given_by_law zero = refl
given_by_law (suc k) = go (split k (length texts)) (given_by_law k)
  where
    go : (k < length texts) ⊎ (length texts ≤ k) → given_by k ≡ take k texts → given_by (suc k) ≡ take (suc k) texts
    go (inl l) f =
        ap (λ (g : Option Given). add_given g (given_by k)) (more_in k l)
        ∙ rw (take-append_seam, f) (sym (take-suc texts k [] l))
    go (inr l) f =
        ap (λ (g : Option Given). add_given g (given_by k)) (end_out k l)
        ∙ f
        ∙ take_all k texts l
        ∙ sym (take_all (suc k) texts (omega arith))

given_all : (k : ℕ) → length texts ≤ k → given_by k ≡ texts
given_all k h = given_by_law k ∙ take_all k texts h

-- ---- each text once, and no other

-- no two of the characters are equal: a test that is computed once
absent : ℕ → List ℕ → Bool
absent c [] = true
absent c (d ∷ ds) = not (eqb c d) && absent c ds

distinct : List ℕ → Bool
distinct [] = true
distinct (c ∷ cs) = absent c cs && distinct cs

not_there : (c : ℕ) (ds : List ℕ) (i : ℕ) → absent c ds ≡ true → i < length ds → c ≡ get_or ds i 0 → ⊥
unfolding absent
not_there c [] i a h e = not-suc-le-zero h
not_there c (d ∷ ds) zero a h e =
    true≢false (sym (and_left (not (eqb c d)) (absent c ds) a) ∙ ap not (eq-eqb c d e))
not_there c (d ∷ ds) (suc i) a h e = not_there c ds i (and_right (not (eqb c d)) (absent c ds) a) (le_of_suc-le-suc h) e

distinct_at : (cs : List ℕ) (i j : ℕ) → distinct cs ≡ true → i < length cs → j < length cs
    → get_or cs i 0 ≡ get_or cs j 0 → i ≡ j
unfolding distinct
distinct_at [] i j d h k e = absurd (not-suc-le-zero h)
distinct_at (c ∷ cs) zero zero d h k e = refl
distinct_at (c ∷ cs) zero (suc j) d h k e =
    absurd (not_there c cs j (and_left (absent c cs) (distinct cs) d) (le_of_suc-le-suc k) e)
distinct_at (c ∷ cs) (suc i) zero d h k e =
    absurd (not_there c cs i (and_left (absent c cs) (distinct cs) d) (le_of_suc-le-suc h) (sym e))
distinct_at (c ∷ cs) (suc i) (suc j) d h k e =
    ap suc (distinct_at cs i j (and_right (absent c cs) (distinct cs) d) (le_of_suc-le-suc h) (le_of_suc-le-suc k) e)

letters_distinct : distinct letters ≡ true
unfolding distinct absent
letters_distinct = refl

of_once : (n i j : ℕ) → i < 12 ^ n → j < 12 ^ n → get_or (of_length n) i [] ≡ get_or (of_length n) j [] → i ≡ j
of_once zero i j h k e = omega arith
of_once (suc n) i j h k e =
    let s = sym (of_at n i h) ∙ e ∙ of_at n j k in
    let q : i / 12 ^ n ≡ j / 12 ^ n =
    distinct_at letters (i / 12 ^ n) (j / 12 ^ n) letters_distinct
    (quotient_small n i h) (quotient_small n j k) (head-eq_of_cons-eq s) in
    let r : i % 12 ^ n ≡ j % 12 ^ n =
    of_once n (i % 12 ^ n) (j % 12 ^ n) (mod-lt i (weight_pos n)) (mod-lt j (weight_pos n)) (tail-eq_of_cons-eq s) in
    sym (div-add-mod' i (12 ^ n)) ∙ rw (q, r) (div-add-mod' j (12 ^ n))

-- where the k-th text stands: among those of n characters it has the number r
pub record Stands (m k : ℕ) : Type 0 where
  pub n : ℕ
  pub r : ℕ
  pub few : n < m
  pub small : r < 12 ^ n
  pub is : k ≡ length (shorter n) + r

stands : (m k : ℕ) → k < length (shorter m) → Stands m k
stands zero k h = absurd (unfold shorter in not-suc-le-zero h)
stands (suc m) k h = go (split k (length (shorter m))) (λ l. stands m k l)
  where
    go : (k < length (shorter m)) ⊎ (length (shorter m) ≤ k) → (k < length (shorter m) → Stands m k) → Stands (suc m) k
    go (inl l) f =
        let s = f l in
        record { n = s.n; r = s.r; few = omega (arith, s.few); small = s.small; is = s.is }
    go (inr l) f =
        record {
          n = m;
          r = k - length (shorter m);
          few = omega arith;
          small = omega (arith, length_shorter m);
          is = omega arith;
        }

pub text_stands : (k : ℕ) → k < length texts → Stands 7 k
unfolding texts
text_stands = stands 7

stands_text : (k : ℕ) (s : Stands 7 k) → get_or texts k [] ≡ get_or (of_length s.n) s.r []
stands_text k s = ap (λ (i : ℕ). get_or texts i []) s.is ∙ texts_at s.n s.r s.few s.small

stands_size : (k : ℕ) (s : Stands 7 k) → length (get_or texts k []) ≡ s.n
stands_size k s = ap length (stands_text k s) ∙ of_size s.n s.r s.small

-- no text comes twice
comes_once : (i j : ℕ) → i < length texts → j < length texts → get_or texts i [] ≡ get_or texts j [] → i ≡ j
comes_once i j h k e =
    let s = text_stands i h in
    let t = text_stands j k in
    let d : s.n ≡ t.n = sym (stands_size i s) ∙ ap length e ∙ stands_size j t in
    let f : get_or (of_length t.n) s.r [] ≡ get_or (of_length t.n) t.r [] =
    ap (λ (m : ℕ). get_or (of_length m) s.r []) (sym d) ∙ sym (stands_text i s) ∙ e ∙ stands_text j t in
    let b : s.r < 12 ^ t.n = rw d at s.small in
    let r : s.r ≡ t.r = of_once t.n s.r t.r b t.small f in
    s.is ∙ rw (d, r) (sym t.is)

of_letters : (n m : ℕ) → m < 12 ^ n → AllLetters (get_or (of_length n) m [])
unfolding AllLetters
of_letters zero m h = rw of_none tt
of_letters (suc n) m h =
    rw (of_at n m h)
    ((m / 12 ^ n, quotient_small n m h, refl), of_letters n (m % 12 ^ n) (mod-lt m (weight_pos n)))

-- no other text comes
comes_short : (k : ℕ) → k < length texts → Short (get_or texts k [])
comes_short k h =
    let s = text_stands k h in
    record {
      letters = rw (stands_text k s) (of_letters s.n s.r s.small);
      few = omega (arith, stands_size k s, s.few);
    }

-- every such text comes
record Has (t : List ℕ) : Type 0 where
  at : ℕ
  small : at < 12 ^ length t
  is : get_or (of_length (length t)) at [] ≡ t

has : (t : List ℕ) → AllLetters t → Has t
unfolding AllLetters of_length
has [] h = record { at = 0; small = omega arith; is = refl }
has (c ∷ t) h =
    let r = has t h.1 in
    let q = h.0.0 in
    let b : q < 12 = h.0.1 in
    record {
      at = q * 12 ^ length t + r.at;
      small = omega (
        arith,
        pow-succ' 12 (length t),
        r.small,
        suc-mul q (12 ^ length t),
        mul-le-mul_right (12 ^ length t) b,
      );
      is = led_at letters (of_length (length t)) (12 ^ length t) (length_of (length t)) q r.at b r.small
          ∙ rw (h.0.2, r.is);
    }

short_comes : (t : List ℕ) → Short t → Comes t
short_comes t s =
    let h = has t s.letters in
    let b : length t < 7 = omega (arith, s.few) in
    record {
      at = length (shorter (length t)) + h.at;
      within = texts_in (length t) h.at b h.small;
      is = texts_at (length t) h.at b h.small ∙ h.is;
    }

pub whole_run : WholeRun
whole_run =
    record {
      many = length_texts;
      first = given_by_law;
      all = given_all;
      comes = short_comes;
      once = comes_once;
      only = comes_short;
      end = λ k h. (end_out k h, stays k h);
      other = λ p h. (step_out p h, ap (handed_on p) (step_out p h));
    }

-- ---- for a caller: what a step tells

-- a text came: it is the list's, and the next place is one further
pub record Gave (p : Place) (g : Given) : Type 0 where
  pub within : p.number < length texts
  pub is : take g.size g.text ≡ get_or texts p.number []
  pub size : length (get_or texts p.number []) ≡ g.size
  pub fits : g.size ≤ length g.text
  pub next : g.next.number ≡ p.number + 1

module _ (p : Place) where
  pub gave : (g : Given) → Some g ≡ step_of p → Gave p g
  unfolding filled
  gave g e = go (split p.number (length texts))
    where
      go : (p.number < length texts) ⊎ (length texts ≤ p.number) → Gave p g
      go (inl h) =
          let t : List ℕ = get_or texts p.number [] in
          let y : Some g ≡ Some (given t (p.number + 1)) = e ∙ step_in p h in
          let f : g ≡ given t (p.number + 1) = cc in
          record {
            within = h;
            is = rw f (take-append_seam t _);
            size = sym (ap (λ (x : Given). x.size) f);
            fits = rw f (omega (arith, length-append t (replicate (6 - length t) 0)));
            next = ap (λ (x : Given). x.next.number) f;
          }
      go (inr h) = let y : Some g ≡ None = e ∙ step_out p h in absurd (cc)

  pub told_end : None ≡ step_of p → length texts ≤ p.number
  told_end e = go (split p.number (length texts))
    where
      go : (p.number < length texts) ⊎ (length texts ≤ p.number) → length texts ≤ p.number
      go (inl h) =
          let y : None ≡ Some (given (get_or texts p.number []) (p.number + 1)) = e ∙ step_in p h in absurd (cc)
      go (inr h) = h

-- ---- the texts of at most n characters: they stand first, in the same order

module _ (n k : ℕ) (h : k < length texts) where
  pub few_in : length (get_or texts k []) ≤ n → k < length (shorter (suc n))
  few_in f =
      let s = text_stands k h in
      omega (arith, shorter_in (suc n) s.n s.r (omega (arith, stands_size k s)) s.small, s.is)

  pub few_at : length (get_or texts k []) ≤ n → get_or (shorter (suc n)) k [] ≡ get_or texts k []
  few_at f =
      let s = text_stands k h in
      ap (λ (i : ℕ). get_or (shorter (suc n)) i []) s.is
      ∙ shorter_at (suc n) s.n s.r (omega (arith, stands_size k s)) s.small
      ∙ sym (stands_text k s)

  pub few_out : n < length (get_or texts k []) → length (shorter (suc n)) ≤ k
  few_out f =
      let s = text_stands k h in
      omega (arith, shorter_grows s.n (suc n) (omega (arith, stands_size k s)), s.is)

pub few_all : (n : ℕ) → n ≤ 6 → length (shorter (suc n)) ≤ length texts
unfolding texts
few_all n h = shorter_grows 7 (suc n) (omega arith)

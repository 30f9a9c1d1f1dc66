-- Lines, cut on bytes.
--     Ending                        the first LF, from place to place
--     Last, More, cut, whole, part_of   a text's pieces: all of it, or up to its first LF and from there on
--     cr_none, cr_goes, cr_stays    one CR at a line's end; cr_fits, cr_scalars
use Prim.Native.Nat.{ℕ, zero, suc, ◌+◌, ◌-◌, ◌<◌, ◌≤◌, zero-le}
use native.Mathlib.Omega.{arith}
use native.Mathlib.Nat.{le_refl, add-zero}
use native.Mathlib.Numerals.{add-one}
use mathlib.Core.Bool.{Bool, true, false}
use mathlib.Core.List.{List, [], ◌∷◌}
use mathlib.Core.Path.{◌≡◌, refl, sym, ap, subst, ◌∙◌}
use lib.Dec.{T, eqb, ltb}
use borrow.Author.Tests.{eq-eqb, ne_eqb, eqb-true, eqb-false, ltb-true, ltb-false}
use lib.ListN.{length, get_or, take, drop, length-take, length-drop, drop_of_length-le}
use lib.Seq.{drop-cons}
use Rattle.utf8.specs.Unicode.{is_scalar, Scalars}
use Rattle.utf8.proofs.Tests.{by_test}
use Rattle.rules.specs.Basics.{choose, is, Pieces, pieces, at_sep, split_on}
use Rattle.rules.specs.Lines.{drop_cr}
use Rattle.blocks.specs.Blocks.{FirstFrom}
use Rattle.line_ends.specs.LineEnds.{lf_at, Ending, LineEnd}

-- ---- the first piece of a text

abbrev first_piece : List ℕ → List ℕ
first_piece s = (split_on "\n" s).first

piece_nil : split_on "\n" [] ≡ record { first = []; rest = [] }
unfolding split_on
piece_nil = refl

piece_lf : (b : ℕ) (s : List ℕ) → b ≡ 10 → split_on "\n" (b ∷ s) ≡ record { first = []; rest = pieces (split_on "\n" s) }
unfolding split_on at_sep
piece_lf b s e = rw (eq-eqb b 10 e)

piece_other : (b : ℕ) (s : List ℕ) → (b ≡ 10 → ⊥) → split_on "\n" (b ∷ s) ≡ record { first = b ∷ first_piece s; rest = (split_on "\n" s).rest }
unfolding split_on at_sep
piece_other b s n = rw (ne_eqb b 10 n)

-- ---- where the piece that starts at `at` ends

pub ending_start : (s : List ℕ) (at : ℕ) → at ≤ length s → Ending s at at
ending_start s at h = record { from = le_refl at; within = h; same = refl }

module _ (s : List ℕ) (at i : ℕ) (r : Ending s at i) where
  pub ending_more : i < length s → (get_or s i 0 ≡ 10 → ⊥) → Ending s at (i + 1)
  ending_more h n =
      let e : length (first_piece (drop i s)) ≡ suc (length (first_piece (drop (i + 1) s))) = rw (add-one i, drop-cons s i 0) (ap (λ (p : Pieces). length p.first) (piece_other _ _ n)) in
      record { from = omega (arith, r.from); within = omega arith; same = omega (arith, r.same) }

  pub ending_lf : i < length s → get_or s i 0 ≡ 10 → LineEnd s at i
  ending_lf h n =
      let e : length (first_piece (drop i s)) ≡ 0 = rw (drop-cons s i 0) (ap (λ (p : Pieces). length p.first) (piece_lf _ _ n)) in
      record { is = omega (arith, r.same); from = r.from; fits = r.within }

  pub ending_last : length s ≤ i → LineEnd s at i
  unfolding split_on
  ending_last h =
      let e : length (first_piece (drop i s)) ≡ 0 = rw (drop_of_length-le s h) in
      record { is = omega (arith, r.same); from = r.from; fits = r.within }

pub ending_here : (s : List ℕ) (at : ℕ) → at < length s → get_or s at 0 ≡ 10 → LineEnd s at at
ending_here s at h = ending_lf s at at (ending_start s at (omega arith)) h

-- past n bytes of which none is an LF
pub ending_none : (s : List ℕ) (at i : ℕ) → Ending s at i → (n : ℕ) → i + n ≤ length s → ((j : ℕ) → j < n → get_or s (i + j) 0 ≡ 10 → ⊥) → Ending s at (i + n)
ending_none s at i r zero h none = rw add-zero r
ending_none s at i r (suc n) h none =
    let q = ending_none s at i r n (omega arith) (λ j l. none j (omega arith)) in
    let e : i + n + 1 ≡ i + suc n = omega arith in
    rw e at (ending_more s at (i + n) q (omega arith) (none n (omega arith)))

-- what a search for an LF gives
pub ending_first : (s : List ℕ) (at e : ℕ) → at ≤ length s → FirstFrom (lf_at s) at (length s) e → LineEnd s at e
ending_first s at e h f =
    by_test (ltb e (length s)) (λ t. ending_lf s at e r (ltb-true e (length s) t) (eqb-true _ _ (f.passes (ltb-true e (length s) t))))
    (λ t. ending_last s at e r (ltb-false e (length s) t))
  where
    r : Ending s at e
    r =
        let q = ending_none s at at (ending_start s at h) (e - at) (omega (arith, f.from, f.within)) (λ j l. eqb-false _ _ (f.none (at + j) (omega arith) (omega arith))) in
        let k : at + (e - at) ≡ e = omega (arith, f.from) in
        rw k at q

-- ---- the pieces of a text, by the length of the first

abbrev pub Last : List ℕ → Type 0
Last s = split_on "\n" s ≡ record { first = s; rest = [] }

abbrev pub More : List ℕ → ℕ → Type 0
More s k = split_on "\n" s ≡ record { first = take k s; rest = pieces (split_on "\n" (drop (suc k) s)) }

-- there is no LF, or the first stands after k bytes
pub data Cut (s : List ℕ) : Type 0 where
  last : Last s → Cut s
  more : (k : ℕ) → k < length s → More s k → Cut s

pub cut : (s : List ℕ) → Cut s
cut [] = last piece_nil
cut (b ∷ s) = by_test (eqb b 10) (λ e. more 0 (omega arith) (piece_lf b s (eqb-true b 10 e))) (λ e. on (eqb-false b 10 e) (cut s))
  where
    before : Pieces → Pieces
    before p = record { first = b ∷ p.first; rest = p.rest }

    on : (b ≡ 10 → ⊥) → Cut s → Cut (b ∷ s)
    on n (last e) = last (piece_other b s n ∙ ap before e)
    on n (more k h e) = more (suc k) (omega arith) (piece_other b s n ∙ ap before e)

module _ (source : List ℕ) (at e : ℕ) (q : LineEnd source at e) where
  pub whole : length source ≤ e → Last (drop at source)
  whole h = go (cut (drop at source))
    where
      go : Cut (drop at source) → Last (drop at source)
      go (last p) = p
      go (more k l p) =
          absurd (omega (arith, q.is, ap (λ (x : Pieces). length x.first) p, length-take k (drop at source), length-drop at source))

  pub part_of : e < length source → More (drop at source) (e - at)
  part_of h = go (cut (drop at source))
    where
      go : Cut (drop at source) → More (drop at source) (e - at)
      go (last p) = absurd (omega (arith, q.is, ap (λ (x : Pieces). length x.first) p, length-drop at source))
      go (more k l p) =
          let f : k ≡ e - at = omega (arith, q.is, ap (λ (x : Pieces). length x.first) p, length-take k (drop at source)) in
          subst (More (drop at source)) f p

-- ---- a CR at a line's end

cr_more : (c d : ℕ) (ds : List ℕ) → drop_cr (c ∷ d ∷ ds) ≡ c ∷ drop_cr (d ∷ ds)
unfolding drop_cr
cr_more c d ds = refl

cr_here : (c : ℕ) → c ≡ 13 → drop_cr (c ∷ []) ≡ []
unfolding drop_cr choose
cr_here c e = rw (eq-eqb c 13 e)

cr_other : (c : ℕ) → (c ≡ 13 → ⊥) → drop_cr (c ∷ []) ≡ c ∷ []
unfolding drop_cr choose
cr_other c n = rw (ne_eqb c 13 n)

pub cr_none : (l : List ℕ) → length l ≡ 0 → l ≡ drop_cr l
unfolding drop_cr
cr_none [] h = refl
cr_none (c ∷ l) h = absurd (omega arith)

pub cr_goes : (l : List ℕ) (n : ℕ) → length l ≡ suc n → get_or l n 0 ≡ 13 → take n l ≡ drop_cr l
cr_goes [] n h e = absurd (omega arith)
cr_goes (c ∷ []) zero h e = sym (cr_here c e)
cr_goes (c ∷ []) (suc n) h e = absurd (omega arith)
cr_goes (c ∷ d ∷ ds) zero h e = absurd (omega arith)
cr_goes (c ∷ d ∷ ds) (suc n) h e = rw (cr_more, cr_goes (d ∷ ds) n (omega arith) e)

pub cr_stays : (l : List ℕ) (n : ℕ) → length l ≡ suc n → (get_or l n 0 ≡ 13 → ⊥) → l ≡ drop_cr l
cr_stays [] n h e = absurd (omega arith)
cr_stays (c ∷ []) zero h e = sym (cr_other c e)
cr_stays (c ∷ []) (suc n) h e = absurd (omega arith)
cr_stays (c ∷ d ∷ ds) zero h e = absurd (omega arith)
cr_stays (c ∷ d ∷ ds) (suc n) h e = rw (cr_more, ← cr_stays (d ∷ ds) n (omega arith) e)

pub cr_fits : (l : List ℕ) → length (drop_cr l) ≤ length l
cr_fits [] = rw (← cr_none [] refl) zero-le
cr_fits (c ∷ []) = by_test (eqb c 13) (λ e. rw (cr_here c (eqb-true c 13 e)) zero-le) (λ e. rw (cr_other c (eqb-false c 13 e)) (le_refl 1))
cr_fits (c ∷ d ∷ ds) = rw cr_more (let r = cr_fits (d ∷ ds) in omega arith)

one_scalar : (t : Bool) (c : ℕ) → T (is_scalar c) → Scalars (choose t [] (c ∷ []))
unfolding choose
one_scalar true c s = tt
one_scalar false c s = (s, tt)

pub cr_scalars : (l : List ℕ) → Scalars l → Scalars (drop_cr l)
unfolding drop_cr
cr_scalars [] s = tt
cr_scalars (c ∷ []) s = one_scalar (is "\r" c) c s.0
cr_scalars (c ∷ d ∷ ds) s = (s.0, cr_scalars (d ∷ ds) s.1)

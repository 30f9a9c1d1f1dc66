-- One gap beside another, and the walk over both texts.
--     note_same, note_other                 what `note_gap` gives
--     Walk, walk_begin, walk_turn, walk_end the loop of `write_changes`
use Prim.Native.Nat.{ℕ, ◌+◌, ◌*◌, ◌-◌, ◌<◌, ◌≤◌, ◌^◌}
use mathlib.Core.Bool.{Bool, true, false}
use mathlib.Core.List.{List, [], ◌∷◌, ◌++◌, append-nil, append_assoc, append_cancel_left}
use mathlib.Core.Logic.{◌⊎◌, inl, inr}
use mathlib.Core.Path.{◌≡◌, refl, sym, ap, ◌∙◌, subst}
use native.Mathlib.Omega.{arith}
use lib.Dec.{T}
use lib.ListN.{length, take, drop, length-append, length-drop}
use lib.Seq.{take_at, length-take-le, drop-length, drop-drop}
use Rattle.utf8.specs.Unicode.{Scalars, encode_char, encode, size, seq_at, chars, decode, code_at}
use Rattle.utf8.specs.Places.{Step}
use Rattle.utf8.proofs.Tests.{split, by_test}
use Rattle.utf8.proofs.Decode.{decode_encode, decode_scalars, scalars_left}
use Rattle.utf8.proofs.TrimScan.{first_char}
use Rattle.buffer.specs.Buffer.{part, put}
use Rattle.buffer.proofs.RegionLaws.{length_put}
use borrow.Rule.Slice.PartMut.{put_mid}
use Rattle.rules.specs.Basics.{same}
use Rattle.rules.specs.Demand3.{strike}
use Rattle.rules.proofs.Prefix.{same_eq, same_itself}
use Rattle.rules.proofs.Choose.{choose_true, choose_false}
use Rattle.gaps.specs.Gaps.{gap, after, Alike, From, GapEnd}
use Rattle.gaps.proofs.GapLaws.{Cut, CutAt, cut_some, cut_at, strike_nil, strike_unkept, unkept_gap}
use Rattle.changes.specs.Changes.{change, change_at, changes_from, changes, numbers}
use Rattle.changes.specs.Passing.{Passed}
use Rattle.changes.specs.Writing.{Noted, GapPair, NotedGap, Written}
use Rattle.changes.specs.declared.Change.{Change}

-- ---- an entry

put_part : (x l : List ℕ) (at k : ℕ) → k ≡ length l → put_mid at k x l ≡ put x at l
unfolding put
put_part x l at k e =
    rw (e, drop-drop (length l) at x) (sym (append_assoc (take at x) l (drop (at + length l) x)))

pub noted : (x y : List ℕ) (n k : ℕ) (c : Change) → n * 4 + 4 ≤ length x → k ≡ 4
    → y ≡ c.at ∷ c.removed ∷ c.from ∷ c.put ∷ [] → Noted x (put_mid (n * 4) k x y) n c
unfolding numbers
noted x y n k c h e f =
    let l = c.at ∷ c.removed ∷ c.from ∷ c.put ∷ [] in
    let m : put_mid (n * 4) k x y ≡ put x (n * 4) l = rw f (put_part x l (n * 4) k e) in
    record { long = ap length m ∙ length_put x (n * 4) l h; fits = λ q. m }

-- ---- one gap

pub gap_size : (s : List ℕ) (i a : ℕ) → GapEnd s i a → size (gap (decode (drop i s))) ≡ a - i
gap_size s i a q =
    ap length (sym q.bytes) ∙ length-take-le (a - i) (drop i s) (omega (arith, length-drop i s, q.fits))

pub gap_scalars : (s : List ℕ) (i a : ℕ) → GapEnd s i a → Scalars (gap (decode (drop i s)))
gap_scalars s i a q =
    scalars_left (gap (decode (drop i s))) (decode (drop a s)) (subst Scalars q.chars (decode_scalars (drop i s)))

pub change_none : (i j : ℕ) (g h : List ℕ) → g ≡ h → change_at i j g h ≡ []
unfolding change_at
change_none i j g h e = choose_true (same g h) _ _ (ap (λ (l : List ℕ). same l h) e ∙ same_itself h)

pub change_one : (i j p q : ℕ) (g h : List ℕ) → (g ≡ h → ⊥) → size g ≡ p → size h ≡ q
    → change_at i j g h ≡ change i p j q ∷ []
unfolding change_at
change_one i j p q g h f ep eq =
    choose_false (same g h) _ _ (by_test (same g h) (λ e. absurd (f (same_eq g h e))) (λ e. e))
    ∙ ap (λ (n : ℕ). change i n j (size h) ∷ []) ep
    ∙ ap (λ (n : ℕ). change i p j n ∷ []) eq

module _ (s t : List ℕ) (n : ℕ) (c : Change) (p : GapPair s t n c) (r : Bool)
    (e : (r ≡ true → part s c.at (c.at + c.removed) ≡ part t c.from (c.from + c.put)) ×
    (part s c.at (c.at + c.removed) ≡ part t c.from (c.from + c.put) → r ≡ true)) where
  abbrev gap_in : List ℕ
  gap_in = gap (decode (drop c.at s))

  abbrev gap_out : List ℕ
  gap_out = gap (decode (drop c.from t))

  pub note_same : (x : List ℕ) → r ≡ true → NotedGap x x n (change_at c.at c.from gap_in gap_out) n
  unfolding numbers
  note_same x y =
      let q : encode gap_in ≡ encode gap_out = sym p.gap_source.bytes ∙ e.0 y ∙ p.gap_text.bytes in
      let o : gap_in ≡ gap_out =
      sym (decode_encode gap_in (gap_scalars s _ _ p.gap_source)) ∙ ap decode q
      ∙ decode_encode gap_out (gap_scalars t _ _ p.gap_text) in
      let z : change_at c.at c.from gap_in gap_out ≡ [] = change_none c.at c.from gap_in gap_out o in
      record {
        count = sym (ap (λ (l : List Change). n + length l) z ∙ omega arith);
        most = omega arith;
        long = refl;
        front = λ k. sym (ap (λ (l : List Change). take (n * 4) x ++ numbers l) z ∙ append-nil (take (n * 4) x));
      }

  pub note_other : (x x' : List ℕ) → r ≡ false → Noted x x' n c
      → NotedGap x x' n (change_at c.at c.from gap_in gap_out) (n + 1)
  unfolding numbers put
  note_other x x' y w =
      let f : (gap_in ≡ gap_out → ⊥) =
      λ o. subst T (sym (e.1 (p.gap_source.bytes ∙ ap encode o ∙ sym p.gap_text.bytes)) ∙ y) tt in
      let z : change_at c.at c.from gap_in gap_out ≡ c ∷ [] =
      change_one c.at c.from c.removed c.put gap_in gap_out f
      (gap_size s c.at _ p.gap_source ∙ omega arith) (gap_size t c.from _ p.gap_text ∙ omega arith) in
      let m : (n + 1) * 4 ≡ n * 4 + 4 = omega arith in
      let v = numbers (c ∷ []) in
      record {
        count = sym (ap (λ (l : List Change). n + length l) z);
        most = omega arith;
        long = w.long;
        front = λ k.
            let d : length (take (n * 4) x ++ v) ≡ (n + 1) * 4 =
            omega (arith, length-append (take (n * 4) x) v, length-take-le (n * 4) x (omega arith)) in
            ap (take ((n + 1) * 4)) (w.fits (omega arith))
            ∙ take_at (take (n * 4) x ++ v) (drop (n * 4 + 4) x) ((n + 1) * 4) d
            ∙ sym (ap (λ (l : List Change). take (n * 4) x ++ numbers l) z);
      }

-- ---- changes by gaps

pub changes_step : (i j k : ℕ) (ks l m : List ℕ) → strike l ≡ k ∷ ks
    → changes_from (strike l) i j l m
    ≡ change_at i j (gap l) (gap m)
    ++ changes_from ks (i + size (gap l) + length (encode_char k)) (j + size (gap m) + length (encode_char k))
    (after l) (after m)
unfolding changes_from
changes_step i j k ks l m e = ap (λ (q : List ℕ). changes_from q i j l m) e

pub changes_last : (i j : ℕ) (l m : List ℕ) → strike l ≡ []
    → changes_from (strike l) i j l m ≡ change_at i j (gap l) (gap m)
unfolding changes_from
changes_last i j l m e = ap (λ (q : List ℕ). changes_from q i j l m) e

numbers_append : (a b : List Change) → numbers (a ++ b) ≡ numbers a ++ numbers b
unfolding numbers
numbers_append [] b = refl
numbers_append (c ∷ a) b = ap {B = List ℕ} (λ l. c.at ∷ c.removed ∷ c.from ∷ c.put ∷ l) (numbers_append a b)

-- ---- the walk

pub record Walk (s t x₀ x : List ℕ) (n i j a b : ℕ) : Type 0 where
  pub done : List Change
  pub whole : changes (decode s) (decode t) ≡ done
      ++ changes_from (strike (decode (drop i s))) i j (decode (drop i s)) (decode (drop j t))
  pub count : n ≡ length done
  pub bound : length s < 2 ^ 60
  pub few : n ≤ i
  pub long : length x ≡ length x₀
  pub front : n * 4 ≤ length x → take (n * 4) x ≡ numbers done
  pub struck : strike (decode (drop j t)) ≡ strike (decode (drop i s))
  pub gap_source : GapEnd s i a
  pub gap_text : GapEnd t j b

pub walk_begin : (s t x : List ℕ) (a b : ℕ) → Alike s t → GapEnd s 0 a → GapEnd t 0 b → Walk s t x x 0 0 0 a b
unfolding changes numbers
walk_begin s t x a b q g h =
    record {
      done = [];
      whole = refl;
      count = refl;
      bound = q.long;
      few = omega arith;
      long = refl;
      front = λ k. refl;
      struck = q.struck;
      gap_source = g;
      gap_text = h;
    }

-- the kept character at which both gaps end
pub record Both (s t : List ℕ) (i j a b z : ℕ) : Type 0 where
  pub step : Step t b z
  pub source : CutAt (decode (drop i s)) (code_at (drop a s)) (decode (drop (a + z) s))
  pub text : CutAt (decode (drop j t)) (code_at (drop a s)) (decode (drop (b + z) t))

module _ (s t : List ℕ) (i j a b z : ℕ) (gs : GapEnd s i a) (gt : GapEnd t j b)
    (e : strike (decode (drop j t)) ≡ strike (decode (drop i s)))
    (h : a < length s) (v : Step s a z) where
  cut_source : CutAt (decode (drop i s)) (code_at (drop a s)) (decode (drop (a + z) s))
  cut_source = cut_at _ _ _ (gs.chars ∙ ap (λ (q : List ℕ). gap (decode (drop i s)) ++ q) v.chars) (gs.stop h)

  text_rest : decode (drop b t) ≡ code_at (drop a s) ∷ after (decode (drop j t))
  text_rest =
      let c : Cut (decode (drop j t)) (code_at (drop a s)) (strike (decode (drop (a + z) s))) =
      cut_some _ _ _ (e ∙ cut_source.struck) in
      append_cancel_left (gap (decode (drop j t))) _ _ (sym gt.chars ∙ c.chars)

  text_more : (b < length t) ⊎ (length t ≤ b) → b < length t
  unfolding chars
  text_more (inl w) = w
  text_more (inr w) =
      let m : b ≡ length t = omega (arith, gt.fits) in
      let d : drop b t ≡ [] = ap (λ (k : ℕ). drop k t) m ∙ drop-length t in
      absurd (omega (arith, ap length (sym (ap decode d) ∙ text_rest)))

  text_at_law : (y : ℕ) → Step t b y → Both s t i j a b z
  text_at_law y w =
      let u : code_at (drop b t) ∷ decode (drop (b + y) t) ≡ code_at (drop a s) ∷ after (decode (drop j t)) =
      sym w.chars ∙ text_rest in
      let k : code_at (drop b t) ≡ code_at (drop a s) = cc in
      let m : y ≡ z = sym w.long ∙ ap (λ (c : ℕ). length (encode_char c)) k ∙ v.long in
      let o : Step t b z = subst (Step t b) m w in
      record {
        step = o;
        source = cut_source;
        text = cut_at _ _ _
            (gt.chars
            ∙ ap (λ (q : List ℕ). gap (decode (drop j t)) ++ q)
            (o.chars ∙ ap {B = List ℕ} (λ c. c ∷ decode (drop (b + z) t)) k)) (gs.stop h);
      }

  both_at : Both s t i j a b z
  both_at = text_at_law (seq_at (drop b t)) (first_char t b (text_more (split b (length t))) gt.well)

pub walk_both : (s t x₀ x : List ℕ) (n i j a b z : ℕ) → Walk s t x₀ x n i j a b → a < length s → Step s a z
    → Both s t i j a b z
walk_both s t x₀ x n i j a b z q h v = both_at s t i j a b z q.gap_source q.gap_text q.struck h v

module _ (s t x₀ x : List ℕ) (n i j a b z : ℕ) (q : Walk s t x₀ x n i j a b) (h : a < length s) (v : Step s a z) where
  next_text : From t (b + z)
  next_text =
      let o = walk_both s t x₀ x n i j a b z q h v in
      record { fits = o.step.fits; well = o.step.well q.gap_text.well }

  pub walk_text_fits : b + z ≤ length t
  walk_text_fits = next_text.fits

  module _ (k : ℕ) (u : Passed s (a + z) t (b + z) k) where
    pub walk_text_on : From t (b + z + k)
    walk_text_on = record { fits = u.fits_text; well = u.well_text next_text.well }

module _ (s t x₀ x x' : List ℕ) (n i j a b r : ℕ) (q : Walk s t x₀ x n i j a b)
    (w : NotedGap x x' n (change_at i j (gap (decode (drop i s))) (gap (decode (drop j t)))) r) where
  noted_count : length (q.done ++ change_at i j (gap (decode (drop i s))) (gap (decode (drop j t)))) ≡ r
  noted_count =
      length-append q.done _
      ∙ sym (w.count ∙ ap (λ (k : ℕ). k + length (change_at i j (gap (decode (drop i s))) (gap (decode (drop j t)))))
      q.count)

  noted_front : r * 4 ≤ length x'
      → take (r * 4) x' ≡ numbers (q.done ++ change_at i j (gap (decode (drop i s))) (gap (decode (drop j t))))
  noted_front k =
      let g = w.long in
      let c = w.count in
      w.front (omega arith)
      ∙ ap (λ (l : List ℕ). l ++ numbers (change_at i j (gap (decode (drop i s))) (gap (decode (drop j t)))))
      (q.front (omega arith))
      ∙ sym (numbers_append q.done (change_at i j (gap (decode (drop i s))) (gap (decode (drop j t)))))

  pub walk_turn : (z k a' b' : ℕ) → a < length s → Step s a z → Passed s (a + z) t (b + z) k → GapEnd s (a + z + k) a'
      → GapEnd t (b + z + k) b' → Walk s t x₀ x' r (a + z + k) (b + z + k) a' b'
  walk_turn z y a' b' h v u gs gt =
      let o = walk_both s t x₀ x n i j a b z q h v in
      let k = code_at (drop a s) in
      let l = decode (drop i s) in
      let m = decode (drop j t) in
      let l' = decode (drop (a + z) s) in
      let m' = decode (drop (b + z) t) in
      let c = change_at i j (gap l) (gap m) in
      let ea : i + size (gap l) + length (encode_char k) ≡ a + z =
      omega (arith, gap_size s i a q.gap_source, q.gap_source.from, v.long) in
      let eb : j + size (gap m) + length (encode_char k) ≡ b + z =
      omega (arith, gap_size t j b q.gap_text, q.gap_text.from, v.long) in
      let g : changes_from (strike l) i j l m ≡ c ++ changes_from (strike l') (a + z) (b + z) l' m' =
      changes_step i j k (strike l') l m o.source.struck ∙ rw (ea, eb, o.source.after, o.text.after) in
      record {
        done = q.done ++ c;
        whole = q.whole ∙ ap (λ (y : List Change). q.done ++ y) (g ∙ ap (λ (d : List Change). c ++ d) u.same)
            ∙ sym (append_assoc q.done c _);
        count = sym noted_count;
        bound = q.bound;
        few = omega (arith, w.most, q.few, q.gap_source.from, v.some);
        long = w.long ∙ q.long;
        front = noted_front;
        struck = u.struck (cc (o.source.struck, o.text.struck, q.struck));
        gap_source = gs;
        gap_text = gt;
      }

  pub walk_end : length s ≤ a → Written s t x₀ x' r
  unfolding chars
  walk_end h =
      let l = decode (drop i s) in
      let m = decode (drop j t) in
      let y : a ≡ length s = omega (arith, q.gap_source.fits) in
      let d : drop a s ≡ [] = ap (λ (k : ℕ). drop k s) y ∙ drop-length s in
      let e : l ≡ gap l ++ [] = q.gap_source.chars ∙ ap (λ (k : List ℕ). gap l ++ decode k) d in
      let z : strike l ≡ [] = ap strike e ∙ strike_unkept (gap l) [] (unkept_gap l) ∙ strike_nil in
      let g : changes (decode s) (decode t) ≡ q.done ++ change_at i j (gap l) (gap m) =
      q.whole ∙ ap (λ (k : List Change). q.done ++ k) (changes_last i j l m z) in
      record {
        count = sym (ap length g ∙ noted_count);
        few = omega (arith, w.most, q.few, q.gap_source.from, q.bound);
        long = w.long ∙ q.long;
        front = λ k. noted_front (omega (arith, w.long, q.long)) ∙ ap numbers (sym g);
      }

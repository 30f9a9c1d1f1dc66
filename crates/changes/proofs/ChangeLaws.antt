-- What the changes do: carried out, they give the text; they ascend; they remove and put in no kept character; an
-- unchanged source has none.
use Prim.Native.Nat.{ℕ, suc, ◌+◌, ◌-◌, ◌<◌, ◌≤◌}
use mathlib.Core.Bool.{true, false}
use mathlib.Core.List.{List, [], ◌∷◌, ◌++◌, append-nil, append_assoc}
use mathlib.Core.Logic.{◌⊎◌, inl, inr}
use mathlib.Core.Path.{◌≡◌, refl, sym, ap, ◌∙◌, subst}
use native.Mathlib.Nat.{le_refl}
use native.Mathlib.Omega.{arith}
use lib.Dec.{T}
use lib.ListN.{length, take, drop, length-append, length-drop, take-append-drop}
use lib.Seq.{take_at, drop_at, drop-drop}
use Rattle.utf8.specs.Unicode.{Scalars, encode_char, encode, size, decode, WellFormed}
use Rattle.utf8.proofs.Tests.{by_test}
use Rattle.utf8.proofs.Table.{front}
use Rattle.utf8.proofs.Decode.{encode_append, encode_one}
use Rattle.utf8.proofs.Decode.{decode_encode, decode_scalars, scalars_left, scalars_right, wf_encode}
use Rattle.buffer.specs.Buffer.{part}
use Rattle.buffer.proofs.RegionLaws.{part_join}
use Rattle.rules.specs.Basics.{same}
use Rattle.rules.specs.Demand3.{strike}
use Rattle.rules.proofs.Prefix.{same_eq, same_itself}
use Rattle.gaps.specs.Gaps.{gap, after, Unkept, Alike}
use Rattle.gaps.proofs.GapLaws.{cut_none, cut_some, unkept_gap}
use Rattle.changes.specs.Changes.{change, change_at, changes_from, changes}
use Rattle.changes.specs.Changes.{carried, Ascending, UnkeptPart, Harmless, Faithful}
use Rattle.changes.specs.declared.Change.{Change}
use Rattle.changes.proofs.WalkLaws.{change_none, change_one}

-- ---- an unchanged source

none_from : (ks : List ℕ) (i j : ℕ) (l : List ℕ) → changes_from ks i j l l ≡ []
unfolding changes_from
none_from [] i j l = change_none i j (gap l) (gap l) refl
none_from (k ∷ ks) i j l =
    let z = length (encode_char k) in
    ap (λ (c : List Change). c ++ changes_from ks (i + size (gap l) + z) (j + size (gap l) + z) (after l) (after l))
    (change_none i j (gap l) (gap l) refl)
    ∙ none_from ks (i + size (gap l) + length (encode_char k)) (j + size (gap l) + length (encode_char k)) (after l)

unchanged : (l : List ℕ) → changes l l ≡ []
unfolding changes
unchanged l = none_from (strike l) 0 0 l

-- ---- the rest l of a text of bytes s, from the byte i on

pub record Rest (s : List ℕ) (i : ℕ) (l : List ℕ) : Type 0 where
  pub within : i ≤ length s
  pub bytes : drop i s ≡ encode l
  pub scalars : Scalars l

module _ (s : List ℕ) (i : ℕ) (l g r : List ℕ) (q : Rest s i l) (e : l ≡ g ++ r) where
  rest_bytes : drop i s ≡ encode g ++ encode r
  rest_bytes = q.bytes ∙ ap encode e ∙ encode_append g r

  pub rest_part : part s i (i + size g) ≡ encode g
  rest_part = let n : i + size g - i ≡ size g =
      omega arith in rw n (ap (take (size g)) rest_bytes ∙ take_at (encode g) (encode r) (size g) refl)

  rest_fits : i + size g ≤ length s
  rest_fits = omega (arith, ap length rest_bytes, length-append (encode g) (encode r), length-drop i s, q.within)

  pub rest_on : Rest s (i + size g) r
  rest_on =
      record {
        within = rest_fits;
        bytes = sym (drop-drop (size g) i s) ∙ ap (drop (size g)) rest_bytes
            ∙ drop_at (encode g) (encode r) (size g) refl;
        scalars = scalars_right g r (subst Scalars e q.scalars);
      }

  pub rest_unkept : Unkept g → UnkeptPart s i (i + size g)
  rest_unkept u =
      let n : Scalars g = scalars_left g r (subst Scalars e q.scalars) in
      record {
        fits = rest_fits;
        well = subst WellFormed (sym rest_part) (wf_encode g n);
        unkept = subst Unkept (sym (ap decode rest_part ∙ decode_encode g n)) u;
      }

pub rest_whole : (s : List ℕ) → WellFormed s → Rest s 0 (decode s)
rest_whole s w = record { within = omega arith; bytes = sym w; scalars = decode_scalars s }

-- ---- carrying out

ascending_less : (n m : ℕ) (cs : List Change) → n ≤ m → Ascending m cs → Ascending n cs
ascending_less n m [] h a = tt
ascending_less n m (c ∷ cs) h a = let k = a.0 in (omega arith, a.1)

carried_on : (s t : List ℕ) (i e : ℕ) (cs : List Change) → i ≤ e → Ascending e cs
    → carried i cs s t ≡ part s i e ++ carried e cs s t
unfolding carried
carried_on s t i e [] h a =
    let n : i + (e - i) ≡ e = omega arith in
    sym (ap (λ (d : List ℕ). part s i e ++ d) (sym (drop-drop (e - i) i s ∙ ap (λ (k : ℕ). drop k s) n))
    ∙ take-append-drop (e - i) (drop i s))
carried_on s t i e (c ∷ cs) h a =
    rw (part_join s i e c.at h a.0) (simp append_assoc)

-- what is shown of changes from the bytes i and j on
record Good (s t : List ℕ) (i j : ℕ) (cs : List Change) : Type 0 where
  pub out : carried i cs s t ≡ drop j t
  pub ascends : Ascending i cs
  pub harmless : Harmless cs s t

-- a gap is changed, or it is the same in both
change_cases : (i j : ℕ) (g h : List ℕ)
    → ((change_at i j g h ≡ []) × (g ≡ h)) ⊎ (change_at i j g h ≡ change i (size g) j (size h) ∷ [])
change_cases i j g h =
    by_test (same g h)
    (λ y. let z : g ≡ h = same_eq g h y in inl (change_none i j g h z, z))
    (λ n. inr (change_one i j (size g) (size h) g h (λ z. not_same n z) refl refl))
  where
    not_same : same g h ≡ false → g ≡ h → ⊥
    not_same n z = let y : same g h ≡ true = ap (λ (l : List ℕ). same l h) z ∙ same_itself h in subst T (sym y ∙ n) tt

-- one gap, and then changes that start at or after the byte e, behind it
record Gapped (s t : List ℕ) (i j a : ℕ) (h : List ℕ) (cs ds : List Change) : Type 0 where
  pub out : carried i ds s t ≡ encode h ++ carried a cs s t
  pub ascends : Ascending i ds
  pub harmless : Harmless ds s t

module _ (s t : List ℕ) (i j : ℕ) (l m p q : List ℕ) (rs : Rest s i l) (rt : Rest t j m) (es : l ≡ gap l ++ p)
    (et : m ≡ gap m ++ q)
    (cs : List Change) (au : (n : ℕ) → n ≤ suc (i + size (gap l)) → Ascending n cs) (hs : Harmless cs s t) where
  gap_cases : ((change_at i j (gap l) (gap m) ≡ []) × (gap l ≡ gap m)) ⊎
      (change_at i j (gap l) (gap m) ≡ change i (size (gap l)) j (size (gap m)) ∷ [])
      → Gapped s t i j (i + size (gap l)) (gap m) cs (change_at i j (gap l) (gap m) ++ cs)
  unfolding carried
  gap_cases (inl y) =
      let z = y.1 in
      subst (λ (c : List Change). Gapped s t i j (i + size (gap l)) (gap m) cs (c ++ cs)) (sym y.0)
      record {
        out =
            carried_on s t i (i + size (gap l)) cs (omega arith) (au _ (omega arith))
            ∙ ap (λ (w : List ℕ). w ++ carried (i + size (gap l)) cs s t)
            (rest_part s i l (gap l) p rs es ∙ ap encode z);
        ascends = au i (omega arith);
        harmless = hs;
      }
  gap_cases (inr y) =
      let n : i - i ≡ 0 = omega arith in
      subst (λ (c : List Change). Gapped s t i j (i + size (gap l)) (gap m) cs (c ++ cs)) (sym y)
      record {
        out =
            ap (λ (k : ℕ). take k (drop i s) ++ part t j (j + size (gap m)) ++ carried (i + size (gap l)) cs s t) n
            ∙ ap (λ (w : List ℕ). w ++ carried (i + size (gap l)) cs s t) (rest_part t j m (gap m) q rt et);
        ascends = (le_refl i, au _ (le_refl (suc (i + size (gap l)))));
        harmless =
            (rest_unkept s i l (gap l) p rs es (unkept_gap l), rest_unkept t j m (gap m) q rt et (unkept_gap m), hs);
      }

  gapped : Gapped s t i j (i + size (gap l)) (gap m) cs (change_at i j (gap l) (gap m) ++ cs)
  gapped = gap_cases (change_cases i j (gap l) (gap m))

-- what is left after the gap: nothing, or a kept character and the rest
good_with : (s t : List ℕ) (i j a : ℕ) (h w : List ℕ) (cs ds : List Change) → Gapped s t i j a h cs ds
    → carried a cs s t ≡ w → drop j t ≡ encode h ++ w → Good s t i j ds
good_with s t i j a h w cs ds g e d =
    record { out = g.out ∙ ap (λ (y : List ℕ). encode h ++ y) e ∙ sym d; ascends = g.ascends; harmless = g.harmless }

good_from : (s t ks : List ℕ) (i j : ℕ) (l m : List ℕ) → Rest s i l → Rest t j m → strike l ≡ ks → strike m ≡ ks
    → Good s t i j (changes_from ks i j l m)
unfolding changes_from carried encode
good_from s t [] i j l m rs rt el em =
    let es : l ≡ gap l ++ [] = sym (append-nil (gap l) ∙ cut_none l el) in
    let et : m ≡ gap m ++ [] = sym (append-nil (gap m) ∙ cut_none m em) in
    let g = gapped s t i j l m [] [] rs rt es et [] (λ n h. tt) tt in
    subst (Good s t i j) (append-nil (change_at i j (gap l) (gap m)))
    (good_with s t i j (i + size (gap l)) (gap m) [] [] _ g (rest_on s i l (gap l) [] rs es).bytes
    (rt.bytes ∙ ap encode et ∙ encode_append (gap m) []))
good_from s t (k ∷ ks) i j l m rs rt el em =
    let cl = cut_some l k ks el in
    let cm = cut_some m k ks em in
    let z = length (encode_char k) in
    let a = i + size (gap l) in
    let b = j + size (gap m) in
    let o : size (k ∷ []) ≡ z = ap length (encode_one k) in
    let rs₁ : Rest s a (k ∷ after l) = rest_on s i l (gap l) (k ∷ after l) rs cl.chars in
    let rt₁ : Rest t b (k ∷ after m) = rest_on t j m (gap m) (k ∷ after m) rt cm.chars in
    let rs₂ : Rest s (a + z) (after l) =
    subst (λ (n : ℕ). Rest s (a + n) (after l)) o (rest_on s a (k ∷ after l) (k ∷ []) (after l) rs₁ refl) in
    let rt₂ : Rest t (b + z) (after m) =
    subst (λ (n : ℕ). Rest t (b + n) (after m)) o (rest_on t b (k ∷ after m) (k ∷ []) (after m) rt₁ refl) in
    let r = good_from s t ks (a + z) (b + z) (after l) (after m) rs₂ rt₂ cl.rest cm.rest in
    let cs = changes_from ks (a + z) (b + z) (after l) (after m) in
    let some : 0 < z = (front k [] rs₁.scalars.0).some in
    let g = gapped s t i j l m (k ∷ after l) (k ∷ after m) rs rt cl.chars cm.chars cs
    (λ n h. ascending_less n (a + z) cs (omega arith) r.ascends) r.harmless in
    let c : part s a (a + z) ≡ encode_char k =
    subst (λ (n : ℕ). part s a (a + n) ≡ encode (k ∷ [])) o
    (rest_part s a (k ∷ after l) (k ∷ []) (after l) rs₁ refl) ∙ encode_one k in
    good_with s t i j a (gap m) (encode_char k ++ drop (b + z) t) cs _ g
    (carried_on s t a (a + z) cs (omega arith) r.ascends ∙ ap (λ (y : List ℕ). y ++ carried (a + z) cs s t) c
    ∙ ap (λ (y : List ℕ). encode_char k ++ y) r.out)
    (rt.bytes ∙ ap encode cm.chars ∙ encode_append (gap m) (k ∷ after m)
    ∙ ap (λ (y : List ℕ). encode (gap m) ++ (encode_char k ++ y)) (sym rt₂.bytes))

pub faithful : (s t : List ℕ) → Alike s t → Faithful s t (changes (decode s) (decode t))
unfolding changes
faithful s t q =
    let g = good_from s t (strike (decode s)) 0 0 (decode s) (decode t) (rest_whole s q.well_source)
    (rest_whole t q.well_text) refl q.struck in
    record {
      carried_out = g.out;
      ascends = g.ascends;
      harmless = g.harmless;
      unchanged = λ e. ap (λ (l : List ℕ). changes (decode s) (decode l)) (sym e) ∙ unchanged (decode s);
    }

-- Bytes that are the same in a source and its text, up to a kept one, have no change among them.
--     Same, same_told                  what `differ_among` gives
--     passed_none, passed_block        what `same_block` gives
--     passed_on                        one block after another
use Prim.Native.Nat.{ℕ, zero, suc, ◌+◌, ◌-◌, ◌≤◌, ◌<◌}
use native.Mathlib.Nat.{add-zero}
use native.Mathlib.Omega.{arith}
use mathlib.Core.Bool.{Bool, true, false, not, ◌||◌}
use mathlib.Core.List.{List, [], ◌∷◌, ◌++◌, append_assoc, append_cancel_left}
use mathlib.Core.Path.{◌≡◌, refl, sym, ap, ◌∙◌, subst}
use borrow.Author.Tests.{ltb-false, eqb-true, not-false}
use Rattle.std.specs.Prelude.{Option, None, Some}
use lib.Dec.{ltb, eqb}
use Rattle.std.proofs.lemmas.List.{get_or-drop}
use lib.ListN.{length, get_or, take, drop, length-append, length-drop}
use lib.Seq.{take_all}
use Rattle.utf8.specs.Unicode.{encode_char, encode, size, decode, WellFormed, code_at}
use Rattle.utf8.specs.Places.{Step}
use Rattle.utf8.proofs.Scan.{ascii, ascii_step}
use Rattle.utf8.proofs.Tests.{by_test, neither_left, neither_right}
use Rattle.rules.specs.Demand3.{is_kept, strike}
use Rattle.rules.proofs.Struck.{strike_append}
use Rattle.gaps.specs.Gaps.{gap, after, Unkept}
use Rattle.gaps.proofs.GapLaws.{gap_kept, gap_other, after_kept, after_other, strike_kept, strike_unkept}
use Rattle.changes.specs.Changes.{changes_from}
use Rattle.blocks.specs.Blocks.{NoneAmong}
use Rattle.changes.specs.Passing.{differ_at, KeptByte, LastKept, Passed, BlockPassed}
use Rattle.changes.proofs.WalkLaws.{change_none, changes_step}

-- ---- the tests of a block

-- 16 bytes are the same in both, and ASCII
record Same (s : List ℕ) (i : ℕ) (t : List ℕ) (j : ℕ) : Type 0 where
  bytes : (k : ℕ) → k < 16 → get_or s (i + k) 0 ≡ get_or t (j + k) 0
  ascii : (k : ℕ) → k < 16 → get_or s (i + k) 0 < 0x80

same_told : (s : List ℕ) (i : ℕ) (t : List ℕ) (j : ℕ) (any : Bool) → NoneAmong (differ_at (drop i s) (drop j t)) 0 16 any → any ≡ false → Same s i t j
same_told s i t j any q e =
    record {
      bytes = λ k h. sym (get_or-drop i s k 0) ∙ eqb-true (x k) (y k) (not-false (eqb (x k) (y k)) (neither_left (not (eqb (x k) (y k))) (ltb 127 (x k)) (here k h))) ∙ get_or-drop j t k 0;
      ascii = λ k h. let l = ltb-false 127 (x k) (neither_right (not (eqb (x k) (y k))) (ltb 127 (x k)) (here k h)) in omega (arith, get_or-drop i s k 0);
    }
  where
    x : ℕ → ℕ
    x k = get_or (drop i s) k 0

    y : ℕ → ℕ
    y k = get_or (drop j t) k 0

    here : (k : ℕ) → k < 16 → (not (eqb (x k) (y k)) || ltb 127 (x k)) ≡ false
    here k h = let z : 0 + k ≡ k = omega arith in subst (λ (m : ℕ). differ_at (drop i s) (drop j t) m ≡ false) z (q.none e k h)

-- ---- characters that are the same in both

-- each takes one byte
abbrev Ones : List ℕ → Type 0
Ones [] = Unit {0}
Ones (c ∷ x) = (length (encode_char c) ≡ 1) × Ones x

ones_snoc : (g : List ℕ) (c : ℕ) → Ones g → length (encode_char c) ≡ 1 → Ones (g ++ c ∷ [])
ones_snoc [] c o e = (e, tt)
ones_snoc (d ∷ g) c o e = (o.0, ones_snoc g c o.1 e)

ones_size : (g : List ℕ) → Ones g → size g ≡ length g
unfolding encode
ones_size [] o = refl
ones_size (c ∷ g) o = omega (arith, length-append (encode_char c) (encode g), o.0, ones_size g o.1)

-- the last is kept
abbrev Ends : List ℕ → Type 0
Ends [] = ⊥
Ends (c ∷ []) = is_kept c ≡ true
Ends (c ∷ d ∷ x) = Ends (d ∷ x)

unkept_snoc : (g : List ℕ) (c : ℕ) → Unkept g → is_kept c ≡ false → Unkept (g ++ c ∷ [])
unkept_snoc [] c u h = (h, tt)
unkept_snoc (d ∷ g) c u h = (u.0, unkept_snoc g c u.1 h)

gap_to : (g : List ℕ) (c : ℕ) (l : List ℕ) → Unkept g → is_kept c ≡ true → gap (g ++ c ∷ l) ≡ g
gap_to [] c l u h = gap_kept c l h
gap_to (d ∷ g) c l u h = gap_other d (g ++ c ∷ l) u.0 ∙ ap {B = List ℕ} (λ x. d ∷ x) (gap_to g c l u.1 h)

after_to : (g : List ℕ) (c : ℕ) (l : List ℕ) → Unkept g → is_kept c ≡ true → after (g ++ c ∷ l) ≡ l
after_to [] c l u h = after_kept c l h
after_to (d ∷ g) c l u h = after_other d (g ++ c ∷ l) u.0 ∙ after_to g c l u.1 h

-- a gap that is the same in both, and the kept character behind it
same_step : (g : List ℕ) (c i j : ℕ) (l m : List ℕ) → Ones g → length (encode_char c) ≡ 1 → Unkept g → is_kept c ≡ true
    → changes_from (strike (g ++ c ∷ l)) i j (g ++ c ∷ l) (g ++ c ∷ m)
    ≡ changes_from (strike l) (i + (length g + 1)) (j + (length g + 1)) l m
same_step g c i j l m o e u h =
    let k : strike (g ++ c ∷ l) ≡ c ∷ strike l = strike_unkept g (c ∷ l) u ∙ strike_kept c l h in
    let gl = gap_to g c l u h in
    let gm = gap_to g c m u h in
    let ei : i + size (gap (g ++ c ∷ l)) + length (encode_char c) ≡ i + (length g + 1) =
    omega (arith, ap size gl, ones_size g o, e) in
    let ej : j + size (gap (g ++ c ∷ m)) + length (encode_char c) ≡ j + (length g + 1) =
    omega (arith, ap size gm, ones_size g o, e) in
    changes_step i j c (strike l) (g ++ c ∷ l) (g ++ c ∷ m) k
    ∙ rw (change_none i j _ _ (gl ∙ sym gm), ei, ej, after_to g c l u h, after_to g c m u h)

same_chars : (x g : List ℕ) (i j : ℕ) (l m : List ℕ) → Ones g → Ones x → Unkept g → Ends x
    → changes_from (strike (g ++ (x ++ l))) i j (g ++ (x ++ l)) (g ++ (x ++ m))
    ≡ changes_from (strike l) (i + (length g + length x)) (j + (length g + length x)) l m
same_chars [] g i j l m o p u e = absurd e
same_chars (c ∷ []) g i j l m o p u e = same_step g c i j l m o p.0 u e
same_chars (c ∷ d ∷ x) g i j l m o p u e =
    by_test (is_kept c)
    (λ h. same_step g c i j (d ∷ x ++ l) (d ∷ x ++ m) o p.0 u h
    ∙ same_chars (d ∷ x) [] (i + (length g + 1)) (j + (length g + 1)) l m tt p.1 tt e
    ∙ ap (λ (n : ℕ). changes_from (strike l) n (j + (length g + 1) + (0 + length (d ∷ x))) l m) (omega arith)
    ∙ ap (λ (n : ℕ). changes_from (strike l) (i + (length g + length (c ∷ d ∷ x))) n l m) (omega arith))
    (λ h. rw (sym (append_assoc g (c ∷ []) (d ∷ x ++ l)), sym (append_assoc g (c ∷ []) (d ∷ x ++ m)))
    (same_chars (d ∷ x) (g ++ c ∷ []) i j l m (ones_snoc g c o p.0) p.1 (unkept_snoc g c u h) e
    ∙ ap (λ (n : ℕ). changes_from (strike l) (i + n) (j + n) l m) (omega (arith, length-append g (c ∷ [])))))

-- ---- the bytes of a block

abbrev bytes : List ℕ → ℕ → ℕ → List ℕ
bytes s i zero = []
bytes s i (suc n) = get_or s i 0 ∷ bytes s (i + 1) n

length_bytes : (s : List ℕ) (i n : ℕ) → length (bytes s i n) ≡ n
length_bytes s i zero = refl
length_bytes s i (suc n) = ap suc (length_bytes s (i + 1) n)

-- what holds of the bytes from i on holds of those from i + 1 on
next_byte : (P : ℕ → Type 0) (i n : ℕ) → ((k : ℕ) → k < suc n → P (i + k)) → (k : ℕ) → k < n → P (i + 1 + k)
next_byte P i n a k h = let e : i + suc k ≡ i + 1 + k = omega arith in subst P e (a (suc k) (omega arith))

first_byte_law : (P : ℕ → Type 0) (i n : ℕ) → ((k : ℕ) → k < suc n → P (i + k)) → P i
first_byte_law P i n a = subst P (add-zero i) (a 0 (omega arith))

-- ASCII bytes are the characters
pub record Plain (s : List ℕ) (i n : ℕ) : Type 0 where
  pub chars : decode (drop i s) ≡ bytes s i n ++ decode (drop (i + n) s)
  pub well : WellFormed (drop i s) → WellFormed (drop (i + n) s)
  pub ones : Ones (bytes s i n)

plain : (s : List ℕ) (i n : ℕ) → i + n ≤ length s → ((k : ℕ) → k < n → get_or s (i + k) 0 < 0x80) → Plain s i n
plain s i zero h a =
    record {
      chars = ap (λ (k : ℕ). decode (drop k s)) (sym (add-zero i));
      well = λ w. subst (λ (k : ℕ). WellFormed (drop k s)) (sym (add-zero i)) w;
      ones = tt;
    }
plain s i (suc n) h a =
    let low : get_or s i 0 < 0x80 = first_byte_law (λ (k : ℕ). get_or s k 0 < 0x80) i n a in
    let t : Step s i 1 = ascii_step s i (omega arith) low in
    let c : code_at (drop i s) ≡ get_or s i 0 = (ascii s i low).1 in
    let r : Plain s (i + 1) n = plain s (i + 1) n (omega arith) (next_byte (λ (k : ℕ). get_or s k 0 < 0x80) i n a) in
    let e : i + 1 + n ≡ i + suc n = omega arith in
    record {
      chars = t.chars ∙ ap {B = List ℕ} (λ x. x ∷ decode (drop (i + 1) s)) c
          ∙ ap {B = List ℕ} (λ x. get_or s i 0 ∷ x) r.chars
          ∙ ap (λ (k : ℕ). get_or s i 0 ∷ bytes s (i + 1) n ++ decode (drop k s)) e;
      well = λ w. subst (λ (k : ℕ). WellFormed (drop k s)) e (r.well (t.well w));
      ones = (ap (λ (x : ℕ). length (encode_char x)) (sym c) ∙ t.long, r.ones);
    }

same_bytes : (s t : List ℕ) (i j n : ℕ) → ((k : ℕ) → k < n → get_or s (i + k) 0 ≡ get_or t (j + k) 0) → bytes t j n ≡ bytes s i n
same_bytes s t i j zero a = refl
same_bytes s t i j (suc n) a =
    let e : get_or s (i + 0) 0 ≡ get_or t (j + 0) 0 = a 0 (omega arith) in
    let f : get_or t j 0 ≡ get_or s i 0 = sym (rw (add-zero i, add-zero j) at e) in
    let r : bytes t (j + 1) n ≡ bytes s (i + 1) n =
    same_bytes s t (i + 1) (j + 1) n
    (λ k h. let x : i + suc k ≡ i + 1 + k = omega arith in let y : j + suc k ≡ j + 1 + k = omega arith in rw (x, y) at (a (suc k) (omega arith))) in
    ap {B = List ℕ} (λ c. c ∷ bytes t (j + 1) n) f ∙ ap {B = List ℕ} (λ x. get_or s i 0 ∷ x) r

ends_bytes : (s : List ℕ) (i n : ℕ) → is_kept (get_or s (i + n) 0) ≡ true → Ends (bytes s i (suc n))
ends_bytes s i zero h = rw (add-zero i) at h
ends_bytes s i (suc n) h =
    let e : i + suc n ≡ i + 1 + n = omega arith in
    ends_bytes s (i + 1) n (rw e at h)

-- ---- what is passed

pub passed_none : (s : List ℕ) (i : ℕ) (t : List ℕ) (j : ℕ) → i ≤ length s → j ≤ length t → Passed s i t j 0
passed_none s i t j h k =
    record {
      fits_source = omega arith;
      fits_text = omega arith;
      well_source = λ w. subst (λ (n : ℕ). WellFormed (drop n s)) (sym (add-zero i)) w;
      well_text = λ w. subst (λ (n : ℕ). WellFormed (drop n t)) (sym (add-zero j)) w;
      struck = λ e. rw (add-zero i, add-zero j) e;
      same = rw (add-zero i, add-zero j);
    }

module _ (s : List ℕ) (i : ℕ) (t : List ℕ) (j : ℕ) where
  passed_some : (n : ℕ) → i + suc n ≤ length s → j + suc n ≤ length t
      → ((k : ℕ) → k < suc n → get_or s (i + k) 0 ≡ get_or t (j + k) 0) → ((k : ℕ) → k < suc n → get_or s (i + k) 0 < 0x80)
      → is_kept (get_or s (i + n) 0) ≡ true → Passed s i t j (suc n)
  passed_some n h k e a last =
      let ps : Plain s i (suc n) = plain s i (suc n) h a in
      let pt : Plain t j (suc n) = plain t j (suc n) k (λ m b. subst (λ (x : ℕ). x < 0x80) (e m b) (a m b)) in
      let x = bytes s i (suc n) in
      let l = decode (drop (i + suc n) s) in
      let m = decode (drop (j + suc n) t) in
      let ct : decode (drop j t) ≡ x ++ m =
      pt.chars ∙ ap (λ (y : List ℕ). y ++ m) (same_bytes s t i j (suc n) e) in
      let z : 0 + length x ≡ suc n = omega (arith, length_bytes s i (suc n)) in
      record {
        fits_source = h;
        fits_text = k;
        well_source = ps.well;
        well_text = pt.well;
        struck = λ d. append_cancel_left (strike x) (strike m) (strike l)
            (sym (strike_append x m) ∙ ap strike (sym ct) ∙ d ∙ ap strike ps.chars ∙ strike_append x l);
        same =
            ap (λ (y : List ℕ). changes_from (strike y) i j y (decode (drop j t))) ps.chars
            ∙ ap (λ (y : List ℕ). changes_from (strike (x ++ l)) i j (x ++ l) y) ct
            ∙ same_chars x [] i j l m tt ps.ones tt (ends_bytes s i n last)
            ∙ ap (λ (y : ℕ). changes_from (strike l) (i + y) (j + y) l m) z;
      }

  passed_block : (r : ℕ) → i ≤ length s → j ≤ length t → 16 ≤ length s - i → 16 ≤ length t - j
      → Same s i t j → LastKept s i r → Passed s i t j r
  passed_block zero h k a b q v = passed_none s i t j h k
  passed_block (suc n) h k a b q v =
      let m : suc n - 1 ≡ n = omega arith in
      let kept : KeptByte (get_or s (i + n) 0) = subst (λ (x : ℕ). KeptByte (get_or s (i + x) 0)) m (v.last (omega arith)) in
      passed_some n (omega (arith, v.within)) (omega (arith, v.within)) (λ x y. q.bytes x (omega (arith, v.within)))
      (λ x y. q.ascii x (omega (arith, v.within))) (kept (q.ascii n (omega (arith, v.within))))

  pub passed_on : (k m : ℕ) → Passed s i t j k → Passed s (i + k) t (j + k) m → Passed s i t j (k + m)
  passed_on k m p q =
      let ei : i + k + m ≡ i + (k + m) = omega arith in
      let ej : j + k + m ≡ j + (k + m) = omega arith in
      record {
        fits_source = omega (arith, q.fits_source);
        fits_text = omega (arith, q.fits_text);
        well_source = λ w. subst (λ (n : ℕ). WellFormed (drop n s)) ei (q.well_source (p.well_source w));
        well_text = λ w. subst (λ (n : ℕ). WellFormed (drop n t)) ej (q.well_text (p.well_text w));
        struck = λ e. rw (ei, ej) at (q.struck (p.struck e));
        same = p.same ∙ (rw (ei, ej) at q.same);
      }

  rest : (l : List ℕ) (k : ℕ) → take (length l - k) (drop k l) ≡ drop k l
  rest l k = take_all (length l - k) (drop k l) (omega (arith, length-drop k l))

  pub block_some : (r : ℕ) (any : Bool) → i ≤ length s → j ≤ length t → 16 ≤ length s - i → 16 ≤ length t - j
      → NoneAmong (differ_at (take (length s - i) (drop i s)) (take (length t - j) (drop j t))) 0 16 any → any ≡ false → LastKept s i r → (r ≡ 0 → ⊥) → BlockPassed s i t j (Some r)
  block_some r any h k a b q e v f =
      record {
        some = λ n y. let z : r ≡ n = cc in
            subst (λ (x : ℕ). (0 < x) × Passed s i t j x) z (omega arith, passed_block r h k a b (same_told s i t j any (rw (rest s i, rest t j) at q) e) v);
      }

  pub run_turn : (k m : ℕ) (r : Option ℕ) → Passed s i t j k → BlockPassed s (i + k) t (j + k) r → r ≡ Some m
      → Passed s i t j (k + m)
  run_turn k m r p q e = passed_on k m p (q.some m e).1

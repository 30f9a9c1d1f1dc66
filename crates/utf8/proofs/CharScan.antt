-- The scan past the characters that a test p takes.
--     chars_begin, chars_turn, chars_found, chars_end   the loop of `past_chars`
use Prim.Native.Nat.{ℕ, ◌+◌, ◌-◌, ◌<◌, ◌≤◌}
use mathlib.Core.Bool.{Bool, true, false}
use mathlib.Core.List.{List, [], ◌∷◌, ◌++◌, append_assoc, append-nil}
use mathlib.Core.Path.{◌≡◌, refl, sym, ap, ◌∙◌}
use native.Mathlib.Nat.{le_refl}
use native.Mathlib.Omega.{arith}
use lib.ListN.{length, take, drop}
use lib.Seq.{take_at, take-add, drop-drop, drop-length}
use Rattle.std.specs.Prelude.{Option, Some, None, is_some}
use Rattle.std.specs.List.{take_while}
use Rattle.std.proofs.lemmas.List.Sums.{take_while-cons}
use Rattle.utf8.specs.Unicode.{encode_char, encode, code_at, chars, decode, WellFormed}
use Rattle.utf8.specs.Places.{Step, TakenAt, PastChars}
use Rattle.utf8.proofs.Decode.{encode_nil, encode_one, encode_append}
use Rattle.utf8.proofs.TrimScan.{first_char}

module _ (p : ℕ → Bool) where
  one_more : (c : ℕ) (cs : List ℕ) → p c ≡ true → take_while p (c ∷ cs) ≡ c ∷ take_while p cs
  one_more c cs e = take_while-cons p c cs ∙ rw e

  no_more : (c : ℕ) (cs : List ℕ) → p c ≡ false → take_while p (c ∷ cs) ≡ []
  no_more c cs e = take_while-cons p c cs ∙ rw e

  -- p takes what was passed from `from` up to i, and what it takes further on stands from i on
  pub record CharScan (s : List ℕ) (from i : ℕ) : Type 0 where
    pub on : from ≤ i
    pub fits : i ≤ length s
    pub well : WellFormed (drop i s)
    pub passed : List ℕ
    pub bytes : take (i - from) (drop from s) ≡ encode passed
    pub chars : decode (drop from s) ≡ passed ++ decode (drop i s)
    pub takes : take_while p (decode (drop from s)) ≡ passed ++ take_while p (decode (drop i s))

  pub chars_begin : (s : List ℕ) (from : ℕ) → from ≤ length s → WellFormed (drop from s) → CharScan s from from
  chars_begin s from h w =
      let n : from - from ≡ 0 = omega arith in
      record {
        on = le_refl from;
        fits = h;
        well = w;
        passed = [];
        bytes = ap (λ (k : ℕ). take k (drop from s)) n ∙ sym encode_nil;
        chars = refl;
        takes = refl;
      }

  pub chars_turn : (s : List ℕ) (from i n : ℕ) (r : Option ℕ) → CharScan s from i → TakenAt p s i r → r ≡ Some n
      → CharScan s from (i + n)
  chars_turn s from i n r q v z =
      let c = code_at (drop i s) in
      let t : Step s i n = v.step n z in
      let m : i + n - from ≡ (i - from) + n = omega (arith, q.on) in
      let d : from + (i - from) ≡ i = omega (arith, q.on) in
      let one : take n (drop i s) ≡ encode (c ∷ []) =
      ap (take n) t.bytes ∙ take_at (encode_char c) (drop (i + n) s) n t.long ∙ sym (encode_one c) in
      let more : take (i + n - from) (drop from s) ≡ take (i - from) (drop from s) ++ take n (drop i s) =
      rw (m, take-add (i - from) n (drop from s), drop-drop (i - from) from s, d) in
      let last : (l : List ℕ) → q.passed ++ c ∷ l ≡ (q.passed ++ c ∷ []) ++ l = λ l. sym (append_assoc q.passed (c ∷ []) l) in
      record {
        on = omega (arith, q.on);
        fits = t.fits;
        well = t.well q.well;
        passed = q.passed ++ c ∷ [];
        bytes = more ∙ rw (q.bytes, one, encode_append q.passed (c ∷ []));
        chars = q.chars ∙ ap (λ (l : List ℕ). q.passed ++ l) t.chars ∙ last _;
        takes =
            q.takes
            ∙ ap (λ (l : List ℕ). q.passed ++ l) (ap (take_while p) t.chars ∙ one_more c _ (v.is ∙ ap is_some z))
            ∙ last _;
      }

  chars_done : (s : List ℕ) (from i : ℕ) → CharScan s from i → take_while p (decode (drop i s)) ≡ []
      → (i < length s → p (code_at (drop i s)) ≡ false) → PastChars p s from i
  chars_done s from i q e h =
      let t : take_while p (decode (drop from s)) ≡ q.passed = q.takes ∙ rw e (append-nil q.passed) in
      record {
        on = q.on;
        fits = q.fits;
        well = q.well;
        bytes = q.bytes ∙ ap encode (sym t);
        chars = q.chars ∙ ap (λ (l : List ℕ). l ++ decode (drop i s)) (sym t);
        stop = h;
      }

  pub chars_found : (s : List ℕ) (from i : ℕ) (r : Option ℕ) → CharScan s from i → i < length s → TakenAt p s i r → r ≡ None
      → PastChars p s from i
  chars_found s from i r q h v z =
      let k : p (code_at (drop i s)) ≡ false = v.is ∙ ap is_some z in
      chars_done s from i q (ap (take_while p) (first_char s i h q.well).chars ∙ no_more _ _ k) (λ l. k)

  pub chars_end : (s : List ℕ) (from i : ℕ) → CharScan s from i → length s ≤ i → PastChars p s from i
  unfolding chars
  chars_end s from i q h =
      let m : i ≡ length s = omega (arith, q.fits) in
      let d : drop i s ≡ [] = ap (λ (k : ℕ). drop k s) m ∙ drop-length s in
      chars_done s from i q (ap (λ (l : List ℕ). take_while p (decode l)) d) (λ l. absurd (omega arith))

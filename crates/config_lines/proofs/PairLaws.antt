-- What a pair means, by bytes and by characters.
use Rattle.std.specs.Prelude.{Some, None}
use Rattle.std.specs.Bool.{MatchBool}
use Prim.Native.Nat.{ℕ, suc, ◌≤◌}
use mathlib.Core.Bool.{Bool, true, false, and-false}
use mathlib.Core.List.{List, [], ◌∷◌}
use mathlib.Core.Path.{◌≡◌, refl, sym, ◌∙◌}
use native.Mathlib.Omega.{arith}
use borrow.Author.Tests.{lt-leb, ne_eqb, eqb-true, eqb-false}
use lib.Dec.{eqb, leb}
use lib.ListN.{length}
use Rattle.utf8.specs.Unicode.{encode, decode, WellFormed}
use Rattle.utf8.proofs.Table.{encode_char_1}
use Rattle.utf8.proofs.Tests.{by_test, in_range_law}
use Rattle.utf8.proofs.Decode.{encode_nil, encode_cons}
use Rattle.rules.specs.Basics.{choose, codes, leading}
use Rattle.rules.proofs.Choose.{choose_true, choose_false, choose_case}
use Rattle.rules.proofs.StartsBytes.{Steady, on_decode, leading_encode}
use Rattle.rules.specs.declared.IndentSize.{IndentSize}
use Rattle.rules.specs.declared.MaxLineLen.{MaxLineLen}
use Rattle.rules.specs.declared.Resolved.{Resolved}
use Rattle.config_rules.specs.Numbers.{is_digit, digit_count, value}
use Rattle.config_rules.specs.Lines.{lower}
use Rattle.config_rules.specs.Values.{is_whole, style_of, size_of, tab_of, max_of, ending_of, newline_of, superseded}
use Rattle.config_lines.proofs.LineBytes.{word_decode}
use Rattle.config_lines.proofs.ValueLaws.{whole_lower, not_whole}
use Rattle.rules.proofs.SpacedLine.{length_size}

-- ---- digits

steady_digit : Steady is_digit false
steady_digit b h = rw (lt-leb b 57 (omega arith), and-false (leb 48 b))

count_leading : (l : List ℕ) → digit_count l ≡ leading is_digit l
unfolding digit_count leading
count_leading [] = refl
count_leading (c ∷ l) = rw (count_leading l)

count_encode : (l : List ℕ) → digit_count (encode l) ≡ digit_count l
count_encode l = count_leading (encode l) ∙ leading_encode is_digit steady_digit l ∙ sym (count_leading l)

count_fits : (l : List ℕ) → digit_count l ≤ length l
unfolding digit_count
count_fits [] = omega arith
count_fits (c ∷ l) = choose_case (λ (n : ℕ). n ≤ suc (length l)) (λ e. omega (arith, count_fits l)) (λ e. omega arith)

digits_encode : (l : List ℕ) → digit_count l ≡ length l → encode l ≡ l
unfolding digit_count
digits_encode [] e = encode_nil
digits_encode (c ∷ l) e =
    by_test (is_digit c)
    (λ t.
    let r : (48 ≤ c) × (c ≤ 57) = in_range_law 48 57 c t in
    let k : choose (is_digit c) (suc (digit_count l)) 0 ≡ suc (digit_count l) = choose_true (is_digit c) (suc (digit_count l)) 0 t in
    encode_cons c l ∙ rw (encode_char_1 c (omega arith), digits_encode l (omega (arith, k))))
    (λ t. let k : choose (is_digit c) (suc (digit_count l)) 0 ≡ 0 = choose_false (is_digit c) (suc (digit_count l)) 0 t in absurd (omega (arith, k)))

whole_encode : {A : Type 0} (f : ℕ → A) (z : A) (l : List ℕ) → choose (is_whole (encode l)) (f (value (encode l))) z ≡ choose (is_whole l) (f (value l)) z
whole_encode f z l =
    by_test (eqb (digit_count l) (length l))
    (λ t. rw (digits_encode l (eqb-true (digit_count l) (length l) t)))
    (λ t.
    let n : digit_count (encode l) ≡ length (encode l) → ⊥ =
    λ e. eqb-false (digit_count l) (length l) t (omega (arith, count_encode l, count_fits l, length_size l, e)) in
    choose_false (is_whole (encode l)) (f (value (encode l))) z (not_whole (encode l) (ne_eqb (digit_count (encode l)) (length (encode l)) n))
    ∙ sym (choose_false (is_whole l) (f (value l)) z (not_whole l t)))

-- ---- values

module _ (v : List ℕ) (w : WellFormed v) where
  whole_decode : {A : Type 0} (f : ℕ → A) (z : A)
      → choose (is_whole (lower v)) (f (value (lower v))) z ≡ choose (is_whole (lower (decode v))) (f (value (lower (decode v)))) z
  whole_decode {A = A} f z =
      sym (whole_lower f z v) ∙ on_decode (λ (l : List ℕ). choose (is_whole l) (f (value l)) z) (λ (l : List ℕ). choose (is_whole l) (f (value l)) z) (whole_encode f z) v w
      ∙ whole_lower f z (decode v)

  style_decode : style_of (lower v) ≡ style_of (lower (decode v))
  unfolding style_of
  style_decode = rw (word_decode (codes "tab") refl v w, word_decode (codes "space") refl v w)

  size_decode : size_of (lower v) ≡ size_of (lower (decode v))
  unfolding size_of
  size_decode = rw (word_decode (codes "tab") refl v w, whole_decode (λ (n : ℕ). Some (IndentSize.Value n)) None)

  tab_decode : tab_of (lower v) ≡ tab_of (lower (decode v))
  unfolding tab_of
  tab_decode = whole_decode Some None

  max_decode : max_of (lower v) ≡ max_of (lower (decode v))
  unfolding max_of
  max_decode = rw (word_decode (codes "off") refl v w, whole_decode (λ (n : ℕ). Some (MaxLineLen.Value n)) None)

  ending_decode : ending_of (lower v) ≡ ending_of (lower (decode v))
  unfolding ending_of
  ending_decode = rw (word_decode (codes "lf") refl v w, word_decode (codes "crlf") refl v w, word_decode (codes "cr") refl v w)

  newline_decode : newline_of (lower v) ≡ newline_of (lower (decode v))
  unfolding newline_of
  newline_decode = rw (word_decode (codes "true") refl v w, word_decode (codes "false") refl v w)

pub superseded_decode : (r : Resolved) (k v : List ℕ) → WellFormed k → WellFormed v
    → superseded r (lower k) (lower v) ≡ superseded r (lower (decode k)) (lower (decode v))
unfolding superseded
superseded_decode r k v x y =
    rw (
      word_decode (codes "indent_style") refl k x,
      word_decode (codes "indent_size") refl k x,
      word_decode (codes "tab_width") refl k x,
      word_decode (codes "max_line_length") refl k x,
      word_decode (codes "end_of_line") refl k x,
      word_decode (codes "insert_final_newline") refl k x,
      style_decode v y,
      size_decode v y,
      tab_decode v y,
      max_decode v y,
      ending_decode v y,
      newline_decode v y,
    )

-- the value that a pair with the key has set, or the old one
pub chosen : {A : Type 0} (b : Bool) (P : Type 0) (new old r : A) → MatchBool b P (r ≡ old) → (P → r ≡ new) → r ≡ choose b new old
unfolding choose
chosen true P new old r e f = f e
chosen false P new old r e f = e

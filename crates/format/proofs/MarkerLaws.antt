-- The marker, and code before it, found on bytes.
use Prim.Native.Nat.{ℕ, ◌-◌, ◌≤◌, ◌<◌}
use mathlib.Core.Bool.{Bool, true, false, not, ◌&&◌, and-true, false≢true}
use mathlib.Core.List.{List, [], ◌∷◌}
use mathlib.Core.Path.{◌≡◌, refl, sym, ◌∙◌}
use native.Mathlib.Omega.{arith}
use lib.Dec.{eqb, ltb}
use lib.ListN.{length, take, drop, length-drop, drop_of_length-le}
use lib.Pointwise.{pointwise}
use borrow.Author.Tests.{ltb-true, ltb-false, eqb-true}
use Rattle.utf8.specs.Unicode.{chars, decode, WellFormed, is_white, trim, trim_start}
use Rattle.utf8.specs.Places.{TrimmedStart, TrimmedEnd}
use Rattle.utf8.proofs.Tests.{by_test, and_left, and_right}
use Rattle.utf8.proofs.Trim.{start_other, end_first}
use Rattle.buffer.proofs.RegionLaws.{part_from}
use Rattle.rules.specs.Basics.{choose, codes, at, same, is_empty, leading, starts_with}
use Rattle.rules.specs.Words.{drop_slashes, is_marker_text}
use Rattle.rules.proofs.StartsBytes.{on_decode, starts_encode, starts_length, starts_column, same_encode}
use Rattle.format.proofs.WordLaws.{on_bytes}
use Rattle.format.proofs.ElseLaws.{decode_some}

-- ---- the whole text

pub same_pointwise : (a b : List ℕ) → pointwise eqb a b ≡ same a b
unfolding same
same_pointwise [] [] = refl
same_pointwise [] (y ∷ b) = refl
same_pointwise (x ∷ a) [] = refl
same_pointwise (x ∷ a) (y ∷ b) = rw (same_pointwise a b)

-- ---- the marker

module _ (s : List ℕ) (a : ℕ) (t : TrimmedStart s a) where
  pub trimmed_well : WellFormed (take (length s - a) (drop a s))
  trimmed_well = rw part_from t.well

  pub marker_word : (e : ℕ) (b : Bool) → TrimmedEnd (take (length s - a) (drop a s)) e → b ≡ pointwise eqb (take e (take (length s - a) (drop a s))) (codes "fmt-ignore")
      → b ≡ same (trim (decode s)) (codes "fmt-ignore")
  unfolding trim
  marker_word e b u p =
      p ∙ same_pointwise (take e (take (length s - a) (drop a s))) (codes "fmt-ignore") ∙ on_decode (λ l. same l (codes "fmt-ignore")) (λ l. same l (codes "fmt-ignore")) (λ l. same_encode l (codes "fmt-ignore") refl) (take e (take (length s - a) (drop a s))) u.well
      ∙ rw (u.text, part_from, t.text)

-- after two slashes and no third
two_slashes : (l : List ℕ) → at l "//" ≡ true → at l "///" ≡ false → drop_slashes l ≡ drop 2 l
unfolding starts_with drop_slashes leading choose
two_slashes [] p q = refl
two_slashes (a ∷ []) p q = absurd (false≢true (and_right (eqb a 47) false p))
two_slashes (a ∷ b ∷ []) p q =
    rw (and_left (eqb a 47) (eqb b 47 && true) p, and_left (eqb b 47) true (and_right (eqb a 47) (eqb b 47 && true) p))
two_slashes (a ∷ b ∷ c ∷ l) p q =
    let x = and_left (eqb a 47) (eqb b 47 && true) p in
    let y = and_left (eqb b 47) true (and_right (eqb a 47) (eqb b 47 && true) p) in
    let z : eqb c 47 ≡ false = sym (and-true (eqb c 47)) ∙ (rw (x, y) at q) in
    rw (x, y, z)

-- a third slash is no part of the word
third_slash : (l : List ℕ) → at l "///" ≡ true → same (trim (drop 2 l)) (codes "fmt-ignore") ≡ false
unfolding starts_with trim same is_white
third_slash [] q = absurd (false≢true q)
third_slash (a ∷ []) q = absurd (false≢true (and_right (eqb a 47) false q))
third_slash (a ∷ b ∷ []) q = absurd (false≢true (and_right (eqb b 47) false (and_right (eqb a 47) (eqb b 47 && false) q)))
third_slash (a ∷ b ∷ c ∷ l) q =
    let e : c ≡ 47 = eqb-true c 47 (and_left (eqb c 47) true (and_right (eqb b 47) (eqb c 47 && true) (and_right (eqb a 47) (eqb b 47 && (eqb c 47 && true)) q))) in
    rw (e, start_other 47 l refl, end_first 47 l refl)

marker_as : (l : List ℕ) → at l "//" ≡ true → is_marker_text l ≡ same (trim (drop 2 l)) (codes "fmt-ignore")
unfolding is_marker_text
marker_as l p = rw p (by_test (at l "///") (λ q. rw q (sym (third_slash l q))) (λ q. rw (q, two_slashes l p q)))

module _ (s : List ℕ) (w : WellFormed s) (r : Bool) (e : r ≡ starts_with s (codes "//")) where
  on_two : starts_with (decode s) (codes "//") ≡ r
  on_two = on_bytes (λ l. starts_with l (codes "//")) (λ l. starts_encode (codes "//") l refl) s w ∙ sym e

  pub marker_no : r ≡ false → false ≡ is_marker_text (decode s)
  unfolding is_marker_text
  marker_no q = rw (on_two, q)

  pub slashes_long : r ≡ true → 2 ≤ length s
  slashes_long q = starts_length (codes "//") s (sym e ∙ q)

  pub slashes_well : r ≡ true → WellFormed (take (length s - 2) (drop 2 s))
  slashes_well q = rw part_from (starts_column (codes "//") s refl w (sym e ∙ q)).well

  pub marker_rest : (b : Bool) → r ≡ true → b ≡ same (trim (decode (take (length s - 2) (drop 2 s)))) (codes "fmt-ignore") → b ≡ is_marker_text (decode s)
  marker_rest b q g =
      g ∙ rw (part_from, (starts_column (codes "//") s refl w (sym e ∙ q)).text) (sym (marker_as (decode s) (on_two ∙ q)))

-- ---- code before the comment

pub code_by : (s : List ℕ) (a : ℕ) → TrimmedStart s a → ltb a (length s) ≡ not (is_empty (trim_start (decode s)))
unfolding chars
code_by s a t = rw (← t.text) (by_test (ltb a (length s)) some none)
  where
    some : ltb a (length s) ≡ true → ltb a (length s) ≡ not (is_empty (decode (drop a s)))
    some e =
        let h : a < length s = ltb-true a (length s) e in
        rw (e, decode_some (drop a s) t.well (λ z. absurd (omega (arith, length-drop a s))))

    none : ltb a (length s) ≡ false → ltb a (length s) ≡ not (is_empty (decode (drop a s)))
    none e = rw (e, drop_of_length-le s {i = a} (ltb-false a (length s) e))

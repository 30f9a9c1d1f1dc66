-- A plain `else`, and the facts of a line, found on bytes.
use Prim.Native.Nat.{ℕ, ◌-◌, ◌≤◌, ◌<◌}
use mathlib.Core.Bool.{Bool, true, false, not, and-true}
use mathlib.Core.List.{List, [], ◌∷◌}
use mathlib.Core.Path.{◌≡◌, refl, sym, ap, ◌∙◌}
use native.Mathlib.Omega.{arith}
use borrow.Author.Tests.{eq-eqb, ne_eqb}
use lib.ListN.{length, get_or, take, drop}
use lib.Seq.{length-take-le}
use Rattle.utf8.specs.Unicode.{chars, decode, trim_start, trim_end, WellFormed, first_is_white}
use Rattle.utf8.specs.Places.{TrimmedStart, TrimmedEnd}
use Rattle.buffer.proofs.RegionLaws.{part_from}
use Rattle.rules.specs.Basics.{is, codes, at, is_empty, is_ident, starts_with, first_is, last_is, starts_then}
use Rattle.rules.specs.Else.{starts_if, white_or_brace, is_plain_else, joinable}
use Rattle.rules.proofs.Leading.{last_at}
use Rattle.rules.proofs.StartsBytes.{on_decode, steady_is, steady_not, steady_ident, starts_encode, starts_length, starts_column, empty_encode, then_encode, last_encode}
use Rattle.format.specs.Words.{white_or}
use Rattle.format.specs.Else.{plain_rest, Facts}
use Rattle.format.proofs.WordLaws.{first_white, on_bytes}

-- the first r of l are r
pub front_long : (l : List ℕ) (r : ℕ) → r ≤ length l → r ≡ length (take r l)
front_long l r h = sym (length-take-le r l h)

-- ---- the last byte

last_none : (p : ℕ → Bool) (s : List ℕ) → length s ≡ 0 → false ≡ last_is p s
unfolding last_is
last_none p [] h = refl
last_none p (x ∷ s) h = absurd (omega arith)

pub brace_short : (s : List ℕ) → length s < 1 → false ≡ last_is (is "}") s
brace_short s h = last_none (is "}") s (omega arith)

pub brace_last : (s : List ℕ) → 1 ≤ length s → get_or s (length s - 1) 0 ≡ 125 → true ≡ last_is (is "}") s
brace_last s h e = sym (eq-eqb _ _ e) ∙ last_at (is "}") s (λ z. absurd (omega arith))

pub brace_other : (s : List ℕ) → 1 ≤ length s → (get_or s (length s - 1) 0 ≡ 125 → ⊥) → false ≡ last_is (is "}") s
brace_other s h n = sym (ne_eqb _ _ n) ∙ last_at (is "}") s (λ z. absurd (omega arith))

-- ---- `if`

module _ (s : List ℕ) where
  pub no_white : (r : Bool) → r ≡ first_is_white (decode s) → r ≡ false → false ≡ starts_if (decode s)
  unfolding starts_if
  no_white r e q = rw (first_white (decode s), ← e, q)

  pub white_if : (r b : Bool) (a : ℕ) → r ≡ first_is_white (decode s) → r ≡ true → TrimmedStart s a → b ≡ starts_then (codes "if") (λ c. not (is_ident c)) true (take (length s - a) (drop a s)) → b ≡ starts_if (decode s)
  unfolding starts_if
  white_if r b a e q t f =
      f ∙ rw part_from
      (on_decode (starts_then (codes "if") (λ c. not (is_ident c)) true) (starts_then (codes "if") (λ c. not (is_ident c)) true)
      (then_encode (codes "if") (λ c. not (is_ident c)) true true refl (steady_not is_ident false steady_ident)) (drop a s) t.well
      ∙ rw (t.text, first_white (decode s), ← e, q))

-- ---- what follows the `else`

pub decode_some : (s : List ℕ) → WellFormed s → (length s ≡ 0 → ⊥) → is_empty (decode s) ≡ false
decode_some s w h = sym (on_decode is_empty is_empty empty_encode s w) ∙ some s h
  where
    some : (l : List ℕ) → (length l ≡ 0 → ⊥) → is_empty l ≡ false
    some [] h = absurd (h refl)
    some (x ∷ l) h = refl

brace_as : (l : List ℕ) → first_is white_or_brace l ≡ first_is (white_or 123) l
unfolding white_or_brace white_or
brace_as l = refl

pub plain_end : (s : List ℕ) → length s ≡ 0 → true ≡ plain_rest (decode s)
unfolding plain_rest starts_if first_is chars
plain_end [] h = refl
plain_end (x ∷ s) h = absurd (omega arith)

module _ (s : List ℕ) (w : WellFormed s) (r : Bool) (e : r ≡ first_is (white_or 123) (decode s)) where
  pub plain_no : (length s ≡ 0 → ⊥) → r ≡ false → false ≡ plain_rest (decode s)
  unfolding plain_rest
  plain_no h q = rw (brace_as (decode s), ← e, q, decode_some s w h)

  pub plain_yes : (i : Bool) → r ≡ true → i ≡ starts_if (decode s) → not i ≡ plain_rest (decode s)
  unfolding plain_rest
  plain_yes i q f = rw (brace_as (decode s), ← e, q, ← f)

module _ (s : List ℕ) (w : WellFormed s) (r : Bool) (e : r ≡ starts_with s (codes "else")) where
  on_else : starts_with (decode s) (codes "else") ≡ r
  on_else = on_bytes (λ l. starts_with l (codes "else")) (λ l. starts_encode (codes "else") l refl) s w ∙ sym e

  pub else_no : r ≡ false → false ≡ is_plain_else (decode s)
  unfolding is_plain_else starts_then
  else_no q = rw (on_else, q)

  pub else_long : r ≡ true → 4 ≤ length s
  else_long q = starts_length (codes "else") s (sym e ∙ q)

  pub else_well : r ≡ true → WellFormed (take (length s - 4) (drop 4 s))
  else_well q = rw part_from (starts_column (codes "else") s refl w (sym e ∙ q)).well

  pub else_rest : (b : Bool) → r ≡ true → b ≡ plain_rest (decode (take (length s - 4) (drop 4 s))) → b ≡ is_plain_else (decode s)
  unfolding is_plain_else starts_then plain_rest
  else_rest b q f = f ∙ rw (part_from, (starts_column (codes "else") s refl w (sym e ∙ q)).text, on_else, q, and-true)

-- ---- the facts of a line

-- its bytes end in `}` as its characters do, and start with `else`, trimmed at the start
pub brace_bytes : (s : List ℕ) → WellFormed s → last_is (is "}") s ≡ last_is (is "}") (decode s)
brace_bytes s w = on_decode (last_is (is "}")) (last_is (is "}")) (last_encode (is "}") false (steady_is "}" refl)) s w

else_chars : (s : List ℕ) (a : ℕ) → TrimmedStart s a → starts_with (take (length s - a) (drop a s)) (codes "else") ≡ at (trim_start (decode s)) "else"
else_chars s a u = rw part_from (on_decode (λ l. starts_with l (codes "else")) (λ l. starts_with l (codes "else")) (λ l. starts_encode (codes "else") l refl) (drop a s) u.well ∙ rw u.text)

pub facts_by : (s : List ℕ) (e a : ℕ) (b f : Bool) → WellFormed s → TrimmedEnd s e → TrimmedStart s a → b ≡ last_is (is "}") (take e s)
    → f ≡ starts_with (take (length s - a) (drop a s)) (codes "else") → Facts s (record { trimmed = e; brace = b; else_first = f })
facts_by s e a b f w t u p q = record { trimmed = t; brace = p ∙ brace_bytes (take e s) t.well ∙ rw t.text; starts = q ∙ else_chars s a u }

-- whether an `else` may join a line that is trimmed at its end
module _ (s : List ℕ) (w : WellFormed s) (t : trim_end (decode s) ≡ decode s) (b : Bool) (p : b ≡ last_is (is "}") s) where
  ends_same : last_is (is "}") (trim_end (decode s)) ≡ b
  ends_same = ap (last_is (is "}")) t ∙ sym (p ∙ brace_bytes s w)

  pub takes_brace : (a : ℕ) (f : Bool) → b ≡ true → TrimmedStart s a → f ≡ starts_with (take (length s - a) (drop a s)) (codes "else") → not f ≡ joinable (decode s)
  unfolding joinable
  takes_brace a f e u q = sym (rw (ends_same ∙ e, ← (q ∙ else_chars s a u)) refl)

  pub takes_none : b ≡ false → false ≡ joinable (decode s)
  unfolding joinable
  takes_none e = sym (rw (ends_same ∙ e))

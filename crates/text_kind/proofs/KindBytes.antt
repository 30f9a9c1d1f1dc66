-- A character's kind is that of its first byte.
--     kinds_encode      the kinds of a line, on its bytes
--     kind_bytes        the kind at a place, on a well-formed source's bytes
use Prim.Native.Nat.{ℕ, zero, suc, ◌+◌, ◌/◌, ◌%◌, ◌≤◌, ◌<◌, zero-le}
use native.Mathlib.Omega.{arith}
use mathlib.Core.Bool.{true, false}
use mathlib.Core.List.{List, [], ◌∷◌, ◌++◌, map}
use mathlib.Core.Path.{◌≡◌, refl, sym, ap, ◌∙◌}
use lib.ListN.{length}
use Rattle.utf8.specs.Unicode.{encode_char, encode, tail, decode, WellFormed}
use Rattle.utf8.proofs.Table.{Shape, one, two, three, four, shape, tail_view, tail_make, not_tail_low, not_tail_high}
use Rattle.utf8.proofs.Decode.{encode_cons}
use Rattle.rules.specs.declared.Carry.{Carry}
use Rattle.rules.specs.declared.Mode.{Mode}
use Rattle.rules.specs.declared.Mark.{Mark}
use Rattle.rules.specs.declared.TextKind.{TextKind}
use Rattle.rules.specs.Basics.{choose, pieces, split_on}
use Rattle.rules.specs.Scan.{next, begin, carry_after}
use Rattle.rules.specs.TextKind.{in_interpolation, class_kind, kinds, rust_lines, kind_in, text_kind_at}
use Rattle.rules.proofs.Choose.{choose_case}
use Rattle.rules.proofs.StartsBytes.{on_decode}
use Rattle.rules.proofs.ScanBytes.{rest, mark_high, Fit, fit_one, next_fit, next_single, next_high, carry_encode}
use Rattle.rules.proofs.LinesBytes.{rust_lines_bytes}
use Rattle.text_kind.specs.Kind.{byte_kinds, byte_kind_in, kind_from}

-- ---- the clauses, one at a time

kinds_cons : (t : Mark) (c : ℕ) (s : List ℕ) → kinds t (c ∷ s) ≡ class_kind (next t (c ∷ s)).class (in_interpolation t.mode) ∷ kinds (next t (c ∷ s)) s
unfolding kinds
kinds_cons t c s = refl

kinds_nil : (t : Mark) → byte_kinds t (encode []) ≡ kinds t []
unfolding byte_kinds kinds encode
kinds_nil t = refl

pub bytes_tail : (t : Mark) (b : ℕ) (s : List ℕ) → tail b ≡ true → byte_kinds t (b ∷ s) ≡ byte_kinds (next t (b ∷ s)) s
unfolding byte_kinds choose
bytes_tail t b s e = rw e

pub bytes_first : (t : Mark) (b : ℕ) (s : List ℕ) → tail b ≡ false → byte_kinds t (b ∷ s) ≡ class_kind (next t (b ∷ s)).class (in_interpolation t.mode) ∷ byte_kinds (next t (b ∷ s)) s
unfolding byte_kinds choose
bytes_first t b s e = rw e

-- a line has no more characters than bytes
pub kinds_fit : (t : Mark) (s : List ℕ) → length (byte_kinds t s) ≤ length s
unfolding byte_kinds
kinds_fit t [] = zero-le
kinds_fit t (b ∷ s) =
    let r = kinds_fit (next t (b ∷ s)) s in
    choose_case (λ (l : List TextKind). length l ≤ suc (length s)) (λ e. omega arith) (λ e. omega arith)

-- ---- a line

data Tails : List ℕ → Type 0 where
  none : Tails []
  also : {b : ℕ} {bs : List ℕ} → tail b ≡ true → Tails bs → Tails (b ∷ bs)

rest_tails : (m : Mode) (bs s : List ℕ) → Tails bs → byte_kinds (rest m) (bs ++ s) ≡ byte_kinds (rest m) s
rest_tails m bs s none = refl
rest_tails m bs s (also {b = b} {bs = bs'} h hs) =
    bytes_tail (rest m) b (bs' ++ s) h ∙ rw (mark_high m b (bs' ++ s) (tail_view b h).0) (rest_tails m bs' s hs)

module _ (t : Mark) (c : ℕ) (s : List ℕ) (f : Fit (c ∷ s) t) (same : byte_kinds (next t (c ∷ s)) (encode s) ≡ kinds (next t (c ∷ s)) s) where
  -- a character below 80 hex
  low : c < 0x80 → encode_char c ≡ c ∷ [] → byte_kinds t (encode (c ∷ s)) ≡ kinds t (c ∷ s)
  low h e =
      let E : encode (c ∷ s) ≡ c ∷ encode s = rw (encode_cons, e) in
      let N : next t (c ∷ encode s) ≡ next t (c ∷ s) = next_single t.more t.class t.mode c s E in
      rw (E, bytes_first t c (encode s) (not_tail_low c h), kinds_cons t c s, N, same)

  -- any other: its first byte leaves the mark that the character leaves, and its tails keep it
  high : (b : ℕ) (bs : List ℕ) → encode_char c ≡ b ∷ bs → 0x80 ≤ c → 0xC0 ≤ b → Tails bs → byte_kinds t (encode (c ∷ s)) ≡ kinds t (c ∷ s)
  high b bs e hc hb hs =
      let E : encode (c ∷ s) ≡ b ∷ (bs ++ encode s) = rw (encode_cons, e) in
      let m : Mode = t.mode in
      let N = next_high t.more t.class m c b s (bs ++ encode s) f.fit hc (omega arith) in
      let same' : byte_kinds (rest m) (encode s) ≡ kinds (rest m) s = rw N.0 at same in
      rw (E, bytes_first t b (bs ++ encode s) (not_tail_high b hb), kinds_cons t c s, N.0, N.1, rest_tails m bs (encode s) hs, same')

  one_more : byte_kinds t (encode (c ∷ s)) ≡ kinds t (c ∷ s)
  one_more = go (shape c)
    where
      made : (x : ℕ) → tail (0x80 + x % 64) ≡ true
      made x = tail_make (0x80 + x % 64) (omega arith) (omega arith)

      go : Shape c → byte_kinds t (encode (c ∷ s)) ≡ kinds t (c ∷ s)
      go (one h e) = low h e
      go (two h k e) = high _ _ e h (omega arith) (also (made c) none)
      go (three h k e) = high _ _ e (omega arith) (omega arith) (also (made (c / 64)) (also (made c) none))
      go (four h e) = high _ _ e (omega arith) (omega arith) (also (made (c / 4096)) (also (made (c / 64)) (also (made c) none)))

pub kinds_encode : (l : List ℕ) (t : Mark) → Fit l t → byte_kinds t (encode l) ≡ kinds t l
kinds_encode [] t f = kinds_nil t
kinds_encode (c ∷ s) t f =
    one_more t c s f (kinds_encode s (next t (c ∷ s)) (next_fit t.more t.class t.mode c s f.fit))

-- ---- the lines

kind_in_encode : (ls : List (List ℕ)) (y : Carry) (n col : ℕ) → byte_kind_in y (map encode ls) n col ≡ kind_in y ls n col
unfolding byte_kind_in kind_in
kind_in_encode [] y n col = refl
kind_in_encode (l ∷ ls) y zero col = rw (kinds_encode l (begin y) (fit_one l _ _))
kind_in_encode (l ∷ ls) y (suc n) col =
    ap (λ (x : Carry). byte_kind_in x (map encode ls) n col) (carry_encode y l) ∙ kind_in_encode ls (carry_after y l) n col

pub kind_bytes : (s : List ℕ) → WellFormed s → (n col : ℕ) → text_kind_at (decode s) n col ≡ kind_from Carry.Code s n col
unfolding text_kind_at
kind_bytes s w n col =
    sym (on_decode (λ x. kind_from Carry.Code x n col) (λ l. kind_in Carry.Code (rust_lines (pieces (split_on "\n" l))) n col) (λ l. rw (rust_lines_bytes l) (kind_in_encode _ Carry.Code n col)) s w)

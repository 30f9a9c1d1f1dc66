-- One character that is not kept, and the scan for a gap's end.
--     gap_byte                     an ASCII byte that is not kept
--     unkept_comma, unkept_white   what `unkept_at` gives, for a comma and for another character
--     kept_is                      the same, of a kept one
--     gap_past                     a gap's end, past what is not kept
use Prim.Native.Nat.{ℕ, ◌<◌}
use mathlib.Core.Bool.{Bool, true, false, not, not-not, ◌&&◌, ◌||◌, or-false}
use mathlib.Core.List.{List, [], ◌∷◌, ◌++◌}
use mathlib.Core.Path.{◌≡◌, refl, sym, ap, ◌∙◌, subst}
use Rattle.std.specs.Prelude.{Option, Some, is_some, cond}
use Rattle.std.specs.List.{take_while}
use Rattle.std.proofs.lemmas.List.Sums.{take_while-cons}
use native.Mathlib.Omega.{arith}
use borrow.Author.Tests.{ne_eqb}
use lib.Dec.{leb, eqb}
use lib.ListN.{length, get_or, drop}
use Rattle.utf8.specs.Unicode.{encode, decode, WellFormed, seq_at, code_at, is_white}
use Rattle.utf8.specs.Places.{Step, WhiteAt, PastChars}
use Rattle.utf8.proofs.Scan.{ascii, ascii_step, not_ascii}
use Rattle.utf8.proofs.TrimScan.{low_white, first_char}
use Rattle.rules.specs.Basics.{is, choose}
use Rattle.rules.specs.Demand3.{is_kept}
use Rattle.gaps.specs.Gaps.{gap, is_unkept, GapByte, UnkeptAt, GapEnd}

-- ---- one character

comma_unkept : (c : ℕ) → c ≡ 44 → is_kept c ≡ false
unfolding is_white
comma_unkept c e = ap is_kept e

other_kept : (c : ℕ) (w : Bool) → is_white c ≡ w → (c ≡ 44 → ⊥) → is_kept c ≡ not w
other_kept c true e h = ap (λ (t : Bool). not t && not (is "," c)) e
other_kept c false e h = ap (λ (t : Bool). not t && not (is "," c)) e ∙ ap not (ne_eqb c 44 h)

pub gap_byte : (b : ℕ) → GapByte b (eqb b 44 || eqb b 32 || (leb 9 b && leb b 13))
gap_byte b = record { is = λ h. ap (λ (t : Bool). not t && not (eqb b 44)) (white h) ∙ flip (eqb b 44) (eqb b 32) (leb 9 b && leb b 13) }
  where
    white : b < 0x80 → is_white b ≡ (leb 9 b && leb b 13 || eqb b 32)
    white h = low_white b (omega arith) ∙ simp (ne_eqb b 0x85 (omega arith), ne_eqb b 0xA0 (omega arith), ne_eqb b 0x1680 (omega arith), or-false)

    flip : (x y z : Bool) → not (z || y) && not x ≡ not (x || y || z)
    flip true true true = refl
    flip true true false = refl
    flip true false true = refl
    flip true false false = refl
    flip false true true = refl
    flip false true false = refl
    flip false false true = refl
    flip false false false = refl

some_step : (s : List ℕ) (i m : ℕ) → Step s i m → (n : ℕ) → Some m ≡ Some n → Step s i n
some_step s i m t n e = let k : m ≡ n = cc in subst (Step s i) k t

pub unkept_comma : (s : List ℕ) (i : ℕ) → i < length s → get_or s i 0 ≡ 44 → UnkeptAt s i (Some 1)
unkept_comma s i h e =
    record {
      is = ap not (comma_unkept _ ((ascii s i (omega arith)).1 ∙ e));
      step = some_step s i 1 (ascii_step s i h (omega arith));
    }

pub unkept_white : (s : List ℕ) (i : ℕ) (r : Option ℕ) → i < length s → WellFormed (drop i s)
    → (get_or s i 0 ≡ 44 → ⊥) → WhiteAt s i r → UnkeptAt s i r
unkept_white s i r h w f v =
    let t : Step s i (seq_at (drop i s)) = first_char s i h w in
    record { is = ap not (other_kept _ (is_some r) v.is (not_ascii s i _ 44 t (omega arith) f)) ∙ not-not (is_some r); step = v.step }

-- the same of a kept one
pub kept_is : (s : List ℕ) (i : ℕ) (r : Option ℕ) → UnkeptAt s i r → is_kept (code_at (drop i s)) ≡ not (is_some r)
kept_is s i r v = sym (not-not _) ∙ ap not v.is

-- ---- a gap's end

gap_taken : (l : List ℕ) → take_while is_unkept l ≡ gap l
unfolding gap choose
gap_taken [] = refl
gap_taken (c ∷ l) = take_while-cons is_unkept c l ∙ go (is_kept c) (gap_taken l)
  where
    go : (t : Bool) → take_while is_unkept l ≡ gap l
        → cond (not t) (c ∷ take_while is_unkept l) [] ≡ choose t [] (c ∷ gap l)
    go true r = refl
    go false r = ap {B = List ℕ} (λ m. c ∷ m) r

pub gap_past : (s : List ℕ) (i a : ℕ) → PastChars is_unkept s i a → GapEnd s i a
gap_past s i a q =
    let g = gap_taken (decode (drop i s)) in
    record {
      from = q.on;
      fits = q.fits;
      well = q.well;
      bytes = q.bytes ∙ ap encode g;
      chars = q.chars ∙ ap (λ (l : List ℕ). l ++ decode (drop a s)) g;
      stop = λ h. kept _ (q.stop h);
    }
  where
    kept : (t : Bool) → not t ≡ false → t ≡ true
    kept true e = refl
    kept false e = absurd (cc)

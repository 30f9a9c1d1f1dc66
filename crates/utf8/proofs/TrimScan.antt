-- The scans for the two ends of a trimmed text.
--     low_white                                      White_Space, up to U+1680
--     ascii_given                                      the white space at a place
--     before_ascii                                      the same before a place
--     spaces_passed, start_past                         the start, past its spaces and its white space
--     end_begin, end_turn, end_found, end_all           the scan from the end
use Prim.Native.Nat.{ℕ, zero, suc, ◌-◌, ◌<◌, ◌≤◌}
use mathlib.Core.Bool.{Bool, true, false, ◌||◌, or-false}
use mathlib.Core.List.{List, [], ◌∷◌, ◌++◌, append_cancel_left}
use mathlib.Core.Path.{◌≡◌, refl, sym, ap, ◌∙◌, subst}
use native.Mathlib.Omega.{arith}
use borrow.Author.Tests.{lt-leb, ne_eqb}
use lib.ListN.{length, get_or, take, drop, length-drop}
use lib.Seq.{take-length}
use lib.Dec.{eqb}
use Rattle.std.specs.Prelude.{Option, Some, None, is_some, cond}
use Rattle.std.specs.Bool.{then_some}
use Rattle.std.specs.List.{take_while}
use Rattle.std.proofs.lemmas.List.Sums.{take_while-cons}
use Rattle.utf8.specs.Unicode.{seq_at, code_at, chars, decode, WellFormed, within, is_white, first_is_white, trim_start, trim_end}
use Rattle.blocks.specs.Blocks.{FirstFrom}
use Rattle.blocks.specs.Marks.{other_at}
use borrow.Author.Tests.{eqb-true, not-false}
use native.Mathlib.Numerals.{add-one}
use Rattle.utf8.specs.Places.{Step, Back, WhiteAt, PastChars, WhiteBefore, TrimmedStart, SpacesPassed, TrimmedEnd}
use Rattle.utf8.proofs.Scan.{step, ascii, ascii_step, wf_sequence}
use Rattle.utf8.proofs.Back.{back_1}
use Rattle.utf8.proofs.Trim.{end_nil, end_white, end_other}

-- ---- one character

-- up to U+1680
pub low_white : (c : ℕ) → c ≤ 0x1680 → is_white c ≡ (within 0x09 0x0D c || eqb c 0x20 || eqb c 0x85 || eqb c 0xA0 || eqb c 0x1680)
unfolding is_white
low_white c h =
    simp (
      lt-leb 0x2000 c (omega arith),
      ne_eqb c 0x2028 (omega arith),
      ne_eqb c 0x2029 (omega arith),
      ne_eqb c 0x202F (omega arith),
      ne_eqb c 0x205F (omega arith),
      ne_eqb c 0x3000 (omega arith),
      or-false,
    )

-- the premises are what the calls ensure, and the tests: b is the byte, c the character, w the test's value
module _ (s : List ℕ) (i : ℕ) (h : i < length s) where
  white_ascii : (w : Bool) → get_or s i 0 < 0x80 → w ≡ is_white (get_or s i 0) → w ≡ true → WhiteAt s i (Some 1)
  white_ascii w b v y =
      let t : Step s i 1 = ascii_step s i h b in
      record { is = ap is_white (ascii s i b).1 ∙ sym v ∙ y; step = λ n p. let k : 1 ≡ n = cc in subst (Step s i) k t }

  other_ascii : (w : Bool) → get_or s i 0 < 0x80 → w ≡ is_white (get_or s i 0) → w ≡ false → WhiteAt s i None
  other_ascii w b v y = record { is = ap is_white (ascii s i b).1 ∙ sym v ∙ y; step = λ n p. absurd cc }

  pub ascii_given : (w : Bool) (o : Option ℕ) → get_or s i 0 < 0x80 → w ≡ is_white (get_or s i 0) → o ≡ then_some w 1 → WhiteAt s i o
  ascii_given true o b v y = subst (WhiteAt s i) (sym y) (white_ascii true b v refl)
  ascii_given false o b v y = subst (WhiteAt s i) (sym y) (other_ascii false b v refl)

module _ (s : List ℕ) (e n : ℕ) (t : Back s e n) where
  back_white : is_white (code_at (drop (e - n) s)) ≡ true → WhiteBefore s e (Some n)
  back_white y = record { white = λ m p. let k : n ≡ m = cc in subst (λ (r : ℕ). Back s e r × (is_white (code_at (drop (e - r) s)) ≡ true)) k (t, y); other = λ p. absurd cc }

  back_other : is_white (code_at (drop (e - n) s)) ≡ false → WhiteBefore s e None
  back_other y = record { white = λ m p. absurd cc; other = λ p. (n, t, y) }

module _ (s : List ℕ) (e : ℕ) (pre : (0 < e) × (e ≤ length s) × WellFormed (take e s)) where
  pub before_ascii : (w : Bool) (o : Option ℕ) → get_or s (e - 1) 0 < 0x80 → w ≡ is_white (get_or s (e - 1) 0) → o ≡ then_some w 1 → WhiteBefore s e o
  before_ascii true o b v y = subst (WhiteBefore s e) (sym y) (back_white s e 1 (back_1 s e pre b) (ap is_white (ascii s (e - 1) b).1 ∙ sym v))
  before_ascii false o b v y = subst (WhiteBefore s e) (sym y) (back_other s e 1 (back_1 s e pre b) (ap is_white (ascii s (e - 1) b).1 ∙ sym v))

-- ---- the first character of a well-formed list

pub first_char : (s : List ℕ) (i : ℕ) → i < length s → WellFormed (drop i s) → Step s i (seq_at (drop i s))
first_char s i h w = step s i (seq_at (drop i s)) h refl (wf_sequence (drop i s) (simp length-drop (omega arith)) w)

pub first_none : (s : List ℕ) → length s ≡ 0 → false ≡ first_is_white (decode s)
unfolding chars
first_none [] h = refl
first_none (b ∷ s) h = absurd (omega arith)

pub first_some : (s : List ℕ) (r : Option ℕ) → WellFormed s → (length s ≡ 0 → ⊥) → WhiteAt s 0 r → is_some r ≡ first_is_white (decode s)
first_some s r w h q = sym q.is ∙ sym (ap first_is_white (first_char s 0 (omega arith) w).chars)

-- ---- the start, past its white space

start_taken : (l : List ℕ) → l ≡ take_while is_white l ++ trim_start l
unfolding trim_start
start_taken [] = refl
start_taken (c ∷ cs) = rw (take_while-cons is_white c cs) (go (is_white c) (start_taken cs))
  where
    go : (w : Bool) → cs ≡ take_while is_white cs ++ trim_start cs
        → c ∷ cs ≡ cond w (c ∷ take_while is_white cs) [] ++ cond w (trim_start cs) (c ∷ cs)
    go true q = ap {B = List ℕ} (λ l. c ∷ l) q
    go false q = refl

-- spaces at the front
spaces_gone : (s : List ℕ) (i : ℕ) → i ≤ length s → WellFormed s → ((j : ℕ) → j < i → get_or s j 0 ≡ 32) → WellFormed (drop i s) × (trim_start (decode s) ≡ trim_start (decode (drop i s)))
unfolding trim_start is_white
spaces_gone s zero h w none = (w, refl)
spaces_gone s (suc i) h w none =
    let q = spaces_gone s i (omega arith) w (λ j l. none j (omega arith)) in
    let b : get_or s i 0 ≡ 32 = none i (omega arith) in
    let t = ascii_step s i (omega arith) (omega (arith, b)) in
    let c : code_at (drop i s) ≡ 32 = (ascii s i (omega (arith, b))).1 ∙ b in
    let e : decode (drop i s) ≡ 32 ∷ decode (drop (suc i) s) = rw (← add-one i) (t.chars ∙ rw c) in
    (rw (← add-one i) (t.well q.0), q.1 ∙ ap trim_start e)

-- what a search for another byte than a space has passed
pub spaces_passed : (s : List ℕ) (i : ℕ) → WellFormed s → FirstFrom (other_at s 32) 0 (length s) i → SpacesPassed s i
spaces_passed s i w f =
    let q = spaces_gone s i f.within w (λ j l. eqb-true _ _ (not-false _ (f.none j (omega arith) l))) in
    record { fits = f.within; well = q.0; text = q.1 }

-- white space behind the spaces at the front
pub start_past : (s : List ℕ) (i r : ℕ) → SpacesPassed s i → PastChars is_white s i r → TrimmedStart s r
start_past s i r p q =
    record {
      fits = q.fits;
      well = q.well;
      text =
          append_cancel_left (take_while is_white (decode (drop i s))) _ _ (sym q.chars ∙ start_taken (decode (drop i s)))
          ∙ sym p.text;
    }

-- ---- the scan from the end, at e

pub record EndScan (s : List ℕ) (e : ℕ) : Type 0 where
  pub fits : e ≤ length s
  pub well : WellFormed (take e s)
  pub text : trim_end (decode s) ≡ trim_end (decode (take e s))

pub end_begin : (s : List ℕ) → WellFormed s → EndScan s (length s)
end_begin s w = record { fits = omega arith; well = rw take-length w; text = rw take-length }

pub end_turn : (s : List ℕ) (e n : ℕ) (r : Option ℕ) → EndScan s e → WhiteBefore s e r → r ≡ Some n → EndScan s (e - n)
end_turn s e n r q v z =
    let b = v.white n z in
    record { fits = omega (arith, q.fits); well = b.0.well; text = q.text ∙ ap trim_end b.0.text ∙ end_white _ _ b.1 }

pub end_found : (s : List ℕ) (e : ℕ) (r : Option ℕ) → EndScan s e → WhiteBefore s e r → r ≡ None → TrimmedEnd s e
end_found s e r q v z =
    let b = v.other z in
    record { fits = q.fits; well = q.well; text = b.1.text ∙ sym (end_other _ (decode (take (e - b.0) s)) b.2) ∙ sym (ap trim_end b.1.text) ∙ sym q.text }

pub end_all : (s : List ℕ) (e : ℕ) → EndScan s e → e ≤ 0 → TrimmedEnd s e
unfolding chars
end_all s e q h =
    let m : e ≡ 0 = omega arith in
    let d : take e s ≡ [] = ap (λ (k : ℕ). take k s) m in
    record { fits = q.fits; well = q.well; text = ap decode d ∙ sym (q.text ∙ ap (λ (l : List ℕ). trim_end (decode l)) d ∙ end_nil) }

-- The scan for a character column: k of n characters are passed, and i bytes.
use Prim.Native.Nat.{ℕ, ◌+◌, ◌-◌, ◌<◌, ◌≤◌}
use mathlib.Core.List.{List, [], ◌++◌}
use mathlib.Core.Path.{◌≡◌, refl, sym, ap, subst, ◌∙◌}
use native.Mathlib.Omega.{arith}
use lib.ListN.{length, take, drop, length-append, length-drop, take-append-drop}
use lib.Seq.{take_at, drop-drop, drop-nil, drop-length}
use Rattle.utf8.specs.Unicode.{Scalars, encode, size, chars, decode, WellFormed}
use Rattle.utf8.specs.Places.{Step, Column}
use Rattle.utf8.proofs.Decode.{encode_append, decode_encode, decode_scalars, scalars_left, wf_encode}

pub record ColumnScan (s : List ℕ) (n k i : ℕ) : Type 0 where
  pub left : k ≤ n
  pub here : Column s k i

pub column_begin : (s : List ℕ) (n : ℕ) → WellFormed s → ColumnScan s n 0 0
column_begin s n w = record { left = omega arith; here = record { fits = omega arith; well = w; text = refl } }

pub column_turn : (s : List ℕ) (n k i m : ℕ) → ColumnScan s n k i → k < n → Step s i m → ColumnScan s n (k + 1) (i + m)
column_turn s n k i m q h t =
    record {
      left = omega arith;
      here = record {
        fits = t.fits;
        well = t.well q.here.well;
        text = sym (sym (drop-drop 1 k (decode s)) ∙ ap (drop 1) (sym q.here.text ∙ t.chars));
      };
    }

-- all characters are passed
pub column_past : (s : List ℕ) (n k i : ℕ) → ColumnScan s n k i → length s ≤ i → Column s n i
unfolding chars
column_past s n k i q h =
    let m : i ≡ length s = omega (arith, q.here.fits) in
    let e : decode (drop i s) ≡ [] = ap (λ (j : ℕ). decode (drop j s)) m ∙ ap decode (drop-length s) in
    let o : n ≡ k + (n - k) = omega (arith, q.left) in
    record {
      fits = q.here.fits;
      well = q.here.well;
      text = e ∙ sym (ap (λ (j : ℕ). drop j (decode s)) o ∙ sym (drop-drop (n - k) k (decode s)) ∙ ap (drop (n - k)) (sym q.here.text ∙ e) ∙ drop-nil (n - k));
    }

pub column_end : (s : List ℕ) (n k i : ℕ) → ColumnScan s n k i → n ≤ k → Column s n i
column_end s n k i q h = let e : k ≡ n = omega (arith, q.left) in subst (λ (j : ℕ). Column s j i) e q.here

-- the first k characters are the first i bytes
pub record Front (s : List ℕ) (k i : ℕ) : Type 0 where
  pub chars : decode (take i s) ≡ take k (decode s)
  pub well : WellFormed (take i s)

pub column_front : (s : List ℕ) (k i : ℕ) → WellFormed s → Column s k i → Front s k i
column_front s k i w q =
    let a = take k (decode s) in
    let b = drop k (decode s) in
    let ab : a ++ b ≡ decode s = take-append-drop k (decode s) in
    let sa : Scalars a = scalars_left a b (subst Scalars (sym ab) (decode_scalars s)) in
    let e : s ≡ encode a ++ encode b = sym w ∙ ap encode (sym ab) ∙ encode_append a b in
    let d : drop i s ≡ encode b = sym q.well ∙ ap encode q.text in
    let n : size a ≡ i =
    omega (arith, ap length e, length-append (encode a) (encode b), ap length d, length-drop i s, q.fits) in
    let t : take i s ≡ encode a = ap (take i) e ∙ take_at (encode a) (encode b) i n in
    record { chars = ap decode t ∙ decode_encode a sa; well = subst WellFormed (sym t) (wf_encode a sa) }

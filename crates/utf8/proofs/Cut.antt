-- A well-formed list may be cut before any byte that is no tail: each side is well-formed, and the characters are those
-- of the two sides.
--     Cut, cut        the cut before a byte that starts a character
--     ascii_cut       the cut around a byte below 80 hex, as a line feed or a comma: that byte is a character
use Prim.Native.Nat.{ℕ, zero, suc, ◌+◌, ◌-◌, ◌<◌, ◌≤◌}
use mathlib.Core.List.{List, [], ◌∷◌, ◌++◌}
use mathlib.Core.Logic.{◌⊎◌, inl, inr}
use mathlib.Core.Path.{◌≡◌, refl, sym, ap, ◌∙◌, subst}
use native.Mathlib.Omega.{arith}
use lib.ListN.{length, get_or, take, drop, length-append, get_or-append}
use lib.Seq.{take_at, drop_at, get_or-append-add}
use Rattle.utf8.specs.Unicode.{Scalars, encode_char, encode, size, decode, WellFormed}
use Rattle.utf8.specs.Places.{Step}
use Rattle.utf8.proofs.Table.{Shape, one, two, three, four, shape}
use Rattle.utf8.proofs.Tests.{split}
use Rattle.utf8.proofs.Decode.{encode_append, decode_encode, decode_scalars, scalars_left, scalars_right, wf_encode}
use Rattle.utf8.proofs.Scan.{ascii, ascii_step}

-- a byte that starts a character
abbrev pub Starts : ℕ → Type 0
Starts b = (b < 0x80) ⊎ (0xC0 ≤ b)

pub record Cut (s : List ℕ) (i : ℕ) : Type 0 where
  pub left : WellFormed (take i s)
  pub right : WellFormed (drop i s)
  pub text : decode s ≡ decode (take i s) ++ decode (drop i s)

-- the bytes of a character after its first are tails
inner : (c k : ℕ) → suc k < length (encode_char c) → Starts (get_or (encode_char c) (suc k) 0) → ⊥
inner c k h b = go (shape c) k h b
  where
    no : (x : ℕ) → 0x80 ≤ x → x < 0xC0 → Starts x → ⊥
    no x p q (inl l) = omega arith
    no x p q (inr l) = omega arith

    go : Shape c → (k : ℕ) → suc k < length (encode_char c) → Starts (get_or (encode_char c) (suc k) 0) → ⊥
    go (one p e) k h b = omega (arith, rw e at h)
    go (two p q e) zero h b = no _ (omega arith) (omega arith) (rw e at b)
    go (two p q e) (suc k) h b = omega (arith, rw e at h)
    go (three p q e) zero h b = no _ (omega arith) (omega arith) (rw e at b)
    go (three p q e) (suc zero) h b = no _ (omega arith) (omega arith) (rw e at b)
    go (three p q e) (suc (suc k)) h b = omega (arith, rw e at h)
    go (four p e) zero h b = no _ (omega arith) (omega arith) (rw e at b)
    go (four p e) (suc zero) h b = no _ (omega arith) (omega arith) (rw e at b)
    go (four p e) (suc (suc zero)) h b = no _ (omega arith) (omega arith) (rw e at b)
    go (four p e) (suc (suc (suc k))) h b = omega (arith, rw e at h)

abbrev Parts : List ℕ → ℕ → Type 0
Parts cs i = (a : List ℕ) × (b : List ℕ) × (cs ≡ a ++ b) × (size a ≡ i)

parts : (cs : List ℕ) (i : ℕ) → i ≤ size cs → (i < size cs → Starts (get_or (encode cs) i 0)) → Parts cs i
unfolding encode
parts [] i h f = ([], [], refl, omega arith)
parts (c ∷ cs) i h f = go i h f (split i (length (encode_char c))) (λ j p g. parts cs j p g)
  where
    l : length (encode_char c ++ encode cs) ≡ length (encode_char c) + size cs
    l = length-append (encode_char c) (encode cs)

    go : (i : ℕ) → i ≤ size (c ∷ cs) → (i < size (c ∷ cs) → Starts (get_or (encode_char c ++ encode cs) i 0)) → (i < length (encode_char c)) ⊎ (length (encode_char c) ≤ i)
        → ((j : ℕ) → j ≤ size cs → (j < size cs → Starts (get_or (encode cs) j 0)) → Parts cs j) → Parts (c ∷ cs) i
    go zero h f k r = ([], c ∷ cs, refl, refl)
    go (suc i) h f (inl k) r = absurd (inner c i k (rw (get_or-append (encode_char c) (encode cs) 0 (suc i) k) at (f (omega (arith, l)))))
    go (suc i) h f (inr k) r = on (suc i - length (encode_char c)) (omega arith)
      where
        on : (j : ℕ) → suc i ≡ length (encode_char c) + j → Parts (c ∷ cs) (suc i)
        on j m =
            let q = r j (omega (arith, l)) (λ p. rw get_or-append-add at (subst (λ (x : ℕ). Starts (get_or (encode_char c ++ encode cs) x 0)) m (f (omega (arith, l))))) in
            (c ∷ q.0, q.1, ap {B = List ℕ} (λ x. c ∷ x) q.2, omega (arith, length-append (encode_char c) (encode q.0), q.3))

cut_of : (s a b : List ℕ) (i : ℕ) → Scalars (a ++ b) → s ≡ encode a ++ encode b → size a ≡ i → decode s ≡ a ++ b → Cut s i
cut_of s a b i sc e n c =
    let sa : Scalars a = scalars_left a b sc in
    let sb : Scalars b = scalars_right a b sc in
    let t : take i s ≡ encode a = ap (take i) e ∙ take_at (encode a) (encode b) i n in
    let d : drop i s ≡ encode b = ap (drop i) e ∙ drop_at (encode a) (encode b) i n in
    record {
      left = rw t (wf_encode a sa);
      right = rw d (wf_encode b sb);
      text = c ∙ rw (t, d, decode_encode a sa, decode_encode b sb);
    }

pub cut : (s : List ℕ) (i : ℕ) → WellFormed s → i ≤ length s → (i < length s → Starts (get_or s i 0)) → Cut s i
cut s i w h f =
    go (parts (decode s) i (omega (arith, n)) (λ p. subst (λ (x : List ℕ). Starts (get_or x i 0)) (sym w) (f (omega (arith, n)))))
  where
    n : size (decode s) ≡ length s
    n = ap length w

    go : Parts (decode s) i → Cut s i
    go q =
        cut_of s q.0 q.1 i (subst Scalars q.2 (decode_scalars s)) (sym w ∙ ap encode q.2 ∙ encode_append q.0 q.1) q.3 q.2

-- ---- around a byte below 80 hex

pub record AsciiCut (s : List ℕ) (i : ℕ) : Type 0 where
  pub left : WellFormed (take i s)
  pub right : WellFormed (drop (i + 1) s)
  pub text : decode s ≡ decode (take i s) ++ (get_or s i 0 ∷ decode (drop (i + 1) s))

pub ascii_cut : (s : List ℕ) (i : ℕ) → WellFormed s → i < length s → get_or s i 0 < 0x80 → AsciiCut s i
ascii_cut s i w h b =
    let q : Cut s i = cut s i w (omega arith) (λ p. inl b) in
    let t : Step s i 1 = ascii_step s i h b in
    record {
      left = q.left;
      right = t.well q.right;
      text = q.text ∙ rw (t.chars, (ascii s i b).1);
    }

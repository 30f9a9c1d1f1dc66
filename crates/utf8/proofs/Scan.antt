-- Laws for a scan of a list s of bytes: at a place i, n bytes on.
--     step         the character at i, where a sequence of n bytes starts there
--     ascii        a byte below 80 hex is a character
--     stops        where no sequence starts, nothing is read
--     wf_sequence  in a well-formed rest a sequence starts
--     AsciiRun     the loops over bytes that are ASCII
use Prim.Native.Nat.{ℕ, zero, suc, ◌+◌, ◌-◌, ◌<◌, ◌≤◌}
use mathlib.Core.Bool.{Bool, false}
use mathlib.Core.List.{List, [], ◌∷◌, ◌++◌}
use mathlib.Core.Logic.{◌⊎◌, inl, inr}
use mathlib.Core.Path.{◌≡◌, refl, sym, ap, ◌∙◌, subst}
use native.Mathlib.Omega.{arith}
use native.Mathlib.Nat.{le_refl, add-zero}
use borrow.Author.Tests.{ltb-false}
use lib.ListN.{length, get_or, drop, length-drop, length-append}
use lib.Seq.{drop-drop, get_or-drop}
use Rattle.utf8.specs.Unicode.{encode_char, encode, size, code_of, seq_at, code_at, decode, prefix_len, WellFormed}
use Rattle.blocks.specs.Blocks.{NoneAmong, NoneFrom}
use Rattle.utf8.specs.Places.{Step, high_at, AsciiRun}
use Rattle.utf8.proofs.Tests.{split}
use Rattle.utf8.proofs.Table.{encode_char_1, len_1, code_1, lead_2, lead_3, lead_4}
use Rattle.utf8.proofs.Decode.{decode_step, decode_stop, Read, read, wf_step}

pub step : (s : List ℕ) (i n : ℕ) → i < length s → n ≡ seq_at (drop i s) → 0 < n → Step s i n
unfolding encode
step s i zero h e p = absurd (omega arith)
step s i (suc n) h e p =
    let k : 0 < length (drop i s) = simp length-drop (omega arith) in
    let r : Read (drop i s) (suc n) = read (drop i s) n k (sym e) in
    let d : drop (suc n) (drop i s) ≡ drop (i + suc n) s = drop-drop (suc n) i s in
    let c : decode (drop i s) ≡ code_at (drop i s) ∷ decode (drop (i + suc n) s) = decode_step (drop i s) n k (sym e) ∙ rw d in
    let b : drop i s ≡ encode_char (code_at (drop i s)) ++ drop (i + suc n) s = r.split ∙ rw d in
    record {
      some = omega arith;
      fits = omega (arith, r.fits, length-drop i s);
      scalar = r.scalar;
      chars = c;
      bytes = b;
      long = r.long;
      well = λ w. wf_step (code_at (drop i s)) (drop (i + suc n) s) r.scalar (subst WellFormed b w);
      prefix = ap size c ∙ length-append (encode_char (code_at (drop i s))) (encode (decode (drop (i + suc n) s))) ∙ rw r.long;
    }

pub ascii : (s : List ℕ) (i : ℕ) → get_or s i 0 < 0x80 → (1 ≡ seq_at (drop i s)) × (code_at (drop i s) ≡ get_or s i 0)
ascii s i h =
    let g : get_or (drop i s) 0 0 ≡ get_or s i 0 = get_or-drop i s 0 0 ∙ rw add-zero in
    (sym (len_1 _ _ _ _ (omega arith)), code_1 _ _ _ _ (omega arith) ∙ g)

pub ascii_step : (s : List ℕ) (i : ℕ) → i < length s → get_or s i 0 < 0x80 → Step s i 1
ascii_step s i h b = step s i 1 h (ascii s i b).0 (omega arith)

-- a character that is not the ASCII character d, by its byte
pub not_ascii : (s : List ℕ) (i n d : ℕ) → Step s i n → d < 0x80 → (get_or s i 0 ≡ d → ⊥) → code_at (drop i s) ≡ d → ⊥
not_ascii s i n d t l f e =
    let k : encode_char (code_at (drop i s)) ≡ d ∷ [] = ap encode_char e ∙ encode_char_1 d l in
    let b : drop i s ≡ d ∷ drop (i + n) s = t.bytes ∙ ap (λ (m : List ℕ). m ++ drop (i + n) s) k in
    f (sym (get_or-drop i s 0 0 ∙ rw add-zero) ∙ ap (λ (m : List ℕ). get_or m 0 0) b)

pub stops : (s : List ℕ) → 0 ≡ seq_at s → prefix_len s ≡ 0
unfolding encode
stops s e = ap size (decode_stop s (sym e))

pub wf_sequence : (s : List ℕ) → 0 < length s → WellFormed s → 0 < seq_at s
wf_sequence s h w = go (seq_at s) refl
  where
    go : (n : ℕ) → seq_at s ≡ n → 0 < n
    go zero e = absurd (omega (arith, stops s (sym e), ap length w))
    go (suc n) e = omega arith

-- the size of the character at i, by its first byte, in a well-formed rest
module _ (s : List ℕ) (i : ℕ) (h : i < length s) (w : WellFormed (drop i s)) where
  sized : (n : ℕ) → 0 < n → (0 < seq_at (drop i s) → seq_at (drop i s) ≡ n) → Step s i n
  sized n p f = step s i n h (sym (f (wf_sequence (drop i s) (simp length-drop (omega arith)) w))) p

  first : get_or (drop i s) 0 0 ≡ get_or s i 0
  first = get_or-drop i s 0 0 ∙ rw add-zero

  pub size_2 : 0x80 ≤ get_or s i 0 → get_or s i 0 < 0xE0 → Step s i 2
  size_2 a b = sized 2 (omega arith) (lead_2 _ _ _ _ (omega (arith, first)) (omega (arith, first)))

  pub size_3 : 0xE0 ≤ get_or s i 0 → get_or s i 0 < 0xF0 → Step s i 3
  size_3 a b = sized 3 (omega arith) (lead_3 _ _ _ _ (omega (arith, first)) (omega (arith, first)))

  pub size_4 : 0xF0 ≤ get_or s i 0 → Step s i 4
  size_4 a = sized 4 (omega arith) (lead_4 _ _ _ _ (omega (arith, first)))

-- the four bytes at i, as calls and a read return them
module _ (s : List ℕ) (i b1 b2 b3 : ℕ) (e1 : b1 ≡ get_or s (i + 1) 0) (e2 : b2 ≡ get_or s (i + 2) 0) (e3 : b3 ≡ get_or s (i + 3) 0) where
  pub code_at_bytes : (r : ℕ) → r ≡ code_of (get_or s i 0) b1 b2 b3 → r ≡ code_at (drop i s)
  code_at_bytes r e = e ∙ simp (e1, e2, e3, get_or-drop, add-zero)

-- ---- a run of ASCII

pub run_start : (s : List ℕ) (at : ℕ) → at ≤ length s → AsciiRun s at at
run_start s at h = record { from = le_refl at; within = h; ascii = λ j l. absurd (omega arith) }

pub run_then_law : {s : List ℕ} {at i r : ℕ} → AsciiRun s at i → AsciiRun s i r → AsciiRun s at r
run_then_law {s} {at} {i} {r} a b = record { from = omega (arith, a.from, b.from); within = b.within; ascii = λ j l. go j l (split (at + j) i) }
  where
    go : (j : ℕ) → at + j < r → (at + j < i) ⊎ (i ≤ at + j) → get_or s (at + j) 0 < 0x80
    go j l (inl h) = a.ascii j h
    go j l (inr h) = let e : i + (at + j - i) ≡ at + j = omega arith in rw e at (b.ascii (at + j - i) (omega arith))

-- what a search for a byte that is not ASCII has passed
low : (s : List ℕ) (j : ℕ) → high_at s j ≡ false → get_or s j 0 < 0x80
low s j e = let b = ltb-false 127 (get_or s j 0) e in omega arith

module _ {s : List ℕ} {at i r : ℕ} (a : AsciiRun s at i) where
  pub run_block : {any : Bool} → i + 16 ≤ length s → NoneAmong (high_at s) i 16 any → any ≡ false → NoneFrom (high_at s) (i + 16) (length s) r → AsciiRun s at r
  run_block h b e n =
      run_then_law a (run_then_law {i = i + 16} (record { from = omega arith; within = h; ascii = λ j l. low s (i + j) (b.none e j (omega arith)) })
      (record { from = n.from; within = n.within; ascii = λ j l. low s (i + 16 + j) (n.none (i + 16 + j) (omega arith) l) }))

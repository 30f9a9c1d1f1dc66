-- Laws of `decode`: it undoes `encode`, and what it reads is the longest well-formed prefix.
--     decode_step, decode_stop     one character read
--     decode_encode                the characters of an encoding are those that were encoded
--     encode_ascii, decode_ascii   a text below 80 hex is its bytes
--     prefix_split                 a list is the encoding of its characters, and what is left over
--     prefix_longest               no encoding that a list starts with is longer
--     wf_encode, wf_step           encodings are well-formed; what follows a character of a well-formed list is
--     test_wf, wf_test             the test `well_formed` tells it
use Prim.Native.Nat.{ℕ, zero, suc, pred, ◌+◌, ◌<◌, ◌≤◌}
use mathlib.Core.Bool.{true, false}
use mathlib.Core.List.{List, [], ◌∷◌, ◌++◌, append-nil, append_assoc, append_cancel_left}
use mathlib.Core.Path.{◌≡◌, refl, sym, ap, ◌∙◌, subst}
use native.Mathlib.Omega.{arith}
use lib.ListN.{length, get_or, take, drop, length-append, take-append-drop}
use lib.Seq.{drop-append_seam, take-append_seam, length-take-le, take_all}
use lib.Dec.{T}
use borrow.Author.Tests.{eq-eqb, ne_eqb, eqb-true}
use Rattle.utf8.specs.Unicode.{is_scalar, Scalars, encode_char, encode, size, seq_at, code_at, next, chars, decode, prefix_len, WellFormed, well_formed}
use Rattle.utf8.proofs.Table.{encode_char_1, scalar_low, Sequence, Good, good, Front, front}

-- ---- one character

pub chars_drop : (k : ℕ) (s : List ℕ) → chars k s ≡ decode (drop k s)
unfolding chars
chars_drop zero s = refl
chars_drop (suc k) [] = refl
chars_drop (suc k) (b ∷ s) = chars_drop k s

pub decode_step : (s : List ℕ) (n : ℕ) → 0 < length s → seq_at s ≡ suc n → decode s ≡ code_at s ∷ decode (drop (suc n) s)
unfolding chars
decode_step [] n h e = absurd (omega arith)
decode_step (b ∷ s) n h e = rw e (ap {B = List ℕ} (λ l. code_at (b ∷ s) ∷ l) (chars_drop n s))

pub decode_stop : (s : List ℕ) → seq_at s ≡ 0 → decode s ≡ []
unfolding chars
decode_stop [] e = refl
decode_stop (b ∷ s) e = rw e

-- ---- what a sequence at the front of a list says

get_d_in : (s : List ℕ) (i : ℕ) → 0 < get_or s i 0 → i < length s
get_d_in [] i h = absurd (omega arith)
get_d_in (b ∷ s) zero h = omega arith
get_d_in (b ∷ s) (suc i) h = let r = get_d_in s i h in omega arith

first_four : (n : ℕ) (s : List ℕ) → n ≤ 4 → n ≤ length s → take n (get_or s 0 0 ∷ get_or s 1 0 ∷ get_or s 2 0 ∷ get_or s 3 0 ∷ []) ≡ take n s
first_four zero s h k = refl
first_four (suc n) [] h k = absurd (omega arith)
first_four (suc zero) (a ∷ s) h k = refl
first_four (suc (suc n)) (a ∷ []) h k = absurd (omega arith)
first_four (suc (suc zero)) (a ∷ b ∷ s) h k = refl
first_four (suc (suc (suc n))) (a ∷ b ∷ []) h k = absurd (omega arith)
first_four (suc (suc (suc zero))) (a ∷ b ∷ c ∷ s) h k = refl
first_four (suc (suc (suc (suc n)))) (a ∷ b ∷ c ∷ []) h k = absurd (omega arith)
first_four (suc (suc (suc (suc zero)))) (a ∷ b ∷ c ∷ d ∷ s) h k = refl
first_four (suc (suc (suc (suc (suc n))))) (a ∷ b ∷ c ∷ d ∷ s) h k = absurd (omega arith)

pub record Read (s : List ℕ) (n : ℕ) : Type 0 where
  pub scalar : T (is_scalar (code_at s))
  pub split : s ≡ encode_char (code_at s) ++ drop n s
  pub long : length (encode_char (code_at s)) ≡ n
  pub fits : n ≤ length s

pub read : (s : List ℕ) (n : ℕ) → 0 < length s → seq_at s ≡ suc n → Read s (suc n)
read s n h e = go (subst (λ (m : ℕ). Good m (get_or s 0 0) (get_or s 1 0) (get_or s 2 0) (get_or s 3 0)) e (good (get_or s 0 0) (get_or s 1 0) (get_or s 2 0) (get_or s 3 0)))
  where
    inside : (m : ℕ) → Sequence (suc m) (get_or s 0 0) (get_or s 1 0) (get_or s 2 0) (get_or s 3 0) → suc m ≤ length s
    inside zero q = h
    inside (suc zero) q = get_d_in s 1 (q.there (omega arith))
    inside (suc (suc zero)) q = get_d_in s 2 (q.there (omega arith))
    inside (suc (suc (suc zero))) q = get_d_in s 3 (q.there (omega arith))
    inside (suc (suc (suc (suc m)))) q = absurd (omega (arith, q.small))

    go : Sequence (suc n) (get_or s 0 0) (get_or s 1 0) (get_or s 2 0) (get_or s 3 0) → Read s (suc n)
    go q =
        let k : suc n ≤ length s = inside n q in
        let b : encode_char (code_at s) ≡ take (suc n) s = q.bytes ∙ first_four (suc n) s q.small k in
        record {
          scalar = q.scalar;
          split = rw b (sym (take-append-drop (suc n) s));
          long = rw b (length-take-le (suc n) s k);
          fits = k;
        }

-- ---- scalar values of joined texts

pub scalars_left : (a b : List ℕ) → Scalars (a ++ b) → Scalars a
scalars_left [] b s = tt
scalars_left (c ∷ a) b s = (s.0, scalars_left a b s.1)

pub scalars_right : (a b : List ℕ) → Scalars (a ++ b) → Scalars b
scalars_right [] b s = s
scalars_right (c ∷ a) b s = scalars_right a b s.1

-- ---- encodings of joined texts

pub encode_nil : encode [] ≡ []
unfolding encode
encode_nil = refl

pub encode_cons : (c : ℕ) (cs : List ℕ) → encode (c ∷ cs) ≡ encode_char c ++ encode cs
unfolding encode
encode_cons c cs = refl

pub encode_one : (c : ℕ) → encode (c ∷ []) ≡ encode_char c
unfolding encode
encode_one c = append-nil (encode_char c)

pub encode_append : (cs ds : List ℕ) → encode (cs ++ ds) ≡ encode cs ++ encode ds
unfolding encode
encode_append [] ds = refl
encode_append (c ∷ cs) ds = rw (encode_append cs ds, append_assoc)

pub size_append : (cs ds : List ℕ) → size (cs ++ ds) ≡ size cs + size ds
size_append cs ds = ap length (encode_append cs ds) ∙ length-append (encode cs) (encode ds)

-- ---- decode after encode

pub decode_encode_char : (c : ℕ) (t : List ℕ) → T (is_scalar c) → decode (encode_char c ++ t) ≡ c ∷ decode t
decode_encode_char c t s = go (length (encode_char c)) refl (front c t s)
  where
    go : (n : ℕ) → length (encode_char c) ≡ n → Front c t → decode (encode_char c ++ t) ≡ c ∷ decode t
    go zero e f = absurd (omega (arith, f.some))
    go (suc n) e f =
        let h : 0 < length (encode_char c ++ t) = omega (arith, length-append (encode_char c) t) in
        let d : drop (suc n) (encode_char c ++ t) ≡ t = rw (← e) (drop-append_seam (encode_char c) t) in
        decode_step (encode_char c ++ t) n h (f.long ∙ e) ∙ rw (f.code, d)

pub decode_append : (cs : List ℕ) (t : List ℕ) → Scalars cs → decode (encode cs ++ t) ≡ cs ++ decode t
unfolding encode
decode_append [] t s = refl
decode_append (c ∷ cs) t s =
    rw append_assoc (decode_encode_char c (encode cs ++ t) s.0 ∙ ap {B = List ℕ} (λ l. c ∷ l) (decode_append cs t s.1))

pub decode_encode : (cs : List ℕ) → Scalars cs → decode (encode cs) ≡ cs
unfolding chars
decode_encode cs s = ap decode (sym (append-nil (encode cs))) ∙ decode_append cs [] s ∙ append-nil cs

-- ---- characters below 80 hex are their bytes

abbrev pub Ascii : List ℕ → Type 0
Ascii [] = Unit {0}
Ascii (c ∷ cs) = (c < 0x80) × Ascii cs

pub ascii_append : (a b : List ℕ) → Ascii a → Ascii b → Ascii (a ++ b)
ascii_append [] b p q = q
ascii_append (c ∷ a) b p q = (p.0, ascii_append a b p.1 q)

pub ascii_scalars : (cs : List ℕ) → Ascii cs → Scalars cs
ascii_scalars [] a = tt
ascii_scalars (c ∷ cs) a = (scalar_low c (omega arith), ascii_scalars cs a.1)

pub encode_ascii : (cs : List ℕ) → Ascii cs → encode cs ≡ cs
unfolding encode
encode_ascii [] a = refl
encode_ascii (c ∷ cs) a = rw (encode_char_1 c a.0, encode_ascii cs a.1)

pub decode_ascii : (s : List ℕ) → Ascii s → decode s ≡ s
decode_ascii s a = ap decode (sym (encode_ascii s a)) ∙ decode_encode s (ascii_scalars s a)

pub wf_ascii : (s : List ℕ) → Ascii s → WellFormed s
wf_ascii s a = ap encode (decode_ascii s a) ∙ encode_ascii s a

-- ---- the longest well-formed prefix

chars_scalars : (k : ℕ) (s : List ℕ) → Scalars (chars k s)
unfolding chars
chars_scalars k [] = tt
chars_scalars (suc k) (b ∷ s) = chars_scalars k s
chars_scalars zero (b ∷ s) = go (seq_at (b ∷ s)) refl (chars_scalars (pred (seq_at (b ∷ s))) s)
  where
    go : (n : ℕ) → seq_at (b ∷ s) ≡ n → Scalars (chars (pred (seq_at (b ∷ s))) s) → Scalars (next n (code_at (b ∷ s)) (chars (pred (seq_at (b ∷ s))) s))
    go zero e r = tt
    go (suc n) e r = ((read (b ∷ s) n (omega arith) e).scalar, r)

pub decode_scalars : (s : List ℕ) → Scalars (decode s)
decode_scalars s = chars_scalars 0 s

chars_split : (k : ℕ) (s : List ℕ) → (t : List ℕ) × (drop k s ≡ encode (chars k s) ++ t)
unfolding chars encode
chars_split zero [] = ([], refl)
chars_split (suc k) [] = ([], refl)
chars_split (suc k) (b ∷ s) = chars_split k s
chars_split zero (b ∷ s) = go (seq_at (b ∷ s)) refl (chars_split (pred (seq_at (b ∷ s))) s)
  where
    go : (n : ℕ) → seq_at (b ∷ s) ≡ n
        → (t : List ℕ) × (drop (pred (seq_at (b ∷ s))) s ≡ encode (chars (pred (seq_at (b ∷ s))) s) ++ t)
        → (t : List ℕ) × (b ∷ s ≡ encode (next n (code_at (b ∷ s)) (chars (pred (seq_at (b ∷ s))) s)) ++ t)
    go zero e r = (b ∷ s, refl)
    go (suc n) e r =
        let d : drop (pred (seq_at (b ∷ s))) s ≡ drop n s = ap (λ (m : ℕ). drop (pred m) s) e in
        (r.0, (read (b ∷ s) n (omega arith) e).split ∙ rw append_assoc (ap {B = List ℕ} (λ l. encode_char (code_at (b ∷ s)) ++ l) (sym d ∙ r.1)))

pub prefix_split : (s : List ℕ) → take (prefix_len s) s ≡ encode (decode s)
prefix_split s =
    let r = chars_split 0 s in
    ap (take (prefix_len s)) r.1 ∙ take-append_seam (encode (decode s)) r.0

pub prefix_longest : (s cs t : List ℕ) → Scalars cs → s ≡ encode cs ++ t → size cs ≤ prefix_len s
prefix_longest s cs t h e =
    let d : size (decode s) ≡ size (cs ++ decode t) = ap size (ap decode e ∙ decode_append cs t h) in
    omega (arith, size_append cs (decode t))

-- ---- well-formed lists

pub wf_encode : (cs : List ℕ) → Scalars cs → WellFormed (encode cs)
wf_encode cs s = ap encode (decode_encode cs s)

-- a list is well-formed where its prefix is all of it
pub wf_whole : (s : List ℕ) → prefix_len s ≡ length s → WellFormed s
wf_whole s e = sym (prefix_split s) ∙ take_all (prefix_len s) s (omega arith)

-- the test tells it
pub test_wf : (s : List ℕ) → well_formed s ≡ true → WellFormed s
unfolding well_formed
test_wf s e = wf_whole s (eqb-true (prefix_len s) (length s) e)

pub wf_test : (s : List ℕ) → WellFormed s → well_formed s ≡ true
unfolding well_formed
wf_test s w = eq-eqb (prefix_len s) (length s) (ap length w)

-- the test, by the length of the prefix
pub test_whole : (s : List ℕ) → prefix_len s ≡ length s → well_formed s ≡ true
unfolding well_formed
test_whole s e = eq-eqb (prefix_len s) (length s) e

pub test_part : (s : List ℕ) → (prefix_len s ≡ length s → ⊥) → well_formed s ≡ false
unfolding well_formed
test_part s n = ne_eqb (prefix_len s) (length s) n

-- what follows the first character
pub wf_step : (c : ℕ) (t : List ℕ) → T (is_scalar c) → WellFormed (encode_char c ++ t) → WellFormed t
unfolding encode
wf_step c t s w = append_cancel_left (encode_char c) (encode (decode t)) t (sym (ap encode (decode_encode_char c t s)) ∙ w)

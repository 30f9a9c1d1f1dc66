-- Laws of UTF-8: Table 3-7 describes exactly the encodings of the scalar values.
--     shape           a character's encoding, by its size
--     bytes           it is the character itself, or bytes of 80 hex or more
--     good            a sequence of Table 3-7 is the encoding of its code point, a scalar value
--     front           the encoding of a scalar value is such a sequence, with that code point
use Prim.Native.Nat.{ℕ, zero, suc, pred, ◌+◌, ◌*◌, ◌/◌, ◌%◌, ◌<◌, ◌≤◌}
use mathlib.Core.Bool.{Bool, true, false, ◌&&◌}
use mathlib.Core.List.{List, [], ◌∷◌, ◌++◌}
use mathlib.Core.Logic.{◌⊎◌, inl, inr, ⊎_elim}
use mathlib.Core.Path.{◌≡◌, refl, ◌∙◌}
use native.Mathlib.Omega.{arith}
use native.Mathlib.Nat.{le_of_suc-le-suc}
use borrow.Author.Tests.{lt-ltb, le-ltb, le-leb, lt-leb, ne_eqb, ltb-true, ltb-false, eqb-true, eqb-false}
use lib.ListN.{length, get_or, take}
use lib.Dec.{T, ltb, eqb}
use Rattle.utf8.proofs.Tests.{cond_elim, split, T_of, of_T, and_left, and_right, in_range_law, range}
use Rattle.utf8.specs.Unicode.{is_scalar, encode_char, tail, second, seq_len, code_of, seq_at, code_at}

-- an unequal bound is strict
above : (a b : ℕ) → a ≤ b → (b ≡ a → ⊥) → a < b
above a b h n = omega arith

under : (a b : ℕ) → b ≤ a → (b ≡ a → ⊥) → b < a
under a b h n = omega arith

-- ---- scalar values

pub scalar_low : (c : ℕ) → c < 0xD800 → T (is_scalar c)
unfolding is_scalar
scalar_low c h = T_of (is_scalar c) (simp (lt-ltb c 0xD800 h))

pub scalar_high : (c : ℕ) → 0xE000 ≤ c → c ≤ 0x10FFFF → T (is_scalar c)
unfolding is_scalar
scalar_high c h k = T_of (is_scalar c) (simp (le-ltb c 0xD800 (omega arith), le-leb 0xE000 c h, le-leb c 0x10FFFF k))

pub scalar_range : (c : ℕ) → T (is_scalar c) → (c < 0xD800) ⊎ ((0xE000 ≤ c) × (c ≤ 0x10FFFF))
unfolding is_scalar
scalar_range c h =
    ⊎_elim (λ l. inl l) (λ g. inr (in_range_law 0xE000 0x10FFFF c (simp (le-ltb c 0xD800 g) at (of_T (is_scalar c) h)))) (split c 0xD800)

-- ---- the encoding of a character, by its size

pub data Shape (c : ℕ) : Type 0 where
  one : c < 0x80 → encode_char c ≡ c ∷ [] → Shape c
  two : 0x80 ≤ c → c < 0x800 → encode_char c ≡ (0xC0 + c / 64) ∷ (0x80 + c % 64) ∷ [] → Shape c
  three : 0x800 ≤ c → c < 0x10000 → encode_char c ≡ (0xE0 + c / 4096) ∷ (0x80 + c / 64 % 64) ∷ (0x80 + c % 64) ∷ [] → Shape c
  four : 0x10000 ≤ c → encode_char c ≡ (0xF0 + c / 262144) ∷ (0x80 + c / 4096 % 64) ∷ (0x80 + c / 64 % 64) ∷ (0x80 + c % 64) ∷ [] → Shape c

pub encode_char_1 : (c : ℕ) → c < 0x80 → encode_char c ≡ c ∷ []
unfolding encode_char
encode_char_1 c h = simp (lt-ltb c 0x80 h)

pub encode_char_2 : (c : ℕ) → 0x80 ≤ c → c < 0x800 → encode_char c ≡ (0xC0 + c / 64) ∷ (0x80 + c % 64) ∷ []
unfolding encode_char
encode_char_2 c h k = simp (le-ltb c 0x80 h, lt-ltb c 0x800 k)

pub encode_char_3 : (c : ℕ) → 0x800 ≤ c → c < 0x10000 → encode_char c ≡ (0xE0 + c / 4096) ∷ (0x80 + c / 64 % 64) ∷ (0x80 + c % 64) ∷ []
unfolding encode_char
encode_char_3 c h k = simp (le-ltb c 0x80 (omega arith), le-ltb c 0x800 h, lt-ltb c 0x10000 k)

pub encode_char_4 : (c : ℕ) → 0x10000 ≤ c → encode_char c ≡ (0xF0 + c / 262144) ∷ (0x80 + c / 4096 % 64) ∷ (0x80 + c / 64 % 64) ∷ (0x80 + c % 64) ∷ []
unfolding encode_char
encode_char_4 c h = simp (le-ltb c 0x80 (omega arith), le-ltb c 0x800 (omega arith), le-ltb c 0x10000 h)

pub shape : (c : ℕ) → Shape c
shape c =
    ⊎_elim (λ a. one a (encode_char_1 c a))
    (λ a. ⊎_elim (λ b. two a b (encode_char_2 c a b))
    (λ b. ⊎_elim (λ d. three b d (encode_char_3 c b d)) (λ d. four d (encode_char_4 c d)) (split c 0x10000))
    (split c 0x800))
    (split c 0x80)

-- every byte is 80 hex or more
pub data High : List ℕ → Type 0 where
  none : High []
  also : {b : ℕ} {bs : List ℕ} → 0x80 ≤ b → High bs → High (b ∷ bs)

-- the bytes of a character: itself, or all of them 80 hex or more
pub data Bytes (c : ℕ) : List ℕ → Type 0 where
  single : c < 0x80 → Bytes c (c ∷ [])
  several : {b : ℕ} {bs : List ℕ} → 0x80 ≤ c → 0x80 ≤ b → High bs → Bytes c (b ∷ bs)

pub bytes : (c : ℕ) → Bytes c (encode_char c)
bytes c = go (shape c)
  where
    go : Shape c → Bytes c (encode_char c)
    go (one h e) = rw e (single h)
    go (two h k e) = rw e (several {b = 0xC0 + c / 64} h (omega arith) (also {b = 0x80 + c % 64} (omega arith) none))
    go (three h k e) =
        rw e (several {b = 0xE0 + c / 4096} (omega arith) (omega arith) (also {b = 0x80 + c / 64 % 64} (omega arith) (also {b = 0x80 + c % 64} (omega arith) none)))
    go (four h e) =
        rw e
        (several {b = 0xF0 + c / 262144} (omega arith) (omega arith)
        (also {b = 0x80 + c / 4096 % 64} (omega arith) (also {b = 0x80 + c / 64 % 64} (omega arith) (also {b = 0x80 + c % 64} (omega arith) none))))

-- ---- code points of sequences, by the first byte

module _ (b0 b1 b2 b3 : ℕ) where
  pub code_1 : b0 < 0x80 → code_of b0 b1 b2 b3 ≡ b0
  unfolding code_of
  code_1 h = simp (lt-ltb b0 0x80 h)

  code_2 : 0x80 ≤ b0 → b0 < 0xE0 → code_of b0 b1 b2 b3 ≡ b0 % 32 * 64 + b1 % 64
  unfolding code_of
  code_2 h k = simp (le-ltb b0 0x80 h, lt-ltb b0 0xE0 k)

  code_3 : 0xE0 ≤ b0 → b0 < 0xF0 → code_of b0 b1 b2 b3 ≡ b0 % 16 * 4096 + b1 % 64 * 64 + b2 % 64
  unfolding code_of
  code_3 h k = simp (le-ltb b0 0x80 (omega arith), le-ltb b0 0xE0 h, lt-ltb b0 0xF0 k)

  code_4 : 0xF0 ≤ b0 → code_of b0 b1 b2 b3 ≡ b0 % 8 * 262144 + b1 % 64 * 4096 + b2 % 64 * 64 + b3 % 64
  unfolding code_of
  code_4 h = simp (le-ltb b0 0x80 (omega arith), le-ltb b0 0xE0 (omega arith), le-ltb b0 0xF0 h)

  pub len_1 : b0 < 0x80 → seq_len b0 b1 b2 b3 ≡ 1
  unfolding seq_len
  len_1 h = simp (lt-ltb b0 0x80 h)

  len_2 : 0xC2 ≤ b0 → b0 < 0xE0 → tail b1 ≡ true → seq_len b0 b1 b2 b3 ≡ 2
  unfolding seq_len
  len_2 h k t = simp (le-ltb b0 0x80 (omega arith), le-ltb b0 0xC2 h, lt-ltb b0 0xE0 k, t)

  len_3 : 0xE0 ≤ b0 → b0 < 0xF0 → second b0 b1 ≡ true → tail b2 ≡ true → seq_len b0 b1 b2 b3 ≡ 3
  unfolding seq_len
  len_3 h k s t = simp (le-ltb b0 0x80 (omega arith), le-ltb b0 0xC2 (omega arith), le-ltb b0 0xE0 h, lt-ltb b0 0xF0 k, s, t)

  len_4 : 0xF0 ≤ b0 → b0 < 0xF5 → second b0 b1 ≡ true → tail b2 ≡ true → tail b3 ≡ true → seq_len b0 b1 b2 b3 ≡ 4
  unfolding seq_len
  len_4 h k s t u = simp (le-ltb b0 0x80 (omega arith), le-ltb b0 0xC2 (omega arith), le-ltb b0 0xE0 (omega arith), le-ltb b0 0xF0 h, lt-ltb b0 0xF5 k, s, t, u)

  -- where there is a sequence, its first byte tells its length
  pub lead_2 : 0x80 ≤ b0 → b0 < 0xE0 → 0 < seq_len b0 b1 b2 b3 → seq_len b0 b1 b2 b3 ≡ 2
  unfolding seq_len
  lead_2 h k =
      let P : ℕ → Type 0 = λ n. 0 < n → n ≡ 2 in
      simp (le-ltb b0 0x80 h, lt-ltb b0 0xE0 k)
      (cond_elim P (ltb b0 0xC2) _ _ (λ e. omega arith) (λ e. cond_elim P (tail b1) _ _ (λ t p. refl) (λ t. omega arith)))

  pub lead_3 : 0xE0 ≤ b0 → b0 < 0xF0 → 0 < seq_len b0 b1 b2 b3 → seq_len b0 b1 b2 b3 ≡ 3
  unfolding seq_len
  lead_3 h k =
      let P : ℕ → Type 0 = λ n. 0 < n → n ≡ 3 in
      simp (le-ltb b0 0x80 (omega arith), le-ltb b0 0xC2 (omega arith), le-ltb b0 0xE0 h, lt-ltb b0 0xF0 k)
      (cond_elim P (second b0 b1 && tail b2) _ _ (λ t p. refl) (λ t. omega arith))

  pub lead_4 : 0xF0 ≤ b0 → 0 < seq_len b0 b1 b2 b3 → seq_len b0 b1 b2 b3 ≡ 4
  unfolding seq_len
  lead_4 h =
      let P : ℕ → Type 0 = λ n. 0 < n → n ≡ 4 in
      simp (le-ltb b0 0x80 (omega arith), le-ltb b0 0xC2 (omega arith), le-ltb b0 0xE0 (omega arith), le-ltb b0 0xF0 h)
      (cond_elim P (ltb b0 0xF5) _ _ (λ e. cond_elim P (second b0 b1 && tail b2 && tail b3) _ _ (λ t p. refl) (λ t. omega arith)) (λ e. omega arith))

-- ---- the second byte

pub data Second (b0 b1 : ℕ) : Type 0 where
  at_e0 : b0 ≡ 0xE0 → 0xA0 ≤ b1 → b1 ≤ 0xBF → Second b0 b1
  at_ed : b0 ≡ 0xED → 0x80 ≤ b1 → b1 ≤ 0x9F → Second b0 b1
  at_f0 : b0 ≡ 0xF0 → 0x90 ≤ b1 → b1 ≤ 0xBF → Second b0 b1
  at_f4 : b0 ≡ 0xF4 → 0x80 ≤ b1 → b1 ≤ 0x8F → Second b0 b1
  other : (b0 ≡ 0xE0 → ⊥) → (b0 ≡ 0xED → ⊥) → (b0 ≡ 0xF0 → ⊥) → (b0 ≡ 0xF4 → ⊥) → 0x80 ≤ b1 → b1 ≤ 0xBF → Second b0 b1

second_view : (b0 b1 : ℕ) → second b0 b1 ≡ true → Second b0 b1
unfolding second
second_view b0 b1 =
    let P : Bool → Type 0 = λ t. t ≡ true → Second b0 b1 in
    cond_elim P (eqb b0 0xE0) _ _ (λ e h. let r = in_range_law 0xA0 0xBF b1 h in at_e0 (eqb-true b0 0xE0 e) r.0 r.1)
    (λ e0. cond_elim P (eqb b0 0xED) _ _ (λ e h. let r = in_range_law 0x80 0x9F b1 h in at_ed (eqb-true b0 0xED e) r.0 r.1)
    (λ e1. cond_elim P (eqb b0 0xF0) _ _ (λ e h. let r = in_range_law 0x90 0xBF b1 h in at_f0 (eqb-true b0 0xF0 e) r.0 r.1)
    (λ e2. cond_elim P (eqb b0 0xF4) _ _ (λ e h. let r = in_range_law 0x80 0x8F b1 h in at_f4 (eqb-true b0 0xF4 e) r.0 r.1)
    (λ e3 h. let r = in_range_law 0x80 0xBF b1 h in other (eqb-false b0 0xE0 e0) (eqb-false b0 0xED e1) (eqb-false b0 0xF0 e2) (eqb-false b0 0xF4 e3) r.0 r.1))))

second_make : (b0 b1 : ℕ) → Second b0 b1 → second b0 b1 ≡ true
unfolding second
second_make b0 b1 (at_e0 e p q) = simp (e, le-leb 0xA0 b1 p, le-leb b1 0xBF q)
second_make b0 b1 (at_ed e p q) = simp (e, le-leb 0x80 b1 p, le-leb b1 0x9F q)
second_make b0 b1 (at_f0 e p q) = simp (e, le-leb 0x90 b1 p, le-leb b1 0xBF q)
second_make b0 b1 (at_f4 e p q) = simp (e, le-leb 0x80 b1 p, le-leb b1 0x8F q)
second_make b0 b1 (other n0 n1 n2 n3 p q) =
    simp (ne_eqb b0 0xE0 n0, ne_eqb b0 0xED n1, ne_eqb b0 0xF0 n2, ne_eqb b0 0xF4 n3, le-leb 0x80 b1 p, le-leb b1 0xBF q)

pub tail_view : (b : ℕ) → tail b ≡ true → (0x80 ≤ b) × (b ≤ 0xBF)
unfolding tail
tail_view b e = in_range_law 0x80 0xBF b e

pub tail_make : (b : ℕ) → 0x80 ≤ b → b ≤ 0xBF → tail b ≡ true
unfolding tail
tail_make b p q = range 0x80 0xBF b p q

pub not_tail_low : (b : ℕ) → b < 0x80 → tail b ≡ false
unfolding tail
not_tail_low b h = simp (lt-leb 0x80 b h)

pub not_tail_high : (b : ℕ) → 0xC0 ≤ b → tail b ≡ false
unfolding tail
not_tail_high b h = simp (le-leb 0x80 b (omega arith), lt-leb b 0xBF h)

-- ---- from Table 3-7 to encodings

-- what a sequence of n bytes, n not 0, is
pub record Sequence (n b0 b1 b2 b3 : ℕ) : Type 0 where
  pub scalar : T (is_scalar (code_of b0 b1 b2 b3))
  pub bytes : encode_char (code_of b0 b1 b2 b3) ≡ take n (b0 ∷ b1 ∷ b2 ∷ b3 ∷ [])
  pub small : n ≤ 4
  pub there : 1 < n → 0 < get_or (b0 ∷ b1 ∷ b2 ∷ b3 ∷ []) (pred n) 0

abbrev pub Good : ℕ → ℕ → ℕ → ℕ → ℕ → Type 0
Good zero b0 b1 b2 b3 = Unit {0}
Good (suc n) b0 b1 b2 b3 = Sequence (suc n) b0 b1 b2 b3

-- v is the code point: its encoding and its range give the record
module _ (b0 b1 b2 b3 : ℕ) where
  good_1 : b0 < 0x80 → Sequence 1 b0 b1 b2 b3
  good_1 h =
      record {
        scalar = rw (code_1 b0 b1 b2 b3 h) (scalar_low b0 (omega arith));
        bytes = rw (code_1 b0 b1 b2 b3 h) (encode_char_1 b0 h);
        small = omega arith;
        there = omega arith;
      }

  good_2 : 0xC2 ≤ b0 → b0 < 0xE0 → 0x80 ≤ b1 → b1 ≤ 0xBF → Sequence 2 b0 b1 b2 b3
  good_2 h k p q =
      let v : ℕ = b0 % 32 * 64 + b1 % 64 in
      let x0 : 0xC0 + v / 64 ≡ b0 = omega arith in
      let x1 : 0x80 + v % 64 ≡ b1 = omega arith in
      record {
        scalar = rw (code_2 b0 b1 b2 b3 (omega arith) k) (scalar_low v (omega arith));
        bytes = rw (code_2 b0 b1 b2 b3 (omega arith) k) (encode_char_2 v (omega arith) (omega arith) ∙ cc);
        small = omega arith;
        there = omega arith;
      }

  -- the scalar and the bounds are the cases of the second byte
  bytes_3 : (v : ℕ) → v ≡ b0 % 16 * 4096 + b1 % 64 * 64 + b2 % 64 → 0xE0 ≤ b0 → b0 < 0xF0 → 0x80 ≤ b1 → b1 ≤ 0xBF → 0x80 ≤ b2 → b2 ≤ 0xBF → 0x800 ≤ v
      → encode_char v ≡ b0 ∷ b1 ∷ b2 ∷ []
  bytes_3 v e h k p q r s l =
      let x0 : 0xE0 + v / 4096 ≡ b0 = omega arith in
      let x1 : 0x80 + v / 64 % 64 ≡ b1 = omega arith in
      let x2 : 0x80 + v % 64 ≡ b2 = omega arith in
      encode_char_3 v l (omega arith) ∙ cc

  bytes_4 : (v : ℕ) → v ≡ b0 % 8 * 262144 + b1 % 64 * 4096 + b2 % 64 * 64 + b3 % 64 → 0xF0 ≤ b0 → b0 < 0xF5 → 0x80 ≤ b1 → b1 ≤ 0xBF → 0x80 ≤ b2 → b2 ≤ 0xBF → 0x80 ≤ b3 → b3 ≤ 0xBF → 0x10000 ≤ v
      → encode_char v ≡ b0 ∷ b1 ∷ b2 ∷ b3 ∷ []
  bytes_4 v e h k p q r s t u l =
      let x0 : 0xF0 + v / 262144 ≡ b0 = omega arith in
      let x1 : 0x80 + v / 4096 % 64 ≡ b1 = omega arith in
      let x2 : 0x80 + v / 64 % 64 ≡ b2 = omega arith in
      let x3 : 0x80 + v % 64 ≡ b3 = omega arith in
      encode_char_4 v l ∙ cc

  low_3 : (v : ℕ) → v ≡ b0 % 16 * 4096 + b1 % 64 * 64 + b2 % 64 → 0xE1 ≤ b0 → b0 < 0xED → 0x80 ≤ b1 → b1 ≤ 0xBF → 0x80 ≤ b2 → b2 ≤ 0xBF
      → T (is_scalar v) × (0x800 ≤ v) × (0x80 ≤ b1) × (b1 ≤ 0xBF)
  low_3 v e h k p q r s = (scalar_low v (omega arith), omega arith, p, q)

  high_3 : (v : ℕ) → v ≡ b0 % 16 * 4096 + b1 % 64 * 64 + b2 % 64 → 0xEE ≤ b0 → b0 < 0xF0 → 0x80 ≤ b1 → b1 ≤ 0xBF → 0x80 ≤ b2 → b2 ≤ 0xBF
      → T (is_scalar v) × (0x800 ≤ v) × (0x80 ≤ b1) × (b1 ≤ 0xBF)
  high_3 v e h k p q r s = (scalar_high v (omega arith) (omega arith), omega arith, p, q)

  mid_4 : (v : ℕ) → v ≡ b0 % 8 * 262144 + b1 % 64 * 4096 + b2 % 64 * 64 + b3 % 64 → 0xF1 ≤ b0 → b0 < 0xF4 → 0x80 ≤ b1 → b1 ≤ 0xBF → 0x80 ≤ b2 → b2 ≤ 0xBF → 0x80 ≤ b3 → b3 ≤ 0xBF
      → (0x10000 ≤ v) × (v ≤ 0x10FFFF) × (0x80 ≤ b1) × (b1 ≤ 0xBF)
  mid_4 v e h k p q r s t u = (omega arith, omega arith, p, q)

  scalar_3 : (v : ℕ) → v ≡ b0 % 16 * 4096 + b1 % 64 * 64 + b2 % 64 → 0xE0 ≤ b0 → b0 < 0xF0 → 0x80 ≤ b2 → b2 ≤ 0xBF → Second b0 b1
      → T (is_scalar v) × (0x800 ≤ v) × (0x80 ≤ b1) × (b1 ≤ 0xBF)
  scalar_3 v e h k r s (at_e0 i p q) = (scalar_low v (omega arith), omega arith, omega arith, omega arith)
  scalar_3 v e h k r s (at_ed i p q) = (scalar_low v (omega arith), omega arith, omega arith, omega arith)
  scalar_3 v e h k r s (at_f0 i p q) = absurd (omega arith)
  scalar_3 v e h k r s (at_f4 i p q) = absurd (omega arith)
  scalar_3 v e h k r s (other n0 n1 n2 n3 p q) =
      ⊎_elim (λ l. low_3 v e (above 0xE0 b0 h n0) l p q r s) (λ l. high_3 v e (above 0xED b0 l n1) k p q r s) (split b0 0xED)

  scalar_4 : (v : ℕ) → v ≡ b0 % 8 * 262144 + b1 % 64 * 4096 + b2 % 64 * 64 + b3 % 64 → 0xF0 ≤ b0 → b0 < 0xF5 → 0x80 ≤ b2 → b2 ≤ 0xBF → 0x80 ≤ b3 → b3 ≤ 0xBF → Second b0 b1
      → (0x10000 ≤ v) × (v ≤ 0x10FFFF) × (0x80 ≤ b1) × (b1 ≤ 0xBF)
  scalar_4 v e h k r s t u (at_e0 i p q) = absurd (omega arith)
  scalar_4 v e h k r s t u (at_ed i p q) = absurd (omega arith)
  scalar_4 v e h k r s t u (at_f0 i p q) = (omega arith, omega arith, omega arith, omega arith)
  scalar_4 v e h k r s t u (at_f4 i p q) = (omega arith, omega arith, omega arith, omega arith)
  scalar_4 v e h k r s t u (other n0 n1 n2 n3 p q) = mid_4 v e (above 0xF0 b0 h n2) (under 0xF4 b0 (le_of_suc-le-suc k) n3) p q r s t u

  good_3 : 0xE0 ≤ b0 → b0 < 0xF0 → Second b0 b1 → 0x80 ≤ b2 → b2 ≤ 0xBF → Sequence 3 b0 b1 b2 b3
  good_3 h k w r s =
      let v : ℕ = b0 % 16 * 4096 + b1 % 64 * 64 + b2 % 64 in
      let g : T (is_scalar v) × (0x800 ≤ v) × (0x80 ≤ b1) × (b1 ≤ 0xBF) = scalar_3 v refl h k r s w in
      record {
        scalar = rw (code_3 b0 b1 b2 b3 h k) g.0;
        bytes = rw (code_3 b0 b1 b2 b3 h k) (bytes_3 v refl h k g.2 g.3 r s g.1);
        small = omega arith;
        there = omega arith;
      }

  good_4 : 0xF0 ≤ b0 → b0 < 0xF5 → Second b0 b1 → 0x80 ≤ b2 → b2 ≤ 0xBF → 0x80 ≤ b3 → b3 ≤ 0xBF → Sequence 4 b0 b1 b2 b3
  good_4 h k w r s t u =
      let v : ℕ = b0 % 8 * 262144 + b1 % 64 * 4096 + b2 % 64 * 64 + b3 % 64 in
      let g : (0x10000 ≤ v) × (v ≤ 0x10FFFF) × (0x80 ≤ b1) × (b1 ≤ 0xBF) = scalar_4 v refl h k r s t u w in
      record {
        scalar = rw (code_4 b0 b1 b2 b3 h) (scalar_high v (omega arith) g.1);
        bytes = rw (code_4 b0 b1 b2 b3 h) (bytes_4 v refl h k g.2 g.3 r s t u g.0);
        small = omega arith;
        there = omega arith;
      }

  pub good : Good (seq_len b0 b1 b2 b3) b0 b1 b2 b3
  unfolding seq_len
  good =
      let P : ℕ → Type 0 = λ n. Good n b0 b1 b2 b3 in
      cond_elim P (ltb b0 0x80) _ _ (λ e. good_1 (ltb-true b0 0x80 e))
      (λ e0. cond_elim P (ltb b0 0xC2) _ _ (λ e. tt)
      (λ e1. cond_elim P (ltb b0 0xE0) _ _ (λ e. cond_elim P (tail b1) _ _ (λ t. let r = tail_view b1 t in good_2 (ltb-false b0 0xC2 e1) (ltb-true b0 0xE0 e) r.0 r.1) (λ t. tt))
      (λ e2. cond_elim P (ltb b0 0xF0) _ _ (λ e. cond_elim P (second b0 b1 && tail b2) _ _ (λ t. let r = tail_view b2 (and_right (second b0 b1) (tail b2) t) in good_3 (ltb-false b0 0xE0 e2) (ltb-true b0 0xF0 e) (second_view b0 b1 (and_left (second b0 b1) (tail b2) t)) r.0 r.1) (λ t. tt))
      (λ e3. cond_elim P (ltb b0 0xF5) _ _ (λ e. cond_elim P (second b0 b1 && tail b2 && tail b3) _ _
      (λ t. let s = and_left (second b0 b1 && tail b2) (tail b3) t in
      let r = tail_view b2 (and_right (second b0 b1) (tail b2) s) in
      let u = tail_view b3 (and_right (second b0 b1 && tail b2) (tail b3) t) in
      good_4 (ltb-false b0 0xF0 e3) (ltb-true b0 0xF5 e) (second_view b0 b1 (and_left (second b0 b1) (tail b2) s)) r.0 r.1 u.0 u.1) (λ t. tt))
      (λ e. tt)))))

-- ---- from encodings to Table 3-7

third : (c : ℕ) → c / 4096 ≡ c / 64 / 64
third c = omega arith

fourth : (c : ℕ) → c / 262144 ≡ c / 4096 / 64
fourth c = omega arith

second_3 : (c : ℕ) → 0x800 ≤ c → c < 0x10000 → T (is_scalar c) → Second (0xE0 + c / 4096) (0x80 + c / 64 % 64)
second_3 c h k s =
    ⊎_elim (λ l. at_e0 (omega arith) (omega arith) (omega arith))
    (λ l. ⊎_elim (λ m. other (omega arith) (omega arith) (omega arith) (omega arith) (omega arith) (omega arith))
    (λ m. ⊎_elim (λ n. at_ed (omega arith) (omega arith) (omega arith))
    (λ n. other (omega arith) (omega arith) (omega arith) (omega arith) (omega arith) (omega arith))
    (scalar_range c s))
    (split c 0xD000))
    (split c 0x1000)

second_4 : (c : ℕ) → 0x10000 ≤ c → c ≤ 0x10FFFF → Second (0xF0 + c / 262144) (0x80 + c / 4096 % 64)
second_4 c h k =
    ⊎_elim (λ l. at_f0 (omega arith) (omega arith) (omega arith))
    (λ l. ⊎_elim (λ m. other (omega arith) (omega arith) (omega arith) (omega arith) (omega arith) (omega arith))
    (λ m. at_f4 (omega arith) (omega arith) (omega arith))
    (split c 0x100000))
    (split c 0x40000)

pub scalar_max : (c : ℕ) → T (is_scalar c) → c ≤ 0x10FFFF
scalar_max c s = ⊎_elim (λ l. omega arith) (λ l. l.1) (scalar_range c s)

low : (x : ℕ) → (0x80 + x % 64) % 64 ≡ x % 64
low x = omega arith

joined_4 : (c : ℕ) → c ≤ 0x10FFFF → (0xF0 + c / 262144) % 8 * 262144 + (0x80 + c / 4096 % 64) % 64 * 4096 + (0x80 + c / 64 % 64) % 64 * 64 + (0x80 + c % 64) % 64 ≡ c
joined_4 c m =
    let a : (0xF0 + c / 262144) % 8 ≡ c / 262144 = omega arith in
    rw (a, low (c / 4096), low (c / 64), low c) (omega (arith, third c, fourth c))

-- the sequence at the front of an encoding
pub record Front (c : ℕ) (t : List ℕ) : Type 0 where
  pub long : seq_at (encode_char c ++ t) ≡ length (encode_char c)
  pub code : code_at (encode_char c ++ t) ≡ c
  pub some : 0 < length (encode_char c)

pub front : (c : ℕ) (t : List ℕ) → T (is_scalar c) → Front c t
front c t s = go (shape c)
  where
    go : Shape c → Front c t
    go (one h e) =
        record {
          long = rw e (len_1 c _ _ _ h);
          code = rw e (code_1 c _ _ _ h);
          some = rw e (omega arith);
        }
    go (two h k e) =
        record {
          long = rw e (len_2 _ _ _ _ (omega arith) (omega arith) (tail_make _ (omega arith) (omega arith)));
          code = rw e (code_2 _ _ _ _ (omega arith) (omega arith) ∙ omega arith);
          some = rw e (omega arith);
        }
    go (three h k e) =
        record {
          long = rw e (len_3 _ _ _ _ (omega arith) (omega arith) (second_make _ _ (second_3 c h k s)) (tail_make _ (omega arith) (omega arith)));
          code = rw e (code_3 _ _ _ _ (omega arith) (omega arith) ∙ omega arith);
          some = rw e (omega arith);
        }
    go (four h e) =
        let m : c ≤ 0x10FFFF = scalar_max c s in
        record {
          long = rw e (len_4 _ _ _ _ (omega arith) (omega arith) (second_make _ _ (second_4 c h m)) (tail_make _ (omega arith) (omega arith)) (tail_make _ (omega arith) (omega arith)));
          code = rw e (code_4 _ _ _ _ (omega arith) ∙ joined_4 c m);
          some = rw e (omega arith);
        }

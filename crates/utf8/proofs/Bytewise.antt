-- Sums over characters, counted byte by byte: where the bytes of each character add up to what the character counts, so
-- do those of a text. No place of the scan need be the start of a character.
--     units_of, width_bytes     the UTF-16 units that a byte stands for, and their sum
--     lead_of, count_bytes      1 for a byte that starts a character, and their sum
--     total_drop               one byte of a sum
use Prim.Native.Nat.{ℕ, zero, suc, ◌+◌, ◌-◌, ◌*◌, ◌/◌, ◌%◌, ◌^◌, ◌<◌, ◌≤◌, zero-le}
use mathlib.Core.List.{List, [], ◌∷◌, ◌++◌}
use mathlib.Core.Path.{◌≡◌, refl, sym, ap, ◌∙◌}
use native.Mathlib.Omega.{arith}
use native.Mathlib.Nat.{mul-suc, zero-add}
use native.Mathlib.Numerals.{add-one}
use borrow.Author.Tests.{lt-ltb, le-ltb, le-leb, lt-leb, ltb-true, ltb-false}
use mir.Val.{bool_byte}
use mathlib.Core.Bool.{Bool, true, false, not}
use lib.ListN.{length, get_or, take, drop, length-drop}
use lib.Seq.{take-length, drop-cons, drop-length}
use lib.Dec.{T, ltb}
use Rattle.utf8.specs.Unicode.{tail, is_scalar, Scalars, encode_char, encode, decode, WellFormed, units, width}
use Rattle.utf8.specs.Places.{AsciiRun, units_of, lead_of, total}
use Rattle.utf8.proofs.Table.{Shape, one, two, three, four, shape}
use Rattle.utf8.proofs.Decode.{decode_scalars}
use Rattle.utf8.proofs.Tests.{by_test}

-- ---- sums

pub total_append : (f : ℕ → ℕ) (a b : List ℕ) → total f (a ++ b) ≡ total f a + total f b
total_append f [] b = omega arith
total_append f (x ∷ a) b = let r = total_append f a b in omega arith

pub total_drop : (f : ℕ → ℕ) (s : List ℕ) (i : ℕ) → i < length s → total f (drop i s) ≡ f (get_or s i 0) + total f (drop (i + 1) s)
total_drop f s i h = rw (add-one, drop-cons s i 0)

pub total_encode : (f g : ℕ → ℕ) → ((c : ℕ) → T (is_scalar c) → total g (encode_char c) ≡ f c) → (cs : List ℕ) → Scalars cs → total g (encode cs) ≡ total f cs
unfolding encode
total_encode f g h [] s = refl
total_encode f g h (c ∷ cs) s = total_append g (encode_char c) (encode cs) ∙ rw (h c s.0, total_encode f g h cs s.1)

-- the same for a well-formed list
pub total_decode : (f g : ℕ → ℕ) → ((c : ℕ) → T (is_scalar c) → total g (encode_char c) ≡ f c) → (s : List ℕ) → WellFormed s → total g s ≡ total f (decode s)
total_decode f g h s w = sym (ap (total g) w) ∙ total_encode f g h (decode s) (decode_scalars s)

pub length_total : (cs : List ℕ) → length cs ≡ total (λ (c : ℕ). 1) cs
length_total [] = refl
length_total (c ∷ cs) = let r = length_total cs in omega arith

-- where g counts nothing for a tail, only the first byte of a character counts
module _ (f g : ℕ → ℕ) (tails : (b : ℕ) → 0x80 ≤ b → b < 0xC0 → g b ≡ 0) (ascii : (c : ℕ) → c < 0x80 → g c ≡ f c)
    (mid : (b c : ℕ) → 0xC0 ≤ b → b < 0xF0 → 0x80 ≤ c → c < 0x10000 → g b ≡ f c) (high : (b c : ℕ) → 0xF0 ≤ b → 0x10000 ≤ c → g b ≡ f c) where
  by_first : (c : ℕ) → T (is_scalar c) → total g (encode_char c) ≡ f c
  by_first c s = go (shape c)
    where
      go : Shape c → total g (encode_char c) ≡ f c
      go (one h e) = rw (e, ascii c h) (omega arith)
      go (two h k e) = rw (e, mid (0xC0 + c / 64) c (omega arith) (omega arith) h (omega arith), tails (0x80 + c % 64) (omega arith) (omega arith)) (omega arith)
      go (three h k e) =
          rw (
            e,
            mid (0xE0 + c / 4096) c (omega arith) (omega arith) (omega arith) k,
            tails (0x80 + c / 64 % 64) (omega arith) (omega arith),
            tails (0x80 + c % 64) (omega arith) (omega arith),
          )
          (omega arith)
      go (four h e) =
          rw (
            e,
            high (0xF0 + c / 262144) c (omega arith) h,
            tails (0x80 + c / 4096 % 64) (omega arith) (omega arith),
            tails (0x80 + c / 64 % 64) (omega arith) (omega arith),
            tails (0x80 + c % 64) (omega arith) (omega arith),
          )
          (omega arith)

  pub by_first_byte : (s : List ℕ) → WellFormed s → total g s ≡ total f (decode s)
  by_first_byte s w = total_decode f g by_first s w

-- ---- UTF-16 units

pub width_nil : width [] ≡ 0
unfolding width
width_nil = refl

pub width_cons : (c : ℕ) (cs : List ℕ) → width (c ∷ cs) ≡ units c + width cs
unfolding width
width_cons c cs = refl

pub width_total : (cs : List ℕ) → width cs ≡ total units cs
unfolding width
width_total [] = refl
width_total (c ∷ cs) = let r = width_total cs in omega arith

pub width_bytes : (s : List ℕ) → WellFormed s → total units_of s ≡ width (decode s)
unfolding units_of units
width_bytes s w =
    by_first_byte units units_of (λ b h k. simp (le-ltb b 0x80 h, lt-ltb b 0xC0 k)) (λ c h. simp (lt-ltb c 0x80 h, lt-ltb c 0x10000 (omega arith)))
    (λ b c h k l m. simp (le-ltb b 0x80 (omega arith), le-ltb b 0xC0 h, lt-ltb b 0xF0 k, lt-ltb c 0x10000 m))
    (λ b c h k. simp (le-ltb b 0x80 (omega arith), le-ltb b 0xC0 (omega arith), le-ltb b 0xF0 h, le-ltb c 0x10000 k)) s w
    ∙ sym (width_total (decode s))

-- ---- characters

-- 1 for what is no tail
lead_is : (b : ℕ) → bool_byte (not (tail b)) ≡ lead_of b
unfolding lead_of tail
lead_is b =
    by_test (ltb b 0x80)
    (λ e. let h = ltb-true b 0x80 e in simp (lt-ltb b 0x80 h, lt-leb 0x80 b h))
    (λ e. let h = ltb-false b 0x80 e in by_test (ltb b 0xC0)
    (λ f. let k = ltb-true b 0xC0 f in
    simp (le-ltb b 0x80 h, lt-ltb b 0xC0 k, le-leb 0x80 b h, le-leb b 0xBF (omega arith)))
    (λ f. let k = ltb-false b 0xC0 f in
    simp (le-ltb b 0x80 h, le-ltb b 0xC0 k, le-leb 0x80 b h, lt-leb b 0xBF (omega arith))))

small : (t : Bool) → bool_byte t ≤ 2
small true = omega arith
small false = omega arith

pub lead_by : (b n : ℕ) (t : Bool) → t ≡ tail b → n ≡ bool_byte (not t) → (n ≡ lead_of b) × (n ≤ 2)
lead_by b n t e f = (f ∙ ap (λ (x : Bool). bool_byte (not x)) e ∙ lead_is b, omega (arith, f, small (not t)))

pub count_bytes : (s : List ℕ) → WellFormed s → total lead_of s ≡ length (decode s)
unfolding lead_of
count_bytes s w =
    by_first_byte (λ c. 1) lead_of (λ b h k. simp (le-ltb b 0x80 h, lt-ltb b 0xC0 k)) (λ c h. simp (lt-ltb c 0x80 h))
    (λ b c h k l m. simp (le-ltb b 0x80 (omega arith), le-ltb b 0xC0 h))
    (λ b c h k. simp (le-ltb b 0x80 (omega arith), le-ltb b 0xC0 (omega arith))) s w
    ∙ sym (length_total (decode s))

-- ---- the scan: n is the sum over the first i bytes. k bounds what a byte counts

pub record SumScan (f : ℕ → ℕ) (k : ℕ) (s : List ℕ) (n i : ℕ) : Type 0 where
  pub fits : i ≤ length s
  pub small : n ≤ k * i
  pub sum : total f s ≡ n + total f (drop i s)

module _ (f : ℕ → ℕ) (k : ℕ) (s : List ℕ) where
  pub sum_begin : SumScan f k s 0 0
  sum_begin = record { fits = omega arith; small = zero-le; sum = omega arith }

  pub sum_turn : (n i m : ℕ) → SumScan f k s n i → i < length s → (m ≡ f (get_or s i 0)) × (m ≤ k) → SumScan f k s (n + m) (i + 1)
  sum_turn n i m q h e =
      record {
        fits = omega arith;
        small = rw (add-one, mul-suc) (omega (arith, q.small, e.1));
        sum = omega (arith, q.sum, total_drop f s i h, e.0);
      }

  pub sum_end : (n i : ℕ) → SumScan f k s n i → length s ≤ i → n ≡ total f s
  sum_end n i q h = let e : i ≡ length s = omega (arith, q.fits) in omega (arith, q.sum, total_end s i e)
    where
      total_end : (s : List ℕ) (i : ℕ) → i ≡ length s → total f (drop i s) ≡ 0
      total_end s i e = rw (e, drop-length)

-- bytes that are ASCII take a unit each
ascii_unit : (b : ℕ) → b < 0x80 → 1 ≡ units_of b
unfolding units_of
ascii_unit b h = rw (lt-ltb b 0x80 h)

ascii_sum : (s : List ℕ) (r : ℕ) → AsciiRun s 0 r → SumScan units_of 2 s r r
ascii_sum s r a = go r (omega arith)
  where
    go : (n : ℕ) → n ≤ r → SumScan units_of 2 s n n
    go zero h = sum_begin units_of 2 s
    go (suc n) h =
        let e : n + 1 ≡ suc n = omega arith in
        let low : get_or s n 0 < 0x80 = rw zero-add at (a.ascii n (omega arith)) in
        let unit = ascii_unit (get_or s n 0) low in
        rw e at (sum_turn units_of 2 s n n 1 (go n (omega arith)) (omega (arith, a.within)) (unit, omega arith))

-- a byte takes at most two units
byte_units : (b : ℕ) → units_of b ≤ 2
unfolding units_of
byte_units b =
    by_test (ltb b 0x80) (λ e. rw e (omega arith)) (λ e. rw e (
    by_test (ltb b 0xC0) (λ f. rw f (omega arith)) (λ f. rw f (
    by_test (ltb b 0xF0) (λ g. rw g (omega arith)) (λ g. rw g (omega arith))))))

pub total_small : (s : List ℕ) → total units_of s ≤ 2 * length s
total_small [] = omega arith
total_small (b ∷ s) = let r = total_small s in omega (arith, byte_units b)

-- the units of the rest beside them
module _ (s : List ℕ) (r n : ℕ) (a : AsciiRun s 0 r) (e : n ≡ total units_of (take (length s - r) (drop r s))) where
  rest : n ≡ total units_of (drop r s)
  rest = e ∙ ap (total units_of) (rw (← length-drop, take-length))

  pub width_past : WellFormed s → r + n ≡ width (decode s)
  width_past w = ap (λ k. r + k) rest ∙ sym (ascii_sum s r a).sum ∙ width_bytes s w

  pub width_fits : length s < 2 ^ 63 → r + n < 2 ^ 64
  width_fits h = omega (arith, a.within, rest, total_small (drop r s), length-drop r s)

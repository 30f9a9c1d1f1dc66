-- The texts by number: how many they are, and which stands where, without computing the list.
--     length_texts    3,257,437
--     of_at           the first character of a text of suc n, and the number of what follows among those of n
--     shorter_in      the texts of n characters stand behind all shorter ones
--     shorter_at
use Prim.Native.Nat.{ℕ, zero, suc, ◌+◌, ◌*◌, ◌^◌, ◌/◌, ◌%◌, ◌≤◌, ◌<◌}
use native.Mathlib.Nat.{suc-mul, zero-mul, pow-succ', div-add-mod', div-lt_iff_lt-mul, mod-lt, one-le-pow}
use native.Mathlib.Nat.{not-suc-le-zero, le_of_suc-le-suc}
use native.Mathlib.Omega.{arith}
use mathlib.Core.List.{List, [], ◌∷◌, ◌++◌, map}
use mathlib.Core.Logic.{◌⊎◌, inl, inr}
use mathlib.Core.Path.{◌≡◌, refl, sym, ap, ◌∙◌}
use lib.ListN.{length, get_or, length-append, length-map, get_or-append}
use lib.Seq.{get_or-append-add}
use Rattle.utf8.proofs.Tests.{split}
use Rattle.short_texts.specs.Texts.{letters, led, of_length, shorter, texts}

-- ---- how many

pub length_led : (cs : List ℕ) (ts : List (List ℕ)) → length (led cs ts) ≡ length cs * length ts
unfolding led
length_led [] ts = sym (zero-mul (length ts))
length_led (c ∷ cs) ts =
    length-append (map (λ t. c ∷ t) ts) (led cs ts)
    ∙ omega (arith, length-map ts (λ (t : List ℕ). c ∷ t), length_led cs ts, suc-mul (length cs) (length ts))

pub length_of : (n : ℕ) → length (of_length n) ≡ 12 ^ n
unfolding of_length
length_of zero = refl
length_of (suc n) = length_led letters (of_length n) ∙ omega (arith, length_of n, pow-succ' 12 n)

pub length_shorter : (n : ℕ) → length (shorter (suc n)) ≡ length (shorter n) + 12 ^ n
unfolding shorter
length_shorter n = length-append (shorter n) (of_length n) ∙ omega (arith, length_of n)

pub length_texts : length texts ≡ 3257437
unfolding texts
length_texts =
    omega (
      arith,
      length_none,
      length_shorter 0,
      length_shorter 1,
      length_shorter 2,
      length_shorter 3,
      length_shorter 4,
      length_shorter 5,
      length_shorter 6,
    )
  where
    length_none : length (shorter 0) ≡ 0
    length_none = unfold shorter in refl

-- ---- which stands where

get_d_map : (f : List ℕ → List ℕ) (l : List (List ℕ)) (i : ℕ) → i < length l → get_or (map f l) i [] ≡ f (get_or l i [])
get_d_map f [] i h = absurd (not-suc-le-zero h)
get_d_map f (x ∷ l) zero h = refl
get_d_map f (x ∷ l) (suc i) h = get_d_map f l i (le_of_suc-le-suc h)

-- in blocks of w texts, one for each character
pub led_at : (cs : List ℕ) (ts : List (List ℕ)) (w : ℕ) → length ts ≡ w → (q r : ℕ) → q < length cs → r < w
    → get_or (led cs ts) (q * w + r) [] ≡ get_or cs q 0 ∷ get_or ts r []
unfolding led
led_at [] ts w e q r h k = absurd (not-suc-le-zero h)
led_at (c ∷ cs) ts w e zero r h k =
    ap (λ (i : ℕ). get_or (map (λ t. c ∷ t) ts ++ led cs ts) i []) (omega (arith, zero-mul w))
    ∙ get_or-append (map (λ t. c ∷ t) ts) (led cs ts) [] r
    (omega (arith, length-map ts (λ (t : List ℕ). c ∷ t)))
    ∙ get_d_map (λ t. c ∷ t) ts r (omega arith)
led_at (c ∷ cs) ts w e (suc q) r h k =
    ap (λ (i : ℕ). get_or (map (λ t. c ∷ t) ts ++ led cs ts) i [])
    (omega (arith, suc-mul q w, length-map ts (λ (t : List ℕ). c ∷ t)))
    ∙ get_or-append-add (map (λ t. c ∷ t) ts) (led cs ts) (q * w + r) []
    ∙ led_at cs ts w e q r (le_of_suc-le-suc h) k

pub weight_pos : (n : ℕ) → 0 < 12 ^ n
weight_pos n = one-le-pow n 12 (omega arith)

pub quotient_small : (n m : ℕ) → m < 12 ^ suc n → m / 12 ^ n < 12
quotient_small n m h = (div-lt_iff_lt-mul (weight_pos n)).1 (omega (arith, pow-succ' 12 n))

pub of_at : (n m : ℕ) → m < 12 ^ suc n
    → get_or (of_length (suc n)) m [] ≡ get_or letters (m / 12 ^ n) 0 ∷ get_or (of_length n) (m % 12 ^ n) []
unfolding of_length
of_at n m h =
    ap (λ (i : ℕ). get_or (led letters (of_length n)) i []) (sym (div-add-mod' m (12 ^ n)))
    ∙ led_at letters (of_length n) (12 ^ n) (length_of n) (m / 12 ^ n) (m % 12 ^ n)
    (quotient_small n m h) (mod-lt m (weight_pos n))

pub of_none : (m : ℕ) → get_or (of_length 0) m [] ≡ []
unfolding of_length
of_none zero = refl
of_none (suc m) = refl

pub of_size : (n m : ℕ) → m < 12 ^ n → length (get_or (of_length n) m []) ≡ n
of_size zero m h = ap length (of_none m)
of_size (suc n) m h = ap length (of_at n m h) ∙ ap suc (of_size n (m % 12 ^ n) (mod-lt m (weight_pos n)))

-- the texts of n characters stand behind all shorter ones
pub shorter_in : (m n r : ℕ) → n < m → r < 12 ^ n → length (shorter n) + r < length (shorter m)
shorter_in zero n r h k = absurd (not-suc-le-zero h)
shorter_in (suc m) n r h k = go (split n m) (λ l. shorter_in m n r l k)
  where
    go : (n < m) ⊎ (m ≤ n) → (n < m → length (shorter n) + r < length (shorter m))
        → length (shorter n) + r < length (shorter (suc m))
    go (inl l) f = omega (arith, length_shorter m, f l)
    go (inr l) f =
        let e : n ≡ m = omega arith in
        rw e (omega (arith, length_shorter m, rw e at k))

pub shorter_at : (m n r : ℕ) → n < m → r < 12 ^ n
    → get_or (shorter m) (length (shorter n) + r) [] ≡ get_or (of_length n) r []
unfolding shorter
shorter_at zero n r h k = absurd (not-suc-le-zero h)
shorter_at (suc m) n r h k = go (split n m) (λ l. shorter_at m n r l k)
  where
    go : (n < m) ⊎ (m ≤ n) → (n < m → get_or (shorter m) (length (shorter n) + r) [] ≡ get_or (of_length n) r [])
        → get_or (shorter m ++ of_length m) (length (shorter n) + r) [] ≡ get_or (of_length n) r []
    go (inl l) f = get_or-append (shorter m) (of_length m) [] (length (shorter n) + r) (shorter_in m n r l k) ∙ f l
    go (inr l) f =
        let e : n ≡ m = omega arith in
        rw e (get_or-append-add (shorter m) (of_length m) r [])

pub shorter_grows : (m n : ℕ) → n ≤ m → length (shorter n) ≤ length (shorter m)
shorter_grows m n h = go (split n m)
  where
    go : (n < m) ⊎ (m ≤ n) → length (shorter n) ≤ length (shorter m)
    go (inl l) = omega (arith, shorter_in m n 0 l (weight_pos n))
    go (inr l) =
        let e : n ≡ m = omega arith in
        rw e (omega arith)

pub texts_in : (n r : ℕ) → n < 7 → r < 12 ^ n → length (shorter n) + r < length texts
unfolding texts
texts_in = shorter_in 7

pub texts_at : (n r : ℕ) → n < 7 → r < 12 ^ n → get_or texts (length (shorter n) + r) [] ≡ get_or (of_length n) r []
unfolding texts
texts_at = shorter_at 7

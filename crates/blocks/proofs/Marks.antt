-- What a mask tells of the places that it was made of.
use Rattle.std.proofs.lemmas.List.FromFn.{get_or-range_with_len, length-range_with_len}
use Rattle.std.proofs.lemmas.List.{drop-map, length-map}
use Rattle.std.proofs.lemmas.List.Sums.{prefix_len-le-length, prefix_len_passes, prefix_len_stops}
use Rattle.std.proofs.lemmas.Nat.{shr-shr}
use Rattle.std.proofs.lemmas.Simd.{first_set_mask_l, map-map, mask_l-mod, pick_l-range_with_len}
use Rattle.std.proofs.Common.{ℕ, zero, suc, ◌+◌, ◌-◌, ◌*◌, ◌/◌, ◌%◌, ◌^◌, ◌≤◌, ◌≡◌, ◌∙◌, Bool, true, false, not, cond, eqb, List, [], ◌∷◌, length, map, get_or, drop, refl, sym, ap, ap₂, arith}
use Rattle.std.specs.List.{prefix_len, range_with_len}
use lib.Count.{count_trailing_zeros}
use lib.Lanes.{chunk, mask_l, top}
use Rattle.blocks.specs.Marks.{Marks, Passed}

not_true : (b : Bool) → not b ≡ true → b ≡ false
not_true false e = refl
not_true true e = absurd (cc)

not_false : (b : Bool) → not b ≡ false → b ≡ true
not_false true e = refl
not_false false e = absurd (cc)

-- the mask of a test of the n bytes from i on
pub marks_of : (p : ℕ → Bool) (s : List ℕ) (i n m : ℕ) → i + n ≤ length s → m ≡ mask_l (map p (chunk i n s)) → Marks (λ k. p (get_or s k 0)) i n m
marks_of p s i n m room e =
    record { is = e ∙ ap (λ v. mask_l (map p v)) (sym (pick_l-range_with_len 0 s i n room)) ∙ ap mask_l (map-map p (λ k. get_or s k 0) (range_with_len i n)) }

-- the bytes that stand d after the n places from i on
pub bytes_at : (s : List ℕ) (i d n : ℕ) → i + d + n ≤ length s → chunk (i + d) n s ≡ map (λ k. get_or s (k + d) 0) (range_with_len i n)
bytes_at s i d n room = sym (pick_l-range_with_len 0 s (i + d) n room) ∙ shifted i n
  where
    shifted : (i n : ℕ) → map (λ k. get_or s k 0) (range_with_len (i + d) n) ≡ map (λ k. get_or s (k + d) 0) (range_with_len i n)
    shifted i zero = refl
    shifted i (suc n) = let e : i + d + 1 ≡ i + 1 + d = omega arith in ap (λ v. get_or s (i + d) 0 ∷ v) (rw e (shifted (i + 1) n))

-- the mask of a test that was made lane by lane of the places
pub marks_by : (f : ℕ → ℕ) (q : ℕ → Bool) (i n : ℕ) {x : List ℕ} → n ≤ 64 → x ≡ map f (range_with_len i n) → ((k : ℕ) → top 7 (f k) ≡ q k) → Marks q i n (mask_l (map (top 7) x) % 2 ^ 64)
marks_by f q i n few e same =
    let v = range_with_len i n in
    record {
      is = ap (λ y. mask_l (map (top 7) y) % 2 ^ 64) e ∙ ap (λ y. mask_l y % 2 ^ 64) (map-map (top 7) f v ∙ map_same v)
          ∙ mask_l-mod (map q v) 64 (omega (arith, length-map v q, length-range_with_len i n));
    }
  where
    map_same : (v : List ℕ) → map (λ k. top 7 (f k)) v ≡ map q v
    map_same [] = refl
    map_same (k ∷ v) = ap₂ (λ a b. a ∷ b) (same k) (map_same v)

-- the number of zeros at its end, or n where there is no one
pub passed_by : (q : ℕ → Bool) (at n m r : ℕ) → n ≤ 64 → Marks q at n m → r ≡ cond (eqb m 0) n (count_trailing_zeros 64 m) → Passed q at n r
passed_by q at n m r few k f =
    let v = range_with_len at n in
    let l : length v ≡ n = length-range_with_len at n in
    let p = λ (x : ℕ). not (q x) in
    let c : r ≡ prefix_len p v = f ∙ ap (λ x. cond (eqb x 0) n (count_trailing_zeros 64 x)) k.is ∙ first_set_mask_l q v n l few in
    record {
      few = omega (arith, c, l, prefix_len-le-length p v);
      none = λ j h i.
          let s : at + (j - at) ≡ j = omega arith in
          not_true _ (rw (get_or-range_with_len at n (j - at) 0 (omega (arith, c, l, prefix_len-le-length p v)), s) at (prefix_len_passes p v (j - at) 0 (omega (arith, c))));
      stops = λ i. not_false _ (rw (← c, get_or-range_with_len at n r 0 i) at (prefix_len_stops p v 0 (omega (arith, c, l))));
    }

-- ---- a mask without its lowest digits

half : (b : Bool) (m : ℕ) → (cond b 1 0 + 2 * m) / 2 ^ 1 ≡ m
half true m = omega arith
half false m = omega arith

less : (n k : ℕ) → n / 2 ^ 1 / 2 ^ k ≡ n / 2 ^ suc k
less n k = let e : 1 + k ≡ suc k = omega arith in rw e at (shr-shr n 1 k)

mask_drop : (k : ℕ) (ms : List Bool) → mask_l ms / 2 ^ k ≡ mask_l (drop k ms)
mask_drop zero ms = omega arith
mask_drop (suc k) [] = zero_shifted (suc k)
  where
    zero_shifted : (k : ℕ) → 0 / 2 ^ k ≡ 0
    zero_shifted zero = refl
    zero_shifted (suc k) = sym (less 0 k) ∙ zero_shifted k
mask_drop (suc k) (b ∷ ms) = sym (less (mask_l (b ∷ ms)) k) ∙ ap (λ n. n / 2 ^ k) (half b (mask_l ms)) ∙ mask_drop k ms

range_drop : (k a n : ℕ) → k ≤ n → drop k (range_with_len a n) ≡ range_with_len (a + k) (n - k)
range_drop zero a n l = let e : a + 0 ≡ a = omega arith in let f : n - 0 ≡ n = omega arith in rw (e, f)
range_drop (suc k) a zero l = absurd (omega arith)
range_drop (suc k) a (suc n) l =
    let e : a + 1 + k ≡ a + suc k = omega arith in
    let f : n - k ≡ suc n - suc k = omega arith in
    rw (e, f) at (range_drop k (a + 1) n (omega arith))

-- the mask of the last n places before `end`, without those before i
pub last_by : (q : ℕ → Bool) (n i end m r : ℕ) → (n ≤ end) × (n ≤ 64) → (i ≤ end) × (end ≤ i + n) → Marks q (end - n) n m
    → r ≡ cond (eqb (m / 2 ^ (i - (end - n))) 0) (end - i) (count_trailing_zeros 64 (m / 2 ^ (i - (end - n)))) → Passed q i (end - i) r
last_by q n i end m r h l k f =
    let d : ℕ = i - (end - n) in
    let v = range_with_len (end - n) n in
    let a : end - n + d ≡ i = omega arith in
    let b : n - d ≡ end - i = omega arith in
    let e : m / 2 ^ d ≡ mask_l (map q (range_with_len (end - n + d) (n - d))) =
    ap (λ x. x / 2 ^ d) k.is ∙ mask_drop d (map q v) ∙ ap mask_l (drop-map q d v ∙ ap (map q) (range_drop d (end - n) n (omega arith))) in
    passed_by q i (end - i) (m / 2 ^ d) r (omega arith) (record { is = rw (a, b) at e }) f

-- A test of the lanes of a vector, made of operations on each lane, is held to a test of bytes at each of the 256.
use Prim.Native.Nat.{ℕ, zero, suc, ◌%◌, ◌^◌, ◌<◌, ◌≤◌}
use mathlib.Core.Bool.{Bool, true, false, not, ◌&&◌, cond}
use mathlib.Core.List.{List, [], ◌∷◌, map}
use mathlib.Core.Path.{◌≡◌, refl, ap, ap₂, ◌∙◌}
use native.Mathlib.Omega.{arith}
use Rattle.std.proofs.Common.{◌⊎◌, inl, inr}
use lib.Dec.{T, eqb}
use lib.Bits.{bit_or}
use lib.Lanes.{Each1, zip2, mask_l, top}
use lib.ListN.{length, replicate}
use mir.Syntax.{w8}
use mir.Val.{Fits}
use Rattle.std.proofs.lemmas.Bool.{cases_lt}
use Rattle.std.proofs.lemmas.List.{length-map}
use Rattle.std.proofs.lemmas.Simd.{zip2_splat, zip2_of_maps, map-map, mask_l-mod}

abbrev agree : Bool → Bool → Bool
agree true b = b
agree false b = not b

agree_is : (a b : Bool) → T (agree a b) → a ≡ b
agree_is true true t = refl
agree_is true false t = absurd t
agree_is false true t = absurd t
agree_is false false t = refl

-- whether all numbers below n pass
abbrev below : (ℕ → Bool) → ℕ → Bool
below p zero = true
below p (suc n) = p n && below p n

below_is : (p : ℕ → Bool) (n i : ℕ) → T (below p n) → i < n → T (p i)
below_is p zero i t l = absurd (omega arith)
below_is p (suc n) i t l = go (p n) refl t (λ u. below_is p n i u) (cases_lt i n)
  where
    go : (b : Bool) → p n ≡ b → T (b && below p n) → (T (below p n) → i < n → T (p i)) → (i < n) ⊎ (n ≤ i) → T (p i)
    go true e u rest (inl h) = rest u h
    go true e u rest (inr h) = let j : i ≡ n = omega arith in rw (j, e) tt
    go false e u rest o = absurd u

-- whether the test, as its lanes tell it, is p at each byte
abbrev pub Told : (ℕ → ℕ) → (ℕ → Bool) → Type 0
Told f p = T (below (λ b. agree (top 7 (f b)) (p b)) 256)

each_lane : (f : ℕ → ℕ) (p : ℕ → Bool) → Told f p → (v : List ℕ) → Each1 (Fits w8) v → map (top 7) (map f v) ≡ map p v
each_lane f p t [] fits = refl
each_lane f p t (b ∷ v) fits =
    ap₂ (λ x y. x ∷ y) (agree_is _ _ (below_is (λ x. agree (top 7 (f x)) (p x)) 256 b t fits.0.fits)) (each_lane f p t v fits.1)

-- `simd_eq` with the same number, `splat`
abbrev pub same : ℕ → ℕ → ℕ
same a b = cond (eqb a b) 255 0

pub equal : (n a : ℕ) (v : List ℕ) → length v ≡ n → zip2 same v (replicate n a) ≡ map (λ b. same b a) v
equal n a v l = zip2_splat same v n a l

-- an operation on each lane and the same number
pub with_splat : (h : ℕ → ℕ → ℕ) (f : ℕ → ℕ) (n a : ℕ) (v : List ℕ) {x : List ℕ} → length v ≡ n → x ≡ map f v → zip2 h x (replicate n a) ≡ map (λ b. h (f b) a) v
with_splat h f n a v l e =
    ap (λ y. zip2 h y (replicate n a)) e ∙ zip2_splat h (map f v) n a (length-map v f ∙ l) ∙ map-map (λ b. h b a) f v

-- `|`
pub either : (f g : ℕ → ℕ) (v : List ℕ) {x y : List ℕ} → x ≡ map f v → y ≡ map g v → zip2 bit_or x y ≡ map (λ b. bit_or (f b) (g b)) v
either f g v d e = zip2_of_maps bit_or f g v d e

-- `to_bitmask`
pub mask_told : (f : ℕ → ℕ) (p : ℕ → Bool) (v : List ℕ) {x : List ℕ} → length v ≤ 64 → Each1 (Fits w8) v → x ≡ map f v → Told f p
    → mask_l (map (top 7) x) % 2 ^ 64 ≡ mask_l (map p v)
mask_told f p v l fits e t =
    ap (λ y. mask_l (map (top 7) y) % 2 ^ 64) e ∙ ap (λ y. mask_l y % 2 ^ 64) (each_lane f p t v fits)
    ∙ mask_l-mod (map p v) 64 (omega (arith, length-map v p))

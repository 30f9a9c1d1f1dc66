-- What a vector's lanes say of the places that they stand for: 255 where a test holds, else 0.
use Prim.Native.Nat.{ℕ}
use mathlib.Core.Bool.{Bool, true, false, cond, not, ◌&&◌, ◌||◌}
use mathlib.Core.List.{List, [], ◌∷◌, map}
use mathlib.Core.Path.{◌≡◌, refl, ap₂, ◌∙◌}
use lib.Bits.{bit_and, bit_or}
use lib.Dec.{eqb}
use lib.Lanes.{zip2, top}
use lib.ListN.{length, replicate}
use Rattle.std.proofs.lemmas.Simd.{zip2_of_maps}
use Rattle.blocks.proofs.Ones.{same, with_splat}

abbrev pub said : (ℕ → Bool) → List ℕ → List ℕ
said p v = map (λ k. cond (p k) 255 0) v

map_like : (f g : ℕ → ℕ) → ((k : ℕ) → f k ≡ g k) → (v : List ℕ) → map f v ≡ map g v
map_like f g e [] = refl
map_like f g e (k ∷ v) = ap₂ (λ a b. a ∷ b) (e k) (map_like f g e v)

and_said : (a b : Bool) → bit_and (cond a 255 0) (cond b 255 0) ≡ cond (a && b) 255 0
and_said true true = refl
and_said true false = refl
and_said false true = refl
and_said false false = refl

or_said : (a b : Bool) → bit_or (cond a 255 0) (cond b 255 0) ≡ cond (a || b) 255 0
or_said true true = refl
or_said true false = refl
or_said false true = refl
or_said false false = refl

pub top_said : (b : Bool) → top 7 (cond b 255 0) ≡ b
top_said true = refl
top_said false = refl

module _ (v : List ℕ) where
  -- `&` and `|` of two such vectors
  pub both_said : (p q : ℕ → Bool) {x y : List ℕ} → x ≡ said p v → y ≡ said q v → zip2 bit_and x y ≡ said (λ k. p k && q k) v
  both_said p q d e = zip2_of_maps bit_and _ _ v d e ∙ map_like _ _ (λ k. and_said (p k) (q k)) v

  pub either_said : (p q : ℕ → Bool) {x y : List ℕ} → x ≡ said p v → y ≡ said q v → zip2 bit_or x y ≡ said (λ k. p k || q k) v
  either_said p q d e = zip2_of_maps bit_or _ _ v d e ∙ map_like _ _ (λ k. or_said (p k) (q k)) v

  -- `simd_eq` and `simd_ne` of the numbers that f gives, with the same number
  module _ (f : ℕ → ℕ) (n a : ℕ) {x : List ℕ} (l : length v ≡ n) (e : x ≡ map f v) where
    pub is_said : zip2 same x (replicate n a) ≡ said (λ k. eqb (f k) a) v
    is_said = with_splat same f n a v l e

    pub is_not_said : zip2 (λ b c. cond (not (eqb b c)) 255 0) x (replicate n a) ≡ said (λ k. not (eqb (f k) a)) v
    is_not_said = with_splat (λ b c. cond (not (eqb b c)) 255 0) f n a v l e

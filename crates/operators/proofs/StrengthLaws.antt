-- A strength, read from the table by its place.
use Prim.Native.Nat.{ℕ, zero, suc, ◌+◌, ◌/◌, ◌%◌, ◌<◌}
use mathlib.Core.List.{List, [], ◌∷◌}
use mathlib.Core.Path.{◌≡◌, refl, sym, ap, ◌∙◌}
use native.Mathlib.Omega.{arith}
use lib.ListN.{take, get_or}
use denote.Enum.Declared.{tag_of}
use Rattle.rules.specs.Strengths.{fields_of, strengths_in, last_bits}
use Rattle.operators.specs.Places.{place_of}
use Rattle.operators.specs.declared.Operator.{Operator}
use Rattle.operators.specs.declared.Operator.TheVariants.{Or, Xor, And, BitOr, BitXor, BitAnd, Equal, NotEqual, Less, Greater, AtMost, AtLeast, ShiftLeft, ShiftRight, Range, Add, Sub, Mul, Div, Rem, Pow}
use Rattle.operators.specs.contracts.Operator.{the_type}
use Rattle.operators.proofs.OperatorLaws.{place_below}

-- the fields of the byte j
upper : (t : List ℕ) (j n : ℕ) → n ≡ j + j → get_or (fields_of t) n 0 ≡ get_or t j 0 / 16 % 16
unfolding fields_of
upper [] j n e = refl
upper (b ∷ t) zero zero e = refl
upper (b ∷ t) zero (suc n) e = absurd (omega arith)
upper (b ∷ t) (suc j) zero e = absurd (omega arith)
upper (b ∷ t) (suc j) (suc zero) e = absurd (omega arith)
upper (b ∷ t) (suc j) (suc (suc n)) e = upper t j n (omega arith)

lower : (t : List ℕ) (j n : ℕ) → n ≡ j + j + 1 → get_or (fields_of t) n 0 ≡ get_or t j 0 % 16
unfolding fields_of
lower [] j n e = refl
lower (b ∷ t) j zero e = absurd (omega arith)
lower (b ∷ t) zero (suc zero) e = refl
lower (b ∷ t) (suc j) (suc zero) e = absurd (omega arith)
lower (b ∷ t) zero (suc (suc n)) e = absurd (omega arith)
lower (b ∷ t) (suc j) (suc (suc n)) e = lower t j n (omega arith)

taken : (n k : ℕ) (l : List ℕ) → k < n → get_or (take n l) k 0 ≡ get_or l k 0
taken zero k l h = absurd (omega arith)
taken (suc n) k [] h = refl
taken (suc n) zero (x ∷ l) h = refl
taken (suc n) (suc k) (x ∷ l) h = taken n k l (omega arith)

module _ (table : List ℕ) (k r : ℕ) (h : k < 21) where
  in_fields : get_or (strengths_in table) k 0 ≡ get_or (fields_of table) k 0
  unfolding strengths_in
  in_fields = taken 21 k (fields_of table) h

  pub upper_field : k % 2 ≡ 0 → r ≡ get_or table (k / 2) 0 / 16 % 16 → r ≡ get_or (strengths_in table) k 0
  upper_field e q = q ∙ sym (in_fields ∙ upper table (k / 2) k (omega arith))

  pub lower_field : (k % 2 ≡ 0 → ⊥) → r ≡ get_or table (k / 2) 0 % 16 → r ≡ get_or (strengths_in table) k 0
  lower_field e q = q ∙ sym (in_fields ∙ lower table (k / 2) k (omega arith))

-- the number that stands for an operator in the code is its place
number_place : (o : Operator) → tag_of the_type o ≡ place_of o
number_place Or = refl
number_place Xor = refl
number_place And = refl
number_place BitOr = refl
number_place BitXor = refl
number_place BitAnd = refl
number_place Equal = refl
number_place NotEqual = refl
number_place Less = refl
number_place Greater = refl
number_place AtMost = refl
number_place AtLeast = refl
number_place ShiftLeft = refl
number_place ShiftRight = refl
number_place Range = refl
number_place Add = refl
number_place Sub = refl
number_place Mul = refl
number_place Div = refl
number_place Rem = refl
number_place Pow = refl

module _ (table : List ℕ) (o : Operator) where
  below : tag_of the_type o < 21
  below = rw (number_place o) (place_below o)

  placed : get_or (strengths_in table) (tag_of the_type o) 0 ≡ get_or (strengths_in table) (place_of o) 0
  placed = ap (λ k. get_or (strengths_in table) k 0) (number_place o)

  pub upper_strength : tag_of the_type o % 2 ≡ 0 → get_or table (tag_of the_type o / 2) 0 / 16 % 16 ≡ get_or (strengths_in table) (place_of o) 0
  upper_strength e = upper_field table (tag_of the_type o) _ below e refl ∙ placed

  pub lower_strength : (tag_of the_type o % 2 ≡ 0 → ⊥) → get_or table (tag_of the_type o / 2) 0 % 16 ≡ get_or (strengths_in table) (place_of o) 0
  lower_strength e = lower_field table (tag_of the_type o) _ below e refl ∙ placed

-- the bits after the strengths are the lower ones of the last byte
pub last_field : (table : List ℕ) → last_bits table ≡ get_or table 10 0 % 16
unfolding last_bits
last_field table = lower table 10 21 refl

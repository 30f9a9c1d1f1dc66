-- What an expression's tokens are made of: bytes that are written as they are, operators of strengths 1 to 12.
use Prim.Native.Nat.{ℕ, ◌≤◌, ◌<◌}
use mathlib.Core.Bool.{Bool, true, ◌&&◌, ◌||◌}
use mathlib.Core.List.{List, [], ◌∷◌, ◌++◌}
use mathlib.Core.Path.{◌≡◌, refl}
use native.Mathlib.Omega.{arith}
use lib.Dec.{eqb, leb, ltb, lit≤}
use borrow.Author.Tests.{eqb-true, leb-true}
use Rattle.utf8.specs.Unicode.{within}
use Rattle.rules.specs.Basics.{is, one_of, is_ident}
use Rattle.rules.specs.Operators.{operators}
use Rattle.rules.specs.SplitOperation.{is_sign}
use Rattle.rules.proofs.Computing.{computing}
use Rattle.group_rules.specs.Expression.{Token, word, sign, operator, opener, closer, is_digit}
use Rattle.group_rules.specs.Grouping.{strength_of}
use Rattle.group_rules.proofs.TableLaws.{or_cases, all_of, found}
use Rattle.utf8.proofs.Tests.{and_left, and_right}

unfoldable pub Plain : List ℕ → Type 0
Plain [] = Unit {0}
Plain (b ∷ bs) = (32 ≤ b) × Plain bs

pub record PlainOperator (op : List ℕ) : Type 0 where
  pub chars : Plain op
  pub positive : 0 < strength_of op
  pub small : strength_of op ≤ 12

unfoldable pub PlainToken : Token → Type 0
PlainToken (word w) = Plain w
PlainToken (sign c) = 32 ≤ c
PlainToken (operator op) = PlainOperator op
PlainToken opener = Unit {0}
PlainToken closer = Unit {0}

unfoldable pub AllPlain : List Token → Type 0
AllPlain [] = Unit {0}
AllPlain (t ∷ ts) = PlainToken t × AllPlain ts

pub all_first : (a b : List Token) → AllPlain (a ++ b) → AllPlain a
unfolding AllPlain
all_first [] b h = tt
all_first (c ∷ a) b h = (h.0, all_first a b h.1)

pub all_second_law : (a b : List Token) → AllPlain (a ++ b) → AllPlain b
all_second_law [] b h = h
all_second_law (c ∷ a) b h = all_second_law a b (unfold AllPlain in h.1)

-- ---- the tests of a character

pub within_plain : (lo hi c : ℕ) → 32 ≤ lo → within lo hi c ≡ true → 32 ≤ c
within_plain lo hi c k h = let m = leb-true lo c (and_left (leb lo c) (leb c hi) h) in omega arith

pub is_plain : (k c : ℕ) → 32 ≤ k → eqb c k ≡ true → 32 ≤ c
is_plain k c h e = let m = eqb-true c k e in omega arith

pub digit_plain : (c : ℕ) → is_digit c ≡ true → 32 ≤ c
digit_plain c h = within_plain 48 57 c (lit≤ tt) h

pub ident_plain : (c : ℕ) → is_ident c ≡ true → 32 ≤ c
unfolding is_ident
ident_plain c h =
    or_cases (within 48 57 c || within 65 90 c || within 97 122 c) (is "_" c)
    (λ h. or_cases (within 48 57 c || within 65 90 c) (within 97 122 c)
    (λ h. or_cases (within 48 57 c) (within 65 90 c) (within_plain 48 57 c (lit≤ tt)) (within_plain 65 90 c (lit≤ tt)) h) (within_plain 97 122 c (lit≤ tt)) h)
    (is_plain 95 c (lit≤ tt)) h

pub sign_plain : (c : ℕ) → is_sign c ≡ true → 32 ≤ c
unfolding is_sign
sign_plain c h = or_cases (is "+" c) (is "-" c) (is_plain 43 c (lit≤ tt)) (is_plain 45 c (lit≤ tt)) h

-- ---- the operators: a test that is computed for each

plain_bytes : List ℕ → Bool
plain_bytes [] = true
plain_bytes (b ∷ bs) = leb 32 b && plain_bytes bs

right : List ℕ → Bool
right op = ltb 0 (strength_of op) && leb (strength_of op) 12 && plain_bytes op

operators_right : all_of right operators ≡ true
unfolding all_of right plain_bytes computing
operators_right = refl

plain_bytes_law : (w : List ℕ) → plain_bytes w ≡ true → Plain w
unfolding plain_bytes Plain
plain_bytes_law [] h = tt
plain_bytes_law (b ∷ w) h = (leb-true 32 b (and_left (leb 32 b) (plain_bytes w) h), plain_bytes_law w (and_right (leb 32 b) (plain_bytes w) h))

right_plain : (op : List ℕ) → right op ≡ true → PlainOperator op
unfolding right
right_plain op h =
    let f = and_left (ltb 0 (strength_of op) && leb (strength_of op) 12) (plain_bytes op) h in
    record {
      chars = plain_bytes_law op (and_right (ltb 0 (strength_of op) && leb (strength_of op) 12) (plain_bytes op) h);
      positive = leb-true 1 (strength_of op) (and_left (ltb 0 (strength_of op)) (leb (strength_of op) 12) f);
      small = leb-true (strength_of op) 12 (and_right (ltb 0 (strength_of op)) (leb (strength_of op) 12) f);
    }

pub operator_plain : (op : List ℕ) → one_of operators op ≡ true → PlainOperator op
operator_plain op h = right_plain op (found right operators op operators_right h)

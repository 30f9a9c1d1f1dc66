-- What an expression's tokens are made of: names, numbers, signs and operators, character by character.
use Prim.Native.Nat.{ℕ, ◌≤◌, ◌<◌}
use mathlib.Core.Bool.{Bool, true, false, ◌&&◌, ◌||◌}
use mathlib.Core.List.{List, [], ◌∷◌, ◌++◌, reverse, reverse-cons}
use mathlib.Core.Path.{◌≡◌, refl}
use native.Mathlib.Omega.{arith}
use lib.Dec.{eqb, leb, ltb, lit<}
use borrow.Author.Tests.{eqb-true, leb-true, ltb-true}
use Rattle.utf8.specs.Unicode.{within}
use Rattle.utf8.proofs.Decode.{Ascii}
use Rattle.rules.specs.Basics.{is, one_of, is_ident}
use Rattle.rules.specs.Operators.{operators}
use Rattle.rules.specs.SplitOperation.{is_sign, keywords}
use Rattle.group_rules.specs.Expression.{Token, word, sign, operator, opener, closer, Stage, due, in_name, in_number, after, in_operator, is_digit, starts_operator}
use Rattle.group_rules.proofs.PlainLaws.{Plain, PlainToken, AllPlain, digit_plain, ident_plain, sign_plain, operator_plain}
use Rattle.group_rules.proofs.TableLaws.{or_cases, all_of, found}
use Rattle.utf8.proofs.Tests.{and_left, and_right}

-- every character passes the test
unfoldable pub AllAre : (ℕ → Bool) → List ℕ → Type 0
AllAre p [] = Unit {0}
AllAre p (c ∷ cs) = (p c ≡ true) × AllAre p cs

pub are_more : (p : ℕ → Bool) (w : List ℕ) (c : ℕ) → AllAre p w → p c ≡ true → AllAre p (w ++ c ∷ [])
unfolding AllAre
are_more p [] c h k = (k, tt)
are_more p (x ∷ w) c h k = (h.0, are_more p w c h.1 k)

pub data NameSoFar : List ℕ → Type 0 where
  name : (c : ℕ) (w : List ℕ) → is_digit c ≡ false → is_ident c ≡ true → AllAre is_ident w → NameSoFar (c ∷ w)

pub data NumberSoFar : List ℕ → Type 0 where
  number : (c : ℕ) (w : List ℕ) → is_digit c ≡ true → AllAre is_digit w → NumberSoFar (c ∷ w)

pub name_more : {w : List ℕ} (c : ℕ) → NameSoFar w → is_ident c ≡ true → NameSoFar (w ++ c ∷ [])
name_more c (name x w d i a) h = name x (w ++ c ∷ []) d i (are_more is_ident w c a h)

pub number_more : {w : List ℕ} (c : ℕ) → NumberSoFar w → is_digit c ≡ true → NumberSoFar (w ++ c ∷ [])
number_more c (number x w d a) h = number x (w ++ c ∷ []) d (are_more is_digit w c a h)

pub data IsWord : List ℕ → Type 0 where
  is_name : {w : List ℕ} → NameSoFar w → one_of keywords w ≡ false → IsWord w
  is_number : {w : List ℕ} → NumberSoFar w → IsWord w

pub data IsOperator : List ℕ → Type 0 where
  one : (a : ℕ) → one_of operators (a ∷ []) ≡ true → IsOperator (a ∷ [])
  two : (a c : ℕ) → one_of operators (a ∷ c ∷ []) ≡ true → IsOperator (a ∷ c ∷ [])

unfoldable pub SpelledToken : Token → Type 0
SpelledToken (word w) = IsWord w
SpelledToken (sign c) = is_sign c ≡ true
SpelledToken (operator op) = IsOperator op
SpelledToken opener = Unit {0}
SpelledToken closer = Unit {0}

unfoldable pub AllSpelled : List Token → Type 0
AllSpelled [] = Unit {0}
AllSpelled (t ∷ ts) = SpelledToken t × AllSpelled ts

abbrev pub SpelledStage : Stage → Type 0
SpelledStage due = Unit {0}
SpelledStage (in_name w) = NameSoFar w
SpelledStage (in_number w) = NumberSoFar w
SpelledStage after = Unit {0}
SpelledStage (in_operator a) = starts_operator a ≡ true

pub spelled_append : (a b : List Token) → AllSpelled a → AllSpelled b → AllSpelled (a ++ b)
unfolding AllSpelled
spelled_append [] b h k = k
spelled_append (c ∷ a) b h k = (h.0, spelled_append a b h.1 k)

pub spelled_first : (a b : List Token) → AllSpelled (a ++ b) → AllSpelled a
unfolding AllSpelled
spelled_first [] b h = tt
spelled_first (c ∷ a) b h = (h.0, spelled_first a b h.1)

pub spelled_second : (a b : List Token) → AllSpelled (a ++ b) → AllSpelled b
spelled_second [] b h = h
spelled_second (c ∷ a) b h = spelled_second a b (unfold AllSpelled in h.1)

pub spelled_reverse : (ts : List Token) → AllSpelled ts → AllSpelled (reverse ts)
unfolding AllSpelled
spelled_reverse [] h = tt
spelled_reverse (t ∷ ts) h = rw reverse-cons (spelled_append (reverse ts) (t ∷ []) (spelled_reverse ts h.1) (h.0, tt))

pub digit_ident : (c : ℕ) → is_digit c ≡ true → is_ident c ≡ true
unfolding is_ident
digit_ident c h = rw h

-- ---- they are written as they are

are_plain : (p : ℕ → Bool) → ((c : ℕ) → p c ≡ true → 32 ≤ c) → (w : List ℕ) → AllAre p w → Plain w
unfolding AllAre Plain
are_plain p f [] h = tt
are_plain p f (c ∷ w) h = (f c h.0, are_plain p f w h.1)

word_plain : {w : List ℕ} → IsWord w → Plain w
unfolding Plain
word_plain (is_name (name c w d i a) k) = (ident_plain c i, are_plain is_ident ident_plain w a)
word_plain (is_number (number c w d a)) = (digit_plain c d, are_plain is_digit digit_plain w a)

token_plain : (t : Token) → SpelledToken t → PlainToken t
unfolding SpelledToken PlainToken
token_plain (word w) h = word_plain h
token_plain (sign c) h = sign_plain c h
token_plain (operator op) (one a h) = operator_plain (a ∷ []) h
token_plain (operator op) (two a c h) = operator_plain (a ∷ c ∷ []) h
token_plain opener h = tt
token_plain closer h = tt

pub all_plain : (ts : List Token) → AllSpelled ts → AllPlain ts
unfolding AllSpelled AllPlain
all_plain [] h = tt
all_plain (t ∷ ts) h = (token_plain t h.0, all_plain ts h.1)

-- ---- and are ASCII

within_low : (lo hi c : ℕ) → hi < 128 → within lo hi c ≡ true → c < 128
within_low lo hi c k h = let m = leb-true c hi (and_right (leb lo c) (leb c hi) h) in omega arith

is_low : (k c : ℕ) → k < 128 → eqb c k ≡ true → c < 128
is_low k c h e = let m = eqb-true c k e in omega arith

pub digit_low : (c : ℕ) → is_digit c ≡ true → c < 128
digit_low c h = within_low 48 57 c (lit< tt) h

pub ident_low : (c : ℕ) → is_ident c ≡ true → c < 128
unfolding is_ident
ident_low c h =
    or_cases (within 48 57 c || within 65 90 c || within 97 122 c) (is "_" c)
    (λ h. or_cases (within 48 57 c || within 65 90 c) (within 97 122 c)
    (λ h. or_cases (within 48 57 c) (within 65 90 c) (within_low 48 57 c (lit< tt)) (within_low 65 90 c (lit< tt)) h) (within_low 97 122 c (lit< tt)) h)
    (is_low 95 c (lit< tt)) h

pub sign_low : (c : ℕ) → is_sign c ≡ true → c < 128
unfolding is_sign
sign_low c h = or_cases (is "+" c) (is "-" c) (is_low 43 c (lit< tt)) (is_low 45 c (lit< tt)) h

are_ascii : (p : ℕ → Bool) → ((c : ℕ) → p c ≡ true → c < 128) → (w : List ℕ) → AllAre p w → Ascii w
unfolding AllAre
are_ascii p f [] h = tt
are_ascii p f (c ∷ w) h = (f c h.0, are_ascii p f w h.1)

pub word_ascii : {w : List ℕ} → IsWord w → Ascii w
word_ascii (is_name (name c w d i a) k) = (ident_low c i, are_ascii is_ident ident_low w a)
word_ascii (is_number (number c w d a)) = (digit_low c d, are_ascii is_digit digit_low w a)

-- the operators: a test that is computed for each
unfoldable pub low_bytes : List ℕ → Bool
low_bytes [] = true
low_bytes (b ∷ bs) = ltb b 128 && low_bytes bs

low_bytes_law : (w : List ℕ) → low_bytes w ≡ true → Ascii w
unfolding low_bytes
low_bytes_law [] h = tt
low_bytes_law (b ∷ w) h = (ltb-true b 128 (and_left (ltb b 128) (low_bytes w) h), low_bytes_law w (and_right (ltb b 128) (low_bytes w) h))

pub one_low : (ops : List (List ℕ)) (op : List ℕ) → all_of low_bytes ops ≡ true → one_of ops op ≡ true → Ascii op
one_low ops op h k = low_bytes_law op (found low_bytes ops op h k)

pub operators_low : all_of low_bytes operators ≡ true
unfolding all_of low_bytes
operators_low = refl

pub operator_ascii : (op : List ℕ) → one_of operators op ≡ true → Ascii op
operator_ascii op h = one_low operators op operators_low h

-- Lists of code points: quoted texts, tests, prefixes, pieces. No rule of the formatter is here.
use Rattle.std.specs.Prelude.{ℕ, suc, ◌+◌, Bool, true, false, ◌&&◌, ◌||◌, List, [], ◌∷◌, eqb, length, drop}
use Prim.Native.Char.{Char, code}
use Prim.Native.String.{String}
use Prim.Native.String as S
use Rattle.utf8.specs.Unicode.{within}

-- the code points of a quoted text
abbrev pub codes : String → List ℕ
codes = elim [ S.[] ↦ [] | S.◌∷◌ c (s → r) ↦ code c ∷ r ]

-- the first where the test passes, else the second: `cond`, but shut, so that a proof goes by cases on it without
-- naming the test
unfoldable pub choose {ℓ} : {A : Type ℓ} → Bool → A → A → A
choose true x y = x
choose false x y = y

-- c is the character k
abbrev pub is : Char → ℕ → Bool
is k c = eqb c (code k)

-- a space or a tab; brackets; is_ident: an ASCII letter, digit or underscore
abbrev pub is_blank : ℕ → Bool
is_blank c = is " " c || is "\t" c

abbrev pub is_opener : ℕ → Bool
is_opener c = is "{" c || is "(" c || is "[" c

abbrev pub is_closer : ℕ → Bool
is_closer c = is "}" c || is ")" c || is "]" c

unfoldable pub is_ident : ℕ → Bool
is_ident c = within 48 57 c || within 65 90 c || within 97 122 c || is "_" c

-- a text of no characters
abbrev pub is_empty {ℓ} : {A : Type ℓ} → List A → Bool
is_empty [] = true
is_empty (x ∷ xs) = false

unfoldable pub same : List ℕ → List ℕ → Bool
same [] [] = true
same [] (y ∷ ys) = false
same (x ∷ xs) [] = false
same (x ∷ xs) (y ∷ ys) = eqb x y && same xs ys

unfoldable pub one_of : List (List ℕ) → List ℕ → Bool
one_of [] w = false
one_of (v ∷ vs) w = same v w || one_of vs w

unfoldable pub starts_with : List ℕ → List ℕ → Bool
starts_with l [] = true
starts_with [] (w ∷ ws) = false
starts_with (c ∷ cs) (w ∷ ws) = eqb c w && starts_with cs ws

-- the Rust's `at`, of the text from a place on
abbrev pub at : List ℕ → String → Bool
at l w = starts_with l (codes w)

-- the first character, or the last, passes the test; false for an empty text
unfoldable pub first_is : (ℕ → Bool) → List ℕ → Bool
first_is p [] = false
first_is p (c ∷ cs) = p c

unfoldable pub last_is : (ℕ → Bool) → List ℕ → Bool
last_is p [] = false
last_is p (c ∷ []) = p c
last_is p (c ∷ d ∷ ds) = last_is p (d ∷ ds)

-- how many of the first characters pass the test
unfoldable pub leading : (ℕ → Bool) → List ℕ → ℕ
leading p [] = 0
leading p (c ∷ cs) = let r = suc (leading p cs) in choose (p c) r 0

-- l starts with w, and the first character after it passes the test, or nothing follows and `end` says yes
unfoldable pub starts_then : List ℕ → (ℕ → Bool) → Bool → List ℕ → Bool
starts_then w p end l = starts_with l w && (first_is p (drop (length w) l) || (is_empty (drop (length w) l) && end))

abbrev pub cons_if : Bool → ℕ → List ℕ → List ℕ
cons_if true c l = c ∷ l
cons_if false c l = l

-- the characters that pass the test; and how many they are
unfoldable pub keep : (ℕ → Bool) → List ℕ → List ℕ
keep p [] = []
keep p (c ∷ cs) = cons_if (p c) c (keep p cs)

unfoldable pub count : (ℕ → Bool) → List ℕ → ℕ
count p [] = 0
count p (c ∷ cs) = choose (p c) 1 0 + count p cs

-- A text cut in pieces: there is always a first.
pub record Pieces : Type 0 where
  pub first : List ℕ
  pub rest : List (List ℕ)

-- cut at every character `sep`, which belongs to no piece
unfoldable pub at_sep : Bool → ℕ → Pieces → Pieces
at_sep true c p = record { first = []; rest = p.first ∷ p.rest }
at_sep false c p = record { first = c ∷ p.first; rest = p.rest }

unfoldable pub split_on : Char → List ℕ → Pieces
split_on sep [] = record { first = []; rest = [] }
split_on sep (c ∷ cs) = at_sep (is sep c) c (split_on sep cs)

abbrev pub pieces : Pieces → List (List ℕ)
pieces p = p.first ∷ p.rest

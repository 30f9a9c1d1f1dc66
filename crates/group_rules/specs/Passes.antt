-- How the code finds the text: the tokens as codes; a pass from the last code to the first that puts `(` where
-- operations start; a pass from the first to the last that puts `)` where they end. proofs/PassLaws.antt: together they
-- write the tree.
use Rattle.std.specs.Prelude.{ℕ, ◌+◌, ◌-◌, Bool, ◌&&◌, eqb, leb, ltb, drop}
use mathlib.Core.List.{List, [], ◌∷◌, ◌++◌, foldl}
use Rattle.rules.specs.Basics.{choose}
use Rattle.group_rules.specs.Expression.{Token, word, sign, operator, opener, closer}
use Rattle.group_rules.specs.Grouping.{strength_of, takes}

-- an operator stands between its strength and its strength + 16; 14 and 15 are the source's brackets
abbrev pub codes_of : Token → List ℕ
codes_of (word w) = w
codes_of (sign c) = c ∷ []
codes_of (operator op) = strength_of op ∷ op ++ (strength_of op + 16) ∷ []
codes_of opener = 14 ∷ []
codes_of closer = 15 ∷ []

unfoldable pub coded : List Token → List ℕ
coded [] = []
coded (t ∷ ts) = codes_of t ++ coded ts

-- a text, and the strengths of the operators whose operand on this side still goes on, the nearest first, 0 for a
-- bracket
pub record Pass : Type 0 where
  pub text : List ℕ
  pub spine : List ℕ

abbrev pub pass : List ℕ → List ℕ → Pass
pass t s = record { text = t; spine = s }

-- ---- from the last code to the first

-- `(` for each operation that starts after an operator of strength s, or where s is 0 after a bracket or nothing
unfoldable pub opens_after : ℕ → List ℕ → List ℕ → Pass
opens_after s text [] = pass text []
opens_after s text (t ∷ spine) = let r = opens_after s (40 ∷ text) spine in choose (takes s t) r (pass text (t ∷ spine))

unfoldable pub open_bracket : Pass → Pass
open_bracket p = pass (14 ∷ p.text) (drop 1 p.spine)

unfoldable pub open_operator : ℕ → Pass → Pass
open_operator s p = pass (32 ∷ p.text) (s ∷ p.spine)

abbrev pub is_right_code : ℕ → Bool
is_right_code b = ltb 16 b && ltb b 32

unfoldable pub back_step : ℕ → Pass → Pass
back_step b p =
    choose (eqb b 14) (open_bracket (opens_after 0 p.text p.spine))
    (choose (eqb b 15) (pass (15 ∷ p.text) (0 ∷ p.spine))
    (choose (is_right_code b) (open_operator (b - 16) (opens_after (b - 16) p.text p.spine))
    (pass (b ∷ p.text) p.spine)))

unfoldable pub open_back : List ℕ → Pass
open_back [] = pass [] []
open_back (b ∷ bs) = back_step b (open_back bs)

unfoldable pub opened_text : List ℕ → List ℕ
opened_text codes = (opens_after 0 (open_back codes).text (open_back codes).spine).text

-- ---- from the first to the last

-- `)` for each operation that ends before an operator of strength s
unfoldable pub closes_before : ℕ → List ℕ → List ℕ → Pass
closes_before s text [] = pass text []
closes_before s text (t ∷ spine) =
    let r = closes_before s (text ++ 41 ∷ []) spine in choose (takes t s) (pass text (t ∷ spine)) r

-- before a closing bracket, or at the end
unfoldable pub close_end : List ℕ → List ℕ → Pass
close_end text [] = pass text []
close_end text (t ∷ spine) = let r = close_end (text ++ 41 ∷ []) spine in choose (eqb t 0) (pass text (t ∷ spine)) r

unfoldable pub close_bracket : Pass → Pass
close_bracket p = pass p.text (drop 1 p.spine)

unfoldable pub close_operator : ℕ → Pass → Pass
close_operator s p = pass (p.text ++ 32 ∷ []) (s ∷ p.spine)

unfoldable pub forth_step : Pass → ℕ → Pass
forth_step p b =
    choose (eqb b 15) (close_bracket (close_end p.text p.spine))
    (choose (eqb b 14) (pass p.text (0 ∷ p.spine))
    (choose (leb b 12) (close_operator b (closes_before b p.text p.spine))
    (pass (p.text ++ b ∷ []) p.spine)))

unfoldable pub close_forth : Pass → List ℕ → Pass
close_forth p bs = foldl forth_step p bs

unfoldable pub closed_text : List ℕ → List ℕ
closed_text bs = (close_end (close_forth (pass [] []) bs).text (close_forth (pass [] []) bs).spine).text

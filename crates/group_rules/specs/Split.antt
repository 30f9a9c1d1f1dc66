-- The operators outside the source's brackets, and those that split_once breaks at.
use Rattle.std.specs.Prelude.{ℕ, suc, ◌-◌, List, [], ◌∷◌, ◌++◌, reverse, ◌≡◌, eqb}
use Rattle.rules.specs.Basics.{choose, codes, is_blank}
use Rattle.rules.specs.Scan.{classify}
use Rattle.rules.specs.Operators.{strengths}
use Rattle.rules.specs.SplitOperation.{OpMark, op_mark, top_level_ops, loosest, break_at, split_once}
use Rattle.rules.specs.declared.Carry.{Carry}
use Rattle.group_rules.specs.Expression.{Token, word, sign, operator, opener, closer}
use Rattle.group_rules.specs.Grouping.{strength_of}

-- characters at which no operator starts
unfoldable pub plain_marks : List ℕ → List OpMark
plain_marks [] = []
plain_marks (c ∷ cs) = op_mark c 0 ∷ plain_marks cs

unfoldable pub operator_marks : ℕ → List ℕ → List OpMark
operator_marks s [] = []
operator_marks s (c ∷ cs) = op_mark c s ∷ plain_marks cs

-- a token's characters where d brackets are open: an operator outside brackets has its strength
abbrev pub token_marks : ℕ → Token → List OpMark
token_marks d (word w) = plain_marks w
token_marks d (sign c) = plain_marks (c ∷ [])
token_marks d (operator op) = operator_marks (choose (eqb d 0) (strength_of op) 0) op
token_marks d opener = plain_marks (codes "(")
token_marks d closer = plain_marks (codes ")")

abbrev pub depth_after : ℕ → Token → ℕ
depth_after d (word w) = d
depth_after d (sign c) = d
depth_after d (operator op) = d
depth_after d opener = suc d
depth_after d closer = d - 1

-- of tokens, newest first: the brackets that they leave open, and their characters
unfoldable pub depth_of : List Token → ℕ
depth_of [] = 0
depth_of (t ∷ ts) = depth_after (depth_of ts) t

unfoldable pub marks_back : List Token → List OpMark
marks_back [] = []
marks_back (t ∷ ts) = marks_back ts ++ token_marks (depth_of ts) t

abbrev pub marks_of : List Token → List OpMark
marks_of ts = marks_back (reverse ts)

-- the characters of a line but for its blanks
unfoldable pub inked : List OpMark → List OpMark
inked [] = []
inked (m ∷ ms) = let r = inked ms in choose (is_blank m.ch) r (m ∷ r)

-- split_once finds the operators outside the source's brackets, and breaks before those of the loosest strength among
-- them
pub record SplitsAlike (source : List ℕ) (ts : List Token) : Type 0 where
  pub operators : inked (top_level_ops strengths (classify Carry.Code source)) ≡ marks_of ts
  pub breaks : split_once strengths (classify Carry.Code source)
      ≡ break_at (loosest (marks_of ts)) (top_level_ops strengths (classify Carry.Code source))

-- C-21: an expression on one line, read character by character into its tokens, or refused at a place.
use Rattle.std.specs.Prelude.{ℕ, zero, suc, Bool, List, [], ◌∷◌, ◌++◌, map, reverse, leb, take}
use Rattle.utf8.specs.Unicode.{within}
use Rattle.rules.specs.Basics.{choose, is, one_of, is_blank, is_ident}
use Rattle.rules.specs.Operators.{operators}
use Rattle.rules.specs.SplitOperation.{is_sign, keywords}
use Rattle.group_rules.specs.declared.Fault.{Fault}

pub data Token : Type 0 where
  -- a name or a whole number
  word : List ℕ → Token
  sign : ℕ → Token
  operator : List ℕ → Token
  opener : Token
  closer : Token

-- What the characters so far leave: an operand is due; a name or a number that may go on; an operand has ended; an
-- operator's first character.
pub data Stage : Type 0 where
  due : Stage
  in_name : List ℕ → Stage
  in_number : List ℕ → Stage
  after : Stage
  in_operator : ℕ → Stage

-- the stage, how many brackets are open, and the tokens so far, newest first
pub record State : Type 0 where
  pub stage : Stage
  pub depth : ℕ
  pub tokens : List Token

abbrev pub state : Stage → ℕ → List Token → State
state m d ts = record { stage = m; depth = d; tokens = ts }

-- a character is read, or no expression can have it there (14), or it opens a bracket too deep (15)
pub data Step : Type 0 where
  next : State → Step
  refused : Fault → Step

abbrev pub fault_number : Fault → ℕ
fault_number Fault.NoExpression = 14
fault_number Fault.TooDeep = 15

-- how deep the source's brackets may stand
abbrev pub max_depth : ℕ
max_depth = 64

abbrev pub is_digit : ℕ → Bool
is_digit c = within 48 57 c

-- the first character of one of 01's operators
unfoldable pub starts_operator : ℕ → Bool
starts_operator c = one_of (map (take 1) operators) (c ∷ [])

unfoldable pub open_step : ℕ → ℕ → List Token → Step
open_step limit d ts = choose (leb limit d) (refused Fault.TooDeep) (next (state due (suc d) (opener ∷ ts)))

unfoldable pub close_step : ℕ → List Token → Step
close_step zero ts = refused Fault.NoExpression
close_step (suc d) ts = next (state after d (closer ∷ ts))

-- where an operand is due: blanks, signs, a bracket, the first character of a name or a number
unfoldable pub due_step : ℕ → ℕ → List Token → ℕ → Step
due_step limit d ts c =
    choose (is_blank c) (next (state due d ts))
    (choose (is_sign c) (next (state due d (sign c ∷ ts)))
    (choose (is "(" c) (open_step limit d ts)
    (choose (is_digit c) (next (state (in_number (c ∷ [])) d ts))
    (choose (is_ident c) (next (state (in_name (c ∷ [])) d ts))
    (refused Fault.NoExpression)))))

-- where an operand has ended: blanks, a closing bracket, an operator
unfoldable pub after_step : ℕ → List Token → ℕ → Step
after_step d ts c =
    choose (is_blank c) (next (state after d ts))
    (choose (is ")" c) (close_step d ts)
    (choose (starts_operator c) (next (state (in_operator c) d ts))
    (refused Fault.NoExpression)))

-- A name ends where no letter, digit or underscore follows, and is none of 01's five words. An operator is as long as
-- it can be.
unfoldable pub stage_step : ℕ → Stage → ℕ → List Token → ℕ → Step
stage_step limit due d ts c = due_step limit d ts c
stage_step limit (in_name w) d ts c =
    choose (is_ident c) (next (state (in_name (w ++ c ∷ [])) d ts))
    (choose (one_of keywords w) (refused Fault.NoExpression)
    (after_step d (word w ∷ ts) c))
stage_step limit (in_number w) d ts c =
    choose (is_digit c) (next (state (in_number (w ++ c ∷ [])) d ts))
    (after_step d (word w ∷ ts) c)
stage_step limit after d ts c = after_step d ts c
stage_step limit (in_operator a) d ts c =
    choose (one_of operators (a ∷ c ∷ [])) (next (state due d (operator (a ∷ c ∷ []) ∷ ts)))
    (choose (one_of operators (a ∷ [])) (due_step limit d (operator (a ∷ []) ∷ ts) c)
    (refused Fault.NoExpression))

abbrev pub step : ℕ → State → ℕ → Step
step limit s c = stage_step limit s.stage s.depth s.tokens c

-- the tokens of a whole expression, or what is wrong and its place
pub data Reading : Type 0 where
  read : List Token → Reading
  refused_at : Fault → ℕ → Reading

-- nothing may follow where an operand has ended and no bracket is open; elsewhere the source ends early
unfoldable pub ended : ℕ → ℕ → List Token → Reading
ended i zero ts = read (reverse ts)
ended i (suc d) ts = refused_at Fault.NoExpression i

unfoldable pub ending : ℕ → Stage → ℕ → List Token → Reading
ending i due d ts = refused_at Fault.NoExpression i
ending i (in_name w) d ts = choose (one_of keywords w) (refused_at Fault.NoExpression i) (ended i d (word w ∷ ts))
ending i (in_number w) d ts = ended i d (word w ∷ ts)
ending i after d ts = ended i d ts
ending i (in_operator a) d ts = refused_at Fault.NoExpression i

unfoldable pub on_step : ℕ → Step → (State → Reading) → Reading
on_step i (next s) go = go s
on_step i (refused f) go = refused_at f i

-- i characters stand before
unfoldable pub read_from : ℕ → ℕ → State → List ℕ → Reading
read_from limit i s [] = ending i s.stage s.depth s.tokens
read_from limit i s (c ∷ cs) = on_step i (step limit s c) (λ (t : State). read_from limit (suc i) t cs)

-- a text whose brackets may stand so deep
unfoldable pub reading_to : ℕ → List ℕ → Reading
reading_to limit text = read_from limit 0 (state due 0 []) text

abbrev pub reading : List ℕ → Reading
reading source = reading_to max_depth source

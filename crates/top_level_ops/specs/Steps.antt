-- The state and the step of top_level_ops as the code holds them.
use Rattle.std.specs.Prelude.{ℕ, zero, suc, ◌<◌, ◌≤◌, ◌^◌, Bool, true, false, not, ◌&&◌, ◌||◌, List, ◌≡◌, eqb, length, take, drop, get_or, Option, Some, None}
use Rattle.utf8.specs.Unicode.{tail}
use Rattle.rules.specs.Basics.{choose, is, at, first_is, is_blank, is_opener, is_closer}
use Rattle.rules.specs.Scan.{Cell, is_str}
use Rattle.rules.specs.SplitOperation.{Ops, OpStep, ends_operand, token, escape, bracket, atom_char, atom_len, starts_pair}
use Rattle.rules.specs.SplitOperation.{two_char_step, one_char_step}
use Rattle.operators.specs.Places.{place_of}
use Rattle.operators.specs.declared.Operator.{Operator}
use Rattle.top_level_ops.specs.declared.OpState.{OpState}
use Rattle.top_level_ops.specs.declared.Token.{Token}

abbrev pub ops_of : OpState → Ops
ops_of s = record { opened = s.opened; closed = s.closed; operand = s.operand; esc = s.esc; skip = s.skip }

-- the strength of the operator that starts at a byte, 0 for none; and the state after the byte
pub record OpFound : Type 0 where
  pub strength : ℕ
  pub after : OpState

abbrev pub found_as : ℕ → OpState → OpStep
found_as strength after = record { strength = strength; after = ops_of after }

abbrev pub step_of : OpFound → OpStep
step_of r = record { strength = r.strength; after = ops_of r.after }

-- ---- a token of code

pub record AtomLen (s : List ℕ) (r : ℕ) : Type 0 where
  pub is : r ≡ atom_len s
  pub fits : r ≤ length s

-- the atom's name after the first character of l, where that is a `:` and no operand ends before it; else r is 0
pub record AtomAt (operand : Bool) (l : List ℕ) (r : ℕ) : Type 0 where
  pub is : r ≡ choose (is ":" (get_or l 0 0) && not operand) (atom_len (drop 1 l)) 0
  pub fits : r < length l

-- the length of that name, if it has a character
abbrev pub AtomFound : Bool → List ℕ → Option ℕ → Type 0
AtomFound operand l None = AtomAt operand l 0
AtomFound operand l (Some n) = (0 < n) × AtomAt operand l n

-- the byte at i is none of an atom's name
abbrev pub atom_ends_at : List ℕ → ℕ → Bool
atom_ends_at s i = not (atom_char (get_or s i 0))

-- the tests of `code_step` that follow those of brackets
unfoldable pub sign_step : List ℕ → Ops → List ℕ → OpStep
sign_step table s l =
    choose (at l "...") (token s false 2)
    (choose (at l "->" || at l "=>") (token s false 1)
    (choose (starts_pair l) (two_char_step table s (take 2 l) (drop 2 l))
    (one_char_step table s (get_or l 0 0) (drop 1 l))))

-- the tests of `code_step` but for blanks and brackets
unfoldable pub token_step : List ℕ → Ops → List ℕ → OpStep
token_step table s l =
    choose (is ":" (get_or l 0 0) && not s.operand && not (eqb (atom_len (drop 1 l)) 0))
    (token s (ends_operand (get_or l (atom_len (drop 1 l)) 0)) (atom_len (drop 1 l)))
    (sign_step table s l)

-- b stands second in an operator, a `...`, an arrow or an assignment
abbrev pub goes_on : ℕ → Bool
goes_on b = is "|" b || is "^" b || is "&" b || is "=" b || is "<" b || is ">" b || is "." b || is "*" b

-- where r is false, the token at the head of l has one character, and assigns nothing
pub record LongToken (l : List ℕ) (r : Bool) : Type 0 where
  pub short : r ≡ false → (table : List ℕ) (s : Ops)
      → token_step table s l ≡ one_char_step table s (get_or l 0 0) (drop 1 l)
  pub alone : r ≡ false → first_is (is "=") (drop 1 l) ≡ false

-- the strength that a table gives an operator, 0 for none
abbrev pub strength_in : List ℕ → Option Operator → ℕ
strength_in table None = 0
strength_in table (Some o) = get_or table (place_of o) 0

-- the step that a token says in the state s: its strength counts outside brackets
abbrev pub step_with : List ℕ → Ops → Token → OpStep
step_with table s t =
    record {
      strength = choose (eqb s.opened s.closed) (strength_in table t.operator) 0;
      after = record { opened = s.opened; closed = s.closed; operand = t.operand; esc = false; skip = t.skip };
    }

-- ---- a byte, where t is the step of the token that may start there

-- t if the code gives no state, else no operator and the state r
abbrev pub step_or : OpStep → Option OpState → OpStep
step_or t None = t
step_or t (Some r) = record { strength = 0; after = ops_of r }

-- the state after a byte that is no bracket
abbrev pub passed : OpState → Bool → Bool → ℕ → OpState
passed s operand esc skip =
    record { opened = s.opened; closed = s.closed; operand = operand; esc = esc; skip = skip }

-- none if a token may start, else the state
abbrev pub unless : Bool → OpState → Option OpState
unless true s = None
unless false s = Some s

unfoldable pub code_or : OpStep → Ops → ℕ → OpStep
code_or t s c =
    choose (is_blank c) (token s s.operand 0)
    (choose (is_opener c) (bracket (suc s.opened) s.closed false)
    (choose (is_closer c) (bracket s.opened (suc s.closed) (ends_operand c))
    t))

unfoldable pub fresh_or : OpStep → Ops → Cell → OpStep
fresh_or t s x =
    choose (is_str x.class)
    (record {
      strength = 0;
      after = record { opened = s.opened; closed = s.closed; operand = true; esc = s.esc; skip = 0 };
    })
    (choose s.esc (escape s false)
    (choose (is "\\" x.ch) (escape s true)
    (code_or t s x.ch)))

unfoldable pub skip_or : ℕ → OpStep → Ops → Cell → OpStep
skip_or zero t s x = fresh_or t s x
skip_or (suc n) t s x = token s s.operand n

unfoldable pub byte_or : OpStep → Ops → Cell → OpStep
byte_or t s x = choose (tail x.ch) (record { strength = 0; after = s }) (skip_or s.skip t s x)

pub record FewBrackets (s : OpState) : Type 0 where
  pub opened : s.opened < 2 ^ 32
  pub closed : s.closed < 2 ^ 32

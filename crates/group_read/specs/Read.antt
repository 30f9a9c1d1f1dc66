-- The reader as the code holds it: the tokens are codes in the scratch, the word and the operator's first character
-- stand in the source.
use Rattle.std.specs.Prelude.{ℕ, suc, ◌+◌, ◌*◌, ◌≤◌, ◌<◌, ◌^◌, List, [], ◌++◌, reverse, ◌≡◌, length, take, get_or, Result, Ok, Err}
use Rattle.buffer.specs.Buffer.{part}
use Rattle.group_rules.specs.Expression.{max_depth, Token, Stage, due, in_name, in_number, after, in_operator, State, state}
use Rattle.group_rules.specs.Expression.{Step, next, refused, due_step, after_step, stage_step, Reading, read, refused_at}
use Rattle.group_rules.specs.Expression.{ending, reading}
use Rattle.group_rules.specs.Passes.{coded}
use Rattle.group_read.specs.declared.Phase.{Phase}
use Rattle.group_read.specs.declared.Phase.TheVariants.{Due, Name, Number, After, Operator}
use Rattle.group_read.specs.declared.Reader.{Reader}
use Rattle.group_rules.specs.declared.Fault.{Fault}
use Rattle.group_rules.specs.declared.NoText.{NoText}

-- what a character leaves: the reader after it, or what is wrong
abbrev pub Next : Type 0
Next = Result Reader Fault

-- how many codes a source has, or why it has none
abbrev pub Coded : Type 0
Coded = Result ℕ NoText

abbrev pub onward : Phase → ℕ → ℕ → ℕ → Next
onward p d s a = Ok (record { phase = p; depth = d; start = s; at = a })

-- the stage that a phase means before the character at i; start is where the word or the operator starts
abbrev pub stage_of : List ℕ → ℕ → Phase → ℕ → Stage
stage_of source i Due start = due
stage_of source i Name start = in_name (part source start i)
stage_of source i Number start = in_number (part source start i)
stage_of source i After start = after
stage_of source i Operator start = in_operator (get_or source start 0)

abbrev pub state_of : List ℕ → ℕ → Reader → List Token → State
state_of source i r ts = state (stage_of source i r.phase r.start) r.depth ts

-- the word that is not a token yet
abbrev pub word_of : Stage → List ℕ
word_of due = []
word_of (in_name w) = w
word_of (in_number w) = w
word_of after = []
word_of (in_operator a) = []

-- what a phase may have written: 3 codes for each character, but none yet for an operator's first
abbrev pub room_of : Phase → ℕ → ℕ → Type 0
room_of Due at i = at ≤ 3 * i
room_of Name at i = at ≤ 3 * i
room_of Number at i = at ≤ 3 * i
room_of After at i = at ≤ 3 * i
room_of Operator at i = at + 3 ≤ 3 * i

-- before the character at i: the codes of the tokens ts, newest first, and of the word stand in l
pub record Holds (source l : List ℕ) (i : ℕ) (r : Reader) (ts : List Token) : Type 0 where
  pub codes : take r.at l ≡ coded (reverse ts) ++ word_of (stage_of source i r.phase r.start)
  pub room : room_of r.phase r.at i
  pub started : r.start ≤ i
  pub shallow : r.depth ≤ 64
  pub fits : 3 * length source ≤ length l

-- after a character: the reader goes on, or the character is refused
pub record Went (source l : List ℕ) (i : ℕ) (st : Step) (r : Reader) : Type 0 where
  pub tokens : List Token
  pub is : st ≡ next (state_of source i r tokens)
  pub holds : Holds source l i r tokens

pub record StepIs (source l : List ℕ) (i : ℕ) (st : Step) (q : Next) : Type 0 where
  pub goes : (r : Reader) → q ≡ Ok r → Went source l i st r
  pub stops : (f : Fault) → q ≡ Err f → st ≡ refused f

-- the character at i, whatever the tokens are
pub record Steps (source l l' : List ℕ) (i : ℕ) (r : Reader) (q : Next) : Type 0 where
  pub is : (ts : List Token) → Holds source l i r ts
      → StepIs source l' (suc i)
      (stage_step max_depth (stage_of source i r.phase r.start) r.depth ts (get_or source i 0)) q
  pub size : length l' ≡ length l

pub record ReaderRoom (source l : List ℕ) (i : ℕ) (r : Reader) : Type 0 where
  pub inside : i < length source
  pub started : r.start ≤ i
  pub fits : 3 * length source ≤ length l
  pub room : room_of r.phase r.at i
  pub shallow : r.depth ≤ 64
  pub small : length source < 2 ^ 60

-- ---- where an operand is due

pub record DueRoom (l : List ℕ) (i depth at : ℕ) : Type 0 where
  pub fits : at < length l
  pub shallow : depth ≤ 64
  pub small : i < 2 ^ 60

pub record DueSteps (l l' : List ℕ) (i c depth at : ℕ) (q : Next) : Type 0 where
  pub is : (source : List ℕ) (ts : List Token) → c ≡ get_or source i 0 → i < length source → 3 * length source ≤ length l
      → at ≤ 3 * i + 2 → take at l ≡ coded (reverse ts) → StepIs source l' (suc i) (due_step max_depth depth ts c) q
  pub size : length l' ≡ length l

-- ---- where an operand has ended: start is the operator's place

pub record AfterSteps (l l' : List ℕ) (i c depth at : ℕ) (q : Next) : Type 0 where
  pub is : (source : List ℕ) (ts : List Token) → c ≡ get_or source i 0 → i < length source → 3 * length source ≤ length l
      → at ≤ 3 * i → take at l ≡ coded (reverse ts) → StepIs source l' (suc i) (after_step depth ts c) q
  pub size : length l' ≡ length l

-- ---- in a word: the character at i of a source that is long enough

pub record ByteRoom (source l : List ℕ) (start i depth at : ℕ) : Type 0 where
  pub inside : i < length source
  pub started : start ≤ i
  pub fits : 3 * length source ≤ length l
  pub written : at ≤ 3 * i
  pub shallow : depth ≤ 64
  pub small : length source < 2 ^ 60

pub record WordSteps (source l l' : List ℕ) (start i at : ℕ) (step : List Token → Step) (q : Next) : Type 0 where
  pub is : (ts : List Token) → take at l ≡ coded (reverse ts) ++ part source start i
      → StepIs source l' (suc i) (step ts) q
  pub size : length l' ≡ length l

abbrev pub name_step : List ℕ → ℕ → ℕ → ℕ → List Token → Step
name_step source start i depth ts = stage_step max_depth (in_name (part source start i)) depth ts (get_or source i 0)

abbrev pub number_step : List ℕ → ℕ → ℕ → ℕ → List Token → Step
number_step source start i depth ts = stage_step max_depth (in_number (part source start i)) depth ts (get_or source i 0)

-- ---- after an operator's first character

-- the codes stand from at on, and r is the place after them
pub record Written (l l' : List ℕ) (at : ℕ) (codes : List ℕ) (r : ℕ) : Type 0 where
  pub place : r ≡ at + length codes
  pub is : take r l' ≡ take at l ++ codes
  pub size : length l' ≡ length l

pub record OperatorRoom (l : List ℕ) (i depth at : ℕ) : Type 0 where
  pub fits : at + 4 ≤ length l
  pub shallow : depth ≤ 64
  pub small : i < 2 ^ 60

pub record OperatorSteps (l l' : List ℕ) (i a c depth at : ℕ) (q : Next) : Type 0 where
  pub is : (source : List ℕ) (ts : List Token) → c ≡ get_or source i 0 → i < length source → 3 * length source ≤ length l
      → at + 3 ≤ 3 * i → take at l ≡ coded (reverse ts)
      → StepIs source l' (suc i) (stage_step max_depth (in_operator a) depth ts c) q
  pub size : length l' ≡ length l

-- ---- the whole source

-- what is read of a source of n characters: the tokens' codes stand in l, or there is a refusal
pub record Codes (l : List ℕ) (g : Reading) (n length : ℕ) : Type 0 where
  pub tokens : List Token
  pub is : g ≡ read tokens
  pub codes : take length l ≡ coded tokens
  pub short : length ≤ 3 * n

pub record CodedIs (l : List ℕ) (g : Reading) (n : ℕ) (q : Coded) : Type 0 where
  pub yes : (m : ℕ) → q ≡ Ok m → Codes l g n m
  pub no : (w : NoText) → q ≡ Err w → g ≡ refused_at w.fault w.place

pub record EndAs (source : List ℕ) (r : Reader) (q : Coded) : Type 0 where
  pub is : (l : List ℕ) (ts : List Token) → Holds source l (length source) r ts
      → CodedIs l (ending (length source) (stage_of source (length source) r.phase r.start) r.depth ts)
      (length source) q

pub record SourceFits (source l : List ℕ) : Type 0 where
  pub fits : 3 * length source ≤ length l
  pub small : length source < 2 ^ 60

pub record CodedAs (source l l' : List ℕ) (q : Coded) : Type 0 where
  pub is : CodedIs l' (reading source) (length source) q
  pub size : length l' ≡ length l

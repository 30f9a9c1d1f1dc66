-- How an accepted source is laid out: its tokens one after another, with blanks between, and what may stand after each.
use Prim.Native.Nat.{ℕ, zero, suc}
use mathlib.Core.Bool.{Bool, true, false, not}
use mathlib.Core.List.{List, [], ◌∷◌, ◌++◌, reverse}
use mathlib.Core.Path.{◌≡◌, refl}
use native.Mathlib.Omega.{arith}
use lib.Dec.{eqb}
use Rattle.rules.specs.Basics.{one_of, is_blank, is_ident}
use Rattle.rules.specs.Operators.{operators}
use Rattle.rules.specs.SplitOperation.{is_sign, keywords}
use Rattle.rules.proofs.Choose.{choose_case}
use Rattle.group_rules.specs.declared.Fault.{Fault}
use Rattle.group_rules.specs.Expression.{Token, word, sign, operator, opener, closer, Stage, due, in_name, in_number, after, in_operator, State, state, Step, next, refused, is_digit, open_step, close_step, due_step, after_step, stage_step, read, refused_at, ended, ending, on_step, read_from, reading_to}
use Rattle.group_rules.proofs.TableLaws.{unlike, all_of, found}
use Rattle.group_rules.proofs.SpelledLaws.{digit_ident, AllAre, name, NumberSoFar, number, SpelledStage, name_more, number_more}

-- a character that makes no other token of what stands before it
pub record CalmChar (x : ℕ) : Type 0 where
  pub equals : eqb x 61 ≡ false
  pub greater : eqb x 62 ≡ false
  pub dot : eqb x 46 ≡ false
  pub slash : eqb x 47 ≡ false
  pub star : eqb x 42 ≡ false

abbrev pub Calm : List ℕ → Type 0
Calm [] = Unit {0}
Calm (x ∷ cs) = CalmChar x

-- from a stage, d brackets open, with the tokens ts, newest first, the characters cs give all tokens
pub data Laid (all : List Token) : Stage → ℕ → List Token → List ℕ → Type 0 where
  ends : {ts : List Token} → all ≡ reverse ts → Laid all after 0 ts []
  blank_due : {d c : ℕ} {ts : List Token} {cs : List ℕ} → is_blank c ≡ true → Laid all due d ts cs → Laid all due d ts (c ∷ cs)
  sign_due : {d c : ℕ} {ts : List Token} {cs : List ℕ} → is_sign c ≡ true → Calm cs → Laid all due d (sign c ∷ ts) cs → Laid all due d ts (c ∷ cs)
  open_due : {d c : ℕ} {ts : List Token} {cs : List ℕ} → eqb c 40 ≡ true → Laid all due (suc d) (opener ∷ ts) cs → Laid all due d ts (c ∷ cs)
  number_due : {d c : ℕ} {ts : List Token} {cs : List ℕ} → is_ident c ≡ true → Laid all (in_number (c ∷ [])) d ts cs → Laid all due d ts (c ∷ cs)
  name_due : {d c : ℕ} {ts : List Token} {cs : List ℕ} → is_ident c ≡ true → Laid all (in_name (c ∷ [])) d ts cs → Laid all due d ts (c ∷ cs)
  more_number : {d c : ℕ} {w : List ℕ} {ts : List Token} {cs : List ℕ} → is_ident c ≡ true → Laid all (in_number (w ++ c ∷ [])) d ts cs → Laid all (in_number w) d ts (c ∷ cs)
  more_name : {d c : ℕ} {w : List ℕ} {ts : List Token} {cs : List ℕ} → is_ident c ≡ true → Laid all (in_name (w ++ c ∷ [])) d ts cs → Laid all (in_name w) d ts (c ∷ cs)
  end_number : {d : ℕ} {w : List ℕ} {ts : List Token} {cs : List ℕ} → one_of keywords w ≡ false → Laid all after d (word w ∷ ts) cs → Laid all (in_number w) d ts cs
  end_name : {d : ℕ} {w : List ℕ} {ts : List Token} {cs : List ℕ} → one_of keywords w ≡ false → Laid all after d (word w ∷ ts) cs → Laid all (in_name w) d ts cs
  blank_after : {d c : ℕ} {ts : List Token} {cs : List ℕ} → is_blank c ≡ true → Laid all after d ts cs → Laid all after d ts (c ∷ cs)
  close_after : {d c : ℕ} {ts : List Token} {cs : List ℕ} → eqb c 41 ≡ true → Laid all after d (closer ∷ ts) cs → Laid all after (suc d) ts (c ∷ cs)
  operator_one : {d a c : ℕ} {ts : List Token} {cs : List ℕ} → one_of operators (a ∷ c ∷ []) ≡ false → one_of operators (a ∷ []) ≡ true → CalmChar c
      → Laid all due d (operator (a ∷ []) ∷ ts) (c ∷ cs) → Laid all after d ts (a ∷ c ∷ cs)
  operator_two : {d a c : ℕ} {ts : List Token} {cs : List ℕ} → one_of operators (a ∷ c ∷ []) ≡ true → Calm cs
      → Laid all due d (operator (a ∷ c ∷ []) ∷ ts) cs → Laid all after d ts (a ∷ c ∷ cs)

-- an operator's first character is read with what follows it
abbrev LaidAt : List Token → Stage → ℕ → List Token → List ℕ → Type 0
LaidAt all due d ts cs = Laid all due d ts cs
LaidAt all (in_name w) d ts cs = Laid all (in_name w) d ts cs
LaidAt all (in_number w) d ts cs = Laid all (in_number w) d ts cs
LaidAt all after d ts cs = Laid all after d ts cs
LaidAt all (in_operator a) d ts cs = Laid all after d ts (a ∷ cs)

-- ---- characters

calm_of : (p : ℕ → Bool) (x : ℕ) → p x ≡ true → p 61 ≡ false → p 62 ≡ false → p 46 ≡ false → p 47 ≡ false → p 42 ≡ false → CalmChar x
calm_of p x h a b c d e = record { equals = unlike p x 61 h a; greater = unlike p x 62 h b; dot = unlike p x 46 h c; slash = unlike p x 47 h d; star = unlike p x 42 h e }

calm_blank : (x : ℕ) → is_blank x ≡ true → CalmChar x
calm_blank x h = calm_of is_blank x h refl refl refl refl refl

calm_sign : (x : ℕ) → is_sign x ≡ true → CalmChar x
unfolding is_sign
calm_sign x h = calm_of is_sign x h refl refl refl refl refl

calm_open : (x : ℕ) → eqb x 40 ≡ true → CalmChar x
calm_open x h = calm_of (λ c. eqb c 40) x h refl refl refl refl refl

calm_ident : (x : ℕ) → is_ident x ≡ true → CalmChar x
unfolding is_ident
calm_ident x h = calm_of is_ident x h refl refl refl refl refl

-- no keyword starts with a digit
no_digit : List ℕ → Bool
no_digit [] = true
no_digit (c ∷ cs) = not (is_digit c)

number_free : {w : List ℕ} → NumberSoFar w → one_of keywords w ≡ false
number_free (number c w h a) = go (one_of keywords (c ∷ w)) refl
  where
    clash : not (is_digit c) ≡ true → ⊥
    clash k = let z : ◌≡◌ {A = ℕ} 0 1 = cc in omega arith

    go : (b : Bool) → one_of keywords (c ∷ w) ≡ b → b ≡ false
    go true e = absurd (clash (unfold no_digit in found no_digit keywords (c ∷ w) (unfold all_of no_digit in refl) e))
    go false e = refl

-- ---- a reading that is accepted

never : {X : Type 0} (n : Fault) (p : ℕ) (all : List Token) → refused_at n p ≡ read all → X
never n p all e = absurd (let z : ◌≡◌ {A = ℕ} 0 1 = cc in omega arith)

module _ (limit i c : ℕ) (cs : List ℕ) (all : List Token) where
  abbrev Gives : Type 0 → Step → Type 0
  Gives X st = on_step i st (λ (t : State). read_from limit (suc i) t cs) ≡ read all → X

  refused_gives : (X : Type 0) (n : Fault) → Gives X (refused n)
  unfolding on_step
  refused_gives X n e = never n i all e

  open_gives : (X : Type 0) (d : ℕ) (ts : List Token) → Gives X (next (state due (suc d) (opener ∷ ts))) → Gives X (open_step limit d ts)
  unfolding open_step
  open_gives X d ts f = choose_case (Gives X) (λ _. refused_gives X Fault.TooDeep) (λ _. f)

  due_calm : (d : ℕ) (ts : List Token) → Gives (CalmChar c) (due_step limit d ts c)
  unfolding due_step
  due_calm d ts =
      choose_case (Gives (CalmChar c)) (λ h e. calm_blank c h)
      (λ _. choose_case (Gives (CalmChar c)) (λ h e. calm_sign c h)
      (λ _. choose_case (Gives (CalmChar c)) (λ h e. calm_open c h)
      (λ _. choose_case (Gives (CalmChar c)) (λ h e. calm_ident c (digit_ident c h))
      (λ _. choose_case (Gives (CalmChar c)) (λ h e. calm_ident c h)
      (λ _. refused_gives (CalmChar c) Fault.NoExpression)))))

calm : (limit i d : ℕ) (ts : List Token) (cs : List ℕ) (all : List Token) → read_from limit i (state due d ts) cs ≡ read all → Calm cs
unfolding read_from stage_step
calm limit i d ts [] all e = tt
calm limit i d ts (x ∷ cs) all e = due_calm limit i x cs all d ts e

module _ (limit i c : ℕ) (cs : List ℕ) (all : List Token)
    (ih : (m : Stage) (d : ℕ) (ts : List Token) → SpelledStage m → read_from limit (suc i) (state m d ts) cs ≡ read all → LaidAt all m d ts cs) where
  abbrev Go : Type 0 → Step → Type 0
  Go X st = Gives limit i c cs all X st

  due_laid : (d : ℕ) (ts : List Token) → Go (Laid all due d ts (c ∷ cs)) (due_step limit d ts c)
  unfolding due_step on_step AllAre
  due_laid d ts =
      choose_case (Go (Laid all due d ts (c ∷ cs))) (λ h e. blank_due h (ih due d ts tt e))
      (λ _. choose_case (Go (Laid all due d ts (c ∷ cs))) (λ h e. sign_due h (calm limit (suc i) d (sign c ∷ ts) cs all e) (ih due d (sign c ∷ ts) tt e))
      (λ _. choose_case (Go (Laid all due d ts (c ∷ cs))) (λ h. open_gives limit i c cs all (Laid all due d ts (c ∷ cs)) d ts (λ e. open_due h (ih due (suc d) (opener ∷ ts) tt e)))
      (λ _. choose_case (Go (Laid all due d ts (c ∷ cs))) (λ h e. number_due (digit_ident c h) (ih (in_number (c ∷ [])) d ts (number c [] h tt) e))
      (λ n. choose_case (Go (Laid all due d ts (c ∷ cs))) (λ h e. name_due h (ih (in_name (c ∷ [])) d ts (name c [] n h tt) e))
      (λ _. refused_gives limit i c cs all (Laid all due d ts (c ∷ cs)) Fault.NoExpression)))))

  close_laid : (d : ℕ) (ts : List Token) → eqb c 41 ≡ true → Go (Laid all after d ts (c ∷ cs)) (close_step d ts)
  unfolding close_step on_step
  close_laid zero ts h = refused_gives limit i c cs all (Laid all after 0 ts (c ∷ cs)) Fault.NoExpression
  close_laid (suc d) ts h = λ e. close_after h (ih after d (closer ∷ ts) tt e)

  after_laid : (d : ℕ) (ts : List Token) → Go (Laid all after d ts (c ∷ cs)) (after_step d ts c)
  unfolding after_step on_step
  after_laid d ts =
      choose_case (Go (Laid all after d ts (c ∷ cs))) (λ h e. blank_after h (ih after d ts tt e))
      (λ _. choose_case (Go (Laid all after d ts (c ∷ cs))) (λ h. close_laid d ts h)
      (λ _. choose_case (Go (Laid all after d ts (c ∷ cs))) (λ h e. ih (in_operator c) d ts h e)
      (λ _. refused_gives limit i c cs all (Laid all after d ts (c ∷ cs)) Fault.NoExpression)))

  stage_laid : (m : Stage) (d : ℕ) (ts : List Token) → SpelledStage m → Go (LaidAt all m d ts (c ∷ cs)) (stage_step limit m d ts c)
  unfolding stage_step on_step
  stage_laid due d ts s = due_laid d ts
  stage_laid (in_name w) d ts s =
      choose_case (Go (Laid all (in_name w) d ts (c ∷ cs))) (λ h e. more_name h (ih (in_name (w ++ c ∷ [])) d ts (name_more c s h) e))
      (λ _. choose_case (Go (Laid all (in_name w) d ts (c ∷ cs))) (λ h. refused_gives limit i c cs all (Laid all (in_name w) d ts (c ∷ cs)) Fault.NoExpression)
      (λ k e. end_name k (after_laid d (word w ∷ ts) e)))
  stage_laid (in_number w) d ts s =
      choose_case (Go (Laid all (in_number w) d ts (c ∷ cs))) (λ h e. more_number (digit_ident c h) (ih (in_number (w ++ c ∷ [])) d ts (number_more c s h) e))
      (λ _ e. end_number (number_free s) (after_laid d (word w ∷ ts) e))
  stage_laid after d ts s = after_laid d ts
  stage_laid (in_operator a) d ts s =
      choose_case (Go (Laid all after d ts (a ∷ c ∷ cs)))
      (λ h e. operator_two h (calm limit (suc i) d (operator (a ∷ c ∷ []) ∷ ts) cs all e) (ih due d (operator (a ∷ c ∷ []) ∷ ts) tt e))
      (λ n. choose_case (Go (Laid all after d ts (a ∷ c ∷ cs)))
      (λ h e. operator_one n h (due_calm limit i c cs all d (operator (a ∷ []) ∷ ts) e) (due_laid d (operator (a ∷ []) ∷ ts) e))
      (λ _. refused_gives limit i c cs all (Laid all after d ts (a ∷ c ∷ cs)) Fault.NoExpression))

ended_laid : (i d : ℕ) (ts all : List Token) → ended i d ts ≡ read all → Laid all after d ts []
unfolding ended
ended_laid i zero ts all e = ends {ts = ts} (cc)
ended_laid i (suc d) ts all e = never Fault.NoExpression i all e

ending_laid : (i : ℕ) (m : Stage) (d : ℕ) (ts all : List Token) → SpelledStage m → ending i m d ts ≡ read all → LaidAt all m d ts []
unfolding ending
ending_laid i due d ts all s e = never Fault.NoExpression i all e
ending_laid i (in_name w) d ts all s e =
    choose_case (λ r. r ≡ read all → Laid all (in_name w) d ts []) (λ _ e. never Fault.NoExpression i all e) (λ k e. end_name k (ended_laid i d (word w ∷ ts) all e)) e
ending_laid i (in_number w) d ts all s e = end_number (number_free s) (ended_laid i d (word w ∷ ts) all e)
ending_laid i after d ts all s e = ended_laid i d ts all e
ending_laid i (in_operator a) d ts all s e = never Fault.NoExpression i all e

laid_from : (limit : ℕ) (all : List Token) (cs : List ℕ) (i : ℕ) (m : Stage) (d : ℕ) (ts : List Token) → SpelledStage m
    → read_from limit i (state m d ts) cs ≡ read all → LaidAt all m d ts cs
unfolding read_from
laid_from limit all [] i m d ts s e = ending_laid i m d ts all s e
laid_from limit all (c ∷ cs) i m d ts s e = stage_laid limit i c cs all (laid_from limit all cs (suc i)) m d ts s e

pub laid : (limit : ℕ) (source : List ℕ) (all : List Token) → reading_to limit source ≡ read all → Laid all due 0 [] source
unfolding reading_to
laid limit source all e = laid_from limit all source 0 due 0 [] tt e

-- A source that is read: its tokens stand in an expression's order, and hold its characters but for blanks and
-- brackets.
use Prim.Native.Nat.{ℕ, zero, suc}
use mathlib.Core.Bool.{Bool, true, false, ◌||◌}
use mathlib.Core.List.{List, [], ◌∷◌, ◌++◌, reverse, reverse-reverse, append_assoc, append-nil}
use mathlib.Core.Path.{◌≡◌, refl, ap, sym, ◌∙◌}
use lib.Dec.{eqb}
use borrow.Author.Tests.{eqb-true}
use Rattle.utf8.specs.Unicode.{is_white}
use Rattle.rules.specs.Basics.{is, keep, is_blank}
use Rattle.rules.proofs.Choose.{choose_case}
use Rattle.rules.proofs.Struck.{keep_append}
use Rattle.group_rules.specs.Expression.{Token, word, sign, operator, opener, closer, Stage, due, in_name, in_number, after, in_operator, State, state, Step, next, refused, max_depth, open_step, close_step, due_step, after_step, stage_step, step, Reading, read, refused_at, ended, ending, on_step, read_from, reading_to, reading}
use Rattle.group_rules.specs.Promises.{is_bare, strike_brackets}
use Rattle.group_rules.proofs.TokenLaws as T
use Rattle.group_rules.proofs.TokenLaws.{Good}
use Rattle.group_rules.proofs.SpelledLaws.{SpelledToken, AllSpelled, SpelledStage, AllAre, name, number, name_more, number_more, is_name, is_number, one, two}

-- the characters of a token that the text keeps; of tokens, newest first
abbrev pub chars : Token → List ℕ
chars (word w) = w
chars (sign c) = c ∷ []
chars (operator op) = op
chars opener = []
chars closer = []

unfoldable pub bare : List Token → List ℕ
bare [] = []
bare (t ∷ ts) = bare ts ++ chars t

abbrev pending : Stage → List ℕ
pending due = []
pending (in_name w) = w
pending (in_number w) = w
pending after = []
pending (in_operator a) = a ∷ []

abbrev has_ended : Stage → Bool
has_ended due = false
has_ended (in_name w) = false
has_ended (in_number w) = false
has_ended after = true
has_ended (in_operator a) = true

-- what a state knows of the characters before it
record Sound (past : List ℕ) (s : State) : Type 0 where
  good : Good (has_ended s.stage) s.depth s.tokens
  struck : strike_brackets past ≡ strike_brackets (bare s.tokens ++ pending s.stage)
  spelled : AllSpelled s.tokens
  stage : SpelledStage s.stage

abbrev SoundStep : List ℕ → Step → Type 0
SoundStep past (next s) = Sound past s
SoundStep past (refused n) = Unit {0}

strike_snoc : (a b : List ℕ) (c : ℕ) → strike_brackets a ≡ strike_brackets b → strike_brackets (a ++ c ∷ []) ≡ strike_brackets (b ++ c ∷ [])
unfolding strike_brackets
strike_snoc a b c e = keep_append is_bare a (c ∷ []) ∙ ap (λ l. l ++ keep is_bare (c ∷ [])) e ∙ sym (keep_append is_bare b (c ∷ []))

gone : (c : ℕ) → is_bare c ≡ false → keep is_bare (c ∷ []) ≡ []
unfolding keep
gone c h = rw h

strike_gone : (a : List ℕ) (c : ℕ) → is_bare c ≡ false → strike_brackets (a ++ c ∷ []) ≡ strike_brackets a
unfolding strike_brackets
strike_gone a c h = keep_append is_bare a (c ∷ []) ∙ ap (λ l. keep is_bare a ++ l) (gone c h) ∙ append-nil (keep is_bare a)

blank_gone : (c : ℕ) → is_blank c ≡ true → is_bare c ≡ false
blank_gone c h = go (eqb c 32) refl h
  where
    space : eqb c 32 ≡ true → is_bare c ≡ false
    space e = rw (eqb-true c 32 e) (unfold is_white in refl)

    tab : eqb c 9 ≡ true → is_bare c ≡ false
    tab e = rw (eqb-true c 9 e) (unfold is_white in refl)

    go : (b : Bool) → eqb c 32 ≡ b → (b || eqb c 9) ≡ true → is_bare c ≡ false
    go true e k = space e
    go false e k = tab k

paren_gone : (c : ℕ) → eqb c 40 ≡ true → is_bare c ≡ false
unfolding is_white
paren_gone c e = rw (eqb-true c 40 e) refl

close_gone : (c : ℕ) → eqb c 41 ≡ true → is_bare c ≡ false
unfolding is_white
close_gone c e = rw (eqb-true c 41 e) refl

nil_right : (a : List ℕ) → strike_brackets a ≡ strike_brackets (a ++ [])
nil_right a = ap strike_brackets (sym (append-nil a))

module _ (past : List ℕ) (d : ℕ) (ts : List Token) (c : ℕ) (e : strike_brackets past ≡ strike_brackets (bare ts)) where
  same_tokens : is_bare c ≡ false → strike_brackets (past ++ c ∷ []) ≡ strike_brackets (bare ts ++ [])
  same_tokens h = strike_gone past c h ∙ e ∙ nil_right (bare ts)

  one_more : strike_brackets (past ++ c ∷ []) ≡ strike_brackets (bare ts ++ c ∷ [])
  one_more = strike_snoc past (bare ts) c e

  sound_open : AllSpelled ts → Good false d ts → is "(" c ≡ true → SoundStep (past ++ c ∷ []) (open_step max_depth d ts)
  unfolding open_step bare AllSpelled SpelledToken
  sound_open a g h =
      choose_case (SoundStep (past ++ c ∷ [])) (λ k. tt)
      (λ k. record { good = T.Good.opens g; struck = same_tokens (paren_gone c h) ∙ nil_right (bare ts ++ []); spelled = (tt, a); stage = tt })

  sound_due : AllSpelled ts → Good false d ts → SoundStep (past ++ c ∷ []) (due_step max_depth d ts c)
  unfolding due_step bare AllSpelled SpelledToken AllAre
  sound_due a g =
      choose_case (SoundStep (past ++ c ∷ [])) (λ h. record { good = g; struck = same_tokens (blank_gone c h); spelled = a; stage = tt })
      (λ _. choose_case (SoundStep (past ++ c ∷ []))
      (λ h. record { good = T.Good.signs c g; struck = one_more ∙ nil_right (bare ts ++ c ∷ []); spelled = (h, a); stage = tt })
      (λ _. choose_case (SoundStep (past ++ c ∷ [])) (λ h. sound_open a g h)
      (λ _. choose_case (SoundStep (past ++ c ∷ [])) (λ h. record { good = g; struck = one_more; spelled = a; stage = number c [] h tt })
      (λ n. choose_case (SoundStep (past ++ c ∷ [])) (λ h. record { good = g; struck = one_more; spelled = a; stage = name c [] n h tt })
      (λ _. tt)))))

sound_close : (past : List ℕ) (d : ℕ) (ts : List Token) (c : ℕ) → strike_brackets past ≡ strike_brackets (bare ts) → AllSpelled ts → Good true d ts
    → is ")" c ≡ true → SoundStep (past ++ c ∷ []) (close_step d ts)
unfolding close_step bare AllSpelled SpelledToken
sound_close past zero ts c e a g h = tt
sound_close past (suc d) ts c e a g h =
    record { good = T.Good.closes g; struck = same_tokens past (suc d) ts c e (close_gone c h) ∙ nil_right (bare ts ++ []); spelled = (tt, a); stage = tt }

sound_after : (past : List ℕ) (d : ℕ) (ts : List Token) (c : ℕ) → strike_brackets past ≡ strike_brackets (bare ts) → AllSpelled ts → Good true d ts
    → SoundStep (past ++ c ∷ []) (after_step d ts c)
unfolding after_step
sound_after past d ts c e a g =
    choose_case (SoundStep (past ++ c ∷ [])) (λ h. record { good = g; struck = same_tokens past d ts c e (blank_gone c h); spelled = a; stage = tt })
    (λ _. choose_case (SoundStep (past ++ c ∷ [])) (λ h. sound_close past d ts c e a g h)
    (λ _. choose_case (SoundStep (past ++ c ∷ [])) (λ h. record { good = g; struck = one_more past d ts c e; spelled = a; stage = h })
    (λ _. tt)))

-- what is pending goes on
goes_on_law : (past : List ℕ) (a w : List ℕ) (c : ℕ) → strike_brackets past ≡ strike_brackets (a ++ w) → strike_brackets (past ++ c ∷ []) ≡ strike_brackets (a ++ (w ++ c ∷ []))
goes_on_law past a w c e = strike_snoc past (a ++ w) c e ∙ ap strike_brackets (append_assoc a w (c ∷ []))

sound_stage : (past : List ℕ) (m : Stage) (d : ℕ) (ts : List Token) (c : ℕ) → Sound past (state m d ts) → SoundStep (past ++ c ∷ []) (stage_step max_depth m d ts c)
unfolding stage_step bare AllSpelled SpelledToken
sound_stage past due d ts c s = sound_due past d ts c (s.struck ∙ sym (nil_right (bare ts))) s.spelled s.good
sound_stage past (in_name w) d ts c s =
    choose_case (SoundStep (past ++ c ∷ []))
    (λ h. record { good = s.good; struck = goes_on_law past (bare ts) w c s.struck; spelled = s.spelled; stage = name_more c s.stage h })
    (λ _. choose_case (SoundStep (past ++ c ∷ [])) (λ h. tt)
    (λ k. sound_after past d (word w ∷ ts) c s.struck (is_name s.stage k, s.spelled) (T.Good.words w s.good)))
sound_stage past (in_number w) d ts c s =
    choose_case (SoundStep (past ++ c ∷ []))
    (λ h. record { good = s.good; struck = goes_on_law past (bare ts) w c s.struck; spelled = s.spelled; stage = number_more c s.stage h })
    (λ _. sound_after past d (word w ∷ ts) c s.struck (is_number s.stage, s.spelled) (T.Good.words w s.good))
sound_stage past after d ts c s = sound_after past d ts c (s.struck ∙ sym (nil_right (bare ts))) s.spelled s.good
sound_stage past (in_operator a) d ts c s =
    choose_case (SoundStep (past ++ c ∷ []))
    (λ h. record { good = T.Good.operators (a ∷ c ∷ []) s.good; struck = goes_on_law past (bare ts) (a ∷ []) c s.struck ∙ nil_right (bare ts ++ a ∷ c ∷ []); spelled = (two a c h, s.spelled); stage = tt })
    (λ _. choose_case (SoundStep (past ++ c ∷ []))
    (λ h. sound_due past d (operator (a ∷ []) ∷ ts) c s.struck (one a h, s.spelled) (T.Good.operators (a ∷ []) s.good))
    (λ _. tt))

-- ---- a whole source

pub record Whole (source : List ℕ) (ts : List Token) : Type 0 where
  pub good : Good true 0 (reverse ts)
  pub struck : strike_brackets source ≡ strike_brackets (bare (reverse ts))
  pub spelled : AllSpelled (reverse ts)

abbrev pub WholeOf : List ℕ → Reading → Type 0
WholeOf source (read ts) = Whole source ts
WholeOf source (refused_at n p) = Unit {0}

back : (source : List ℕ) (ts : List Token) → AllSpelled ts → Good true 0 ts → strike_brackets source ≡ strike_brackets (bare ts) → Whole source (reverse ts)
back source ts a g e = record { good = rw reverse-reverse g; struck = rw reverse-reverse e; spelled = rw reverse-reverse a }

whole_ended : (source : List ℕ) (i d : ℕ) (ts : List Token) → AllSpelled ts → Good true d ts → strike_brackets source ≡ strike_brackets (bare ts) → WholeOf source (ended i d ts)
unfolding ended
whole_ended source i zero ts a g e = back source ts a g e
whole_ended source i (suc d) ts a g e = tt

whole_ending : (source : List ℕ) (i : ℕ) (m : Stage) (d : ℕ) (ts : List Token) → Sound source (state m d ts) → WholeOf source (ending i m d ts)
unfolding ending bare AllSpelled SpelledToken
whole_ending source i due d ts s = tt
whole_ending source i (in_name w) d ts s =
    choose_case (WholeOf source) (λ h. tt) (λ h. whole_ended source i d (word w ∷ ts) (is_name s.stage h, s.spelled) (T.Good.words w s.good) s.struck)
whole_ending source i (in_number w) d ts s = whole_ended source i d (word w ∷ ts) (is_number s.stage, s.spelled) (T.Good.words w s.good) s.struck
whole_ending source i after d ts s = whole_ended source i d ts s.spelled s.good (s.struck ∙ sym (nil_right (bare ts)))
whole_ending source i (in_operator a) d ts s = tt

whole_step : (source past : List ℕ) (i : ℕ) (st : Step) (go : State → Reading) → SoundStep past st → ((t : State) → Sound past t → WholeOf source (go t)) → WholeOf source (on_step i st go)
unfolding on_step
whole_step source past i (next t) go s k = k t s
whole_step source past i (refused n) go s k = tt

whole_from : (cs past : List ℕ) (i : ℕ) (s : State) → Sound past s → WholeOf (past ++ cs) (read_from max_depth i s cs)
unfolding read_from
whole_from [] past i s k = rw append-nil (whole_ending past i s.stage s.depth s.tokens k)
whole_from (c ∷ cs) past i s k =
    whole_step (past ++ c ∷ cs) (past ++ c ∷ []) i (step max_depth s c) (λ (t : State). read_from max_depth (suc i) t cs) (sound_stage past s.stage s.depth s.tokens c k)
    (λ t h. rw (append_assoc past (c ∷ []) cs) at (whole_from cs (past ++ c ∷ []) (suc i) t h))

pub whole : (source : List ℕ) → WholeOf source (reading source)
unfolding reading_to bare AllSpelled
whole source = whole_from source [] 0 (state due 0 []) (record { good = T.Good.begin; struck = refl; spelled = tt; stage = tt })

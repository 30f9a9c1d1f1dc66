-- The place of refusal 14: what stands before it begins an expression, and with the character there nothing does.
use Prim.Native.Nat.{ℕ, zero, suc, ◌+◌, ◌<◌, ◌≤◌}
use mathlib.Core.Bool.{Bool, true, false, not, ◌&&◌, ◌||◌}
use mathlib.Core.List.{List, [], ◌∷◌, ◌++◌, map, append_assoc, append-nil}
use mathlib.Core.Logic.{◌⊎◌, inl, inr, ⊎_elim}
use mathlib.Core.Path.{◌≡◌, refl, ap, sym, ◌∙◌, subst}
use native.Mathlib.Omega.{arith}
use lib.Dec.{eqb, leb}
use lib.ListN.{length, take, replicate, length-append}
use lib.Seq.{take_at}
use Rattle.rules.specs.Basics.{choose, is, same, one_of, is_blank, is_ident}
use Rattle.rules.specs.Operators.{operators}
use Rattle.rules.specs.SplitOperation.{is_sign, keywords}
use Rattle.group_rules.specs.Promises.{IsRead, Begins, Longest}
use Rattle.rules.proofs.Computing.{computing}
use Rattle.rules.proofs.Choose.{choose_case, choose_true, choose_false}
use Rattle.group_rules.proofs.TableLaws.{or_cases, and_none, not_of, all_of, found}
use Rattle.group_rules.specs.declared.Fault.{Fault}
use Rattle.group_rules.specs.Expression.{max_depth, Token, word, operator, opener, closer, Stage, due, in_name, in_number, after, in_operator, State, state, Step, next, refused, starts_operator, open_step, close_step, due_step, after_step, stage_step, step, Reading, read, refused_at, ended, ending, on_step, read_from, reading_to, reading}
use Rattle.utf8.proofs.Tests.{and_left, and_right}

-- what goes on so that an expression is read
pub record Completed (i : ℕ) (s : State) : Type 0 where
  pub rest : List ℕ
  pub is : IsRead (read_from max_depth i s rest)

opened : Unit {0}
unfolding computing starts_operator open_step close_step due_step after_step stage_step ended ending on_step read_from
opened = tt

close_after_law : (d i : ℕ) (ts : List Token) → IsRead (read_from max_depth i (state after d ts) (replicate d 41))
unfolding opened
close_after_law zero i ts = tt
close_after_law (suc d) i ts = close_after_law d (suc i) (closer ∷ ts)

close_number : (w : List ℕ) (d i : ℕ) (ts : List Token) → IsRead (read_from max_depth i (state (in_number w) d ts) (replicate d 41))
unfolding opened
close_number w zero i ts = tt
close_number w (suc d) i ts = close_after_law d (suc i) (closer ∷ word w ∷ ts)

name_end : (w : List ℕ) (i : ℕ) (ts : List Token) → one_of keywords w ≡ false → IsRead (ending i (in_name w) 0 ts)
unfolding ending ended
name_end w i ts h = subst IsRead (sym (choose_false (one_of keywords w) _ _ h)) tt

name_closer : (w : List ℕ) (d : ℕ) (ts : List Token) → one_of keywords w ≡ false → stage_step max_depth (in_name w) (suc d) ts 41 ≡ next (state after d (closer ∷ word w ∷ ts))
name_closer w d ts h = first ∙ choose_false (one_of keywords w) (refused Fault.NoExpression) (after_step (suc d) (word w ∷ ts) 41) h ∙ second
  where
    first : stage_step max_depth (in_name w) (suc d) ts 41 ≡ choose (one_of keywords w) (refused Fault.NoExpression) (after_step (suc d) (word w ∷ ts) 41)
    first = unfold stage_step is_ident in choose_false (is_ident 41) _ _ (unfold is_ident in refl)

    second : after_step (suc d) (word w ∷ ts) 41 ≡ next (state after d (closer ∷ word w ∷ ts))
    second = unfold opened in refl

close_name : (w : List ℕ) (d i : ℕ) (ts : List Token) → one_of keywords w ≡ false → IsRead (read_from max_depth i (state (in_name w) d ts) (replicate d 41))
close_name w zero i ts h = unfold read_from in name_end w i ts h
close_name w (suc d) i ts h =
    unfold read_from in subst (λ (x : Step). IsRead (on_step i x (λ (t : State). read_from max_depth (suc i) t (replicate d 41)))) (sym (name_closer w d ts h))
    (unfold on_step in close_after_law d (suc i) (closer ∷ word w ∷ ts))

-- an operand `a` where one is due
close_due : (d i : ℕ) (ts : List Token) → IsRead (read_from max_depth i (state due d ts) (97 ∷ replicate d 41))
unfolding read_from stage_step on_step
close_due d i ts = subst (λ (x : Step). IsRead (on_step i x (λ (t : State). read_from max_depth (suc i) t (replicate d 41)))) (sym one) (unfold on_step in close_name (97 ∷ []) d (suc i) ts (unfold computing in refl))
  where
    one : due_step max_depth d ts 97 ≡ next (state (in_name (97 ∷ [])) d ts)
    one = unfold opened in refl

-- ---- no word of the five goes on with an underscore, no operator with an `a`

has_none : List ℕ → Bool
has_none [] = true
has_none (c ∷ cs) = not (eqb c 95) && has_none cs

all_none : List (List ℕ) → Bool
all_none [] = true
all_none (k ∷ ks) = has_none k && all_none ks

same_under : (k w : List ℕ) → has_none k ≡ true → same k (w ++ 95 ∷ []) ≡ false
unfolding same has_none
same_under [] [] h = refl
same_under [] (x ∷ w) h = refl
same_under (c ∷ k) [] h = ap (λ (b : Bool). b && same k []) (not_of (eqb c 95) (and_left (not (eqb c 95)) (has_none k) h))
same_under (c ∷ k) (x ∷ w) h = ap (λ (b : Bool). eqb c x && b) (same_under k w (and_right (not (eqb c 95)) (has_none k) h)) ∙ and_none (eqb c x)

one_under : (ks : List (List ℕ)) (w : List ℕ) → all_none ks ≡ true → one_of ks (w ++ 95 ∷ []) ≡ false
unfolding one_of all_none
one_under [] w h = refl
one_under (k ∷ ks) w h =
    ap (λ (b : Bool). b || one_of ks (w ++ 95 ∷ [])) (same_under k w (and_left (has_none k) (all_none ks) h)) ∙ one_under ks w (and_right (has_none k) (all_none ks) h)

keyword_under : (w : List ℕ) → one_of keywords (w ++ 95 ∷ []) ≡ false
keyword_under w = one_under keywords w (unfold all_none has_none in refl)

close_in_name : (w : List ℕ) (d i : ℕ) (ts : List Token) → IsRead (read_from max_depth i (state (in_name w) d ts) (95 ∷ replicate d 41))
unfolding read_from stage_step on_step
close_in_name w d i ts =
    subst (λ (x : Step). IsRead (on_step i x (λ (t : State). read_from max_depth (suc i) t (replicate d 41)))) (sym (choose_true (is_ident 95) _ _ (unfold is_ident in refl)))
    (close_name (w ++ 95 ∷ []) d (suc i) ts (keyword_under w))

not_second : List ℕ → Bool
not_second [] = true
not_second (x ∷ []) = true
not_second (x ∷ y ∷ r) = not (eqb y 97)

all_second : List (List ℕ) → Bool
all_second [] = true
all_second (k ∷ ks) = not_second k && all_second ks

same_a : (k : List ℕ) (a : ℕ) → not_second k ≡ true → same k (a ∷ 97 ∷ []) ≡ false
unfolding same not_second
same_a [] a h = refl
same_a (x ∷ []) a h = and_none (eqb x a)
same_a (x ∷ y ∷ r) a h = ap (λ (b : Bool). eqb x a && (b && same r [])) (not_of (eqb y 97) h) ∙ and_none (eqb x a)

one_a : (ks : List (List ℕ)) (a : ℕ) → all_second ks ≡ true → one_of ks (a ∷ 97 ∷ []) ≡ false
unfolding one_of all_second
one_a [] a h = refl
one_a (k ∷ ks) a h =
    ap (λ (b : Bool). b || one_of ks (a ∷ 97 ∷ [])) (same_a k a (and_left (not_second k) (all_second ks) h)) ∙ one_a ks a (and_right (not_second k) (all_second ks) h)

no_a : (a : ℕ) → one_of operators (a ∷ 97 ∷ []) ≡ false
no_a a = one_a operators a (unfold all_second not_second in refl)

-- the second character of an operator whose first is none alone
second : ℕ → ℕ
second a = choose (eqb a 46) 46 61

goes_on : List ℕ → Bool
goes_on [] = true
goes_on (a ∷ r) = one_of operators (a ∷ r) || one_of operators (a ∷ second a ∷ [])

goes_on_law : (a : ℕ) → starts_operator a ≡ true → goes_on (a ∷ []) ≡ true
unfolding starts_operator
goes_on_law a h = found goes_on (map (take 1) operators) (a ∷ []) (unfold all_of goes_on second computing in refl) h

close_one : (a d i : ℕ) (ts : List Token) → one_of operators (a ∷ []) ≡ true → IsRead (read_from max_depth i (state (in_operator a) d ts) (97 ∷ replicate d 41))
unfolding read_from stage_step on_step
close_one a d i ts h =
    subst (λ (x : Step). IsRead (on_step i x (λ (t : State). read_from max_depth (suc i) t (replicate d 41))))
    (sym (choose_false (one_of operators (a ∷ 97 ∷ [])) _ _ (no_a a) ∙ choose_true (one_of operators (a ∷ [])) _ _ h)) (close_due d i (operator (a ∷ []) ∷ ts))

close_two : (a c d i : ℕ) (ts : List Token) → one_of operators (a ∷ c ∷ []) ≡ true → IsRead (read_from max_depth i (state (in_operator a) d ts) (c ∷ 97 ∷ replicate d 41))
unfolding read_from stage_step on_step
close_two a c d i ts h =
    subst (λ (x : Step). IsRead (on_step i x (λ (t : State). read_from max_depth (suc i) t (97 ∷ replicate d 41))))
    (sym (choose_true (one_of operators (a ∷ c ∷ [])) _ _ h)) (close_due d (suc i) (operator (a ∷ c ∷ []) ∷ ts))

-- ---- every state that is reached can be completed

abbrev Live : Stage → Type 0
Live due = Unit {0}
Live (in_name w) = Unit {0}
Live (in_number w) = Unit {0}
Live after = Unit {0}
Live (in_operator a) = starts_operator a ≡ true

complete : (m : Stage) (d i : ℕ) (ts : List Token) → Live m → Completed i (state m d ts)
complete due d i ts h = record { rest = 97 ∷ replicate d 41; is = close_due d i ts }
complete (in_name w) d i ts h = record { rest = 95 ∷ replicate d 41; is = close_in_name w d i ts }
complete (in_number w) d i ts h = record { rest = replicate d 41; is = close_number w d i ts }
complete after d i ts h = record { rest = replicate d 41; is = close_after_law d i ts }
complete (in_operator a) d i ts h =
    or_cases (one_of operators (a ∷ [])) (one_of operators (a ∷ second a ∷ []))
    (λ e. record { rest = 97 ∷ replicate d 41; is = close_one a d i ts e })
    (λ e. record { rest = second a ∷ 97 ∷ replicate d 41; is = close_two a (second a) d i ts e }) (unfold goes_on in goes_on_law a h)

abbrev LiveStep : Step → Type 0
LiveStep (next s) = Live s.stage
LiveStep (refused n) = Unit {0}

live_open : (d : ℕ) (ts : List Token) → LiveStep (open_step max_depth d ts)
unfolding open_step
live_open d ts = choose_case LiveStep (λ h. tt) (λ h. tt)

live_close : (d : ℕ) (ts : List Token) → LiveStep (close_step d ts)
unfolding close_step
live_close zero ts = tt
live_close (suc d) ts = tt

live_due : (d : ℕ) (ts : List Token) (c : ℕ) → LiveStep (due_step max_depth d ts c)
unfolding due_step
live_due d ts c =
    choose_case LiveStep (λ h. tt) (λ _. choose_case LiveStep (λ h. tt) (λ _. choose_case LiveStep (λ h. live_open d ts)
    (λ _. choose_case LiveStep (λ h. tt) (λ _. choose_case LiveStep (λ h. tt) (λ _. tt)))))

live_after : (d : ℕ) (ts : List Token) (c : ℕ) → LiveStep (after_step d ts c)
unfolding after_step
live_after d ts c = choose_case LiveStep (λ h. tt) (λ _. choose_case LiveStep (λ h. live_close d ts) (λ _. choose_case LiveStep (λ h. h) (λ _. tt)))

live_stage : (m : Stage) (d : ℕ) (ts : List Token) (c : ℕ) → LiveStep (stage_step max_depth m d ts c)
unfolding stage_step
live_stage due d ts c = live_due d ts c
live_stage (in_name w) d ts c = choose_case LiveStep (λ h. tt) (λ _. choose_case LiveStep (λ h. tt) (λ _. live_after d (word w ∷ ts) c))
live_stage (in_number w) d ts c = choose_case LiveStep (λ h. tt) (λ _. live_after d (word w ∷ ts) c)
live_stage after d ts c = live_after d ts c
live_stage (in_operator a) d ts c = choose_case LiveStep (λ h. tt) (λ _. choose_case LiveStep (λ h. live_due d (operator (a ∷ []) ∷ ts) c) (λ _. tt))

-- ---- the place of a refusal: what stands before it begins an expression; no source that goes on from it is one

abbrev pub PlaceOf : List ℕ → Reading → Type 0
PlaceOf source (read ts) = Unit {0}
PlaceOf source (refused_at n p) = Begins (take p source)

begins_here : (past : List ℕ) (s : State) → ((rest : List ℕ) → reading (past ++ rest) ≡ read_from max_depth (length past) s rest) → Live s.stage → (cs : List ℕ)
    → Begins (take (length past) (past ++ cs))
begins_here past s e h cs =
    let c = complete s.stage s.depth (length past) s.tokens h in
    subst Begins (sym (take_at past cs (length past) refl)) (record { limit = max_depth; rest = c.rest; is = subst IsRead (sym (e c.rest)) c.is })

place_ended : (source : List ℕ) (i d : ℕ) (ts : List Token) → Begins (take i source) → PlaceOf source (ended i d ts)
unfolding ended
place_ended source i zero ts b = tt
place_ended source i (suc d) ts b = b

place_ending : (source : List ℕ) (i : ℕ) (m : Stage) (d : ℕ) (ts : List Token) → Begins (take i source) → PlaceOf source (ending i m d ts)
unfolding ending
place_ending source i due d ts b = b
place_ending source i (in_name w) d ts b = choose_case (PlaceOf source) (λ h. b) (λ h. place_ended source i d (word w ∷ ts) b)
place_ending source i (in_number w) d ts b = place_ended source i d (word w ∷ ts) b
place_ending source i after d ts b = place_ended source i d ts b
place_ending source i (in_operator a) d ts b = b

place_step : (source : List ℕ) (i : ℕ) (st : Step) (go : State → Reading) → LiveStep st → Begins (take i source)
    → ((t : State) → st ≡ next t → Live t.stage → PlaceOf source (go t)) → PlaceOf source (on_step i st go)
unfolding on_step
place_step source i (next t) go l b k = k t refl l
place_step source i (refused n) go l b k = b

longer : (past : List ℕ) (c : ℕ) → length (past ++ c ∷ []) ≡ suc (length past)
longer past c = length-append past (c ∷ []) ∙ omega arith

stepped : (past : List ℕ) (s : State) (c : ℕ) (t : State) → step max_depth s c ≡ next t → (rest : List ℕ) → read_from max_depth (length past) s (c ∷ rest) ≡ read_from max_depth (suc (length past)) t rest
unfolding read_from on_step
stepped past s c t q rest = ap (λ (x : Step). on_step (length past) x (λ (u : State). read_from max_depth (suc (length past)) u rest)) q

place_from : (cs past : List ℕ) (s : State) → ((rest : List ℕ) → reading (past ++ rest) ≡ read_from max_depth (length past) s rest) → Live s.stage
    → PlaceOf (past ++ cs) (read_from max_depth (length past) s cs)
unfolding read_from
place_from [] past s e h = place_ending (past ++ []) (length past) s.stage s.depth s.tokens (begins_here past s e h [])
place_from (c ∷ cs) past s e h =
    place_step (past ++ c ∷ cs) (length past) (step max_depth s c) (λ (t : State). read_from max_depth (suc (length past)) t cs) (live_stage s.stage s.depth s.tokens c)
    (begins_here past s e h (c ∷ cs))
    (λ t q l.
    subst (λ (x : List ℕ). PlaceOf x (read_from max_depth (suc (length past)) t cs)) (append_assoc past (c ∷ []) cs)
    (subst (λ (n : ℕ). PlaceOf ((past ++ c ∷ []) ++ cs) (read_from max_depth n t cs)) (longer past c)
    (place_from cs (past ++ c ∷ []) t
    (λ rest. ap reading (append_assoc past (c ∷ []) rest) ∙ e (c ∷ rest) ∙ stepped past s c t q rest ∙ ap (λ (n : ℕ). read_from max_depth n t rest) (sym (longer past c))) l)))

pub place : (source : List ℕ) → PlaceOf source (reading source)
unfolding reading_to
place source = place_from source [] (state due 0 []) (λ rest. refl) tt

-- ---- the limit of brackets makes no other difference than refusal 15

record Alike (x y : Step) : Type 0 where
  goes : (t : State) → x ≡ next t → (y ≡ next t) ⊎ (y ≡ refused Fault.TooDeep)
  stops : x ≡ refused Fault.NoExpression → y ≡ refused Fault.NoExpression

alike_same : (x : Step) → Alike x x
alike_same x = record { goes = λ t e. inl e; stops = λ e. e }

alike_both : {x x' y y' : Step} (b : Bool) → Alike x x' → Alike y y' → Alike (choose b x y) (choose b x' y')
unfolding choose
alike_both true f g = f
alike_both false f g = g

no_next : (n : Fault) (t : State) → refused n ≡ next t → ⊥
no_next n t e = let z : ◌≡◌ {A = ℕ} 0 1 = cc in omega arith

no_refused : (n : Fault) (t : State) → next t ≡ refused n → ⊥
no_refused n t e = let z : ◌≡◌ {A = ℕ} 0 1 = cc in omega arith

other_number : refused Fault.TooDeep ≡ refused Fault.NoExpression → ⊥
other_number e = let z : ◌≡◌ {A = ℕ} 0 1 = cc in omega arith

alike_opens : (t : State) (a b : Bool) → Alike (choose a (refused Fault.TooDeep) (next t)) (choose b (refused Fault.TooDeep) (next t))
unfolding choose
alike_opens t true b = record { goes = λ u e. absurd (no_next Fault.TooDeep u e); stops = λ e. absurd (other_number e) }
alike_opens t false true = record { goes = λ u e. inr refl; stops = λ e. absurd (no_refused Fault.NoExpression t e) }
alike_opens t false false = alike_same (next t)

alike_due : (limit limit' d : ℕ) (ts : List Token) (c : ℕ) → Alike (due_step limit d ts c) (due_step limit' d ts c)
unfolding due_step open_step
alike_due limit limit' d ts c =
    alike_both (is_blank c) (alike_same _) (alike_both (is_sign c) (alike_same _)
    (alike_both (is "(" c) (alike_opens (state due (suc d) (opener ∷ ts)) (leb limit d) (leb limit' d)) (alike_same _)))

alike_stage : (limit limit' : ℕ) (m : Stage) (d : ℕ) (ts : List Token) (c : ℕ) → Alike (stage_step limit m d ts c) (stage_step limit' m d ts c)
unfolding stage_step
alike_stage limit limit' due d ts c = alike_due limit limit' d ts c
alike_stage limit limit' (in_name w) d ts c = alike_same _
alike_stage limit limit' (in_number w) d ts c = alike_same _
alike_stage limit limit' after d ts c = alike_same _
alike_stage limit limit' (in_operator a) d ts c =
    alike_both (one_of operators (a ∷ c ∷ [])) (alike_same _)
    (alike_both (one_of operators (a ∷ [])) (alike_due limit limit' d (operator (a ∷ []) ∷ ts) c) (alike_same _))

-- whatever the limit, a text that is read and begins with past goes through the state s after it
abbrev Through : List ℕ → State → Type 0
Through past s = (limit : ℕ) (rest : List ℕ) → IsRead (reading_to limit (past ++ rest)) → reading_to limit (past ++ rest) ≡ read_from limit (length past) s rest

module _ (past : List ℕ) (s : State) (c : ℕ) (th : Through past s) where
  -- one character more
  further : (limit : ℕ) (rest : List ℕ) → IsRead (reading_to limit ((past ++ c ∷ []) ++ rest))
      → reading_to limit ((past ++ c ∷ []) ++ rest) ≡ on_step (length past) (step limit s c) (λ (u : State). read_from limit (suc (length past)) u rest)
  unfolding read_from
  further limit rest h =
      let e : reading_to limit ((past ++ c ∷ []) ++ rest) ≡ reading_to limit (past ++ c ∷ rest) = ap (reading_to limit) (append_assoc past (c ∷ []) rest) in
      e ∙ th limit (c ∷ rest) (subst IsRead e h)

  refused_there : (limit : ℕ) (n : Fault) (rest : List ℕ) → IsRead (reading_to limit ((past ++ c ∷ []) ++ rest)) → step limit s c ≡ refused n → ⊥
  unfolding on_step
  refused_there limit n rest h q =
      subst IsRead (further limit rest h ∙ ap (λ (x : Step). on_step (length past) x (λ (u : State). read_from limit (suc (length past)) u rest)) q) h

  through : (t : State) → step max_depth s c ≡ next t → Through (past ++ c ∷ []) t
  unfolding on_step
  through t q limit rest h =
      ⊎_elim
      (λ e. further limit rest h ∙ ap (λ (x : Step). on_step (length past) x (λ (u : State). read_from limit (suc (length past)) u rest)) e
      ∙ ap (λ (n : ℕ). read_from limit n t rest) (sym (longer past c)))
      (λ e. absurd (refused_there limit Fault.TooDeep rest h e))
      ((alike_stage max_depth limit s.stage s.depth s.tokens c).goes t q)

-- ---- and with the character at the place of refusal 14 no expression begins

pub record Ends (source : List ℕ) (n : Fault) (p : ℕ) : Type 0 where
  pub is : n ≡ Fault.NoExpression → p < length source → Begins (take (suc p) source) → ⊥

abbrev pub EndsOf : List ℕ → Reading → Type 0
EndsOf source (read ts) = Unit {0}
EndsOf source (refused_at n p) = Ends source n p

-- at the source's end there is no character
at_end : (source : List ℕ) (n : Fault) → Ends source n (length source)
at_end source n = record { is = λ e h. absurd (omega arith) }

ends_ended : (source : List ℕ) (d : ℕ) (ts : List Token) → EndsOf source (ended (length source) d ts)
unfolding ended
ends_ended source zero ts = tt
ends_ended source (suc d) ts = at_end source Fault.NoExpression

ends_ending : (source : List ℕ) (m : Stage) (d : ℕ) (ts : List Token) → EndsOf source (ending (length source) m d ts)
unfolding ending
ends_ending source due d ts = at_end source Fault.NoExpression
ends_ending source (in_name w) d ts = choose_case (EndsOf source) (λ h. at_end source Fault.NoExpression) (λ h. ends_ended source d (word w ∷ ts))
ends_ending source (in_number w) d ts = ends_ended source d (word w ∷ ts)
ends_ending source after d ts = ends_ended source d ts
ends_ending source (in_operator a) d ts = at_end source Fault.NoExpression

ends_step : (source : List ℕ) (i : ℕ) (st : Step) (go : State → Reading) → ((n : Fault) → st ≡ refused n → Ends source n i)
    → ((t : State) → st ≡ next t → EndsOf source (go t)) → EndsOf source (on_step i st go)
unfolding on_step
ends_step source i (next t) go b k = k t refl
ends_step source i (refused n) go b k = b n refl

ends_here : (past : List ℕ) (s : State) (c : ℕ) (n : Fault) → Through past s → step max_depth s c ≡ refused n → (cs : List ℕ) → Ends (past ++ c ∷ cs) n (length past)
ends_here past s c n th q cs =
    record {
      is = λ e h k.
          refused_there past s c th k.limit Fault.NoExpression k.rest
          (subst (λ x. IsRead (reading_to k.limit (x ++ k.rest)))
          (ap (take (suc (length past))) (sym (append_assoc past (c ∷ []) cs)) ∙ take_at (past ++ c ∷ []) cs (suc (length past)) (longer past c)) k.is)
          ((alike_stage max_depth k.limit s.stage s.depth s.tokens c).stops (q ∙ ap refused e));
    }

ends_from : (cs past : List ℕ) (s : State) → Through past s → EndsOf (past ++ cs) (read_from max_depth (length past) s cs)
unfolding read_from
ends_from [] past s th =
    subst (λ (x : List ℕ). EndsOf x (ending (length past) s.stage s.depth s.tokens)) (sym (append-nil past))
    (ends_ending past s.stage s.depth s.tokens)
ends_from (c ∷ cs) past s th =
    ends_step (past ++ c ∷ cs) (length past) (step max_depth s c) (λ (t : State). read_from max_depth (suc (length past)) t cs)
    (λ n q. ends_here past s c n th q cs)
    (λ t q.
    subst (λ (x : List ℕ). EndsOf x (read_from max_depth (suc (length past)) t cs)) (append_assoc past (c ∷ []) cs)
    (subst (λ (n : ℕ). EndsOf ((past ++ c ∷ []) ++ cs) (read_from max_depth n t cs)) (longer past c)
    (ends_from cs (past ++ c ∷ []) t (through past s c th t q))))

pub ends : (source : List ℕ) → EndsOf source (reading source)
unfolding reading_to
ends source = ends_from source [] (state due 0 []) (λ limit rest h. refl)

-- ---- together

abbrev WithinOf : List ℕ → Reading → Type 0
WithinOf source (read ts) = Unit {0}
WithinOf source (refused_at n p) = p ≤ length source

within_ended : (source : List ℕ) (i d : ℕ) (ts : List Token) → i ≤ length source → WithinOf source (ended i d ts)
unfolding ended
within_ended source i zero ts h = tt
within_ended source i (suc d) ts h = h

within_ending : (source : List ℕ) (i : ℕ) (m : Stage) (d : ℕ) (ts : List Token) → i ≤ length source → WithinOf source (ending i m d ts)
unfolding ending
within_ending source i due d ts h = h
within_ending source i (in_name w) d ts h = choose_case (WithinOf source) (λ _. h) (λ _. within_ended source i d (word w ∷ ts) h)
within_ending source i (in_number w) d ts h = within_ended source i d (word w ∷ ts) h
within_ending source i after d ts h = within_ended source i d ts h
within_ending source i (in_operator a) d ts h = h

within_step : (source : List ℕ) (i : ℕ) (st : Step) (go : State → Reading) → i ≤ length source → ((t : State) → WithinOf source (go t)) → WithinOf source (on_step i st go)
unfolding on_step
within_step source i (next t) go h k = k t
within_step source i (refused n) go h k = h

within_from : (source cs : List ℕ) (i : ℕ) (s : State) → i + length cs ≤ length source → WithinOf source (read_from max_depth i s cs)
unfolding read_from
within_from source [] i s h = within_ending source i s.stage s.depth s.tokens (omega arith)
within_from source (c ∷ cs) i s h =
    within_step source i (step max_depth s c) (λ (t : State). read_from max_depth (suc i) t cs) (omega arith) (λ t. within_from source cs (suc i) t (omega arith))

longest_of : (source : List ℕ) (r : Reading) (p : ℕ) → r ≡ refused_at Fault.NoExpression p → PlaceOf source r → EndsOf source r → WithinOf source r → Longest source p
longest_of source r p e b f w = go (subst (PlaceOf source) e b) (subst (EndsOf source) e f) (subst (WithinOf source) e w)
  where
    go : Begins (take p source) → Ends source Fault.NoExpression p → p ≤ length source → Longest source p
    go x y z = record { begins = x; ends = λ h k. y.is refl h k; within = z }

pub longest : (source : List ℕ) (p : ℕ) → reading source ≡ refused_at Fault.NoExpression p → Longest source p
unfolding reading_to
longest source p e = longest_of source (reading source) p e (place source) (ends source) (within_from source source 0 (state due 0 []) (omega arith))

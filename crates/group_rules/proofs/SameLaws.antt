-- The written text has the same tree as the source.
use Prim.Native.Nat.{ℕ, suc, ◌+◌, ◌≤◌, ◌<◌}
use mathlib.Core.Bool.{Bool, true, false, not, ◌&&◌, ◌||◌}
use mathlib.Core.List.{List, [], ◌∷◌, ◌++◌, foldl, foldl-append, reverse, reverse-cons, reverse-reverse, append_assoc, append-nil}
use mathlib.Core.Path.{◌≡◌, refl, ap, sym, ◌∙◌, subst}
use native.Mathlib.Omega.{arith}
use lib.Dec.{eqb, leb}
use lib.ListN.{length, length-append}
use borrow.Author.Tests.{lt-leb, ne_eqb, eqb-true, leb-true}
use Rattle.utf8.specs.Unicode.{within}
use Rattle.rules.specs.Basics.{choose, is, one_of, is_blank, is_ident}
use Rattle.rules.specs.Operators.{operators}
use Rattle.rules.specs.SplitOperation.{is_sign, keywords}
use Rattle.rules.proofs.Computing.{computing}
use Rattle.rules.proofs.Choose.{choose_true, choose_false}
use Rattle.group_rules.specs.Expression.{Token, word, sign, operator, opener, closer, due, in_name, in_number, after, in_operator, State, state, Step, next, is_digit, starts_operator, open_step, close_step, due_step, after_step, stage_step, step, read, ended, ending, on_step, read_from, reading_to}
use Rattle.group_rules.specs.Grouping.{Tree, operand, signed, bracketed, operation, extend, left_of, Frame, start, with_signs, join_left, join, due_in, done, parse, feed, feed_at, feed_due, feed_done, feed_closed, tree_at, tree_of, written}
use Rattle.group_rules.proofs.TokenLaws.{tokens_of}
use Rattle.group_rules.proofs.TableLaws.{or_cases, not_of, all_of, found}
use Rattle.group_rules.proofs.SpelledLaws.{digit_ident, AllSpelled, SpelledToken, AllAre, name, number, IsWord, is_name, is_number, IsOperator, one, two, spelled_first, spelled_second}
use Rattle.group_rules.specs.Promises.{unbracketed, SameTree}
use Rattle.utf8.proofs.Tests.{and_left, and_right}

-- every operation bracketed, and nothing else
unfoldable pub bracket_all : Tree → Tree
bracket_all (operand w) = operand w
bracket_all (signed c e) = signed c (bracket_all e)
bracket_all (bracketed e) = bracket_all e
bracket_all (operation op l r) = bracketed (operation op (bracket_all l) (bracket_all r))

bare_same : (e : Tree) → unbracketed (bracket_all e) ≡ unbracketed e
unfolding unbracketed bracket_all
bare_same (operand w) = refl
bare_same (signed c e) = ap (signed c) (bare_same e)
bare_same (bracketed e) = bare_same e
bare_same (operation op l r) = ap (λ x. operation op x (unbracketed (bracket_all r))) (bare_same l) ∙ ap (operation op (unbracketed l)) (bare_same r)

-- ---- the tree of the tokens of a tree whose operations are all bracketed

extend_bare : (e : Tree) (op : List ℕ) (x : Tree) → extend (bracket_all e) op x ≡ operation op (bracket_all e) x
unfolding extend bracket_all
extend_bare (operand w) op x = refl
extend_bare (signed c e) op x = refl
extend_bare (bracketed e) op x = extend_bare e op x
extend_bare (operation o l r) op x = refl

fed : (e : Tree) (f : Frame) (fs : List Frame) → foldl feed (parse (due_in f) fs) (tokens_of (bracket_all e)) ≡ parse (done (join f (bracket_all e))) fs
unfolding bracket_all tokens_of feed_at feed_due feed_done feed_closed join_left with_signs
fed (operand w) f fs = refl
fed (signed c e) f fs = fed e (record { left = f.left; signs = c ∷ f.signs }) fs
fed (bracketed e) f fs = fed e f fs
fed (operation op l r) f fs =
    foldl-append feed (parse (due_in start) (f ∷ fs)) (tokens_of (bracket_all l) ++ operator op ∷ tokens_of (bracket_all r)) (closer ∷ [])
    ∙ ap (λ p. feed p closer)
    (foldl-append feed (parse (due_in start) (f ∷ fs)) (tokens_of (bracket_all l)) (operator op ∷ tokens_of (bracket_all r))
    ∙ ap (λ p. foldl feed p (operator op ∷ tokens_of (bracket_all r))) (fed l start (f ∷ fs))
    ∙ fed r (record { left = left_of (bracket_all l) op; signs = [] }) (f ∷ fs)
    ∙ ap (λ x. parse (done x) (f ∷ fs)) (extend_bare l op (bracket_all r)))

tree_bracketed : (e : Tree) → tree_of (tokens_of (bracket_all e)) ≡ bracket_all e
unfolding tree_of join_left with_signs
tree_bracketed e = ap (λ p. tree_at p.spot) (fed e start [])

-- ---- the text is read into these tokens

-- what follows a word ends it
abbrev Ends : List ℕ → Type 0
Ends [] = Unit {0}
Ends (c ∷ cs) = (is_ident c ≡ false) × (is_digit c ≡ false)

-- tokens after others, newest first
unfoldable onto : List Token → List Token → List Token
onto [] ts = ts
onto (t ∷ us) ts = onto us (t ∷ ts)

onto_append : (a b ts : List Token) → onto (a ++ b) ts ≡ onto b (onto a ts)
unfolding onto
onto_append [] b ts = refl
onto_append (t ∷ a) b ts = onto_append a b (t ∷ ts)

onto_reverse : (us ts : List Token) → onto us ts ≡ reverse us ++ ts
unfolding onto
onto_reverse [] ts = refl
onto_reverse (t ∷ us) ts = onto_reverse us (t ∷ ts) ∙ sym (ap (λ l. l ++ ts) (reverse-cons t us) ∙ append_assoc (reverse us) (t ∷ []) ts)

back : (us : List Token) → reverse (onto us []) ≡ us
back us = ap reverse (onto_reverse us [] ∙ append-nil (reverse us)) ∙ reverse-reverse us

-- from the state s the text l leads to the state t, with cs left
record To (limit i : ℕ) (s : State) (l : List ℕ) (t : State) (cs : List ℕ) : Type 0 where
  place : ℕ
  is : read_from limit i s l ≡ read_from limit place t cs

-- ---- the characters of a text

ident_high : (c : ℕ) → is_ident c ≡ true → 48 ≤ c
unfolding is_ident
ident_high c h =
    or_cases (within 48 57 c || within 65 90 c || within 97 122 c) (is "_" c)
    (λ h. or_cases (within 48 57 c || within 65 90 c) (within 97 122 c)
    (λ h. or_cases (within 48 57 c) (within 65 90 c) (low 48 57 (omega arith)) (low 65 90 (omega arith)) h) (low 97 122 (omega arith)) h)
    (λ h. let m = eqb-true c 95 h in omega arith) h
  where
    low : (a b : ℕ) → 48 ≤ a → within a b c ≡ true → 48 ≤ c
    low a b k e = let m = leb-true a c (and_left (leb a c) (leb c b) e) in omega arith

module _ (c : ℕ) (h : 48 ≤ c) where
  not_low : (k : ℕ) → k < 48 → eqb c k ≡ false
  not_low k l = ne_eqb c k (λ e. omega arith)

  not_blank_law : is_blank c ≡ false
  not_blank_law = rw (not_low 32 (omega arith), not_low 9 (omega arith))

  not_sign : is_sign c ≡ false
  unfolding is_sign
  not_sign = rw (not_low 43 (omega arith), not_low 45 (omega arith))

first_test : List ℕ → Bool
first_test [] = false
first_test (a ∷ r) = not (is_blank a) && not (eqb a 41) && starts_operator a

second_test : List ℕ → Bool
second_test [] = true
second_test (a ∷ []) = true
second_test (a ∷ b ∷ r) = not (eqb b 32)

firsts : all_of first_test operators ≡ true
unfolding all_of first_test starts_operator computing
firsts = refl

seconds : all_of second_test operators ≡ true
unfolding all_of second_test
seconds = refl

no_space : (a : ℕ) → one_of operators (a ∷ 32 ∷ []) ≡ false
no_space a = go (one_of operators (a ∷ 32 ∷ [])) refl
  where
    never : second_test (a ∷ 32 ∷ []) ≡ true → ⊥
    never h = unfold second_test in let z : ◌≡◌ {A = ℕ} 0 1 = cc in omega arith

    go : (b : Bool) → one_of operators (a ∷ 32 ∷ []) ≡ b → b ≡ false
    go true e = absurd (never (found second_test operators (a ∷ 32 ∷ []) seconds e))
    go false e = refl

sizes : (x y z : List ℕ) → length (40 ∷ (x ++ (32 ∷ (y ++ (32 ∷ (z ++ 41 ∷ [])))))) ≡ 4 + length x + length y + length z
sizes x y z = simp length-append (omega arith)

module _ (limit : ℕ) where
  here : (i : ℕ) (s : State) (cs : List ℕ) → To limit i s cs s cs
  here i s cs = record { place = i; is = refl }

  then : {i : ℕ} {s t u : State} {l cs ds : List ℕ} → To limit i s l t cs → ((j : ℕ) → To limit j t cs u ds) → To limit i s l u ds
  then a b = record { place = (b a.place).place; is = a.is ∙ (b a.place).is }

  on : (i : ℕ) (s t : State) (c : ℕ) (cs : List ℕ) → step limit s c ≡ next t → To limit i s (c ∷ cs) t cs
  unfolding read_from on_step
  on i s t c cs e = record { place = suc i; is = ap (λ (x : Step). on_step i x (λ (u : State). read_from limit (suc i) u cs)) e }

  to_as : {i : ℕ} {s t u : State} {l cs : List ℕ} → t ≡ u → To limit i s l t cs → To limit i s l u cs
  to_as {i} {s} {t} {u} {l} {cs} e a = subst (λ x. To limit i s l x cs) e a

  name_rest : (w : List ℕ) → AllAre is_ident w → (v : List ℕ) (i d : ℕ) (ts : List Token) (cs : List ℕ)
      → To limit i (state (in_name v) d ts) (w ++ cs) (state (in_name (v ++ w)) d ts) cs
  unfolding AllAre
  name_rest [] h v i d ts cs = to_as (ap (λ x. state (in_name x) d ts) (sym (append-nil v))) (here i (state (in_name v) d ts) cs)
  name_rest (c ∷ w) h v i d ts cs =
      then (on i (state (in_name v) d ts) (state (in_name (v ++ c ∷ [])) d ts) c (w ++ cs) (unfold stage_step in choose_true (is_ident c) _ _ h.0))
      (λ j. to_as (ap (λ x. state (in_name x) d ts) (append_assoc v (c ∷ []) w)) (name_rest w h.1 (v ++ c ∷ []) j d ts cs))

  number_rest : (w : List ℕ) → AllAre is_digit w → (v : List ℕ) (i d : ℕ) (ts : List Token) (cs : List ℕ)
      → To limit i (state (in_number v) d ts) (w ++ cs) (state (in_number (v ++ w)) d ts) cs
  unfolding AllAre
  number_rest [] h v i d ts cs = to_as (ap (λ x. state (in_number x) d ts) (sym (append-nil v))) (here i (state (in_number v) d ts) cs)
  number_rest (c ∷ w) h v i d ts cs =
      then (on i (state (in_number v) d ts) (state (in_number (v ++ c ∷ [])) d ts) c (w ++ cs) (unfold stage_step in choose_true (is_digit c) _ _ h.0))
      (λ j. to_as (ap (λ x. state (in_number x) d ts) (append_assoc v (c ∷ []) w)) (number_rest w h.1 (v ++ c ∷ []) j d ts cs))

  -- a word that is whole is a token
  name_end : (w : List ℕ) → one_of keywords w ≡ false → (i d : ℕ) (ts : List Token) (cs : List ℕ) → Ends cs
      → To limit i (state (in_name w) d ts) cs (state after d (word w ∷ ts)) cs
  unfolding read_from ending stage_step
  name_end w k i d ts [] h = record { place = i; is = choose_false (one_of keywords w) _ _ k }
  name_end w k i d ts (c ∷ cs) h =
      record {
        place = i;
        is = ap (λ (x : Step). on_step i x (λ (u : State). read_from limit (suc i) u cs)) (choose_false (is_ident c) _ _ h.0 ∙ choose_false (one_of keywords w) _ _ k);
      }

  number_end : (w : List ℕ) (i d : ℕ) (ts : List Token) (cs : List ℕ) → Ends cs → To limit i (state (in_number w) d ts) cs (state after d (word w ∷ ts)) cs
  unfolding read_from ending stage_step
  number_end w i d ts [] h = record { place = i; is = refl }
  number_end w i d ts (c ∷ cs) h =
      record { place = i; is = ap (λ (x : Step). on_step i x (λ (u : State). read_from limit (suc i) u cs)) (choose_false (is_digit c) _ _ h.1) }

  first_name : (c d : ℕ) (ts : List Token) → is_digit c ≡ false → is_ident c ≡ true → due_step limit d ts c ≡ next (state (in_name (c ∷ [])) d ts)
  unfolding due_step
  first_name c d ts n h =
      let k = ident_high c h in
      choose_false (is_blank c) _ _ (not_blank_law c k) ∙ choose_false (is_sign c) _ _ (not_sign c k) ∙ choose_false (eqb c 40) _ _ (not_low c k 40 (omega arith))
      ∙ choose_false (is_digit c) _ _ n ∙ choose_true (is_ident c) _ _ h

  first_number : (c d : ℕ) (ts : List Token) → is_digit c ≡ true → due_step limit d ts c ≡ next (state (in_number (c ∷ [])) d ts)
  unfolding due_step
  first_number c d ts h =
      let k = ident_high c (digit_ident c h) in
      choose_false (is_blank c) _ _ (not_blank_law c k) ∙ choose_false (is_sign c) _ _ (not_sign c k) ∙ choose_false (eqb c 40) _ _ (not_low c k 40 (omega arith))
      ∙ choose_true (is_digit c) _ _ h

  reads_word : {w : List ℕ} → IsWord w → (i d : ℕ) (ts : List Token) (cs : List ℕ) → Ends cs → To limit i (state due d ts) (w ++ cs) (state after d (word w ∷ ts)) cs
  reads_word (is_name (name c w n h a) k) i d ts cs e =
      then (on i (state due d ts) (state (in_name (c ∷ [])) d ts) c (w ++ cs) (unfold stage_step in first_name c d ts n h))
      (λ j. then (name_rest w a (c ∷ []) j d ts cs) (λ l. name_end (c ∷ w) k l d ts cs e))
  reads_word (is_number (number c w h a)) i d ts cs e =
      then (on i (state due d ts) (state (in_number (c ∷ [])) d ts) c (w ++ cs) (unfold stage_step in first_number c d ts h))
      (λ j. then (number_rest w a (c ∷ []) j d ts cs) (λ l. number_end (c ∷ w) l d ts cs e))

  sign_step_law : (c d : ℕ) (ts : List Token) → is_sign c ≡ true → due_step limit d ts c ≡ next (state due d (sign c ∷ ts))
  unfolding due_step
  sign_step_law c d ts h = choose_false (is_blank c) _ _ no_blank ∙ choose_true (is_sign c) _ _ h
    where
      no_blank : is_blank c ≡ false
      no_blank = or_cases (eqb c 43) (eqb c 45) (λ e. rw (eqb-true c 43 e) refl) (λ e. rw (eqb-true c 45 e) refl) (unfold is_sign in h)

  space_due : (d : ℕ) (ts : List Token) → due_step limit d ts 32 ≡ next (state due d ts)
  unfolding due_step choose
  space_due d ts = refl

  space_after : (d : ℕ) (ts : List Token) → after_step d ts 32 ≡ next (state after d ts)
  unfolding after_step choose
  space_after d ts = refl

  open_step_law : (d : ℕ) (ts : List Token) → d < limit → due_step limit d ts 40 ≡ next (state due (suc d) (opener ∷ ts))
  unfolding due_step open_step choose is_sign
  open_step_law d ts h = choose_false (leb limit d) _ _ (lt-leb limit d h)

  close_step_law : (d : ℕ) (ts : List Token) → after_step (suc d) ts 41 ≡ next (state after d (closer ∷ ts))
  unfolding after_step close_step choose
  close_step_law d ts = refl

  close_on : (i d : ℕ) (ts : List Token) (cs : List ℕ) → To limit i (state after (suc d) ts) (41 ∷ cs) (state after d (closer ∷ ts)) cs
  unfolding stage_step
  close_on i d ts cs = on i (state after (suc d) ts) (state after d (closer ∷ ts)) 41 cs (close_step_law d ts)

  first_step : (a : ℕ) (r : List ℕ) (d : ℕ) (ts : List Token) → one_of operators (a ∷ r) ≡ true → after_step d ts a ≡ next (state (in_operator a) d ts)
  first_step a r d ts h = go (unfold first_test in found first_test operators (a ∷ r) firsts h)
    where
      go : (not (is_blank a) && not (eqb a 41) && starts_operator a) ≡ true → after_step d ts a ≡ next (state (in_operator a) d ts)
      go k =
          let f = and_left (not (is_blank a) && not (eqb a 41)) (starts_operator a) k in
          unfold after_step in
          choose_false (is_blank a) _ _ (not_of (is_blank a) (and_left (not (is_blank a)) (not (eqb a 41)) f))
          ∙ choose_false (eqb a 41) _ _ (not_of (eqb a 41) (and_right (not (is_blank a)) (not (eqb a 41)) f))
          ∙ choose_true (starts_operator a) _ _ (and_right (not (is_blank a) && not (eqb a 41)) (starts_operator a) k)

  -- an operator between spaces
  reads_operator : {op : List ℕ} → IsOperator op → (i d : ℕ) (ts : List Token) (cs : List ℕ)
      → To limit i (state after d ts) (32 ∷ (op ++ 32 ∷ cs)) (state due d (operator op ∷ ts)) cs
  reads_operator (one a h) i d ts cs =
      then (on i (state after d ts) (state after d ts) 32 (a ∷ 32 ∷ cs) (unfold stage_step in space_after d ts))
      (λ j. then (on j (state after d ts) (state (in_operator a) d ts) a (32 ∷ cs) (unfold stage_step in first_step a [] d ts h))
      (λ k. on k (state (in_operator a) d ts) (state due d (operator (a ∷ []) ∷ ts)) 32 cs
      (unfold stage_step in choose_false (one_of operators (a ∷ 32 ∷ [])) _ _ (no_space a) ∙ choose_true (one_of operators (a ∷ [])) _ _ h ∙ space_due d (operator (a ∷ []) ∷ ts))))
  reads_operator (two a c h) i d ts cs =
      then (on i (state after d ts) (state after d ts) 32 (a ∷ c ∷ 32 ∷ cs) (unfold stage_step in space_after d ts))
      (λ j. then (on j (state after d ts) (state (in_operator a) d ts) a (c ∷ 32 ∷ cs) (unfold stage_step in first_step a (c ∷ []) d ts h))
      (λ k. then (on k (state (in_operator a) d ts) (state due d (operator (a ∷ c ∷ []) ∷ ts)) c (32 ∷ cs) (unfold stage_step in choose_true (one_of operators (a ∷ c ∷ [])) _ _ h))
      (λ l. on l (state due d (operator (a ∷ c ∷ []) ∷ ts)) (state due d (operator (a ∷ c ∷ []) ∷ ts)) 32 cs (unfold stage_step in space_due d (operator (a ∷ c ∷ []) ∷ ts)))))

  space_ends : (cs : List ℕ) → Ends (32 ∷ cs)
  unfolding is_ident
  space_ends cs = (refl, refl)

  close_ends : (cs : List ℕ) → Ends (41 ∷ cs)
  unfolding is_ident
  close_ends cs = (refl, refl)

  reads : (e : Tree) → AllSpelled (tokens_of e) → (i d : ℕ) (ts : List Token) (cs : List ℕ) → Ends cs → d + length (written e) ≤ limit
      → To limit i (state due d ts) (written e ++ cs) (state after d (onto (tokens_of (bracket_all e)) ts)) cs
  unfolding written tokens_of bracket_all onto AllSpelled SpelledToken
  reads (operand w) h i d ts cs k l = reads_word h.0 i d ts cs k
  reads (signed c e) h i d ts cs k l =
      then (on i (state due d ts) (state due d (sign c ∷ ts)) c (written e ++ cs) (unfold stage_step in sign_step_law c d ts h.0))
      (λ j. reads e h.1 j d (sign c ∷ ts) cs k (omega arith))
  reads (bracketed e) h i d ts cs k l = reads e (spelled_first (tokens_of e) (closer ∷ []) h.1) i d ts cs k l
  reads (operation op a b) h i d ts cs k l =
      let u = spelled_first (tokens_of a) (operator op ∷ tokens_of b) h in
      let v = spelled_second (tokens_of a) (operator op ∷ tokens_of b) h in
      subst (λ x. To limit i (state due d ts) x (state after d (onto (tokens_of (bracketed (operation op (bracket_all a) (bracket_all b)))) ts)) cs)
      (regroup (written a) op (written b) cs)
      (then (on i (state due d ts) (state due (suc d) (opener ∷ ts)) 40 (written a ++ (32 ∷ (op ++ 32 ∷ (written b ++ 41 ∷ cs)))) (unfold stage_step in open_step_law d ts (omega (arith, long))))
      (λ j. then (reads a u j (suc d) (opener ∷ ts) (32 ∷ (op ++ 32 ∷ (written b ++ 41 ∷ cs))) (space_ends (op ++ 32 ∷ (written b ++ 41 ∷ cs))) (omega (arith, long)))
      (λ n. then (reads_operator v.0 n (suc d) (onto (tokens_of (bracket_all a)) (opener ∷ ts)) (written b ++ 41 ∷ cs))
      (λ o. then (reads b v.1 o (suc d) (operator op ∷ onto (tokens_of (bracket_all a)) (opener ∷ ts)) (41 ∷ cs) (close_ends cs) (omega (arith, long)))
      (λ p. to_as (ap (state after d) tokens) (close_on p d (onto (tokens_of (bracket_all b)) (operator op ∷ onto (tokens_of (bracket_all a)) (opener ∷ ts))) cs))))))
    where
      long : length (40 ∷ (written a ++ (32 ∷ (op ++ (32 ∷ (written b ++ 41 ∷ [])))))) ≡ 4 + length (written a) + length op + length (written b)
      long = sizes (written a) op (written b)

      regroup : (x y z cs : List ℕ) → 40 ∷ (x ++ (32 ∷ (y ++ 32 ∷ (z ++ 41 ∷ cs)))) ≡ (40 ∷ (x ++ (32 ∷ (y ++ (32 ∷ (z ++ 41 ∷ [])))))) ++ cs
      regroup x y z cs = simp append_assoc

      tokens : closer ∷ onto (tokens_of (bracket_all b)) (operator op ∷ onto (tokens_of (bracket_all a)) (opener ∷ ts)) ≡ onto (tokens_of (bracketed (operation op (bracket_all a) (bracket_all b)))) ts
      tokens = sym (onto_append (tokens_of (bracket_all a) ++ operator op ∷ tokens_of (bracket_all b)) (closer ∷ []) (opener ∷ ts)
          ∙ ap (onto (closer ∷ [])) (onto_append (tokens_of (bracket_all a)) (operator op ∷ tokens_of (bracket_all b)) (opener ∷ ts)))

pub same_tree : (e : Tree) → AllSpelled (tokens_of e) → SameTree (written e) e
unfolding reading_to read_from ending ended
same_tree e h =
    let t = reads (length (written e)) e h 0 0 [] [] tt (omega arith) in
    record {
      tokens = tokens_of (bracket_all e);
      is = ap (read_from (length (written e)) 0 (state due 0 [])) (sym (append-nil (written e))) ∙ t.is ∙ ap read (back (tokens_of (bracket_all e)));
      same = ap unbracketed (tree_bracketed e) ∙ bare_same e;
    }

-- The two passes write the tree.
use Prim.Native.Nat.{ℕ, ◌+◌, ◌-◌, ◌≤◌, ◌<◌}
use mathlib.Core.Bool.{true, false}
use mathlib.Core.List.{List, [], ◌∷◌, ◌++◌, append_assoc, append-nil}
use mathlib.Core.Path.{◌≡◌, refl, ap, sym, ◌∙◌}
use native.Mathlib.Omega.{arith}
use lib.Dec.{eqb, lit≤}
use borrow.Author.Tests.{eq-eqb, ne_eqb, le-ltb, lt-ltb, le-leb, lt-leb}
use Rattle.rules.specs.Basics.{choose}
use Rattle.rules.proofs.Choose.{choose_true, choose_false}
use Rattle.group_rules.specs.Expression.{Token, operator, closer}
use Rattle.group_rules.specs.Grouping.{Tree, operand, signed, bracketed, operation, strength_of, takes, written}
use Rattle.group_rules.specs.Promises.{on_left, on_right, under_sign, Grouped}
use Rattle.group_rules.specs.Passes.{codes_of, coded, Pass, pass, opens_after, open_bracket, open_operator, back_step, open_back, opened_text, closes_before, close_end, close_bracket, close_operator, forth_step, close_forth, closed_text}
use Rattle.group_rules.proofs.TokenLaws.{tokens_of}
use Rattle.group_rules.proofs.PlainLaws.{Plain, PlainToken, AllPlain, all_first, all_second_law}
use Rattle.group_rules.proofs.TakesLaws.{left_test, left_stays, right_takes, right_le, not_taken_up, taken_left, takes_zero, takes_lt}

-- ---- bytes that are written as they are

-- what an expression's tokens are made of
unfoldable pub PlainTree : Tree → Type 0
PlainTree (operand w) = Plain w
PlainTree (signed c e) = (32 ≤ c) × PlainTree e
PlainTree (bracketed e) = PlainTree e
PlainTree (operation op l r) = Plain op × (0 < strength_of op) × (strength_of op ≤ 12) × PlainTree l × PlainTree r

pub plain_tree : (e : Tree) → AllPlain (tokens_of e) → PlainTree e
unfolding tokens_of AllPlain PlainToken PlainTree
plain_tree (operand w) h = h.0
plain_tree (signed c e) h = (h.0, plain_tree e h.1)
plain_tree (bracketed e) h = plain_tree e (all_first (tokens_of e) (closer ∷ []) h.1)
plain_tree (operation op l r) h =
    let k = all_second_law (tokens_of l) (operator op ∷ tokens_of r) h in
    (k.0.chars, k.0.positive, k.0.small, plain_tree l (all_first (tokens_of l) (operator op ∷ tokens_of r) h), plain_tree r k.1)

-- ---- the codes of a tree, with what follows

codes_with : Tree → List ℕ → List ℕ
codes_with (operand w) m = w ++ m
codes_with (signed c e) m = c ∷ codes_with e m
codes_with (bracketed e) m = 14 ∷ codes_with e (15 ∷ m)
codes_with (operation op l r) m = codes_with l (strength_of op ∷ (op ++ (strength_of op + 16) ∷ codes_with r m))

pub coded_append : (a b : List Token) → coded (a ++ b) ≡ coded a ++ coded b
unfolding coded
coded_append [] b = refl
coded_append (t ∷ a) b = ap (λ l. codes_of t ++ l) (coded_append a b) ∙ sym (append_assoc (codes_of t) (coded a) (coded b))

codes_with_law : (e : Tree) (m : List ℕ) → coded (tokens_of e) ++ m ≡ codes_with e m
unfolding coded tokens_of codes_with
codes_with_law (operand w) m = ap (λ l. l ++ m) (append-nil w)
codes_with_law (signed c e) m = ap (λ l. c ∷ l) (codes_with_law e m)
codes_with_law (bracketed e) m =
    ap (λ l. 14 ∷ l) (ap (λ l. l ++ m) (coded_append (tokens_of e) (closer ∷ [])) ∙ append_assoc (coded (tokens_of e)) (15 ∷ []) m ∙ codes_with_law e (15 ∷ m))
codes_with_law (operation op l r) m =
    ap (λ x. x ++ m) (coded_append (tokens_of l) (operator op ∷ tokens_of r)) ∙ append_assoc (coded (tokens_of l)) (coded (operator op ∷ tokens_of r)) m
    ∙ codes_with_law l (coded (operator op ∷ tokens_of r) ++ m)
    ∙ ap (λ x. codes_with l (strength_of op ∷ x)) (regroup op (strength_of op + 16) (coded (tokens_of r)) m ∙ ap (λ x. op ++ (strength_of op + 16) ∷ x) (codes_with_law r m))
  where
    regroup : (a : List ℕ) (s : ℕ) (b c : List ℕ) → ((a ++ s ∷ []) ++ b) ++ c ≡ a ++ s ∷ (b ++ c)
    regroup a s b c = simp append_assoc

-- ---- back: the opened text of a tree, with what follows; the strengths of the operations that it starts with, the
-- innermost first

lefts : Tree → List ℕ
lefts (operand w) = []
lefts (signed c e) = []
lefts (bracketed e) = []
lefts (operation op l r) = lefts l ++ strength_of op ∷ []

parens : List ℕ → List ℕ → List ℕ
parens [] m = m
parens (x ∷ xs) m = parens xs (40 ∷ m)

half : Tree → List ℕ → List ℕ
half (operand w) m = w ++ m
half (signed c e) m = c ∷ half e m
half (bracketed e) m = 14 ∷ parens (lefts e) (half e (15 ∷ m))
half (operation op l r) m = half l (strength_of op ∷ (op ++ 32 ∷ parens (lefts r) (half r m)))

-- an operator of strength s stops at this spine
Stays : ℕ → List ℕ → Type 0
Stays s [] = Unit {0}
Stays s (t ∷ sp) = takes s t ≡ false

AllTaken : ℕ → List ℕ → Type 0
AllTaken s [] = Unit {0}
AllTaken s (t ∷ ts) = (takes s t ≡ true) × AllTaken s ts

open_stays : (s : ℕ) (m sp : List ℕ) → Stays s sp → opens_after s m sp ≡ pass m sp
unfolding opens_after Stays
open_stays s m [] h = refl
open_stays s m (t ∷ sp) h = choose_false (takes s t) _ _ h

open_taken : (s : ℕ) (ts m sp : List ℕ) → AllTaken s ts → Stays s sp → opens_after s m (ts ++ sp) ≡ pass (parens ts m) sp
unfolding opens_after AllTaken parens
open_taken s [] m sp a h = open_stays s m sp h
open_taken s (t ∷ ts) m sp a h = choose_true (takes s t) _ _ a.0 ∙ open_taken s ts (40 ∷ m) sp a.1 h

taken_append : (s : ℕ) (a b : List ℕ) → AllTaken s a → AllTaken s b → AllTaken s (a ++ b)
unfolding AllTaken
taken_append s [] b h k = k
taken_append s (t ∷ a) b h k = (h.0, taken_append s a b h.1 k)

abbrev RootTaken : ℕ → Tree → Type 0
RootTaken s (operand w) = Unit {0}
RootTaken s (signed c e) = Unit {0}
RootTaken s (bracketed e) = Unit {0}
RootTaken s (operation op l r) = takes s (strength_of op) ≡ true

left_taken : (s : ℕ) (op : List ℕ) (l : Tree) → takes s (strength_of op) ≡ true → on_left op l → RootTaken s l
left_taken s op (operand w) h k = tt
left_taken s op (signed c e) h k = tt
left_taken s op (bracketed e) h k = tt
left_taken s op (operation o l r) h k = taken_left s (strength_of op) (strength_of o) h k

lefts_taken : (s : ℕ) (e : Tree) → Grouped e → RootTaken s e → AllTaken s (lefts e)
unfolding Grouped lefts AllTaken
lefts_taken s (operand w) g h = tt
lefts_taken s (signed c e) g h = tt
lefts_taken s (bracketed e) g h = tt
lefts_taken s (operation op l r) g h =
    taken_append s (lefts l) (strength_of op ∷ []) (lefts_taken s l g.2 (left_taken s op l h g.0)) (h, tt)

right_taken : (op : List ℕ) (r : Tree) → on_right op r → RootTaken (strength_of op) r
right_taken op (operand w) k = tt
right_taken op (signed c e) k = tt
right_taken op (bracketed e) k = tt
right_taken op (operation o l r) k = right_takes (strength_of op) (strength_of o) k

zero_taken : (e : Tree) → PlainTree e → RootTaken 0 e
unfolding PlainTree
zero_taken (operand w) p = tt
zero_taken (signed c e) p = tt
zero_taken (bracketed e) p = tt
zero_taken (operation op l r) p = takes_lt 0 (strength_of op) p.1

abbrev RootStays : Tree → List ℕ → Type 0
RootStays (operand w) sp = Unit {0}
RootStays (signed c e) sp = Unit {0}
RootStays (bracketed e) sp = Unit {0}
RootStays (operation op l r) sp = Stays (strength_of op) sp

stays_up : (s t : ℕ) (sp : List ℕ) → Stays s sp → s ≤ t → Stays t sp
unfolding Stays
stays_up s t [] h k = tt
stays_up s t (u ∷ sp) h k = not_taken_up s t u h k

right_stays : (op : List ℕ) (r : Tree) (sp : List ℕ) → on_right op r → Stays (strength_of op) sp → RootStays r sp
right_stays op (operand w) sp k h = tt
right_stays op (signed c e) sp k h = tt
right_stays op (bracketed e) sp k h = tt
right_stays op (operation o l r) sp k h = stays_up (strength_of op) (strength_of o) sp h (right_le (strength_of op) (strength_of o) k)

left_root : (op : List ℕ) (l : Tree) (sp : List ℕ) → on_left op l → RootStays l (strength_of op ∷ sp)
unfolding Stays
left_root op (operand w) sp k = tt
left_root op (signed c e) sp k = tt
left_root op (bracketed e) sp k = tt
left_root op (operation o l r) sp k = left_stays (strength_of op) (strength_of o) k

bracket_root : (e : Tree) (sp : List ℕ) → RootStays e (0 ∷ sp)
unfolding Stays
bracket_root (operand w) sp = tt
bracket_root (signed c e) sp = tt
bracket_root (bracketed e) sp = tt
bracket_root (operation o l r) sp = takes_zero (strength_of o)

-- one code
back_plain : (b : ℕ) (p : Pass) → 32 ≤ b → back_step b p ≡ pass (b ∷ p.text) p.spine
unfolding back_step choose
back_plain b p h = rw (ne_eqb b 14 (λ e. omega arith), ne_eqb b 15 (λ e. omega arith), lt-ltb 16 b (omega arith), le-ltb b 32 h)

back_left : (b : ℕ) (p : Pass) → b ≤ 12 → back_step b p ≡ pass (b ∷ p.text) p.spine
unfolding back_step choose
back_left b p h = rw (ne_eqb b 14 (λ e. omega arith), ne_eqb b 15 (λ e. omega arith), le-ltb 16 b (omega arith))

back_right : (s : ℕ) (p : Pass) → 0 < s → s ≤ 12 → back_step (s + 16) p ≡ open_operator s (opens_after s p.text p.spine)
unfolding back_step choose
back_right s p h k =
    rw (ne_eqb (s + 16) 14 (λ e. omega arith), ne_eqb (s + 16) 15 (λ e. omega arith), lt-ltb 16 (s + 16) (omega arith), lt-ltb (s + 16) 32 (omega arith))
    (ap (λ n. open_operator n (opens_after n p.text p.spine)) same)
  where
    same : (s + 16) - 16 ≡ s
    same = omega arith

back_closer : (p : Pass) → back_step 15 p ≡ pass (15 ∷ p.text) (0 ∷ p.spine)
unfolding back_step choose
back_closer p = refl

back_opener : (p : Pass) → back_step 14 p ≡ open_bracket (opens_after 0 p.text p.spine)
unfolding back_step choose
back_opener p = refl

back_word : (w m : List ℕ) → Plain w → (t sp : List ℕ) → open_back m ≡ pass t sp → open_back (w ++ m) ≡ pass (w ++ t) sp
unfolding Plain open_back
back_word [] m h t sp e = e
back_word (b ∷ w) m h t sp e = ap (back_step b) (back_word w m h.1 t sp e) ∙ back_plain b (pass (w ++ t) sp) h.0

lefts_under : (e : Tree) → under_sign e → lefts e ≡ []
unfolding lefts
lefts_under (operand w) u = refl
lefts_under (signed c e) u = refl
lefts_under (bracketed e) u = refl
lefts_under (operation op l r) u = absurd u

under_stays : (e : Tree) (sp : List ℕ) → under_sign e → RootStays e sp
under_stays (operand w) sp u = tt
under_stays (signed c e) sp u = tt
under_stays (bracketed e) sp u = tt
under_stays (operation op l r) sp u = absurd u

back_tree : (e : Tree) → Grouped e → PlainTree e → (m t sp : List ℕ) → RootStays e sp → open_back m ≡ pass t sp
    → open_back (codes_with e m) ≡ pass (half e t) (lefts e ++ sp)
unfolding Grouped PlainTree codes_with half lefts open_back open_bracket open_operator
back_tree (operand w) g p m t sp h k = back_word w m p t sp k
back_tree (signed c e) g p m t sp h k =
    ap (back_step c) (back_tree e g.1 p.1 m t sp (under_stays e sp g.0) k)
    ∙ back_plain c (pass (half e t) (lefts e ++ sp)) p.0
    ∙ ap (λ l. pass (c ∷ half e t) (l ++ sp)) (lefts_under e g.0)
back_tree (bracketed e) g p m t sp h k =
    ap (back_step 14) (back_tree e g p (15 ∷ m) (15 ∷ t) (0 ∷ sp) (bracket_root e sp) (ap (back_step 15) k ∙ back_closer (pass t sp)))
    ∙ back_opener (pass (half e (15 ∷ t)) (lefts e ++ 0 ∷ sp))
    ∙ ap open_bracket (open_taken 0 (lefts e) (half e (15 ∷ t)) (0 ∷ sp) (lefts_taken 0 e g (zero_taken e p)) (unfold Stays in takes_zero 0))
back_tree (operation op l r) g p m t sp h k =
    back_tree l g.2 p.3 (strength_of op ∷ (op ++ (strength_of op + 16) ∷ codes_with r m)) (strength_of op ∷ (op ++ 32 ∷ parens (lefts r) (half r t)))
    (strength_of op ∷ sp) (left_root op l sp g.0)
    (ap (back_step (strength_of op))
    (back_word op ((strength_of op + 16) ∷ codes_with r m) p.0 (32 ∷ parens (lefts r) (half r t)) (strength_of op ∷ sp)
    (ap (back_step (strength_of op + 16)) (back_tree r g.3 p.4 m t sp (right_stays op r sp g.1 h) k)
    ∙ back_right (strength_of op) (pass (half r t) (lefts r ++ sp)) p.1 p.2
    ∙ ap (open_operator (strength_of op)) (open_taken (strength_of op) (lefts r) (half r t) sp (lefts_taken (strength_of op) r g.3 (right_taken op r g.1)) h)))
    ∙ back_left (strength_of op) (pass (op ++ 32 ∷ parens (lefts r) (half r t)) (strength_of op ∷ sp)) p.2)
    ∙ ap (λ x. pass (half l (strength_of op ∷ (op ++ 32 ∷ parens (lefts r) (half r t)))) x) (sym (append_assoc (lefts l) (strength_of op ∷ []) sp))

-- ---- forth: a tree's text up to its last operand; the strengths of the operations that end with it, the innermost
-- first

rights : Tree → List ℕ
rights (operand w) = []
rights (signed c e) = []
rights (bracketed e) = []
rights (operation op l r) = rights r ++ strength_of op ∷ []

closers : List ℕ → List ℕ
closers [] = []
closers (x ∷ xs) = 41 ∷ closers xs

front : Tree → List ℕ
front (operand w) = w
front (signed c e) = c ∷ written e
front (bracketed e) = written e
front (operation op l r) = 40 ∷ (written l ++ (32 ∷ (op ++ (32 ∷ front r))))

closers_snoc : (xs : List ℕ) (s : ℕ) → closers (xs ++ s ∷ []) ≡ closers xs ++ 41 ∷ []
unfolding closers
closers_snoc [] s = refl
closers_snoc (x ∷ xs) s = ap (λ l. 41 ∷ l) (closers_snoc xs s)

written_front : (e : Tree) → written e ≡ front e ++ closers (rights e)
unfolding written front closers rights
written_front (operand w) = sym (append-nil w)
written_front (signed c e) = sym (append-nil (c ∷ written e))
written_front (bracketed e) = sym (append-nil (written e))
written_front (operation op l r) =
    ap (λ x. 40 ∷ (written l ++ (32 ∷ (op ++ (32 ∷ (x ++ 41 ∷ [])))))) (written_front r)
    ∙ regroup (written l) op (front r) (closers (rights r))
    ∙ ap (λ x. (40 ∷ (written l ++ (32 ∷ (op ++ (32 ∷ front r))))) ++ x) (sym (closers_snoc (rights r) (strength_of op)))
  where
    regroup : (a b c d : List ℕ) → 40 ∷ (a ++ (32 ∷ (b ++ (32 ∷ ((c ++ d) ++ 41 ∷ []))))) ≡ (40 ∷ (a ++ (32 ∷ (b ++ (32 ∷ c))))) ++ (d ++ 41 ∷ [])
    regroup a b c d = simp append_assoc

Goes : ℕ → List ℕ → Type 0
Goes s [] = Unit {0}
Goes s (t ∷ sp) = takes t s ≡ true

AllEnd : ℕ → List ℕ → Type 0
AllEnd s [] = Unit {0}
AllEnd s (t ∷ ts) = (takes t s ≡ false) × AllEnd s ts

AllPositive : List ℕ → Type 0
AllPositive [] = Unit {0}
AllPositive (t ∷ ts) = (0 < t) × AllPositive ts

-- empty, or a bracket is next
Bottom : List ℕ → Type 0
Bottom [] = Unit {0}
Bottom (t ∷ sp) = t ≡ 0

one_more : (t ts : List ℕ) → (t ++ 41 ∷ []) ++ ts ≡ t ++ 41 ∷ ts
one_more t ts = append_assoc t (41 ∷ []) ts

close_ended : (s : ℕ) (ts t sp : List ℕ) → AllEnd s ts → Goes s sp → closes_before s t (ts ++ sp) ≡ pass (t ++ closers ts) sp
unfolding closes_before AllEnd Goes closers
close_ended s [] t [] a h = ap (λ x. pass x []) (sym (append-nil t))
close_ended s [] t (u ∷ sp) a h = choose_true (takes u s) _ _ h ∙ ap (λ x. pass x (u ∷ sp)) (sym (append-nil t))
close_ended s (x ∷ ts) t sp a h =
    choose_false (takes x s) _ _ a.0 ∙ close_ended s ts (t ++ 41 ∷ []) sp a.1 h ∙ ap (λ y. pass y sp) (one_more t (closers ts))

end_ended : (ts t sp : List ℕ) → AllPositive ts → Bottom sp → close_end t (ts ++ sp) ≡ pass (t ++ closers ts) sp
unfolding close_end AllPositive Bottom closers
end_ended [] t [] a h = ap (λ x. pass x []) (sym (append-nil t))
end_ended [] t (u ∷ sp) a h = choose_true (eqb u 0) _ _ (eq-eqb u 0 h) ∙ ap (λ x. pass x (u ∷ sp)) (sym (append-nil t))
end_ended (x ∷ ts) t sp a h =
    choose_false (eqb x 0) _ _ (ne_eqb x 0 (λ e. let k = a.0 in omega arith)) ∙ end_ended ts (t ++ 41 ∷ []) sp a.1 h ∙ ap (λ y. pass y sp) (one_more t (closers ts))

positive_append : (a b : List ℕ) → AllPositive a → AllPositive b → AllPositive (a ++ b)
unfolding AllPositive
positive_append [] b h k = k
positive_append (t ∷ a) b h k = (h.0, positive_append a b h.1 k)

rights_positive : (e : Tree) → PlainTree e → AllPositive (rights e)
unfolding PlainTree rights AllPositive
rights_positive (operand w) p = tt
rights_positive (signed c e) p = tt
rights_positive (bracketed e) p = tt
rights_positive (operation op l r) p = positive_append (rights r) (strength_of op ∷ []) (rights_positive r p.4) (p.1, tt)

end_append : (s : ℕ) (a b : List ℕ) → AllEnd s a → AllEnd s b → AllEnd s (a ++ b)
unfolding AllEnd
end_append s [] b h k = k
end_append s (t ∷ a) b h k = (h.0, end_append s a b h.1 k)

abbrev RootEnds : ℕ → Tree → Type 0
RootEnds s (operand w) = Unit {0}
RootEnds s (signed c e) = Unit {0}
RootEnds s (bracketed e) = Unit {0}
RootEnds s (operation op l r) = takes (strength_of op) s ≡ false

right_ends : (s : ℕ) (op : List ℕ) (r : Tree) → takes (strength_of op) s ≡ false → on_right op r → RootEnds s r
right_ends s op (operand w) h k = tt
right_ends s op (signed c e) h k = tt
right_ends s op (bracketed e) h k = tt
right_ends s op (operation o l r) h k = not_taken_up (strength_of op) (strength_of o) s h (right_le (strength_of op) (strength_of o) k)

rights_end : (s : ℕ) (e : Tree) → Grouped e → RootEnds s e → AllEnd s (rights e)
unfolding Grouped rights AllEnd
rights_end s (operand w) g h = tt
rights_end s (signed c e) g h = tt
rights_end s (bracketed e) g h = tt
rights_end s (operation op l r) g h = end_append s (rights r) (strength_of op ∷ []) (rights_end s r g.3 (right_ends s op r h g.1)) (h, tt)

left_ends : (op : List ℕ) (l : Tree) → on_left op l → RootEnds (strength_of op) l
left_ends op (operand w) k = tt
left_ends op (signed c e) k = tt
left_ends op (bracketed e) k = tt
left_ends op (operation o l r) k = left_stays (strength_of op) (strength_of o) k

abbrev RootGoes : Tree → List ℕ → Type 0
RootGoes (operand w) sp = Unit {0}
RootGoes (signed c e) sp = Unit {0}
RootGoes (bracketed e) sp = Unit {0}
RootGoes (operation op l r) sp = Goes (strength_of op) sp

goes_left : (s t : ℕ) (sp : List ℕ) → Goes s sp → left_test s t ≡ true → Goes t sp
unfolding Goes
goes_left s t [] h k = tt
goes_left s t (u ∷ sp) h k = taken_left u s t h k

left_goes : (op : List ℕ) (l : Tree) (sp : List ℕ) → on_left op l → Goes (strength_of op) sp → RootGoes l sp
left_goes op (operand w) sp k h = tt
left_goes op (signed c e) sp k h = tt
left_goes op (bracketed e) sp k h = tt
left_goes op (operation o l r) sp k h = goes_left (strength_of op) (strength_of o) sp h k

right_goes : (op : List ℕ) (r : Tree) (sp : List ℕ) → on_right op r → RootGoes r (strength_of op ∷ sp)
unfolding Goes
right_goes op (operand w) sp k = tt
right_goes op (signed c e) sp k = tt
right_goes op (bracketed e) sp k = tt
right_goes op (operation o l r) sp k = right_takes (strength_of op) (strength_of o) k

bracket_goes : (e : Tree) (sp : List ℕ) → PlainTree e → RootGoes e (0 ∷ sp)
unfolding Goes PlainTree
bracket_goes (operand w) sp p = tt
bracket_goes (signed c e) sp p = tt
bracket_goes (bracketed e) sp p = tt
bracket_goes (operation o l r) sp p = takes_lt 0 (strength_of o) p.1

under_goes : (e : Tree) (sp : List ℕ) → under_sign e → RootGoes e sp
under_goes (operand w) sp u = tt
under_goes (signed c e) sp u = tt
under_goes (bracketed e) sp u = tt
under_goes (operation op l r) sp u = absurd u

rights_under : (e : Tree) → under_sign e → rights e ≡ []
unfolding rights
rights_under (operand w) u = refl
rights_under (signed c e) u = refl
rights_under (bracketed e) u = refl
rights_under (operation op l r) u = absurd u

front_under : (e : Tree) → under_sign e → front e ≡ written e
unfolding front written
front_under (operand w) u = refl
front_under (signed c e) u = refl
front_under (bracketed e) u = refl
front_under (operation op l r) u = absurd u

forth_plain : (t sp : List ℕ) (b : ℕ) → 32 ≤ b → forth_step (pass t sp) b ≡ pass (t ++ b ∷ []) sp
unfolding forth_step choose
forth_plain t sp b h = rw (ne_eqb b 15 (λ e. omega arith), ne_eqb b 14 (λ e. omega arith), lt-leb b 12 (omega arith))

forth_left : (t sp : List ℕ) (s : ℕ) → s ≤ 12 → forth_step (pass t sp) s ≡ close_operator s (closes_before s t sp)
unfolding forth_step choose
forth_left t sp s h = rw (ne_eqb s 15 (λ e. omega arith), ne_eqb s 14 (λ e. omega arith), le-leb s 12 h)

forth_opener : (t sp : List ℕ) → forth_step (pass t sp) 14 ≡ pass t (0 ∷ sp)
unfolding forth_step choose
forth_opener t sp = refl

forth_closer : (t sp : List ℕ) → forth_step (pass t sp) 15 ≡ close_bracket (close_end t sp)
unfolding forth_step choose
forth_closer t sp = refl

forth_word : (w t sp m : List ℕ) → Plain w → close_forth (pass t sp) (w ++ m) ≡ close_forth (pass (t ++ w) sp) m
unfolding Plain close_forth
forth_word [] t sp m h = ap (λ x. close_forth (pass x sp) m) (sym (append-nil t))
forth_word (b ∷ w) t sp m h =
    ap (λ p. close_forth p (w ++ m)) (forth_plain t sp b h.0) ∙ forth_word w (t ++ b ∷ []) sp m h.1
    ∙ ap (λ x. close_forth (pass x sp) m) (append_assoc t (b ∷ []) w)

parens_snoc : (xs : List ℕ) (s : ℕ) (m : List ℕ) → parens (xs ++ s ∷ []) m ≡ 40 ∷ parens xs m
unfolding parens
parens_snoc [] s m = refl
parens_snoc (x ∷ xs) s m = parens_snoc xs s (40 ∷ m)

forth_tree : (e : Tree) → Grouped e → PlainTree e → (t sp m : List ℕ) → RootGoes e sp
    → close_forth (pass t sp) (parens (lefts e) (half e m)) ≡ close_forth (pass (t ++ front e) (rights e ++ sp)) m
unfolding Grouped PlainTree half lefts parens close_forth front rights close_bracket close_operator
forth_tree (operand w) g p t sp m h = forth_word w t sp m p
forth_tree (signed c e) g p t sp m h =
    ap (λ q. close_forth q (half e m)) (forth_plain t sp c p.0)
    ∙ ap (λ l. close_forth (pass (t ++ c ∷ []) sp) (parens l (half e m))) (sym (lefts_under e g.0))
    ∙ forth_tree e g.1 p.1 (t ++ c ∷ []) sp m (under_goes e sp g.0)
    ∙ ap (λ l. close_forth (pass ((t ++ c ∷ []) ++ front e) (l ++ sp)) m) (rights_under e g.0)
    ∙ ap (λ x. close_forth (pass x sp) m) (ap (λ x. (t ++ c ∷ []) ++ x) (front_under e g.0) ∙ append_assoc t (c ∷ []) (written e))
forth_tree (bracketed e) g p t sp m h =
    ap (λ q. close_forth q (parens (lefts e) (half e (15 ∷ m)))) (forth_opener t sp)
    ∙ forth_tree e g p t (0 ∷ sp) (15 ∷ m) (bracket_goes e sp p)
    ∙ ap (λ q. close_forth q m) (forth_closer (t ++ front e) (rights e ++ 0 ∷ sp) ∙ ap close_bracket (end_ended (rights e) (t ++ front e) (0 ∷ sp) (rights_positive e p) (unfold Bottom in refl)))
    ∙ ap (λ x. close_forth (pass x sp) m) (append_assoc t (front e) (closers (rights e)) ∙ ap (λ x. t ++ x) (sym (written_front e)))
forth_tree (operation op l r) g p t sp m h =
    ap (close_forth (pass t sp)) (parens_snoc (lefts l) (strength_of op) (half l (strength_of op ∷ (op ++ 32 ∷ parens (lefts r) (half r m)))))
    ∙ ap (λ q. close_forth q (parens (lefts l) (half l (strength_of op ∷ (op ++ 32 ∷ parens (lefts r) (half r m)))))) (forth_plain t sp 40 (lit≤ tt))
    ∙ forth_tree l g.2 p.3 (t ++ 40 ∷ []) sp (strength_of op ∷ (op ++ 32 ∷ parens (lefts r) (half r m))) (left_goes op l sp g.0 h)
    ∙ ap (λ q. close_forth q (op ++ 32 ∷ parens (lefts r) (half r m)))
    (forth_left ((t ++ 40 ∷ []) ++ front l) (rights l ++ sp) (strength_of op) p.2
    ∙ ap (close_operator (strength_of op)) (close_ended (strength_of op) (rights l) ((t ++ 40 ∷ []) ++ front l) sp (rights_end (strength_of op) l g.2 (left_ends op l g.0)) h))
    ∙ forth_word op ((((t ++ 40 ∷ []) ++ front l) ++ closers (rights l)) ++ 32 ∷ []) (strength_of op ∷ sp) (32 ∷ parens (lefts r) (half r m)) p.0
    ∙ ap (λ q. close_forth q (parens (lefts r) (half r m))) (forth_plain (((((t ++ 40 ∷ []) ++ front l) ++ closers (rights l)) ++ 32 ∷ []) ++ op) (strength_of op ∷ sp) 32 (lit≤ tt))
    ∙ forth_tree r g.3 p.4 ((((((t ++ 40 ∷ []) ++ front l) ++ closers (rights l)) ++ 32 ∷ []) ++ op) ++ 32 ∷ []) (strength_of op ∷ sp) m (right_goes op r sp g.1)
    ∙ ap (λ x. close_forth (pass x (rights r ++ strength_of op ∷ sp)) m) (regroup (front l) (closers (rights l)) op (front r) ∙ ap (λ x. t ++ 40 ∷ (x ++ (32 ∷ (op ++ (32 ∷ front r))))) (sym (written_front l)))
    ∙ ap (λ x. close_forth (pass (t ++ front (operation op l r)) x) m) (sym (append_assoc (rights r) (strength_of op ∷ []) sp))
  where
    regroup : (a b c d : List ℕ) → (((((((t ++ 40 ∷ []) ++ a) ++ b) ++ 32 ∷ []) ++ c) ++ 32 ∷ []) ++ d) ≡ t ++ 40 ∷ ((a ++ b) ++ (32 ∷ (c ++ (32 ∷ d))))
    regroup a b c d = simp append_assoc

-- ---- the two passes, one after the other

empty_stays : (e : Tree) → RootStays e []
unfolding Stays
empty_stays (operand w) = tt
empty_stays (signed c e) = tt
empty_stays (bracketed e) = tt
empty_stays (operation op l r) = tt

empty_goes : (e : Tree) → RootGoes e []
unfolding Goes
empty_goes (operand w) = tt
empty_goes (signed c e) = tt
empty_goes (bracketed e) = tt
empty_goes (operation op l r) = tt

opened : (e : Tree) → Grouped e → PlainTree e → opened_text (coded (tokens_of e)) ≡ parens (lefts e) (half e [])
unfolding opened_text open_back Stays
opened e g p =
    ap (λ q. (opens_after 0 q.text q.spine).text)
    (ap open_back (sym (append-nil (coded (tokens_of e))) ∙ codes_with_law e []) ∙ back_tree e g p [] [] [] (empty_stays e) refl)
    ∙ ap (λ q. q.text) (open_taken 0 (lefts e) (half e []) [] (lefts_taken 0 e g (zero_taken e p)) tt)

closed : (e : Tree) → Grouped e → PlainTree e → closed_text (parens (lefts e) (half e [])) ≡ written e
unfolding closed_text close_forth Bottom
closed e g p =
    ap (λ q. (close_end q.text q.spine).text) (forth_tree e g p [] [] [] (empty_goes e))
    ∙ ap (λ q. q.text) (end_ended (rights e) (front e) [] (rights_positive e p) tt)
    ∙ sym (written_front e)

pub passes : (e : Tree) → Grouped e → PlainTree e → closed_text (opened_text (coded (tokens_of e))) ≡ written e
passes e g p =
    ap closed_text (opened e g p) ∙ closed e g p

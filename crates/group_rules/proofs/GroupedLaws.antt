-- Every tree that tokens give is grouped as C-21 asks.
use Prim.Native.Nat.{ℕ}
use mathlib.Core.Bool.{Bool, true, false, not, ◌&&◌, ◌||◌}
use mathlib.Core.List.{List, [], ◌∷◌, foldl}
use mathlib.Core.Path.{◌≡◌, refl, sym}
use native.Mathlib.Omega.{arith}
use native.Mathlib.Nat.{le_of_eq}
use borrow.Author.Tests.{eqb-true, eqb-false, ltb-false, eq-eqb, le-ltb, lt-ltb}
use lib.Dec.{eqb, ltb}
use Rattle.rules.specs.Basics.{codes}
use Rattle.rules.proofs.Choose.{choose_case}
use Rattle.group_rules.specs.Expression.{Token, word, sign, operator, opener, closer}
use Rattle.group_rules.specs.Grouping.{Tree, operand, signed, bracketed, operation, strength_of, takes, extend, Left, nothing, left_of, Frame, with_signs, join_left, Spot, due_in, done, Parse, parse, feed, feed_at, feed_due, feed_done, feed_closed, start, tree_at, tree_of}
use Rattle.group_rules.specs.Promises.{on_right, under_sign, Grouped, to_right}

bare_right : (op : List ℕ) (x : Tree) → under_sign x → on_right op x
bare_right op (operand w) h = tt
bare_right op (signed c e) h = tt
bare_right op (bracketed e) h = tt
bare_right op (operation o l r) h = absurd h

never : false ≡ true → ⊥
never h = let z : ◌≡◌ {A = ℕ} 0 1 = cc in omega arith

go_right : (s t k : ℕ) (a b : Bool) → ltb s t ≡ a → eqb s t ≡ b → (a || (b && eqb t k)) ≡ true → (ltb s t || (eqb t s && eqb s k)) ≡ true
go_right s t k true b p q h = rw p
go_right s t k false true p q h = rw (p, eqb-true s t q, eq-eqb t t refl) h
go_right s t k false false p q h = absurd (never h)

right_takes : (o op : List ℕ) → takes (strength_of o) (strength_of op) ≡ true → (ltb (strength_of o) (strength_of op) || (eqb (strength_of op) (strength_of o) && to_right o)) ≡ true
unfolding takes
right_takes o op h = go_right (strength_of o) (strength_of op) (strength_of (codes "**")) (ltb (strength_of o) (strength_of op)) (eqb (strength_of o) (strength_of op)) refl refl h

go_left : (s t k : ℕ) (a b c : Bool) → ltb s t ≡ a → eqb s t ≡ b → eqb t k ≡ c → (a || (b && c)) ≡ false → (ltb t s || (eqb s t && not (eqb t k))) ≡ true
go_left s t k true b c p q e h = absurd (never (sym h))
go_left s t k false true true p q e h = absurd (never (sym h))
go_left s t k false true false p q e h = rw (le-ltb t s (le_of_eq (eqb-true s t q)), q, e)
go_left s t k false false c p q e h = let n = ltb-false s t p in let m = eqb-false s t q in rw (lt-ltb t s (omega arith))

left_keeps : (o op : List ℕ) → takes (strength_of o) (strength_of op) ≡ false → (ltb (strength_of op) (strength_of o) || (eqb (strength_of o) (strength_of op) && not (to_right op))) ≡ true
unfolding takes
left_keeps o op h = go_left (strength_of o) (strength_of op) (strength_of (codes "**")) (ltb (strength_of o) (strength_of op)) (eqb (strength_of o) (strength_of op)) (to_right op) refl refl refl h

-- the tree's own operator or the new one stands under o
right_extend : (o op : List ℕ) (r x : Tree) → on_right o r → takes (strength_of o) (strength_of op) ≡ true → on_right o (extend r op x)
unfolding extend
right_extend o op (operand w) x g h = right_takes o op h
right_extend o op (signed c e) x g h = right_takes o op h
right_extend o op (bracketed e) x g h = right_takes o op h
right_extend o op (operation p l r) x g h = choose_case (on_right o) (λ k. g) (λ k. right_takes o op h)

grouped_extend : (e : Tree) (op : List ℕ) (x : Tree) → Grouped e → under_sign x → Grouped x → Grouped (extend e op x)
unfolding Grouped extend
grouped_extend (operand w) op x g u k = (tt, bare_right op x u, tt, k)
grouped_extend (signed c e) op x g u k = (tt, bare_right op x u, g, k)
grouped_extend (bracketed e) op x g u k = (tt, bare_right op x u, g, k)
grouped_extend (operation o l r) op x g u k =
    choose_case Grouped (λ h. (g.0, right_extend o op r x g.1 h, g.2, grouped_extend r op x g.3 u k))
    (λ h. (left_keeps o op h, bare_right op x u, g, k))

-- ---- the parse

under_signs : (cs : List ℕ) (e : Tree) → under_sign e → under_sign (with_signs cs e)
unfolding with_signs
under_signs [] e h = h
under_signs (c ∷ cs) e h = under_signs cs (signed c e) tt

grouped_signs : (cs : List ℕ) (e : Tree) → under_sign e → Grouped e → Grouped (with_signs cs e)
unfolding with_signs Grouped
grouped_signs [] e u h = h
grouped_signs (c ∷ cs) e u h = grouped_signs cs (signed c e) tt (u, h)

GroupedLeft : Left → Type 0
GroupedLeft nothing = Unit {0}
GroupedLeft (left_of e op) = Grouped e

grouped_join : (l : Left) (cs : List ℕ) (x : Tree) → GroupedLeft l → under_sign x → Grouped x → Grouped (join_left l (with_signs cs x))
unfolding GroupedLeft join_left
grouped_join nothing cs x g u k = grouped_signs cs x u k
grouped_join (left_of e op) cs x g u k = grouped_extend e op (with_signs cs x) g (under_signs cs x u) (grouped_signs cs x u k)

GroupedFrames : List Frame → Type 0
GroupedFrames [] = Unit {0}
GroupedFrames (f ∷ fs) = GroupedLeft f.left × GroupedFrames fs

GroupedSpot : Spot → Type 0
GroupedSpot (due_in f) = GroupedLeft f.left
GroupedSpot (done e) = Grouped e

record GroupedParse (p : Parse) : Type 0 where
  spot : GroupedSpot p.spot
  outer : GroupedFrames p.outer

grouped_due : (f : Frame) (fs : List Frame) (t : Token) → GroupedLeft f.left → GroupedFrames fs → GroupedParse (feed_due f fs t)
unfolding feed_due GroupedSpot GroupedFrames GroupedLeft Grouped
grouped_due f fs (word w) g k = record { spot = grouped_join f.left f.signs (operand w) g tt tt; outer = k }
grouped_due f fs (sign c) g k = record { spot = g; outer = k }
grouped_due f fs (operator op) g k = record { spot = g; outer = k }
grouped_due f fs opener g k = record { spot = tt; outer = (g, k) }
grouped_due f fs closer g k = record { spot = g; outer = k }

grouped_closed : (e : Tree) (fs : List Frame) → Grouped e → GroupedFrames fs → GroupedParse (feed_closed e fs)
unfolding feed_closed GroupedSpot GroupedFrames
grouped_closed e [] g k = record { spot = g; outer = k }
grouped_closed e (f ∷ fs) g k = record { spot = grouped_join f.left f.signs (bracketed e) k.0 tt (unfold Grouped in g); outer = k.1 }

grouped_done : (e : Tree) (fs : List Frame) (t : Token) → Grouped e → GroupedFrames fs → GroupedParse (feed_done e fs t)
unfolding feed_done GroupedSpot GroupedLeft
grouped_done e fs (word w) g k = record { spot = g; outer = k }
grouped_done e fs (sign c) g k = record { spot = g; outer = k }
grouped_done e fs (operator op) g k = record { spot = g; outer = k }
grouped_done e fs opener g k = record { spot = g; outer = k }
grouped_done e fs closer g k = grouped_closed e fs g k

grouped_at : (s : Spot) (fs : List Frame) (t : Token) → GroupedSpot s → GroupedFrames fs → GroupedParse (feed_at s fs t)
unfolding feed_at GroupedSpot
grouped_at (due_in f) fs t g k = grouped_due f fs t g k
grouped_at (done e) fs t g k = grouped_done e fs t g k

grouped_feed : (ts : List Token) (p : Parse) → GroupedParse p → GroupedParse (foldl feed p ts)
grouped_feed [] p g = g
grouped_feed (t ∷ ts) p g = grouped_feed ts (feed p t) (grouped_at p.spot p.outer t g.spot g.outer)

grouped_tree : (s : Spot) → GroupedSpot s → Grouped (tree_at s)
unfolding GroupedSpot Grouped
grouped_tree (due_in f) g = tt
grouped_tree (done e) g = g

-- an operation standing as an operand, unbracketed in the source, binds tighter than its operator, or equally on the
-- left (for `**` on the right)
pub grouped : (ts : List Token) → Grouped (tree_of ts)
unfolding tree_of GroupedSpot GroupedFrames GroupedLeft
grouped ts = grouped_tree (foldl feed (parse (due_in start) []) ts).spot (grouped_feed ts (parse (due_in start) []) (record { spot = tt; outer = tt })).spot

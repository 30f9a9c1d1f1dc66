-- The kinds marked from both sides hold the settled tokens.
use Rattle.std.specs.Prelude.{None}
use Prim.Native.Nat.{ℕ, zero, suc, ◌<◌}
use mathlib.Core.Bool.{Bool, true, false, true≢false}
use mathlib.Core.List.{List, [], ◌∷◌}
use mathlib.Core.Path.{◌≡◌, refl, sym, ap, ◌∙◌}
use native.Mathlib.Omega.{arith}
use lib.ListN.{length}
use Rattle.utf8.proofs.Tests.{by_test}
use Rattle.rules.specs.Basics.{choose, is_empty}
use Rattle.config_rules.specs.Name.{Item, innermost, closers, unopened, openers, settled_at, settled, tokens_of}
use Rattle.config_rules.specs.Name.Token.{item}
use Rattle.glob_pass.specs.Kinds.{held_at, held, kind_at}
use Rattle.glob_pass.specs.declared.kinds.Kind.{Kind}
use Rattle.glob_name.specs.Read.{is_raw, Raw, Spaced, RawKinds}
use Rattle.glob_name.specs.Braces.{right_event, left_event, lone_of, marked, stack_after, is_lone, open_right, mark_right, mark_left}

abbrev covered_kind : Kind
covered_kind = Kind.Covered

abbrev range_kind : Kind
range_kind = Kind.Range

-- one kind, marked from the right with `after` open there, then from the left with `before`
abbrev once : Kind → List Bool → Kind
once k after = marked k (is_lone (right_event k) after)

abbrev twice : Kind → List Bool → List Bool → Kind
twice k before after = marked (once k after) (is_lone (left_event (once k after)) before)

record Settles (k : Kind) (s : List ℕ) : Type 0 where
  right : (bs : List Bool) → stack_after (right_event k) bs ≡ closers (held_at k s) bs
  left : (bs after : List Bool) → stack_after (left_event (once k after)) bs ≡ openers (held_at k s) bs
  is : (before after : List Bool) → held_at (twice k before after) s ≡ settled_at before (held_at k s) after

-- `{`
opens_is : (s : List ℕ) → Settles Kind.Opens s
unfolding stack_after is_lone marked choose held_at closers openers settled_at
opens_is s =
    record {
      right = λ bs. refl;
      left = λ bs after. by_test (innermost after) (λ t. rw t) (λ t. rw t);
      is = λ before after. by_test (innermost after) (λ t. rw t) (λ t. rw t);
    }

-- `,`
comma_is : (s : List ℕ) → Settles Kind.Comma s
unfolding stack_after is_lone marked choose held_at closers openers settled_at
comma_is s =
    record {
      right = λ bs. refl;
      left = λ bs after. by_test (is_empty after) (λ t. rw t) (λ t. rw t);
      is = λ before after.
          by_test (is_empty after)
          (λ t. by_test (is_empty before) (λ u. rw (t, u)) (λ u. rw (t, u)))
          (λ t. by_test (is_empty before) (λ u. rw (t, u)) (λ u. rw (t, u)));
    }

-- `}`
closes_is : (s : List ℕ) → Settles Kind.Closes s
unfolding stack_after is_lone marked choose held_at closers openers settled_at
closes_is s =
    record {
      right = λ bs. refl;
      left = λ bs after. refl;
      is = λ before after. by_test (innermost before) (λ t. rw t) (λ t. rw t);
    }

-- an item that is read
item_is : (k : Kind) (i : Item) (s : List ℕ) → right_event k ≡ None → left_event k ≡ None → lone_of k ≡ k → held_at k s ≡ item i → Settles k s
unfolding stack_after is_lone marked choose closers openers settled_at
item_is k i s r l m h = record { right = λ bs. rw (r, h); left = λ bs after. rw (r, l, h); is = λ before after. rw (r, l, h) }

settles : (k : Kind) (s : List ℕ) → is_raw k ≡ true → Settles k s
unfolding held_at
settles Kind.Plain s h = item_is _ _ s refl refl refl refl
settles Kind.Covered s h = item_is _ _ s refl refl refl refl
settles Kind.One s h = item_is _ _ s refl refl refl refl
settles Kind.Star s h = item_is _ _ s refl refl refl refl
settles Kind.Stars s h = item_is _ _ s refl refl refl refl
settles Kind.Set s h = item_is _ _ s refl refl refl refl
settles Kind.Range s h = item_is _ _ s refl refl refl refl
settles Kind.Escape s h = item_is _ _ s refl refl refl refl
settles Kind.Ahead s h = item_is _ _ s refl refl refl refl
settles Kind.LoneCloses s h = absurd (true≢false (sym h))
settles Kind.LoneComma s h = absurd (true≢false (sym h))
settles Kind.LoneOpens s h = absurd (true≢false (sym h))
settles Kind.Closes s h = closes_is s
settles Kind.Comma s h = comma_is s
settles Kind.Opens s h = opens_is s

tail_raw : (k : Kind) (ks : List Kind) → Raw (k ∷ ks) → Raw ks
tail_raw k ks w = record { at = λ j. w.at (suc j) }

open_is : (ks : List Kind) (cs : List ℕ) → length ks ≡ length cs → Raw ks → open_right ks ≡ unopened (held ks cs)
unfolding open_right unopened held
open_is [] cs e w = refl
open_is (k ∷ ks) [] e w = absurd (omega arith)
open_is (k ∷ ks) (c ∷ cs) e w =
    rw (open_is ks cs (omega arith) (tail_raw k ks w)) ((settles k (c ∷ cs) (w.at 0)).right (unopened (held ks cs)))

marked_is : (ks : List Kind) (cs : List ℕ) (bs : List Bool) → length ks ≡ length cs → Raw ks → held (mark_left bs (mark_right ks)) cs ≡ settled bs (held ks cs)
unfolding mark_left mark_right settled held
marked_is [] cs bs e w = refl
marked_is (k ∷ ks) [] bs e w = absurd (omega arith)
marked_is (k ∷ ks) (c ∷ cs) bs e w =
    let i : Settles k (c ∷ cs) = settles k (c ∷ cs) (w.at 0) in
    let o : open_right ks ≡ unopened (held ks cs) = open_is ks cs (omega arith) (tail_raw k ks w) in
    rw (i.is bs (open_right ks), i.left bs (open_right ks), marked_is ks cs (openers (held_at k (c ∷ cs)) bs) (omega arith) (tail_raw k ks w), o)

length_right : (ks : List Kind) → length (mark_right ks) ≡ length ks
unfolding mark_right
length_right [] = refl
length_right (k ∷ ks) = ap suc (length_right ks)

length_left : (bs : List Bool) (ks : List Kind) → length (mark_left bs ks) ≡ length ks
unfolding mark_left
length_left bs [] = refl
length_left bs (k ∷ ks) = ap suc (length_left (stack_after (left_event k) bs) ks)

pub length_marked : (ks : List Kind) → length (mark_left [] (mark_right ks)) ≡ length ks
length_marked ks = length_left [] (mark_right ks) ∙ length_right ks

pub right_short : (ks l : List Kind) → l ≡ mark_right ks → length ks < 1026 → length l < 1026
right_short ks l e h = let n : length l ≡ length ks = ap length e ∙ length_right ks in omega arith

-- ---- ranges and their parts stay

same_range : (k : Kind) (b : Bool) → marked k b ≡ range_kind → k ≡ range_kind
unfolding marked choose
same_range k false e = e
same_range Kind.Plain true e = e
same_range Kind.Covered true e = e
same_range Kind.One true e = e
same_range Kind.Star true e = e
same_range Kind.Stars true e = e
same_range Kind.Set true e = e
same_range Kind.Range true e = e
same_range Kind.Escape true e = e
same_range Kind.Ahead true e = e
same_range Kind.LoneCloses true e = e
same_range Kind.LoneComma true e = e
same_range Kind.LoneOpens true e = e
same_range Kind.Closes true e = cc
same_range Kind.Comma true e = cc
same_range Kind.Opens true e = cc

same_covered : (k : Kind) (b : Bool) → k ≡ covered_kind → marked k b ≡ covered_kind
unfolding marked choose
same_covered k true e = rw e
same_covered k false e = e

right_at : (ks : List Kind) (j : ℕ) → (b : Bool) × (kind_at (mark_right ks) j ≡ marked (kind_at ks j) b)
unfolding mark_right
right_at [] j = (false, unfold marked in unfold choose in refl)
right_at (k ∷ ks) zero = (is_lone (right_event k) (open_right ks), refl)
right_at (k ∷ ks) (suc j) = right_at ks j

left_at : (bs : List Bool) (ks : List Kind) (j : ℕ) → (b : Bool) × (kind_at (mark_left bs ks) j ≡ marked (kind_at ks j) b)
unfolding mark_left
left_at bs [] j = (false, unfold marked in unfold choose in refl)
left_at bs (k ∷ ks) zero = (is_lone (left_event k) bs, refl)
left_at bs (k ∷ ks) (suc j) = left_at (stack_after (left_event k) bs) ks j

range_back : (ks : List Kind) (j : ℕ) → kind_at (mark_left [] (mark_right ks)) j ≡ range_kind → kind_at ks j ≡ range_kind
range_back ks j e = same_range _ _ (sym (right_at ks j).1 ∙ same_range _ _ (sym (left_at [] (mark_right ks) j).1 ∙ e))

covered_on : (ks : List Kind) (j : ℕ) → kind_at ks j ≡ covered_kind → kind_at (mark_left [] (mark_right ks)) j ≡ covered_kind
covered_on ks j e = (left_at [] (mark_right ks) j).1 ∙ same_covered _ _ ((right_at ks j).1 ∙ same_covered _ _ e)

spaced_marked : (cs : List ℕ) (ks : List Kind) → Spaced cs ks → Spaced cs (mark_left [] (mark_right ks))
spaced_marked cs ks w =
    record {
      some = λ j e. w.some j (range_back ks j e);
      parts = λ j e q a b d. covered_on ks q (w.parts j (range_back ks j e) q a b (rw (length_marked ks) at d));
    }

pub settled_held : (cs : List ℕ) (ks k1 k2 : List Kind) → RawKinds cs ks → k1 ≡ mark_right ks → k2 ≡ mark_left [] k1
    → (length k2 ≡ length cs) × (held k2 cs ≡ tokens_of cs) × Spaced cs k2
unfolding tokens_of
settled_held cs ks k1 k2 w a b =
    let e : k2 ≡ mark_left [] (mark_right ks) = b ∙ ap (mark_left []) a in (
      ap length e ∙ length_marked ks ∙ w.long,
      ap (λ (l : List Kind). held l cs) e ∙ marked_is ks cs [] w.long w.raw ∙ ap (settled []) w.is,
      rw e (spaced_marked cs ks w.spaced),
    )

-- The tree of an expression's tokens has these tokens, in their order.
use Prim.Native.Nat.{ℕ, suc}
use mathlib.Core.Bool.{Bool, true, false}
use mathlib.Core.List.{List, [], ◌∷◌, ◌++◌, foldl, foldl-append, reverse, reverse-cons, append_assoc, append-nil}
use mathlib.Core.Path.{◌≡◌, refl, ap, sym, ◌∙◌}
use native.Mathlib.Omega.{arith}
use lib.ListN.{length}
use Rattle.rules.proofs.Choose.{choose_case}
use Rattle.group_rules.specs.Expression.{Token, word, sign, operator, opener, closer}
use Rattle.group_rules.specs.Grouping.{Tree, operand, signed, bracketed, operation, extend, Left, nothing, left_of, Frame, with_signs, join_left, join, due_in, done, Parse, parse, feed, feed_at, feed_due, feed_done, feed_closed, start, tree_at, tree_of}

unfoldable pub tokens_of : Tree → List Token
tokens_of (operand w) = word w ∷ []
tokens_of (signed c e) = sign c ∷ tokens_of e
tokens_of (bracketed e) = opener ∷ tokens_of e ++ closer ∷ []
tokens_of (operation op l r) = tokens_of l ++ operator op ∷ tokens_of r

tokens_extend : (e : Tree) (op : List ℕ) (x : Tree) → tokens_of (extend e op x) ≡ tokens_of e ++ operator op ∷ tokens_of x
unfolding tokens_of extend
tokens_extend (operand w) op x = refl
tokens_extend (signed c e) op x = refl
tokens_extend (bracketed e) op x = refl
tokens_extend (operation o l r) op x =
    choose_case (λ t. tokens_of t ≡ (tokens_of l ++ operator o ∷ tokens_of r) ++ operator op ∷ tokens_of x)
    (λ h. ap (λ ts. tokens_of l ++ operator o ∷ ts) (tokens_extend r op x) ∙ sym (append_assoc (tokens_of l) (operator o ∷ tokens_of r) (operator op ∷ tokens_of x)))
    (λ h. refl)

-- signs are kept newest first
sign_tokens : List ℕ → List Token
sign_tokens [] = []
sign_tokens (c ∷ cs) = sign_tokens cs ++ sign c ∷ []

tokens_signs : (cs : List ℕ) (e : Tree) → tokens_of (with_signs cs e) ≡ sign_tokens cs ++ tokens_of e
unfolding with_signs sign_tokens
tokens_signs [] e = refl
tokens_signs (c ∷ cs) e = tokens_signs cs (signed c e) ∙ unfold tokens_of in sym (append_assoc (sign_tokens cs) (sign c ∷ []) (tokens_of e))

left_tokens : Left → List Token
left_tokens nothing = []
left_tokens (left_of e op) = tokens_of e ++ operator op ∷ []

frame_tokens : Frame → List Token
frame_tokens f = left_tokens f.left ++ sign_tokens f.signs

tokens_join : (l : Left) (cs : List ℕ) (x : Tree) → tokens_of (join_left l (with_signs cs x)) ≡ (left_tokens l ++ sign_tokens cs) ++ tokens_of x
unfolding join_left left_tokens
tokens_join nothing cs x = tokens_signs cs x
tokens_join (left_of e op) cs x =
    tokens_extend e op (with_signs cs x) ∙ ap (λ ts. tokens_of e ++ operator op ∷ ts) (tokens_signs cs x)
    ∙ simp append_assoc

outer_tokens : List Frame → List Token
outer_tokens [] = []
outer_tokens (f ∷ fs) = outer_tokens fs ++ (frame_tokens f ++ opener ∷ [])

-- ---- Which token may follow which, newest first: whether an operand has ended, and how many brackets are open.
pub data Good : Bool → ℕ → List Token → Type 0 where
  begin : Good false 0 []
  signs : {d : ℕ} {ts : List Token} (c : ℕ) → Good false d ts → Good false d (sign c ∷ ts)
  opens : {d : ℕ} {ts : List Token} → Good false d ts → Good false (suc d) (opener ∷ ts)
  words : {d : ℕ} {ts : List Token} (w : List ℕ) → Good false d ts → Good true d (word w ∷ ts)
  closes : {d : ℕ} {ts : List Token} → Good true (suc d) ts → Good true d (closer ∷ ts)
  operators : {d : ℕ} {ts : List Token} (op : List ℕ) → Good true d ts → Good false d (operator op ∷ ts)

abbrev fed : List Token → Parse
fed ts = foldl feed (parse (due_in start) []) (reverse ts)

fed_cons : (t : Token) (ts : List Token) → fed (t ∷ ts) ≡ feed (fed ts) t
fed_cons t ts = ap (λ l. foldl feed (parse (due_in start) []) l) (reverse-cons t ts) ∙ foldl-append feed (parse (due_in start) []) (reverse ts) (t ∷ [])

record DueAt (d : ℕ) (ts : List Token) : Type 0 where
  pub frame : Frame
  pub outer : List Frame
  pub is : fed ts ≡ parse (due_in frame) outer
  pub size : length outer ≡ d
  pub tokens : outer_tokens outer ++ frame_tokens frame ≡ reverse ts

record DoneAt (d : ℕ) (ts : List Token) : Type 0 where
  pub tree : Tree
  pub outer : List Frame
  pub is : fed ts ≡ parse (done tree) outer
  pub size : length outer ≡ d
  pub tokens : outer_tokens outer ++ tokens_of tree ≡ reverse ts

abbrev Parsed : Bool → ℕ → List Token → Type 0
Parsed false d ts = DueAt d ts
Parsed true d ts = DoneAt d ts

snoc : (a b : List Token) (t : Token) (ts : List Token) → a ++ b ≡ reverse ts → a ++ (b ++ t ∷ []) ≡ reverse (t ∷ ts)
snoc a b t ts e = sym (append_assoc a b (t ∷ [])) ∙ ap (λ l. l ++ t ∷ []) e ∙ sym (reverse-cons t ts)

regroup : (a f t : List Token) → a ++ (f ++ (opener ∷ (t ++ closer ∷ []))) ≡ (a ++ (f ++ opener ∷ [])) ++ (t ++ closer ∷ [])
regroup a f t = simp append_assoc

close_outer : {d : ℕ} {ts : List Token} (e : Tree) (fs : List Frame) → fed ts ≡ parse (done e) fs → length fs ≡ suc d → outer_tokens fs ++ tokens_of e ≡ reverse ts → DoneAt d (closer ∷ ts)
unfolding outer_tokens frame_tokens tokens_of
close_outer e [] p n k = absurd (omega arith)
close_outer {d} {ts} e (f ∷ fs) p n k =
    record {
      tree = join f (bracketed e);
      outer = fs;
      is = fed_cons closer ts ∙ ap (λ q. feed q closer) p ∙ unfold feed_at feed_done feed_closed in refl;
      size = omega arith;
      tokens = ap (λ l. outer_tokens fs ++ l) (tokens_join f.left f.signs (bracketed e)) ∙ regroup (outer_tokens fs) (frame_tokens f) (tokens_of e)
          ∙ snoc (outer_tokens (f ∷ fs)) (tokens_of e) closer ts k;
    }

parsed : {b : Bool} {d : ℕ} {ts : List Token} → Good b d ts → Parsed b d ts
unfolding feed_at feed_due feed_done outer_tokens frame_tokens left_tokens sign_tokens tokens_of
parsed begin = record { frame = start; outer = []; is = refl; size = refl; tokens = refl }
parsed (signs {ts = ts} c g) =
    let p = parsed g in
    record {
      frame = record { left = p.frame.left; signs = c ∷ p.frame.signs };
      outer = p.outer;
      is = fed_cons (sign c) ts ∙ ap (λ q. feed q (sign c)) p.is;
      size = p.size;
      tokens = ap (λ l. outer_tokens p.outer ++ l) (sym (append_assoc (left_tokens p.frame.left) (sign_tokens p.frame.signs) (sign c ∷ [])))
          ∙ snoc (outer_tokens p.outer) (frame_tokens p.frame) (sign c) ts p.tokens;
    }
parsed (opens {ts = ts} g) =
    let p = parsed g in
    record {
      frame = start;
      outer = p.frame ∷ p.outer;
      is = fed_cons opener ts ∙ ap (λ q. feed q opener) p.is;
      size = ap suc p.size;
      tokens = append-nil _ ∙ snoc (outer_tokens p.outer) (frame_tokens p.frame) opener ts p.tokens;
    }
parsed (words {ts = ts} w g) =
    let p = parsed g in
    record {
      tree = join p.frame (operand w);
      outer = p.outer;
      is = fed_cons (word w) ts ∙ ap (λ q. feed q (word w)) p.is;
      size = p.size;
      tokens = ap (λ l. outer_tokens p.outer ++ l) (tokens_join p.frame.left p.frame.signs (operand w))
          ∙ snoc (outer_tokens p.outer) (frame_tokens p.frame) (word w) ts p.tokens;
    }
parsed (closes g) = let p = parsed g in close_outer p.tree p.outer p.is p.size p.tokens
parsed (operators {ts = ts} op g) =
    let p = parsed g in
    record {
      frame = record { left = left_of p.tree op; signs = [] };
      outer = p.outer;
      is = fed_cons (operator op) ts ∙ ap (λ q. feed q (operator op)) p.is;
      size = p.size;
      tokens = ap (λ l. outer_tokens p.outer ++ l) (append-nil (tokens_of p.tree ++ operator op ∷ []))
          ∙ snoc (outer_tokens p.outer) (tokens_of p.tree) (operator op) ts p.tokens;
    }

no_outer : (fs : List Frame) → length fs ≡ 0 → outer_tokens fs ≡ []
unfolding outer_tokens
no_outer [] h = refl
no_outer (f ∷ fs) h = absurd (omega arith)

-- the tree of a whole expression's tokens has them
pub tokens_tree : (ts : List Token) → Good true 0 ts → tokens_of (tree_of (reverse ts)) ≡ reverse ts
unfolding tree_of
tokens_tree ts g =
    let p = parsed g in
    ap (λ q. tokens_of (tree_at q.spot)) p.is ∙ sym (ap (λ l. l ++ tokens_of p.tree) (no_outer p.outer p.size)) ∙ p.tokens

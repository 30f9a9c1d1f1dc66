-- The pass from the first byte of the opened text to the last: the bytes from a place up to `end` are left to read, the
-- spine stands in front of them in the same buffer, and the text goes to an output that may be too short.
use Rattle.std.specs.Prelude.{ℕ, zero, suc, ◌+◌, ◌*◌, ◌≤◌, ◌<◌, ◌^◌, Bool, List, [], ◌∷◌, ◌++◌, ◌≡◌, length, get_or, set}
use Rattle.buffer.specs.Buffer.{part, Appended}
use Rattle.rules.specs.Basics.{choose}
use Rattle.group_rules.specs.Passes.{Pass, pass, forth_step, close_forth}
use Rattle.group_close.specs.declared.Spot.{Spot}
use Rattle.group_close.specs.declared.Forth.{Forth}

-- a stack of the given height, its top first
unfoldable pub stack_of : List ℕ → ℕ → List ℕ
stack_of l zero = []
stack_of l (suc k) = get_or l k 0 ∷ stack_of l k

-- lengths that can be counted
pub record Room (l : List ℕ) (s : Spot) (more : ℕ) : Type 0 where
  pub height : s.top + more ≤ length l
  pub counted : s.length + s.top < 2 ^ 62

-- a test may be made of any byte, by pre, and answers as p does, by post
abbrev pub Tells : (ℕ → Type 0) → (ℕ → Bool → Type 0) → (ℕ → Bool) → Type 0
Tells pre post p = ((b : ℕ) → b < 256 → pre b) × ((b : ℕ) → (r : Bool) → post b r → r ≡ p b)

-- `)` for each operation down to the first whose strength passes the test
unfoldable pub close_until : (ℕ → Bool) → List ℕ → List ℕ → Pass
close_until p text [] = pass text []
close_until p text (t ∷ spine) =
    let r = close_until p (text ++ 41 ∷ []) spine in choose (p t) (pass text (t ∷ spine)) r

-- b is the text's last byte
pub record Put (out out' : List ℕ) (s : Spot) (b : ℕ) (r : Spot) : Type 0 where
  pub wrote : Appended out out' s.length (b ∷ []) r.length
  pub height : r.top ≡ s.top

-- b is the stack's top
pub record Pushed (l l' : List ℕ) (s : Spot) (b : ℕ) (r : Spot) : Type 0 where
  pub long : r.length ≡ s.length
  pub height : r.top ≡ s.top + 1
  pub is : l' ≡ set l s.top b

-- `)` for each operation that ends here: what is added, whatever text stands before
pub record Closed (l out out' : List ℕ) (s : Spot) (close : List ℕ → List ℕ → Pass) (r : Spot) : Type 0 where
  pub added : List ℕ
  pub is : (t : List ℕ) → close t (stack_of l s.top) ≡ pass (t ++ added) (stack_of l r.top)
  pub wrote : Appended out out' s.length added r.length
  pub lower : r.top ≤ s.top
  pub moved : r.length + r.top ≡ s.length + s.top

-- one byte b is read
pub record Stepped (l l' out out' : List ℕ) (b : ℕ) (s r : Spot) : Type 0 where
  pub added : List ℕ
  pub is : (t : List ℕ) → forth_step (pass t (stack_of l s.top)) b ≡ pass (t ++ added) (stack_of l' r.top)
  pub wrote : Appended out out' s.length added r.length
  pub high : r.top ≤ s.top + 1
  pub cost : r.length + r.top ≤ s.length + s.top + 2
  pub rest : (a e : ℕ) → s.top < a → part l' a e ≡ part l a e
  pub size : length l' ≡ length l

-- the byte at a place is next, no text is written, and the stack is empty
abbrev pub begins : ℕ → Forth
begins from = record { at = from; spot = record { length = 0; top = 0 } }

pub record Ready (l : List ℕ) (end : ℕ) (f : Forth) : Type 0 where
  pub within : f.at ≤ end
  pub fits : end ≤ length l
  pub height : f.spot.top ≤ f.at
  pub counted : f.spot.length + f.spot.top ≤ 2 * f.at
  pub small : end < 2 ^ 60

-- written from s up to r, in so many brackets; in none up to the end
pub record ForthTo (l l' out out' : List ℕ) (end depth : ℕ) (s r : Forth) : Type 0 where
  pub added : List ℕ
  pub is : (t : List ℕ) → close_forth (pass t (stack_of l s.spot.top)) (part l s.at end)
      ≡ close_forth (pass (t ++ added) (stack_of l' r.spot.top)) (part l' r.at end)
  pub wrote : Appended out out' s.spot.length added r.spot.length
  pub further : s.at ≤ r.at
  pub ready : Ready l' end r
  pub whole : depth ≡ 0 → r.at ≡ end
  pub size : length l' ≡ length l

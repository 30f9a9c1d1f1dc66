-- The pass from the last code to the first, as it stands in scratch: n codes from 0 on, the opened text up to 3 × n,
-- the spine from there on.
use Rattle.std.specs.Prelude.{ℕ, zero, suc, ◌+◌, ◌*◌, ◌≤◌, List, [], ◌∷◌, ◌≡◌, length, take, drop, get_or, set}
use Rattle.buffer.specs.Buffer.{part}
use Rattle.group_rules.specs.Passes.{Pass, pass, opens_after, open_back, opened_text}
use Rattle.group_open.specs.declared.Spot.{Spot}
use Rattle.group_open.specs.declared.Back.{Back}

-- a stack of the given height from base on, its top first
unfoldable pub stack_of : List ℕ → ℕ → ℕ → List ℕ
stack_of l base zero = []
stack_of l base (suc k) = get_or l (base + k) 0 ∷ stack_of l base k

-- the text and the spine
abbrev pub pass_in : List ℕ → ℕ → Spot → Pass
pass_in l n s = pass (part l s.at (3 * n)) (stack_of l (3 * n) s.top)

-- room for a `(` for each of the spine, and for so many more bytes of text and of spine
pub record Room (l : List ℕ) (n : ℕ) (s : Spot) (more : ℕ) : Type 0 where
  pub room : n + s.top + more ≤ s.at
  pub within : s.at ≤ 3 * n
  pub height : s.top + more ≤ n
  pub fits : 4 * n ≤ length l

-- b stands one before s
pub record Put (l l' : List ℕ) (s : Spot) (b : ℕ) (r : Spot) : Type 0 where
  pub next : r.at + 1 ≡ s.at
  pub height : r.top ≡ s.top
  pub is : l' ≡ set l r.at b

-- b is the stack's top
pub record Pushed (l l' : List ℕ) (n : ℕ) (s : Spot) (b : ℕ) (r : Spot) : Type 0 where
  pub place : r.at ≡ s.at
  pub height : r.top ≡ s.top + 1
  pub is : l' ≡ set l (3 * n + s.top) b

-- `(` for each operation that starts here, after an operator of strength t
pub record Opened (l l' : List ℕ) (n t : ℕ) (s r : Spot) : Type 0 where
  pub same : take n l' ≡ take n l
  pub is : opens_after t (part l s.at (3 * n)) (stack_of l (3 * n) s.top) ≡ pass_in l' n r
  pub lower : r.top ≤ s.top
  pub moved : r.at + s.top ≡ s.at + r.top
  pub size : length l' ≡ length l

-- the pass p stands in l'; the codes are as before; what a code may cost
pub record Moved (l l' : List ℕ) (n : ℕ) (s : Spot) (p : Pass) (r : Spot) : Type 0 where
  pub same : take n l' ≡ take n l
  pub is : p ≡ pass_in l' n r
  pub within : r.at ≤ 3 * n
  pub cost : s.at + r.top ≤ r.at + s.top + 2
  pub high : r.top ≤ s.top + 1
  pub size : length l' ≡ length l

-- the codes cs have been passed up to b
pub record Backed (cs l : List ℕ) (n : ℕ) (b : Back) : Type 0 where
  pub codes : take n l ≡ cs
  pub is : open_back (drop b.left cs) ≡ pass_in l n b.spot
  pub room : n + 2 * b.left + b.spot.top ≤ b.spot.at
  pub within : b.spot.at ≤ 3 * n
  pub height : b.spot.top + b.left ≤ n
  pub fits : 4 * n ≤ length l

-- read back from left, in so many brackets; in none to the first code
pub record BackTo (l l' : List ℕ) (n depth left : ℕ) (r : Back) : Type 0 where
  pub backed : Backed (take n l) l' n r
  pub lower : r.left ≤ left
  pub whole : depth ≡ 0 → r.left ≡ 0
  pub size : length l' ≡ length l

-- the opened text of the n codes stands from r on up to 3 × n
pub record OpenedAll (l l' : List ℕ) (n r : ℕ) : Type 0 where
  pub is : opened_text (take n l) ≡ part l' r (3 * n)
  pub within : r ≤ 3 * n
  pub size : length l' ≡ length l

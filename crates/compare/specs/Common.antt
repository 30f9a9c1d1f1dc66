-- How long a beginning of a text agrees with a model, and where a text goes.
use Rattle.std.specs.Prelude.{ℕ, suc, ◌+◌, ◌*◌, ◌≤◌, ◌<◌, ◌^◌, min, Bool, true, not, List, [], ◌∷◌, ◌++◌, ◌≡◌, eqb, length, take, drop, get_or}
use Rattle.buffer.specs.Buffer.{Agree}
use Rattle.rules.specs.Basics.{choose, starts_with}

-- how many of the first elements of t are those of the model
unfoldable pub common : List ℕ → List ℕ → ℕ
common [] t = 0
common (m ∷ ms) [] = 0
common (m ∷ ms) (c ∷ t) = choose (eqb m c) (suc (common ms t)) 0

-- the first i elements of both agree, of the n that both have
pub record Agreeing (m l : List ℕ) (n i : ℕ) : Type 0 where
  pub within : i ≤ n
  pub is : common m l ≡ i + common (drop i m) (drop i l)

-- r tells that all n agree
pub record EndsAlike (m l : List ℕ) (n : ℕ) (r : Bool) : Type 0 where
  pub is : r ≡ true → Agreeing m l n n

abbrev pub differ_at : List ℕ → List ℕ → ℕ → Bool
differ_at m l i = not (eqb (get_or m i 0) (get_or l i 0))

-- r tells that the model starts with l
pub record StartsAlike (m l : List ℕ) (r : Bool) : Type 0 where
  pub is : r ≡ true → length l ≤ common m l

-- a number below 2 ^ 24 in three bytes
abbrev pub cell_size : ℕ
cell_size = 3

unfoldable pub cell_of : List ℕ → ℕ
cell_of x = get_or x 0 0 + get_or x 1 0 * 256 + get_or x 2 0 * 65536

pub record CellPut (x : List ℕ) (n : ℕ) (x' : List ℕ) : Type 0 where
  pub size : length x' ≡ length x
  pub is : n < 2 ^ 24 → cell_of x' ≡ n

-- as far as next, the number kept is n
pub record CellKept (x : List ℕ) (model n next : ℕ) (x' : List ℕ) : Type 0 where
  pub size : length x' ≡ length x
  pub is : model < 2 ^ 24 → n ≤ model → n ≤ next → min (cell_of x') next ≡ n

-- As far as the text goes, the number kept tells how long it agrees: so this holds of a text that is cut back, too.
pub record Tracks (model x text : List ℕ) : Type 0 where
  pub room : cell_size ≤ length x
  pub small : length model < 2 ^ 24
  pub same : min (cell_of x) (length text) ≡ common model text

-- x keeps the text: with no model as much of it as fits, with a model how long it agrees
unfoldable pub Keeps : List ℕ → List ℕ → List ℕ → Type 0
Keeps [] x text = Agree x text
Keeps (m ∷ ms) x text = Tracks (m ∷ ms) x text

-- l goes behind a text that reaches up to at; r is the next place
pub record Compared (model x x' : List ℕ) (at : ℕ) (l : List ℕ) (r : ℕ) : Type 0 where
  pub next : r ≡ at + length l
  pub size : length x' ≡ length x
  pub holds : (text : List ℕ) → length text ≡ at → Keeps model x text → Keeps model x' (text ++ l)

-- r tells that l goes on as the model does, so that what x keeps is right
pub record LineAlike (m x : List ℕ) (at : ℕ) (l : List ℕ) (r : Bool) : Type 0 where
  pub is : r ≡ true → Compared m x x at l (at + length l)

-- r tells whether the first k elements of the text are a beginning of the model
pub record Tells (model x : List ℕ) (k : ℕ) (r : Bool) : Type 0 where
  pub is : (text : List ℕ) → Keeps model x text → k ≤ length text → r ≡ starts_with model (take k text)

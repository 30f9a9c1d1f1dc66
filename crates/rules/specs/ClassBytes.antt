-- How the code holds a line with its classes: its bytes, and one byte for the class of each.
use Rattle.std.specs.Prelude.{ℕ, zero, suc, ◌≤◌, Bool, List, [], ◌∷◌, map, ◌≡◌, length, take, drop, get_or}
use Rattle.rules.specs.Scan.{Cell, cell, classes_of, before, from}
use Rattle.rules.specs.declared.Class.{Class}

-- the byte that stands for a class
abbrev pub class_byte : Class → ℕ
class_byte Class.Code = 0
class_byte Class.Str = 1
class_byte Class.LineComment = 2
class_byte Class.BlockComment = 3
class_byte Class.Prefab = 4

-- and the class that a byte stands for
abbrev pub class_of : ℕ → Class
class_of zero = Class.Code
class_of (suc zero) = Class.Str
class_of (suc (suc zero)) = Class.LineComment
class_of (suc (suc (suc zero))) = Class.BlockComment
class_of (suc (suc (suc (suc n)))) = Class.Prefab

abbrev pub class_bytes : List Cell → List ℕ
class_bytes cells = map class_byte (classes_of cells)

-- the cells of a line and its class bytes, as far as both reach
unfoldable pub cells_of : List ℕ → List ℕ → List Cell
cells_of [] ks = []
cells_of (c ∷ s) [] = []
cells_of (c ∷ s) (k ∷ ks) = cell c (class_of k) ∷ cells_of s ks

-- the cell at i
abbrev pub cell_at : List ℕ → List ℕ → ℕ → Cell
cell_at s ks i = cell (get_or s i 0) (class_of (get_or ks i 0))

-- the first cell that passes the test p stands at i, or none does and i is the line's length
pub record FirstAt (p : Cell → Bool) (s ks : List ℕ) (i : ℕ) : Type 0 where
  pub within : i ≤ length s
  pub before : before p (cells_of s ks) ≡ cells_of (take i s) (take i ks)
  pub from : from p (cells_of s ks) ≡ cells_of (drop i s) (drop i ks)

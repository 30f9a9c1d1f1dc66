-- A number in three bytes, written and read.
use Prim.Native.Nat.{ℕ, ◌+◌, ◌*◌, ◌/◌, ◌%◌, ◌≤◌, ◌<◌, ◌^◌}
use native.Mathlib.Omega.{arith}
use mathlib.Core.List.{List}
use mathlib.Core.Path.{◌≡◌, refl, ◌∙◌}
use lib.ListN.{length, get_or, set, length-set}
use lib.Seq.{get_or-set_same, get_or-set_other}
use Rattle.compare.specs.Common.{cell_size, cell_of, CellPut}

pub cell_read : (x : List ℕ) (a b c : ℕ) → a ≡ get_or x 0 0 → b ≡ get_or x 1 0 → c ≡ get_or x 2 0 → a + b * 256 + c * 65536 ≡ cell_of x
unfolding cell_of
cell_read x a b c e f g = rw (e, f, g)

abbrev with_cell : List ℕ → ℕ → List ℕ
with_cell x n = set (set (set x 0 (n % 256)) 1 (n / 256 % 256)) 2 (n / 256 / 256 % 256)

module _ (x : List ℕ) (n : ℕ) (h : cell_size ≤ length x) where
  abbrev one : List ℕ
  one = set x 0 (n % 256)

  abbrev two : List ℕ
  two = set one 1 (n / 256 % 256)

  first : get_or (with_cell x n) 0 0 ≡ n % 256
  first =
      get_or-set_other two 2 0 _ 0 (λ p. omega arith) ∙ get_or-set_other one 1 0 _ 0 (λ p. omega arith) ∙ get_or-set_same x 0 _ 0 (omega arith)

  second : get_or (with_cell x n) 1 0 ≡ n / 256 % 256
  second = get_or-set_other two 2 1 _ 0 (λ p. omega arith) ∙ get_or-set_same one 1 _ 0 (simp length-set (omega arith))

  third : get_or (with_cell x n) 2 0 ≡ n / 256 / 256 % 256
  third = get_or-set_same two 2 _ 0 (simp length-set (omega arith))

  pub cell_put : CellPut x n (with_cell x n)
  unfolding cell_of
  cell_put = record { size = simp length-set refl; is = λ s. rw (first, second, third) (whole s) }
    where
      whole : n < 2 ^ 24 → n % 256 + n / 256 % 256 * 256 + n / 256 / 256 % 256 * 65536 ≡ n
      whole s = omega arith

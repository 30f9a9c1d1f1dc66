-- What `code_end` and `all_code_or_str` find, and what that says of a line's cells.
use Prim.Native.Nat.{ℕ, zero, suc, ◌<◌, ◌≤◌, zero-le}
use mathlib.Core.Bool.{Bool, true, false, ◌&&◌}
use mathlib.Core.Path.{◌≡◌, refl, sym, ap, ◌∙◌}
use mathlib.Core.List.{List, [], ◌∷◌}
use native.Mathlib.Omega.{arith}
use lib.ListN.{length, take, drop}
use lib.Dec.{leb}
use lib.Seq.{take-nil, drop-nil}
use Rattle.std.specs.List.{list_all}
use Rattle.rules.specs.Basics.{choose}
use Rattle.rules.specs.Scan.{cell, before, from, code_part, comment_part, all_code_or_str, is_line_comment, is_code_or_str}
use Rattle.rules.specs.ClassBytes.{cells_of, class_of}
use Rattle.rules.proofs.CellsLaws.{comment_byte, code_or_str_byte}
use Rattle.rules.proofs.Choose.{choose_true, choose_false}
use Rattle.scan.specs.CodeEnd.{code_length, comment_at, NoComment, only_code_or_str}
use Rattle.blocks.specs.Blocks.{FirstFrom, NoneBefore}

-- where the first class byte of a `//` comment stands, or how many there are
first_comment : (ks : List ℕ) (r : ℕ) → r ≤ length ks → ((j : ℕ) → j < r → comment_at ks j ≡ false) → (r < length ks → comment_at ks r ≡ true) → code_length ks ≡ r
unfolding code_length
first_comment [] r h n f = omega arith
first_comment (k ∷ ks) zero h n f = choose_true _ _ _ (comment_byte k ∙ f (omega arith))
first_comment (k ∷ ks) (suc r) h n f =
    choose_false _ _ _ (comment_byte k ∙ n 0 (omega arith)) ∙ ap suc (first_comment ks r (omega arith) (λ j l. n (suc j) (omega arith)) (λ l. f (omega arith)))

pub comment_found : (ks : List ℕ) (r : ℕ) → FirstFrom (comment_at ks) 0 (length ks) r → r ≡ code_length ks
comment_found ks r w = sym (first_comment ks r w.within (λ j l. w.none j zero-le l) w.passes)

pub no_comment : (ks : List ℕ) (r : Bool) → NoneBefore (comment_at ks) (length ks) r → NoComment ks r
no_comment ks r w = record { none = λ e. first_comment ks (length ks) (omega arith) (w.none e) (λ l. absurd (omega arith)) }

-- whether all are code or string
all_of_two : (ks : List ℕ) → list_all (λ k. leb k 1) ks ≡ only_code_or_str ks
unfolding only_code_or_str
all_of_two [] = refl
all_of_two (k ∷ ks) = rw (code_or_str_byte k, all_of_two ks) refl

pub all_given : (ks : List ℕ) (r : Bool) → r ≡ list_all (λ k. leb k 1) ks → r ≡ only_code_or_str ks
all_given ks r e = e ∙ all_of_two ks

pub code_length_le : (ks : List ℕ) → code_length ks ≤ length ks
unfolding code_length choose
code_length_le [] = zero-le
code_length_le (k ∷ ks) = go (is_line_comment (class_of k)) (code_length_le ks)
  where
    go : (b : Bool) → code_length ks ≤ length ks → choose b 0 (suc (code_length ks)) ≤ suc (length ks)
    go true h = zero-le
    go false h = omega arith

-- the line before its `//` comment, and from it on
pub code_part_law : (s ks : List ℕ) → code_part (cells_of s ks) ≡ cells_of (take (code_length ks) s) (take (code_length ks) ks)
unfolding before cells_of code_length choose
code_part_law [] ks = rw take-nil
code_part_law (c ∷ s) [] = refl
code_part_law (c ∷ s) (k ∷ ks) = go (is_line_comment (class_of k)) (code_part_law s ks)
  where
    go : (b : Bool) → code_part (cells_of s ks) ≡ cells_of (take (code_length ks) s) (take (code_length ks) ks) → choose b [] (cell c (class_of k) ∷ code_part (cells_of s ks)) ≡ cells_of (take (choose b 0 (suc (code_length ks))) (c ∷ s)) (take (choose b 0 (suc (code_length ks))) (k ∷ ks))
    go true h = refl
    go false h = rw h

pub comment_part_law : (s ks : List ℕ) → comment_part (cells_of s ks) ≡ cells_of (drop (code_length ks) s) (drop (code_length ks) ks)
unfolding from cells_of code_length choose
comment_part_law [] ks = rw drop-nil
comment_part_law (c ∷ s) [] = refl
comment_part_law (c ∷ s) (k ∷ ks) = go (is_line_comment (class_of k)) (comment_part_law s ks)
  where
    go : (b : Bool) → comment_part (cells_of s ks) ≡ cells_of (drop (code_length ks) s) (drop (code_length ks) ks) → choose b (cell c (class_of k) ∷ cells_of s ks) (comment_part (cells_of s ks)) ≡ cells_of (drop (choose b 0 (suc (code_length ks))) (c ∷ s)) (drop (choose b 0 (suc (code_length ks))) (k ∷ ks))
    go true h = refl
    go false h = h

-- for a line as long as its class bytes
pub all_code_or_str_law : (s ks : List ℕ) → length s ≡ length ks → all_code_or_str (cells_of s ks) ≡ only_code_or_str ks
unfolding all_code_or_str cells_of only_code_or_str
all_code_or_str_law [] [] e = refl
all_code_or_str_law [] (k ∷ ks) e = absurd (omega arith)
all_code_or_str_law (c ∷ s) [] e = absurd (omega arith)
all_code_or_str_law (c ∷ s) (k ∷ ks) e = ap (λ (b : Bool). is_code_or_str (class_of k) && b) (all_code_or_str_law s ks (omega arith))

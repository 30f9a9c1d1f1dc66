-- A line as the code holds it, bytes and a class byte for each: laws of `cells_of`, and the loops over it.
--     cells_of_law, cells_classify, cells_bytes     what the class bytes of classify give back
--     str_byte, comment_byte, code_or_str_byte     the tests of a class, on its byte
--     length_cells, chars_cells, take_cells, drop_cells, get_d_cells     its parts
--     cells_at, cells_end           the cell at a place, and what is left after it
--     Finding                       a loop that looks for the first cell that passes a test
use Prim.Native.Nat.{ℕ, zero, suc, ◌+◌, ◌<◌, ◌≤◌, zero-le}
use native.Mathlib.Omega.{arith}
use native.Mathlib.Numerals.{add-one}
use mathlib.Core.Bool.{Bool, true, false}
use mathlib.Core.List.{List, [], ◌∷◌, ◌++◌, append-nil, append_assoc}
use mathlib.Core.Path.{◌≡◌, refl, sym, ap, ◌∙◌}
use lib.Dec.{eqb, leb}
use borrow.Author.Tests.{ne_eqb, lt-leb}
use lib.ListN.{length, get_or, take, drop, drop_of_length-le}
use lib.Seq.{drop-cons, take-suc}
use Rattle.utf8.specs.Unicode.{decode, WellFormed}
use Rattle.rules.specs.declared.Class.{Class}
use Rattle.rules.specs.declared.Carry.{Carry}
use Rattle.rules.specs.Basics.{choose}
use Rattle.rules.specs.Scan.{Cell, cell, chars_of, classes_of, classify, is_str, is_line_comment, is_code_or_str, before, from}
use Rattle.rules.specs.ClassBytes.{class_byte, class_of, class_bytes, cells_of, cell_at, FirstAt}
use Rattle.rules.proofs.ScanBytes.{encode_cells, classify_encode, chars_classify}

pub class_of_byte : (k : Class) → class_of (class_byte k) ≡ k
class_of_byte Class.Code = refl
class_of_byte Class.Str = refl
class_of_byte Class.LineComment = refl
class_of_byte Class.BlockComment = refl
class_of_byte Class.Prefab = refl

pub str_byte : (k : ℕ) → is_str (class_of k) ≡ eqb k 1
str_byte zero = refl
str_byte (suc zero) = refl
str_byte (suc (suc zero)) = refl
str_byte (suc (suc (suc zero))) = refl
str_byte (suc (suc (suc (suc n)))) = sym (ne_eqb (suc (suc (suc (suc n)))) 1 (omega arith))

pub comment_byte : (k : ℕ) → is_line_comment (class_of k) ≡ eqb k 2
comment_byte zero = refl
comment_byte (suc zero) = refl
comment_byte (suc (suc zero)) = refl
comment_byte (suc (suc (suc zero))) = refl
comment_byte (suc (suc (suc (suc n)))) = sym (ne_eqb (suc (suc (suc (suc n)))) 2 (omega arith))

pub code_or_str_byte : (k : ℕ) → is_code_or_str (class_of k) ≡ leb k 1
code_or_str_byte zero = refl
code_or_str_byte (suc zero) = refl
code_or_str_byte (suc (suc zero)) = refl
code_or_str_byte (suc (suc (suc zero))) = refl
code_or_str_byte (suc (suc (suc (suc n)))) = sym (lt-leb (suc (suc (suc (suc n)))) 1 (omega arith))

pub cells_of_law : (xs : List Cell) → cells_of (chars_of xs) (class_bytes xs) ≡ xs
unfolding cells_of chars_of classes_of
cells_of_law [] = refl
cells_of_law (x ∷ xs) = rw (class_of_byte x.class, cells_of_law xs)

pub cells_classify : (y : Carry) (line : List ℕ) → cells_of line (class_bytes (classify y line)) ≡ classify y line
cells_classify y line =
    ap (λ (l : List ℕ). cells_of l (class_bytes (classify y line))) (sym (chars_classify y line)) ∙ cells_of_law (classify y line)

-- the cells of a well-formed line, by its characters
pub cells_bytes : (y : Carry) (s : List ℕ) → WellFormed s → cells_of s (class_bytes (classify y s)) ≡ encode_cells (classify y (decode s))
cells_bytes y s w = cells_classify y s ∙ ap (classify y) (sym w) ∙ classify_encode y (decode s)

pub length_chars : (xs : List Cell) → length (chars_of xs) ≡ length xs
unfolding chars_of
length_chars [] = refl
length_chars (x ∷ xs) = ap suc (length_chars xs)

pub length_class_bytes : (xs : List Cell) → length (class_bytes xs) ≡ length xs
unfolding classes_of
length_class_bytes [] = refl
length_class_bytes (x ∷ xs) = ap suc (length_class_bytes xs)

pub length_classify : (y : Carry) (line : List ℕ) → length (classify y line) ≡ length line
length_classify y line = sym (length_chars (classify y line)) ∙ ap length (chars_classify y line)

-- ---- cells of a line s with its class bytes ks

pub cells_none : (s : List ℕ) → cells_of s [] ≡ []
unfolding cells_of
cells_none [] = refl
cells_none (c ∷ s) = refl

pub length_cells : (s ks : List ℕ) → length s ≤ length ks → length (cells_of s ks) ≡ length s
unfolding cells_of
length_cells [] ks h = refl
length_cells (c ∷ s) [] h = absurd (omega arith)
length_cells (c ∷ s) (k ∷ ks) h = ap suc (length_cells s ks (omega arith))

pub chars_cells : (s ks : List ℕ) → length s ≤ length ks → chars_of (cells_of s ks) ≡ s
unfolding cells_of chars_of
chars_cells [] ks h = refl
chars_cells (c ∷ s) [] h = absurd (omega arith)
chars_cells (c ∷ s) (k ∷ ks) h = rw (chars_cells s ks (omega arith))

pub take_cells : (n : ℕ) (s ks : List ℕ) → take n (cells_of s ks) ≡ cells_of (take n s) (take n ks)
unfolding cells_of
take_cells zero s ks = refl
take_cells (suc n) [] ks = refl
take_cells (suc n) (c ∷ s) [] = refl
take_cells (suc n) (c ∷ s) (k ∷ ks) = rw (take_cells n s ks)

pub drop_cells : (n : ℕ) (s ks : List ℕ) → drop n (cells_of s ks) ≡ cells_of (drop n s) (drop n ks)
unfolding cells_of
drop_cells zero s ks = refl
drop_cells (suc n) [] ks = refl
drop_cells (suc n) (c ∷ s) [] = sym (cells_none (drop n s))
drop_cells (suc n) (c ∷ s) (k ∷ ks) = drop_cells n s ks

pub get_d_cells : (i : ℕ) (s ks : List ℕ) (d : Cell) → i < length s → length s ≤ length ks → get_or (cells_of s ks) i d ≡ cell (get_or s i 0) (class_of (get_or ks i 0))
unfolding cells_of
get_d_cells i [] ks d h l = absurd (omega arith)
get_d_cells i (c ∷ s) [] d h l = absurd (omega arith)
get_d_cells zero (c ∷ s) (k ∷ ks) d h l = refl
get_d_cells (suc i) (c ∷ s) (k ∷ ks) d h l = get_d_cells i s ks d (omega arith) (omega arith)

-- ---- a loop over the line

pub cells_at : (s ks : List ℕ) (i : ℕ) → i < length s → length s ≤ length ks
    → cells_of (drop i s) (drop i ks) ≡ cell (get_or s i 0) (class_of (get_or ks i 0)) ∷ cells_of (drop (i + 1) s) (drop (i + 1) ks)
unfolding cells_of
cells_at s ks i h l = let k : i < length ks = omega arith in rw (add-one i, drop-cons s i 0, drop-cons ks i 0)

pub cells_end : (s ks : List ℕ) (i : ℕ) → length s ≤ i → cells_of (drop i s) (drop i ks) ≡ []
unfolding cells_of
cells_end s ks i h = rw (drop_of_length-le s h)

-- of the first cell that passes the test p: none before i does
pub record Finding (p : Cell → Bool) (s ks : List ℕ) (i : ℕ) : Type 0 where
  pub within : i ≤ length s
  pub before : before p (cells_of s ks) ≡ cells_of (take i s) (take i ks) ++ before p (cells_of (drop i s) (drop i ks))
  pub from : from p (cells_of s ks) ≡ from p (cells_of (drop i s) (drop i ks))

pub find_start : (p : Cell → Bool) (s ks : List ℕ) → Finding p s ks 0
unfolding cells_of
find_start p s ks = record { within = zero-le; before = refl; from = refl }

-- one cell more at the end
cells_suc : (s ks : List ℕ) (i : ℕ) → i < length s → length s ≤ length ks → cells_of (take (i + 1) s) (take (i + 1) ks) ≡ cells_of (take i s) (take i ks) ++ (cell_at s ks i ∷ [])
cells_suc s ks i h l =
    let n : i < length (cells_of s ks) = omega (arith, length_cells s ks l) in
    sym (take_cells (i + 1) s ks)
    ∙ rw (add-one i, take-suc (cells_of s ks) i (cell_at s ks i), get_d_cells i s ks (cell_at s ks i), take_cells i s ks)

module _ {p : Cell → Bool} {s ks : List ℕ} {i : ℕ} (r : Finding p s ks i) where
  pub find_more : i < length s → length s ≤ length ks → p (cell (get_or s i 0) (class_of (get_or ks i 0))) ≡ false → Finding p s ks (i + 1)
  unfolding before from choose
  find_more h l e =
      record {
        within = omega arith;
        before = r.before ∙ rw (cells_at s ks i h l, e, cells_suc s ks i h l, append_assoc);
        from = r.from ∙ rw (cells_at s ks i h l, e);
      }

  pub find_stop : i < length s → length s ≤ length ks → p (cell (get_or s i 0) (class_of (get_or ks i 0))) ≡ true → FirstAt p s ks i
  unfolding before from choose
  find_stop h l e =
      record {
        within = r.within;
        before = r.before ∙ rw (cells_at s ks i h l, e, append-nil);
        from = r.from ∙ rw (cells_at s ks i h l, e);
      }

  pub find_end : length s ≤ i → FirstAt p s ks i
  unfolding before from
  find_end h =
      record {
        within = r.within;
        before = r.before ∙ rw (cells_end s ks i h, append-nil);
        from = r.from ∙ rw (cells_end s ks i h);
      }

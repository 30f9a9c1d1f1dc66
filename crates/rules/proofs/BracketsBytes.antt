-- The brackets of a line's bytes are those of its characters. An escape is used up by the first byte of a longer
-- character, and its other bytes do nothing.
--     brackets_encode          scan_brackets on bytes
--     drop_encode              as many bytes as characters, where those dropped are ASCII
--     count_encode             count_brackets after an ASCII start; count_closers after the leading closers
use Prim.Native.Nat.{ℕ, zero, suc, ◌<◌, ◌≤◌}
use mathlib.Core.Bool.{Bool, true, false, not}
use mathlib.Core.List.{List, [], ◌∷◌, foldl}
use mathlib.Core.Path.{◌≡◌, refl, sym, ap, ◌∙◌}
use lib.Dec.{ltb}
use lib.ListN.{take, drop}
use borrow.Author.Tests.{ltb-true}
use Rattle.utf8.specs.Unicode.{encode_char, encode}
use Rattle.utf8.proofs.Tests.{and_left, and_right}
use Rattle.utf8.proofs.Table.{encode_char_1, High, none, also}
use Rattle.rules.specs.declared.Class.{Class}
use Rattle.rules.specs.declared.Carry.{Carry}
use Rattle.rules.specs.Basics.{choose}
use Rattle.rules.specs.Scan.{Cell, cell, is_code, chars_of, classify}
use Rattle.rules.specs.Brackets.{Entry, Open, opened, escaped, leading_closers, bracket_step, scan_brackets, count_brackets}
use Rattle.rules.proofs.StartsBytes.{all_ascii, not_ascii, steady_opener, steady_closer, closers_ascii}
use Rattle.rules.proofs.ScanBytes.{label, encode_cells, classify_encode, chars_classify, fold_encode}

-- a character from 80 hex on, of code or not, only ends an escape
after : Bool → Open → Open
after code o = choose (not code) o (choose o.esc (escaped false o) o)

step_high : (b : ℕ) → 0x80 ≤ b → (k : Class) (o : Open) → bracket_step o (cell b k) ≡ after (is_code k) o
unfolding after bracket_step choose
step_high b h k o = rw (not_ascii b 92 h refl, steady_opener b h, steady_closer b h)

after_after : (t : Bool) (o : Open) → after t (after t o) ≡ after t o
unfolding after choose
after_after false o = refl
after_after true o = go o.line o.added o.popped o.esc o.stack
  where
    go : (line added popped : ℕ) (esc : Bool) (stack : List Entry)
        → after true (after true (opened line added popped esc stack)) ≡ after true (opened line added popped esc stack)
    go line added popped true stack = refl
    go line added popped false stack = refl

rest_high : (bs : List ℕ) → High bs → (k : Class) (o : Open) → foldl bracket_step (after (is_code k) o) (label k bs) ≡ after (is_code k) o
unfolding label
rest_high bs none k o = refl
rest_high bs (also {b = b} {bs = bs'} h hs) k o =
    ap (λ (t : Open). foldl bracket_step t (label k bs')) (step_high b h k (after (is_code k) o) ∙ after_after (is_code k) o) ∙ rest_high bs' hs k o

fold_same : (cells : List Cell) (o : Open) → foldl bracket_step o cells ≡ foldl bracket_step o (encode_cells cells)
fold_same cells o = fold_encode bracket_step bracket_step ◌≡◌ low high cells o o refl
  where
    low : (t u : Open) (c : ℕ) (k : Class) → c < 0x80 → t ≡ u → bracket_step t (cell c k) ≡ bracket_step u (cell c k)
    low t u c k h e = ap (λ (o : Open). bracket_step o (cell c k)) e

    high : (t u : Open) (c b : ℕ) (bs : List ℕ) (k : Class) → encode_char c ≡ b ∷ bs → 0x80 ≤ c → 0x80 ≤ b → High bs → t ≡ u
        → bracket_step t (cell c k) ≡ foldl bracket_step (bracket_step u (cell b k)) (label k bs)
    high t u c b bs k e hc hb hs r =
        ap (λ (o : Open). bracket_step o (cell c k)) r ∙ step_high c hc k u ∙ sym (rest_high bs hs k u)
        ∙ sym (ap (λ (o : Open). foldl bracket_step o (label k bs)) (step_high b hb k u))

pub brackets_encode : (k : ℕ) (cells : List Cell) (stack : List Entry) → scan_brackets k (encode_cells cells) stack ≡ scan_brackets k cells stack
unfolding scan_brackets
brackets_encode k cells stack = ap (λ (o : Open). o.stack) (sym (fold_same cells (opened k 0 0 false stack)))

-- ---- after the leading closers

pub drop_encode : (n : ℕ) (cells : List Cell) → all_ascii (take n (chars_of cells)) ≡ true → drop n (encode_cells cells) ≡ encode_cells (drop n cells)
unfolding chars_of encode_cells label
drop_encode zero cells a = refl
drop_encode (suc n) [] a = refl
drop_encode (suc n) (x ∷ xs) a =
    rw (encode_char_1 x.ch (ltb-true x.ch 0x80 (and_left (ltb x.ch 0x80) (all_ascii (take n (chars_of xs))) a)))
    (drop_encode n xs (and_right (ltb x.ch 0x80) (all_ascii (take n (chars_of xs))) a))

pub count_encode : (k n : ℕ) (cells : List Cell) (stack : List Entry) → all_ascii (take n (chars_of cells)) ≡ true
    → count_brackets k n (encode_cells cells) stack ≡ count_brackets k n cells stack
unfolding count_brackets
count_encode k n cells stack a = rw (drop_encode n cells a) (brackets_encode k (drop n cells) (drop n stack))

pub count_closers : (k : ℕ) (y : Carry) (l : List ℕ) (stack : List Entry)
    → count_brackets k (leading_closers l) (classify y (encode l)) stack ≡ count_brackets k (leading_closers l) (classify y l) stack
count_closers k y l stack =
    rw (classify_encode y l)
    (count_encode k (leading_closers l) (classify y l) stack (ap (λ (s : List ℕ). all_ascii (take (leading_closers l) s)) (chars_classify y l) ∙ closers_ascii l))

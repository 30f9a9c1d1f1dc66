-- Words, names and pieces of a line, found on its bytes.
--     encode_pieces, split_encode, pieces_encode     a text cut at an ASCII character
--     word_encode, import_encode                    what a line starts with
--     has_word_encode, balanced_encode               over the cells of a line
--     before_code_encode, from_code_encode            the parts at an ASCII Code character
use Prim.Native.Nat.{ℕ, ◌<◌, ◌≤◌}
use Prim.Native.Char.{Char, code}
use mathlib.Core.Bool.{Bool, true, false, not, and-false}
use mathlib.Core.List.{List, [], ◌∷◌, ◌++◌, map, foldl}
use mathlib.Core.Option.{Option, some}
use mathlib.Core.Path.{◌≡◌, refl, sym, ap, ◌∙◌}
use lib.Dec.{ltb}
use Rattle.utf8.specs.Unicode.{encode_char, encode}
use Rattle.utf8.proofs.Table.{High, none, also, Bytes, single, several, bytes}
use Rattle.rules.specs.declared.Class.{Class}
use Rattle.rules.specs.Basics.{choose, is, codes, is_blank, is_ident, same, one_of, Pieces, pieces, at_sep, split_on}
use Rattle.rules.specs.Scan.{Cell, cell, is_code}
use Rattle.rules.specs.Words.{starts_with_word}
use Rattle.rules.specs.SplitImport.{code_is, before_code, from_code, starts_import}
use Rattle.rules.specs.SplitOperation.{balance_step, is_zero, is_balanced, in_word, word_on, has_word_from, has_word, keywords}
use Rattle.rules.proofs.StartsBytes.{all_ascii, choose_both, steady_is, steady_blank, steady_opener, steady_closer, steady_ident, steady_not, then_encode}
use Rattle.rules.proofs.ScanBytes.{label, encode_cells, fold_encode, SteadyCell, before_encode, from_encode}

-- ---- pieces

abbrev pub encode_pieces : Pieces → Pieces
encode_pieces p = record { first = encode p.first; rest = map encode p.rest }

split_high : (sep : Char) → ltb (code sep) 0x80 ≡ true → (bs s : List ℕ) → High bs
    → split_on sep (bs ++ s) ≡ record { first = bs ++ (split_on sep s).first; rest = (split_on sep s).rest }
unfolding split_on at_sep
split_high sep a bs s none = refl
split_high sep a bs s (also {b = b} {bs = bs'} h hs) = rw (steady_is sep a b h, split_high sep a bs' s hs)

at_encode : (t : Bool) (c : ℕ) (p : Pieces) → encode_char c ≡ c ∷ [] → at_sep t c (encode_pieces p) ≡ encode_pieces (at_sep t c p)
unfolding at_sep encode
at_encode true c p e = refl
at_encode false c p e = rw e

pub split_encode : (sep : Char) → ltb (code sep) 0x80 ≡ true → (l : List ℕ) → split_on sep (encode l) ≡ encode_pieces (split_on sep l)
unfolding split_on at_sep encode
split_encode sep a [] = refl
split_encode sep a (c ∷ cs) = go (encode_char c) refl (bytes c) (split_encode sep a cs)
  where
    go : (bs : List ℕ) → encode_char c ≡ bs → Bytes c bs → split_on sep (encode cs) ≡ encode_pieces (split_on sep cs)
        → split_on sep (bs ++ encode cs) ≡ encode_pieces (at_sep (is sep c) c (split_on sep cs))
    go bs e (single h) i = ap (λ (p : Pieces). at_sep (is sep c) c p) i ∙ at_encode (is sep c) c (split_on sep cs) e
    go bs e (several {b = b} {bs = bs'} hc hb hs) i =
        split_high sep a (b ∷ bs') (encode cs) (also hb hs)
        ∙ ap (λ (p : Pieces). record { first = (b ∷ bs') ++ p.first; rest = p.rest }) i
        ∙ rw (steady_is sep a c hc, e)

pub pieces_encode : (sep : Char) → ltb (code sep) 0x80 ≡ true → (l : List ℕ) → pieces (split_on sep (encode l)) ≡ map encode (pieces (split_on sep l))
pieces_encode sep a l = ap pieces (split_encode sep a l)

-- ---- what a line starts with: then_encode, for the tests that tell no longer characters apart

pub word_encode : (line word : List ℕ) → all_ascii word ≡ true → starts_with_word (encode line) word ≡ starts_with_word line word
unfolding starts_with_word
word_encode line word a = then_encode word is_blank false true a steady_blank line

pub import_encode : (line : List ℕ) → starts_import (encode line) ≡ starts_import line
unfolding starts_import
import_encode line = then_encode (codes "import") (λ c. not (is_ident c)) true true refl (steady_not is_ident false steady_ident) line

-- ---- the parts of a line at a Code character

steady_code : (k : Char) → ltb (code k) 0x80 ≡ true → SteadyCell (code_is k) (λ j. false)
steady_code k a j b h = rw (steady_is k a b h, and-false (is_code j))

pub before_code_encode : (k : Char) → ltb (code k) 0x80 ≡ true → (xs : List Cell) → before_code k (encode_cells xs) ≡ encode_cells (before_code k xs)
before_code_encode k a xs = before_encode (code_is k) (λ j. false) (steady_code k a) xs

pub from_code_encode : (k : Char) → ltb (code k) 0x80 ≡ true → (xs : List Cell) → from_code k (encode_cells xs) ≡ encode_cells (from_code k xs)
from_code_encode k a xs = from_encode (code_is k) (λ j. false) (steady_code k a) xs

-- ---- is_balanced

balance_high : (b : ℕ) → 0x80 ≤ b → (k : Class) (d : Option ℕ) → balance_step d (cell b k) ≡ d
unfolding balance_step choose
balance_high b h k d = rw (steady_opener b h, steady_closer b h) (choose_both (not (is_code k)) d)

balance_rest : (bs : List ℕ) → High bs → (k : Class) (d : Option ℕ) → foldl balance_step d (label k bs) ≡ d
unfolding label
balance_rest bs none k d = refl
balance_rest bs (also {b = b} {bs = bs'} h hs) k d =
    ap (λ (t : Option ℕ). foldl balance_step t (label k bs')) (balance_high b h k d) ∙ balance_rest bs' hs k d

balance_same : (cells : List Cell) (d : Option ℕ) → foldl balance_step d cells ≡ foldl balance_step d (encode_cells cells)
balance_same cells d = fold_encode balance_step balance_step ◌≡◌ low high cells d d refl
  where
    low : (t u : Option ℕ) (c : ℕ) (k : Class) → c < 0x80 → t ≡ u → balance_step t (cell c k) ≡ balance_step u (cell c k)
    low t u c k h e = ap (λ (d : Option ℕ). balance_step d (cell c k)) e

    high : (t u : Option ℕ) (c b : ℕ) (bs : List ℕ) (k : Class) → encode_char c ≡ b ∷ bs → 0x80 ≤ c → 0x80 ≤ b → High bs → t ≡ u
        → balance_step t (cell c k) ≡ foldl balance_step (balance_step u (cell b k)) (label k bs)
    high t u c b bs k e hc hb hs r =
        balance_high c hc k t ∙ r ∙ sym (ap (λ (d : Option ℕ). foldl balance_step d (label k bs)) (balance_high b hb k u) ∙ balance_rest bs hs k u)

pub balanced_encode : (cells : List Cell) → is_balanced (encode_cells cells) ≡ is_balanced cells
unfolding is_balanced
balanced_encode cells = ap is_zero (sym (balance_same cells (some 0)))

-- ---- has_word: the empty text is none of the words

in_word_high : (b : ℕ) → 0x80 ≤ b → (k : Class) → in_word (cell b k) ≡ false
in_word_high b h k = rw (steady_ident b h, and-false (is_code k))

module _ (ws : List (List ℕ)) (none_empty : one_of ws [] ≡ false) where
  word_high : (bs : List ℕ) (k : Class) (ys : List Cell) → High bs → has_word_from ws [] (label k bs ++ ys) ≡ has_word_from ws [] ys
  unfolding has_word_from word_on label choose
  word_high bs k ys none = refl
  word_high bs k ys (also {b = b} {bs = bs'} h hs) = rw (in_word_high b h k, none_empty) (word_high bs' k ys hs)

  words_from : (cells : List Cell) (word : List ℕ) → has_word_from ws word (encode_cells cells) ≡ has_word_from ws word cells
  unfolding has_word_from word_on encode_cells label choose
  words_from [] word = refl
  words_from (x ∷ xs) word = go (encode_char x.ch) (bytes x.ch) (words_from xs)
    where
      go : (bs : List ℕ) → Bytes x.ch bs → ((w : List ℕ) → has_word_from ws w (encode_cells xs) ≡ has_word_from ws w xs)
          → has_word_from ws word (label x.class bs ++ encode_cells xs) ≡ has_word_from ws word (x ∷ xs)
      go bs (single h) i = rw (i (word_on word x))
      go bs (several {b = b} {bs = bs'} hc hb hs) i =
          rw (in_word_high b hb x.class, in_word_high x.ch hc x.class, word_high bs' x.class (encode_cells xs) hs, i [])

  pub has_word_encode : (cells : List Cell) → has_word ws (encode_cells cells) ≡ has_word ws cells
  unfolding has_word
  has_word_encode cells = words_from cells []

pub keywords_encode : (cells : List Cell) → has_word keywords (encode_cells cells) ≡ has_word keywords cells
unfolding one_of same
keywords_encode cells = has_word_encode keywords refl cells

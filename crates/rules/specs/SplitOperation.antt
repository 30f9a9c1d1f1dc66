-- split_operation: an over-wide expression broken before its loosest operators.
use Rattle.std.specs.Prelude.{ℕ, zero, suc, min, Bool, true, false, not, ◌&&◌, ◌||◌, eqb, length, drop, take, get_or}
use mathlib.Core.List.{List, [], ◌∷◌, ◌++◌, map, foldl, reverse}
use Rattle.std.proofs.Math.Option.{Option, none, some}
use Rattle.utf8.specs.Unicode.{trim}
use Rattle.rules.specs.Basics.{choose, is, codes, at, same, one_of, leading, first_is, Pieces, is_blank, is_opener}
use Rattle.rules.specs.Basics.{is_closer, is_ident}
use Rattle.rules.specs.Scan.{Cell, chars_of, is_code, is_str, classify}
use Rattle.rules.specs.Operators.{operators, index_in}
use Rattle.rules.specs.Options.{Options, indent_of, over_wide}
use Rattle.rules.specs.declared.Carry.{Carry}

-- A table has a strength for each of the operators, in their order; 0 means never break there. The rules take it as
-- given.
unfoldable pub precedence : List ℕ → List ℕ → ℕ
precedence table op = get_or table (index_in operators op) 0

-- ---- top_level_ops

unfoldable pub ends_operand : ℕ → Bool
ends_operand c = is_ident c || is ")" c || is "]" c || is "\"" c || is "'" c

-- how many characters of an atom's name l starts with: those of a name, and `-`
abbrev pub atom_char : ℕ → Bool
atom_char c = is_ident c || is "-" c

abbrev pub atom_len : List ℕ → ℕ
atom_len l = leading atom_char l

-- Before a character: brackets opened and closed so far, whether an operand ends here, an escape, and how many more
-- characters belong to the token before.
pub record Ops : Type 0 where
  pub opened : ℕ
  pub closed : ℕ
  pub operand : Bool
  pub esc : Bool
  pub skip : ℕ

-- the strength of the operator that starts at a character, 0 for none; and the state after the character
pub record OpStep : Type 0 where
  pub strength : ℕ
  pub after : Ops

-- a token of n + 1 characters that is no operator
unfoldable pub token : Ops → Bool → ℕ → OpStep
token s operand n =
    record {
      strength = 0;
      after = record { opened = s.opened; closed = s.closed; operand = operand; esc = false; skip = n };
    }

-- an operator of n + 1 characters: it counts outside brackets, at depth exactly 0. No operand ends with it.
unfoldable pub operator : Ops → ℕ → ℕ → OpStep
operator s strength n =
    record {
      strength = choose (eqb s.opened s.closed) strength 0;
      after = record { opened = s.opened; closed = s.closed; operand = false; esc = false; skip = n };
    }

unfoldable pub escape : Ops → Bool → OpStep
escape s esc =
    record {
      strength = 0;
      after = record { opened = s.opened; closed = s.closed; operand = s.operand; esc = esc; skip = 0 };
    }

unfoldable pub bracket : ℕ → ℕ → Bool → OpStep
bracket opened closed operand =
    record {
      strength = 0;
      after = record { opened = opened; closed = closed; operand = operand; esc = false; skip = 0 };
    }

unfoldable pub is_sign : ℕ → Bool
is_sign c = is "+" c || is "-" c

-- An operator of one character: one of `+ - * / % & | ^`, and also `<` and `>`, whose `=` 01 doesn't name: `<=` and
-- `>=` are operators of two characters, and were read before. With `=` after it, it is none; nor is a sign where no
-- operand ends.
unfoldable pub one_char_step : List ℕ → Ops → ℕ → List ℕ → OpStep
one_char_step table s c cs =
    choose (not (one_of operators (c ∷ []))) (token s (ends_operand c) 0)
    (choose (first_is (is "=") cs) (token s false 1)
    (choose (is_sign c && not s.operand) (token s false 0)
    (operator s (precedence table (c ∷ [])) 0)))

unfoldable pub two_char_step : List ℕ → Ops → List ℕ → List ℕ → OpStep
two_char_step table s op rest =
    choose ((same op (codes "<<") || same op (codes ">>")) && first_is (is "=") rest) (token s false 2)
    (operator s (precedence table op) 1)

-- l starts with an operator of two characters
abbrev pub starts_pair : List ℕ → Bool
starts_pair l = eqb (length (take 2 l)) 2 && one_of operators (take 2 l)

-- the character c of code with cs after it; an atom's name may hold `-`, with which no operand ends
unfoldable pub code_step : List ℕ → Ops → ℕ → List ℕ → OpStep
code_step table s c cs =
    choose (is ":" c && not s.operand && not (eqb (atom_len cs) 0))
    (token s (ends_operand (get_or (c ∷ cs) (atom_len cs) 0)) (atom_len cs))
    (choose (is_blank c) (token s s.operand 0)
    (choose (is_opener c) (bracket (suc s.opened) s.closed false)
    (choose (is_closer c) (bracket s.opened (suc s.closed) (ends_operand c))
    (choose (at (c ∷ cs) "...") (token s false 2)
    (choose (at (c ∷ cs) "->" || at (c ∷ cs) "=>") (token s false 1)
    (choose (starts_pair (c ∷ cs)) (two_char_step table s (take 2 (c ∷ cs)) (drop 1 cs))
    (one_char_step table s c cs)))))))

-- a string is one operand; an escaped character is passed over
unfoldable pub fresh_step : List ℕ → Ops → Cell → List ℕ → OpStep
fresh_step table s x cs =
    choose (is_str x.class)
    (record {
      strength = 0;
      after = record { opened = s.opened; closed = s.closed; operand = true; esc = s.esc; skip = 0 };
    })
    (choose s.esc (escape s false)
    (choose (is "\\" x.ch) (escape s true)
    (code_step table s x.ch cs)))

unfoldable pub op_step_at : ℕ → List ℕ → Ops → Cell → List ℕ → OpStep
op_step_at zero table s x cs = fresh_step table s x cs
op_step_at (suc n) table s x cs = token s s.operand n

abbrev pub op_step : List ℕ → Ops → Cell → List ℕ → OpStep
op_step table s x cs = op_step_at s.skip table s x cs

-- a character, and the strength of the operator that starts at it
pub record OpMark : Type 0 where
  pub ch : ℕ
  pub strength : ℕ

abbrev pub op_mark : ℕ → ℕ → OpMark
op_mark c n = record { ch = c; strength = n }

unfoldable pub marks_from : List ℕ → Ops → List Cell → List OpMark
marks_from table s [] = []
marks_from table s (x ∷ xs) =
    op_mark x.ch (op_step table s x (chars_of xs)).strength ∷ marks_from table (op_step table s x (chars_of xs)).after xs

abbrev pub no_ops : Ops
no_ops = record { opened = 0; closed = 0; operand = false; esc = false; skip = 0 }

unfoldable pub top_level_ops : List ℕ → List Cell → List OpMark
top_level_ops table cells = marks_from table no_ops cells

-- ---- is_balanced, escaped brackets counted: the depth, or none once it fell below 0

unfoldable pub deeper : Option ℕ → Option ℕ
deeper none = none
deeper (some d) = some (suc d)

unfoldable pub shallower : Option ℕ → Option ℕ
shallower none = none
shallower (some zero) = none
shallower (some (suc d)) = some d

unfoldable pub balance_step : Option ℕ → Cell → Option ℕ
balance_step depth x =
    choose (not (is_code x.class)) depth
    (choose (is_opener x.ch) (deeper depth)
    (choose (is_closer x.ch) (shallower depth)
    depth))

abbrev pub is_zero : Option ℕ → Bool
is_zero none = false
is_zero (some zero) = true
is_zero (some (suc d)) = false

unfoldable pub is_balanced : List Cell → Bool
is_balanced cells = is_zero (foldl balance_step (some 0) cells)

-- ---- has_word: one of the words stands in the line's code; `word` is the word so far, backwards

abbrev pub in_word : Cell → Bool
in_word x = is_code x.class && is_ident x.ch

unfoldable pub word_on : List ℕ → Cell → List ℕ
word_on word x = choose (in_word x) (x.ch ∷ word) []

unfoldable pub has_word_from : List (List ℕ) → List ℕ → List Cell → Bool
has_word_from words word [] = one_of words (reverse word)
has_word_from words word (x ∷ xs) = (not (in_word x) && one_of words (reverse word)) || has_word_from words (word_on word x) xs

unfoldable pub has_word : List (List ℕ) → List Cell → Bool
has_word words cells = has_word_from words [] cells

abbrev pub keywords : List (List ℕ)
keywords = codes "if" ∷ codes "then" ∷ codes "else" ∷ codes "match" ∷ codes "await" ∷ []

-- ---- split_once: cut before every operator of the loosest strength, and trim each piece

-- the loosest strength that is not 0, or 0
unfoldable pub looser : ℕ → ℕ → ℕ
looser zero n = n
looser (suc m) zero = suc m
looser (suc m) (suc n) = min (suc m) (suc n)

unfoldable pub loosest : List OpMark → ℕ
loosest [] = 0
loosest (m ∷ ms) = looser m.strength (loosest ms)

unfoldable pub at_mark : Bool → ℕ → Pieces → Pieces
at_mark true c p = record { first = []; rest = (c ∷ p.first) ∷ p.rest }
at_mark false c p = record { first = c ∷ p.first; rest = p.rest }

unfoldable pub cut_before : ℕ → List OpMark → Pieces
cut_before p [] = record { first = []; rest = [] }
cut_before p (m ∷ ms) = at_mark (eqb m.strength p) m.ch (cut_before p ms)

unfoldable pub trimmed : Pieces → Pieces
trimmed p = record { first = trim p.first; rest = map trim p.rest }

unfoldable pub break_at : ℕ → List OpMark → Option Pieces
break_at zero ms = none
break_at (suc p) ms = some (trimmed (cut_before (suc p) ms))

unfoldable pub split_once : List ℕ → List Cell → Option Pieces
split_once table cells =
    choose (has_word keywords cells) none
    (choose (not (is_balanced cells)) none
    (break_at (loosest (top_level_ops table cells)) (top_level_ops table cells)))

-- ---- split_operation: the first line is broken again while it is too wide

unfoldable pub next_break : List ℕ → Options → ℕ → ℕ → List ℕ → Option Pieces
next_break table o max level first =
    choose (over_wide o max (indent_of o level ++ first)) (split_once table (classify Carry.Code first)) none

unfoldable pub break_on : Option Pieces → Pieces → (Pieces → Pieces) → Pieces
break_on none p again = p
break_on (some q) p again = again (record { first = q.first; rest = q.rest ++ p.rest })

-- Each break leaves the first piece shorter, so its length is rounds enough (proofs/Rounds.antt).
unfoldable pub break_first : List ℕ → Options → ℕ → ℕ → ℕ → Pieces → Pieces
break_first table o max level zero p = p
break_first table o max level (suc n) p =
    break_on (next_break table o max level p.first) p (break_first table o max level n)

-- the first keeps the line's level, the others stand one deeper
unfoldable pub lay_pieces : Options → ℕ → Pieces → List (List ℕ)
lay_pieces o level p = (indent_of o level ++ p.first) ∷ map (λ (l : List ℕ). indent_of o (suc level) ++ l) p.rest

-- where there is nothing to break at, the line alone
unfoldable pub split_operation : List ℕ → Options → ℕ → ℕ → List ℕ → List (List ℕ)
split_operation table o max level line =
    lay_pieces o level (break_first table o max level (length line) (record { first = line; rest = [] }))

-- Breaking before operators changes white space only.
use Prim.Native.Nat.{ℕ, zero, suc}
use mathlib.Core.Bool.{Bool, true, false}
use mathlib.Core.List.{List, [], ◌∷◌, ◌++◌, flatten, append-nil}
use mathlib.Core.Option.{Option, none, some}
use mathlib.Core.Path.{◌≡◌, refl, ap, ◌∙◌}
use lib.Dec.{eqb}
use lib.ListN.{length}
use Rattle.buffer.specs.Repeat.{times}
use Rattle.utf8.specs.Unicode.{trim}
use Rattle.utf8.proofs.Trim.{White, white_append}
use Rattle.rules.specs.Basics.{Pieces, pieces}
use Rattle.rules.specs.Options.{Options, indent_of}
use Rattle.rules.specs.Scan.{Cell, chars_of, classify}
use Rattle.rules.specs.SplitOperation.{Ops, op_step, OpMark, marks_from, top_level_ops, at_mark, cut_before, trimmed, break_at, loosest, split_once, next_break, break_on, break_first, lay_pieces, split_operation}
use Rattle.rules.specs.declared.Carry.{Carry}
use Rattle.rules.proofs.Choose.{choose_case}
use Rattle.rules.proofs.Struck.{Like, like_eq, like_refl, ◌then◌, like_append, like_before, like_trim, like_map, flatten_append}
use Rattle.rules.proofs.ScanBytes.{chars_classify}

-- ---- the indent

white_times : (n : ℕ) (w : List ℕ) → White w → White (times n w)
unfolding times
white_times zero w h = tt
white_times (suc n) w h = white_append w (times n w) h (white_times n w h)

pub white_indent : (o : Options) → White o.indent → (level : ℕ) → White (indent_of o level)
unfolding indent_of
white_indent o h level = white_times level o.indent h

pub like_indent : (o : Options) → White o.indent → (level : ℕ) (l : List ℕ) → Like (indent_of o level ++ l) l
like_indent o h level l = like_before (indent_of o level) l (white_indent o h level)

-- ---- one break

marked : List OpMark → List ℕ
marked [] = []
marked (m ∷ ms) = m.ch ∷ marked ms

marked_marks : (table : List ℕ) (s : Ops) (cells : List Cell) → marked (marks_from table s cells) ≡ chars_of cells
unfolding marked marks_from chars_of
marked_marks table s [] = refl
marked_marks table s (x ∷ xs) = ap {B = List ℕ} (λ r. x.ch ∷ r) (marked_marks table (op_step table s x (chars_of xs)).after xs)

flatten_at_mark : (b : Bool) (c : ℕ) (p : Pieces) → flatten (pieces (at_mark b c p)) ≡ c ∷ flatten (pieces p)
unfolding at_mark flatten
flatten_at_mark true c p = refl
flatten_at_mark false c p = refl

flatten_cut : (p : ℕ) (ms : List OpMark) → flatten (pieces (cut_before p ms)) ≡ marked ms
unfolding cut_before marked flatten
flatten_cut p [] = refl
flatten_cut p (m ∷ ms) = flatten_at_mark (eqb m.strength p) m.ch (cut_before p ms) ∙ ap {B = List ℕ} (λ r. m.ch ∷ r) (flatten_cut p ms)

-- the pieces, if there are any, are the text's
abbrev Broken : List ℕ → Option Pieces → Type 0
Broken l none = Unit {0}
Broken l (some q) = Like (flatten (pieces q)) l

like_break_at : (n : ℕ) (ms : List OpMark) → Broken (marked ms) (break_at n ms)
unfolding break_at trimmed
like_break_at zero ms = tt
like_break_at (suc p) ms = like_map trim like_trim (pieces (cut_before (suc p) ms)) then like_eq (flatten_cut (suc p) ms)

like_once : (table : List ℕ) (cells : List Cell) → Broken (chars_of cells) (split_once table cells)
unfolding split_once top_level_ops
like_once table cells =
    choose_case (Broken (chars_of cells)) (λ h. tt)
    (λ h. choose_case (Broken (chars_of cells)) (λ i. tt)
    (λ i. rw marked_marks at (like_break_at (loosest (top_level_ops table cells)) (top_level_ops table cells))))

-- ---- break after break

module _ (table : List ℕ) (o : Options) (max level : ℕ) where
  like_next : (first : List ℕ) → Broken first (next_break table o max level first)
  unfolding next_break
  like_next first = choose_case (Broken first) (λ h. rw chars_classify at (like_once table (classify Carry.Code first))) (λ h. tt)

  like_on : (r : Option Pieces) (p : Pieces) (again : Pieces → Pieces) → ((q : Pieces) → Like (flatten (pieces (again q))) (flatten (pieces q)))
      → Broken p.first r → Like (flatten (pieces (break_on r p again))) (flatten (pieces p))
  unfolding break_on flatten
  like_on none p again h b = like_refl (flatten (pieces p))
  like_on (some q) p again h b =
      h (record { first = q.first; rest = q.rest ++ p.rest })
      then like_eq (flatten_append (pieces q) p.rest) then like_append b (like_refl (flatten p.rest))

  like_first : (n : ℕ) (p : Pieces) → Like (flatten (pieces (break_first table o max level n p))) (flatten (pieces p))
  unfolding break_first
  like_first zero p = like_refl (flatten (pieces p))
  like_first (suc n) p =
      like_on (next_break table o max level p.first) p (break_first table o max level n) (like_first n) (like_next p.first)

  like_lay : White o.indent → (p : Pieces) → Like (flatten (lay_pieces o level p)) (flatten (pieces p))
  unfolding lay_pieces flatten
  like_lay h p =
      like_append (like_indent o h level p.first)
      (like_map (λ (l : List ℕ). indent_of o (suc level) ++ l) (like_indent o h (suc level)) p.rest)

  pub like_operation : White o.indent → (line : List ℕ) → Like (flatten (split_operation table o max level line)) line
  unfolding split_operation flatten
  like_operation h line =
      like_lay h (break_first table o max level (length line) (record { first = line; rest = [] }))
      then like_first (length line) (record { first = line; rest = [] }) then like_eq (append-nil line)

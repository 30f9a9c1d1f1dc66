-- Each line of the source is kept: the invariant of the formatter's record.
use Rattle.std.specs.Prelude.{Some, None}
use Prim.Native.Nat.{ℕ}
use native.Mathlib.Omega.{arith}
use mathlib.Core.Bool.{Bool, true}
use mathlib.Core.List.{List, [], ◌∷◌, ◌++◌, flatten, foldl, append_assoc, append-nil}
use mathlib.Core.Option.{Option, none, some}
use mathlib.Core.Path.{◌≡◌, refl, sym}
use Rattle.utf8.specs.Unicode.{is_white, trim}
use Rattle.utf8.proofs.Trim.{White}
use Rattle.rules.specs.Basics.{codes, is_empty}
use Rattle.rules.specs.Demand3.{Kept}
use Rattle.rules.specs.Options.{Options, indent_of, PrintWidth}
use Rattle.rules.specs.Scan.{classify}
use Rattle.rules.specs.Spacing.{normalize_spacing}
use Rattle.rules.specs.Words.{is_marker}
use Rattle.rules.specs.Else.{join_else}
use Rattle.rules.specs.SplitImport.{Laid, split_import}
use Rattle.rules.specs.Line.{Formatter, as_written, kept_line, inside_line, blank_line, protected_line, else_line, drop_blank, lines_before, level_of, one_line, or_operation, broken, split_wide, laid, placed_line, spaced_line, code_line, any_line, format_line}
use Rattle.rules.specs.Strengths.{strengths_in}
use Rattle.rules.specs.declared.Carry.{Carry}
use Rattle.rules.proofs.Choose.{choose_case}
use Rattle.rules.proofs.Struck.{Like, like_eq, like_refl, ◌then◌, like_append, like_before, like_trim, like_trim_end, flatten_back, flatten_back_reverse, kept_like, kept_append, kept_from, kept_to, kept_counts}
use Rattle.rules.proofs.ScanBytes.{chars_classify}
use Rattle.rules.proofs.SpacingLaws.{like_spacing}
use Rattle.rules.proofs.SplitOperationLaws.{like_indent, like_operation}
use Rattle.rules.proofs.SplitImportLaws.{LaidKept, Split, kept_import}

module _ (o : Options) (white : White o.indent) where
  -- ---- one line as it is laid out

  kept_one : (w : PrintWidth) (level : ℕ) (line : List ℕ) → LaidKept w line (one_line (indent_of o level ++ line))
  unfolding flatten
  kept_one w level line = kept_like (like_eq (append-nil (indent_of o level ++ line)) then like_indent o white level line)

  kept_or : (r : Option Laid) (max level : ℕ) (line : List ℕ) → Split max line r → LaidKept (Some max) line (or_operation r o max level line)
  unfolding or_operation
  kept_or none max level line h = kept_like (like_operation (strengths_in o.strengths.table) o max level white line)
  kept_or (some l) max level line h = h

  kept_broken : (max level : ℕ) (line : List ℕ) → LaidKept (Some max) line (broken o max level line)
  unfolding broken
  kept_broken max level line =
      kept_or (split_import o max level (classify Carry.Code line)) max level line
      (rw chars_classify at (kept_import o white max level (classify Carry.Code line)))

  kept_split : (w : PrintWidth) (level : ℕ) (line : List ℕ) → LaidKept w line (split_wide w o level line)
  unfolding split_wide
  kept_split None level line = kept_one None level line
  kept_split (Some max) level line =
      choose_case (LaidKept (Some max) line) (λ t. kept_broken max level line) (λ t. kept_one (Some max) level line)

  kept_laid : (f : Formatter) (marker : Bool) (line : List ℕ) → LaidKept o.print_width line (laid o f marker line)
  unfolding laid
  kept_laid f marker line =
      choose_case (LaidKept o.print_width line) (λ t. kept_split o.print_width (level_of f line) line) (λ t. kept_one o.print_width (level_of f line) line)

-- ---- one line more

-- the lines so far keep what src held
abbrev pub Holds : Options → List ℕ → Formatter → Type 0
Holds o src f = Kept o.print_width src (flatten_back f.lines) f.imports_split f.blank_names

like_as_written : (c : Carry) (raw : List ℕ) → Like (as_written c raw) raw
unfolding as_written
like_as_written Carry.Code raw = like_refl raw
like_as_written (Carry.Block d) raw = like_trim_end raw
like_as_written Carry.Prefab raw = like_refl raw

like_join : (line : List ℕ) (ls : List (List ℕ)) → Like (flatten_back (join_else line ls)) (flatten_back ls ++ line)
unfolding join_else flatten_back is_white
like_join line [] = like_refl line
like_join line (last ∷ before) =
    like_append (like_refl (flatten_back before)) (like_append (like_trim_end last) (like_before (codes " ") line (refl, tt)))
    then like_eq (sym (append_assoc (flatten_back before) last line))

flatten_back_drop_blank : (ls : List (List ℕ)) → flatten_back (drop_blank ls) ≡ flatten_back ls
unfolding drop_blank flatten_back
flatten_back_drop_blank [] = refl
flatten_back_drop_blank ([] ∷ ls) = sym (append-nil (flatten_back ls))
flatten_back_drop_blank ((c ∷ cs) ∷ ls) = refl

pub flatten_back_before : (f : Formatter) (line : List ℕ) → flatten_back (lines_before f line) ≡ flatten_back f.lines
unfolding lines_before
flatten_back_before f line =
    choose_case (λ (r : List (List ℕ)). flatten_back r ≡ flatten_back f.lines) (λ t. flatten_back_drop_blank f.lines) (λ t. refl)

like_line : (raw : List ℕ) → Like (normalize_spacing (classify Carry.Code (trim raw))) raw
like_line raw = like_spacing (classify Carry.Code (trim raw)) then like_eq (chars_classify Carry.Code (trim raw)) then like_trim raw

like_empty : (raw : List ℕ) → is_empty (trim raw) ≡ true → Like [] raw
like_empty raw h = go (trim raw) h (like_trim raw)
  where
    go : (t : List ℕ) → is_empty t ≡ true → Like t raw → Like [] raw
    go [] e p = p
    go (c ∷ t) e p = let z : ◌≡◌ {A = List ℕ} [] (c ∷ t) = cc in like_eq z then p

module _ (o : Options) (white : White o.indent) (src : List ℕ) (f : Formatter) (holds : Holds o src f) where
  -- lines that are the same as those before and the source's line, but for white space
  grow : (raw : List ℕ) (ls : List (List ℕ)) → Like (flatten_back ls) (flatten_back f.lines ++ raw)
      → Kept o.print_width (src ++ raw) (flatten_back ls) f.imports_split f.blank_names
  grow raw ls e =
      kept_counts f.imports_split f.blank_names (omega arith) (kept_to e (kept_append holds (kept_like (like_refl raw))))

  push : (raw l : List ℕ) → Like l raw → Like (flatten_back (l ∷ f.lines)) (flatten_back f.lines ++ raw)
  unfolding flatten_back
  push raw l e = like_append (like_refl (flatten_back f.lines)) e

  -- a line that is kept
  holds_kept : (raw shown : List ℕ) → Like shown raw → Holds o (src ++ raw) (kept_line f shown raw)
  unfolding kept_line
  holds_kept raw shown e = grow raw (shown ∷ f.lines) (push raw shown e)

  holds_inside : (raw : List ℕ) → Holds o (src ++ raw) (inside_line f raw)
  holds_inside raw = holds_kept raw (as_written f.carry raw) (like_as_written f.carry raw)

  holds_blank : (raw : List ℕ) → Like [] raw → Holds o (src ++ raw) (blank_line f)
  unfolding blank_line
  holds_blank raw e =
      choose_case (Holds o (src ++ raw))
      (λ t. grow raw f.lines (like_eq (sym (append-nil (flatten_back f.lines))) then like_append (like_refl (flatten_back f.lines)) e))
      (λ t. grow raw ([] ∷ f.lines) (push raw [] e))

  holds_protected : (raw : List ℕ) → Holds o (src ++ raw) (protected_line f raw)
  holds_protected raw = holds_kept raw raw (like_refl raw)

  holds_else : (raw line : List ℕ) → Like line raw → Holds o (src ++ raw) (else_line f line)
  unfolding else_line
  holds_else raw line e =
      grow raw (join_else line f.lines) (like_join line f.lines then like_append (like_refl (flatten_back f.lines)) e)

  holds_placed : (marker : Bool) (raw line : List ℕ) → Like line raw → Holds o (src ++ raw) (placed_line o f marker line)
  unfolding placed_line
  holds_placed marker raw line e =
      rw (flatten_back_reverse (laid o f marker line).lines (lines_before f line), flatten_back_before f line)
      (kept_append holds (kept_from e (kept_laid o white f marker line)))

  holds_spaced : (marker : Bool) (raw line : List ℕ) → Like line raw → Holds o (src ++ raw) (spaced_line o f marker line)
  unfolding spaced_line
  holds_spaced marker raw line e = choose_case (Holds o (src ++ raw)) (λ t. holds_else raw line e) (λ t. holds_placed marker raw line e)

  holds_code : (raw : List ℕ) → Holds o (src ++ raw) (code_line o f raw)
  unfolding code_line
  holds_code raw =
      choose_case (Holds o (src ++ raw)) (λ t. holds_protected raw)
      (λ t. holds_spaced (is_marker (classify Carry.Code (trim raw))) raw (normalize_spacing (classify Carry.Code (trim raw))) (like_line raw))

  holds_line : (raw : List ℕ) → Holds o (src ++ raw) (format_line o f raw)
  unfolding any_line format_line
  holds_line raw =
      choose_case (Holds o (src ++ raw)) (λ t. holds_protected raw)
      (λ t. choose_case (Holds o (src ++ raw))
      (λ u. choose_case (Holds o (src ++ raw)) (λ v. holds_blank raw (like_empty raw v)) (λ v. holds_code raw))
      (λ u. holds_inside raw))

-- every line
pub holds_lines : (o : Options) → White o.indent → (raws : List (List ℕ)) (src : List ℕ) (f : Formatter) → Holds o src f
    → Holds o (src ++ flatten raws) (foldl (format_line o) f raws)
unfolding flatten
holds_lines o h [] src f k = rw (append-nil src) k
holds_lines o h (raw ∷ raws) src f k =
    rw (← append_assoc src raw (flatten raws)) (holds_lines o h raws (src ++ raw) (format_line o f raw) (holds_line o h src f k raw))

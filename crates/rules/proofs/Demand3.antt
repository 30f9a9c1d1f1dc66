-- Demand 3 for every source and all options whose indent is blank.
use Prim.Native.Nat.{ℕ}
use mathlib.Core.Bool.{Bool, true, false}
use mathlib.Core.List.{List, [], ◌∷◌, flatten, append-nil}
use mathlib.Core.Path.{◌≡◌, refl, sym, ap, ◌∙◌}
use borrow.Author.Tests.{eqb-true}
use Rattle.utf8.specs.Unicode.{is_white}
use Rattle.utf8.proofs.Trim.{White}
use Rattle.rules.specs.Basics.{is, Pieces, pieces, split_on, at_sep}
use Rattle.rules.specs.Demand3.{Kept}
use Rattle.rules.specs.Lines.{as_str, drop_cr, lines_of}
use Rattle.rules.specs.Options.{Options, all_blank}
use Rattle.rules.specs.Line.{Formatter, start}
use Rattle.rules.specs.Assembly.{ending_of, drop_empty, joined, last_ending, finish, format_lines, format_with}
use Rattle.rules.specs.declared.LineEnding.{LineEnding}
use Rattle.rules.specs.declared.FinalNewline.{FinalNewline}
use Rattle.rules.proofs.Choose.{choose_case}
use Rattle.rules.proofs.Struck.{Like, like_eq, like_refl, like_sym, ◌then◌, like_append, like_white, like_before, like_after, like_map, flatten_back, kept_like, kept_from, kept_to}
use Rattle.rules.proofs.SpacingLaws.{all_white}
use Rattle.rules.proofs.LineLaws.{holds_lines}

-- ---- the lines of a source hold all but its white space

pub like_drop_cr : (l : List ℕ) → Like (drop_cr l) l
unfolding drop_cr is_white
like_drop_cr [] = like_refl []
like_drop_cr (c ∷ []) =
    choose_case (λ (l : List ℕ). Like l (c ∷ [])) (λ h. like_sym (like_white (c ∷ []) (ap is_white (eqb-true c 13 h), tt))) (λ h. like_refl (c ∷ []))
like_drop_cr (c ∷ d ∷ ds) = like_append (like_refl (c ∷ [])) (like_drop_cr (d ∷ ds))

like_sep : (b : Bool) (c : ℕ) (p : Pieces) (l : List ℕ) → is "\n" c ≡ b → Like (flatten (pieces p)) l → Like (flatten (pieces (at_sep b c p))) (c ∷ l)
unfolding at_sep flatten is_white
like_sep true c p l e h = h then like_sym (like_before (c ∷ []) l (ap is_white (eqb-true c 10 e), tt))
like_sep false c p l e h = like_append (like_refl (c ∷ [])) h

like_cut : (l : List ℕ) → Like (flatten (pieces (split_on "\n" l))) l
unfolding split_on flatten
like_cut [] = like_refl []
like_cut (c ∷ l) = like_sep (is "\n" c) c (split_on "\n" l) l refl (like_cut l)

like_lines_of : (source : List ℕ) → Like (flatten (lines_of source)) source
unfolding lines_of
like_lines_of source = like_map drop_cr like_drop_cr (pieces (split_on "\n" source)) then like_cut source

-- ---- joining adds white space only

pub white_ending : (e : LineEnding) → White (as_str e)
unfolding as_str is_white
white_ending LineEnding.Lf = (refl, tt)
white_ending LineEnding.Crlf = (refl, (refl, tt))

flatten_back_drop_empty : (ls : List (List ℕ)) → flatten_back (drop_empty ls) ≡ flatten_back ls
unfolding drop_empty flatten_back
flatten_back_drop_empty [] = refl
flatten_back_drop_empty ([] ∷ ls) = flatten_back_drop_empty ls ∙ sym (append-nil (flatten_back ls))
flatten_back_drop_empty ((c ∷ cs) ∷ ls) = refl

module _ (eol : List ℕ) (white : White eol) where
  pub like_joined : (ls : List (List ℕ)) → Like (joined eol ls) (flatten_back ls)
  unfolding joined flatten_back
  like_joined [] = like_refl []
  like_joined (l ∷ []) = like_refl l
  like_joined (l ∷ m ∷ ls) = like_append (like_joined (m ∷ ls)) (like_before eol l white)

  white_last : (n : FinalNewline) (source : List ℕ) → White (last_ending n source eol)
  unfolding last_ending
  white_last FinalNewline.Always source = white
  white_last FinalNewline.AsSource source = choose_case White (λ h. white) (λ h. tt)
  white_last FinalNewline.Never source = tt

  like_finish : (o : Options) (source : List ℕ) (f : Formatter) → Like (finish o source eol f).text (flatten_back f.lines)
  unfolding finish
  like_finish o source f =
      like_after (last_ending o.insert_final_newline source eol) (joined eol (drop_empty f.lines)) (white_last o.insert_final_newline source)
      then like_joined (drop_empty f.lines) then like_eq (flatten_back_drop_empty f.lines)

-- ---- the whole text

pub demand3 : (o : Options) → all_blank o.indent ≡ true → (source : List ℕ)
    → Kept o.print_width source (format_with o source).text (format_with o source).imports_split (format_with o source).blank_names
unfolding format_with finish format_lines flatten_back
demand3 o h source =
    let eol = as_str (ending_of o.end_of_line source) in
    let f = format_lines o (lines_of source) start in
    kept_to (like_finish eol (white_ending (ending_of o.end_of_line source)) o source f)
    (kept_from (like_lines_of source) (holds_lines o (all_white o.indent h) (lines_of source) [] start (kept_like (like_refl []))))

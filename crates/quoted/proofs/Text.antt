-- C-22, strings: with no print width each string that is closed on its line stands in the text.
use Rattle.std.specs.Prelude.{None}
use Prim.Native.Nat.{ℕ}
use mathlib.Core.Bool.{true}
use mathlib.Core.List.{List, [], ◌∷◌, ◌++◌, map, foldl, flatten, append_assoc, append-nil}
use mathlib.Core.Path.{◌≡◌, refl, ap, ◌∙◌, subst}
use Rattle.utf8.specs.Unicode.{is_white}
use Rattle.utf8.proofs.Trim.{White}
use Rattle.rules.specs.Basics.{codes, pieces, split_on}
use Rattle.rules.specs.Lines.{as_str, drop_cr, lines_of}
use Rattle.rules.specs.Options.{Options, all_blank}
use Rattle.rules.specs.Scan.{begin, carry_after}
use Rattle.rules.specs.Line.{Formatter, start, format_line}
use Rattle.rules.specs.Assembly.{ending_of, last_ending, finish, format_lines, format_with}
use Rattle.rules.specs.Quoted.{Quoted, quoted_in, quoted_from, quoted_of, Stands, All}
use Rattle.rules.specs.declared.Carry.{Carry}
use Rattle.rules.specs.declared.LineEnding.{LineEnding}
use Rattle.rules.proofs.Struck.{like_eq, like_refl, like_sym, ◌then◌, like_append, like_after, flatten_back, kept_like, kept_from}
use Rattle.rules.proofs.SpacingLaws.{all_white}
use Rattle.rules.proofs.LineLaws.{Holds, holds_lines}
use Rattle.rules.proofs.Demand3.{like_drop_cr, white_ending}
use Rattle.quoted.proofs.Strings.{all_append, all_map}
use Rattle.quoted.proofs.Place.{Has, has_lasts, In, stands_text}
use Rattle.quoted.proofs.Lines.{Goes, goes_line}
use Rattle.quoted.proofs.Among.{among_line}
use Rattle.quoted.proofs.StringLines.{new_line_law}

-- what stands before the next line
pub holds_next : (o : Options) → White o.indent → (l b : List ℕ) (f : Formatter) → Holds o b f
    → Holds o (b ++ (l ++ codes "\n")) (format_line o f (drop_cr l))
unfolding flatten is_white
holds_next o white l b f h =
    kept_from
    (like_append (like_refl b)
    (like_eq (append-nil (drop_cr l)) then like_drop_cr l then like_sym (like_after (codes "\n") l (refl, tt))))
    (holds_lines o white (drop_cr l ∷ []) b f h)

module _ (o : Options) (off : o.print_width ≡ None) (white : White o.indent) where
  all_lines : (ls : List (List ℕ)) (b : List ℕ) (f : Formatter) → Holds o b f → (xs : List Quoted)
      → All (In f.lines) xs
      → All (In (foldl (format_line o) f (map drop_cr ls)).lines) (xs ++ quoted_from b f.carry ls)
  unfolding quoted_from
  all_lines [] b f h xs a = rw (append-nil xs) a
  all_lines (l ∷ ls) b f h xs a =
      let raw : List ℕ = drop_cr l in
      let g : Formatter = format_line o f raw in
      let c : List ℕ = b ++ (l ++ codes "\n") in
      let k : Goes f raw g = goes_line o off white f raw in
      let here : List Quoted = quoted_in b (begin f.carry) raw in
      let r = all_lines ls c g (holds_next o white l b f h) (xs ++ here)
      (all_append (In g.lines) xs here
      (all_map (In f.lines) (In g.lines)
      (λ x i. among_line (Has x) (has_lasts x) f raw g.lines k.lines i) xs a)
      (new_line_law f b raw (record { same = h.unbroken off }) g.lines k.lines))
      in
      subst (All (In (foldl (format_line o) g (map drop_cr ls)).lines))
      (ap {B = List Quoted} (λ (y : Carry). xs ++ here ++ quoted_from c y ls) k.carry
      ∙ append_assoc xs here (quoted_from c (carry_after f.carry raw) ls)) r

-- every string that is closed on its line stands in the text, in its place
pub strings_stand : (o : Options) → all_blank o.indent ≡ true → o.print_width ≡ None → (source : List ℕ)
    → All (Stands (format_with o source).text) (quoted_of source)
unfolding format_with finish format_lines lines_of quoted_of flatten_back
strings_stand o h off source =
    let e : LineEnding = ending_of o.end_of_line source in
    let f : Formatter = foldl (format_line o) start (lines_of source) in
    all_map (In f.lines) (Stands (format_with o source).text)
    (stands_text (as_str e) (white_ending e) f.lines (last_ending o.insert_final_newline source (as_str e)))
    (quoted_of source)
    (all_lines o off (all_white o.indent h) (pieces (split_on "\n" source)) [] start (kept_like (like_refl [])) [] tt)

-- Splitting an import changes white space and commas only: each piece gets a comma, and a blank one goes with its own.
use Rattle.std.specs.Prelude.{Some}
use Prim.Native.Nat.{ℕ, suc, ◌+◌}
use Prim.Native.Char.{Char, code}
use native.Mathlib.Omega.{arith}
use mathlib.Core.Bool.{Bool, true, false}
use mathlib.Core.List.{List, [], ◌∷◌, ◌++◌, flatten, foldl, reverse, append_assoc, append-nil}
use mathlib.Core.Option.{Option, none, some}
use mathlib.Core.Path.{◌≡◌, refl, sym, ap, ◌∙◌, subst}
use lib.ListN.{length}
use borrow.Author.Tests.{eqb-true}
use Rattle.utf8.specs.Unicode.{is_white, trim, trim_end}
use Rattle.utf8.proofs.Tests.{and_right}
use Rattle.utf8.proofs.Trim.{White}
use Rattle.rules.specs.Basics.{choose, is, codes, is_empty, keep, count, Pieces, pieces, split_on, at_sep}
use Rattle.rules.specs.Demand3.{strike_white, strike, commas_in, Kept}
use Rattle.rules.specs.Options.{Options, indent_of, PrintWidth}
use Rattle.rules.specs.Scan.{Cell, chars_of, is_code, before, from}
use Rattle.rules.specs.SplitImport.{Laid, code_is, before_code, from_code, cons_name, names_of, blanks_of, with_comma, add_name, fill_names, import_lines, import_parts, closed_import, opened_import, split_import}
use Rattle.rules.proofs.Choose.{choose_case}
use Rattle.rules.proofs.Struck.{Like, like_eq, like_refl, ◌then◌, like_append, like_before, like_trim, like_trim_end, flatten_append, flatten_back, flatten_reverse, kept_like, kept_then, kept_append, kept_to, kept_counts}
use Rattle.rules.proofs.SplitOperationLaws.{white_indent, like_indent}

-- ---- names with commas

names_text : List (List ℕ) → List ℕ
names_text [] = []
names_text (n ∷ ns) = with_comma n ++ names_text ns

-- at a width of `max` columns, commas may come and go
module _ (max : ℕ) where
  abbrev Keeps : List ℕ → List ℕ → ℕ → ℕ → Type 0
  Keeps s t i b = Kept (Some max) s t i b

  comma_out : Keeps (codes ",") [] 0 1
  unfolding strike strike_white commas_in keep count choose is_white
  comma_out = record { struck = refl; unbroken = λ h. cc; commas = refl }

  comma_in : Keeps [] (codes ",") 1 0
  unfolding strike strike_white commas_in keep count choose is_white
  comma_in = record { struck = refl; unbroken = λ h. cc; commas = refl }

  -- the text is cut at its commas
  kept_sep : (b : Bool) (c : ℕ) (p : Pieces) (l : List ℕ) → is "," c ≡ b → Keeps l (flatten (pieces p)) 0 (length p.rest)
      → Keeps (c ∷ l) (flatten (pieces (at_sep b c p))) 0 (length (at_sep b c p).rest)
  unfolding at_sep flatten
  kept_sep true c p l e h =
      rw (eqb-true c 44 e) (kept_counts 0 (suc (length p.rest)) (omega arith) (kept_append comma_out h))
  kept_sep false c p l e h =
      kept_counts 0 (length p.rest) (omega arith) (kept_append (kept_like (like_refl (c ∷ []))) h)

  kept_cut : (l : List ℕ) → Keeps l (flatten (pieces (split_on "," l))) 0 (length (split_on "," l).rest)
  unfolding split_on flatten
  kept_cut [] = kept_like (like_refl [])
  kept_cut (c ∷ l) = kept_sep (is "," c) c (split_on "," l) l refl (kept_cut l)

  -- each piece gets a comma, and a blank one goes
  kept_name : (t p : List ℕ) (ns ps : List (List ℕ)) (i b : ℕ) → Like t p → Keeps (flatten ps) (names_text ns) i b
      → Keeps (p ++ flatten ps) (names_text (cons_name t ns)) (1 + i) (choose (is_empty t) 1 0 + b)
  unfolding cons_name names_text choose
  kept_name [] p ns ps i b e h = kept_append (kept_counts 1 1 (omega arith) (kept_like e)) h
  kept_name (c ∷ t) p ns ps i b e h =
      kept_append {s = p} (subst (λ (s : List ℕ). Keeps s (with_comma (c ∷ t)) 1 0) (append-nil p) (kept_append (kept_like e) comma_in)) h

  kept_names : (ps : List (List ℕ)) → Keeps (flatten ps) (names_text (names_of ps)) (length ps) (blanks_of ps)
  unfolding names_of blanks_of names_text flatten
  kept_names [] = kept_like (like_refl [])
  kept_names (p ∷ ps) =
      kept_counts (length (p ∷ ps)) (blanks_of (p ∷ ps)) (omega arith)
      (kept_name (trim p) p (names_of ps) ps (length ps) (blanks_of ps) (like_trim p) (kept_names ps))

  kept_inside : (inside : List ℕ) → Keeps inside (names_text (names_of (pieces (split_on "," inside)))) 1 (blanks_of (pieces (split_on "," inside)))
  kept_inside inside =
      kept_counts 1 (blanks_of (pieces (split_on "," inside))) (omega arith) (kept_then (kept_cut inside) (kept_names (pieces (split_on "," inside))))

-- ---- filling lines changes white space only

module _ (o : Options) (max : ℕ) (cont : List ℕ) (white : White cont) where
  like_add : (ls : List (List ℕ)) (name : List ℕ) → Like (flatten_back (add_name o max cont ls name)) (flatten_back ls ++ with_comma name)
  unfolding add_name flatten_back is_white
  like_add [] name = like_before cont (with_comma name) white
  like_add (cur ∷ done) name =
      choose_case (λ (r : List (List ℕ)). Like (flatten_back r) ((flatten_back done ++ cur) ++ with_comma name))
      (λ t. like_append (like_refl (flatten_back done ++ cur)) (like_before cont (with_comma name) white))
      (λ t. like_eq (sym (append_assoc (flatten_back done) cur (codes " " ++ with_comma name)))
      then like_append (like_refl (flatten_back done ++ cur)) (like_before (codes " ") (with_comma name) (refl, tt)))

  like_fill : (names ls : List (List ℕ)) → Like (flatten_back (foldl (add_name o max cont) ls names)) (flatten_back ls ++ names_text names)
  unfolding names_text
  like_fill [] ls = like_eq (sym (append-nil (flatten_back ls)))
  like_fill (n ∷ ns) ls =
      like_fill ns (add_name o max cont ls n) then like_append (like_add ls n) (like_refl (names_text ns))
      then like_eq (append_assoc (flatten_back ls) (with_comma n) (names_text ns))

  like_names : (names : List (List ℕ)) → Like (flatten (reverse (fill_names o max cont names))) (names_text names)
  unfolding fill_names flatten_back flatten
  like_names names =
      like_eq (flatten_reverse (foldl (add_name o max cont) [] names) [] ∙ append-nil (flatten_back (foldl (add_name o max cont) [] names)))
      then like_fill names []

-- ---- the parts of the line

cut_at : (k : Char) (cells : List Cell) → chars_of (before_code k cells) ++ chars_of (from_code k cells) ≡ chars_of cells
unfolding before from chars_of choose
cut_at k [] = refl
cut_at k (x ∷ xs) = go (code_is k x) (cut_at k xs)
  where
    go : (b : Bool) → chars_of (before_code k xs) ++ chars_of (from_code k xs) ≡ chars_of xs
        → chars_of (choose b [] (x ∷ before_code k xs)) ++ chars_of (choose b (x ∷ xs) (from_code k xs)) ≡ x.ch ∷ chars_of xs
    go true ih = refl
    go false ih = ap {B = List ℕ} (λ r. x.ch ∷ r) ih

StartsAt : Char → List Cell → Type 0
StartsAt k [] = Unit {0}
StartsAt k (x ∷ xs) = x.ch ≡ code k

from_starts : (k : Char) (cells : List Cell) → StartsAt k (from_code k cells)
unfolding StartsAt from
from_starts k [] = tt
from_starts k (x ∷ xs) =
    let ih : StartsAt k (from_code k xs) = from_starts k xs in
    choose_case (StartsAt k) (λ h. eqb-true x.ch (code k) (and_right (is_code x.class) (is k x.ch) h)) (λ h. ih)

-- ---- the whole import

-- the line: before its brace, between the braces, and from the closing one on
whole : List ℕ → List ℕ → List ℕ → List ℕ
whole head inside tail = head ++ (codes "{" ++ (inside ++ tail))

-- what a line becomes keeps what it held
abbrev pub LaidKept : PrintWidth → List ℕ → Laid → Type 0
LaidKept w line l = Kept w line (flatten l.lines) l.imports_split l.blank_names

abbrev pub Split : ℕ → List ℕ → Option Laid → Type 0
Split max line none = Unit {0}
Split max line (some l) = LaidKept (Some max) line l

module _ (o : Options) (white : White o.indent) (max level : ℕ) where
  like_lines : (head : List ℕ) (names : List (List ℕ)) (tail : List ℕ) → Like (flatten (import_lines o max level head names tail)) (whole head (names_text names) tail)
  unfolding import_lines whole flatten is_white
  like_lines head names tail =
      like_append (like_indent o white level (trim_end head ++ codes " {") then like_append (like_trim_end head) (like_before (codes " ") (codes "{") (refl, tt)))
      (like_eq (flatten_append (reverse (fill_names o max (indent_of o (suc level)) names)) ((indent_of o level ++ tail) ∷ []))
      then like_append (like_names o max (indent_of o (suc level)) (white_indent o white (suc level)) names)
      (like_eq (append-nil (indent_of o level ++ tail)) then like_indent o white level tail))
      then like_eq (append_assoc head (codes "{") (names_text names ++ tail))

  kept_between : {a b : List ℕ} {i n : ℕ} (head tail : List ℕ) → Keeps max a b i n → Keeps max (whole head a tail) (whole head b tail) i n
  unfolding whole
  kept_between {i} {n} head tail h =
      kept_counts i n (omega arith)
      (kept_append (kept_like (like_refl head)) (kept_append (kept_like (like_refl (codes "{"))) (kept_append h (kept_like (like_refl tail)))))

  kept_parts : (head inside tail : List ℕ) → Split max (whole head inside tail) (import_parts o max level head (pieces (split_on "," inside)) tail)
  unfolding import_parts
  kept_parts head inside tail =
      choose_case (Split max (whole head inside tail))
      (λ t. kept_to (like_lines head (names_of (pieces (split_on "," inside))) tail) (kept_between head tail (kept_inside max inside)))
      (λ t. tt)

  kept_closed : (head inside : List ℕ) (rest : List Cell) → Split max (whole head inside (chars_of rest)) (closed_import o max level head inside rest)
  unfolding closed_import
  kept_closed head inside [] = tt
  kept_closed head inside (x ∷ xs) = kept_parts head inside (chars_of (x ∷ xs))

  kept_opened : (head : List ℕ) (rest : List Cell) → StartsAt "{" rest → Split max (head ++ chars_of rest) (opened_import o max level head rest)
  unfolding opened_import StartsAt whole chars_of
  kept_opened head [] s = tt
  kept_opened head (x ∷ xs) s =
      subst (λ (l : List ℕ). Split max (head ++ l) (opened_import o max level head (x ∷ xs)))
      (ap (λ (l : List ℕ). codes "{" ++ l) (cut_at "}" xs) ∙ ap (λ (c : ℕ). c ∷ chars_of xs) (sym s))
      (kept_closed head (chars_of (before_code "}" xs)) (from_code "}" xs))

  pub kept_import : (cells : List Cell) → Split max (chars_of cells) (split_import o max level cells)
  unfolding split_import
  kept_import cells =
      choose_case (Split max (chars_of cells))
      (λ t. rw cut_at at (kept_opened (chars_of (before_code "{" cells)) (from_code "{" cells) (from_starts "{" cells)))
      (λ t. tt)

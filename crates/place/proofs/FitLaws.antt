-- A line laid out at its level.
use Rattle.std.specs.Prelude.{Some, None}
use Prim.Native.Nat.{ℕ, ◌≤◌}
use mathlib.Core.Bool.{Bool, true, false}
use mathlib.Core.List.{List, ◌++◌, reverse_aux}
use mathlib.Core.Path.{◌≡◌, refl, sym, ap, ◌∙◌, subst}
use native.Mathlib.Omega.{arith}
use lib.Dec.{ltb}
use lib.ListN.{length}
use Rattle.utf8.specs.Unicode.{decode}
use Rattle.buffer.specs.Repeat.{times}
use Rattle.rules.specs.Basics.{choose}
use Rattle.rules.specs.Scan.{classify, all_code_or_str}
use Rattle.rules.specs.ClassBytes.{cells_of}
use Rattle.rules.specs.Options.{Options, indent_of, measure, over_wide, PrintWidth}
use Rattle.rules.specs.Refusals.{max_source}
use Rattle.rules.specs.SplitImport.{Laid}
use Rattle.rules.specs.Line.{drop_blank, broken, one_line, split_wide}
use Rattle.rules.specs.declared.Carry.{Carry}
use Rattle.rules.specs.declared.Strengths.{Strengths}
use Rattle.rules.proofs.CellsLaws.{cells_classify, length_class_bytes, length_classify}
use Rattle.rules.proofs.ScanBytes.{classify_encode, all_encode}
use Rattle.scan.specs.CodeEnd.{only_code_or_str}
use Rattle.scan.proofs.CodeEnd.{all_code_or_str_law}
use Rattle.text.specs.Text.{Text, Adds}
use Rattle.text.specs.declared.Written.{Written}
use Rattle.text.proofs.StepLaws.{grown_ordered}
use Rattle.text.proofs.PadLaws.{indent_blanks, blanks_size}
use Rattle.place.specs.declared.Placed.{Placed}
use Rattle.line.specs.Holds.{ValidIndent}
use Rattle.split.specs.Measure.{InUse}
use Rattle.place.specs.Placing.{GoesOn, LaidBy, Lays, Breaks, alone_in, fit_by}
use Rattle.line.proofs.HoldsLaws.{indent_small}

-- the test of the class bytes is the test of the classes, of the bytes and of the characters
pub code_bytes : (line class : List ℕ) (r : Bool) → GoesOn line class → r ≡ only_code_or_str class → r ≡ all_code_or_str (classify Carry.Code line)
code_bytes line class r g e =
    let n : length line ≡ length class = sym (ap length g.classes ∙ length_class_bytes (classify Carry.Code line) ∙ length_classify Carry.Code line) in
    e ∙ sym (all_code_or_str_law line class n)
    ∙ ap (λ (ks : List ℕ). all_code_or_str (cells_of line ks)) g.classes
    ∙ ap all_code_or_str (cells_classify Carry.Code line)

code_same : (line class : List ℕ) → GoesOn line class → all_code_or_str (classify Carry.Code line) ≡ all_code_or_str (classify Carry.Code (decode line))
code_same line class g =
    ap all_code_or_str (ap (classify Carry.Code) (sym g.well) ∙ classify_encode Carry.Code (decode line))
    ∙ all_encode (classify Carry.Code (decode line))

-- whether a line is broken, as the code's tests find it
module _ (width : PrintWidth) (column : ℕ) (code : Bool) where
  pub fit_off : width ≡ None → None ≡ fit_by width column code
  unfolding fit_by
  fit_off e = rw e

  module _ (max : ℕ) (e : width ≡ Some max) where
    pub fit_narrow : ltb max column ≡ false → None ≡ fit_by width column code
    unfolding fit_by choose
    fit_narrow q = rw (e, q)

    pub fit_wide : ltb max column ≡ true → code ≡ true → Some max ≡ fit_by width column code
    unfolding fit_by choose
    fit_wide q k = rw (e, q, k)

    pub fit_mixed : code ≡ false → None ≡ fit_by width column code
    unfolding fit_by
    fit_mixed k = rw (e, k) (either (ltb max column))
      where
        either : (t : Bool) → None ≡ choose t (choose false (Some max) None) None
        either true = unfold choose in refl
        either false = unfold choose in refl

narrow_of : (t : Bool) (max : ℕ) → choose t (choose true (Some max) None) None ≡ None → t ≡ false
unfolding choose
narrow_of true max h = cc
narrow_of false max h = refl

broken_of : (t code : Bool) (max m : ℕ) → choose t (choose code (Some max) None) None ≡ Some m → (max ≡ m) × ((t ≡ true) × (code ≡ true))
unfolding choose
broken_of true true max m h = (cc, (refl, refl))
broken_of true false max m h = cc
broken_of false code max m h = cc

pub is_broken_law : (width : PrintWidth) (column : ℕ) (code : Bool) (m : ℕ) → fit_by width column code ≡ Some m
    → (width ≡ Some m) × ((ltb m column ≡ true) × (code ≡ true))
unfolding fit_by
is_broken_law None column code m h = cc
is_broken_law (Some max) column code m h =
    let b = broken_of (ltb max column) code max m h in
    (ap Some b.0, (ap (λ (x : ℕ). ltb x column) (sym b.0) ∙ b.1.0, b.1.1))

-- what a line in use measures
over_same : {indent : List ℕ} {ruler : ℕ} (max level : ℕ) (l : List ℕ) (o : Options) → InUse o indent ruler
    → over_wide o max (indent_of o level ++ l) ≡ ltb max (measure ruler 0 (times level indent ++ l))
unfolding over_wide indent_of
over_same max level l o u = rw (u.indents, u.ruled)

-- a line that is not split
module _
    (ruler : ℕ) (w : PrintWidth) (indent line class : List ℕ) (level : ℕ) (model eol : List ℕ) (drops : Bool) (out out' : List ℕ) (t u : Written)
    (v : ValidIndent indent) (flat : level ≤ max_source) (g : GoesOn line class) (a : Adds eol drops (times level indent ++ decode line) model out t out' u)
    (p : Placed) (is : p ≡ alone_in u) (st : Strengths) (same : (o : Options) → InUse o indent ruler → split_wide w o level (decode line) ≡ one_line (times level indent ++ decode line))
  where
    lays_alone : Lays ruler w indent st (decode line) level model eol drops (length line) out t (alone_in u) out'
    lays_alone =
        record {
          text = λ o ls e h. subst (λ (x : Laid). Text model eol (reverse_aux x.lines (choose drops (drop_blank ls) ls)) u out') (sym (same o e.used)) (a.text ls h);
          imports = λ o e. sym (ap (λ (x : Laid). x.imports_split) (same o e.used));
          blanks = λ o e. sym (ap (λ (x : Laid). x.blank_names) (same o e.used));
          ordered = grown_ordered a.grown;
          at = omega (arith, a.grown.at, blanks_size (times level indent) (decode line) (indent_blanks level indent v.blank), ap length g.well, indent_small indent level v flat);
          few = omega arith;
          fewer = omega arith;
        }

    lays_one : Lays ruler w indent st (decode line) level model eol drops (length line) out t p out'
    lays_one = subst (λ (x : Placed). Lays ruler w indent st (decode line) level model eol drops (length line) out t x out') (sym is) lays_alone

abbrev fits : Bool → PrintWidth → PrintWidth
fits b width = choose b width None

off_same : (b : Bool) (level : ℕ) (indent l : List ℕ) (o : Options) → o.indent ≡ indent → split_wide (fits b None) o level l ≡ one_line (times level indent ++ l)
unfolding choose split_wide indent_of
off_same true level indent l o e = rw e
off_same false level indent l o e = rw e

narrow_same : (b : Bool) (max level : ℕ) (indent l : List ℕ) (o : Options) → o.indent ≡ indent → over_wide o max (indent_of o level ++ l) ≡ false
    → split_wide (fits b (Some max)) o level l ≡ one_line (times level indent ++ l)
unfolding choose split_wide indent_of
narrow_same true max level indent l o e h = rw (h, e)
narrow_same false max level indent l o e h = rw e

whole_same : (width : PrintWidth) (column : ℕ) (code : Bool) (level : ℕ) (indent l : List ℕ) (o : Options) → o.indent ≡ indent
    → ((max : ℕ) → over_wide o max (indent_of o level ++ l) ≡ ltb max column) → fit_by width column code ≡ None
    → split_wide (fits code width) o level l ≡ one_line (times level indent ++ l)
unfolding fit_by
whole_same None column code level indent l o e over h = off_same code level indent l o e
whole_same (Some max) column false level indent l o e over h = unfold choose split_wide indent_of in (rw e)
whole_same (Some max) column true level indent l o e over h =
    narrow_same true max level indent l o e (over max ∙ narrow_of (ltb max column) max h)

-- the column that a line reaches with its indent
abbrev reached : ℕ → List ℕ → ℕ → List ℕ → ℕ
reached ruler indent level line = measure ruler 0 (times level indent ++ decode line)

abbrev all_code : List ℕ → Bool
all_code line = all_code_or_str (classify Carry.Code line)

module _
    (ruler : ℕ) (indent line class : List ℕ) (level : ℕ) (model eol : List ℕ) (drops : Bool) (out out' : List ℕ) (t u : Written) (v : ValidIndent indent)
    (flat : level ≤ max_source) (g : GoesOn line class) (a : Adds eol drops (times level indent ++ decode line) model out t out' u) (p : Placed) (is : p ≡ alone_in u) (st : Strengths)
  where
    abbrev here : Bool
    here = all_code_or_str (classify Carry.Code (decode line))

    pub fit_whole : (width : PrintWidth) → fit_by width (reached ruler indent level line) (all_code line) ≡ None
        → Lays ruler (choose here width None) indent st (decode line) level model eol drops (length line) out t p out'
    fit_whole width h =
        lays_one ruler (choose here width None) indent line class level model eol drops out out' t u v flat g a p is st
        (λ o k. whole_same width (reached ruler indent level line) here level indent (decode line) o k.indents (λ max. over_same max level (decode line) o k)
        (ap (fit_by width (reached ruler indent level line)) (sym (code_same line class g)) ∙ h))

-- a line that is split
wide_same : (max level : ℕ) (l : List ℕ) (o : Options) → over_wide o max (indent_of o level ++ l) ≡ true
    → split_wide (Some max) o level l ≡ broken o max level l
unfolding choose split_wide
wide_same max level l o h = rw h

laid_broken : (ruler : ℕ) (indent line : List ℕ) (st : Strengths) (level : ℕ) (width : PrintWidth) (max : ℕ) → width ≡ Some max
    → ltb max (reached ruler indent level line) ≡ true → all_code_or_str (classify Carry.Code (decode line)) ≡ true → (o : Options) → LaidBy o indent ruler st
    → split_wide (choose (all_code_or_str (classify Carry.Code (decode line))) width None) o level (decode line) ≡ broken o max level (decode line)
laid_broken ruler indent line st level width max e wide here o i =
    ap (λ (x : Bool). split_wide (choose x width None) o level (decode line)) here
    ∙ ap (λ (x : PrintWidth). split_wide (choose true x None) o level (decode line)) e
    ∙ (unfold choose in (wide_same max level (decode line) o (over_same max level (decode line) o i.used ∙ wide)))

pub fit_broken : (ruler : ℕ) (indent line class : List ℕ) (st : Strengths) (level : ℕ) (model eol : List ℕ) (drops : Bool) (out out' : List ℕ) (t : Written) (p : Placed) (width : PrintWidth) (max : ℕ)
    → GoesOn line class → fit_by width (reached ruler indent level line) (all_code line) ≡ Some max
    → Breaks ruler max indent st (decode line) level model eol drops (length line) out t p out'
    → Lays ruler (choose (all_code_or_str (classify Carry.Code (decode line))) width None) indent st (decode line) level model eol drops (length line) out t p out'
fit_broken ruler indent line class st level model eol drops out out' t p width max g h b =
    let e = is_broken_law width (reached ruler indent level line) (all_code line) max h in
    let here : all_code_or_str (classify Carry.Code (decode line)) ≡ true = sym (code_same line class g) ∙ e.1.1 in
    let is = laid_broken ruler indent line st level width max e.0 e.1.0 in
    record {
      text = λ o ls i h. subst (λ (x : Laid). Text model eol (reverse_aux x.lines (choose drops (drop_blank ls) ls)) p.text out') (sym (is here o i)) (b.text o ls i h);
      imports = λ o i. b.imports o i ∙ sym (ap (λ (x : Laid). x.imports_split) (is here o i));
      blanks = λ o i. b.blanks o i ∙ sym (ap (λ (x : Laid). x.blank_names) (is here o i));
      ordered = b.ordered;
      at = b.at;
      few = b.few;
      fewer = b.fewer;
    }

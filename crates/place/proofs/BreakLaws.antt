-- A line broken: an import first, otherwise at its operators.
use Rattle.std.specs.Prelude.{None}
use Prim.Native.Nat.{ℕ, ◌+◌, ◌*◌, ◌≤◌}
use mathlib.Core.Bool.{Bool, true, false, true≢false}
use mathlib.Core.List.{List, [], ◌∷◌, reverse, reverse_aux}
use mathlib.Core.Option.{Option, none, some}
use mathlib.Core.Path.{◌≡◌, refl, sym, ap, ◌∙◌, subst}
use native.Mathlib.Omega.{arith}
use lib.ListN.{length}
use Rattle.utf8.specs.Unicode.{encode, decode, size}
use Rattle.compare.specs.Common.{Compared}
use Rattle.rules.specs.Basics.{choose, is, is_empty, last_is}
use Rattle.rules.specs.Lines.{as_str}
use Rattle.rules.specs.Scan.{classify, all_code_or_str}
use Rattle.rules.specs.Options.{Options, all_blank}
use Rattle.rules.specs.SplitImport.{Laid, split_import}
use Rattle.rules.specs.Strengths.{strengths_in}
use Rattle.rules.specs.SplitOperation.{split_operation}
use Rattle.rules.specs.Assembly.{joined}
use Rattle.rules.specs.Else.{joinable}
use Rattle.rules.specs.Line.{drop_blank, or_operation, broken}
use Rattle.rules.specs.declared.Carry.{Carry}
use Rattle.rules.specs.declared.FinalNewline.{FinalNewline}
use Rattle.rules.specs.declared.LineEnding.{LineEnding}
use Rattle.rules.specs.declared.Strengths.{Strengths}
use Rattle.rules.proofs.SplitLines.{Newest, newest, newest_one, alone_line, import_lines_law, operation_lines, operation_several, operation_alone}
use Rattle.rules.proofs.SplitSizes.{Fit, import_fits, operation_fits}
use Rattle.split.specs.Text.{first_of, Fits}
use Rattle.split.specs.Measure.{InUse}
use Rattle.split_import.specs.Import.{Given, ImportFits}
use Rattle.split_import.specs.declared.ImportLines.{ImportLines}
use Rattle.std.specs.Prelude.{Some, None}
use Rattle.std.specs.Prelude as code
use Rattle.split.specs.declared.NewLine.{NewLine}
use Rattle.split_operation.specs.Operation.{line_of, is_broken, Broken, OperationFits}
use Rattle.split_operation.specs.declared.OperationSplit.{OperationSplit}
use Rattle.rules.specs.Refusals.{max_source}
use Rattle.text.specs.Text.{Text, Continued, after_lines, far_place}
use Rattle.text.specs.declared.Written.{Written}
use Rattle.text.proofs.PadLaws.{some_size}
use Rattle.text.proofs.StepLaws.{ending, grown_ordered, lines_done, lines_grown}
use Rattle.place.specs.declared.Placed.{Placed}
use Rattle.line.specs.Holds.{ValidIndent}
use Rattle.format.proofs.ElseLaws.{brace_bytes}
use Rattle.place.specs.Placing.{GoesOn, LaidBy, Breaks, alone_in}

-- some options in use
abbrev some_options_law : List ℕ → ℕ → Strengths → Options
some_options_law indent ruler st =
    record {
      indent = indent;
      print_width = None;
      end_of_line = None;
      insert_final_newline = FinalNewline.Always;
      ruler_tab = ruler;
      strengths = st;
    }

first_of_law : (l : List ℕ) (ls : List (List ℕ)) → first_of (l ∷ ls) ≡ l
unfolding first_of
first_of_law l ls = refl

size_line : (m : List ℕ) → is_empty m ≡ false → 1 ≤ size m
size_line [] h = absurd (true≢false h)
size_line (c ∷ cs) h = some_size c cs

module _
    (line class indent : List ℕ) (level : ℕ) (e : LineEnding) (eol : List ℕ) (drops : Bool) (model out o1 : List ℕ) (t : Written) (start : ℕ) (v : ValidIndent indent)
    (flat : level ≤ max_source) (g : GoesOn line class) (eq : eol ≡ as_str e) (go_on : Continued (as_str e) drops model out t o1 start)
  where
    -- ---- what the two splits ask

    break_fits : t.at.0 ≤ far_place → Fits line indent level eol start
    break_fits h =
        record {
          well = g.well;
          blank = v.blank;
          short = v.short;
          flat = flat;
          ascii = rw eq (ending e).bytes;
          end = rw eq (ending e).small;
          size = omega (arith, g.short);
          room = omega (arith, g.short, go_on.small);
        }

    pub import_asks : t.at.0 ≤ far_place → ImportFits line class indent level eol start
    import_asks h = record { fits = break_fits h; classes = g.classes }

    pub operation_asks : t.at.0 ≤ far_place → all_code_or_str (classify Carry.Code line) ≡ true → OperationFits line class indent level eol start
    operation_asks h p = record { fits = break_fits h; classed = record { classes = g.classes; plain = p } }

    -- ---- lines that were written

    long : size (decode line) ≡ length line
    long = ap length g.well

    eol_small : size (as_str e) ≤ 2
    eol_small = omega (arith, ap length (ending e).bytes, (ending e).small)

    -- lines were written, and the newest takes an else where b says so
    record Came (laid : Laid) (b : Bool) (o2 : List ℕ) (last next : ℕ) (p : Placed) : Type 0 where
      newest : Newest b laid.lines
      written : Compared model o1 o2 start (encode (joined (as_str e) (reverse laid.lines))) next
      ends : last + size (first_of (reverse laid.lines)) ≡ next
      fit : Fit (as_str e) ((size (decode line) + 1) * 67108932) laid.lines
      imports : p.imports ≡ laid.imports_split
      blanks : p.blanks ≡ laid.blank_names
      few : p.imports ≤ 1
      fewer : p.blanks ≤ size (decode line)

    module _ (st : Strengths) (ruler max : ℕ) (b : Bool) (o2 : List ℕ) (last next : ℕ) (p : Placed) (is : p.text ≡ after_lines last next b)
        (came : (o : Options) → LaidBy o indent ruler st → Came (broken o max level (decode line)) b o2 last next p) where
      came_text : (o : Options) (ls : List (List ℕ)) → LaidBy o indent ruler st → Text model (as_str e) ls t out
          → Text model (as_str e) (reverse_aux (broken o max level (decode line)).lines (choose drops (drop_blank ls) ls)) p.text o2
      came_text o ls i x =
          let r = came o i in
          let n = r.newest in
          rw (is, n.onto (choose drops (drop_blank ls) ls))
          (lines_done n.last n.before go_on (rw n.reversed at r.written) (size_line n.last n.line.some) n.line.trimmed n.line.joins (ap (λ (l : List ℕ). last + size l) (sym (ap first_of n.reversed ∙ first_of_law n.last n.before)) ∙ r.ends) ls x)

      came_breaks : Breaks ruler max indent st (decode line) level model (as_str e) drops (length line) out t p o2
      came_breaks =
          let r = came (some_options_law indent ruler st) (record { used = record { indents = refl; ruled = refl }; strengths = refl }) in
          let n = r.newest in
          let w = lines_grown n.last n.before go_on (rw n.reversed at r.written) last b in
          record {
            text = came_text;
            imports = λ o i. (came o i).imports;
            blanks = λ o i. (came o i).blanks;
            ordered = rw is (grown_ordered w);
            at = rw is (omega (arith, w.at, long, r.fit.text, ap (λ (l : List (List ℕ)). size (joined (as_str e) l)) n.reversed));
            few = r.few;
            fewer = omega (arith, r.fewer, long);
          }

    blank_of : (o : Options) → {ruler : ℕ} → InUse o indent ruler → all_blank o.indent ≡ true
    blank_of o i = rw i.indents v.blank

    short_of : (o : Options) → {ruler : ℕ} → InUse o indent ruler → length o.indent ≤ 64
    short_of o i = rw i.indents v.short

    -- ---- an import

    module _ (st : Strengths) (ruler max : ℕ) (brace : Bool) (ends : brace ≡ last_is (is "}") line) (o2 : List ℕ) (i : code.Option ImportLines)
        (given : (o : Options) → InUse o indent ruler → Given (split_import o max level (classify Carry.Code (decode line))) eol model o1 o2 start i) where
      module _ (m : ImportLines) (yes : i ≡ Some m) (u : Written) (reached : u ≡ after_lines m.last m.next brace) where
        abbrev placed : Placed
        placed = record { text = u; imports = 1; blanks = m.blanks }

        import_came : (o : Options) → LaidBy o indent ruler st → Came (broken o max level (decode line)) brace o2 m.last m.next placed
        import_came o k = go (split_import o max level (classify Carry.Code (decode line))) refl (given o k.used)
          where
            go : (s : Option Laid) → split_import o max level (classify Carry.Code (decode line)) ≡ s → Given s eol model o1 o2 start i → Came (broken o max level (decode line)) brace o2 m.last m.next placed
            go none q w = absurd (let y : ◌≡◌ {A = ℕ} 0 1 = cc (yes, w.is) in omega arith)
            go (some laid) q w =
                let same-made : w.made ≡ m = cc (yes, w.is) in
                let r = import_lines_law o (blank_of o k.used) max level (decode line) g.trimmed laid q in
                let f = import_fits o (blank_of o k.used) (short_of o k.used) level flat (as_str e) eol_small max (decode line) laid q in
                let same : broken o max level (decode line) ≡ laid = unfold broken or_operation in (rw q refl) in
                subst (λ (x : Laid). Came x brace o2 m.last m.next placed) (sym same)
                (record {
                  newest = rw (ends, brace_bytes line g.well) (newest r.lines);
                  written = rw (eq, same-made) at w.written.text;
                  ends = rw same-made at w.written.ends;
                  fit = f.lines;
                  imports = sym r.counted;
                  blanks = rw same-made at w.blanks;
                  few = omega arith;
                  fewer = omega (arith, rw same-made at w.blanks, f.blanks);
                })

        pub import_breaks : Breaks ruler max indent st (decode line) level model (as_str e) drops (length line) out t placed o2
        import_breaks = came_breaks st ruler max brace o2 m.last m.next placed reached import_came

      -- ---- an expression

      module _ (other : i ≡ None) (o3 : List ℕ) (r : OperationSplit)
          (made : (o : Options) → InUse o indent ruler → Broken eol (split_operation (strengths_in st.table) o max level (decode line)) model o2 o3 start r) where
        abbrev table : List ℕ
        table = strengths_in st.table

        abbrev operation_laid : Options → Laid
        operation_laid o = record { lines = split_operation table o max level (decode line); imports_split = 0; blank_names = 0 }

        -- it is no import that is split, and nothing was written for it
        other_same : (o : Options) → LaidBy o indent ruler st → (broken o max level (decode line) ≡ operation_laid o) × (o2 ≡ o1)
        other_same o k = go (split_import o max level (classify Carry.Code (decode line))) refl (given o k.used)
          where
            go : (s : Option Laid) → split_import o max level (classify Carry.Code (decode line)) ≡ s → Given s eol model o1 o2 start i
                → (broken o max level (decode line) ≡ operation_laid o) × (o2 ≡ o1)
            go none q w = (unfold broken or_operation in (rw (q, k.strengths) refl), w.same)
            go (some laid) q w = absurd (let y : ◌≡◌ {A = ℕ} 0 1 = cc (other, w.is) in omega arith)

        operation_came : (b : Bool) (u : Written) (o : Options) → LaidBy o indent ruler st → Newest b (split_operation table o max level (decode line)) → Came (broken o max level (decode line)) b o3 (line_of r).start (line_of r).next (alone_in u)
        operation_came b u o k n =
            let s = other_same o k in
            subst (λ (x : Laid). Came x b o3 (line_of r).start (line_of r).next (alone_in u)) (sym s.0)
            (record {
              newest = n;
              written = rw (eq, s.1) at (made o k.used).written.text;
              ends = (made o k.used).written.ends;
              fit = operation_fits o (blank_of o k.used) (short_of o k.used) level flat (as_str e) eol_small table max (decode line);
              imports = refl;
              blanks = refl;
              few = omega arith;
              fewer = omega arith;
            })

        operation_breaks : (b : Bool) (u : Written) (p : Placed) → ((o : Options) → LaidBy o indent ruler st → Newest b (split_operation table o max level (decode line)))
            → u ≡ after_lines (line_of r).start (line_of r).next b → p ≡ alone_in u → Breaks ruler max indent st (decode line) level model (as_str e) drops (length line) out t p o3
        operation_breaks b u p n reached is =
            subst (λ (x : Placed). Breaks ruler max indent st (decode line) level model (as_str e) drops (length line) out t x o3) (sym is)
            (came_breaks st ruler max b o3 (line_of r).start (line_of r).next (alone_in u) reached (λ o k. operation_came b u o k (n o k)))

        pub several_breaks : (w : NewLine) (u : Written) (p : Placed) → r ≡ OperationSplit.Broken w → u ≡ after_lines w.start w.next brace → p ≡ alone_in u
            → Breaks ruler max indent st (decode line) level model (as_str e) drops (length line) out t p o3
        several_breaks w u p more reached is =
            operation_breaks brace u p
            (λ o k. rw (ends, brace_bytes line g.well) (newest (operation_several (operation_lines table o (blank_of o k.used) max level (decode line) g.trimmed) (sym (made o k.used).more ∙ ap is_broken more))))
            (reached ∙ ap (λ (x : OperationSplit). after_lines (line_of x).start (line_of x).next brace) (sym more)) is

        pub alone_breaks : (w : NewLine) (j : Bool) (u : Written) (p : Placed) → j ≡ joinable (decode line)
            → r ≡ OperationSplit.Whole w → u ≡ after_lines w.start w.next j → p ≡ alone_in u → Breaks ruler max indent st (decode line) level model (as_str e) drops (length line) out t p o3
        alone_breaks w j u p q more reached is =
            operation_breaks j u p
            (λ o k. rw (operation_alone (operation_lines table o (blank_of o k.used) max level (decode line) g.trimmed) (sym (made o k.used).more ∙ ap is_broken more), q)
            (newest_one (alone_line o (blank_of o k.used) level (decode line) (some_of (decode line) (omega (arith, long, g.some))) g.trimmed)))
            (reached ∙ ap (λ (x : OperationSplit). after_lines (line_of x).start (line_of x).next j) (sym more)) is
          where
            some_of : (l : List ℕ) → 1 ≤ size l → is_empty l ≡ false
            some_of [] h = unfold encode in absurd (omega arith)
            some_of (c ∷ cs) h = refl

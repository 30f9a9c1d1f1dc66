-- A line placed: its level, the blank before it and the width that it may be broken at, as the code finds them, are
-- those of the rules.
use Rattle.std.specs.Prelude.{None}
use Prim.Native.Nat.{ℕ, zero, suc, ◌+◌, ◌<◌, ◌^◌}
use mathlib.Core.Bool.{Bool, true, false, not, ◌&&◌}
use mathlib.Core.List.{List, ◌++◌}
use mathlib.Core.Path.{◌≡◌, refl, sym, ap, ◌∙◌, subst}
use native.Mathlib.Omega.{arith}
use borrow.Author.Tests.{ne_eqb}
use lib.Dec.{eqb}
use lib.ListN.{length}
use Rattle.utf8.specs.Unicode.{decode}
use Rattle.rules.specs.Basics.{choose, is_empty}
use Rattle.rules.specs.Scan.{classify, all_code_or_str}
use Rattle.rules.specs.Lines.{as_str}
use Rattle.rules.specs.Options.{Options, indent_of, PrintWidth}
use Rattle.rules.specs.Brackets.{leading_closers}
use Rattle.rules.specs.Words.{same_declaration}
use Rattle.rules.specs.Else.{is_plain_else, can_join}
use Rattle.rules.specs.Line.{Formatter, else_line, drop_blank, lines_before, continues, level_of, one_line, split_wide, may_split, laid, placed_line, spaced_line}
use Rattle.rules.specs.declared.Carry.{Carry}
use Rattle.utf8.proofs.Tests.{and_right}
use Rattle.rules.proofs.Choose.{choose_true, choose_false}
use Rattle.rules.proofs.StartsBytes.{on_decode, closers_encode}
use Rattle.brackets.specs.Stack.{stacked}
use Rattle.format.specs.Words.{Continues}
use Rattle.format.proofs.WordLaws.{same_declaration_by}
use Rattle.text.specs.Text.{Text, Joins, is_joinable}
use Rattle.text.specs.declared.Written.{Written}
use Rattle.text.proofs.LinesLaws.{kind_joinable}
use Rattle.text.proofs.StepLaws.{grown_ordered}
use Rattle.place.specs.declared.Placed.{Placed}
use Rattle.place.specs.declared.Placing.{Placing}
use Rattle.line.specs.Holds.{Record, Uses, prev_of}
use Rattle.line.specs.Scratch.{stack_at}
use Rattle.line.specs.declared.formatter.Prev.{Prev}
use Rattle.line.proofs.HoldsLaws.{declaration_bytes}
use Rattle.place.specs.Placing.{GoesOn, Knows, Heads, Asks, HoldsText, Puts, LaidBy, Lays, spaced_by, placed_by, drops_blank, break_width, alone_in, after_placed}

-- ---- tests in another order

-- the width that a line may be broken at
width_same : (k z m a : Bool) (w : PrintWidth)
    → choose (not k && z && not m && a) w None
    ≡ choose a (choose k None (choose z (choose m None w) None)) None
unfolding choose
width_same true z m true w = refl
width_same true z m false w = refl
width_same false false m true w = refl
width_same false false m false w = refl
width_same false true true true w = refl
width_same false true true false w = refl
width_same false true false true w = refl
width_same false true false false w = refl

-- a line that may not be split is laid out as with no width
width_off : (b : Bool) (w : PrintWidth) (o : Options) (level : ℕ) (l : List ℕ)
    → choose b (split_wide w o level l) (one_line (indent_of o level ++ l)) ≡ split_wide (choose b w None) o level l
unfolding choose split_wide
width_off true w o level l = refl
width_off false w o level l = refl

and_choose : (a b : Bool) → (a && b) ≡ choose a b false
unfolding choose
and_choose true b = refl
and_choose false b = refl

-- ---- a line placed

-- no bracket is open if the depth is 0
stacked_empty : (scratch : List ℕ) (base depth : ℕ) → is_empty (stacked scratch base depth) ≡ eqb depth 0
unfolding stacked
stacked_empty scratch base zero = refl
stacked_empty scratch base (suc depth) = sym (ne_eqb (suc depth) 0 (λ e. absurd (omega arith)))

module _
    (indent line class model out out' : List ℕ) (k : Placing) (st : Record) (continued : Bool) (level : ℕ)
    (drops : Bool) (max : PrintWidth) (p : Placed) (g : GoesOn line class) (hd : Heads line k)
    (wk : Continues line st.prev.brace continued) (wl : level ≡ k.levels + choose continued 1 0)
    (er : drops ≡ drops_blank st.nesting.depth k.own.declares st.prev.declares) (em : max ≡ break_width k.style.width k.marker continued k.closers)
    (w : Lays k.style.ruler (choose (all_code_or_str (classify Carry.Code (decode line))) max None) indent k.style.strengths (decode line) level model (as_str k.style.ending) drops (length line) out st.text p out')
  where
    closers_same : k.closers ≡ leading_closers (decode line)
    closers_same = hd.closers.is ∙ on_decode leading_closers leading_closers closers_encode line g.well

    module _ (o : Options) (f : Formatter) (u : Uses o indent k.style) (x : Knows model (as_str k.style.ending) f k st out) where
      laid_by : LaidBy o indent k.style.ruler k.style.strengths
      laid_by = record { used = record { indents = u.indents; ruled = u.ruled }; strengths = u.strengths }

      prev_same : st.prev ≡ prev_of f.prev
      prev_same = x.holds.prev

      continued_same : continued ≡ continues f.prev (decode line)
      continued_same = wk.is f.prev (sym (ap (λ (p : Prev). p.brace) prev_same))

      level_same : level_of f (decode line) ≡ level
      unfolding level_of
      level_same =
          sym (wl ∙ rw (x.running, closers_same, continued_same) refl)

      fits_same : choose (may_split f k.marker (decode line)) o.print_width None
          ≡ choose (all_code_or_str (classify Carry.Code (decode line))) max None
      unfolding may_split
      fits_same =
          rw (em, ← continued_same, ← closers_same, u.breaks) (width_same continued (eqb k.closers 0) k.marker (all_code_or_str (classify Carry.Code (decode line))) k.style.width)

      laid_same : laid o f k.marker (decode line) ≡ split_wide (choose (all_code_or_str (classify Carry.Code (decode line))) max None) o level (decode line)
      unfolding laid
      laid_same = width_off (may_split f k.marker (decode line)) o.print_width o (level_of f (decode line)) (decode line) ∙ rw (fits_same, level_same) refl

      empty_same : is_empty f.stack ≡ eqb st.nesting.depth 0
      empty_same = ap is_empty (sym x.holds.stack) ∙ stacked_empty x.scratch (stack_at x.unit) st.nesting.depth

      drops_same : (is_empty f.stack && same_declaration (decode line) f.prev) ≡ drops
      drops_same =
          sym (er ∙ rw (ap (λ (p : Prev). p.declares) hd.own, ap (λ (p : Prev). p.declares) prev_same, declaration_bytes line g.well, ← same_declaration_by, ← empty_same) (sym (and_choose _ _)))

      lines_same : lines_before f (decode line) ≡ choose drops (drop_blank f.lines) f.lines
      unfolding lines_before
      lines_same = rw drops_same refl

      lay_text : Text model (as_str k.style.ending) (placed_line o f k.marker (decode line)).lines p.text out'
      unfolding placed_line
      lay_text = rw (laid_same, lines_same) (w.text o f.lines laid_by x.holds.text)

      lay_imports : st.imports + p.imports ≡ (placed_line o f k.marker (decode line)).imports_split
      unfolding placed_line
      lay_imports = rw (laid_same, w.imports o laid_by, x.holds.imports) refl

      lay_blanks : st.blanks + p.blanks ≡ (placed_line o f k.marker (decode line)).blank_names
      unfolding placed_line
      lay_blanks = rw (laid_same, w.blanks o laid_by, x.holds.blanks) refl

    pub lay_done : Puts (placed_by k.marker (decode line)) indent model (length line) k st out (after_placed st p) out'
    lay_done =
        record {
          holds = λ o f u x. record { text = lay_text o f u x; imports = lay_imports o f u x; blanks = lay_blanks o f u x };
          ordered = w.ordered;
          at = w.at;
          imports = omega (arith, w.few);
          blanks = omega (arith, w.fewer);
          others = refl;
        }

-- two tests, the second only if the first is met
pub both : (a b r s : Bool) → r ≡ a → r ≡ true → s ≡ b → s ≡ (a && b)
both a b r s e q h = rw (← e, q) h

pub not_first : (a b r : Bool) → r ≡ a → r ≡ false → false ≡ (a && b)
not_first a b r e q = rw (← e, q)

-- ---- a line that goes on: a plain else is joined where the newest line can take it

module _
    (indent line model out out' : List ℕ) (k : Placing) (st : Record) (e : Bool) (joins : e ≡ (is_plain_else (decode line) && is_joinable st.text.last))
  where
    -- what is known before, and what is put
    abbrev Known : Formatter → Type 0
    Known f = Knows model (as_str k.style.ending) f k st out

    abbrev PutAs : (Options → Formatter → Formatter) → Placed → Type 0
    PutAs g p = Puts g indent model (length line) k st out (after_placed st p) out'

    -- the newest line's kind says whether it can
    takes : (f : Formatter) → Known f → e ≡ (is_plain_else (decode line) && can_join f.lines)
    takes f x = joins ∙ ap (λ (y : Bool). is_plain_else (decode line) && y) (ap is_joinable x.holds.text.last ∙ kind_joinable f.lines)

    module _ (class : List ℕ) (u : Written) (p : Placed) (g : GoesOn line class) (w : Joins (decode line) model out st.text out' u) (is : p ≡ alone_in u) (yes : e ≡ true) where
      joined_same : (o : Options) (f : Formatter) → Known f → spaced_line o f k.marker (decode line) ≡ else_line f (decode line)
      unfolding spaced_line
      joined_same o f x = choose_true _ _ _ (sym (takes f x) ∙ yes)

      joined_holds : (o : Options) (f : Formatter) → Known f
          → HoldsText model (as_str k.style.ending) (spaced_line o f k.marker (decode line)) (after_placed st (alone_in u)) out'
      unfolding else_line
      joined_holds o f x =
          record {
            text = rw (joined_same o f x) (w.text _ f.lines x.holds.text (and_right (is_plain_else (decode line)) (can_join f.lines) (sym (takes f x) ∙ yes)));
            imports = rw (joined_same o f x) (omega (arith, x.holds.imports));
            blanks = rw (joined_same o f x) (omega (arith, x.holds.blanks));
          }

      join_alone : PutAs (spaced_by k.marker (decode line)) (alone_in u)
      join_alone =
          record {
            holds = λ o f i x. joined_holds o f x;
            ordered = grown_ordered w.grown;
            at = omega (arith, w.grown.at, ap length g.well);
            imports = omega arith;
            blanks = omega arith;
            others = refl;
          }

      pub join_put : PutAs (spaced_by k.marker (decode line)) p
      join_put = subst (PutAs (spaced_by k.marker (decode line))) (sym is) join_alone

    pub not_joined : (p : Placed) → PutAs (placed_by k.marker (decode line)) p → e ≡ false → PutAs (spaced_by k.marker (decode line)) p
    not_joined p w q =
        record {
          holds = λ o f i x. subst (λ (y : Formatter). HoldsText model (as_str k.style.ending) y (after_placed st p) out') (sym (same o f x)) (w.holds o f i x);
          ordered = w.ordered;
          at = w.at;
          imports = w.imports;
          blanks = w.blanks;
          others = w.others;
        }
      where
        same : (o : Options) (f : Formatter) → Known f → spaced_line o f k.marker (decode line) ≡ placed_line o f k.marker (decode line)
        same o f x = unfold spaced_line in (choose_false _ _ _ (sym (takes f x) ∙ q))

-- ---- the record after it

pub put_record : (g : Options → Formatter → Formatter) (indent model : List ℕ) (n : ℕ) (k : Placing) (st : Record) (out out' : List ℕ) (p : Placed) (r : Record)
    → r ≡ after_placed st p → Puts g indent model n k st out (after_placed st p) out' → Puts g indent model n k st out r out'
put_record g indent model n k st out out' p r e w = subst (λ (x : Record). Puts g indent model n k st out x out') (sym e) w

-- there is room for what it adds to the counts
pub counts_fit : (g : Options → Formatter → Formatter) (indent model : List ℕ) (n : ℕ) (k : Placing) (st : Record) (out out' : List ℕ) (p : Placed)
    → Asks k st n → Puts g indent model n k st out (after_placed st p) out' → (st.imports + p.imports < 2 ^ 64) × (st.blanks + p.blanks < 2 ^ 64)
counts_fit g indent model n k st out out' p a w = (omega (arith, w.imports, a.imports), omega (arith, w.blanks, a.blanks))

-- The line that goes on, put into the text.
use Prim.Native.Nat.{ℕ, ◌+◌, ◌≤◌}
use native.Mathlib.Omega.{arith}
use mathlib.Core.Bool.{Bool, false}
use mathlib.Core.List.{List, [], ◌∷◌}
use mathlib.Core.Path.{◌≡◌, sym, ap, ◌∙◌, subst}
use lib.ListN.{length, drop}
use Rattle.utf8.specs.Unicode.{encode, decode, WellFormed, trim_end}
use Rattle.buffer.specs.Buffer.{part}
use Rattle.rules.specs.Basics.{is_empty}
use Rattle.rules.specs.Scan.{classify}
use Rattle.rules.specs.ClassBytes.{class_bytes}
use Rattle.rules.specs.Brackets.{levels}
use Rattle.rules.specs.Lines.{as_str}
use Rattle.rules.specs.Line.{Formatter}
use Rattle.rules.specs.Spacing.{respaced}
use Rattle.rules.specs.declared.Carry.{Carry}
use Rattle.rules.proofs.SpacedLine.{spaced_trimmed, length_size}
use Rattle.basics.specs.Closers.{Closers}
use Rattle.brackets.specs.Stack.{Popped}
use Rattle.brackets.specs.declared.Nesting.{Nesting}
use Rattle.brackets.proofs.StackLaws.{stacked_drop, levels_most}
use Rattle.line.specs.Scratch.{stack_at}
use Rattle.place.specs.Placing.{GoesOn, Heads, Knows, Asks, HoldsText, Puts, spaced_by}
use Rattle.place.specs.declared.Placing.{Placing}
use Rattle.line.specs.Holds.{Record, prev_of, Holds, Ready}
use Rattle.line.specs.declared.formatter.Prev.{Prev}
use Rattle.line.specs.declared.style.Style.{Style}
use Rattle.line.proofs.HoldsLaws.{prev_bytes}
use Rattle.step.specs.declared.Going.{Going}
use Rattle.step.specs.Going.{SolidLine, going_line, Goes, PutOn}

-- how the line is put
abbrev pub placing_of : Style → Bool → ℕ → Nesting → Prev → Placing
placing_of style marker closers left own =
    record { style = style; closers = closers; levels = left.levels; own = own; marker = marker }

knows : {model eol : List ℕ} {unit closers : ℕ} {left : Nesting} {own : Prev} {style : Style} {marker : Bool} {f : Formatter} {st : Record} {out scratch : List ℕ} → Holds model eol unit f st out scratch
    → Popped scratch (stack_at unit) st.nesting closers left → Knows model eol f (placing_of style marker closers left own) st out
knows {unit = unit} {closers = closers} {st = st} {scratch = scratch} h l =
    record {
      unit = unit;
      scratch = scratch;
      holds = h;
      running =
          l.nested.runs
          ∙ rw l.depth (ap levels (sym (stacked_drop scratch (stack_at unit) st.nesting.depth closers) ∙ ap (drop closers) h.stack));
    }

some_length : (l : List ℕ) → is_empty l ≡ false → 1 ≤ length l
some_length [] e = let z : ◌≡◌ {A = ℕ} 0 1 = cc in absurd (omega arith)
some_length (c ∷ l) e = omega arith

-- a line of characters has some bytes
pub some_bytes : (line : List ℕ) → WellFormed line → is_empty (decode line) ≡ false → 1 ≤ length line
some_bytes line w e = omega (arith, some_length (decode line) e, length_size (decode line), ap length w)

module _ (line scratch : List ℕ) (unit : ℕ) (st : Record) (ready : Ready st scratch unit (length line)) (solid : SolidLine line) where
  module _ (g : Going) (goes : Goes line scratch unit g) (L : List ℕ) (e : L ≡ going_line line scratch unit g) where
    going_text : decode L ≡ respaced (decode line)
    going_text = ap decode e ∙ goes.text

    going_well : WellFormed L
    going_well = subst WellFormed (sym e) goes.well

    going_long : length L ≡ g.len
    going_long = ap length e ∙ goes.long

    pub goes_on_law : GoesOn L (part scratch g.class_at (g.class_at + g.len))
    goes_on_law =
        let t = spaced_trimmed (decode line) solid.trimmed solid.some in
        record {
          well = going_well;
          some = some_bytes L going_well (ap is_empty going_text ∙ t.1);
          short = omega (arith, going_long, goes.most, ready.depth, ready.limit);
          trimmed = ap trim_end going_text ∙ t.0 ∙ sym going_text;
          classes = goes.classes ∙ ap (λ (s : List ℕ). class_bytes (classify Carry.Code s)) (sym e);
        }

    module _ (style : Style) (marker : Bool) (closers : ℕ) (left : Nesting) (own : Prev) (ek : Closers L closers) (el : Popped scratch (stack_at unit) st.nesting closers left) (eo : own ≡ prev_of L) where
      pub heads : Heads L (placing_of style marker closers left own)
      heads = record { closers = ek; own = eo }

      pub asks : Asks (placing_of style marker closers left own) st (length L)
      asks =
          record {
            small = ready.small;
            few = omega (arith, some_bytes line solid.well solid.some, el.nested.runs, levels_most scratch (stack_at unit) left.depth, el.depth, ready.depth, ready.limit);
            imports = omega (arith, ready.imports, ready.limit);
            blanks = omega (arith, ready.blanks, ready.limit, going_long, goes.most);
          }

      pub put_on : (indent model out out' : List ℕ) (r : Record) → Puts (spaced_by marker (decode L)) indent model (length L) (placing_of style marker closers left own) st out r out'
          → PutOn marker (respaced (decode line)) indent style model (length line) unit st out scratch (record { st = r; closers = closers; left = left; own = own }) out'
      put_on indent model out out' r w =
          record {
            holds = λ o f u h. subst (λ (l : List ℕ). HoldsText model (as_str style.ending) (spaced_by marker l o f) r out') going_text (w.holds o f u (knows h el));
            closers = subst (λ (s : List ℕ). Closers s closers) (sym going_well ∙ ap encode going_text) ek;
            left = el;
            own = eo ∙ prev_bytes L going_well ∙ ap prev_of going_text;
            ordered = w.ordered;
            at = omega (arith, w.at, going_long, goes.most);
            imports = w.imports;
            blanks = omega (arith, w.blanks, going_long, goes.most);
          }

-- What every kind of line uses.
--     initial_holds, initial_runs         before the first line
--     first_line_law                          what the kind of the newest line says of the lines
--     declaration_bytes, prev_bytes, carry_bytes     facts of a line, found on its bytes
--     length_stacked                      so many entries
--     stack_scanned, stack_counted        the stack after `scan_brackets` on a line's bytes is the definition's on
--                                         its characters
--     cells_decoded                       the cells of a line and its class bytes are those of its characters
--     classes_front, front_only           the class bytes that `classify` wrote to the front of scratch; the rest is
--                                         as it was
--     start_within, trimmed_line          a line trimmed at its end and then at its start
--     line_room_law, front_size, classify_room, stack_room, stack_nested, push_room     room for a line that is to come
--     line_told, line_none, indent_none, trimmed_told     what `push_line` is told of a line
--     indent_small                        an indent's length
use Prim.Native.Nat.{ℕ, zero, suc, ◌+◌, ◌-◌, ◌*◌, ◌^◌, ◌≤◌, ◌<◌}
use native.Mathlib.Omega.{arith}
use native.Mathlib.Nat.{le_refl}
use mathlib.Core.Bool.{Bool, true, false, not, ◌&&◌}
use mathlib.Core.List.{List, [], ◌++◌, append-nil}
use mathlib.Core.Path.{◌≡◌, refl, sym, ap, ◌∙◌, subst}
use lib.ListN.{length, take, drop, length-append, length-drop, drop_of_length-le}
use lib.Seq.{take_all, take_at, drop_at, length-take-le}
use Rattle.utf8.specs.Unicode.{encode, chars, decode, trim_start, trim_end, trim, WellFormed}
use Rattle.utf8.specs.Places.{TrimmedStart, TrimmedEnd}
use Rattle.utf8.proofs.Trim.{trim_swap}
use Rattle.buffer.specs.Buffer.{part}
use Rattle.buffer.specs.Repeat.{times}
use Rattle.buffer.proofs.RegionLaws.{drop_take}
use Rattle.buffer.proofs.RepeatLaws.{times_nil, times_within}
use Rattle.rules.specs.Basics.{choose, is, is_empty, starts_with, last_is}
use Rattle.rules.specs.Scan.{classify, carry_after}
use Rattle.rules.specs.ClassBytes.{class_bytes, cells_of}
use Rattle.rules.specs.Brackets.{Entry, leading_closers, scan_brackets, count_brackets, levels}
use Rattle.rules.specs.Options.{max_indent, all_blank}
use Rattle.rules.specs.Refusals.{max_source}
use Rattle.rules.specs.Else.{joinable}
use Rattle.rules.specs.Line.{Formatter, start}
use Rattle.rules.specs.declared.Carry.{Carry}
use Rattle.rules.proofs.StartsBytes.{on_decode, starts_encode, closers_encode}
use Rattle.rules.proofs.ScanBytes.{encode_cells, carry_encode}
use Rattle.rules.proofs.BracketsBytes.{brackets_encode, count_closers}
use Rattle.rules.proofs.CellsLaws.{cells_classify, cells_bytes, length_class_bytes, length_classify}
use Rattle.basics.specs.Depth.{carry_depth}
use Rattle.scan.specs.Classified.{Classified}
use Rattle.basics.specs.Region.{Only}
use Rattle.basics.specs.Closers.{Closers}
use Rattle.brackets.specs.Stack.{stacked, Nested, Popped, StackFits, BracketsDone}
use Rattle.brackets.specs.declared.Nesting.{Nesting}
use Rattle.format.specs.Words.{declaration_of}
use Rattle.std.specs.Prelude.{Option}
use Rattle.format.specs.declared.words.Declaration.{Declaration}
use Rattle.line.specs.declared.formatter.Prev.{Prev}
use Rattle.format.specs.Else.{Facts}
use Rattle.format.specs.declared.else_line.LineFacts.{LineFacts}
use Rattle.brackets.proofs.StackLaws.{stacked_drop, stacked_past}
use Rattle.compare.specs.Common.{Keeps}
use Rattle.text.specs.Text.{is_first, Line}
use Rattle.text.proofs.LinesLaws.{kind_first}
use Rattle.text.proofs.StepLaws.{text_nothing}
use Rattle.line.specs.Holds.{Record, prev_of, initial, Holds, Runs, Ready, Stepped, ValidIndent, TrimmedLine, Classes}
use Rattle.line.specs.Scratch.{stack_at}
use Rattle.format.proofs.ElseLaws.{brace_bytes}

-- ---- before the first line

pub initial_holds : (model eol : List ℕ) (unit : ℕ) (out scratch : List ℕ) → Keeps model out [] → Holds model eol unit start initial out scratch
unfolding stacked levels declaration_of starts_with choose last_is
initial_holds model eol unit out scratch k =
    record {
      text = text_nothing model eol out k;
      stack = refl;
      running = refl;
      number = refl;
      blank = refl;
      prev = refl;
      ignore = refl;
      carry = refl;
      imports = refl;
      blanks = refl;
    }

pub initial_runs : (unit : ℕ) (scratch : List ℕ) → Runs unit initial scratch
unfolding stacked levels
initial_runs unit scratch = record { is = refl }

-- ---- the lines, by the kind of the newest

module _ {model eol : List ℕ} {unit : ℕ} {f : Formatter} {st : Record} {out scratch : List ℕ} (h : Holds model eol unit f st out scratch) where
  pub first_line_law : is_first st.text.last ≡ is_empty f.lines
  first_line_law = ap is_first h.text.last ∙ kind_first f.lines

-- ---- facts of a line, found on its bytes

declaration_encode : (l : List ℕ) → declaration_of (encode l) ≡ declaration_of l
unfolding declaration_of
declaration_encode l = simp starts_encode

pub declaration_bytes : (line : List ℕ) → WellFormed line → declaration_of line ≡ declaration_of (decode line)
declaration_bytes = on_decode declaration_of declaration_of declaration_encode

pub prev_by : (line : List ℕ) (d : Option Declaration) (b : Bool) → d ≡ declaration_of line → b ≡ last_is (is "}") line → ◌≡◌ {A = Prev} (record { declares = d; brace = b }) (prev_of line)
prev_by line d b e q =
    ap {B = Prev} (λ (x : Option Declaration). record { declares = x; brace = b }) e ∙ ap {B = Prev} (λ (x : Bool). record { declares = declaration_of line; brace = x }) q

pub prev_bytes : (line : List ℕ) → WellFormed line → prev_of line ≡ prev_of (decode line)
prev_bytes line w = prev_by (decode line) _ _ (declaration_bytes line w) (brace_bytes line w)

pub carry_bytes : (y : Carry) (line : List ℕ) → WellFormed line → carry_after y line ≡ carry_after y (decode line)
carry_bytes y = on_decode (carry_after y) (carry_after y) (carry_encode y)

-- ---- the stack

pub length_stacked : (buf : List ℕ) (base n : ℕ) → length (stacked buf base n) ≡ n
unfolding stacked
length_stacked buf base zero = refl
length_stacked buf base (suc n) = ap suc (length_stacked buf base n)

module _
    {y after : Carry} {line scratch : List ℕ} {at : ℕ} (well : WellFormed line) (classes : Classes y line scratch at after)
  where
    cells_here : cells_of line (part scratch at (at + length line)) ≡ classify y line
    cells_here = ap (cells_of line) classes.bytes ∙ cells_classify y line

    pub cells_decoded : cells_of line (part scratch at (at + length line)) ≡ encode_cells (classify y (decode line))
    cells_decoded = ap (cells_of line) classes.bytes ∙ cells_bytes y line well

    -- a line none of whose closers pop first
    pub stack_scanned : {scratch' : List ℕ} {base n : ℕ} {b deep : Nesting} {s : List Entry}
        → BracketsDone scratch scratch' base b n (scan_brackets b.line (drop 0 (cells_of line (part scratch at (at + length line)))) (stacked scratch base b.depth)) deep
        → stacked scratch base b.depth ≡ s → stacked scratch' base deep.depth ≡ scan_brackets b.line (classify y (decode line)) s
    stack_scanned {b = b} w e = w.is ∙ rw (cells_decoded, e) (brackets_encode b.line (classify y (decode line)) _)

    -- a line whose leading closers pop first
    pub stack_counted : {scratch' : List ℕ} {base n closers : ℕ} {b left deep : Nesting} {s : List Entry} → Closers line closers
        → Popped scratch base b closers left
        → BracketsDone scratch scratch' base left n (scan_brackets left.line (drop closers (cells_of line (part scratch at (at + length line)))) (stacked scratch base left.depth)) deep
        → stacked scratch base b.depth ≡ s
        → stacked scratch' base deep.depth ≡ count_brackets b.line (leading_closers (decode line)) (classify y (decode line)) s
    unfolding count_brackets
    stack_counted {base = base} {closers = closers} {b = b} {s = s} k l w e =
        let n : closers ≡ leading_closers (decode line) = k.is ∙ on_decode leading_closers leading_closers closers_encode line well in
        let p : stacked scratch base (b.depth - closers) ≡ drop closers s = sym (stacked_drop scratch base b.depth closers) ∙ ap (drop closers) e in
        w.is
        ∙ rw (l.line, l.depth, p, cells_here, n)
        (ap (λ (r : List ℕ). count_brackets b.line (leading_closers (decode line)) (classify y r) s) (sym well) ∙ count_closers b.line y (decode line) s)

-- ---- classes

module _ {y r : Carry} (line scratch w : List ℕ) (h : length line ≤ length scratch) (c : Classified y line (take (length line) scratch) w r) where
  front_bytes : w ≡ class_bytes (classify y line)
  front_bytes =
      c.bytes
      ∙ (let k : length (take (length line) scratch) ≤ length line = omega (arith, length-take-le (length line) scratch h) in
      rw (drop_of_length-le (take (length line) scratch) k, append-nil (class_bytes (classify y line))))

  front_long : length w ≡ length line
  front_long = ap length front_bytes ∙ length_class_bytes (classify y line) ∙ length_classify y line

  -- the class bytes that `classify` wrote to the front of scratch
  pub classes_front : Classes y line (w ++ drop (length line) scratch) 0 r
  classes_front =
      let n : 0 + length line - 0 ≡ length line = omega arith in
      record { bytes = rw n (take_at w (drop (length line) scratch) (length line) front_long ∙ front_bytes); leaves = c.carry; depth = c.depth }

  -- and the rest of it is as it was
  pub front_only : Only scratch (w ++ drop (length line) scratch) 0 (length line)
  front_only =
      record {
        long = omega (arith, length-append w (drop (length line) scratch), length-drop (length line) scratch, front_long);
        front = refl;
        back = drop_at w (drop (length line) scratch) (length line) front_long;
      }

-- ---- what the calls on a line ask

-- of a line of at most n bytes, or respaced of at most 2 × n, where a line of n bytes is to come
module _ {st : Record} {scratch : List ℕ} {unit n : ℕ} (ready : Ready st scratch unit n) where
  pub line_room_law : (line : List ℕ) → length line ≤ n → length line ≤ length scratch
  line_room_law line h = omega (arith, ready.depth, ready.room)

  -- the front of scratch, lent to `classify`
  pub front_size : (line : List ℕ) → length line ≤ n → length line ≡ length (take (length line) scratch)
  front_size line h = sym (length-take-le (length line) scratch (line_room_law line h))

  pub classify_room : (y : Carry) (line : List ℕ) → length line ≤ n → carry_depth y ≤ carry_depth st.carry
      → (length line ≤ length (take (length line) scratch)) × (carry_depth y + length line + 1 < 2 ^ 32)
  classify_room y line h k = (omega (arith, front_size line h), omega (arith, ready.carry, ready.limit))

  pub stack_room : (buf : List ℕ) (class m : ℕ) (left : Nesting) → length buf ≡ length scratch → class + m ≤ stack_at unit → m ≤ 2 * n → left.depth ≤ st.nesting.depth
      → left.line ≡ st.nesting.line → left.levels ≡ levels (stacked buf (stack_at unit) left.depth) → StackFits buf class m (stack_at unit) left
  stack_room buf class m left e h k l q r =
      record { classes = h; stack = omega (arith, ready.depth, ready.room); runs = r; line = omega (arith, ready.line, ready.limit) }

  -- the stack as it is before the line; also after scratch was used before it
  pub stack_nested : Nested scratch (stack_at unit) st.nesting
  stack_nested =
      record { fits = omega (arith, ready.depth, ready.room); runs = ready.runs.is; line = omega (arith, ready.line, ready.limit) }

  pub push_room : (m : ℕ) → m ≤ n → st.text.at.0 + 2 + (length (times 0 []) + m) < 2 ^ 64
  push_room m h = omega (arith, ap length (times_nil 0), ready.small.at, ready.depth, ready.limit)

-- ---- what is ready for a line is ready for a shorter one, in a scratch as long

runs_past : {unit : ℕ} {st : Record} {s₀ s₁ : List ℕ} {m : ℕ} → Only s₀ s₁ 0 m → m ≤ stack_at unit → Runs unit st s₀ → Runs unit st s₁
runs_past {unit = unit} {st = st} o k r = record { is = r.is ∙ ap levels (sym (stacked_past o (stack_at unit) st.nesting.depth k)) }

pub ready_as : {st : Record} {scratch : List ℕ} {unit n : ℕ} (scratch' : List ℕ) (m e : ℕ) → Ready st scratch unit n → Only scratch scratch' 0 e → e ≤ stack_at unit → m ≤ n
    → Ready st scratch' unit m
ready_as scratch' m e r o k h =
    record {
      small = r.small;
      depth = omega (arith, r.depth);
      runs = runs_past o k r.runs;
      line = r.line;
      carry = omega (arith, r.carry);
      imports = r.imports;
      blanks = omega (arith, r.blanks);
      limit = r.limit;
      room = omega (arith, r.room, o.long);
    }

-- ---- a step that starts after scratch was used before the stack

pub holds_past : {model eol : List ℕ} {unit : ℕ} {f : Formatter} {st : Record} {out s₀ s₁ : List ℕ} {m : ℕ} → Only s₀ s₁ 0 m → m ≤ stack_at unit
    → Holds model eol unit f st out s₀ → Holds model eol unit f st out s₁
holds_past {unit = unit} {st = st} o k h =
    record {
      text = h.text;
      stack = stacked_past o (stack_at unit) st.nesting.depth k ∙ h.stack;
      running = h.running;
      number = h.number;
      blank = h.blank;
      prev = h.prev;
      ignore = h.ignore;
      carry = h.carry;
      imports = h.imports;
      blanks = h.blanks;
    }

pub stepped_as : {g : Formatter → Formatter} {n unit : ℕ} {model eol : List ℕ} {st st' : Record} {out s₁ out' s₂ : List ℕ} (g' : Formatter → Formatter) (n' : ℕ) (s₀ : List ℕ) {m : ℕ}
    → Only s₀ s₁ 0 m → m ≤ stack_at unit → n ≤ n' → ((f : Formatter) → Holds model eol unit f st out s₀ → g f ≡ g' f)
    → Stepped g n unit model eol st out s₁ st' out' s₂ → Stepped g' n' unit model eol st out s₀ st' out' s₂
stepped_as {g} {n} {unit} {model} {eol} {st} {st'} {out} {s₁} {out'} {s₂} g' n' s₀ o k h e w =
    record {
      holds = λ f x. subst (λ (y : Formatter). Holds model eol unit y st' out' s₂) (e f x) (w.holds f (holds_past o k x));
      ordered = w.ordered;
      at = omega (arith, w.at);
      runs = λ x. w.runs (runs_past o k x);
      depth = omega (arith, w.depth);
      line = w.line;
      carry = omega (arith, w.carry);
      imports = w.imports;
      blanks = omega (arith, w.blanks);
    }

-- ---- a trimmed line

pub start_within : (raw : List ℕ) (tail start : ℕ) → TrimmedEnd raw tail → TrimmedStart (take tail raw) start → start ≤ tail
start_within raw tail start e s = omega (arith, s.fits, length-take-le tail raw e.fits)

-- at its end, and then at its start
pub trimmed_line : (raw : List ℕ) (tail start : ℕ) → TrimmedEnd raw tail → TrimmedStart (take tail raw) start → TrimmedLine raw (take (tail - start) (drop start raw))
unfolding trim
trimmed_line raw tail start e s =
    let p : drop start (take tail raw) ≡ take (tail - start) (drop start raw) = drop_take start tail raw in
    record {
      well = rw p at s.well;
      text = ap decode (sym p) ∙ s.text ∙ ap trim_start e.text ∙ trim_swap (decode raw);
      short = omega (arith, ap length (sym p), length-drop start (take tail raw), length-take-le tail raw e.fits, e.fits);
    }

-- ---- what `push_line` is told of a line

pub line_told : (line : List ℕ) (r : LineFacts) (joins : Bool) → WellFormed line → Facts line r → joins ≡ (r.brace && not r.else_first) → Line line r.trimmed joins
unfolding joinable
line_told line r joins well facts e =
    record { well = well; trims = facts.trimmed; takes = e ∙ rw (facts.brace, facts.starts) refl }

-- an empty line
pub line_none : Line [] 0 false
unfolding chars encode trim_end joinable last_is
line_none = record { well = refl; trims = record { fits = omega arith; well = refl; text = refl }; takes = refl }

pub indent_none : all_blank [] ≡ true
unfolding all_blank
indent_none = refl

-- a line that is trimmed at its end
pub trimmed_told : (line : List ℕ) (joins : Bool) → WellFormed line → trim_end (decode line) ≡ decode line → joins ≡ joinable (decode line) → Line line (length line) joins
trimmed_told line joins w t e =
    let k : take (length line) line ≡ line = take_all (length line) line (le_refl (length line)) in
    record { well = w; trims = record { fits = le_refl (length line); well = rw k w; text = ap decode k ∙ sym t }; takes = e }

-- ---- an indent is small

pub indent_small : (indent : List ℕ) (level : ℕ) → ValidIndent indent → level ≤ max_source → length (times level indent) ≤ max_source * max_indent
indent_small indent level v h = omega (arith, times_within level indent {a = max_source} {b = max_indent} h v.short)

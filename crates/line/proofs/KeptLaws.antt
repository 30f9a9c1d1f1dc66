-- Lines that go out as they are: what each makes of the formatter's record.
use Prim.Native.Nat.{ℕ, ◌+◌, ◌≤◌}
use native.Mathlib.Omega.{arith}
use mathlib.Core.Bool.{Bool, true, false, not, ◌||◌}
use mathlib.Core.List.{List, [], ◌++◌}
use mathlib.Core.Path.{◌≡◌, refl, sym, ap, ◌∙◌, subst}
use lib.ListN.{length, take, drop}
use lib.Seq.{take-length, length-take-le}
use Rattle.utf8.specs.Unicode.{encode, chars, decode, WellFormed}
use Rattle.utf8.specs.Places.{TrimmedEnd}
use Rattle.buffer.specs.Buffer.{part}
use Rattle.buffer.specs.Repeat.{times}
use Rattle.rules.specs.Basics.{choose, is_empty}
use Rattle.rules.specs.Scan.{classify}
use Rattle.rules.specs.ClassBytes.{cells_of}
use Rattle.rules.specs.Brackets.{Entry, scan_brackets, count_brackets, levels}
use Rattle.rules.specs.Line.{Formatter, in_code_now, scanned_part, closers_in, kept_stack, block_after, protected_after, kept_line, as_written, blank_line}
use Rattle.rules.specs.declared.Carry.{Carry}
use Rattle.rules.specs.declared.Ignore.{Ignore}
use Rattle.rules.proofs.Choose.{choose_true}
use Rattle.scan.specs.Classified.{Classified}
use Rattle.brackets.specs.Stack.{stacked, Popped, BracketsDone}
use Rattle.brackets.specs.declared.Nesting.{Nesting}
use Rattle.text.specs.Text.{is_first, Adds}
use Rattle.text.specs.declared.Written.{Written}
use Rattle.text.proofs.StepLaws.{grown_ordered}
use Rattle.line.specs.declared.formatter.Prev.{Prev}
use Rattle.line.specs.Holds.{Record, prev_of, Holds, Small, Ready, Stepped, Blanked, TrimmedLine, Classes, shown_len, part_of, pop_first, ClosersOf, ShownPart, kept_by, raw_by}
use Rattle.line.specs.Scratch.{stack_at}
use Rattle.line.proofs.HoldsLaws.{first_line_law, prev_bytes, carry_bytes, stack_scanned, stack_counted, length_stacked, classes_front, front_only, line_room_law, ready_as, stepped_as}

-- ---- a blank line

module _ (model eol : List ℕ) (st : Record) (out : List ℕ) (r : Bool) (s : Small st) (q : r ≡ (st.blank || is_first st.text.last)) where
  blank_test : {unit : ℕ} {scratch : List ℕ} (f : Formatter) → Holds model eol unit f st out scratch → (f.prev_blank || is_empty f.lines) ≡ r
  blank_test f h = rw (← h.blank) (ap (λ (b : Bool). st.blank || b) (sym (first_line_law h)) ∙ sym q)

  -- it adds nothing
  pub blank_same : r ≡ true → Blanked model eol st out st out
  unfolding blank_line
  blank_same t =
      record {
        step = λ unit scratch. record {
          holds = λ f h. rw (choose_true (f.prev_blank || is_empty f.lines) f _ (blank_test f h ∙ t)) h;
          ordered = s.ordered;
          at = omega arith;
          runs = λ q. q;
          depth = omega arith;
          line = omega arith;
          carry = omega arith;
          imports = omega arith;
          blanks = omega arith;
        };
      }

  pub blank_new : (out' : List ℕ) (u : Written) → r ≡ false → Adds eol false (times 0 [] ++ decode []) model out st.text out' u
      → Blanked model eol st out
      (record { text = u; nesting = st.nesting; blank = true; prev = st.prev; ignore = st.ignore; carry = st.carry; imports = st.imports; blanks = st.blanks })
      out'
  unfolding blank_line times choose chars encode
  blank_new out' u t w =
      record {
        step = λ unit scratch. record {
          holds = λ f h. rw (blank_test f h ∙ t)
              (record {
                text = w.text f.lines h.text;
                stack = h.stack;
                running = h.running;
                number = h.number;
                blank = refl;
                prev = h.prev;
                ignore = h.ignore;
                carry = h.carry;
                imports = h.imports;
                blanks = h.blanks;
              });
          ordered = grown_ordered w.grown;
          at = omega (arith, w.grown.at);
          runs = λ q. record { is = q.is };
          depth = omega arith;
          line = omega arith;
          carry = omega arith;
          imports = omega arith;
          blanks = omega arith;
        };
      }

-- ---- a line that is not looked at

pub raw_code : (g : Bool) (y : Carry) → y ≡ Carry.Code → g ≡ (g || not (in_code_now y))
raw_code true y e = refl
raw_code false y e = rw e

-- ---- what is protected after a line

pub guards_nothing : (i : Ignore) (before now : ℕ) → i ≡ Ignore.Nothing → Ignore.Nothing ≡ protected_after i before now
unfolding protected_after
guards_nothing i before now e = rw e

pub guards_next : (i r : Ignore) (before now : ℕ) → i ≡ Ignore.NextLine → r ≡ block_after before now → r ≡ protected_after i before now
unfolding protected_after
guards_next i r before now e h = rw e h

pub guards_block : (i r : Ignore) (earlier before now : ℕ) → i ≡ Ignore.Block earlier → r ≡ block_after earlier now → r ≡ protected_after i before now
unfolding protected_after
guards_block i r earlier before now e h = rw e h

-- ---- a line that is kept

-- the part that is scanned
part_well : (y : Carry) {raw line : List ℕ} → WellFormed raw → TrimmedLine raw line → WellFormed (part_of y raw line)
part_well Carry.Code w t = t.well
part_well (Carry.Block d) w t = w
part_well Carry.Prefab w t = w

pub part_short : (y : Carry) {raw line : List ℕ} → TrimmedLine raw line → length (part_of y raw line) ≤ length raw
part_short Carry.Code t = t.short
part_short (Carry.Block d) t = omega arith
part_short Carry.Prefab t = omega arith

pub part_fits : (y : Carry) (raw line part₀ : List ℕ) → TrimmedLine raw line → part₀ ≡ part_of y raw line → length part₀ ≤ length raw
part_fits y raw line part₀ t e = omega (arith, ap length e, part_short y t)

part_text : (y : Carry) {raw line : List ℕ} → TrimmedLine raw line → decode (part_of y raw line) ≡ scanned_part y (decode raw)
unfolding scanned_part
part_text Carry.Code t = t.text
part_text (Carry.Block d) t = refl
part_text Carry.Prefab t = refl

module _ {scratch scratch' : List ℕ} {base : ℕ} {b left deep : Nesting} {s : List Entry} (e : stacked scratch base b.depth ≡ s) where
  -- the brackets after a part none of whose closers pop first
  stack_plain : (y : Carry) {after : Carry} {n closers : ℕ} (raw : List ℕ) → WellFormed raw → Classes y raw scratch 0 after → closers ≡ 0 → Popped scratch base b closers left
      → BracketsDone scratch scratch' base left n (scan_brackets left.line (drop closers (cells_of raw (part scratch 0 (0 + length raw)))) (stacked scratch base left.depth)) deep
      → stacked scratch' base deep.depth ≡ count_brackets b.line 0 (classify y (decode raw)) s
  unfolding count_brackets
  stack_plain y raw w classes z l v =
      let d : left.depth ≡ b.depth = omega (arith, l.depth, z) in
      stack_scanned w classes (rw z at v) (ap (stacked scratch base) d ∙ e) ∙ ap (λ (k : ℕ). scan_brackets k (classify y (decode raw)) s) l.line

  -- and after any
  pub kept_stack_law : (y : Carry) {after : Carry} {n closers : ℕ} (raw line : List ℕ) → WellFormed raw → TrimmedLine raw line → Classes y (part_of y raw line) scratch 0 after
      → pop_first y line closers → Popped scratch base b closers left
      → BracketsDone scratch scratch' base left n
      (scan_brackets left.line (drop closers (cells_of (part_of y raw line) (part scratch 0 (0 + length (part_of y raw line))))) (stacked scratch base left.depth)) deep
      → stacked scratch' base deep.depth ≡ count_brackets b.line (closers_in y (decode raw)) (classify y (scanned_part y (decode raw))) s
  unfolding closers_in scanned_part
  kept_stack_law Carry.Code raw line w t classes k l v = rw t.text at (stack_counted t.well classes k l v e)
  kept_stack_law (Carry.Block d) raw line w t classes k l v = stack_plain (Carry.Block d) raw w classes k l v
  kept_stack_law Carry.Prefab raw line w t classes k l v = stack_plain Carry.Prefab raw w classes k l v

pub kept_step : (raw line part₀ out out' scratch scratch' model eol : List ℕ) (unit shown : ℕ) (st : Record) (u : Written) (closers : ℕ) (left deep : Nesting) (prev : Prev) (after : Carry) (guards : Ignore)
    → WellFormed raw → TrimmedLine raw line → Classes st.carry (part_of st.carry raw line) scratch 0 after → ShownPart raw shown
    → Adds eol false (times 0 [] ++ decode (take shown raw)) model out st.text out' u
    → ClosersOf st.carry line closers → Popped scratch (stack_at unit) st.nesting closers left → part₀ ≡ part_of st.carry raw line
    → BracketsDone scratch scratch' (stack_at unit) left (length part₀)
    (scan_brackets left.line (drop closers (cells_of part₀ (part scratch 0 (0 + length part₀)))) (stacked scratch (stack_at unit) left.depth)) deep
    → prev ≡ prev_of line → guards ≡ protected_after st.ignore st.nesting.depth deep.depth
    → Stepped (kept_by (decode (take shown raw)) (decode raw)) (length raw) unit model eol st out scratch
    (record { text = u; nesting = deep; blank = false; prev = prev; ignore = guards; carry = after; imports = st.imports; blanks = st.blanks })
    out' scratch'
unfolding kept_line kept_stack times choose
kept_step raw line part₀ out out' scratch scratch' model eol unit shown st u closers left deep prev after guards well t classes p w k l ip v ep eg =
    record {
      holds = λ f h. record {
        text = w.text f.lines h.text;
        stack = stack_after_law f h;
        running = v.runs ∙ ap levels (stack_after_law f h);
        number = v.line ∙ l.line ∙ h.number;
        blank = refl;
        prev = ep ∙ prev_bytes line t.well ∙ ap prev_of t.text;
        ignore = eg ∙ rw (h.ignore, before f h, now f h);
        carry = classes.leaves ∙ carry_bytes st.carry (part_of st.carry raw line) (part_well st.carry well t) ∙ rw (part_text st.carry t, h.carry);
        imports = h.imports;
        blanks = h.blanks;
      };
      ordered = grown_ordered w.grown;
      at = omega (arith, w.grown.at, ap length p.well, length-take-le shown raw p.fits, p.fits);
      runs = λ q. record { is = v.runs };
      depth = omega (arith, v.most, l.depth, part_short st.carry t, ap length ip);
      line = omega (arith, v.line, l.line);
      carry = omega (arith, classes.depth, part_short st.carry t);
      imports = omega arith;
      blanks = omega arith;
    }
  where
    stack_after_law : (f : Formatter) → Holds model eol unit f st out scratch
        → stacked scratch' (stack_at unit) deep.depth
        ≡ count_brackets f.number (closers_in f.carry (decode raw)) (classify f.carry (scanned_part f.carry (decode raw))) f.stack
    stack_after_law f h = rw (h.carry, h.number) at (kept_stack_law h.stack st.carry raw line well t classes k.is l (rw ip at v))

    before : (f : Formatter) → Holds model eol unit f st out scratch → st.nesting.depth ≡ length f.stack
    before f h = sym (length_stacked scratch (stack_at unit) st.nesting.depth) ∙ ap length h.stack

    now : (f : Formatter) → Holds model eol unit f st out scratch
        → deep.depth ≡ length (count_brackets f.number (closers_in f.carry (decode raw)) (classify f.carry (scanned_part f.carry (decode raw))) f.stack)
    now f h = sym (length_stacked scratch' (stack_at unit) deep.depth) ∙ ap length (stack_after_law f h)

pub shown_short : {raw : List ℕ} {n : ℕ} → ShownPart raw n → length (take n raw) ≤ length raw
shown_short {raw} {n} p = omega (arith, length-take-le n raw p.fits, p.fits)

-- a line in code, whole
pub whole_shown : (raw : List ℕ) → WellFormed raw → ShownPart raw (length raw)
whole_shown raw well = record { fits = omega arith; well = rw (take-length raw) well }

pub code_part_law : {y after : Carry} (raw : List ℕ) {line scratch : List ℕ} → y ≡ Carry.Code → Classes Carry.Code line scratch 0 after → Classes y (part_of y raw line) scratch 0 after
code_part_law raw e c = rw e c

-- ---- a line of a protected block, or one that starts inside a comment or a prefab

-- what of it is written
pub record Shown (guarded : Bool) (y : Carry) (raw : List ℕ) (n : ℕ) : Type 0 where
  pub part : ShownPart raw n
  pub text : decode (take n raw) ≡ choose guarded (decode raw) (as_written y (decode raw))

shown_whole : (guarded : Bool) (y : Carry) (raw : List ℕ) → WellFormed raw → decode raw ≡ choose guarded (decode raw) (as_written y (decode raw)) → Shown guarded y raw (length raw)
shown_whole guarded y raw well e = record { part = whole_shown raw well; text = rw (take-length raw) e }

shown_by : (guarded : Bool) (y : Carry) (raw : List ℕ) (tail : ℕ) → WellFormed raw → TrimmedEnd raw tail → Shown guarded y raw (shown_len guarded y tail (length raw))
unfolding as_written choose
shown_by true y raw tail well e = shown_whole true y raw well refl
shown_by false Carry.Code raw tail well e = shown_whole false Carry.Code raw well refl
shown_by false (Carry.Block d) raw tail well e = record { part = record { fits = e.fits; well = e.well }; text = e.text }
shown_by false Carry.Prefab raw tail well e = shown_whole false Carry.Prefab raw well refl

pub shown : (guarded : Bool) (y : Carry) (raw : List ℕ) (tail n : ℕ) → WellFormed raw → TrimmedEnd raw tail → n ≡ shown_len guarded y tail (length raw) → Shown guarded y raw n
shown guarded y raw tail n well e k = rw k (shown_by guarded y raw tail well e)

pub raw_step : (guarded block : Bool) (raw line part₀ out out' scratch w scratch' model eol : List ℕ) (unit tail n : ℕ) (st r : Record) (after : Carry)
    → Ready st scratch unit (length raw) → WellFormed raw → TrimmedLine raw line → TrimmedEnd raw tail → part₀ ≡ part_of st.carry raw line
    → Classified st.carry part₀ (take (length part₀) scratch) w after → guarded ≡ block → n ≡ shown_len guarded st.carry tail (length raw)
    → Stepped (kept_by (decode (take n raw)) (decode raw)) (length raw) unit model eol st out (w ++ drop (length part₀) scratch) r out' scratch'
    → Stepped (raw_by block (decode raw)) (length raw) unit model eol st out scratch r out' scratch'
raw_step guarded block raw line part₀ out out' scratch w scratch' model eol unit tail n st r after ready well t e ip c same k v =
    let short : length part₀ ≤ length raw = omega (arith, ap length ip, part_short st.carry t) in
    stepped_as _ _ scratch (front_only part₀ scratch w (line_room_law ready part₀ short) c) (omega (arith, ready.depth)) (omega arith)
    (λ f h. ap (λ (x : List ℕ). kept_line f x (decode raw)) ((shown guarded st.carry raw tail n well e k).text ∙ rw (same, h.carry))) v

-- what `kept_line` asks after `classify`
pub raw_classes : (raw line part₀ scratch w : List ℕ) (unit : ℕ) (st : Record) (after : Carry)
    → Ready st scratch unit (length raw) → TrimmedLine raw line → part₀ ≡ part_of st.carry raw line → Classified st.carry part₀ (take (length part₀) scratch) w after
    → Classes st.carry (part_of st.carry raw line) (w ++ drop (length part₀) scratch) 0 after
raw_classes raw line part₀ scratch w unit st after ready t ip c =
    let short : length part₀ ≤ length raw = omega (arith, ap length ip, part_short st.carry t) in
    subst (λ (p : List ℕ). Classes st.carry p (w ++ drop (length part₀) scratch) 0 after) ip (classes_front part₀ scratch w (line_room_law ready part₀ short) c)

pub raw_ready : (raw line part₀ scratch w : List ℕ) (unit : ℕ) (st : Record) (after : Carry)
    → Ready st scratch unit (length raw) → TrimmedLine raw line → part₀ ≡ part_of st.carry raw line → Classified st.carry part₀ (take (length part₀) scratch) w after
    → Ready st (w ++ drop (length part₀) scratch) unit (length raw)
raw_ready raw line part₀ scratch w unit st after ready t ip c =
    let short : length part₀ ≤ length raw = omega (arith, ap length ip, part_short st.carry t) in
    ready_as _ _ _ ready (front_only part₀ scratch w (line_room_law ready part₀ short) c) (omega (arith, ready.depth)) (omega arith)

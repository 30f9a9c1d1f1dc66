-- The step of a line in code, and of any line.
use Prim.Native.Nat.{ℕ, ◌+◌, ◌-◌, ◌≤◌, ◌<◌, ◌^◌}
use native.Mathlib.Omega.{arith}
use mathlib.Core.Bool.{Bool, true, false, not, ◌&&◌, ◌||◌, or-true, true≢false, false≢true}
use mathlib.Core.List.{List, [], ◌∷◌, ◌++◌}
use mathlib.Core.Path.{◌≡◌, refl, sym, ap, ◌∙◌, subst}
use borrow.Author.Tests.{not-true}
use lib.ListN.{length, take, drop, get_or, length-drop}
use lib.Seq.{take-length, length-take-le}
use Rattle.utf8.specs.Unicode.{chars, decode, trim_end, trim_start, trim}
use Rattle.utf8.specs.Places.{TrimmedStart, TrimmedEnd}
use Rattle.utf8.proofs.Tests.{and_left, and_right}
use Rattle.utf8.proofs.Trim.{trim_trim_end}
use Rattle.rules.specs.Basics.{choose, is_empty}
use Rattle.rules.specs.Scan.{classify, carry_after}
use Rattle.rules.specs.ClassBytes.{class_bytes}
use Rattle.rules.specs.Brackets.{leading_closers, count_brackets, levels}
use Rattle.rules.specs.Words.{is_marker, has_code}
use Rattle.rules.specs.Else.{is_plain_else, can_join}
use Rattle.rules.specs.Lines.{as_str}
use Rattle.rules.specs.Options.{Options}
use Rattle.rules.specs.Refusals.{max_source}
use Rattle.rules.specs.Line.{Formatter, else_line, placed_line, spaced_line, protects, protected_line, code_line, in_block, in_code_now, blank_line, any_line}
use Rattle.rules.specs.Spacing.{respaced}
use Rattle.rules.specs.declared.Carry.{Carry}
use Rattle.rules.specs.declared.Ignore.{Ignore}
use Rattle.rules.proofs.Choose.{choose_true, choose_false, choose_case}
use Rattle.scan.specs.Classified.{Classified}
use Rattle.basics.specs.Depth.{carry_depth}
use Rattle.basics.specs.Region.{Only}
use Rattle.basics.proofs.OnlyLaws.{only_same}
use Rattle.brackets.specs.Stack.{stacked}
use Rattle.brackets.specs.declared.Nesting.{Nesting}
use Rattle.brackets.proofs.StackLaws.{stacked_drop}
use Rattle.rules.proofs.StartsBytes.{closers_encode}
use Rattle.line.specs.Scratch.{stack_at}
use Rattle.format.proofs.ElseLaws.{decode_some}
use Rattle.line.specs.Holds.{Record, prev_of, Holds, Ready, Stepped, TrimmedLine, Uses, kept_by, raw_by}
use Rattle.line.specs.Lone.{is_lone, lone_by}
use Rattle.line.specs.declared.style.Style.{Style}
use Rattle.line.proofs.HoldsLaws.{ready_as, stepped_as, carry_bytes, classes_front, front_only, trimmed_line, start_within}
use Rattle.line.proofs.LoneLaws.{lone_of}
use Rattle.place.specs.Placing.{spaced_by}
use Rattle.step.specs.declared.Going.{Going}
use Rattle.std.specs.Prelude.{Option, Some, None}
use Rattle.step.specs.declared.Marker.{Marker}
use Rattle.step.specs.declared.Put.{Put}
use Rattle.step.specs.declared.Scanned.{Scanned}
use Rattle.step.specs.Going.{marker_in, is_kept, is_alone, SolidLine, Marks, LineRoom, going_line, Goes, BracketsCounted, PutOn, after_line, LineScanned, code_line_by, any_line_by, ignore_of}
use Rattle.step.proofs.MarkerLaws.{found, else_closers, alone_other}
use Rattle.step.proofs.GoingLaws.{front_part}

-- ---- what is ready for a line leaves room for it

pub ready_room : {st : Record} {scratch : List ℕ} {unit n : ℕ} (scratch' : List ℕ) → Ready st scratch unit n → length scratch' ≡ length scratch → LineRoom scratch' unit n
ready_room scratch' r e = record { short = omega (arith, r.depth); limit = r.limit; room = omega (arith, r.room) }

-- ---- a line that is spaced

-- what it leaves, joined or placed
record Leaves (marker : Bool) (l : List ℕ) (f r : Formatter) : Type 0 where
  stack : r.stack ≡ count_brackets f.number (leading_closers l) (classify Carry.Code l) f.stack
  number : r.number ≡ f.number
  blank : r.prev_blank ≡ false
  prev : r.prev ≡ l
  ignore : r.ignore ≡ ignore_of marker
  carry : r.carry ≡ carry_after Carry.Code l

leaves : (o : Options) (f : Formatter) (marker : Bool) (l : List ℕ) → (marker ≡ true → is_plain_else l ≡ false) → Leaves marker l f (spaced_line o f marker l)
unfolding spaced_line else_line placed_line count_brackets choose
leaves o f marker l n = choose_case (Leaves marker l f) (λ h. joined marker n h) (λ h. record { stack = refl; number = refl; blank = refl; prev = refl; ignore = refl; carry = refl })
  where
    joined : (m : Bool) → (m ≡ true → is_plain_else l ≡ false) → is_plain_else l && can_join f.lines ≡ true → Leaves m l f (else_line f l)
    joined true n h =
        let z : ◌≡◌ {A = Bool} true false = sym (and_left (is_plain_else l) (can_join f.lines) h) ∙ n refl in
        let y : ◌≡◌ {A = ℕ} 0 1 = cc in absurd (omega arith)
    joined false n h = record { stack = rw (else_closers l (and_left (is_plain_else l) (can_join f.lines) h)); number = refl; blank = refl; prev = refl; ignore = refl; carry = refl }

pub spaced_step : (line model out out' s₁ s₂ indent : List ℕ) (style : Style) (unit : ℕ) (marker : Bool) (st : Record) (g : Going) (p : Put) (deep : Nesting) (ignore : Ignore) (r : Record)
    → Marks marker line → Goes line s₁ unit g
    → PutOn marker (respaced (decode line)) indent style model (length line) unit st out s₁ p out'
    → BracketsCounted (respaced (decode line)) s₁ s₂ (stack_at unit) p.left (length line) deep → ignore ≡ ignore_of marker → r ≡ after_line p deep ignore g.carry
    → (o : Options) → Uses o indent style
    → Stepped (spaced_by marker (respaced (decode line)) o) (length line) unit model (as_str style.ending) st out s₁ r out' s₂
unfolding count_brackets
spaced_step line model out out' s₁ s₂ indent style unit marker st g p deep ignore r n w q v i e o u =
    subst (λ (x : Record). Stepped (spaced_by marker (respaced (decode line)) o) (length line) unit model (as_str style.ending) st out s₁ x out' s₂) (sym e)
    (record {
      holds = λ f h.
          (let k = leaves o f marker (respaced (decode line)) n.other in
          let t = q.holds o f u h in
          record {
            text = t.text;
            stack = stack_after_law f h ∙ sym k.stack;
            running = v.runs ∙ ap levels (stack_after_law f h ∙ sym k.stack);
            number = v.line ∙ q.left.line ∙ h.number ∙ sym k.number;
            blank = sym k.blank;
            prev = q.own ∙ ap prev_of (sym k.prev);
            ignore = i ∙ sym k.ignore;
            carry = w.leaves ∙ carry_bytes Carry.Code (going_line line s₁ unit g) w.well ∙ ap (carry_after Carry.Code) w.text ∙ sym k.carry;
            imports = t.imports;
            blanks = t.blanks;
          });
      ordered = q.ordered;
      at = omega (arith, q.at);
      runs = λ x. record { is = v.runs };
      depth = omega (arith, v.most, q.left.depth);
      line = omega (arith, v.line, q.left.line);
      carry = omega (arith, w.depth, w.most);
      imports = q.imports;
      blanks = q.blanks;
    })
  where
    stack_after_law : (f : Formatter) → Holds model (as_str style.ending) unit f st out s₁
        → stacked s₂ (stack_at unit) deep.depth
        ≡ count_brackets f.number (leading_closers (respaced (decode line))) (classify Carry.Code (respaced (decode line))) f.stack
    stack_after_law f h =
        let c : p.closers ≡ leading_closers (respaced (decode line)) = q.closers.is ∙ closers_encode (respaced (decode line)) in
        let l : stacked s₁ (stack_at unit) p.left.depth ≡ drop p.closers f.stack =
        rw q.left.depth (sym (stacked_drop s₁ (stack_at unit) st.nesting.depth p.closers) ∙ ap (drop p.closers) h.stack) in
        let k : p.left.line ≡ f.number = q.left.line ∙ h.number in
        v.stack ∙ rw (l, c, k)

-- ---- a line in code that is not blank

code_not : (o : Options) (f : Formatter) (raw l : List ℕ) (marker : Bool) → l ≡ trim raw → protects f.ignore ≡ false
    → is_marker (classify Carry.Code l) ≡ marker → (is_marker (classify Carry.Code l) && has_code (classify Carry.Code l)) ≡ false
    → spaced_line o f marker (respaced l) ≡ code_line o f raw
unfolding code_line
code_not o f raw l marker e p m q =
    rw (← e, ← m) (sym (choose_false _ _ _ (ap (λ (b : Bool). b || (is_marker (classify Carry.Code l) && has_code (classify Carry.Code l))) p ∙ q)))

code_kept : (o : Options) (f : Formatter) (raw l : List ℕ) → l ≡ trim raw
    → (protects f.ignore || (is_marker (classify Carry.Code l) && has_code (classify Carry.Code l))) ≡ true → protected_line f raw ≡ code_line o f raw
unfolding code_line
code_kept o f raw l e q = rw (← e) (sym (choose_true _ _ _ q))

-- whether it is kept as written, by its marker
keeps : (l : List ℕ) (i : Ignore) (m : Option Marker) → m ≡ marker_in l → is_kept i m ≡ true → (protects i || (is_marker (classify Carry.Code l) && has_code (classify Carry.Code l))) ≡ true
keeps l i None d e = rw e
keeps l i (Some Marker.Alone) d e = rw e
keeps l i (Some Marker.AfterCode) d e =
    let x = found l (Some Marker.AfterCode) d in
    ap (λ (b : Bool). protects i || b) (rw x.marks (x.code x.marks)) ∙ or-true (protects i)

record Opens (l : List ℕ) (i : Ignore) (alone : Bool) : Type 0 where
  free : protects i ≡ false
  marks : is_marker (classify Carry.Code l) ≡ alone
  none : (is_marker (classify Carry.Code l) && has_code (classify Carry.Code l)) ≡ false

opens : (l : List ℕ) (i : Ignore) (m : Option Marker) → m ≡ marker_in l → is_kept i m ≡ false → Opens l i (is_alone m)
opens l i None d e = let x = found l None d in record { free = e; marks = x.marks; none = rw x.marks }
opens l i (Some Marker.Alone) d e = let x = found l (Some Marker.Alone) d in record { free = e; marks = x.marks; none = rw x.marks (x.code x.marks) }
opens l i (Some Marker.AfterCode) d e = absurd (true≢false e)

-- what scanning it asks, and what it gives: its class bytes stand at the front of scratch
pub scan_room : (line s₀ : List ℕ) → length line ≤ length s₀ → length line ≤ max_source
    → (length line ≤ length (take (length line) s₀)) × (carry_depth Carry.Code + length line + 1 < 2 ^ 32)
scan_room line s₀ h k = (omega (arith, length-take-le (length line) s₀ h), omega (arith, k))

module _ (line s₀ w : List ℕ) {after : Carry} (h : length line ≤ length s₀) (c : Classified Carry.Code line (take (length line) s₀) w after) where
  pub scanned : (m : Option Marker) → m ≡ marker_in (decode line) → LineScanned line s₀ (w ++ drop (length line) s₀) (record { after = after; marker = m })
  scanned m e = record { classes = classes_front line s₀ w h c; marker = e; only = front_only line s₀ w h c }

  pub scanned_front : length line ≡ length (take (length line) (w ++ drop (length line) s₀))
  scanned_front = sym (length-take-le (length line) (w ++ drop (length line) s₀) (omega (arith, h, (front_only line s₀ w h c).long)))

  pub scanned_bytes : take (length line) (w ++ drop (length line) s₀) ≡ class_bytes (classify Carry.Code line)
  scanned_bytes = sym (front_part (w ++ drop (length line) s₀) (length line)) ∙ (classes_front line s₀ w h c).bytes

module _
    {st : Record} {s₀ s₁ : List ℕ} {unit : ℕ} {raw line : List ℕ} {x : Scanned}
    (ready : Ready st s₀ unit (length raw)) (t : TrimmedLine raw line) (c : LineScanned line s₀ s₁ x)
  where
    within : length line ≤ stack_at unit
    within = omega (arith, t.short, ready.depth)

    pub code_ready : Ready st s₁ unit (length raw)
    code_ready = ready_as _ _ _ ready c.only within (omega arith)

    pub line_ready : Ready st s₁ unit (length line)
    line_ready = ready_as _ _ _ ready c.only within t.short

    module _ {model eol out out' s₂ : List ℕ} {r : Record} (b : Bool) (e : b ≡ is_kept st.ignore x.marker) where
      -- kept as written
      pub code_protected : b ≡ true
          → Stepped (kept_by (decode (take (length raw) raw)) (decode raw)) (length raw) unit model eol st out s₁ r out' s₂
          → (o : Options) → Stepped (code_line_by o (decode raw)) (length raw) unit model eol st out s₀ r out' s₂
      code_protected q v o =
          stepped_as _ _ s₀ c.only within (omega arith)
          (λ f h. ap (λ (x : List ℕ). kept_by (decode x) (decode raw) f) (take-length raw)
          ∙ code_kept o f (decode raw) (decode line) t.text (rw h.ignore at (keeps (decode line) st.ignore x.marker c.marker (sym e ∙ q))))
          v

      -- spaced, with or without a marker that stands alone; scratch was used before the stack
      pub code_open : (a : Bool) → b ≡ false → a ≡ is_alone x.marker → (s : List ℕ) → Only s₁ s 0 (stack_at unit) → (o : Options)
          → Stepped (spaced_by a (respaced (decode line)) o) (length line) unit model eol st out s r out' s₂
          → Stepped (code_line_by o (decode raw)) (length raw) unit model eol st out s₀ r out' s₂
      code_open a q k s only o v =
          let d = opens (decode line) st.ignore x.marker c.marker (sym e ∙ q) in
          stepped_as _ _ s₀ c.only within t.short
          (λ f h. code_not o f (decode raw) (decode line) a t.text (rw h.ignore at d.free) (d.marks ∙ sym k) d.none)
          (stepped_as (spaced_by a (respaced (decode line)) o) _ s₁ only (omega arith) (omega arith) (λ f h. refl) v)

-- a line that is one bracket, which no marker protects
module _ {raw line : List ℕ} (t : TrimmedLine raw line) (i : Ignore) (b : Bool) (e : b ≡ (is_lone line && not (protects i))) (q : b ≡ true) where
  pub lone_is : is_lone line ≡ true
  lone_is = and_left (is_lone line) (not (protects i)) (sym e ∙ q)

  lone_free : protects i ≡ false
  lone_free = not-true (protects i) (and_right (is_lone line) (not (protects i)) (sym e ∙ q))

pub code_lone : {s₀ s₂ raw line model eol out out' : List ℕ} {unit : ℕ} {st r : Record} (t : TrimmedLine raw line) (b : Bool)
    → b ≡ (is_lone line && not (protects st.ignore)) → b ≡ true → (o : Options)
    → Stepped (lone_by o (decode line)) (length line) unit model eol st out s₀ r out' s₂
    → Stepped (code_line_by o (decode raw)) (length raw) unit model eol st out s₀ r out' s₂
code_lone {s₀} {raw = raw} {line = line} {st = st} t b e q o v =
    let x = lone_of line (lone_is t st.ignore b e q) in
    let l : decode line ≡ get_or line 0 0 ∷ [] = ap decode x.is ∙ x.facts.chars in
    let m : is_marker (classify Carry.Code (decode line)) ≡ false = ap (λ (y : List ℕ). is_marker (classify Carry.Code y)) l ∙ x.facts.marker in
    let s : respaced (decode line) ≡ decode line = ap respaced l ∙ x.facts.same ∙ sym l in
    stepped_as _ _ s₀ (only_same s₀ 0 0) (omega arith) t.short
    (λ f h. ap (spaced_line o f false) (sym s)
    ∙ code_not o f (decode raw) (decode line) false t.text (rw h.ignore at (lone_free t st.ignore b e q)) m (ap (λ (y : Bool). y && has_code (classify Carry.Code (decode line))) m)) v

-- what `spaced_line` asks
pub solid : (raw line : List ℕ) → TrimmedLine raw line → is_empty (decode line) ≡ false → SolidLine line
solid raw line t e = record { well = t.well; trimmed = ap trim_end t.text ∙ trim_trim_end (decode raw) ∙ sym t.text; some = e }

pub marks_of_law : (line : List ℕ) (m : Option Marker) (a : Bool) → m ≡ marker_in (decode line) → a ≡ is_alone m → Marks a line
marks_of_law line m a d k = record { other = λ h. go m d (sym k ∙ h) }
  where
    go : (m : Option Marker) → m ≡ marker_in (decode line) → is_alone m ≡ true → is_plain_else (respaced (decode line)) ≡ false
    go None d h = absurd (false≢true h)
    go (Some Marker.Alone) d h = let x = found (decode line) (Some Marker.Alone) d in alone_other (decode line) x.marks (x.code x.marks)
    go (Some Marker.AfterCode) d h = absurd (false≢true h)

-- ---- any line

-- b tells whether a line is one of a protected block, which p tells, or starts inside a comment or a prefab
record Looked (p b : Bool) (y : Carry) : Type 0 where
  free : p ≡ false
  code : in_code_now y ≡ true

looked : (p b : Bool) (y : Carry) → b ≡ (p || not (in_code_now y)) → b ≡ false → Looked p b y
looked true b y e q = absurd (true≢false (sym e ∙ q))
looked false b Carry.Code e q = record { free = refl; code = refl }
looked false b (Carry.Block d) e q = absurd (true≢false (sym e ∙ q))
looked false b Carry.Prefab e q = absurd (true≢false (sym e ∙ q))

pub code_free : (p b : Bool) (y : Carry) (i : Ignore) → p ≡ in_block i → b ≡ (p || not (in_code_now y)) → b ≡ false → in_block i ≡ false
code_free p b y i e t q = sym e ∙ (looked p b y t q).free

pub code_carry : (p b : Bool) (y : Carry) → b ≡ (p || not (in_code_now y)) → b ≡ false → y ≡ Carry.Code
code_carry p b y e q = go y (looked p b y e q).code
  where
    go : (y : Carry) → in_code_now y ≡ true → y ≡ Carry.Code
    go Carry.Code h = refl
    go (Carry.Block d) h = absurd (false≢true h)
    go Carry.Prefab h = absurd (false≢true h)

raw_same : (o : Options) (f : Formatter) (raw : List ℕ) (p b : Bool) → in_block f.ignore ≡ p → b ≡ (p || not (in_code_now f.carry)) → b ≡ true
    → raw_by p raw f ≡ any_line o f raw
unfolding any_line choose
raw_same o f raw true b i e q = sym (choose_true _ _ _ i)
raw_same o f raw false b i e q = sym (choose_false _ _ _ i ∙ choose_false _ _ _ (outside (in_code_now f.carry) (sym e ∙ q)))
  where
    outside : (c : Bool) → (false || not c) ≡ true → c ≡ false
    outside true h = absurd (false≢true h)
    outside false h = refl

module _ {st : Record} {s₀ out model eol : List ℕ} {unit : ℕ} (p b : Bool) (ep : p ≡ in_block st.ignore) (e : b ≡ (p || not (in_code_now st.carry))) where
  in_block_law : {f : Formatter} → Holds model eol unit f st out s₀ → in_block f.ignore ≡ p
  in_block_law h = ap in_block (sym h.ignore) ∙ sym ep

  in_now : b ≡ false → {f : Formatter} → Holds model eol unit f st out s₀ → in_code_now f.carry ≡ true
  in_now q h = ap in_code_now (sym h.carry) ∙ (looked p b st.carry e q).code

  free : b ≡ false → {f : Formatter} → Holds model eol unit f st out s₀ → in_block f.ignore ≡ false
  free q h = in_block_law h ∙ (looked p b st.carry e q).free

  module _ {r : Record} {out' s₂ : List ℕ} (raw : List ℕ) (o : Options) where
    -- a line of a protected block, or inside a comment or a prefab
    pub format_raw : b ≡ true → Stepped (raw_by (in_block st.ignore) (decode raw)) (length raw) unit model eol st out s₀ r out' s₂
        → Stepped (any_line_by o (decode raw)) (length raw) unit model eol st out s₀ r out' s₂
    format_raw q v =
        stepped_as _ _ s₀ (only_same s₀ 0 0) (omega arith) (omega arith)
        (λ f h. raw_same o f (decode raw) p b (in_block_law h) (e ∙ ap (λ (y : Carry). p || not (in_code_now y)) h.carry) q)
        (subst (λ (x : Bool). Stepped (raw_by x (decode raw)) (length raw) unit model eol st out s₀ r out' s₂) (sym ep) v)

    module _ (q : b ≡ false) where
      pub format_code : is_empty (trim (decode raw)) ≡ false → Stepped (code_line_by o (decode raw)) (length raw) unit model eol st out s₀ r out' s₂
          → Stepped (any_line_by o (decode raw)) (length raw) unit model eol st out s₀ r out' s₂
      unfolding any_line
      format_code z v =
          stepped_as _ _ s₀ (only_same s₀ 0 0) (omega arith) (omega arith)
          (λ f h. sym (choose_false _ _ _ (free q h) ∙ choose_true _ _ _ (in_now q h) ∙ choose_false _ _ _ z)) v

      pub format_blank : is_empty (trim (decode raw)) ≡ true → Stepped blank_line 0 unit model eol st out s₀ r out' s₂
          → Stepped (any_line_by o (decode raw)) (length raw) unit model eol st out s₀ r out' s₂
      unfolding any_line
      format_blank z v =
          stepped_as _ _ s₀ (only_same s₀ 0 0) (omega arith) (omega arith)
          (λ f h. sym (choose_false _ _ _ (free q h) ∙ choose_true _ _ _ (in_now q h) ∙ choose_true _ _ _ z)) v

-- an empty line, and a trimmed one, blank or not
pub empty_trim : (raw : List ℕ) → length raw ≡ 0 → is_empty (trim (decode raw)) ≡ true
unfolding chars trim trim_end trim_start
empty_trim [] e = refl
empty_trim (c ∷ cs) e = absurd (omega arith)

module _ (raw : List ℕ) (tail start : ℕ) (e : TrimmedEnd raw tail) (s : TrimmedStart (take tail raw) start) where
  pub blank_trim : start ≡ tail → is_empty (trim (decode raw)) ≡ true
  unfolding chars
  blank_trim h =
      let n : tail - start ≡ 0 = omega arith in
      ap is_empty (sym (trimmed_line raw tail start e s).text) ∙ rw n

  pub some_line : (start ≡ tail → ⊥) → is_empty (decode (take (tail - start) (drop start raw))) ≡ false
  some_line h = decode_some _ (trimmed_line raw tail start e s).well (λ z. h (omega (arith, z, long, start_within raw tail start e s)))
    where
      long : length (take (tail - start) (drop start raw)) ≡ tail - start
      long = length-take-le (tail - start) (drop start raw) (omega (arith, length-drop start raw, e.fits))

  pub some_trim : (start ≡ tail → ⊥) → is_empty (trim (decode raw)) ≡ false
  some_trim h = ap is_empty (sym (trimmed_line raw tail start e s).text) ∙ some_line h

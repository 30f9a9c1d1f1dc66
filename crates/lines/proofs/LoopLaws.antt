-- The loop over the lines: `Reached` before the line that starts at `at`.
use Rattle.std.specs.Prelude.{Option, Some, None, unwrap_or, option_copied}
use denote.Ref.{Bor}
use Prim.Native.Nat.{ℕ, suc, ◌+◌, ◌-◌, ◌*◌, ◌^◌, ◌≤◌, ◌<◌, zero-le}
use native.Mathlib.Omega.{arith}
use mathlib.Core.List.{List, [], ◌∷◌, map}
use mathlib.Core.Logic.{◌⊎◌, inl, inr}
use mathlib.Core.Path.{◌≡◌, refl, sym, ap, subst, ◌∙◌}
use lib.ListN.{length, take, drop, length-take, length-drop}
use lib.Seq.{drop-drop, take_all}
use Rattle.utf8.specs.Unicode.{decode, WellFormed}
use Rattle.utf8.proofs.Tests.{split}
use Rattle.buffer.specs.Buffer.{part}
use Rattle.rules.specs.Lines.{as_str, drop_cr, lines_of}
use Rattle.rules.specs.Options.{Options}
use Rattle.rules.specs.Line.{Formatter, start, any_line, read_on, format_line}
use Rattle.rules.specs.Assembly.{format_lines}
use Rattle.rules.specs.declared.FinalNewline.{FinalNewline}
use Rattle.basics.specs.Depth.{carry_depth}
use Rattle.split.specs.Text.{AllWell}
use Rattle.compare.specs.Common.{Keeps}
use Rattle.text.specs.Text.{Ordered}
use Rattle.line.specs.Holds.{Record, Holds, Runs, Ready, Stepped, Uses, initial, growth}
use Rattle.line.proofs.HoldsLaws.{initial_holds, initial_runs}
use Rattle.line.specs.declared.style.Style.{Style}
use Rattle.line_ends.specs.LineEnds.{LineEnd}
use Rattle.lines.specs.Lines.{Passed, given, LinesDone}
use Rattle.line_ends.proofs.LineCuts.{Last, More, whole, part_of, cr_fits}
use Rattle.lines.proofs.LineChars.{lines_well, lines_decode}

-- ---- the line that starts at `at` and those after it

pub record Next (source : List ℕ) (at e : ℕ) : Type 0 where
  pub rest : List (List ℕ)
  pub is : lines_of (drop at source) ≡ drop_cr (part source at e) ∷ rest
  pub here : e + 1 ≤ length source → rest ≡ lines_of (drop (e + 1) source)
  pub none : length source < e + 1 → rest ≡ []

last_line : (s : List ℕ) → Last s → lines_of s ≡ drop_cr s ∷ []
unfolding lines_of
last_line s e = rw e

more_lines : (s : List ℕ) (k : ℕ) → More s k → lines_of s ≡ drop_cr (take k s) ∷ lines_of (drop (suc k) s)
unfolding lines_of
more_lines s k e = rw e

pub next_line_law : (source : List ℕ) (at e : ℕ) → LineEnd source at e → Next source at e
next_line_law source at e q = go (split e (length source))
  where
    go : (e < length source) ⊎ (length source ≤ e) → Next source at e
    go (inl h) =
        let n : at + suc (e - at) ≡ e + 1 = omega (arith, q.from) in
        record {
          rest = lines_of (drop (e + 1) source);
          is = more_lines (drop at source) (e - at) (part_of source at e q h) ∙ rw (drop-drop, n);
          here = λ k. refl;
          none = λ k. absurd (omega arith);
        }
    go (inr h) =
        record {
          rest = [];
          is = last_line (drop at source) (whole source at e q h) ∙ ap (λ (l : List ℕ). drop_cr l ∷ []) (sym (take_all (e - at) (drop at source) (omega (arith, q.from, length-drop at source))));
          here = λ k. absurd (omega arith);
          none = λ k. refl;
        }

-- ---- the next line is read

abbrev pub next_line : Record → Record
next_line st =
    record {
      text = st.text;
      nesting = record { depth = st.nesting.depth; levels = st.nesting.levels; line = st.nesting.line + 1 };
      blank = st.blank;
      prev = st.prev;
      ignore = st.ignore;
      carry = st.carry;
      imports = st.imports;
      blanks = st.blanks;
    }

pub read_on_law : {model eol : List ℕ} {unit : ℕ} {f : Formatter} {st : Record} {out scratch : List ℕ} → Holds model eol unit f st out scratch → Holds model eol unit (read_on f) (next_line st) out scratch
read_on_law h =
    record {
      text = h.text;
      stack = h.stack;
      running = h.running;
      number = ap (λ (n : ℕ). n + 1) h.number;
      blank = h.blank;
      prev = h.prev;
      ignore = h.ignore;
      carry = h.carry;
      imports = h.imports;
      blanks = h.blanks;
    }

-- a step, where its record is made anew, with the model that it is given
pub as_made : {indent text model out scratch out' scratch' : List ℕ} {style : Style} {n : ℕ} {st a r : Record} (raw : List ℕ) → r ≡ a → text ≡ model
    → ((o : Options) → Uses o indent style → Stepped (λ f. any_line o f (decode raw)) (length raw) n text (as_str style.ending) st out scratch a out' scratch')
    → (o : Options) → Uses o indent style → Stepped (λ f. any_line o f (decode raw)) (length raw) n model (as_str style.ending) st out scratch r out' scratch'
as_made {model = model} {out} {scratch} {out'} {scratch'} {style} {n} {st} {a} raw e m w o u =
    subst (λ (x : Record). Stepped (λ f. any_line o f (decode raw)) (length raw) n model (as_str style.ending) st out scratch x out' scratch') (sym e)
    (subst (λ (x : List ℕ). Stepped (λ f. any_line o f (decode raw)) (length raw) n x (as_str style.ending) st out scratch a out' scratch') m (w o u))

-- the text of a model that there may not be
pub given_is : (model : Option (Bor (List ℕ))) (none text : Bor (List ℕ)) → text ≡ unwrap_or model none → none.now ≡ [] → text.now ≡ given (option_copied model)
given_is None none text e z = ap (λ (b : Bor (List ℕ)). b.now) e ∙ z
given_is (Some m) none text e z = ap (λ (b : Bor (List ℕ)). b.now) e

-- ---- the invariant

-- options with this indent and this style
abbrev some_options : List ℕ → Style → Options
some_options indent style =
    record {
      indent = indent;
      print_width = style.width;
      end_of_line = None;
      insert_final_newline = FinalNewline.Always;
      ruler_tab = style.ruler;
      strengths = style.strengths;
    }

-- the lines `left` are still to come, after the definition's record f
pub record Running (o : Options) (source model eol : List ℕ) (left : List (List ℕ)) (st : Record) (out scratch : List ℕ) : Type 0 where
  pub f : Formatter
  pub same : format_lines o (lines_of (decode source)) start ≡ format_lines o (map decode left) f
  pub holds : Holds model eol (length source) f st out scratch

pub record Reached (source indent : List ℕ) (style : Style) (model out₀ scratch₀ out scratch : List ℕ) (st : Record) (at : ℕ) : Type 0 where
  pub within : at ≤ length source + 1
  pub left : List (List ℕ)
  pub here : at ≤ length source → left ≡ lines_of (drop at source)
  pub none : length source < at → left ≡ []
  pub well : AllWell left
  pub run : (o : Options) → Uses o indent style → Running o source model (as_str style.ending) left st out scratch
  pub ordered : Ordered st.text
  pub place : st.text.at.0 ≤ at * growth
  pub runs : Runs (length source) st scratch
  pub depth : st.nesting.depth ≤ at - 1
  pub line : st.nesting.line ≤ at
  pub carry : carry_depth st.carry ≤ 2 * at
  pub imports : st.imports ≤ at
  pub blanks : st.blanks ≤ 2 * at
  pub as_long : length out ≡ length out₀
  pub as_wide : length scratch ≡ length scratch₀

pub reached_start : (source indent : List ℕ) (style : Style) (model out scratch : List ℕ) (st : Record) → Passed source indent scratch → Keeps model out [] → st ≡ initial
    → Reached source indent style model out scratch out scratch st 0
reached_start source indent style model out scratch st p k e =
    rw e
    (record {
      within = zero-le;
      left = lines_of source;
      here = λ h. refl;
      none = λ h. absurd (omega arith);
      well = lines_well source p.well;
      run = λ o u. record {
        f = start;
        same = ap (λ (ls : List (List ℕ)). format_lines o ls start) (sym (lines_decode source p.well));
        holds = initial_holds model (as_str style.ending) (length source) out scratch k;
      };
      ordered = record { cut = omega arith; full = omega arith; below = omega arith };
      place = zero-le;
      runs = initial_runs (length source) scratch;
      depth = zero-le;
      line = zero-le;
      carry = zero-le;
      imports = zero-le;
      blanks = zero-le;
      as_long = refl;
      as_wide = refl;
    })

module _
    {source indent : List ℕ} {style : Style} {model out₀ scratch₀ out scratch : List ℕ} {st : Record} {at : ℕ}
    (r : Reached source indent style model out₀ scratch₀ out scratch st at) (p : Passed source indent scratch₀) (more : at ≤ length source)
    {e : ℕ} (q : LineEnd source at e) {raw : List ℕ} (l : raw ≡ drop_cr (part source at e))
  where
    raw_long : length raw ≤ e - at
    raw_long = omega (arith, ap length l, cr_fits (part source at e), length-take (e - at) (drop at source))

    pub reached_ready : Ready st scratch (length source) (length raw)
    reached_ready =
        record {
          small = record { ordered = r.ordered; at = omega (arith, r.place, p.limit) };
          depth = omega (arith, r.depth, raw_long, q.from, q.fits);
          runs = r.runs;
          line = omega (arith, r.line);
          carry = omega (arith, r.carry, raw_long, q.from, q.fits);
          imports = omega (arith, r.imports);
          blanks = omega (arith, r.blanks, raw_long, q.from, q.fits);
          limit = p.limit;
          room = omega (arith, p.room, r.as_wide);
        }

    pub lines_left : (n : Next source at e) → r.left ≡ raw ∷ n.rest
    lines_left n = r.here more ∙ n.is ∙ rw l

    all_well : (n : Next source at e) → AllWell (raw ∷ n.rest)
    all_well n = subst AllWell (lines_left n) r.well

    pub reached_well : WellFormed raw
    reached_well = (all_well (next_line_law source at e q)).0

    module _ {st' : Record} {out' scratch' : List ℕ}
        (w : (o : Options) → Uses o indent style → Stepped (λ f. any_line o f (decode raw)) (length raw) (length source) model (as_str style.ending) st out scratch st' out' scratch')
      where
        -- what a step gives for some options
        pub stepped : Stepped (λ f. any_line (some_options indent style) f (decode raw)) (length raw) (length source) model (as_str style.ending) st out scratch st' out' scratch'
        stepped = w (some_options indent style) (record { indents = refl; breaks = refl; ruled = refl; strengths = refl })

        pub number_fits : st'.nesting.line + 1 < 2 ^ 64
        number_fits = omega (arith, stepped.line, r.line, p.limit)

        run_on : (n : Next source at e) (o : Options) → Uses o indent style → Running o source model (as_str style.ending) n.rest (next_line st') out' scratch'
        unfolding format_lines format_line
        run_on n o u =
            let k = r.run o u in
            record {
              f = format_line o k.f (decode raw);
              same = k.same ∙ ap (λ (ls : List (List ℕ)). format_lines o (map decode ls) k.f) (lines_left n);
              holds = read_on_law ((w o u).holds k.f k.holds);
            }

        pub next_reached : length out' ≡ length out → length scratch' ≡ length scratch → Reached source indent style model out₀ scratch₀ out' scratch' (next_line st') (e + 1)
        next_reached eo es =
            let n = next_line_law source at e q in
            let s = stepped in
            record {
              within = omega (arith, q.fits);
              left = n.rest;
              here = n.here;
              none = n.none;
              well = (all_well n).1;
              run = run_on n;
              ordered = s.ordered;
              place = omega (arith, s.at, r.place, raw_long, q.from);
              runs = record { is = (s.runs r.runs).is };
              depth = omega (arith, s.depth, r.depth, raw_long, q.from);
              line = omega (arith, s.line, r.line, raw_long, q.from);
              carry = omega (arith, s.carry, r.carry, raw_long, q.from);
              imports = omega (arith, s.imports, r.imports, q.from);
              blanks = omega (arith, s.blanks, r.blanks, raw_long, q.from);
              as_long = eo ∙ r.as_long;
              as_wide = es ∙ r.as_wide;
            }

        pub next_left : (eo : length out' ≡ length out) (es : length scratch' ≡ length scratch) → (next_reached eo es).left ≡ (next_line_law source at e q).rest
        unfolding next_reached
        next_left eo es = refl

pub reached_end : {source indent : List ℕ} {style : Style} {model out₀ scratch₀ out scratch : List ℕ} {st : Record} {at : ℕ}
    → Reached source indent style model out₀ scratch₀ out scratch st at → Passed source indent scratch₀ → length source < at
    → LinesDone source indent style model st out scratch
unfolding format_lines
reached_end {source = source} {style = style} {model = model} {out = out} {scratch = scratch} {st = st} r p h =
    record {
      holds = λ o u. (let k = r.run o u in
          let e : format_lines o (lines_of (decode source)) start ≡ k.f = k.same ∙ ap (λ (ls : List (List ℕ)). format_lines o (map decode ls) k.f) (r.none h) in
          subst (λ (f : Formatter). Holds model (as_str style.ending) (length source) f st out scratch) (sym e) k.holds);
      small = record { ordered = r.ordered; at = omega (arith, r.place, r.within, p.limit) };
      stack = omega (arith, r.depth, r.within, r.as_wide, p.room);
    }

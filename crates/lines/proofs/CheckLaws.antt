-- The loop over the lines, where the text is compared with the source: what is settled after each line.
use Rattle.std.specs.Prelude.{Option, Some}
use Prim.Native.Nat.{ℕ, suc, ◌+◌, ◌≤◌, ◌<◌}
use native.Mathlib.Omega.{arith}
use mathlib.Core.Bool.{Bool, true, false, not, true≢false}
use mathlib.Core.List.{List, [], ◌∷◌, ◌++◌, map}
use mathlib.Core.Path.{◌≡◌, refl, sym, ap, subst, ◌∙◌}
use lib.ListN.{length, take, length-append}
use lib.Seq.{take-append_seam}
use Rattle.utf8.specs.Unicode.{Scalars, encode, decode, WellFormed}
use Rattle.utf8.proofs.Decode.{encode_append, decode_scalars, scalars_left}
use Rattle.buffer.specs.Buffer.{part}
use Rattle.rules.specs.Basics.{choose, same, starts_with}
use Rattle.rules.specs.Lines.{as_str, drop_cr, lines_of}
use Rattle.rules.specs.Options.{Options}
use Rattle.rules.specs.Line.{Formatter, start, any_line, format_line}
use Rattle.rules.specs.Assembly.{joined, finish, format_lines}
use Rattle.rules.proofs.Choose.{choose_true, choose_false}
use Rattle.compare.specs.Common.{Tells}
use Rattle.check_rules.specs.Check.{Checked, settled_lines, closed, settled, check_lines}
use Rattle.check_rules.proofs.SettledLaws.{Begins, joined_begins, settled_begins}
use Rattle.check_rules.proofs.ByteLaws.{starts_bytes}
use Rattle.text.specs.Text.{Text}
use Rattle.text.specs.declared.Written.{Written}
use Rattle.line.specs.Holds.{Record, Holds, Stepped, Uses, initial}
use Rattle.line.proofs.HoldsLaws.{initial_holds}
use Rattle.line.specs.declared.style.Style.{Style}
use Rattle.line_ends.specs.LineEnds.{LineEnd}
use Rattle.lines.specs.Lines.{Passed, given, Starts, whole_text, answer_at, Differs, AllRead}
use Rattle.lines.proofs.LineChars.{lines_decode}
use Rattle.lines.proofs.LoopLaws.{next_line, Reached, reached_start, reached_end, next_line_law, lines_left, read_on_law, stepped, next_reached, next_left}

-- ---- whether the settled text is a beginning of the model

settled_test : (model eol : List ℕ) (ls : List (List ℕ)) (t : Written) (out : List ℕ) (r : Bool) → Text model eol ls t out → Tells model out t.settled r
    → r ≡ starts_with model (encode (closed eol (settled_lines ls)))
settled_test model eol ls t out r x told =
    let b = joined_begins eol ls in
    let e : encode (joined eol ls) ≡ encode (closed eol (settled_lines ls)) ++ encode b.more = ap encode b.is ∙ encode_append (closed eol (settled_lines ls)) b.more in
    let f : take t.settled (encode (joined eol ls)) ≡ encode (closed eol (settled_lines ls)) = rw (x.settles, e) (take-append_seam _ _) in
    let k : t.settled ≤ length (encode (joined eol ls)) = omega (arith, x.settles, ap length e, length-append (encode (closed eol (settled_lines ls))) (encode b.more)) in
    told.is (encode (joined eol ls)) x.holds k ∙ ap (starts_with model) f

-- the same of characters: what is settled consists of scalar values, as the finished text does
settled_chars : (source eol : List ℕ) (ls : List (List ℕ)) (text : List ℕ) → WellFormed source → Scalars text → Begins (closed eol (settled_lines ls)) text
    → starts_with source (encode (closed eol (settled_lines ls))) ≡ starts_with (decode source) (closed eol (settled_lines ls))
settled_chars source eol ls text w s b =
    ap (λ (x : List ℕ). starts_with x (encode (closed eol (settled_lines ls)))) (sym w)
    ∙ starts_bytes (decode source) (closed eol (settled_lines ls)) (decode_scalars source) (scalars_left (closed eol (settled_lines ls)) b.more (rw b.is at s))

-- ---- the definition's answer, after some lines

check_next : (o : Options) (source eol : List ℕ) (raw : List ℕ) (raws : List (List ℕ)) (f : Formatter) (n : ℕ) → starts_with source (settled eol (format_line o f raw)) ≡ true
    → check_lines o source eol (raw ∷ raws) f n ≡ check_lines o source eol raws (format_line o f raw) (suc n)
unfolding check_lines
check_next o source eol raw raws f n h = choose_true _ _ _ h

check_stop : (o : Options) (source eol : List ℕ) (raw : List ℕ) (raws : List (List ℕ)) (f : Formatter) (n : ℕ) → starts_with source (settled eol (format_line o f raw)) ≡ false
    → check_lines o source eol (raw ∷ raws) f n ≡ record { yes = false; read = suc n }
unfolding check_lines
check_stop o source eol raw raws f n h = choose_false _ _ _ h

check_end : (o : Options) (source eol : List ℕ) (f : Formatter) (n : ℕ) → check_lines o source eol [] f n ≡ record { yes = same (finish o source eol f).text source; read = n }
unfolding check_lines
check_end o source eol f n = refl

line_next : (o : Options) (raw : List ℕ) (raws : List (List ℕ)) (f : Formatter) → format_lines o (raw ∷ raws) f ≡ format_lines o raws (format_line o f raw)
unfolding format_lines
line_next o raw raws f = refl

line_none : (o : Options) (f : Formatter) → format_lines o [] f ≡ f
unfolding format_lines
line_none o f = refl

answer_stop : (o : Options) (source eol : List ℕ) (n m : ℕ) → n ≡ m → ◌≡◌ {A = Checked} (record { yes = false; read = n }) (answer_at o source eol false m)
unfolding choose
answer_stop o source eol n m e = ap {B = Checked} (λ (k : ℕ). record { yes = false; read = k }) e

answer_end : (o : Options) (source eol : List ℕ) (n : ℕ) → ◌≡◌ {A = Checked} (record { yes = same (whole_text o source eol) source; read = n }) (answer_at o source eol true n)
unfolding choose
answer_end o source eol n = refl

-- ---- the invariant

-- the lines `left` are still to come, after the definition's record f
pub record Checking (o : Options) (source eol : List ℕ) (left : List (List ℕ)) (st : Record) (out scratch : List ℕ) : Type 0 where
  pub f : Formatter
  pub lines : format_lines o (lines_of (decode source)) start ≡ format_lines o (map decode left) f
  pub holds : Holds source eol (length source) f st out scratch
  pub checks : check_lines o (decode source) eol (lines_of (decode source)) start 0 ≡ check_lines o (decode source) eol (map decode left) f st.nesting.line

pub record Looked (source indent : List ℕ) (style : Style) (checks : Bool) (model : Option (List ℕ)) (out₀ scratch₀ out scratch : List ℕ) (st : Record) (at : ℕ) : Type 0 where
  pub reached : Reached source indent style (given model) out₀ scratch₀ out scratch st at
  pub check : checks ≡ true → model ≡ Some source → (o : Options) → Uses o indent style → Scalars (whole_text o (decode source) (as_str style.ending))
      → Checking o source (as_str style.ending) reached.left st out scratch

pub looked_start : (source indent : List ℕ) (style : Style) (checks : Bool) (model : Option (List ℕ)) (out scratch : List ℕ) (st : Record) → Passed source indent scratch → Starts model out → st ≡ initial
    → Looked source indent style checks model out scratch out scratch st 0
looked_start source indent style checks model out scratch st p s e =
    let r = reached_start source indent style (given model) out scratch st p s.none e in
    record { reached = r; check = λ b m o u t. first r m o u }
  where
    first : (r : Reached source indent style (given model) out scratch out scratch st 0) → model ≡ Some source → (o : Options) → Uses o indent style
        → Checking o source (as_str style.ending) r.left st out scratch
    first r m o u =
        let k = r.run o u in
        let l : map decode r.left ≡ lines_of (decode source) = ap (map decode) (r.here (omega arith)) ∙ lines_decode source p.well in
        record {
          f = start;
          lines = ap (λ (ls : List (List ℕ)). format_lines o ls start) (sym l);
          holds = subst (λ (x : List ℕ). Holds x (as_str style.ending) (length source) start st out scratch) (ap given m) (initially o u);
          checks = rw (l, e);
        }
      where
        initially : (o : Options) → Uses o indent style → Holds (given model) (as_str style.ending) (length source) start st out scratch
        initially o u = rw e (initial_holds (given model) (as_str style.ending) (length source) out scratch s.none)

module _
    {source indent : List ℕ} {style : Style} {checks : Bool} {model : Option (List ℕ)} {out₀ scratch₀ out scratch : List ℕ} {st : Record} {at : ℕ}
    (r : Looked source indent style checks model out₀ scratch₀ out scratch st at) (p : Passed source indent scratch₀) (more : at ≤ length source)
    {e : ℕ} (q : LineEnd source at e) {raw : List ℕ} (l : raw ≡ drop_cr (part source at e))
    {st' : Record} {out' scratch' : List ℕ}
    (w : (o : Options) → Uses o indent style → Stepped (λ f. any_line o f (decode raw)) (length raw) (length source) (given model) (as_str style.ending) st out scratch st' out' scratch')
    {d : Bool} (t : Differs checks model out' st'.text.settled d)
  where
    abbrev eol : List ℕ
    eol = as_str style.ending

    abbrev rest : List (List ℕ)
    rest = (next_line_law source at e q).rest

    number : suc st.nesting.line ≡ st'.nesting.line + 1
    number = omega (arith, (stepped r.reached p more q l w).line)

    module _ (b : checks ≡ true) (m : model ≡ Some source) (o : Options) (u : Uses o indent style) (s : Scalars (whole_text o (decode source) eol)) where
      abbrev now : Checking o source eol r.reached.left st out scratch
      now = r.check b m o u s

      abbrev after : Formatter
      after = format_line o now.f (decode raw)

      left_is : map decode r.reached.left ≡ decode raw ∷ map decode rest
      left_is = ap (map decode) (lines_left r.reached p more q l (next_line_law source at e q))

      holds_on : Holds source eol (length source) after (next_line st') out' scratch'
      unfolding format_line
      holds_on =
          subst (λ (x : List ℕ). Holds x eol (length source) after (next_line st') out' scratch') (ap given m)
          (read_on_law ((w o u).holds now.f (subst (λ (x : List ℕ). Holds x eol (length source) now.f st out scratch) (sym (ap given m)) now.holds)))

      lines_on : format_lines o (lines_of (decode source)) start ≡ format_lines o (map decode rest) after
      lines_on = now.lines ∙ ap (λ (ls : List (List ℕ)). format_lines o ls now.f) left_is ∙ line_next o (decode raw) (map decode rest) now.f

      checks_on : check_lines o (decode source) eol (lines_of (decode source)) start 0 ≡ check_lines o (decode source) eol (decode raw ∷ map decode rest) now.f st.nesting.line
      checks_on = now.checks ∙ ap (λ (ls : List (List ℕ)). check_lines o (decode source) eol ls now.f st.nesting.line) left_is

      begins_on : Begins (settled eol after) (whole_text o (decode source) eol)
      begins_on =
          subst (λ (x : Formatter). Begins (settled eol after) (finish o (decode source) eol x).text) (sym lines_on)
          (settled_begins o (decode source) eol (map decode rest) after)

      test : not d ≡ starts_with (decode source) (settled eol after)
      test =
          settled_test source eol after.lines st'.text out' (not d) holds_on.text (t.told b source m)
          ∙ settled_chars source eol after.lines (whole_text o (decode source) eol) p.well s begins_on

    pub looked_more : d ≡ false → length out' ≡ length out → length scratch' ≡ length scratch
        → Looked source indent style checks model out₀ scratch₀ out' scratch' (next_line st') (e + 1)
    looked_more f eo es =
        record {
          reached = next_reached r.reached p more q l w eo es;
          check = λ b m o u s. subst (λ (ls : List (List ℕ)). Checking o source eol ls (next_line st') out' scratch') (sym (next_left r.reached p more q l w eo es)) (record {
            f = after b m o u s;
            lines = lines_on b m o u s;
            holds = holds_on b m o u s;
            checks =
                checks_on b m o u s
                ∙ check_next o (decode source) eol (decode raw) (map decode rest) (now b m o u s).f st.nesting.line (sym (test b m o u s) ∙ ap not f)
                ∙ ap (check_lines o (decode source) eol (map decode rest) (after b m o u s)) number;
          });
        }

    pub looked_stop : d ≡ true → AllRead source indent style checks model (record { st = next_line st'; all = false }) out' scratch'
    looked_stop f =
        record {
          done = λ h. absurd (true≢false (sym h));
          unchecked = λ h. absurd (true≢false (sym f ∙ t.unchecked h));
          all = λ h. absurd (true≢false (sym f ∙ t.off h));
          answer = λ b m o u s.
              checks_on b m o u s
              ∙ check_stop o (decode source) eol (decode raw) (map decode rest) (now b m o u s).f st.nesting.line (sym (test b m o u s) ∙ ap not f)
              ∙ answer_stop o (decode source) eol (suc st.nesting.line) (st'.nesting.line + 1) number;
        }

pub looked_end : {source indent : List ℕ} {style : Style} {checks : Bool} {model : Option (List ℕ)} {out₀ scratch₀ out scratch : List ℕ} {st : Record} {at : ℕ}
    → Looked source indent style checks model out₀ scratch₀ out scratch st at → Passed source indent scratch₀ → length source < at
    → AllRead source indent style checks model (record { st = st; all = true }) out scratch
looked_end {source = source} {indent = indent} {style = style} {checks = checks} {model = model} {out = out} {scratch = scratch} {st = st} r p h =
    record {
      done = λ _. reached_end r.reached p h;
      unchecked = λ _. refl;
      all = λ _. refl;
      answer = λ b m o u s. end o (r.check b m o u s);
    }
  where
    end : (o : Options) → Checking o source (as_str style.ending) r.reached.left st out scratch
        → check_lines o (decode source) (as_str style.ending) (lines_of (decode source)) start 0 ≡ answer_at o (decode source) (as_str style.ending) true st.nesting.line
    end o k =
        let z : map decode r.reached.left ≡ [] = ap (map decode) (r.reached.none h) in
        let e : format_lines o (lines_of (decode source)) start ≡ k.f = k.lines ∙ ap (λ (ls : List (List ℕ)). format_lines o ls k.f) z ∙ line_none o k.f in
        k.checks ∙ ap (λ (ls : List (List ℕ)). check_lines o (decode source) (as_str style.ending) ls k.f st.nesting.line) z
        ∙ check_end o (decode source) (as_str style.ending) k.f st.nesting.line
        ∙ ap {B = Checked} (λ (f : Formatter). record { yes = same (finish o (decode source) (as_str style.ending) f).text (decode source); read = st.nesting.line }) (sym e)
        ∙ answer_end o (decode source) (as_str style.ending) st.nesting.line

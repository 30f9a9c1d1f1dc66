-- A line that is one bracket: what the rules make of it, and its step.
use Rattle.std.specs.Prelude.{Some, None}
use Prim.Native.Nat.{ℕ, ◌+◌, ◌^◌, ◌≤◌, ◌<◌}
use native.Mathlib.Omega.{arith}
use native.Mathlib.Nat.{add-zero}
use mathlib.Core.Bool.{Bool, true, false, ◌&&◌, ◌||◌, false≢true}
use mathlib.Core.List.{List, [], ◌∷◌, ◌++◌}
use mathlib.Core.Option.{Option, none}
use mathlib.Core.Path.{◌≡◌, refl, sym, ap, ◌∙◌, subst}
use borrow.Author.Tests.{eqb-true}
use lib.Dec.{eqb}
use lib.ListN.{length, drop, get_or}
use Rattle.utf8.specs.Unicode.{decode, trim_end, WellFormed}
use Rattle.buffer.specs.Repeat.{times}
use Rattle.rules.specs.Basics.{Pieces, choose, is_opener, is_closer, is_empty}
use Rattle.rules.specs.Scan.{classify, carry_after}
use Rattle.rules.specs.Spacing.{respaced}
use Rattle.rules.specs.Brackets.{Entry, leading_closers, scan_brackets, count_brackets, levels}
use Rattle.rules.specs.Words.{same_declaration, is_marker}
use Rattle.rules.specs.Else.{is_plain_else, joinable, can_join}
use Rattle.rules.specs.Options.{Options, indent_of, PrintWidth}
use Rattle.rules.specs.Refusals.{max_source}
use Rattle.rules.specs.SplitImport.{Laid, split_import}
use Rattle.rules.specs.SplitOperation.{split_once, next_break, break_on, break_first, lay_pieces, split_operation}
use Rattle.rules.specs.Line.{Formatter, lines_before, continues, level_of, one_line, or_operation, broken, split_wide, laid, placed_line, spaced_line}
use Rattle.rules.specs.declared.Carry.{Carry}
use Rattle.rules.specs.declared.Ignore.{Ignore}
use Rattle.rules.proofs.Choose.{choose_case, choose_true, choose_false}
use Rattle.rules.proofs.Computing.{computing}
use Rattle.basics.proofs.OnlyLaws.{only_same}
use Rattle.brackets.specs.Stack.{stacked, Popped, StackFits, BracketsDone, opened_by}
use Rattle.brackets.specs.declared.Nesting.{Nesting}
use Rattle.brackets.proofs.StackLaws.{stacked_drop, levels_most}
use Rattle.format.specs.Words.{declaration_of}
use Rattle.std.specs.Prelude.{None}
use Rattle.text.specs.Text.{Text, Line, Adds}
use Rattle.text.specs.declared.Written.{Written}
use Rattle.text.proofs.StepLaws.{grown_ordered}
use Rattle.text.proofs.PadLaws.{indent_blanks, blanks_size}
use Rattle.line.specs.declared.style.Style.{Style}
use Rattle.line.specs.Holds.{Record, prev_of, Holds, Ready, Stepped, Uses, ValidIndent}
use Rattle.line.specs.Lone.{is_lone, lone_by}
use Rattle.line.specs.Scratch.{stack_at}
use Rattle.line.proofs.HoldsLaws.{trimmed_told, indent_small}

-- ---- the six brackets

or_case : {A : Type 0} (a b : Bool) → (a || b) ≡ true → (a ≡ true → A) → (b ≡ true → A) → A
or_case true b e f g = f refl
or_case false b e f g = g e

six : (P : ℕ → Type 0) → P 123 → P 40 → P 91 → P 125 → P 41 → P 93 → (c : ℕ) → (is_opener c || is_closer c) ≡ true → P c
six P p1 p2 p3 p4 p5 p6 c e =
    or_case (is_opener c) (is_closer c) e
    (λ o. or_case (eqb c 123 || eqb c 40) (eqb c 91) o (λ x. or_case (eqb c 123) (eqb c 40) x (λ q. by 123 q p1) (λ q. by 40 q p2)) (λ q. by 91 q p3))
    (λ o. or_case (eqb c 125 || eqb c 41) (eqb c 93) o (λ x. or_case (eqb c 125) (eqb c 41) x (λ q. by 125 q p4) (λ q. by 41 q p5)) (λ q. by 93 q p6))
  where
    by : (k : ℕ) → eqb c k ≡ true → P k → P c
    by k q p = subst P (sym (eqb-true c k q)) p

-- what the rules tell of such a line
pub record Facts (c : ℕ) : Type 0 where
  pub plain : is_plain_else (c ∷ []) ≡ false
  pub marker : is_marker (classify Carry.Code (c ∷ [])) ≡ false
  pub same : respaced (c ∷ []) ≡ c ∷ []
  pub declares : (p : List ℕ) → same_declaration (c ∷ []) p ≡ false
  pub alone : (p : List ℕ) → continues p (c ∷ []) ≡ false
  pub closers : leading_closers (c ∷ []) ≡ choose (is_closer c) 1 0
  pub import : (o : Options) (max level : ℕ) → split_import o max level (classify Carry.Code (c ∷ [])) ≡ none
  pub whole : (table : List ℕ) → split_once table (classify Carry.Code (c ∷ [])) ≡ none
  pub stack : (n : ℕ) (s : List Entry) → scan_brackets n (drop (choose (is_closer c) 1 0) (classify Carry.Code (c ∷ []))) s ≡ choose (is_closer c) s (opened_by n s)
  pub carry : carry_after Carry.Code (c ∷ []) ≡ Carry.Code
  pub prev : prev_of (c ∷ []) ≡ record { declares = None; brace = eqb c 125 }
  pub joins : joinable (c ∷ []) ≡ eqb c 125
  pub trims : trim_end (c ∷ []) ≡ c ∷ []
  pub chars : decode (c ∷ []) ≡ c ∷ []
  pub well : WellFormed (c ∷ [])

pub facts : (c : ℕ) → (is_opener c || is_closer c) ≡ true → Facts c
unfolding computing declaration_of
facts =
    six Facts
    (record { plain = refl; marker = refl; same = refl; declares = λ p. refl; alone = λ p. refl; closers = refl; import = λ o max level. refl; whole = λ table. refl; stack = λ n s. refl; carry = refl; prev = refl; joins = refl; trims = refl; chars = refl; well = refl })
    (record { plain = refl; marker = refl; same = refl; declares = λ p. refl; alone = λ p. refl; closers = refl; import = λ o max level. refl; whole = λ table. refl; stack = λ n s. refl; carry = refl; prev = refl; joins = refl; trims = refl; chars = refl; well = refl })
    (record { plain = refl; marker = refl; same = refl; declares = λ p. refl; alone = λ p. refl; closers = refl; import = λ o max level. refl; whole = λ table. refl; stack = λ n s. refl; carry = refl; prev = refl; joins = refl; trims = refl; chars = refl; well = refl })
    (record { plain = refl; marker = refl; same = refl; declares = λ p. refl; alone = λ p. refl; closers = refl; import = λ o max level. refl; whole = λ table. refl; stack = λ n s. refl; carry = refl; prev = refl; joins = refl; trims = refl; chars = refl; well = refl })
    (record { plain = refl; marker = refl; same = refl; declares = λ p. refl; alone = λ p. refl; closers = refl; import = λ o max level. refl; whole = λ table. refl; stack = λ n s. refl; carry = refl; prev = refl; joins = refl; trims = refl; chars = refl; well = refl })
    (record { plain = refl; marker = refl; same = refl; declares = λ p. refl; alone = λ p. refl; closers = refl; import = λ o max level. refl; whole = λ table. refl; stack = λ n s. refl; carry = refl; prev = refl; joins = refl; trims = refl; chars = refl; well = refl })

-- the line's only byte
pub record Lone (line : List ℕ) : Type 0 where
  pub is : line ≡ get_or line 0 0 ∷ []
  pub facts : Facts (get_or line 0 0)

pub lone_of : (line : List ℕ) → is_lone line ≡ true → Lone line
lone_of [] e = absurd (false≢true e)
lone_of (c ∷ []) e = record { is = refl; facts = facts c e }
lone_of (c ∷ d ∷ l) e = absurd (false≢true e)

-- a closer has popped already
pub closed_done : (buf : List ℕ) (base : ℕ) (b : Nesting) (r t : Bool) (s : List Entry) → StackFits buf 0 1 base b → r ≡ t → r ≡ true
    → BracketsDone buf buf base b 1 (choose t (stacked buf base b.depth) s) b
closed_done buf base b r t s f e q =
    record {
      is = sym (choose_true t _ s (sym e ∙ q));
      runs = f.runs;
      most = omega arith;
      line = refl;
      only = only_same buf _ _;
    }

pub opened_done : (buf after : List ℕ) (base : ℕ) (b d : Nesting) (r t : Bool) (s x : List Entry) → r ≡ t → r ≡ false → BracketsDone buf after base b 1 x d
    → BracketsDone buf after base b 1 (choose t s x) d
opened_done buf after base b d r t s x e q w = subst (λ (y : List Entry). BracketsDone buf after base b 1 y d) (sym (choose_false t s x (sym e ∙ q))) w

-- ---- it is never broken

module _ (c : ℕ) (k : Facts c) (o : Options) where
  operation_whole : (table : List ℕ) (max level : ℕ) → split_operation table o max level (c ∷ []) ≡ (indent_of o level ++ (c ∷ [])) ∷ []
  unfolding split_operation break_first lay_pieces break_on
  operation_whole table max level =
      let e : next_break table o max level (c ∷ []) ≡ none = unfold next_break in (choose_case (λ (x : Option Pieces). x ≡ none) (λ q. k.whole table) (λ q. refl)) in
      rw e

  broken_whole : (max level : ℕ) → broken o max level (c ∷ []) ≡ one_line (indent_of o level ++ (c ∷ []))
  unfolding broken or_operation
  broken_whole max level = rw (k.import o max level, operation_whole _ max level)

  wide_whole : (w : PrintWidth) (level : ℕ) → split_wide w o level (c ∷ []) ≡ one_line (indent_of o level ++ (c ∷ []))
  unfolding split_wide
  wide_whole None level = refl
  wide_whole (Some max) level =
      choose_case (λ (x : Laid). x ≡ one_line (indent_of o level ++ (c ∷ []))) (λ q. broken_whole max level) (λ q. refl)

  module _ (f : Formatter) where
    abbrev left : List Entry
    left = drop (choose (is_closer c) 1 0) f.stack

    level_lone : level_of f (c ∷ []) ≡ levels left
    unfolding level_of choose
    level_lone = rw (k.alone f.prev, k.closers) (add-zero (levels left))

    laid_lone : laid o f false (c ∷ []) ≡ one_line (indent_of o (levels left) ++ (c ∷ []))
    unfolding laid
    laid_lone =
        rw level_lone
        (choose_case (λ (x : Laid). x ≡ one_line (indent_of o (levels left) ++ (c ∷ []))) (λ q. wide_whole o.print_width (levels left)) (λ q. refl))

    lines_lone : lines_before f (c ∷ []) ≡ f.lines
    unfolding lines_before
    lines_lone = choose_false _ _ _ (ap (λ (b : Bool). is_empty f.stack && b) (k.declares f.prev) ∙ none_both (is_empty f.stack))
      where
        none_both : (b : Bool) → (b && false) ≡ false
        none_both true = refl
        none_both false = refl

    spaced_lone : spaced_line o f false (c ∷ []) ≡ placed_line o f false (c ∷ [])
    unfolding spaced_line
    spaced_lone = choose_false _ _ _ (ap (λ (b : Bool). b && can_join f.lines) k.plain)

    -- what it leaves
    pub record Left (r : Formatter) : Type 0 where
      pub lines : r.lines ≡ (indent_of o (levels left) ++ (c ∷ [])) ∷ f.lines
      pub stack : r.stack ≡ choose (is_closer c) left (opened_by f.number left)
      pub number : r.number ≡ f.number
      pub blank : r.prev_blank ≡ false
      pub prev : r.prev ≡ c ∷ []
      pub ignore : r.ignore ≡ Ignore.Nothing
      pub carry : r.carry ≡ Carry.Code
      pub imports : r.imports_split ≡ f.imports_split
      pub blanks : r.blank_names ≡ f.blank_names

    pub leaves_lone : Left (spaced_line o f false (c ∷ []))
    unfolding placed_line count_brackets choose
    leaves_lone =
        rw (spaced_lone, laid_lone, lines_lone, k.closers)
        (record {
          lines = refl;
          stack = k.stack f.number left;
          number = refl;
          blank = refl;
          prev = refl;
          ignore = refl;
          carry = k.carry;
          imports = omega arith;
          blanks = omega arith;
        })

-- ---- its step

module _ (line : List ℕ) (lone : is_lone line ≡ true) where
  abbrev c : ℕ
  c = get_or line 0 0

  abbrev x : Lone line
  x = lone_of line lone

  pub lone_short : 1 ≡ length line
  lone_short = sym (ap length x.is)

  line_well : WellFormed line
  line_well = subst WellFormed (sym x.is) x.facts.well

  line_chars : decode line ≡ c ∷ []
  line_chars = ap decode x.is ∙ x.facts.chars

  pub lone_told : (brace : Bool) → brace ≡ eqb c 125 → Line line 1 brace
  lone_told brace e =
      subst (λ (n : ℕ). Line line n brace) (sym lone_short)
      (trimmed_told line brace line_well (ap trim_end line_chars ∙ x.facts.trims ∙ sym line_chars) (e ∙ sym x.facts.joins ∙ ap joinable (sym line_chars)))

module _
    (line indent scratch : List ℕ) (unit : ℕ) (st : Record) (ready : Ready st scratch unit (length line)) (lone : is_lone line ≡ true)
    (valid : ValidIndent indent) (n : ℕ) (left : Nesting) (p : Popped scratch (stack_at unit) st.nesting n left)
  where
    left_small : left.levels ≤ max_source
    left_small = omega (arith, p.nested.runs, levels_most scratch (stack_at unit) left.depth, p.depth, ready.depth, ready.limit)

    pub lone_room : st.text.at.0 + 2 + (length (times left.levels indent) + length line) < 2 ^ 64
    lone_room = omega (arith, ready.small.at, indent_small indent left.levels valid left_small, lone_short line lone)

    pub lone_fits : StackFits scratch 0 1 (stack_at unit) left
    lone_fits =
        record {
          classes = omega (arith, ready.depth, lone_short line lone);
          stack = omega (arith, ready.depth, ready.room, p.depth, lone_short line lone);
          runs = p.nested.runs;
          line = p.nested.line;
        }

    module _
        (model eol out : List ℕ) (style : Style) (deep : Nesting) (u : Written) (out' scratch' : List ℕ) (brace : Bool) (en : n ≡ choose (is_closer (get_or line 0 0)) 1 0) (eb : brace ≡ eqb (get_or line 0 0) 125)
        (w : Adds eol false (times left.levels indent ++ decode line) model out st.text out' u)
        (v : BracketsDone scratch scratch' (stack_at unit) left 1 (choose (is_closer (get_or line 0 0)) (stacked scratch (stack_at unit) left.depth) (opened_by left.line (stacked scratch (stack_at unit) left.depth))) deep)
      where
        abbrev after : Record
        after =
            record {
              text = u;
              nesting = deep;
              blank = false;
              prev = record { declares = None; brace = brace };
              ignore = Ignore.Nothing;
              carry = Carry.Code;
              imports = st.imports;
              blanks = st.blanks;
            }

        module _ (o : Options) (used : Uses o indent style) (f : Formatter) (h : Holds model eol unit f st out scratch) where
          k : Left (get_or line 0 0) (lone_of line lone).facts o f (spaced_line o f false (get_or line 0 0 ∷ []))
          k = leaves_lone (get_or line 0 0) (lone_of line lone).facts o f

          left_stack : stacked scratch (stack_at unit) left.depth ≡ drop (choose (is_closer (get_or line 0 0)) 1 0) f.stack
          left_stack = rw p.depth (sym (stacked_drop scratch (stack_at unit) st.nesting.depth n) ∙ rw (en, h.stack))

          left_levels : left.levels ≡ levels (drop (choose (is_closer (get_or line 0 0)) 1 0) f.stack)
          left_levels = p.nested.runs ∙ ap levels left_stack

          stack_now : stacked scratch' (stack_at unit) deep.depth ≡ (spaced_line o f false (get_or line 0 0 ∷ [])).stack
          stack_now = v.is ∙ rw (left_stack, p.line, h.number) (sym k.stack)

          lines_now : (times left.levels indent ++ decode line) ∷ f.lines ≡ (spaced_line o f false (get_or line 0 0 ∷ [])).lines
          unfolding indent_of
          lines_now = rw (left_levels, ← used.indents, line_chars line lone) (sym k.lines)

          holds_now : Holds model eol unit (spaced_line o f false (get_or line 0 0 ∷ [])) after out' scratch'
          unfolding choose
          holds_now =
              record {
                text = subst (λ (ls : List (List ℕ)). Text model eol ls u out') lines_now (w.text f.lines h.text);
                stack = stack_now;
                running = v.runs ∙ ap levels stack_now;
                number = v.line ∙ p.line ∙ h.number ∙ sym k.number;
                blank = sym k.blank;
                prev = rw eb (sym (lone_of line lone).facts.prev) ∙ ap prev_of (sym k.prev);
                ignore = sym k.ignore;
                carry = sym k.carry;
                imports = h.imports ∙ sym k.imports;
                blanks = h.blanks ∙ sym k.blanks;
              }

        pub lone_step : (o : Options) → Uses o indent style → Stepped (lone_by o (decode line)) (length line) unit model eol st out scratch after out' scratch'
        lone_step o used =
            record {
              holds = λ f h. subst (λ (l : List ℕ). Holds model eol unit (spaced_line o f false l) after out' scratch') (sym (line_chars line lone)) (holds_now o used f h);
              ordered = grown_ordered w.grown;
              at = omega (arith, w.grown.at, blanks_size (times left.levels indent) (decode line) (indent_blanks left.levels indent valid.blank), ap length (line_well line lone), indent_small indent left.levels valid left_small);
              runs = λ q. record { is = v.runs };
              depth = omega (arith, v.most, p.depth, lone_short line lone);
              line = v.line ∙ p.line;
              carry = omega arith;
              imports = omega arith;
              blanks = omega arith;
            }

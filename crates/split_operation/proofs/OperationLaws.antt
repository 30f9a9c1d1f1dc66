-- Laws of split_operation: its pieces found and written in bytes, round by round.
use Prim.Native.Nat.{ℕ, zero, suc, ◌+◌, ◌-◌, ◌*◌, ◌^◌, ◌≤◌, ◌<◌, zero-le}
use mathlib.Core.Bool.{Bool, true, false, not}
use mathlib.Core.List.{List, [], ◌∷◌, ◌++◌, map, map-append, append-nil, append_assoc}
use mathlib.Core.Logic.{◌⊎◌, inl, inr}
use mathlib.Core.Option.{Option, none, some}
use Rattle.std.specs.Prelude.{Some, None}
use Rattle.std.specs.Prelude as code
use mathlib.Core.Path.{◌≡◌, refl, sym, ap, ◌∙◌, subst}
use native.Mathlib.Numerals.{add-one}
use native.Mathlib.Omega.{arith}
use lib.Dec.{eqb, ltb}
use lib.ListN.{length, get_or, length-append}
use lib.Seq.{drop-cons}
use borrow.Author.Tests.{eq-eqb, ne_eqb, eqb-false, lt-ltb, le-ltb}
use Rattle.buffer.specs.Buffer.{part}
use Rattle.compare.specs.Common.{Compared}
use Rattle.buffer.specs.Repeat.{times}
use Rattle.compare.proofs.WriterLaws.{compared_nil, compared_append}
use Rattle.utf8.specs.Unicode.{encode, decode, Scalars, WellFormed, trim}
use Rattle.utf8.proofs.Tests.{split}
use Rattle.utf8.proofs.Decode.{decode_encode, decode_scalars, wf_encode}
use Rattle.rules.specs.declared.Carry.{Carry}
use Rattle.rules.specs.Basics.{choose, is_empty, Pieces}
use Rattle.rules.specs.Scan.{Cell, classify, all_code_or_str}
use Rattle.rules.specs.ClassBytes.{cells_of}
use Rattle.rules.specs.Options.{Options, indent_of, measure, over_wide}
use Rattle.rules.specs.Operators.{max_strength}
use Rattle.rules.specs.Strengths.{strengths_in}
use Rattle.rules.specs.SplitOperation.{OpMark, no_ops, top_level_ops, has_word, is_balanced, keywords, looser, loosest, at_mark, cut_before, trimmed, break_at, split_once, next_break, break_on, break_first, lay_pieces, split_operation}
use Rattle.rules.proofs.Choose.{choose_true, choose_false, choose_case}
use Rattle.rules.proofs.ScanBytes.{encode_cells, classify_encode, chars_classify, all_encode}
use Rattle.rules.proofs.CellsLaws.{cells_bytes, chars_cells}
use Rattle.rules.proofs.StrengthRounds.{fifteen_rounds}
use Rattle.rules.proofs.WordsBytes.{encode_pieces, balanced_encode, keywords_encode}
use Rattle.rules.proofs.Prefix.{marked_chars, marks_chars}
use Rattle.rules.specs.OperatorBytes.{byte_marks}
use Rattle.rules.proofs.OperatorsBytes.{encode_marks, marks_encode, loosest_encode, cut_encode}
use Rattle.operators.specs.First.{any_starts}
use Rattle.top_level_ops.proofs.NoOperator.{loosest_none}
use Rattle.split_operation.specs.declared.pass.Cut.{Cut}
use Rattle.split_operation.specs.declared.pass.Break.{Break}
use Rattle.split.specs.declared.Part.{Part}
use Rattle.split.specs.declared.NewLine.{NewLine}
use Rattle.split_operation.specs.declared.OperationSplit.{OperationSplit}
use Rattle.split.specs.Measure.{InUse, Indent, Wide, Within, Trimmed}
use Rattle.split.specs.Text.{indented, lay, AllWell, following, last_of, LineWritten, Fits, line_room}
use Rattle.split_operation.specs.Pass.{line_start, Sound, Breakable, break_strength, rest_from, cuts_at, NextOp, BreakFound}
use Rattle.split_operation.specs.Operation.{line_of, Broken, trim_bytes, rest_lines, RestFits, After, RestWritten, Classed, OperationFits, LineFits, round_strength, RoundAt, RoundBreak, first_line, other_lines, PiecesWritten, broken_in, FirstBroken}
use Rattle.split.proofs.MeasureLaws.{part_length}
use Rattle.rules.proofs.Scalars.{AllScalars}
use Rattle.split.proofs.TextLaws.{all_well, following_append, last_append, written_lines, lay_encode, indent_short, level_fits, deeper_fits}
use Rattle.split_operation.proofs.ClassLaws.{class_length, piece_classed}

-- ---- a line broken once: on bytes as on characters

module _ (table line class : List ℕ) (w : WellFormed line) (k : Classed line class) where
  abbrev cells : List Cell
  cells = classify Carry.Code (decode line)

  abbrev marks : List OpMark
  marks = top_level_ops table cells

  cells_line : cells_of line class ≡ encode_cells cells
  cells_line = ap (cells_of line) k.classes ∙ cells_bytes Carry.Code line w

  marks_line : byte_marks table no_ops (cells_of line class) ≡ encode_marks marks
  marks_line = ap (byte_marks table no_ops) cells_line ∙ marks_encode table cells

  strength_line : break_strength table (cells_of line class) ≡ choose (has_word keywords cells) 0 (choose (not (is_balanced cells)) 0 (loosest marks))
  unfolding break_strength
  strength_line = rw (marks_line, cells_line, keywords_encode, balanced_encode, loosest_encode)

  pub split_once_law : split_once table cells ≡ break_at (break_strength table (cells_of line class)) marks
  unfolding split_once break_at choose
  split_once_law = sym (ap (λ (n : ℕ). break_at n marks) strength_line ∙ go (has_word keywords cells) (is_balanced cells))
    where
      go : (a b : Bool) → break_at (choose a 0 (choose (not b) 0 (loosest marks))) marks ≡ choose a none (choose (not b) none (break_at (loosest marks) marks))
      go true b = refl
      go false true = refl
      go false false = refl

  -- a strength other than 0 is that of the loosest operator
  pub strength_loosest : (p : ℕ) → (p ≡ 0 → ⊥) → p ≡ break_strength table (cells_of line class) → loosest marks ≡ p
  unfolding choose
  strength_loosest p z e = go (has_word keywords cells) (not (is_balanced cells)) (e ∙ strength_line)
    where
      go : (x y : Bool) → p ≡ choose x 0 (choose y 0 (loosest marks)) → loosest marks ≡ p
      go true y q = absurd (z q)
      go false true q = absurd (z q)
      go false false q = sym q

  -- the pieces of a strength
  pub cuts_line : (p : ℕ) → 0 < p → cut_before p (byte_marks table no_ops (cells_of line class)) ≡ encode_pieces (cut_before p marks)
  cuts_line p h = ap (cut_before p) marks_line ∙ cut_encode p h marks

-- ---- there are pieces after the first

looser_other : (a b p : ℕ) → (a ≡ p → ⊥) → looser a b ≡ p → b ≡ p
unfolding looser
looser_other zero b p n e = e
looser_other (suc a) zero p n e = absurd (n e)
looser_other (suc a) (suc b) p n e = go (split a b)
  where
    go : (a < b) ⊎ (b ≤ a) → suc b ≡ p
    go (inl h) = absurd (n (omega arith))
    go (inr h) = omega arith

cut_some : (p : ℕ) → (p ≡ 0 → ⊥) → (ms : List OpMark) → loosest ms ≡ p → is_empty (cut_before p ms).rest ≡ false
unfolding loosest cut_before at_mark
cut_some p z [] e = absurd (z (sym e))
cut_some p z (m ∷ ms) e = go (eqb m.strength p) refl (cut_some p z ms)
  where
    go : (t : Bool) → eqb m.strength p ≡ t → (loosest ms ≡ p → is_empty (cut_before p ms).rest ≡ false)
        → is_empty (at_mark t m.ch (cut_before p ms)).rest ≡ false
    go true q i = refl
    go false q i = i (looser_other m.strength (loosest ms) p (eqb-false m.strength p q) e)

some_map : (f : List ℕ → List ℕ) (ls : List (List ℕ)) → is_empty ls ≡ false → is_empty (map f ls) ≡ false
some_map f [] e = e
some_map f (l ∷ ls) e = refl

some_append : (a b : List (List ℕ)) → is_empty b ≡ false → not (is_empty (a ++ b)) ≡ true
some_append [] b e = rw e
some_append (l ∷ a) b e = refl

-- ---- every piece is well-formed

record PieceScalars (p : Pieces) : Type 0 where
  first : Scalars p.first
  rest : AllScalars p.rest

cut_scalars : (p : ℕ) (ms : List OpMark) → Scalars (marked_chars ms) → PieceScalars (cut_before p ms)
unfolding marked_chars cut_before at_mark
cut_scalars p [] s = record { first = tt; rest = tt }
cut_scalars p (m ∷ ms) s = go (eqb m.strength p) (cut_scalars p ms s.1)
  where
    go : (t : Bool) → PieceScalars (cut_before p ms) → PieceScalars (at_mark t m.ch (cut_before p ms))
    go true q = record { first = tt; rest = ((s.0, q.first), q.rest) }
    go false q = record { first = (s.0, q.first); rest = q.rest }

pieces_scalars : (table line : List ℕ) (p : ℕ) → PieceScalars (cut_before p (top_level_ops table (classify Carry.Code (decode line))))
unfolding top_level_ops
pieces_scalars table line p =
    cut_scalars p _ (subst Scalars (sym (marks_chars table no_ops (classify Carry.Code (decode line)) ∙ chars_classify Carry.Code (decode line))) (decode_scalars line))

lines_trimmed : (indent : List ℕ) (level : ℕ) (ls : List (List ℕ)) → AllScalars ls
    → rest_lines indent level (map encode ls) ≡ map (λ (l : List ℕ). lay indent level (encode l)) (map trim ls)
lines_trimmed indent level [] s = refl
lines_trimmed indent level (l ∷ ls) s = rw (decode_encode l s.0, lines_trimmed indent level ls s.1)

-- ---- the first cut of a line

abbrev pieces_at : List ℕ → List ℕ → ℕ → Pieces
pieces_at table line p = cut_before p (top_level_ops table (classify Carry.Code (decode line)))

pub record FirstCut (table line class : List ℕ) (p : ℕ) (c : Cut) : Type 0 where
  pub first : part line 0 c.place ≡ encode (pieces_at table line p).first
  pub rest : rest_from table p line class c ≡ map encode (pieces_at table line p).rest
  pub well : WellFormed (part line 0 c.place)
  pub others : AllWell (rest_from table p line class c)

pub first_cut : (table line class : List ℕ) (p : ℕ) (c : Cut) → WellFormed line → Classed line class → (p ≡ 0 → ⊥) → NextOp table p line class 0 line_start c → FirstCut table line class p c
first_cut table line class p c w k n q =
    let e : cuts_at table p line_start line class 0 ≡ encode_pieces (pieces_at table line p) = cuts_line table line class w k p (omega arith) in
    let f : part line 0 c.place ≡ encode (pieces_at table line p).first = sym q.first ∙ ap (λ (x : Pieces). x.first) e in
    let r : rest_from table p line class c ≡ map encode (pieces_at table line p).rest = sym q.rest ∙ ap (λ (x : Pieces). x.rest) e in
    let z = pieces_scalars table line p in
    record { first = f; rest = r; well = rw f (wf_encode _ z.first); others = rw r (all_well (pieces_at table line p).rest z.rest) }

-- ---- rounds

module _ (table : List ℕ) (o : Options) (max level : ℕ) where
  abbrev alone : List ℕ → Pieces
  alone l = record { first = l; rest = [] }

  abbrev with_rest : Pieces → List (List ℕ) → Pieces
  with_rest p r = record { first = p.first; rest = p.rest ++ r }

  rest_stays : (n : ℕ) (l : List ℕ) (r : List (List ℕ))
      → break_first table o max level n (record { first = l; rest = r }) ≡ with_rest (break_first table o max level n (alone l)) r
  unfolding break_first break_on
  rest_stays zero l r = refl
  rest_stays (suc n) l r = go (next_break table o max level l) (rest_stays n)
    where
      go : (b : Option Pieces) → ((l : List ℕ) (r : List (List ℕ)) → break_first table o max level n (record { first = l; rest = r }) ≡ with_rest (break_first table o max level n (alone l)) r)
          → break_on b (record { first = l; rest = r }) (break_first table o max level n) ≡ with_rest (break_on b (alone l) (break_first table o max level n)) r
      go none i = refl
      go (some q) i =
          i q.first (q.rest ++ r)
          ∙ ap (λ (x : List (List ℕ)). record { first = (break_first table o max level n (alone q.first)).first; rest = x })
          (sym (append_assoc (break_first table o max level n (alone q.first)).rest q.rest r))
          ∙ sym (ap (λ (p : Pieces). with_rest p r) (ap (λ (x : List (List ℕ)). break_first table o max level n (record { first = q.first; rest = x })) (append-nil q.rest) ∙ i q.first q.rest))

  pub round_over : (n : ℕ) (l : List ℕ) → next_break table o max level l ≡ none → break_first table o max level (suc n) (alone l) ≡ alone l
  unfolding break_first break_on
  round_over n l e = rw e

  pub round_broken : (n : ℕ) (l : List ℕ) (q : Pieces) → next_break table o max level l ≡ some q
      → break_first table o max level (suc n) (alone l) ≡ with_rest (break_first table o max level n (alone q.first)) q.rest
  unfolding break_first break_on
  round_broken n l q e =
      rw e (ap (λ (x : List (List ℕ)). break_first table o max level n (record { first = q.first; rest = x })) (append-nil q.rest) ∙ rest_stays n q.first q.rest)

-- ---- the strength of a round

module _ (table : List ℕ) (ruler : ℕ) (indent : List ℕ) (level max rounds : ℕ) (line class : List ℕ) where
  abbrev opts : Options
  opts = indented indent ruler

  abbrev strength_of : ℕ
  strength_of = round_strength table ruler indent level max rounds line (cells_of line class)

  pub round_none : rounds ≡ 0 → 0 ≡ strength_of
  unfolding round_strength
  round_none e = sym (choose_true _ _ _ (eq-eqb rounds 0 e))

  module _ (some : rounds ≡ 0 → ⊥) (t : Bool) (q : Wide ruler indent level line max t) where
    pub round_fits : t ≡ false → 0 ≡ strength_of
    unfolding round_strength
    round_fits h = sym (choose_false _ _ _ (ne_eqb rounds 0 some) ∙ choose_false _ _ _ (sym q.is ∙ h))

    -- what the pass found is the round's
    pub round_wide : t ≡ true → (r : code.Option Break) → BreakFound table line class r → RoundBreak table ruler indent level max rounds line class r
    unfolding round_strength
    round_wide h r e = go r e
      where
        is : strength_of ≡ break_strength table (cells_of line class)
        is = choose_false _ _ _ (ne_eqb rounds 0 some) ∙ choose_true _ _ _ (sym q.is ∙ h)

        go : (r : code.Option Break) → BreakFound table line class r → RoundBreak table ruler indent level max rounds line class r
        go None e = e ∙ sym is
        go (Some b) e = record { strength = e.strength ∙ sym is; some = e.some; cut = e.cut }

  break_none : any_starts line ≡ false → length line ≤ length class → break_strength table (cells_of line class) ≡ 0
  unfolding break_strength
  break_none e h =
      choose_case (λ (n : ℕ). n ≡ 0) (λ _. refl) (λ _. choose_case (λ (n : ℕ). n ≡ 0) (λ _. refl)
      (λ _. loosest_none table (cells_of line class) no_ops (ap any_starts (chars_cells line class h) ∙ e)))

  pub round_plain : (b : Bool) → length line ≤ length class → b ≡ any_starts line → b ≡ false → 0 ≡ strength_of
  unfolding round_strength
  round_plain b h q e = choose_case (λ (n : ℕ). 0 ≡ n) (λ _. refl) (λ _. choose_case (λ (n : ℕ). 0 ≡ n) (λ _. sym (break_none (sym q ∙ e) h)) (λ _. refl))

  -- what the strength says of the round
  module _ (w : WellFormed line) (k : Classed line class) where
    breaks : (rounds ≡ 0 → ⊥) → next_break table opts max level (decode line) ≡ break_at strength_of (top_level_ops table (classify Carry.Code (decode line)))
    unfolding next_break round_strength break_at choose over_wide indent_of
    breaks n = rw (ne_eqb rounds 0 n, split_once_law table line class w k) (go (ltb max (measure ruler 0 (times level indent ++ decode line))))
      where
        go : (t : Bool) → choose t (break_at (break_strength table (cells_of line class)) (top_level_ops table (classify Carry.Code (decode line)))) none
            ≡ break_at (choose t (break_strength table (cells_of line class)) 0) (top_level_ops table (classify Carry.Code (decode line)))
        go true = refl
        go false = refl

    pub round_whole : 0 ≡ strength_of → broken_in table ruler indent level max rounds line ≡ record { first = decode line; rest = [] }
    unfolding break_first break_at
    round_whole e = go rounds refl
      where
        go : (n : ℕ) → rounds ≡ n → break_first table opts max level n (record { first = decode line; rest = [] }) ≡ record { first = decode line; rest = [] }
        go zero f = refl
        go (suc n) f = round_over table opts max level n (decode line) (breaks (λ (z : rounds ≡ 0). let y : suc n ≡ 0 = sym f ∙ z in omega arith) ∙ rw (← e))

    -- the pieces of a round: the first broken in the rounds that are left, then the others
    pub round_pieces : (p : ℕ) → p ≡ strength_of → (p ≡ 0 → ⊥)
        → broken_in table ruler indent level max rounds line
        ≡ record {
          first = (break_first table opts max level (rounds - 1) (record { first = trim (pieces_at table line p).first; rest = [] })).first;
          rest = (break_first table opts max level (rounds - 1) (record { first = trim (pieces_at table line p).first; rest = [] })).rest ++ map trim (pieces_at table line p).rest;
        }
    unfolding break_at trimmed round_strength
    round_pieces zero e z = absurd (z refl)
    round_pieces (suc p) e z = go rounds refl
      where
        some_left : (n : ℕ) → rounds ≡ n → (n ≡ 0 → ⊥)
        some_left n f y = z (e ∙ choose_true _ _ _ (eq-eqb rounds 0 (f ∙ y)))

        go : (n : ℕ) → rounds ≡ n → break_first table opts max level n (record { first = decode line; rest = [] })
            ≡ record {
              first = (break_first table opts max level (n - 1) (record { first = trim (pieces_at table line (suc p)).first; rest = [] })).first;
              rest = (break_first table opts max level (n - 1) (record { first = trim (pieces_at table line (suc p)).first; rest = [] })).rest ++ map trim (pieces_at table line (suc p)).rest;
            }
        go zero f = absurd (some_left zero f refl)
        go (suc n) f =
            let m : suc n - 1 ≡ n = omega arith in
            rw m (round_broken table opts max level n (decode line) (trimmed (pieces_at table line (suc p))) (breaks (λ (y : rounds ≡ 0). some_left rounds refl y) ∙ rw (← e)))

  module _ (b : Break) (e : RoundAt table ruler indent level max rounds line class b) where
    pub round_loosest : b.strength ≡ break_strength table (cells_of line class)
    unfolding round_strength choose
    round_loosest = go (eqb rounds 0) (ltb max (measure ruler 0 (times level indent ++ decode line))) e.strength
      where
        go : (x y : Bool) → b.strength ≡ choose x 0 (choose y (break_strength table (cells_of line class)) 0) → b.strength ≡ break_strength table (cells_of line class)
        go true y q = absurd (e.some q)
        go false true q = q
        go false false q = absurd (e.some q)

    pub rounds_left : rounds ≡ 0 → ⊥
    unfolding round_strength
    rounds_left y = e.some (e.strength ∙ choose_true _ _ _ (eq-eqb rounds 0 y))

-- ---- the pieces from a cut on

rest_open : (table : List ℕ) (p : ℕ) (line class : List ℕ) (c : Cut) → c.place < length line
    → rest_from table p line class c ≡ (get_or line c.place 0 ∷ (cuts_at table p c.after line class (c.place + 1)).first) ∷ (cuts_at table p c.after line class (c.place + 1)).rest
unfolding rest_from
rest_open table p line class c h = choose_true _ _ _ (lt-ltb c.place (length line) h)

rest_none : (table : List ℕ) (p : ℕ) (line class : List ℕ) (c : Cut) → length line ≤ c.place → rest_from table p line class c ≡ []
unfolding rest_from
rest_none table p line class c h = choose_false _ _ _ (le-ltb c.place (length line) h)

-- one more line
after_more : {eol : List ℕ} {ls : List (List ℕ)} {l model out₀ out out' : List ℕ} {first r n : NewLine} → After eol ls model out₀ out first r → LineWritten eol l model out out' r.next n
    → After eol (ls ++ (l ∷ [])) model out₀ out' first n
unfolding following last_of
after_more {eol} {ls} {l} a g =
    record {
      text = rw (following_append eol ls (l ∷ []), append-nil) (compared_append a.text g.text);
      last = λ k e. rw (last_append k ls (l ∷ [])) g.start;
    }

part_cons : (l : List ℕ) (a e : ℕ) → a < e → e ≤ length l → get_or l a 0 ∷ part l (a + 1) e ≡ part l a e
part_cons l a e h k =
    let n : e - a ≡ suc (e - (a + 1)) = omega arith in
    let m : a < length l = omega arith in
    sym (rw (n, drop-cons l a 0 m, ← add-one a))

rest_cons : (table : List ℕ) (p : ℕ) (line class : List ℕ) (c d : Cut) → c.place < length line → NextOp table p line class (c.place + 1) c.after d
    → rest_from table p line class c ≡ part line c.place d.place ∷ rest_from table p line class d
rest_cons table p line class c d h q = opened ∙ rw (q.first, q.rest, part_cons line c.place d.place (omega (arith, q.after)) q.fits)
  where
    opened : rest_from table p line class c ≡ (get_or line c.place 0 ∷ (cuts_at table p c.after line class (c.place + 1)).first) ∷ (cuts_at table p c.after line class (c.place + 1)).rest
    opened = rest_open table p line class c h

-- what `write_rest` keeps: the pieces that are written, and those from the cut c on
pub record Writing (table : List ℕ) (strength : ℕ) (line class : List ℕ) (cut : Cut) (indent : List ℕ) (level : ℕ) (eol model out₀ : List ℕ) (first : NewLine) (out : List ℕ) (c : Cut) (r : NewLine) : Type 0 where
  pub fits : RestFits table strength line class cut indent level eol first
  pub done : List (List ℕ)
  pub all : rest_from table strength line class cut ≡ done ++ rest_from table strength line class c
  pub well : AllWell (rest_from table strength line class c)
  pub after : After eol (rest_lines indent level done) model out₀ out first r
  pub order : cut.place ≤ c.place
  pub within : c.place ≤ length line
  pub sound : c.place < length line → Sound c.after (c.place + 1)
  pub room : r.next ≤ first.next + (c.place - cut.place) * line_room
  pub as_long : length out ≡ length out₀

pub writing_start : {table : List ℕ} {strength : ℕ} {line class : List ℕ} {cut : Cut} {indent : List ℕ} {level : ℕ} {eol : List ℕ} {first : NewLine} (model out : List ℕ) → RestFits table strength line class cut indent level eol first
    → Writing table strength line class cut indent level eol model out first out cut first
unfolding following last_of
writing_start {first = first} model out f =
    record {
      fits = f;
      done = [];
      all = refl;
      well = f.well;
      after = record { text = compared_nil model out first.next; last = λ l e. e };
      order = omega arith;
      within = f.within;
      sound = f.sound;
      room = omega arith;
      as_long = refl;
    }

module _ {table : List ℕ} {strength : ℕ} {line class : List ℕ} {cut : Cut} {indent : List ℕ} {level : ℕ} {eol model out₀ : List ℕ} {first : NewLine} {out : List ℕ} {c : Cut} {r : NewLine}
    (w : Writing table strength line class cut indent level eol model out₀ first out c r) where
  pub writing_within : (d : Cut) → c.place < length line → NextOp table strength line class (c.place + 1) c.after d → Within line c.place d.place
  writing_within d h q =
      let e : AllWell (part line c.place d.place ∷ rest_from table strength line class d) = subst AllWell (rest_cons table strength line class c d h q) w.well in
      record { order = omega (arith, q.after); fits = q.fits; well = e.0 }

  pub writing_more : (d : Cut) (p : Part) (n : NewLine) (out' : List ℕ) → c.place < length line → NextOp table strength line class (c.place + 1) c.after d → Trimmed line c.place d.place p
      → LineWritten eol (lay indent level (part line p.start p.end)) model out out' r.next n → length out' ≡ length out
      → Writing table strength line class cut indent level eol model out₀ first out' d n
  writing_more d p n out' h q t g k =
      let piece = part line c.place d.place in
      let cons : rest_from table strength line class c ≡ piece ∷ rest_from table strength line class d = rest_cons table strength line class c d h q in
      let well : AllWell (piece ∷ rest_from table strength line class d) = subst AllWell cons w.well in
      let bytes : part line p.start p.end ≡ trim_bytes piece = sym t.well ∙ ap encode t.text in
      let lines : rest_lines indent level (w.done ++ (piece ∷ [])) ≡ rest_lines indent level w.done ++ (lay indent level (part line p.start p.end) ∷ []) = map-append _ w.done (piece ∷ []) ∙ rw bytes in
      let room : n.next ≤ r.next + (67108930 + length (part line p.start p.end)) =
      omega (arith, g.text.next, length-append eol (lay indent level (part line p.start p.end)), length-append (times level indent) (part line p.start p.end), indent_short indent level w.fits.indents, w.fits.end) in
      record {
        fits = w.fits;
        done = w.done ++ (piece ∷ []);
        all = w.all ∙ rw cons (sym (append_assoc w.done (piece ∷ []) (rest_from table strength line class d)));
        well = well.1;
        after = rw lines (after_more w.after g);
        order = omega (arith, w.order, q.after);
        within = q.fits;
        sound = q.sound;
        room = omega (arith, w.room, room, w.order, part_length line p.start p.end (omega (arith, t.fits, q.fits)), t.after, t.fits, q.after, q.fits);
        as_long = k ∙ w.as_long;
      }

  pub writing_end : length line ≤ c.place → RestWritten table strength line class cut indent level eol model out₀ out first r
  writing_end h =
      let e : rest_from table strength line class cut ≡ w.done = w.all ∙ rw (rest_none table strength line class c h) (append-nil w.done) in
      record { after = rw e w.after; room = omega (arith, w.room, w.within, w.order) }

-- lines after those of pieces
pieces_more : {indent : List ℕ} {level : ℕ} {eol : List ℕ} {p : Pieces} (others : List (List ℕ)) {model out out₁ out₂ : List ℕ} {at : ℕ} {first r : NewLine}
    → PiecesWritten indent level eol p model out out₁ at first → After eol (map (λ (l : List ℕ). lay indent (suc level) (encode l)) others) model out₁ out₂ first r
    → PiecesWritten indent level eol (record { first = p.first; rest = p.rest ++ others }) model out out₂ at r
pieces_more {indent} {level} {eol} {p} others {model} {out} {out₁} {out₂} {at} {first} {r} w a =
    let lines : other_lines indent level (record { first = p.first; rest = p.rest ++ others }) ≡ other_lines indent level p ++ map (λ (l : List ℕ). lay indent (suc level) (encode l)) others = map-append _ p.rest others in
    record {
      text = rw (lines, following_append eol (other_lines indent level p), ← append_assoc) (compared_append w.text a.text);
      last = rw (lines, last_append) (a.last _ w.last);
    }

-- ---- a line, its first piece broken again

module _ {line class indent : List ℕ} {level : ℕ} {eol : List ℕ} {at : ℕ} (pre : OperationFits line class indent level eol at) where
  breakable : Breakable line class
  breakable = record { short = pre.fits.size; long = omega (arith, class_length line class pre.classed) }

  pub line_fits : LineFits line class indent level
  line_fits = record { well = pre.fits.well; breaks = breakable; indents = level_fits pre.fits }

  pub whole_room : at + (length (times level indent) + length line) < 2 ^ 64
  whole_room = omega (arith, indent_short indent level (level_fits pre.fits), pre.fits.room)

module _ (table : List ℕ) (ruler : ℕ) (line class indent : List ℕ) (level : ℕ) (eol : List ℕ) (max rounds at : ℕ) (asks : OperationFits line class indent level eol at) where
  abbrev pre : Fits line indent level eol at
  pre = asks.fits

  pub first_whole : (model out out' : List ℕ) (next : ℕ) → 0 ≡ round_strength table ruler indent level max rounds line (cells_of line class) → Compared model out out' at (times level indent ++ line) next
      → FirstBroken table ruler line indent level eol max rounds model out out' at (OperationSplit.Whole (record { start = at; next = next }))
  unfolding following last_of
  first_whole model out out' next e a =
      let b : broken_in table ruler indent level max rounds line ≡ record { first = decode line; rest = [] } = round_whole table ruler indent level max rounds line class pre.well asks.classed e in
      let q : PiecesWritten indent level eol (record { first = decode line; rest = [] }) model out out' at (record { start = at; next = next }) =
      record { text = rw (append-nil, pre.well) a; last = rw pre.well (omega (arith, a.next)) } in
      record {
        pieces = subst (λ (p : Pieces). PiecesWritten indent level eol p model out out' at (record { start = at; next = next })) (sym b) q;
        more = rw b;
        room = omega (arith, a.next, length-append (times level indent) line, indent_short indent level (level_fits pre));
      }

  module _ (b : Break) (e : RoundAt table ruler indent level max rounds line class b) where
    abbrev z : b.strength ≡ 0 → ⊥
    z = e.some

    abbrev p : ℕ
    p = b.strength

    abbrev c : Cut
    c = b.cut

    abbrev q : NextOp table p line class 0 line_start c
    q = e.cut

    abbrev cutting : FirstCut table line class p c
    cutting = first_cut table line class p c pre.well asks.classed z q

    pub first_within : Within line 0 c.place
    first_within = record { order = zero-le; fits = q.fits; well = cutting.well }

    module _ (t : Part) (u : Trimmed line 0 c.place t) where
      abbrev piece : List ℕ
      piece = part line t.start t.end

      abbrev classes : List ℕ
      classes = part class t.start t.end

      piece_length : length piece ≤ c.place
      piece_length = omega (arith, part_length line t.start t.end (omega (arith, u.fits, q.fits)), u.fits)

      pub first_fits : OperationFits piece classes indent level eol at
      first_fits =
          record {
            fits = record {
              well = u.well;
              blank = pre.blank;
              short = pre.short;
              flat = pre.flat;
              ascii = pre.ascii;
              end = pre.end;
              size = omega (arith, piece_length, q.fits, pre.size);
              room = omega (arith, piece_length, q.fits, pre.room);
            };
            classed = piece_classed line class c.place t asks.classed q.fits cutting.well u;
          }

      first_text : decode piece ≡ trim (pieces_at table line p).first
      first_text = u.text ∙ ap (λ (l : List ℕ). trim (decode l)) cutting.first ∙ ap trim (decode_encode _ (pieces_scalars table line p).first)

      module _ (model out out₁ : List ℕ) (f : OperationSplit) (g : FirstBroken table ruler piece indent level eol max (rounds - 1) model out out₁ at f) (first : NewLine) (is : first ≡ line_of f) where
        pub rest_fits : RestFits table p line class c indent (level + 1) eol first
        rest_fits =
            record {
              some = z;
              within = q.fits;
              breaks = breakable asks;
              sound = q.sound;
              well = cutting.others;
              indents = deeper_fits pre;
              end = pre.end;
              room = rw is (omega (arith, g.room, piece_length, q.fits, pre.room));
            }

        -- the pieces of the first, and the others
        abbrev inner : Pieces
        inner = broken_in table ruler indent level max (rounds - 1) piece

        abbrev others : List (List ℕ)
        others = map trim (pieces_at table line p).rest

        whole : broken_in table ruler indent level max rounds line ≡ record { first = inner.first; rest = inner.rest ++ others }
        whole =
            round_pieces table ruler indent level max rounds line class pre.well asks.classed p e.strength z
            ∙ ap (λ (l : List ℕ). with_rest table (indented indent ruler) max level (break_first table (indented indent ruler) max level (rounds - 1) (record { first = l; rest = [] })) others) (sym first_text)

        -- there is an operator, so there are others
        several_pieces : not (is_empty (inner.rest ++ others)) ≡ true
        several_pieces = some_append inner.rest others (some_map trim (pieces_at table line p).rest (cut_some p z (top_level_ops table (classify Carry.Code (decode line))) (strength_loosest table line class pre.well asks.classed p z (round_loosest table ruler indent level max rounds line class b e))))

        pub first_broken : (out₂ : List ℕ) (r : NewLine) → RestWritten table p line class c indent (level + 1) eol model out₁ out₂ first r
            → FirstBroken table ruler line indent level eol max rounds model out out₂ at (OperationSplit.Broken r)
        first_broken out₂ r w =
            let ls : rest_lines indent (level + 1) (rest_from table p line class c) ≡ map (λ (l : List ℕ). lay indent (suc level) (encode l)) others =
            ap (rest_lines indent (level + 1)) cutting.rest ∙ lines_trimmed indent (level + 1) (pieces_at table line p).rest (pieces_scalars table line p).rest ∙ rw (add-one level) in
            let a : After eol (map (λ (l : List ℕ). lay indent (suc level) (encode l)) others) model out₁ out₂ first r = rw ls at w.after in
            let began : PiecesWritten indent level eol inner model out out₁ at first = rw is g.pieces in
            let far : first.next ≤ at + (length piece + 1) * line_room = rw is g.room in
            record {
              pieces = subst (λ (x : Pieces). PiecesWritten indent level eol x model out out₂ at r) (sym whole) (pieces_more others began a);
              more = sym (ap (λ (x : Pieces). not (is_empty x.rest)) whole ∙ several_pieces);
              room = omega (arith, far, w.room, piece_length, q.fits);
            }

-- ---- the whole

module _ (table : List ℕ) (o : Options) (indent : List ℕ) (ruler : ℕ) (e : InUse o indent ruler) (max level : ℕ) where
  -- of the options only the indent and the ruler tab matter
  same_next : (l : List ℕ) → next_break table o max level l ≡ next_break table (indented indent ruler) max level l
  unfolding next_break over_wide indent_of
  same_next l = rw (e.indents, e.ruled)

  same_break : (n : ℕ) (p : Pieces) → break_first table o max level n p ≡ break_first table (indented indent ruler) max level n p
  unfolding break_first break_on
  same_break zero p = refl
  same_break (suc n) p = rw (same_next p.first) (go (next_break table (indented indent ruler) max level p.first) (same_break n))
    where
      go : (b : Option Pieces) → ((p : Pieces) → break_first table o max level n p ≡ break_first table (indented indent ruler) max level n p)
          → break_on b p (break_first table o max level n) ≡ break_on b p (break_first table (indented indent ruler) max level n)
      go none i = refl
      go (some q) i = i _

lay_all : (o : Options) (indent : List ℕ) (level : ℕ) → o.indent ≡ indent → Indent indent level → (ls : List (List ℕ))
    → map encode (map (λ (l : List ℕ). indent_of o level ++ l) ls) ≡ map (λ (l : List ℕ). lay indent level (encode l)) ls
lay_all o indent level e p [] = refl
lay_all o indent level e p (l ∷ ls) = rw (lay_encode o indent level l e p, lay_all o indent level e p ls)

several : (f : List ℕ → List ℕ) (l : List ℕ) (ls : List (List ℕ)) → not (is_empty ls) ≡ ltb 1 (length (l ∷ map f ls))
several f l [] = refl
several f l (m ∷ ms) = sym (lt-ltb 1 (length (l ∷ f m ∷ map f ms)) (omega arith))

pub all_broken : (table : List ℕ) {line class indent : List ℕ} {ruler level : ℕ} {eol : List ℕ} {max at : ℕ} {model out out' : List ℕ} {r : OperationSplit}
    → OperationFits line class indent level eol at
    → FirstBroken (strengths_in table) ruler line indent level eol max max_strength model out out' at r → (o : Options) → InUse o indent ruler
    → Broken eol (split_operation (strengths_in table) o max level (decode line)) model out out' at r
unfolding lay_pieces
all_broken table {line} {class} {indent} {ruler} {level} {eol} {max} {at} {model} {out} {out'} {r} ask f o e =
    let pre : Fits line indent level eol at = ask.fits in
    let p : Pieces = broken_in (strengths_in table) ruler indent level max max_strength line in
    let k : all_code_or_str (classify Carry.Code (decode line)) ≡ true = sym (all_encode (classify Carry.Code (decode line))) ∙ ap all_code_or_str (sym (classify_encode Carry.Code (decode line)) ∙ ap (classify Carry.Code) pre.well) ∙ ask.classed.plain in
    let b : break_first (strengths_in table) o max level max_strength (record { first = decode line; rest = [] }) ≡ p = same_break (strengths_in table) o indent ruler e max level max_strength (record { first = decode line; rest = [] }) in
    let d : Indent indent (suc level) = rw add-one at (deeper_fits pre) in
    subst (λ (ls : List (List ℕ)). Broken eol ls model out out' at r) (sym (fifteen_rounds table o max level (decode line) k ∙ ap (lay_pieces o level) b))
    (record {
      written = written_lines eol (indent_of o level ++ p.first) (map (λ (l : List ℕ). indent_of o (suc level) ++ l) p.rest) (first_line indent level p) (other_lines indent level p)
          pre.ascii (lay_encode o indent level p.first e.indents (level_fits pre)) (lay_all o indent (suc level) e.indents d p.rest) f.pieces.text f.pieces.last;
      more = f.more ∙ several (λ (l : List ℕ). indent_of o (suc level) ++ l) (indent_of o level ++ p.first) p.rest;
    })

-- ---- what the calls of `break_first` ask

pub some_rounds : (rounds : ℕ) → (rounds ≡ 0 → ⊥) → 1 ≤ rounds
some_rounds rounds h = omega arith

pub fewer_rounds : {rounds t : ℕ} → rounds ≡ t → (rounds ≡ 0 → ⊥) → rounds - 1 < t
fewer_rounds e h = omega arith

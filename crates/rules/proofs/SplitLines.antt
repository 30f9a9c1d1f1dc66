-- The last of the lines that a split gives: the newest line of the text, which an `else` may join.
--     LastLine, Several, Newest     a last line; several lines that end with one; the same read backwards
--     import_lines_law                  an import that is split
--     operation_lines               an expression: the line alone, or several; rounds_lines, after any number of rounds
--     operation_alone, operation_several     the two cases, by the number of lines
--     alone_line                    a line that is not split, with its indent
--     newest, newest_one            what stands first of the text's lines, the newest first
use Prim.Native.Nat.{ℕ, zero, suc, ◌≤◌, ◌<◌}
use Prim.Native.Char.{Char, code}
use native.Mathlib.Omega.{arith}
use mathlib.Core.Bool.{Bool, true, false, not, ◌&&◌, true≢false, and-true}
use mathlib.Core.List.{List, [], ◌∷◌, ◌++◌, map, reverse, reverse_aux, nil≢cons, append-nil, append_assoc, append_cancel_left, map-append, reverse_aux-append, reverse_aux-eq}
use mathlib.Core.Logic.{◌⊎◌, inl, inr}
use mathlib.Core.Option.{Option, none, some}
use mathlib.Core.Path.{◌≡◌, refl, sym, ap, subst, ◌∙◌}
use lib.Dec.{eqb, ltb}
use lib.ListN.{length, length-append}
use borrow.Author.Tests.{eqb-true, not-true, ltb-true, ltb-false}
use Rattle.utf8.specs.Unicode.{is_white, trim_start, trim_end, trim}
use Rattle.utf8.proofs.Tests.{and_left, and_right}
use Rattle.utf8.proofs.Trim.{White, start_append_white, start_other, end_split, end_append, end_append_white, length_trim_end}
use Rattle.rules.specs.Basics.{choose, is, at, is_empty, starts_with, last_is, Pieces}
use Rattle.rules.specs.Options.{Options, all_blank, indent_of}
use Rattle.rules.specs.Scan.{Cell, chars_of, is_code, before, from, classify}
use Rattle.rules.specs.Else.{joinable}
use Rattle.rules.specs.SplitImport.{Laid, code_is, before_code, from_code, names_of, fill_names, import_lines, import_parts, closed_import, opened_import, split_import}
use Rattle.rules.specs.SplitOperation.{OpMark, top_level_ops, loosest, at_mark, cut_before, trimmed, break_at, split_once, next_break, break_on, break_first, lay_pieces, split_operation}
use Rattle.rules.specs.declared.Carry.{Carry}
use Rattle.rules.proofs.Choose.{choose_case}
use Rattle.rules.proofs.StartsBytes.{last_after}
use Rattle.rules.proofs.ScanBytes.{chars_classify}
use Rattle.rules.proofs.SpacingLaws.{all_white}
use Rattle.rules.proofs.SplitOperationLaws.{white_indent}
use Rattle.rules.proofs.Prefix.{leads, Operators, marks_operators, marked_chars, marks_chars, cut_at}

-- ---- the end of a text

none_left : (l : List ℕ) → length l ≤ 0 → l ≡ []
none_left [] h = refl
none_left (c ∷ cs) h = absurd (omega arith)

-- a text's end is trimmed where the text is
pub end_part : (a b : List ℕ) → trim_end (a ++ b) ≡ a ++ b → trim_end b ≡ b
end_part a b e = go (trim_end b) refl
  where
    go : (t : List ℕ) → trim_end b ≡ t → trim_end b ≡ b
    go [] h =
        let r = end_split b in
        let q : b ≡ r.0 = r.2 ∙ rw h in
        let w : White b = subst White (sym q) r.1 in
        let n : length (trim_end a) ≡ length (a ++ b) = ap length (sym (end_append_white a b w) ∙ e) in
        h ∙ sym (none_left b (omega (arith, length_trim_end a, length-append a b)))
    go (d ∷ ds) h = h ∙ append_cancel_left a (d ∷ ds) b (sym (end_append a b d ds h) ∙ e)

-- ---- a last line

-- it is not empty, is trimmed at its end, and takes an `else` where b says so
pub record LastLine (b : Bool) (m : List ℕ) : Type 0 where
  pub some : is_empty m ≡ false
  pub trimmed : trim_end m ≡ m
  pub joins : joinable m ≡ b

joinable_trimmed : (m : List ℕ) → trim_end m ≡ m → joinable m ≡ (last_is (is "}") m && not (at (trim_start m) "else"))
unfolding joinable
joinable_trimmed m t = ap (λ (l : List ℕ). last_is (is "}") l && not (at (trim_start m) "else")) t

pub some_after : (w : List ℕ) (c : ℕ) (cs : List ℕ) → is_empty (w ++ (c ∷ cs)) ≡ false
some_after [] c cs = refl
some_after (x ∷ w) c cs = refl

-- white space before it changes nothing
last_indented : {b : Bool} (w m : List ℕ) → White w → LastLine b m → LastLine b (w ++ m)
last_indented {b} w [] h r = absurd (true≢false r.some)
last_indented {b} w (c ∷ cs) h r =
    let t : trim_end (w ++ (c ∷ cs)) ≡ w ++ (c ∷ cs) = end_append w (c ∷ cs) c cs r.trimmed in
    record {
      some = some_after w c cs;
      trimmed = t;
      joins = joinable_trimmed (w ++ (c ∷ cs)) t ∙ rw (last_after (is "}") w (c ∷ cs) refl, start_append_white w (c ∷ cs) h) (sym (joinable_trimmed (c ∷ cs) r.trimmed) ∙ r.joins);
    }

-- a text's end that starts with a character which is no white space and not the first of `else`
last_end : (a : List ℕ) (c : ℕ) (cs l : List ℕ) → is_white c ≡ false → is "e" c ≡ false → l ≡ a ++ (c ∷ cs) → trim_end l ≡ l → LastLine (last_is (is "}") l) (c ∷ cs)
unfolding starts_with
last_end a c cs l w e q t =
    let u : trim_end (c ∷ cs) ≡ c ∷ cs = end_part a (c ∷ cs) (rw q at t) in
    record {
      some = refl;
      trimmed = u;
      joins = joinable_trimmed (c ∷ cs) u ∙ rw (start_other c cs w, e, and-true (last_is (is "}") (c ∷ cs)), q) (sym (last_after (is "}") a (c ∷ cs) refl));
    }

-- ---- several lines that end with one

-- the last stands after others, or alone
record Ends (b : Bool) (ls : List (List ℕ)) : Type 0 where
  earlier : List (List ℕ)
  last : List ℕ
  is : ls ≡ earlier ++ (last ∷ [])
  line : LastLine b last

pub record Several (b : Bool) (lines : List (List ℕ)) : Type 0 where
  pub first : List ℕ
  pub between : List (List ℕ)
  pub last : List ℕ
  pub is : lines ≡ first ∷ (between ++ (last ∷ []))
  pub line : LastLine b last

several : {b : Bool} (l : List ℕ) {ls : List (List ℕ)} → Ends b ls → Several b (l ∷ ls)
several l r = record { first = l; between = r.earlier; last = r.last; is = ap {B = List (List ℕ)} (λ ls. l ∷ ls) r.is; line = r.line }

pub several_length : {b : Bool} {lines : List (List ℕ)} → Several b lines → 1 < length lines
several_length r = rw r.is (omega (arith, length-append r.between (r.last ∷ [])))

-- other lines before them
ends_after : {b : Bool} (ks : List (List ℕ)) {ls : List (List ℕ)} → Ends b ls → Ends b (ks ++ ls)
ends_after ks r =
    record {
      earlier = ks ++ r.earlier;
      last = r.last;
      is = rw r.is (sym (append_assoc ks r.earlier (r.last ∷ [])));
      line = r.line;
    }

-- each with white space before it
ends_indented : {b : Bool} (w : List ℕ) → White w → {ls : List (List ℕ)} → Ends b ls → Ends b (map (λ (l : List ℕ). w ++ l) ls)
ends_indented w h r =
    record {
      earlier = map (λ (l : List ℕ). w ++ l) r.earlier;
      last = w ++ r.last;
      is = rw r.is (map-append (λ (l : List ℕ). w ++ l) r.earlier (r.last ∷ []));
      line = last_indented w r.last h r.line;
    }

-- ---- the text's lines, the newest first

-- lines put onto others: the last of them stands first
pub record Newest (b : Bool) (lines : List (List ℕ)) : Type 0 where
  pub last : List ℕ
  pub before : List (List ℕ)
  pub reversed : reverse lines ≡ last ∷ before
  pub onto : (others : List (List ℕ)) → reverse_aux lines others ≡ last ∷ (before ++ others)
  pub line : LastLine b last

pub newest : {b : Bool} {lines : List (List ℕ)} → Several b lines → Newest b lines
newest r =
    let ls : List (List ℕ) = r.first ∷ r.between in
    record {
      last = r.last;
      before = reverse ls;
      reversed = rw r.is (reverse_aux-append ls (r.last ∷ []) []);
      onto = λ others. rw (r.is, reverse_aux-append ls (r.last ∷ []) others) (ap {B = List (List ℕ)} (λ t. r.last ∷ t) (reverse_aux-eq ls others));
      line = r.line;
    }

pub newest_one : {b : Bool} {m : List ℕ} → LastLine b m → Newest b (m ∷ [])
newest_one {b} {m} r = record { last = m; before = []; reversed = refl; onto = λ others. refl; line = r }

-- ---- a line that is not split

module _ (o : Options) (blank : all_blank o.indent ≡ true) where
  indent_white : (level : ℕ) → White (indent_of o level)
  indent_white level = white_indent o (all_white o.indent blank) level

  pub alone_line : (level : ℕ) (l : List ℕ) → is_empty l ≡ false → trim_end l ≡ l → LastLine (joinable l) (indent_of o level ++ l)
  alone_line level l s t = last_indented (indent_of o level) l (indent_white level) (record { some = s; trimmed = t; joins = refl })

-- ---- an import

-- the line in two at its first Code character k, with which the second part starts
pub record CodeParts (k : Char) (cells : List Cell) : Type 0 where
  pub whole : chars_of cells ≡ chars_of (before_code k cells) ++ chars_of (from_code k cells)
  pub first : (x : Cell) (xs : List Cell) → from_code k cells ≡ x ∷ xs → x.ch ≡ code k

pub code_parts : (k : Char) (cells : List Cell) → CodeParts k cells
unfolding before from chars_of choose
code_parts k [] = record { whole = refl; first = λ x xs e. absurd (nil≢cons e) }
code_parts k (x ∷ xs) = go (code_is k x) refl (code_parts k xs)
  where
    go : (b : Bool) → code_is k x ≡ b → CodeParts k xs → CodeParts k (x ∷ xs)
    go true e r =
        record {
          whole = rw e;
          first = λ y ys h.
              let q : ◌≡◌ {A = List Cell} (x ∷ xs) (y ∷ ys) = rw e at h in
              let p : x ≡ y = cc in
              ap (λ (z : Cell). z.ch) (sym p) ∙ eqb-true x.ch (code k) (and_right (is_code x.class) (is k x.ch) e);
        }
    go false e r =
        record {
          whole = rw e (ap {B = List ℕ} (λ l. x.ch ∷ l) r.whole);
          first = λ y ys h. r.first y ys (rw e at h);
        }

-- the lines of an import that is split
pub record ImportLines (b : Bool) (laid : Laid) : Type 0 where
  pub lines : Several b laid.lines
  pub counted : laid.imports_split ≡ 1

abbrev Imported : Bool → Option Laid → Type 0
Imported b none = Unit {0}
Imported b (some laid) = ImportLines b laid

module _ (o : Options) (blank : all_blank o.indent ≡ true) (max level : ℕ) (l : List ℕ) (end : trim_end l ≡ l) where
  imported_parts : (head : List ℕ) (parts : List (List ℕ)) (a : List ℕ) (c : ℕ) (cs : List ℕ) → c ≡ 125 → l ≡ a ++ (c ∷ cs)
      → Imported (last_is (is "}") l) (import_parts o max level head parts (c ∷ cs))
  unfolding import_parts import_lines is_white
  imported_parts head parts a c cs k e =
      choose_case (Imported (last_is (is "}") l))
      (λ h. record {
        lines = several _ (ends_after (reverse (fill_names o max (indent_of o (suc level)) (names_of parts))) (record {
          earlier = [];
          last = indent_of o level ++ (c ∷ cs);
          is = refl;
          line = last_indented (indent_of o level) (c ∷ cs) (indent_white o blank level) (last_end a c cs l (ap is_white k) (ap (is "e") k) e end);
        }));
        counted = refl;
      })
      (λ h. tt)

  imported_closed : (head inside a : List ℕ) (rest : List Cell) → l ≡ a ++ chars_of rest → ((x : Cell) (xs : List Cell) → rest ≡ x ∷ xs → x.ch ≡ 125)
      → Imported (last_is (is "}") l) (closed_import o max level head inside rest)
  unfolding closed_import chars_of
  imported_closed head inside a [] e f = tt
  imported_closed head inside a (x ∷ xs) e f = imported_parts head _ a x.ch (chars_of xs) (f x xs refl) e

  imported_opened : (head a : List ℕ) (rest : List Cell) → l ≡ a ++ chars_of rest → Imported (last_is (is "}") l) (opened_import o max level head rest)
  unfolding opened_import chars_of
  imported_opened head a [] e = tt
  imported_opened head a (x ∷ xs) e =
      let r = code_parts "}" xs in
      imported_closed head (chars_of (before_code "}" xs)) (a ++ (x.ch ∷ chars_of (before_code "}" xs))) (from_code "}" xs)
      (rw (e, r.whole) (sym (append_assoc a (x.ch ∷ chars_of (before_code "}" xs)) (chars_of (from_code "}" xs))))) r.first

  imported : Imported (last_is (is "}") l) (split_import o max level (classify Carry.Code l))
  unfolding split_import
  imported =
      let cells = classify Carry.Code l in
      choose_case (Imported (last_is (is "}") l))
      (λ h. imported_opened (chars_of (before_code "{" cells)) (chars_of (before_code "{" cells)) (from_code "{" cells) (sym (chars_classify Carry.Code l) ∙ (code_parts "{" cells).whole))
      (λ h. tt)

  pub import_lines_law : (laid : Laid) → split_import o max level (classify Carry.Code l) ≡ some laid → ImportLines (last_is (is "}") l) laid
  import_lines_law laid e = subst (Imported (last_is (is "}") l)) e imported

-- ---- the last piece

-- the pieces that follow the first end with a part of the text's end, which an operator leads
record LastPiece (l : List ℕ) (rest : List (List ℕ)) : Type 0 where
  earlier : List (List ℕ)
  front : List ℕ
  c : ℕ
  cs : List ℕ
  is : rest ≡ earlier ++ ((c ∷ cs) ∷ [])
  text : l ≡ front ++ (c ∷ cs)
  leads : leads (c ∷ []) ≡ true

data Pieced (l : List ℕ) (q : Pieces) : Type 0 where
  uncut : q.rest ≡ [] → l ≡ q.first → Pieced l q
  cut : LastPiece l q.rest → Pieced l q

-- a character before the text
further : (c : ℕ) {l : List ℕ} {rest : List (List ℕ)} → LastPiece l rest → LastPiece (c ∷ l) rest
further c r =
    record {
      earlier = r.earlier;
      front = c ∷ r.front;
      c = r.c;
      cs = r.cs;
      is = r.is;
      text = ap {B = List ℕ} (λ l. c ∷ l) r.text;
      leads = r.leads;
    }

pieced_mark : (b : Bool) (c : ℕ) (l : List ℕ) (q : Pieces) → (b ≡ true → leads (c ∷ []) ≡ true) → Pieced l q → Pieced (c ∷ l) (at_mark b c q)
unfolding at_mark
pieced_mark true c l q h (uncut e f) =
    cut (record {
      earlier = [];
      front = [];
      c = c;
      cs = q.first;
      is = ap {B = List (List ℕ)} (λ r. (c ∷ q.first) ∷ r) e;
      text = ap {B = List ℕ} (λ r. c ∷ r) f;
      leads = h refl;
    })
pieced_mark true c l q h (cut r) =
    cut (further c (record {
      earlier = (c ∷ q.first) ∷ r.earlier;
      front = r.front;
      c = r.c;
      cs = r.cs;
      is = ap {B = List (List ℕ)} (λ s. (c ∷ q.first) ∷ s) r.is;
      text = r.text;
      leads = r.leads;
    }))
pieced_mark false c l q h (uncut e f) = uncut e (ap {B = List ℕ} (λ r. c ∷ r) f)
pieced_mark false c l q h (cut r) = cut (further c r)

pieced : (table : List ℕ) (p : ℕ) (ms : List OpMark) → Operators table ms → Pieced (marked_chars ms) (cut_before (suc p) ms)
unfolding cut_before marked_chars
pieced table p [] a = uncut refl refl
pieced table p (m ∷ ms) a =
    pieced_mark (eqb m.strength (suc p)) m.ch (marked_chars ms) (cut_before (suc p) ms)
    (λ h. a.0.leads (omega (arith, eqb-true m.strength (suc p) h))) (pieced table p ms a.1)

-- if there is a break, what follows the first piece ends with a last line
abbrev Breaks : Bool → Option Pieces → Type 0
Breaks b none = Unit {0}
Breaks b (some q) = Ends b q.rest

module _ (l : List ℕ) (end : trim_end l ≡ l) where
  ends_pieces : (rest : List (List ℕ)) → LastPiece l rest → Ends (last_is (is "}") l) (map trim rest)
  unfolding trim leads
  ends_pieces rest r =
      let w : is_white r.c ≡ false = not-true (is_white r.c) (and_left (not (is_white r.c)) (not (is "e" r.c)) r.leads) in
      let e : is "e" r.c ≡ false = not-true (is "e" r.c) (and_right (not (is_white r.c)) (not (is "e" r.c)) r.leads) in
      let k : LastLine (last_is (is "}") l) (r.c ∷ r.cs) = last_end r.front r.c r.cs l w e r.text end in
      let t : trim (r.c ∷ r.cs) ≡ r.c ∷ r.cs = ap trim_end (start_other r.c r.cs w) ∙ k.trimmed in
      record {
        earlier = map trim r.earlier;
        last = r.c ∷ r.cs;
        is = rw r.is (map-append trim r.earlier ((r.c ∷ r.cs) ∷ []) ∙ ap (λ (m : List ℕ). map trim r.earlier ++ (m ∷ [])) t);
        line = k;
      }

  breaks_at : (table : List ℕ) (n : ℕ) (ms : List OpMark) → Operators table ms → marked_chars ms ≡ l → loosest ms ≡ n → Breaks (last_is (is "}") l) (break_at n ms)
  unfolding break_at trimmed
  breaks_at table zero ms a q e = tt
  breaks_at table (suc p) ms a q e = go (pieced table p ms a)
    where
      go : Pieced (marked_chars ms) (cut_before (suc p) ms) → Ends (last_is (is "}") l) (map trim (cut_before (suc p) ms).rest)
      go (uncut f g) = absurd (nil≢cons (sym f ∙ (cut_at p ms e).rest))
      go (cut r) = ends_pieces (cut_before (suc p) ms).rest (rw q at r)

  breaks_once : (table : List ℕ) (cells : List Cell) → chars_of cells ≡ l → Breaks (last_is (is "}") l) (split_once table cells)
  unfolding split_once top_level_ops
  breaks_once table cells q =
      choose_case (Breaks (last_is (is "}") l)) (λ h. tt)
      (λ h. choose_case (Breaks (last_is (is "}") l)) (λ i. tt)
      (λ i. breaks_at table (loosest (top_level_ops table cells)) (top_level_ops table cells) (marks_operators table cells) (marks_chars table _ cells ∙ q) refl))

-- ---- an expression

-- one line, or several that end with a last line
pub data OperationLines (one : List ℕ) (b : Bool) (lines : List (List ℕ)) : Type 0 where
  alone : lines ≡ one ∷ [] → OperationLines one b lines
  broken : Several b lines → OperationLines one b lines

pub operation_alone : {one : List ℕ} {b : Bool} {lines : List (List ℕ)} → OperationLines one b lines → ltb 1 (length lines) ≡ false → lines ≡ one ∷ []
operation_alone (alone e) h = e
operation_alone {lines} (broken r) h = absurd (omega (arith, ltb-false 1 (length lines) h, several_length r))

pub operation_several : {one : List ℕ} {b : Bool} {lines : List (List ℕ)} → OperationLines one b lines → ltb 1 (length lines) ≡ true → Several b lines
operation_several {lines} (alone e) h = absurd (omega (arith, ltb-true 1 (length lines) h, ap length e))
operation_several (broken r) h = r

module _ (table : List ℕ) (o : Options) (blank : all_blank o.indent ≡ true) (max level : ℕ) where
  -- more breaks keep the last line
  ends_on : {b : Bool} (r : Option Pieces) (p : Pieces) (again : Pieces → Pieces) → ((q : Pieces) → Ends b q.rest → Ends b (again q).rest)
      → Ends b p.rest → Ends b (break_on r p again).rest
  unfolding break_on
  ends_on none p again f e = e
  ends_on (some q) p again f e = f (record { first = q.first; rest = q.rest ++ p.rest }) (ends_after q.rest e)

  ends_kept : {b : Bool} (n : ℕ) (p : Pieces) → Ends b p.rest → Ends b (break_first table o max level n p).rest
  unfolding break_first
  ends_kept zero p e = e
  ends_kept (suc n) p e = ends_on (next_break table o max level p.first) p (break_first table o max level n) (ends_kept n) e

  module _ (l : List ℕ) (end : trim_end l ≡ l) where
    breaks_next : Breaks (last_is (is "}") l) (next_break table o max level l)
    unfolding next_break
    breaks_next = choose_case (Breaks (last_is (is "}") l)) (λ h. breaks_once l end table (classify Carry.Code l) (chars_classify Carry.Code l)) (λ h. tt)

    abbrev whole : Pieces
    whole = record { first = l; rest = [] }

    rounds_end : (n : ℕ) → (break_first table o max level n whole ≡ whole) ⊎ Ends (last_is (is "}") l) (break_first table o max level n whole).rest
    unfolding break_first
    rounds_end zero = inl refl
    rounds_end (suc n) = go (next_break table o max level l) breaks_next
      where
        go : (r : Option Pieces) → Breaks (last_is (is "}") l) r
            → (break_on r whole (break_first table o max level n) ≡ whole) ⊎ Ends (last_is (is "}") l) (break_on r whole (break_first table o max level n)).rest
        go none h = unfold break_on in inl refl
        go (some q) h = unfold break_on in inr (ends_kept n (record { first = q.first; rest = q.rest ++ [] }) (rw (append-nil q.rest) h))

    pub rounds_lines : (n : ℕ) → OperationLines (indent_of o level ++ l) (last_is (is "}") l) (lay_pieces o level (break_first table o max level n whole))
    unfolding lay_pieces
    rounds_lines n = go (rounds_end n)
      where
        go : (break_first table o max level n whole ≡ whole) ⊎ Ends (last_is (is "}") l) (break_first table o max level n whole).rest
            → OperationLines (indent_of o level ++ l) (last_is (is "}") l) (lay_pieces o level (break_first table o max level n whole))
        go (inl e) = alone (ap (lay_pieces o level) e)
        go (inr r) = broken (several (indent_of o level ++ (break_first table o max level n whole).first) (ends_indented (indent_of o (suc level)) (indent_white o blank (suc level)) r))

    pub operation_lines : OperationLines (indent_of o level ++ l) (last_is (is "}") l) (split_operation table o max level l)
    unfolding split_operation
    operation_lines = rounds_lines (length l)

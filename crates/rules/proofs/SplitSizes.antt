-- How many bytes the lines take that one line becomes, with indents of at most 64 bytes at 1,048,577 levels and endings
-- of at most 2: for each byte of the line, and one more, at most 67,108,932.
--     Fit                         the lines, joined in order, or put onto others
--     import_fits                 an import that is split, and its blank names
--     operation_fits              an expression
use Prim.Native.Nat.{ℕ, zero, suc, ◌+◌, ◌*◌, ◌≤◌, ◌<◌}
use Prim.Native.Char.{Char}
use native.Mathlib.Omega.{arith}
use mathlib.Core.Bool.{Bool, true, false}
use mathlib.Core.List.{List, [], ◌∷◌, ◌++◌, map, foldl, reverse, reverse_aux}
use mathlib.Core.Option.{Option, none, some}
use mathlib.Core.Path.{◌≡◌, ap, subst}
use lib.Dec.{eqb}
use lib.ListN.{length}
use borrow.Author.Tests.{ltb-true}
use Rattle.buffer.specs.Repeat.{times}
use Rattle.utf8.specs.Unicode.{encode_char, encode, size, trim, trim_end}
use Rattle.utf8.proofs.Tests.{and_left, and_right}
use Rattle.utf8.proofs.Decode.{Ascii, encode_nil, encode_ascii, size_append}
use Rattle.utf8.proofs.Trim.{end_split, trim_split}
use Rattle.rules.specs.Basics.{choose, is, codes, is_blank, is_empty, Pieces, pieces, at_sep, split_on}
use Rattle.rules.specs.Options.{Options, max_indent, all_blank, indent_of}
use Rattle.rules.specs.Scan.{Cell, chars_of, classify}
use Rattle.rules.specs.SplitImport.{Laid, before_code, from_code, cons_name, names_of, blanks_of, with_comma, add_name, fill_names, import_lines, import_parts, closed_import, opened_import, split_import}
use Rattle.rules.specs.SplitOperation.{OpMark, top_level_ops, loosest, at_mark, cut_before, trimmed, break_at, split_once, next_break, break_on, break_first, lay_pieces, split_operation}
use Rattle.rules.specs.Assembly.{joined}
use Rattle.rules.specs.Refusals.{max_source}
use Rattle.rules.specs.declared.Carry.{Carry}
use Rattle.rules.proofs.Choose.{choose_case}
use Rattle.rules.proofs.StartsBytes.{low_of, steady_blank, encode_some}
use Rattle.rules.proofs.ScanBytes.{chars_classify}
use Rattle.rules.proofs.Prefix.{marked_chars, marks_chars}
use Rattle.rules.proofs.SplitLines.{code_parts}

-- ---- sizes of texts

size_nil : size [] ≡ 0
size_nil = ap length encode_nil

size_some : (c : ℕ) (cs : List ℕ) → 0 < size (c ∷ cs)
size_some c cs = let e = ap length (encode_some c cs).2 in omega arith

size_cons : (c : ℕ) (cs : List ℕ) → size (c ∷ cs) ≡ size (c ∷ []) + size cs
size_cons c cs = size_append (c ∷ []) cs

size_trim_end : (l : List ℕ) → size (trim_end l) ≤ size l
size_trim_end l = let r = end_split l in omega (arith, ap size r.2, size_append (trim_end l) r.0)

size_trim : (l : List ℕ) → size (trim l) ≤ size l
size_trim l =
    let r = trim_split l in
    omega (arith, ap size r.4, size_append r.0 (trim l ++ r.1), size_append (trim l) r.1)

pub blank_ascii : (l : List ℕ) → all_blank l ≡ true → Ascii l
unfolding all_blank
blank_ascii [] h = tt
blank_ascii (c ∷ l) h = (ltb-true c 0x80 (low_of is_blank steady_blank c (and_left (is_blank c) (all_blank l) h)), blank_ascii l (and_right (is_blank c) (all_blank l) h))

size_times : (n : ℕ) (w : List ℕ) → size w ≤ 64 → size (times n w) ≤ n * 64
unfolding times
size_times zero w h = omega (arith, size_nil)
size_times (suc n) w h = let k = size_times n w h in omega (arith, size_append w (times n w))

-- an indent of at most 64 bytes
module _ (o : Options) (blank : all_blank o.indent ≡ true) (short : length o.indent ≤ 64) where
  size_indent : (level : ℕ) → size (indent_of o level) ≤ level * 64
  unfolding indent_of
  size_indent level = size_times level o.indent (omega (arith, ap length (encode_ascii o.indent (blank_ascii o.indent blank))))

  pub alone_size : (level : ℕ) (l : List ℕ) → size (indent_of o level ++ l) ≤ level * 64 + size l
  alone_size level l = omega (arith, size_append (indent_of o level) l, size_indent level)

-- ---- lines joined

-- each line with an ending
room_of : List (List ℕ) → ℕ
room_of [] = 0
room_of (l ∷ ls) = size l + 2 + room_of ls

room_append : (ks ls : List (List ℕ)) → room_of (ks ++ ls) ≡ room_of ks + room_of ls
unfolding room_of
room_append [] ls = omega arith
room_append (k ∷ ks) ls = let r = room_append ks ls in omega arith

room_reverse : (ks ls : List (List ℕ)) → room_of (reverse_aux ks ls) ≡ room_of ks + room_of ls
unfolding room_of
room_reverse [] ls = omega arith
room_reverse (k ∷ ks) ls = let r = room_reverse ks (k ∷ ls) in omega arith

-- lines within m bytes with their endings: joined in order, and put onto others
pub record Fit (eol : List ℕ) (m : ℕ) (lines : List (List ℕ)) : Type 0 where
  pub text : size (joined eol (reverse lines)) ≤ m
  pub onto : (others : List (List ℕ)) → size (joined eol (reverse_aux lines others)) ≤ size (joined eol others) + m

module _ (eol : List ℕ) (end : size eol ≤ 2) where
  joined_cons : (l : List ℕ) (ls : List (List ℕ)) → size (joined eol (l ∷ ls)) ≤ size (joined eol ls) + (size l + 2)
  unfolding joined
  joined_cons l [] = omega arith
  joined_cons l (m ∷ ls) = omega (arith, size_append (joined eol (m ∷ ls)) (eol ++ l), size_append eol l)

  joined_onto : (ls others : List (List ℕ)) → size (joined eol (reverse_aux ls others)) ≤ size (joined eol others) + room_of ls
  unfolding room_of
  joined_onto [] others = omega arith
  joined_onto (l ∷ ls) others = omega (arith, joined_onto ls (l ∷ others), joined_cons l others)

  fit : (m : ℕ) (lines : List (List ℕ)) → room_of lines ≤ m → Fit eol m lines
  unfolding joined
  fit m lines h =
      record {
        text = omega (arith, joined_onto lines [], size_nil);
        onto = λ others. omega (arith, joined_onto lines others);
      }

-- ---- an expression

-- pieces as lines one level deeper: 67,108,928 bytes of indent, an ending
costs : List (List ℕ) → ℕ
costs [] = 0
costs (l ∷ ls) = 67108930 + size l + costs ls

-- the first piece may be broken further, into pieces of at least one byte each
abbrev cost : Pieces → ℕ
cost p = costs p.rest + 67108931 * size p.first

costs_append : (ks ls : List (List ℕ)) → costs (ks ++ ls) ≡ costs ks + costs ls
unfolding costs
costs_append [] ls = omega arith
costs_append (k ∷ ks) ls = let r = costs_append ks ls in omega arith

cost_mark : (b : Bool) (c : ℕ) (q : Pieces) (n : ℕ) → costs (map trim q.rest) + 67108931 * size q.first ≤ 67108931 * n
    → costs (map trim (at_mark b c q).rest) + 67108931 * size (at_mark b c q).first ≤ 67108931 * (size (c ∷ []) + n)
unfolding at_mark costs
cost_mark true c q n h = omega (arith, size_trim (c ∷ q.first), size_cons c q.first, size_some c [], size_nil)
cost_mark false c q n h = omega (arith, size_cons c q.first)

cost_cut : (p : ℕ) (ms : List OpMark) → costs (map trim (cut_before p ms).rest) + 67108931 * size (cut_before p ms).first ≤ 67108931 * size (marked_chars ms)
unfolding cut_before costs marked_chars
cost_cut p [] = omega (arith, size_nil)
cost_cut p (m ∷ ms) = rw (size_cons m.ch (marked_chars ms)) (cost_mark (eqb m.strength p) m.ch (cut_before p ms) (size (marked_chars ms)) (cost_cut p ms))

-- if there is a break, its pieces cost no more than the line
abbrev Cheap : ℕ → Option Pieces → Type 0
Cheap n none = Unit {0}
Cheap n (some q) = cost q ≤ 67108931 * n

cheap_at : (n : ℕ) (ms : List OpMark) → Cheap (size (marked_chars ms)) (break_at n ms)
unfolding break_at trimmed
cheap_at zero ms = tt
cheap_at (suc p) ms = omega (arith, cost_cut (suc p) ms, size_trim (cut_before (suc p) ms).first)

cheap_once : (table : List ℕ) (cells : List Cell) → Cheap (size (chars_of cells)) (split_once table cells)
unfolding split_once top_level_ops
cheap_once table cells =
    choose_case (Cheap (size (chars_of cells))) (λ h. tt)
    (λ h. choose_case (Cheap (size (chars_of cells))) (λ i. tt)
    (λ i. rw marks_chars at (cheap_at (loosest (top_level_ops table cells)) (top_level_ops table cells))))

module _ (table : List ℕ) (o : Options) (max level : ℕ) where
  cheap_next : (first : List ℕ) → Cheap (size first) (next_break table o max level first)
  unfolding next_break
  cheap_next first = choose_case (Cheap (size first)) (λ h. rw chars_classify at (cheap_once table (classify Carry.Code first))) (λ h. tt)

  cost_on : (r : Option Pieces) (p : Pieces) (again : Pieces → Pieces) → ((q : Pieces) → cost (again q) ≤ cost q) → Cheap (size p.first) r
      → cost (break_on r p again) ≤ cost p
  unfolding break_on
  cost_on none p again f h = omega arith
  cost_on (some q) p again f h =
      let k = f (record { first = q.first; rest = q.rest ++ p.rest }) in
      omega (arith, costs_append q.rest p.rest)

  cost_first : (n : ℕ) (p : Pieces) → cost (break_first table o max level n p) ≤ cost p
  unfolding break_first
  cost_first zero p = omega arith
  cost_first (suc n) p = cost_on (next_break table o max level p.first) p (break_first table o max level n) (cost_first n) (cheap_next p.first)

-- the lines of a split at a level, within the limits
module _ (o : Options) (blank : all_blank o.indent ≡ true) (short : length o.indent ≤ max_indent) (level : ℕ) (flat : level ≤ max_source) where
  room_rest : (ls : List (List ℕ)) → room_of (map (λ (l : List ℕ). indent_of o (suc level) ++ l) ls) ≤ costs ls
  unfolding room_of costs
  room_rest [] = omega arith
  room_rest (l ∷ ls) = omega (arith, room_rest ls, alone_size o blank short (suc level) l)

  room_pieces : (p : Pieces) → room_of (lay_pieces o level p) ≤ 67108866 + cost p
  unfolding lay_pieces room_of
  room_pieces p = omega (arith, room_rest p.rest, alone_size o blank short level p.first)

  module _ (eol : List ℕ) (end : size eol ≤ 2) where
    pub rounds_fit : (table : List ℕ) (max n : ℕ) (l : List ℕ)
        → Fit eol ((size l + 1) * 67108932) (lay_pieces o level (break_first table o max level n (record { first = l; rest = [] })))
    unfolding costs
    rounds_fit table max n l =
        let p : Pieces = break_first table o max level n (record { first = l; rest = [] }) in
        fit eol end ((size l + 1) * 67108932) (lay_pieces o level p)
        (omega (arith, room_pieces p, cost_first table o max level n (record { first = l; rest = [] })))

    pub operation_fits : (table : List ℕ) (max : ℕ) (l : List ℕ) → Fit eol ((size l + 1) * 67108932) (split_operation table o max level l)
    unfolding split_operation
    operation_fits table max l = rounds_fit table max (length l) l

-- ---- an import

sizes : List (List ℕ) → ℕ
sizes [] = 0
sizes (l ∷ ls) = size l + sizes ls

-- a text cut at a character: what its pieces take, and how many follow the first
sep_size : (b : Bool) (c : ℕ) (q : Pieces) → sizes (pieces (at_sep b c q)) ≤ size (c ∷ []) + sizes (pieces q)
unfolding at_sep sizes
sep_size true c q = omega (arith, size_nil)
sep_size false c q = omega (arith, size_cons c q.first)

split_size : (sep : Char) (l : List ℕ) → sizes (pieces (split_on sep l)) ≤ size l
unfolding split_on sizes
split_size sep [] = omega (arith, size_nil)
split_size sep (c ∷ cs) = omega (arith, sep_size (is sep c) c (split_on sep cs), split_size sep cs, size_cons c cs)

sep_count : (b : Bool) (c : ℕ) (q : Pieces) → length (at_sep b c q).rest ≤ size (c ∷ []) + length q.rest
unfolding at_sep
sep_count true c q = omega (arith, size_some c [])
sep_count false c q = omega arith

split_count : (sep : Char) (l : List ℕ) → length (split_on sep l).rest ≤ size l
unfolding split_on
split_count sep [] = omega arith
split_count sep (c ∷ cs) = omega (arith, sep_count (is sep c) c (split_on sep cs), split_count sep cs, size_cons c cs)

blanks_count : (ps : List (List ℕ)) → blanks_of ps ≤ length ps
unfolding blanks_of
blanks_count [] = omega arith
blanks_count (p ∷ ps) =
    let one : choose (is_empty (trim p)) 1 0 ≤ 1 = choose_case (λ (n : ℕ). n ≤ 1) (λ h. omega arith) (λ h. omega arith) in
    omega (arith, blanks_count ps)

-- each name on a line of its own, with its comma
name_costs : List (List ℕ) → ℕ
name_costs [] = 0
name_costs (n ∷ ns) = 67108931 + size n + name_costs ns

cost_name : (t : List ℕ) (ns : List (List ℕ)) → name_costs (cons_name t ns) ≤ 67108932 * size t + name_costs ns
unfolding cons_name name_costs
cost_name [] ns = omega arith
cost_name (c ∷ t) ns = omega (arith, size_some c t)

cost_names : (ps : List (List ℕ)) → name_costs (names_of ps) ≤ 67108932 * sizes ps
unfolding names_of name_costs sizes
cost_names [] = omega arith
cost_names (p ∷ ps) = omega (arith, cost_name (trim p) (names_of ps), cost_names ps, size_trim p)

size_comma : (n : List ℕ) → size (with_comma n) ≡ size n + 1
unfolding encode encode_char
size_comma n = size_append n (codes ",")

size_space : (n : List ℕ) → size (codes " " ++ n) ≡ 1 + size n
unfolding encode encode_char
size_space n = size_append (codes " ") n

module _ (o : Options) (max : ℕ) (cont : List ℕ) (deep : size cont ≤ 67108928) where
  room_add : (ls : List (List ℕ)) (n : List ℕ) → room_of (add_name o max cont ls n) ≤ room_of ls + (67108931 + size n)
  unfolding add_name room_of
  room_add [] n = omega (arith, size_append cont (with_comma n), size_comma n)
  room_add (cur ∷ done) n =
      choose_case (λ (ls : List (List ℕ)). room_of ls ≤ room_of (cur ∷ done) + (67108931 + size n))
      (λ h. omega (arith, size_append cont (with_comma n), size_comma n))
      (λ h. omega (arith, size_append cur (codes " " ++ with_comma n), size_space (with_comma n), size_comma n))

  room_fill : (ns ls : List (List ℕ)) → room_of (foldl (add_name o max cont) ls ns) ≤ room_of ls + name_costs ns
  unfolding name_costs
  room_fill [] ls = omega arith
  room_fill (n ∷ ns) ls = omega (arith, room_fill ns (add_name o max cont ls n), room_add ls n)

-- the two counts of an import that is split, within the size n of its line
pub record ImportFits (eol : List ℕ) (n : ℕ) (laid : Laid) : Type 0 where
  pub lines : Fit eol ((n + 1) * 67108932) laid.lines
  pub blanks : laid.blank_names ≤ n

abbrev ImportedFits : List ℕ → ℕ → Option Laid → Type 0
ImportedFits eol n none = Unit {0}
ImportedFits eol n (some laid) = ImportFits eol n laid

module _ (o : Options) (blank : all_blank o.indent ≡ true) (short : length o.indent ≤ max_indent) (level : ℕ) (flat : level ≤ max_source) where
  module _ (eol : List ℕ) (end : size eol ≤ 2) (max : ℕ) where
    room_import : (head : List ℕ) (ns : List (List ℕ)) (tail : List ℕ)
        → room_of (import_lines o max level head ns tail) ≤ 134217734 + size head + name_costs ns + size tail
    unfolding import_lines fill_names room_of encode encode_char
    room_import head ns tail =
        let cont : List ℕ = indent_of o (suc level) in
        let fill : List (List ℕ) = foldl (add_name o max cont) [] ns in
        let deep : size cont ≤ 67108928 = omega (arith, size_indent o blank short (suc level)) in
        omega (
          arith,
          room_append (reverse fill) ((indent_of o level ++ tail) ∷ []),
          room_reverse fill [],
          room_fill o max cont deep ns [],
          alone_size o blank short level tail,
          alone_size o blank short level (trim_end head ++ codes " {"),
          size_append (trim_end head) (codes " {"),
          size_trim_end head,
        )

    -- n is the size of the line: before its brace, the brace, between the braces, and from the closing one on
    fits_parts : (head inside tail : List ℕ) (n : ℕ) → size head + 1 + size inside + size tail ≤ n
        → ImportedFits eol n (import_parts o max level head (pieces (split_on "," inside)) tail)
    unfolding import_parts
    fits_parts head inside tail n h =
        let ps : List (List ℕ) = pieces (split_on "," inside) in
        choose_case (ImportedFits eol n)
        (λ t. record {
          lines = fit eol end ((n + 1) * 67108932) (import_lines o max level head (names_of ps) tail)
              (omega (arith, room_import head (names_of ps) tail, cost_names ps, split_size "," inside));
          blanks = omega (arith, blanks_count ps, split_count "," inside);
        })
        (λ t. tt)

    fits_closed : (head inside : List ℕ) (rest : List Cell) (n : ℕ) → size head + 1 + size inside + size (chars_of rest) ≤ n
        → ImportedFits eol n (closed_import o max level head inside rest)
    unfolding closed_import
    fits_closed head inside [] n h = tt
    fits_closed head inside (x ∷ xs) n h = fits_parts head inside (chars_of (x ∷ xs)) n h

    fits_opened : (head : List ℕ) (rest : List Cell) (n : ℕ) → size head + size (chars_of rest) ≤ n → ImportedFits eol n (opened_import o max level head rest)
    unfolding opened_import chars_of
    fits_opened head [] n h = tt
    fits_opened head (x ∷ xs) n h =
        let r = code_parts "}" xs in
        fits_closed head (chars_of (before_code "}" xs)) (from_code "}" xs) n
        (omega (
          arith,
          size_cons x.ch (chars_of xs),
          size_some x.ch [],
          ap size r.whole,
          size_append (chars_of (before_code "}" xs)) (chars_of (from_code "}" xs)),
        ))

    fits_import : (l : List ℕ) → ImportedFits eol (size l) (split_import o max level (classify Carry.Code l))
    unfolding split_import
    fits_import l =
        let cells = classify Carry.Code l in
        choose_case (ImportedFits eol (size l))
        (λ h. fits_opened (chars_of (before_code "{" cells)) (from_code "{" cells) (size l)
        (omega (
          arith,
          ap size (chars_classify Carry.Code l),
          ap size (code_parts "{" cells).whole,
          size_append (chars_of (before_code "{" cells)) (chars_of (from_code "{" cells)),
        )))
        (λ h. tt)

    pub import_fits : (l : List ℕ) (laid : Laid) → split_import o max level (classify Carry.Code l) ≡ some laid → ImportFits eol (size l) laid
    import_fits l laid e = subst (ImportedFits eol (size l)) e (fits_import l)

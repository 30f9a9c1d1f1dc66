-- Laws of the names of an import.
use Prim.Native.Nat.{ℕ, zero, suc, ◌+◌, ◌-◌, ◌*◌, ◌^◌, ◌≤◌, ◌<◌, zero-le}
use mathlib.Core.Bool.{Bool, true, false, cond}
use mathlib.Core.List.{List, [], ◌∷◌, ◌++◌, map, map-append, foldl, reverse, reverse-cons, append-nil, append_assoc}
use Rattle.std.specs.Prelude.{Option, Some, None}
use mathlib.Core.Path.{◌≡◌, refl, sym, ap, ◌∙◌, subst}
use native.Mathlib.Numerals.{add-one}
use native.Mathlib.Omega.{arith}
use Rattle.std.specs.Ordering.{nat_cmp, is_le}
use lib.Dec.{eqb, leb, ltb}
use lib.ListN.{length, get_or, take, drop, length-append, length-drop, drop_of_length-le}
use lib.Seq.{drop-cons, drop-drop, take-suc}
use borrow.Author.Tests.{eq-eqb, ne_eqb, eqb-true, eqb-false, le-leb, lt-leb, ltb-true, ltb-false, leb-true, leb-false, le-ltb, lt-ltb}
use Rattle.buffer.specs.Buffer.{part}
use Rattle.compare.specs.Common.{Compared}
use Rattle.buffer.specs.Repeat.{times}
use Rattle.buffer.proofs.RegionLaws.{part_from, part_more, part_join}
use Rattle.compare.proofs.WriterLaws.{compared_nil, compared_append}
use Rattle.utf8.specs.Unicode.{encode, decode, WellFormed, units, trim}
use Rattle.utf8.proofs.Tests.{by_test}
use Rattle.utf8.proofs.Decode.{encode_nil, encode_append, encode_ascii, decode_ascii, decode_scalars}
use Rattle.rules.specs.Basics.{choose, is_empty, Pieces, pieces, at_sep, split_on, is, codes}
use Rattle.rules.specs.Options.{Options, measure, over_wide}
use Rattle.rules.specs.SplitImport.{cons_name, names_of, blanks_of, with_comma, add_name, fill_names}
use Rattle.rules.proofs.Choose.{choose_true, choose_false}
use Rattle.rules.proofs.WordsBytes.{pieces_encode}
use Rattle.utf8.specs.declared.Utf16Column.{Utf16Column}
use Rattle.split.specs.declared.Part.{Part}
use Rattle.split.specs.declared.NewLine.{NewLine}
use Rattle.split.specs.Measure.{Measured, Indent, last_indent, IndentMeasured, Within, Trimmed}
use Rattle.split.specs.Text.{indented, lay, AllWell, following, line_room, LineRoom, LineWritten}
use Rattle.rules.proofs.Columns.{after_other, measure_append}
use Rattle.split.proofs.MeasureLaws.{part_length, ascii_times, column_le}
use Rattle.rules.proofs.SplitSizes.{blank_ascii}
use Rattle.rules.proofs.Scalars.{AllScalars, all_decode, split_scalars}
use Rattle.split.proofs.TextLaws.{all_well, following_append, indent_short}
use Rattle.split_import.specs.declared.Filled.{Filled}
use Rattle.std.specs.Bool.{MatchBool}
use Rattle.std.specs.List.{All, slice_split, onto_first, IsFirstMatchOrLen}
use Rattle.std.proofs.lemmas.Grind.{common_steps}
use Rattle.std.proofs.lemmas.List.Splits.{slice_split_none, slice_split_at, slice_split-cons_yes, slice_split-cons_no}
use Rattle.blocks.specs.Blocks.{FirstFrom}
use Rattle.split_import.specs.Names.{byte_at, left, NameLen, parts, CountableNames, Spaced, NamePlace, NameMeasured, NewestAt, column_of, NameFits, names_text, OnNewLine, AddedTo, Added, NamesFit, NamesWritten}

-- ---- pieces between commas

left_some : (s : List ℕ) (a : ℕ) → a ≤ length s → left s a ≡ pieces (split_on "," (drop a s))
unfolding left
left_some s a h = choose_true _ _ _ (le-leb a (length s) h)

left_none : (s : List ℕ) (a : ℕ) → length s < a → left s a ≡ []
unfolding left
left_none s a h = choose_false _ _ _ (lt-leb a (length s) h)

left_drop : (s : List ℕ) (a n : ℕ) → a ≤ length s → left (drop a s) (n + 1) ≡ left s (a + n + 1)
left_drop s a n h =
    let l = length-drop a s in
    let e : a + (n + 1) ≡ a + n + 1 = omega arith in
    by_test (leb (a + n + 1) (length s))
    (λ t. let k : a + n + 1 ≤ length s = leb-true _ _ t in left_some (drop a s) (n + 1) (omega arith) ∙ rw (drop-drop (n + 1) a s, e) (sym (left_some s (a + n + 1) k)))
    (λ t. let k : length s < a + n + 1 = leb-false _ _ t in left_none (drop a s) (n + 1) (omega arith) ∙ sym (left_none s (a + n + 1) k))

-- the piece at a, as a call with `&s[a..]` finds its length
pub left_cons : (s : List ℕ) (a n : ℕ) → a ≤ length s → NameLen (take (length s - a) (drop a s)) n → left s a ≡ part s a (a + n) ∷ left s (a + n + 1)
left_cons s a n h q =
    let p : take (length s - a) (drop a s) ≡ drop a s = part_from s a in
    let m : a + n - a ≡ n = omega arith in
    let e : pieces (split_on "," (drop a s)) ≡ take n (drop a s) ∷ left (drop a s) (n + 1) = rw p at q.is in
    left_some s a h ∙ e ∙ rw (left_drop s a n h, m)

pub name_fits : (s : List ℕ) (a n : ℕ) → a ≤ length s → NameLen (take (length s - a) (drop a s)) n → a + n ≤ length s
name_fits s a n h q = omega (arith, q.fits, ap length (part_from s a), length-drop a s)

-- ---- the first piece: no comma stands before i

record NameScan (s : List ℕ) (i : ℕ) : Type 0 where
  pub within : i ≤ length s
  pub first : (split_on "," s).first ≡ take i s ++ (split_on "," (drop i s)).first
  pub rest : (split_on "," s).rest ≡ (split_on "," (drop i s)).rest

split_cons : (s : List ℕ) (i : ℕ) → i < length s → split_on "," (drop i s) ≡ at_sep (is "," (get_or s i 0)) (get_or s i 0) (split_on "," (drop (i + 1) s))
unfolding split_on
split_cons s i h = rw (add-one, drop-cons s i 0)

name_begin : (s : List ℕ) → NameScan s 0
name_begin s = record { within = zero-le; first = refl; rest = refl }

module _ (s : List ℕ) (i : ℕ) (q : NameScan s i) where
  name_more : i < length s → (get_or s i 0 ≡ 44 → ⊥) → NameScan s (i + 1)
  unfolding at_sep
  name_more h n =
      let e : split_on "," (drop i s) ≡ at_sep false (get_or s i 0) (split_on "," (drop (i + 1) s)) = rw (ne_eqb (get_or s i 0) 44 n) at (split_cons s i h) in
      record {
        within = omega arith;
        first = q.first ∙ ap (λ (p : Pieces). take i s ++ p.first) e ∙ rw (add-one i, take-suc s i 0 h, append_assoc);
        rest = q.rest ∙ ap (λ (p : Pieces). p.rest) e;
      }

  name_found : i < length s → get_or s i 0 ≡ 44 → NameLen s i
  unfolding at_sep
  name_found h n =
      let e : split_on "," (drop i s) ≡ at_sep true (get_or s i 0) (split_on "," (drop (i + 1) s)) = rw (eq-eqb (get_or s i 0) 44 n) at (split_cons s i h) in
      let f : (split_on "," s).first ≡ take i s = q.first ∙ ap (λ (p : Pieces). take i s ++ p.first) e ∙ append-nil (take i s) in
      let r : (split_on "," s).rest ≡ pieces (split_on "," (drop (i + 1) s)) = q.rest ∙ ap (λ (p : Pieces). p.rest) e in
      record { fits = q.within; is = rw (f, r, left_some s (i + 1) (omega arith)) }

  name_end : length s ≤ i → NameLen s i
  unfolding split_on
  name_end h =
      let d : drop i s ≡ [] = drop_of_length-le s {i = i} h in
      let f : (split_on "," s).first ≡ take i s = q.first ∙ rw (d, append-nil) in
      let r : (split_on "," s).rest ≡ [] = q.rest ∙ rw d in
      record { fits = q.within; is = rw (f, r, left_none s (i + 1) (omega arith)) }

-- the first comma, as `first_from` finds it
module _ (s : List ℕ) (r : ℕ) (f : FirstFrom (byte_at 44 s) 0 (length s) r) where
  name_run : (n : ℕ) → n ≤ r → NameScan s n
  name_run zero h = name_begin s
  name_run (suc n) h =
      rw (← (add-one n)) (name_more s n (name_run n (omega arith)) (omega (arith, f.within)) (eqb-false (get_or s n 0) 44 (f.none n zero-le (omega arith))))

  pub name_first : NameLen s r
  name_first =
      by_test (ltb r (length s))
      (λ t. let h : r < length s = ltb-true r (length s) t in name_found s r (name_run r (omega arith)) h (eqb-true (get_or s r 0) 44 (f.passes h)))
      (λ t. name_end s r (name_run r (omega arith)) (ltb-false r (length s) t))

-- ---- the pieces' characters

pub record AllPieces (s : List ℕ) : Type 0 where
  pub well : AllWell (left s 0)
  pub chars : map decode (left s 0) ≡ parts s

pub all_pieces : (s : List ℕ) → WellFormed s → AllPieces s
all_pieces s w =
    let e : left s 0 ≡ map encode (parts s) = left_some s 0 zero-le ∙ ap (λ (l : List ℕ). pieces (split_on "," l)) (sym w) ∙ pieces_encode "," refl (decode s) in
    let z : AllScalars (parts s) = split_scalars "," (decode s) (decode_scalars s) in
    record { well = rw e (all_well (parts s) z); chars = ap (map decode) e ∙ all_decode (parts s) z }

-- ---- a name, or a blank piece

none_decoded : (s : List ℕ) → length s ≡ 0 → decode s ≡ []
none_decoded [] h = decode_ascii [] tt
none_decoded (b ∷ s) h = absurd (omega arith)

some_decoded : (s : List ℕ) → WellFormed s → 0 < length s → 0 < length (decode s)
some_decoded s w h = go (decode s) w
  where
    go : (l : List ℕ) → encode l ≡ s → 0 < length l
    go [] e = absurd (omega (arith, ap length (sym encode_nil ∙ e)))
    go (c ∷ l) e = omega arith

module _ (s : List ℕ) (a e : ℕ) (p : Part) (u : Trimmed s a e p) (h : e ≤ length s) where
  long : length (part s p.start p.end) ≡ p.end - p.start
  long = part_length s p.start p.end (omega (arith, u.fits))

  pub blank_piece : p.start ≡ p.end → trim (decode (part s a e)) ≡ []
  blank_piece z = sym u.text ∙ none_decoded (part s p.start p.end) (omega (arith, long))

  pub name_piece : (p.start ≡ p.end → ⊥) → 0 < length (trim (decode (part s a e)))
  name_piece z = subst (λ (l : List ℕ). 0 < length l) u.text (some_decoded (part s p.start p.end) u.well (omega (arith, long, u.order)))

cons_none : (n : List ℕ) (ns : List (List ℕ)) → n ≡ [] → cons_name n ns ≡ ns
unfolding cons_name
cons_none n ns e = rw e

cons_some : (n : List ℕ) (ns : List (List ℕ)) → 0 < length n → cons_name n ns ≡ n ∷ ns
unfolding cons_name
cons_some [] ns h = absurd (omega arith)
cons_some (c ∷ cs) ns h = refl

names_cons : (d : List ℕ) (ds : List (List ℕ)) → names_of (d ∷ ds) ≡ cons_name (trim d) (names_of ds)
unfolding names_of
names_cons d ds = refl

blanks_none : (d : List ℕ) (ds : List (List ℕ)) → trim d ≡ [] → blanks_of (d ∷ ds) ≡ 1 + blanks_of ds
unfolding blanks_of choose
blanks_none d ds e = rw e

blanks_some : (d : List ℕ) (ds : List (List ℕ)) → 0 < length (trim d) → blanks_of (d ∷ ds) ≡ blanks_of ds
unfolding blanks_of choose
blanks_some d ds h = go (trim d) h
  where
    go : (l : List ℕ) → 0 < length l → choose (is_empty l) 1 0 + blanks_of ds ≡ blanks_of ds
    go [] h = absurd (omega arith)
    go (c ∷ cs) h = omega arith

-- ---- the pieces before a are read

-- the piece at a is well-formed
pub piece_within : (s : List ℕ) (a n : ℕ) → AllWell (left s a) → a ≤ length s → NameLen (take (length s - a) (drop a s)) n → Within s a (a + n)
piece_within s a n w h q =
    let v : AllWell (part s a (a + n) ∷ left s (a + n + 1)) = subst AllWell (left_cons s a n h q) w in
    record { order = omega arith; fits = name_fits s a n h q; well = v.0 }

-- the piece at a, its name, and the pieces after it
module _ (s : List ℕ) (a n : ℕ) (h : a ≤ length s) (l : NameLen (take (length s - a) (drop a s)) n) where
  cons : left s a ≡ part s a (a + n) ∷ left s (a + n + 1)
  cons = left_cons s a n h l

  well_left : AllWell (left s a) → AllWell (left s (a + n + 1))
  well_left w = let v : AllWell (part s a (a + n) ∷ left s (a + n + 1)) = subst AllWell cons w in v.1

  abbrev chars : List ℕ
  chars = decode (part s a (a + n))

  abbrev later : List (List ℕ)
  later = map decode (left s (a + n + 1))

  module _ (p : Part) (u : Trimmed s a (a + n) p) where
    names_blank : p.start ≡ p.end → names_of (map decode (left s a)) ≡ names_of later
    names_blank z =
        ap (λ (ps : List (List ℕ)). names_of (map decode ps)) cons
        ∙ rw (names_cons chars later, cons_none (trim chars) (names_of later) (blank_piece s a (a + n) p u (name_fits s a n h l) z))

    names_name : (p.start ≡ p.end → ⊥) → names_of (map decode (left s a)) ≡ decode (part s p.start p.end) ∷ names_of later
    names_name z =
        ap (λ (ps : List (List ℕ)). names_of (map decode ps)) cons
        ∙ rw (names_cons chars later, cons_some (trim chars) (names_of later) (name_piece s a (a + n) p u (name_fits s a n h l) z), u.text)

    blanks_blank : p.start ≡ p.end → blanks_of (map decode (left s a)) ≡ 1 + blanks_of later
    blanks_blank z =
        ap (λ (ps : List (List ℕ)). blanks_of (map decode ps)) cons ∙ blanks_none chars later (blank_piece s a (a + n) p u (name_fits s a n h l) z)

    blanks_name : (p.start ≡ p.end → ⊥) → blanks_of (map decode (left s a)) ≡ blanks_of later
    blanks_name z =
        ap (λ (ps : List (List ℕ)). blanks_of (map decode ps)) cons ∙ blanks_some chars later (name_piece s a (a + n) p u (name_fits s a n h l) z)

-- ---- the pieces as `split` gives them

abbrev pub comma : ℕ → Bool
comma b = eqb b 44

split_list : (s : List ℕ) → slice_split comma s ≡ pieces (split_on "," s)
unfolding split_on at_sep
split_list [] = refl
split_list (b ∷ s) =
    by_test (comma b)
    (λ t. slice_split-cons_yes comma b s t ∙ ap (λ (l : List (List ℕ)). [] ∷ l) (split_list s) ∙ sym (ap (λ (c : Bool). pieces (at_sep c b (split_on "," s))) t))
    (λ t. slice_split-cons_no comma b s t ∙ ap (onto_first b) (split_list s) ∙ sym (ap (λ (c : Bool). pieces (at_sep c b (split_on "," s))) t))

-- those that are left; none once all are given
abbrev pub unread : Bool → List ℕ → List (List ℕ)
unread done rest = cond done [] (slice_split comma rest)

-- what `split` says of the piece x that it gives
abbrev pub Cut : List ℕ → List ℕ → List ℕ → Bool → Type 0
Cut rest x rest' done = MatchBool done (rest ≡ x) ((y : ℕ) × (rest ≡ x ++ (y ∷ rest')))

split_step : (rest x rest' : List ℕ) (done : Bool) → Cut rest x rest' done → IsFirstMatchOrLen comma rest (length x) → slice_split comma rest ≡ x ∷ unread done rest'
split_step rest x rest' true e h = ap (slice_split comma) e ∙ slice_split_none comma x (λ k d l. subst (λ (ys : List ℕ). comma (get_or ys k d) ≡ false) e (h.0 k d (omega arith) l))
split_step rest x rest' false e h =
    let front : All (λ z. comma z ≡ false) x = λ k d l. let a = h.0 k d (omega arith) l in let b = e.1 in grind (arith, common_steps) in
    let hit : comma e.0 ≡ true = let b = e.1 in let a = h.1 (grind (arith, common_steps)) e.0 in grind (arith, common_steps) in
    ap (slice_split comma) e.1 ∙ slice_split_at comma x e.0 rest' front hit

-- ---- whether there are two names: one of the pieces that were given is, or none

pub record Counting (s : List ℕ) (some done : Bool) (rest : List ℕ) : Type 0 where
  pub well : AllWell (unread done rest)
  pub named : length (names_of (parts s)) ≡ cond some 1 0 + length (names_of (map decode (unread done rest)))

pub counting_start : (s : List ℕ) → CountableNames s → Counting s false false s
counting_start s c =
    let q : AllPieces s = all_pieces s c.well in
    let e : left s 0 ≡ slice_split comma s = left_some s 0 zero-le ∙ sym (split_list s) in
    let n : length (names_of (parts s)) ≡ length (names_of (map decode (slice_split comma s))) = ap (λ (l : List (List ℕ)). length (names_of l)) (sym q.chars ∙ ap (map decode) e) in
    record { well = subst AllWell e q.well; named = omega (arith, n) }

module _ (s : List ℕ) (some done done' : Bool) (rest rest' x : List ℕ) (q : Counting s some done rest) (d : done ≡ false) (c : Cut rest x rest' done') (f : IsFirstMatchOrLen comma rest (length x)) where
  cut : unread done rest ≡ x ∷ unread done' rest'
  cut = ap (λ (b : Bool). unread b rest) d ∙ split_step rest x rest' done' c f

  whole : part x 0 (length x) ≡ x
  whole = part_from x 0

  wells : AllWell (x ∷ unread done' rest')
  wells = subst AllWell cut q.well

  named_now : length (names_of (parts s)) ≡ cond some 1 0 + length (names_of (decode x ∷ map decode (unread done' rest')))
  named_now = q.named ∙ ap (λ (l : List (List ℕ)). cond some 1 0 + length (names_of (map decode l))) cut

  pub piece_whole : Within x 0 (length x)
  piece_whole = record { order = zero-le; fits = omega arith; well = rw whole (wells.0) }

  module _ (p : Part) (u : Trimmed x 0 (length x) p) where
    pub counting_blank : p.start ≡ p.end → Counting s some done' rest'
    counting_blank z =
        let t : trim (decode x) ≡ [] = rw whole at (blank_piece x 0 (length x) p u (omega arith) z) in
        record {
          well = wells.1;
          named = named_now ∙ ap (λ (l : List (List ℕ)). cond some 1 0 + length l) (names_cons (decode x) (map decode (unread done' rest')) ∙ cons_none (trim (decode x)) (names_of (map decode (unread done' rest'))) t);
        }

    module _ (z : p.start ≡ p.end → ⊥) where
      one_more : names_of (decode x ∷ map decode (unread done' rest')) ≡ trim (decode x) ∷ names_of (map decode (unread done' rest'))
      one_more =
          let t : 0 < length (trim (decode x)) = rw whole at (name_piece x 0 (length x) p u (omega arith) z) in
          names_cons (decode x) (map decode (unread done' rest')) ∙ cons_some (trim (decode x)) (names_of (map decode (unread done' rest'))) t

      pub counting_first : some ≡ false → Counting s true done' rest'
      counting_first e =
          let n = rw e at named_now in
          record { well = wells.1; named = omega (arith, n, ap length one_more) }

      pub counting_second : some ≡ true → false ≡ ltb (length (names_of (parts s))) 2
      counting_second e =
          let n = rw e at named_now in
          sym (le-ltb (length (names_of (parts s))) 2 (omega (arith, n, ap length one_more)))

pub counting_end : (s : List ℕ) (some done : Bool) (rest : List ℕ) → Counting s some done rest → done ≡ true → true ≡ ltb (length (names_of (parts s))) 2
unfolding names_of
counting_end s some done rest q d = sym (lt-ltb (length (names_of (parts s))) 2 (go some (rw d at q.named)))
  where
    go : (some : Bool) → length (names_of (parts s)) ≡ cond some 1 0 + 0 → length (names_of (parts s)) < 2
    go true e = omega arith
    go false e = omega arith

-- ---- a name on a line

-- one character that is no tab and takes one UTF-16 unit
one_measured : (ruler from c : ℕ) → eqb c 9 ≡ false → c < 0x10000 → measure ruler from (c ∷ []) ≡ from + 1
unfolding measure units
one_measured ruler from c n h = after_other ruler from c n ∙ rw (lt-ltb c 0x10000 h)

pub name_measured : (ruler from : ℕ) (name : List ℕ) (m : ℕ) → Measured ruler from name m → NameMeasured ruler from name (m + 1)
name_measured ruler from name m p =
    record {
      is = sym (measure_append ruler from (decode name) (44 ∷ []) ∙ one_measured ruler _ 44 refl (omega arith) ∙ ap (λ (k : ℕ). k + 1) (sym p.is));
      small = omega (arith, p.small);
    }

-- ---- what is written of a name

between_is : (s : List ℕ) (a e : ℕ) → 0 < a → a ≤ e → e < length s → part s (a - 1) (e + 1) ≡ get_or s (a - 1) 0 ∷ (part s a e ++ get_or s e 0 ∷ [])
between_is s a e h k l =
    part_join s (a - 1) a (e + 1) (omega arith) (omega arith) ∙ rw (part_more s a e k l) (ap (λ (x : List ℕ). x ++ (part s a e ++ get_or s e 0 ∷ [])) one)
  where
    one : part s (a - 1) a ≡ get_or s (a - 1) 0 ∷ []
    one =
        let n : a - 1 + 1 ≡ a = omega arith in
        let z : a - 1 - (a - 1) ≡ 0 = omega arith in
        rw (n, z) at (part_more s (a - 1) (a - 1) (omega arith) (omega arith))

module _ (s : List ℕ) (p : Part) where
  pub spaced : Within s p.start p.end → (p.start ≡ 0 → ⊥) → p.end < length s → get_or s (p.start - 1) 0 ≡ 32 → Spaced s p (eqb (get_or s p.end 0) 44)
  spaced w z h b =
      record {
        is = λ e. record {
          after = omega arith;
          within = h;
          text = between_is s p.start p.end (omega arith) w.order h ∙ rw (b, eqb-true (get_or s p.end 0) 44 e);
        };
      }

pub spaced_within : (s : List ℕ) (p : Part) (r : Bool) → Spaced s p r → r ≡ true → p.end + 1 ≤ length s
spaced_within s p r q e = omega (arith, (q.is e).within)

pub put_name : (name : List ℕ) {model x y z u : List ℕ} {at n m r : ℕ} → Compared model x y at (32 ∷ []) n → Compared model y z n name m → Compared model z u m (44 ∷ []) r
    → Compared model x u at (32 ∷ (name ++ 44 ∷ [])) r
put_name name a b c = compared_append (compared_append a b) c

pub put_line : (eol indent : List ℕ) (level : ℕ) (name : List ℕ) {model x y z : List ℕ} {at n r : ℕ} → Compared model x y at (eol ++ lay indent level name) n → Compared model y z n (44 ∷ []) r
    → Compared model x z at (eol ++ lay indent level (name ++ 44 ∷ [])) r
put_line eol indent level name a b =
    rw (← (append_assoc (times level indent) name (44 ∷ [])), ← (append_assoc eol (times level indent ++ name) (44 ∷ []))) (compared_append a b)

pub line_room_law : {eol indent : List ℕ} {level : ℕ} {name : List ℕ} {at : ℕ} → NamePlace eol indent level name at → LineRoom eol indent level name at
line_room_law q = record { indents = q.indents; end = q.end; room = omega (arith, q.room) }

pub comma_room : {eol indent : List ℕ} {level : ℕ} {name : List ℕ} {at : ℕ} (q : NamePlace eol indent level name at) {model x y : List ℕ} {r : NewLine} → LineWritten eol (lay indent level name) model x y at r
    → r.next + 1 < 2 ^ 64
comma_room {eol} {indent} {level} {name} q a =
    omega (arith, a.text.next, q.end, q.room, indent_short indent level q.indents, length-append eol (times level indent ++ name), length-append (times level indent) name)

pub on_new_line : (ruler : ℕ) (indent : List ℕ) (level : ℕ) (eol name model out out' : List ℕ) (f : Filled) (c : ℕ) (col : Utf16Column) (at : ℕ) → IndentMeasured ruler indent level c → NameMeasured ruler c name col.0
    → Compared model out out' f.at (eol ++ lay indent level (name ++ 44 ∷ [])) at → OnNewLine ruler indent level eol name model out out' f (record { at = at; column = Some col })
on_new_line ruler indent level eol name model out out' f c col at p q a =
    record {
      text = a;
      column =
          ap {B = Option Utf16Column} (λ (k : ℕ). Some (record { 0 = k }))
          (q.is ∙ ap (λ (k : ℕ). measure ruler k (with_comma (decode name))) p.is
          ∙ sym (measure_append ruler 0 (times level indent) (with_comma (decode name))));
      small = omega (arith, p.small, q.small);
    }

-- the text of one line more
text_cons : (eol l : List ℕ) (ls : List (List ℕ)) → names_text eol (l ∷ ls) ≡ names_text eol ls ++ (eol ++ encode l)
unfolding following
text_cons eol l ls =
    ap (λ (x : List (List ℕ)). following eol (map encode x)) (reverse-cons l ls) ∙ ap (following eol) (map-append encode (reverse ls) (l ∷ []))
    ∙ following_append eol (map encode (reverse ls)) (encode l ∷ []) ∙ rw (append-nil (eol ++ encode l))

-- a name and its comma in bytes
name_bytes : (name : List ℕ) → WellFormed name → encode (with_comma (decode name)) ≡ name ++ 44 ∷ []
name_bytes name w = encode_append (decode name) (44 ∷ []) ∙ rw (w, encode_ascii (44 ∷ []) (omega arith, tt))

line_bytes : (indent : List ℕ) (level : ℕ) (name : List ℕ) → Indent indent level → WellFormed name → encode (times level indent ++ with_comma (decode name)) ≡ lay indent level (name ++ 44 ∷ [])
line_bytes indent level name p w =
    encode_append (times level indent) (with_comma (decode name)) ∙ rw (name_bytes name w, encode_ascii (times level indent) (ascii_times level indent (blank_ascii indent p.blank)))

-- the text of a line that grows by a name
grown_line : (eol cur name : List ℕ) (done : List (List ℕ)) → WellFormed name
    → names_text eol done ++ (eol ++ encode (cur ++ (codes " " ++ with_comma (decode name)))) ≡ names_text eol (cur ∷ done) ++ (32 ∷ (name ++ 44 ∷ []))
grown_line eol cur name done w =
    let x : encode (codes " " ++ with_comma (decode name)) ≡ 32 ∷ (name ++ 44 ∷ []) = encode_append (codes " ") (with_comma (decode name)) ∙ rw (name_bytes name w, encode_ascii (codes " ") (omega arith, tt)) in
    rw (encode_append cur (codes " " ++ with_comma (decode name)), x, text_cons eol cur done, append_assoc (names_text eol done) (eol ++ encode cur) (32 ∷ (name ++ 44 ∷ [])), append_assoc eol (encode cur) (32 ∷ (name ++ 44 ∷ [])))

module _ (ruler : ℕ) (indent : List ℕ) (level : ℕ) (eol : List ℕ) (max : ℕ) (name model out : List ℕ) (f : Filled) where
  abbrev opts : Options
  opts = indented indent ruler

  abbrev cont : List ℕ
  cont = times level indent

  module _ (fits : NameFits indent level eol name f) where
    abbrev new_line : List ℕ
    new_line = cont ++ with_comma (decode name)

    added_line : (lines : List (List ℕ)) (out' : List ℕ) (r : Filled) → OnNewLine ruler indent level eol name model out out' f r → AddedTo ruler lines (new_line ∷ lines) eol model out out' f r
    added_line lines out' r q =
        record {
          column = record { is = q.column };
          grown = eol ++ lay indent level (name ++ 44 ∷ []);
          text = q.text;
          grows = text_cons eol new_line lines ∙ rw (line_bytes indent level name fits.indents fits.well);
        }

    abbrev Result : List ℕ → Filled → Type 0
    Result out' r = Added ruler indent level eol max name model out out' f r

    line_small : (out' : List ℕ) (r : Filled) → OnNewLine ruler indent level eol name model out out' f r → (n : ℕ) → last_indent ≤ n → column_of f.column ≤ n → column_of r.column ≤ n + 255 * length name + 510
    line_small out' r q n h k = omega (arith, q.small)

    line_at_law : (out' : List ℕ) (r : Filled) → OnNewLine ruler indent level eol name model out out' f r → r.at ≤ f.at + (67108931 + length name)
    line_at_law out' r q =
        omega (arith, q.text.next, length-append eol (lay indent level (name ++ 44 ∷ [])), length-append cont (name ++ 44 ∷ []), length-append name (44 ∷ []), indent_short indent level fits.indents, fits.end)

    -- the first line
    pub add_first : (out' : List ℕ) (r : Filled) → f.column ≡ None → OnNewLine ruler indent level eol name model out out' f r → Result out' r
    unfolding add_name
    add_first out' r e q =
        record {
          to = go;
          small = line_small out' r q;
          room = line_at_law out' r q;
        }
      where
        go : (lines : List (List ℕ)) → NewestAt ruler lines f → AddedTo ruler lines (add_name opts max cont lines (decode name)) eol model out out' f r
        go [] c = added_line [] out' r q
        go (cur ∷ done) c = absurd (let y : ◌≡◌ {A = ℕ} 0 1 = cc (c.is, e) in omega arith)

    module _ (n : ℕ) (w : Utf16Column) (e : f.column ≡ Some w) (q : NameMeasured ruler (w.0 + 1) name n) where
      abbrev joined_line : List ℕ → List ℕ
      joined_line cur = cur ++ (codes " " ++ with_comma (decode name))

      -- the column that the newest line would reach
      column_of_law : (cur : List ℕ) (done : List (List ℕ)) → NewestAt ruler (cur ∷ done) f → n ≡ measure ruler 0 (joined_line cur)
      column_of_law cur done c =
          q.is ∙ ap (λ (k : ℕ). measure ruler k (with_comma (decode name))) (ap (λ (k : Option Utf16Column). column_of k + 1) (sym e ∙ c.is) ∙ sym (one_measured ruler (measure ruler 0 cur) 32 refl (omega arith)))
          ∙ sym (measure_append ruler 0 cur (codes " " ++ with_comma (decode name)) ∙ measure_append ruler (measure ruler 0 cur) (codes " ") (with_comma (decode name)))

      pub add_wide : (out' : List ℕ) (r : Filled) (b : Bool) → b ≡ is_le (nat_cmp n max) → b ≡ false → OnNewLine ruler indent level eol name model out out' f r → Result out' r
      unfolding add_name over_wide
      add_wide out' r b i j l =
          record {
            to = go;
            small = line_small out' r l;
            room = line_at_law out' r l;
          }
        where
          h : max < n
          h = leb-false n max (sym (column_le n max) ∙ sym i ∙ j)

          go : (lines : List (List ℕ)) → NewestAt ruler lines f → AddedTo ruler lines (add_name opts max cont lines (decode name)) eol model out out' f r
          go [] c = absurd (let y : ◌≡◌ {A = ℕ} 0 1 = cc (c.is, e) in omega arith)
          go (cur ∷ done) c =
              rw (choose_true (ltb max (measure ruler 0 (joined_line cur))) (new_line ∷ cur ∷ done) (joined_line cur ∷ done) (rw (← (column_of_law cur done c)) (lt-ltb max n h)))
              (added_line (cur ∷ done) out' r l)

      pub add_here : (out' : List ℕ) (col : Utf16Column) (at : ℕ) (b : Bool) → col.0 ≡ n → b ≡ is_le (nat_cmp n max) → b ≡ true → Compared model out out' f.at (32 ∷ (name ++ 44 ∷ [])) at → Result out' (record { at = at; column = Some col })
      unfolding add_name over_wide
      add_here out' col at b k i j a =
          record {
            to = go;
            small = λ m i j. omega (arith, q.small, ap column_of e, k);
            room = omega (arith, a.next, length-append name (44 ∷ []));
          }
        where
          h : n ≤ max
          h = leb-true n max (sym (column_le n max) ∙ sym i ∙ j)

          go : (lines : List (List ℕ)) → NewestAt ruler lines f → AddedTo ruler lines (add_name opts max cont lines (decode name)) eol model out out' f (record { at = at; column = Some col })
          go [] c = absurd (let y : ◌≡◌ {A = ℕ} 0 1 = cc (c.is, e) in omega arith)
          go (cur ∷ done) c =
              rw (choose_false (ltb max (measure ruler 0 (joined_line cur))) (new_line ∷ cur ∷ done) (joined_line cur ∷ done) (rw (← (column_of_law cur done c)) (le-ltb max n h)))
              (record {
                column = record { is = ap {B = Option Utf16Column} (λ (x : ℕ). Some (record { 0 = x })) (k ∙ column_of_law cur done c) };
                grown = 32 ∷ (name ++ 44 ∷ []);
                text = a;
                grows = text_cons eol (joined_line cur) done ∙ grown_line eol cur name done fits.well;
              })

-- ---- the lines of names: the pieces before a are on them

pub record Filling (ruler : ℕ) (s indent : List ℕ) (level : ℕ) (eol : List ℕ) (max : ℕ) (model out₀ : List ℕ) (at : ℕ) (out : List ℕ) (f : Filled) (blanks a : ℕ) : Type 0 where
  pub pre : NamesFit s indent level eol at
  pub within : a ≤ length s + 1
  pub well : AllWell (left s a)
  pub lines : List (List ℕ)
  pub fill : fill_names (indented indent ruler) max (times level indent) (names_of (parts s)) ≡ foldl (add_name (indented indent ruler) max (times level indent)) lines (names_of (map decode (left s a)))
  pub column : NewestAt ruler lines f
  pub text : Compared model out₀ out at (names_text eol lines) f.at
  pub narrow : column_of f.column ≤ last_indent + 510 * a
  pub room : f.at ≤ at + a * line_room
  pub as_long : length out ≡ length out₀
  pub blank : blanks_of (parts s) ≡ blanks + blanks_of (map decode (left s a))
  pub few : blanks ≤ a

pub filling_start : (ruler : ℕ) (s indent : List ℕ) (level : ℕ) (eol : List ℕ) (max : ℕ) (model out : List ℕ) (at : ℕ) → NamesFit s indent level eol at
    → Filling ruler s indent level eol max model out at out (record { at = at; column = None }) 0 0
unfolding fill_names following
filling_start ruler s indent level eol max model out at p =
    let q : AllPieces s = all_pieces s p.well in
    record {
      pre = p;
      within = zero-le;
      well = q.well;
      lines = [];
      fill = rw (← q.chars);
      column = record { is = refl };
      text = compared_nil model out at;
      narrow = omega arith;
      room = omega arith;
      as_long = refl;
      blank = rw (← q.chars) (omega arith);
      few = zero-le;
    }

module _ (ruler : ℕ) (s indent : List ℕ) (level : ℕ) (eol : List ℕ) (max : ℕ) (model out₀ : List ℕ) (at : ℕ) (out : List ℕ) (f : Filled) (blanks a : ℕ) (q : Filling ruler s indent level eol max model out₀ at out f blanks a)
    (n : ℕ) (h : a ≤ length s) (l : NameLen (take (length s - a) (drop a s)) n) (p : Part) (u : Trimmed s a (a + n) p) where
  abbrev name : List ℕ
  name = part s p.start p.end

  name_long : length name ≤ n
  name_long = omega (arith, part_length s p.start p.end (omega (arith, u.fits, name_fits s a n h l)), u.after, u.fits)

  abbrev add : List (List ℕ) → List ℕ → List (List ℕ)
  add = add_name (indented indent ruler) max (times level indent)

  pub filling_blank : p.start ≡ p.end → Filling ruler s indent level eol max model out₀ at out f (blanks + 1) (a + n + 1)
  filling_blank z =
      record {
        pre = q.pre;
        within = omega (arith, name_fits s a n h l);
        well = well_left s a n h l q.well;
        lines = q.lines;
        fill = q.fill ∙ ap (foldl add q.lines) (names_blank s a n h l p u z);
        column = q.column;
        text = q.text;
        narrow = omega (arith, q.narrow);
        room = omega (arith, q.room);
        as_long = q.as_long;
        blank = q.blank ∙ rw (blanks_blank s a n h l p u z) (omega arith);
        few = omega (arith, q.few);
      }

  pub filling_name : (out' : List ℕ) (r : Filled) → (p.start ≡ p.end → ⊥) → Added ruler indent level eol max name model out out' f r → length out' ≡ length out
      → Filling ruler s indent level eol max model out₀ at out' r blanks (a + n + 1)
  filling_name out' r z g k =
      let to = g.to q.lines q.column in
      record {
        pre = q.pre;
        within = omega (arith, name_fits s a n h l);
        well = well_left s a n h l q.well;
        lines = add q.lines (decode name);
        fill = q.fill ∙ ap (foldl add q.lines) (names_name s a n h l p u z);
        column = to.column;
        text = rw to.grows (compared_append q.text to.text);
        narrow = omega (arith, g.small (last_indent + 510 * a) (omega arith) q.narrow, name_long);
        room = omega (arith, g.room, q.room, name_long);
        as_long = k ∙ q.as_long;
        blank = q.blank ∙ ap (λ (m : ℕ). blanks + m) (blanks_name s a n h l p u z);
        few = omega (arith, q.few);
      }

pub filling_end : (ruler : ℕ) (s indent : List ℕ) (level : ℕ) (eol : List ℕ) (max : ℕ) (model out₀ : List ℕ) (at : ℕ) (out : List ℕ) (f : Filled) (blanks a : ℕ) → Filling ruler s indent level eol max model out₀ at out f blanks a → length s < a
    → NamesWritten ruler s indent level eol max model out₀ out at (record { next = f.at; blanks = blanks })
unfolding names_of blanks_of
filling_end ruler s indent level eol max model out₀ at out f blanks a q h =
    let e : fill_names (indented indent ruler) max (times level indent) (names_of (parts s)) ≡ q.lines = q.fill ∙ rw (left_none s a h) in
    record { text = rw e q.text; room = omega (arith, q.room, q.within); blanks = sym (q.blank ∙ rw (left_none s a h) (omega arith)) }

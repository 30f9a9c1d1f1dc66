-- Laws on columns and on parts of a line.
use Prim.Native.Nat.{ℕ, zero, suc, ◌+◌, ◌-◌, ◌*◌, ◌%◌, ◌^◌, ◌≤◌, ◌<◌}
use mathlib.Core.Bool.{false}
use mathlib.Core.List.{List, [], ◌∷◌, ◌++◌, append-nil}
use mathlib.Core.Path.{◌≡◌, refl, sym, ap, ◌∙◌, subst}
use native.Mathlib.Numerals.{add-one}
use native.Mathlib.Omega.{arith}
use native.Mathlib.Nat.{zero-add, mul-le-mul}
use lib.ListN.{length, get_or, take, drop, length-drop, drop_of_length-le}
use lib.Seq.{take-take, length-take-le, drop-drop, drop-cons}
use lib.Dec.{T, eqb, leb, ltb}
use borrow.Author.Tests.{eqb-true, eq-eqb, ne_eqb, lt-ltb, le-ltb, le-leb, lt-leb}
use Rattle.std.proofs.Common.{Ordering}
use Rattle.std.specs.Ordering.{nat_cmp, is_le}
use Rattle.std.proofs.lemmas.Cmp.{ranked}
use Rattle.buffer.specs.Buffer.{part}
use Rattle.buffer.specs.Repeat.{times}
use Rattle.buffer.proofs.RegionLaws.{part_from, drop_take}
use Rattle.buffer.proofs.RepeatLaws.{length_times}
use Rattle.utf8.specs.Unicode.{is_scalar, Scalars, encode_char, encode, decode, size, WellFormed, units, width, trim, trim_end}
use Rattle.utf8.specs.Places.{units_of, TrimmedStart, TrimmedEnd, total}
use Rattle.utf8.proofs.Tests.{by_test}
use Rattle.utf8.proofs.Table.{High, also, Bytes, single, several}
use Rattle.utf8.proofs.Table.{bytes as bytes_of}
use Rattle.utf8.proofs.Bytewise.{total_small, width_bytes, width_nil, width_cons}
use Rattle.utf8.proofs.Decode.{Ascii, ascii_append, encode_nil, encode_cons, encode_ascii, size_append, decode_ascii, decode_encode, decode_scalars, wf_ascii, wf_encode}
use Rattle.rules.proofs.Choose.{choose_true, choose_false}
use Rattle.rules.proofs.Columns.{stop_left_over, after_tab, after_other, measure_append, measure_zero, measure_short, measure_grows, indent_levels}
use Rattle.rules.proofs.SplitSizes.{blank_ascii}
use Rattle.rules.specs.Options.{column_after, measure}
use Rattle.split.specs.Measure.{byte_after, ByteMeasured, Measurable, Measured, Indent, IndentMeasured, Wide, Within, Trimmed}

-- ---- columns, byte by byte

-- the column that bytes reach
unfoldable pub byte_measure : ℕ → ℕ → List ℕ → ℕ
byte_measure r from [] = from
byte_measure r from (b ∷ bs) = byte_measure r (byte_after r from b) bs

module _ (r from b : ℕ) (below : r < 256) where
  pub byte_tab : (b ≡ 9) → (0 < r) × (from + 256 < 2 ^ 64) → ByteMeasured r from b (from + (r - from % r))
  unfolding byte_after
  byte_tab e h = record { is = sym (choose_true _ _ _ (eq-eqb b 9 e) ∙ stop_left_over r from h.0); small = omega arith }

  pub byte_other : (u : ℕ) → (b ≡ 9 → ⊥) → (0 < r) → (u ≡ units_of b) × (u ≤ 2) → ByteMeasured r from b (from + u)
  unfolding byte_after
  byte_other u n h e = record { is = sym (choose_false _ _ _ (ne_eqb b 9 n) ∙ ap (λ (k : ℕ). from + k) (sym e.0)); small = omega (arith, e.1) }

byte_high : (r from b : ℕ) → 0x80 ≤ b → byte_after r from b ≡ from + units_of b
unfolding byte_after
byte_high r from b h = choose_false _ _ _ (ne_eqb b 9 (λ e. omega arith))

high_bytes : (r from : ℕ) (bs rest : List ℕ) → High bs → byte_measure r from (bs ++ rest) ≡ byte_measure r (from + total units_of bs) rest
unfolding byte_measure
high_bytes r from [] rest h = ap (λ (k : ℕ). byte_measure r k rest) (omega arith)
high_bytes r from (b ∷ bs) rest (also p q) =
    ap (λ (k : ℕ). byte_measure r k (bs ++ rest)) (byte_high r from b p) ∙ high_bytes r (from + units_of b) bs rest q ∙ ap (λ (k : ℕ). byte_measure r k rest) (omega arith)

-- the bytes of a character
char_units : (c : ℕ) → T (is_scalar c) → total units_of (encode_char c) ≡ units c
char_units c s =
    sym (ap (total units_of) (encode_cons c [] ∙ ap (λ (l : List ℕ). encode_char c ++ l) encode_nil ∙ append-nil (encode_char c)))
    ∙ width_bytes (encode (c ∷ [])) (wf_encode (c ∷ []) (s, tt)) ∙ ap width (decode_encode (c ∷ []) (s, tt)) ∙ width_cons c [] ∙ rw width_nil (omega arith)

char_bytes : (r from c : ℕ) (rest : List ℕ) → 0 < r → T (is_scalar c) → byte_measure r from (encode_char c ++ rest) ≡ byte_measure r (column_after r from c) rest
unfolding byte_measure
char_bytes r from c rest h s = go (encode_char c) (bytes_of c) (char_units c s)
  where
    go : (bs : List ℕ) → Bytes c bs → total units_of bs ≡ units c → byte_measure r from (bs ++ rest) ≡ byte_measure r (column_after r from c) rest
    go bs (single p) e =
        ap (λ (k : ℕ). byte_measure r k rest)
        (unfold byte_after in (by_test (eqb c 9)
        (λ t. choose_true _ _ _ t ∙ sym (after_tab r from c h (eqb-true c 9 t)))
        (λ t. choose_false _ _ _ t ∙ sym (after_other r from c t ∙ ap (λ (k : ℕ). from + k) (sym e ∙ omega arith)))))
    go bs (several p q k) e =
        high_bytes r from bs rest (also q k)
        ∙ ap (λ (n : ℕ). byte_measure r n rest) (ap (λ (n : ℕ). from + n) e ∙ sym (after_other r from c (ne_eqb c 9 (λ t. omega arith))))

chars_bytes : (r from : ℕ) (cs : List ℕ) → 0 < r → Scalars cs → byte_measure r from (encode cs) ≡ measure r from cs
unfolding measure byte_measure
chars_bytes r from [] h s = ap (byte_measure r from) encode_nil
chars_bytes r from (c ∷ cs) h s =
    ap (byte_measure r from) (encode_cons c cs) ∙ char_bytes r from c (encode cs) h s.0 ∙ chars_bytes r (column_after r from c) cs h s.1

-- the loop: the bytes before i are measured
pub record Measuring (r from : ℕ) (l : List ℕ) (column i : ℕ) : Type 0 where
  pub some : 0 < r
  pub asks : Measurable from l
  pub within : i ≤ length l
  pub all : byte_measure r from l ≡ byte_measure r column (drop i l)
  pub small : column ≤ from + 255 * i

module _ (r from : ℕ) (l : List ℕ) where
  module _ (column i : ℕ) (q : Measuring r from l column i) where
    pub measuring_more : (n : ℕ) → i < length l → ByteMeasured r column (get_or l i 0) n → Measuring r from l n (i + 1)
    unfolding byte_measure
    measuring_more n h m =
        record {
          some = q.some;
          asks = q.asks;
          within = omega arith;
          all = q.all ∙ ap (byte_measure r column) (drop-cons l i 0 h) ∙ rw (add-one i) (ap (λ (k : ℕ). byte_measure r k (drop (suc i) l)) (sym m.is));
          small = omega (arith, q.small, m.small);
        }

    pub measuring_end : length l ≤ i → Measured r from l column
    unfolding byte_measure
    measuring_end h =
        let e : byte_measure r from l ≡ column = q.all ∙ rw (drop_of_length-le l {i = i} h) refl in
        record {
          is = sym e ∙ ap (byte_measure r from) (sym q.asks.well) ∙ chars_bytes r from (decode l) q.some (decode_scalars l);
          small = omega (arith, q.small, q.within);
        }

-- at ruler 0
width_small : (s : List ℕ) → WellFormed s → width (decode s) ≤ 2 * length s
width_small s w = rw (width_bytes s w) at (total_small s)

module _ (ruler from : ℕ) (l : List ℕ) (n : ℕ) (zero : ruler ≡ 0) (p : Measurable from l) (e : n ≡ width (decode l)) where
  pub measured_zero : Measured ruler from l (from + n)
  measured_zero =
      record {
        is = sym (ap (λ (k : ℕ). measure k from (decode l)) zero ∙ measure_zero from (decode l) ∙ ap (λ (k : ℕ). from + k) (sym e));
        small = omega (arith, width_small l p.well);
      }

  pub zero_room : from + n < 2 ^ 64
  zero_room = omega (arith, width_small l p.well, p.fits)

-- ---- an indent

-- a character below 80 hex takes one unit
ascii_width : (s : List ℕ) → Ascii s → width s ≡ length s
unfolding width units
ascii_width [] a = refl
ascii_width (c ∷ s) a = rw (lt-ltb c 0x10000 (omega (arith, a.0))) (omega (arith, ascii_width s a.1))

pub ascii_times : (n : ℕ) (w : List ℕ) → Ascii w → Ascii (times n w)
unfolding times
ascii_times zero w a = tt
ascii_times (suc n) w a = ascii_append w (times n w) a (ascii_times n w a)

module _ {indent : List ℕ} {level : ℕ} (p : Indent indent level) where
  indent_small : level * length indent ≤ 67108928
  indent_small = let k : level * length indent ≤ 1048577 * 64 = mul-le-mul p.flat p.short in omega arith

  pub indent_room : level * length indent < 2 ^ 64
  indent_room = omega (arith, indent_small)

  indent_ascii : Ascii indent
  indent_ascii = blank_ascii indent p.blank

  pub indent_zero : (ruler : ℕ) → ruler ≡ 0 → IndentMeasured ruler indent level (level * length indent)
  indent_zero ruler e =
      record {
        is = sym (ap (λ (k : ℕ). measure k 0 (times level indent)) e ∙ measure_zero 0 (times level indent) ∙ zero-add (width (times level indent)) ∙ ascii_width (times level indent) (ascii_times level indent indent_ascii) ∙ length_times level indent);
        small = omega (arith, indent_small);
      }

  -- at a ruler above 0
  indent_well : WellFormed indent
  indent_well = wf_ascii indent indent_ascii

  indent_decode : decode indent ≡ indent
  indent_decode = decode_ascii indent indent_ascii

  pub indent_none : (ruler : ℕ) → level ≡ 0 → IndentMeasured ruler indent level 0
  unfolding times measure
  indent_none ruler e = record { is = ap (λ (n : ℕ). measure ruler 0 (times n indent)) (sym e); small = omega arith }

  pub first_fits : Measurable 0 indent
  first_fits = record { well = indent_well; fits = omega (arith, p.short) }

  module _ {ruler first : ℕ} (a : Measured ruler 0 indent first) where
    pub second_fits : Measurable first indent
    second_fits = record { well = indent_well; fits = omega (arith, p.short, a.small) }

    module _ {second : ℕ} (b : Measured ruler first indent second) where
      pub second_after : first ≤ second
      second_after = rw b.is (measure_grows ruler first (decode indent))

      pub levels_small : (level ≡ 0 → ⊥) → (level - 1) * (second - first) ≤ 1048576 * 16320
      levels_small n = mul-le-mul {n₂ = 1048576} {m₂ = 16320} (omega (arith, p.flat)) (omega (arith, b.small, p.short))

      pub indent_several : (0 < ruler) → (level ≡ 0 → ⊥) → IndentMeasured ruler indent level (first + (level - 1) * (second - first))
      indent_several h n =
          record {
            is = levels_are level n;
            small = omega (arith, levels_small n, a.small, p.short);
          }
        where
          levels_are : (m : ℕ) → (m ≡ 0 → ⊥) → first + (m - 1) * (second - first) ≡ measure ruler 0 (times m indent)
          levels_are zero n = absurd (n refl)
          levels_are (suc m) n =
              let f : first ≡ measure ruler 0 indent = a.is ∙ ap (measure ruler 0) indent_decode in
              let g : second ≡ measure ruler (measure ruler 0 indent) indent = b.is ∙ ap (measure ruler first) indent_decode ∙ ap (λ (k : ℕ). measure ruler k indent) f in
              let k : suc m - 1 ≡ m = omega arith in
              rw (k, f, g) (sym (indent_levels ruler h indent p.blank m))

-- ---- an indented line

module _ {indent : List ℕ} {level : ℕ} (line : List ℕ) (p : Indent indent level) where
  -- its bytes, a column for each and the ruler for a tab
  pub bytes_room : length line < 2 ^ 31 → level * length indent + length line < 2 ^ 64
  bytes_room h = omega (arith, indent_small p)

  pub columns_small : (r : ℕ) → length line < 2 ^ 31 → r < 256 → (level * length indent + length line) * (r + 1) ≤ 4294967296 * 256
  columns_small r h k = mul-le-mul {n₂ = 4294967296} {m₂ = 256} (omega (arith, indent_small p)) (omega arith)

  indented_size : WellFormed line → size (times level indent ++ decode line) ≡ level * length indent + length line
  indented_size w =
      let i : size (times level indent) ≡ level * length indent = ap length (encode_ascii (times level indent) (ascii_times level indent (indent_ascii p))) ∙ length_times level indent in
      omega (arith, size_append (times level indent) (decode line), i, ap length w)

  pub wide_not : (r max : ℕ) → WellFormed line → (level * length indent + length line) * (r + 1) ≤ max → Wide r indent level line max false
  wide_not r max w h =
      record {
        is = sym (le-ltb max _ (omega (arith, measure_short r 0 (times level indent ++ decode line), ap (λ (n : ℕ). n * (r + 1)) (indented_size w))));
      }

module _ {ruler : ℕ} {indent : List ℕ} {level : ℕ} (line : List ℕ) (max : ℕ) {pad : ℕ} (p : IndentMeasured ruler indent level pad) where
  whole : measure ruler 0 (times level indent ++ decode line) ≡ measure ruler pad (decode line)
  whole = measure_append ruler 0 (times level indent) (decode line) ∙ ap (λ (k : ℕ). measure ruler k (decode line)) (sym p.is)

  pub wide_measured : (end : ℕ) → Measured ruler pad line end → Wide ruler indent level line max (ltb max end)
  wide_measured end m = record { is = ap (ltb max) (m.is ∙ sym whole) }

-- `a <= b` of columns, as its derived order tells it
pub column_le : (a b : ℕ) → is_le (nat_cmp a b) ≡ leb a b
column_le a b = go (nat_cmp a b) refl
  where
    go : (o : Ordering) → o ≡ nat_cmp a b → is_le o ≡ leb a b
    go Ordering.Less e = let h : a < b = ranked a b Ordering.Less e in sym (le-leb a b (omega arith))
    go Ordering.Equal e = let h : a ≡ b = ranked a b Ordering.Equal e in sym (le-leb a b (omega arith))
    go Ordering.Greater e = let h : b < a = ranked a b Ordering.Greater e in sym (lt-leb a b h)

-- ---- parts

-- a part of a part
pub part_part : (s : List ℕ) (a e n m : ℕ) → n + m ≤ e - a → take m (drop n (part s a e)) ≡ part s (a + n) (a + n + m)
part_part s a e n m h =
    let k : a + n + m - (a + n) ≡ m = omega arith in
    rw (drop_take, k, drop-drop) (take-take m (e - a - n) (drop (a + n) s) (omega arith))

pub part_length : (s : List ℕ) (a e : ℕ) → e ≤ length s → length (part s a e) ≡ e - a
part_length s a e h = length-take-le (e - a) (drop a s) (omega (arith, length-drop a s))

pub trimmed_part : (s : List ℕ) (a e n m : ℕ) → Within s a e → TrimmedStart (part s a e) n → TrimmedEnd (part (part s a e) n (length (part s a e))) m
    → Trimmed s a e (record { start = a + n; end = a + n + m })
unfolding trim
trimmed_part s a e n m w p q =
    let l : length (part s a e) ≡ e - a = part_length s a e w.fits in
    let r : part (part s a e) n (length (part s a e)) ≡ drop n (part s a e) = part_from (part s a e) n in
    let f : n + m ≤ e - a = omega (arith, l, p.fits, q.fits, ap length r, length-drop n (part s a e)) in
    let t : take m (part (part s a e) n (length (part s a e))) ≡ part s (a + n) (a + n + m) = ap (take m) r ∙ part_part s a e n m f in
    let g : a + n - a ≡ n = omega arith in
    record {
      after = omega arith;
      front = rw g p;
      order = omega arith;
      fits = omega (arith, w.order);
      well = subst WellFormed t q.well;
      text = ap decode (sym t) ∙ q.text ∙ ap (λ (x : List ℕ). trim_end (decode x)) r ∙ ap trim_end p.text;
    }

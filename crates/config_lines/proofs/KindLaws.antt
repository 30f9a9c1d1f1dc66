-- The kind of a line, told by its bytes.
--     skip_first, skip_not     the tests of `is_skipped`
--     header_short, header_first, header_last, header_is     those of `name_in`
--     kind_skipped, kind_header, kind_pair, kind_other     those of `kind_of`
--     trimmed_pair     what `trimmed` makes of a pair
use Rattle.std.specs.Prelude.{Some, None}
use denote.Ref.{Bor}
use Prim.Native.Nat.{ℕ, ◌+◌, ◌-◌, ◌≤◌, ◌<◌}
use mathlib.Core.Bool.{Bool, true, false, ◌&&◌, ◌||◌, and-false, or-true}
use mathlib.Core.Logic.{◌⊎◌, inl, inr}
use mathlib.Core.List.{List, [], ◌∷◌, ◌++◌}
use mathlib.Core.Path.{◌≡◌, refl, sym, ap, ◌∙◌}
use native.Mathlib.Omega.{arith}
use borrow.Author.Tests.{lt-ltb, le-ltb, ltb-true, ne_eqb, eq-eqb, eqb-true}
use lib.Dec.{ltb, eqb}
use lib.ListN.{length, take, drop, get_or, length-append, length-drop, drop_of_length-le}
use lib.Seq.{take_at, get_or-drop}
use Rattle.utf8.specs.Unicode.{Scalars, chars, encode_char, encode, decode, WellFormed, trim}
use Rattle.utf8.proofs.Table.{Bytes, single, several, bytes}
use Rattle.utf8.proofs.Tests.{and_left, and_right}
use Rattle.utf8.proofs.Decode.{encode_nil, encode_cons, encode_one, decode_scalars, decode_encode, wf_encode}
use Rattle.utf8.proofs.Cut.{AsciiCut, ascii_cut}
use Rattle.buffer.proofs.RegionLaws.{part_from}
use Rattle.rules.specs.Basics.{choose, is, is_empty, first_is, last_is}
use Rattle.rules.proofs.Choose.{choose_case, choose_true, choose_false}
use Rattle.rules.proofs.Leading.{last_at}
use Rattle.rules.proofs.StartsBytes.{on_decode, encode_some, steady_is, first_encode, last_encode, empty_encode}
use Rattle.config_rules.specs.Lines.{lower, has_eq, key, setting, is_comment, is_header, line_of}
use Rattle.config_rules.specs.Lines.Line.{nothing, header, pair}
use Rattle.config_lines.specs.Words.{EqAt, Trimmed}
use Rattle.config_lines.specs.Kinds.{name_in, Named, line_in, trimmed_line_in, Parts, KindOf}
use Rattle.config_lines.specs.declared.kinds.LineKind.{LineKind}
use Rattle.config_lines.proofs.LineBytes.{has_encode, key_encode, setting_encode}

-- ---- a header, by bytes

first_at : (p : ℕ → Bool) (s : List ℕ) → 0 < length s → first_is p s ≡ p (get_or s 0 0)
unfolding first_is
first_at p [] h = absurd (omega arith)
first_at p (c ∷ s) h = refl

pub header_short : (s : List ℕ) → length s < 2 → is_header s ≡ false
unfolding is_header
header_short s h = rw (le-ltb 1 (length s) (omega arith)) (and-false (first_is (is "[") s && last_is (is "]") s))

pub header_first : (s : List ℕ) → 2 ≤ length s → (get_or s 0 0 ≡ 91 → ⊥) → is_header s ≡ false
unfolding is_header
header_first s h n = rw (first_at (is "[") s (omega arith), ne_eqb (get_or s 0 0) 91 n)

header_ends : (s : List ℕ) → 2 ≤ length s → get_or s 0 0 ≡ 91 → is_header s ≡ eqb (get_or s (length s - 1) 0) 93
unfolding is_header
header_ends s h e =
    rw (first_at (is "[") s (omega arith), eq-eqb (get_or s 0 0) 91 e, ← last_at (is "]") s (λ z. absurd (omega (arith, z))), lt-ltb 1 (length s) (omega arith))
    (and_true (eqb (get_or s (length s - 1) 0) 93))
  where
    and_true : (b : Bool) → (b && true) ≡ b
    and_true true = refl
    and_true false = refl

pub header_last : (s : List ℕ) → 2 ≤ length s → get_or s 0 0 ≡ 91 → (get_or s (length s - 1) 0 ≡ 93 → ⊥) → is_header s ≡ false
header_last s h e n = header_ends s h e ∙ ne_eqb (get_or s (length s - 1) 0) 93 n

pub header_is : (s : List ℕ) → 2 ≤ length s → get_or s 0 0 ≡ 91 → get_or s (length s - 1) 0 ≡ 93 → Named s (take (length s - 1 - 1) (drop 1 s))
header_is s h e l =
    let q : take (length s - 1 - 1) (drop 1 s) ≡ name_in s = ap (λ (n : ℕ). take n (drop 1 s)) (let k : length s - 1 - 1 ≡ length s - 2 = omega arith in k) in
    record { header = header_ends s h e ∙ eq-eqb (get_or s (length s - 1) 0) 93 l; is = q }

-- ---- a blank line or a comment, by bytes

abbrev pub skipped : List ℕ → Bool
skipped s = is_empty s || is_comment s

pub skip_first : (s : List ℕ) → 1 ≤ length s → (get_or s 0 0 ≡ 59) ⊎ (get_or s 0 0 ≡ 35) → true ≡ skipped s
unfolding is_comment first_is
skip_first [] h e = absurd (omega arith)
skip_first (c ∷ s) h (inl e) = rw (eq-eqb c 59 e)
skip_first (c ∷ s) h (inr e) = rw (eq-eqb c 35 e, or-true (eqb c 59))

pub skip_not : (s : List ℕ) → 1 ≤ length s → (get_or s 0 0 ≡ 59 → ⊥) → (get_or s 0 0 ≡ 35 → ⊥) → false ≡ skipped s
unfolding is_comment first_is
skip_not [] h m n = absurd (omega arith)
skip_not (c ∷ s) h m n = rw (ne_eqb c 59 m, ne_eqb c 35 n)

-- ---- the same by characters

some_bytes : (c : ℕ) (cs : List ℕ) → 1 ≤ length (encode (c ∷ cs))
some_bytes c cs = rw (encode_some c cs).2 (omega arith)

two_bytes : (c d : ℕ) (ds : List ℕ) → 1 < length (encode (c ∷ d ∷ ds))
two_bytes c d ds =
    rw (encode_cons c (d ∷ ds))
    (omega (arith, length-append (encode_char c) (encode (d ∷ ds)), some_bytes d ds, some_bytes c [], ap length (encode_one c)))

header_none : (s : List ℕ) → first_is (is "[") s ≡ false → is_header s ≡ false
unfolding is_header
header_none s e = rw e

header_one : (c : ℕ) → is_header (encode (c ∷ [])) ≡ is_header (c ∷ [])
header_one c = rw (encode_one c) (go (encode_char c) (bytes c))
  where
    go : (bs : List ℕ) → Bytes c bs → is_header bs ≡ is_header (c ∷ [])
    go bs (single h) = refl
    go bs (several {b = b} {bs = bs'} hc hb hs) =
        unfold first_is in header_none (b ∷ bs') (steady_is "[" refl b hb) ∙ sym (header_none (c ∷ []) (steady_is "[" refl c hc))

header_long : (s : List ℕ) → 1 < length s → is_header s ≡ (first_is (is "[") s && last_is (is "]") s && true)
unfolding is_header
header_long s h = rw (lt-ltb 1 (length s) h)

header_encode : (l : List ℕ) → is_header (encode l) ≡ is_header l
header_encode [] = rw encode_nil
header_encode (c ∷ []) = header_one c
header_encode (c ∷ d ∷ ds) =
    header_long (encode (c ∷ d ∷ ds)) (two_bytes c d ds)
    ∙ rw (first_encode (is "[") false (steady_is "[" refl) (c ∷ d ∷ ds), last_encode (is "]") false (steady_is "]" refl) (c ∷ d ∷ ds))
    (sym (header_long (c ∷ d ∷ ds) (omega arith)))

comment_encode : (l : List ℕ) → is_comment (encode l) ≡ is_comment l
unfolding is_comment
comment_encode l = rw (first_encode (is ";") false (steady_is ";" refl) l, first_encode (is "#") false (steady_is "#" refl) l)

-- ---- what stands between the brackets

decode_nil : decode [] ≡ []
unfolding chars
decode_nil = refl

between : (x : List ℕ) → take (length (91 ∷ (x ++ (93 ∷ []))) - 2) (drop 1 (91 ∷ (x ++ (93 ∷ [])))) ≡ x
between x = take_at x (93 ∷ []) (length (91 ∷ (x ++ (93 ∷ []))) - 2) (omega (arith, length-append x (93 ∷ [])))

module _ (s : List ℕ) (w : WellFormed s) (h : is_header s ≡ true) where
  long : 1 < length s
  unfolding is_header
  long = ltb-true 1 (length s) (and_right (first_is (is "[") s && last_is (is "]") s) (ltb 1 (length s)) h)

  both : (first_is (is "[") s && last_is (is "]") s) ≡ true
  unfolding is_header
  both = and_left (first_is (is "[") s && last_is (is "]") s) (ltb 1 (length s)) h

  first_byte_law : get_or s 0 0 ≡ 91
  first_byte_law = eqb-true (get_or s 0 0) 91 (sym (first_at (is "[") s (omega (arith, long))) ∙ and_left (first_is (is "[") s) (last_is (is "]") s) both)

  last_byte : get_or s (length s - 1) 0 ≡ 93
  last_byte =
      eqb-true (get_or s (length s - 1) 0) 93 (last_at (is "]") s (λ z. absurd (omega (arith, long, z))) ∙ and_right (first_is (is "[") s) (last_is (is "]") s) both)

  left_cut : AsciiCut s 0
  left_cut = ascii_cut s 0 w (omega (arith, long)) (omega (arith, first_byte_law))

  inner_byte : get_or (drop 1 s) (length s - 2) 0 ≡ 93
  inner_byte = get_or-drop 1 s (length s - 2) 0 ∙ ap (λ (n : ℕ). get_or s n 0) (let k : 1 + (length s - 2) ≡ length s - 1 = omega (arith, long) in k) ∙ last_byte

  right_cut : AsciiCut (drop 1 s) (length s - 2)
  right_cut = ascii_cut (drop 1 s) (length s - 2) left_cut.right (omega (arith, long, length-drop 1 s)) (omega (arith, inner_byte))

  name_end : drop (length s - 2 + 1) (drop 1 s) ≡ []
  name_end = drop_of_length-le (drop 1 s) {i = length s - 2 + 1} (omega (arith, long, length-drop 1 s))

  header_text : decode s ≡ 91 ∷ (decode (name_in s) ++ (93 ∷ []))
  header_text = left_cut.text ∙ rw (decode_nil, first_byte_law, right_cut.text, inner_byte, name_end, decode_nil)

  header_name : take (length (decode s) - 2) (drop 1 (decode s)) ≡ decode (name_in s)
  header_name = ap (λ (l : List ℕ). take (length l - 2) (drop 1 l)) header_text ∙ between (decode (name_in s))

-- ---- key and value

key_scalars : (l : List ℕ) → Scalars l → Scalars (key l)
unfolding key
key_scalars [] s = tt
key_scalars (c ∷ l) s = choose_case Scalars (λ e. tt) (λ e. (s.0, key_scalars l s.1))

setting_scalars : (l : List ℕ) → Scalars l → Scalars (setting l)
unfolding setting
setting_scalars [] s = tt
setting_scalars (c ∷ l) s = choose_case Scalars (λ e. s.1) (λ e. setting_scalars l s.1)

module _ (s : List ℕ) (w : WellFormed s) (i : ℕ) (q : EqAt s i) where
  key_bytes : take i s ≡ encode (key (decode s))
  key_bytes = sym q.key ∙ on_decode key (λ (l : List ℕ). encode (key l)) key_encode s w

  setting_bytes : drop (i + 1) s ≡ encode (setting (decode s))
  setting_bytes = sym q.setting ∙ on_decode setting (λ (l : List ℕ). encode (setting l)) setting_encode s w

  pub key_well : WellFormed (take i s)
  key_well = rw key_bytes (wf_encode (key (decode s)) (key_scalars (decode s) (decode_scalars s)))

  setting_well : WellFormed (drop (i + 1) s)
  setting_well = rw setting_bytes (wf_encode (setting (decode s)) (setting_scalars (decode s) (decode_scalars s)))

  pub value_well : WellFormed (take (length s - (i + 1)) (drop (i + 1) s))
  value_well = rw (part_from s (i + 1)) setting_well

  key_text : key (decode s) ≡ decode (take i s)
  key_text = sym (ap decode key_bytes ∙ decode_encode (key (decode s)) (key_scalars (decode s) (decode_scalars s)))

  setting_text : setting (decode s) ≡ decode (drop (i + 1) s)
  setting_text = sym (ap decode setting_bytes ∙ decode_encode (setting (decode s)) (setting_scalars (decode s) (decode_scalars s)))

-- ---- the kinds

module _ (s : List ℕ) (w : WellFormed s) where
  empty_same : is_empty s ≡ is_empty (decode s)
  empty_same = on_decode is_empty is_empty empty_encode s w

  comment_same : is_comment s ≡ is_comment (decode s)
  comment_same = on_decode is_comment is_comment comment_encode s w

  header_same : is_header s ≡ is_header (decode s)
  header_same = on_decode is_header is_header header_encode s w

  eq_same : has_eq s ≡ has_eq (decode s)
  eq_same = on_decode has_eq has_eq has_encode s w

  skipped_same : skipped s ≡ (is_empty (decode s) || is_comment (decode s))
  skipped_same = rw (empty_same, comment_same)

  pub kind_skipped : (t : Bool) → t ≡ skipped s → t ≡ true → KindOf s None
  unfolding line_of trimmed_line_in Parts
  kind_skipped t e y = record { is = choose_true _ _ _ (sym skipped_same ∙ sym e ∙ y); parts = tt }

  module _ (t : Bool) (e : t ≡ skipped s) (n : t ≡ false) where
    counts : (is_empty (decode s) || is_comment (decode s)) ≡ false
    counts = sym skipped_same ∙ sym e ∙ n

    pub kind_header : (name : Bor (List ℕ)) → Named s name.now → KindOf s (Some (LineKind.Header name))
    unfolding line_of trimmed_line_in Parts
    kind_header name h =
        record {
          is = choose_false _ _ _ counts ∙ choose_true _ _ _ (sym header_same ∙ h.header) ∙ ap header (header_name s w h.header ∙ ap decode (sym h.is));
          parts = rw h.is (right_cut s w h.header).left;
        }

    module _ (h : is_header s ≡ false) where
      no_header : line_of (decode s) ≡ choose (has_eq (decode s)) (pair (lower (trim (key (decode s)))) (lower (trim (setting (decode s))))) nothing
      unfolding line_of
      no_header = choose_false _ _ _ counts ∙ choose_false _ _ _ (sym header_same ∙ h)

      pub kind_other : has_eq s ≡ false → KindOf s None
      unfolding trimmed_line_in Parts
      kind_other q = record { is = no_header ∙ choose_false _ _ _ (sym eq_same ∙ q); parts = tt }

      pub kind_pair : (i : ℕ) → EqAt s i → (k v : Bor (List ℕ)) → k.now ≡ take i s → v.now ≡ take (length s - (i + 1)) (drop (i + 1) s)
          → KindOf s (Some (LineKind.Pair k v))
      unfolding trimmed_line_in Parts
      kind_pair i q k v a b =
          let z : v.now ≡ drop (i + 1) s = b ∙ part_from s (i + 1) in
          record {
            is = no_header ∙ choose_true _ _ _ (sym eq_same ∙ q.has) ∙ rw (key_text s w i q, setting_text s w i q, a, z);
            parts = (rw a (key_well s w i q), rw z (setting_well s w i q));
          }

-- ---- a pair of which the parts are trimmed

pub trimmed_pair : (k v key value : Bor (List ℕ)) → Trimmed k.now key.now → Trimmed v.now value.now
    → trimmed_line_in (Some (LineKind.Pair k v)) ≡ line_in (Some (LineKind.Pair key value))
unfolding trimmed_line_in line_in
trimmed_pair k v key value a z = rw (a.is, z.is)

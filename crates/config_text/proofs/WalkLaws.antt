-- The walk over the lines of a text.
--     unmarked_strip                                    where the lines start
--     line_well, next_step, next_goes                   one line, and those after it
--     Names, Root, Setting                              the invariants of the three walks
use Rattle.std.specs.Prelude.{Option, Some, None}
use denote.Ref.{Bor}
use Prim.Native.Nat.{ℕ, suc, ◌+◌, ◌-◌, ◌≤◌, ◌<◌}
use mathlib.Core.Bool.{Bool, true, false, ◌||◌, or-false}
use mathlib.Core.List.{List, [], ◌∷◌, ◌++◌, map}
use mathlib.Core.Logic.{◌⊎◌, inl, inr, ⊎_elim, ◌≢◌}
use mathlib.Core.Path.{◌≡◌, refl, sym, ap, ◌∙◌}
use native.Mathlib.Nat.{zero-add}
use native.Mathlib.Numerals.{add-one}
use native.Mathlib.Omega.{arith}
use Rattle.std.specs.Slice.{IsGetRangeResult}
use Rattle.std.specs.Fn.{Called, Mut}
use Rattle.std.specs.Option.{MatchOption, unwrap_or}
use Rattle.std.specs.Iterator.{Yields, ChecksAny}
use Rattle.std.specs.List.{FoldsTo}
use borrow.Author.Tests.{eq-eqb, ne_eqb, eqb-true}
use lib.ListN.{length, take, drop, get_or}
use lib.Seq.{take_all}
use Rattle.utf8.specs.Unicode.{tail, second, seq_len, code_of, seq_at, chars, code_at, encode_char, encode, decode}
use Rattle.utf8.specs.Unicode.{WellFormed, trim}
use Rattle.utf8.specs.Places.{Step}
use Rattle.utf8.proofs.Tests.{split, neither_left, neither_right}
use Rattle.utf8.proofs.Decode.{encode_nil, decode_scalars, decode_encode}
use Rattle.utf8.proofs.TrimScan.{first_char}
use Rattle.utf8.proofs.Cut.{AsciiCut, ascii_cut}
use Rattle.buffer.proofs.RegionLaws.{part_from}
use Rattle.rules.specs.Basics.{is, first_is, Pieces, pieces, at_sep, split_on}
use Rattle.rules.specs.declared.Resolved.{Resolved}
use Rattle.rules.proofs.Choose.{choose_true, choose_false}
use Rattle.rules.proofs.StartsBytes.{on_decode}
use Rattle.rules.proofs.Scalars.{AllScalars, split_scalars}
use Rattle.rules.proofs.WordsBytes.{pieces_encode}
use Rattle.line_ends.specs.LineEnds.{LineEnd}
use Rattle.line_ends.proofs.LineCuts.{More, whole, part_of}
use Rattle.config_rules.specs.Lines.{Line, line_of, without_bom, lines_of}
use Rattle.config_rules.specs.Lines.Line.{nothing, header, pair}
use Rattle.config_rules.specs.Sections.{long_name, root_at, settings}
use Rattle.config_lines.specs.Words.{Trimmed}
use Rattle.config_lines.specs.Kinds.{line_in, trimmed_line_in, Parts, KindOf}
use Rattle.config_lines.specs.declared.kinds.LineKind.{LineKind}
use Rattle.config_text.specs.Walk.{Unmarked, lines_in, lines_left, LinesWell, NextLine}
use Rattle.config_text.specs.declared.walk.Lines.{Lines}
use Rattle.config_text.specs.Steps.{starts_section, root_after, applies_after, values_after, Named}
use Rattle.config_text.proofs.StepLaws.{long_trimmed, applies_trimmed}

-- ---- where the lines start

decode_nil : decode [] ≡ []
unfolding chars
decode_nil = refl

well_nil : WellFormed []
well_nil = rw decode_nil encode_nil

module _ (text : List ℕ) (w : WellFormed text) where
  unmarked_empty : length text ≡ 0 → Unmarked text text
  unfolding without_bom first_is
  unmarked_empty e = go text e
    where
      go : (text : List ℕ) → length text ≡ 0 → Unmarked text text
      go [] e = record { well = well_nil; is = rw decode_nil (sym (choose_false _ _ _ refl)) }
      go (c ∷ text) e = absurd (omega arith)

  text_is : (n : ℕ) → Step text 0 n → decode text ≡ code_at text ∷ decode (drop n text)
  text_is n s = s.chars ∙ rw (zero-add n)

  other : (code_at text ≡ 0xFEFF → ⊥) → (n : ℕ) → Step text 0 n → Unmarked text text
  unfolding without_bom first_is
  other e n s =
      record {
        well = w;
        is = sym (rw (text_is n s) (choose_false _ _ _ (ne_eqb 0xFEFF (code_at text) (λ z. e (sym z)))));
      }

  marked : code_at text ≡ 0xFEFF → (n : ℕ) → Step text 0 n → Unmarked text (drop n text)
  unfolding without_bom first_is
  marked e n s =
      record {
        well = rw (zero-add n) at (s.well w);
        is = sym (rw (text_is n s) (choose_true _ _ _ (eq-eqb 0xFEFF (code_at text) (sym e))));
      }

-- U+FEFF in UTF-8
abbrev pub mark : List ℕ
mark = 239 ∷ 187 ∷ 191 ∷ []

unmarked_mark : (text rest : List ℕ) → WellFormed text → text ≡ mark ++ rest → Unmarked text rest
unfolding code_of seq_len second tail
unmarked_mark text rest w e =
    let v : WellFormed (mark ++ rest) = rw e at w in
    rw e (marked (mark ++ rest) v refl 3 (first_char (mark ++ rest) 0 (omega arith) v))

unmarked_other : (text : List ℕ) → WellFormed text → ((rest : List ℕ) → text ≢ mark ++ rest) → Unmarked text text
unfolding encode_char
unmarked_other text w n =
    ⊎_elim (λ (h : 0 < length text). some h) (λ (h : length text ≤ 0). unmarked_empty text w (omega arith))
    (split 0 (length text))
  where
    some : 0 < length text → Unmarked text text
    some h =
        let t : Step text 0 (seq_at text) = first_char text 0 h w in
        other text w (λ z. n (drop (seq_at text) text) (t.bytes ∙ rw (z, zero-add (seq_at text)))) (seq_at text) t

-- the text behind the mark, or all of it
pub unmarked_strip : (text : Bor (List ℕ)) (p : List ℕ) → WellFormed text.now → p ≡ mark → (r : Option (Bor (List ℕ)))
    → MatchOption r ((rest : List ℕ) → text.now ≢ p ++ rest) (λ x. text.now ≡ p ++ x.now)
    → Unmarked text.now (unwrap_or r text).now
unmarked_strip text p w e None m =
    unmarked_other text.now w (λ rest q. m rest (q ∙ ap (λ (l : List ℕ). l ++ rest) (sym e)))
unmarked_strip text p w e (Some x) m = unmarked_mark text.now x.now w (m ∙ ap (λ (l : List ℕ). l ++ x.now) e)

-- ---- lines by bytes and by characters

each_decode : (ps : List (List ℕ)) → AllScalars ps → map (λ (l : List ℕ). line_of (trim (decode l))) (map encode ps) ≡ map (λ (l : List ℕ). line_of (trim l)) ps
each_decode [] s = refl
each_decode (p ∷ ps) s = rw (decode_encode p s.0, each_decode ps s.1)

lines_decode : (s : List ℕ) → WellFormed s
    → map (λ (l : List ℕ). line_of (trim (decode l))) (pieces (split_on "\n" s)) ≡ map (λ (l : List ℕ). line_of (trim l)) (pieces (split_on "\n" (decode s)))
lines_decode s w =
    ap (map (λ (l : List ℕ). line_of (trim (decode l)))) (on_decode (λ (l : List ℕ). pieces (split_on "\n" l)) (λ (l : List ℕ). map encode (pieces (split_on "\n" l))) (pieces_encode "\n" refl) s w)
    ∙ each_decode (pieces (split_on "\n" (decode s))) (split_scalars "\n" (decode s) (decode_scalars s))

pub lines_unmarked : (text r : List ℕ) → Unmarked text r → lines_of (decode text) ≡ lines_in r
unfolding lines_of lines_in
lines_unmarked text r s = sym (lines_decode r s.well ∙ ap (λ (l : List ℕ). map (λ (p : List ℕ). line_of (trim p)) (pieces (split_on "\n" l))) s.is)

-- ---- one line, and those after it

-- an LF stands behind the first piece, unless that is all
lf_at_law : (s : List ℕ) → length (split_on "\n" s).first < length s → get_or s (length (split_on "\n" s).first) 0 ≡ 10
unfolding split_on at_sep
lf_at_law [] h = absurd (omega arith)
lf_at_law (c ∷ s) h = go (is "\n" c) refl h (lf_at_law s)
  where
    go : (t : Bool) → is "\n" c ≡ t → length (at_sep t c (split_on "\n" s)).first < suc (length s)
        → (length (split_on "\n" s).first < length s → get_or s (length (split_on "\n" s).first) 0 ≡ 10)
        → get_or (c ∷ s) (length (at_sep t c (split_on "\n" s)).first) 0 ≡ 10
    go true e h r = eqb-true c 10 e
    go false e h r = r (omega (arith, h))

abbrev line_at_law : List ℕ → Line
line_at_law l = line_of (trim (decode l))

module _ (text : List ℕ) (w : WellFormed text) (e : ℕ) (q : LineEnd text 0 e) where
  lf_cut : e < length text → AsciiCut text e
  lf_cut l =
      let k : length (split_on "\n" text).first ≡ e = omega (arith, q.is) in
      let b : get_or text e 0 ≡ 10 = rw k at (lf_at_law text (omega (arith, k, l))) in
      ascii_cut text e w l (omega (arith, b))

  pub line_well : WellFormed (take e text)
  line_well = go (split e (length text))
    where
      go : (e < length text) ⊎ (length text ≤ e) → WellFormed (take e text)
      go (inl l) = (lf_cut l).left
      go (inr l) = rw (take_all e text l) w

  pub rest_well : e < length text → WellFormed (drop (e + 1) text)
  rest_well l = (lf_cut l).right

  module _ (line : List ℕ) (kind : Option LineKind) (t : Trimmed (take e text) line) (k : KindOf line kind) where
    line_is : line_of (trim (decode (take e text))) ≡ trimmed_line_in kind
    line_is = ap line_of (sym t.is) ∙ k.is

    pub lines_more : e < length text → lines_in text ≡ trimmed_line_in kind ∷ lines_in (drop (e + 1) text)
    unfolding lines_in
    lines_more l =
        let z : e - 0 ≡ e = omega arith in
        let m : More text e = rw z at (part_of text 0 e q l) in
        ap (λ (p : Pieces). map line_at_law (pieces p)) m
        ∙ ap (λ (n : ℕ). line_at_law (take e text) ∷ map line_at_law (pieces (split_on "\n" (drop n text)))) (sym (add-one e))
        ∙ ap (λ (x : Line). x ∷ map line_at_law (pieces (split_on "\n" (drop (e + 1) text)))) line_is

    pub lines_last : length text ≤ e → lines_in text ≡ trimmed_line_in kind ∷ []
    unfolding lines_in
    lines_last l =
        ap (λ (p : Pieces). map line_at_law (pieces p)) (whole text 0 e q l)
        ∙ ap (λ (x : List ℕ). line_at_law x ∷ []) (sym (take_all e text l))
        ∙ ap (λ (x : Line). x ∷ []) line_is

-- what `get` gives of the text behind the line
module _ (s : Lines) (text : Bor (List ℕ)) (a : s.rest ≡ Some text) (w : LinesWell s) where
  text_well : WellFormed text.now
  text_well = rw a at w

  pub first_well : (e : ℕ) → LineEnd text.now 0 e → WellFormed (take e text.now)
  first_well e q = line_well text.now text_well e q

  module _ (e : ℕ) (q : LineEnd text.now 0 e) (line : List ℕ) (kind : Option LineKind) (t : Trimmed (take e text.now) line) (k : KindOf line kind)
      (r : Option (Bor (List ℕ))) (g : IsGetRangeResult text.now (e + 1) (length text.now) r)
    where
      pub lines_next : lines_left s ≡ trimmed_line_in kind ∷ lines_left (record { rest = r })
      lines_next = rw a (go r g)
        where
          go : (r : Option (Bor (List ℕ))) → IsGetRangeResult text.now (e + 1) (length text.now) r
              → lines_in text.now ≡ trimmed_line_in kind ∷ lines_left (record { rest = r })
          go None g = lines_last text.now text_well e q line kind t k (⊎_elim (λ h. omega arith) (λ h. absurd (omega arith)) g.0)
          go (Some x) g =
              lines_more text.now text_well e q line kind t k (omega (arith, g.0.0))
              ∙ ap (λ (l : List ℕ). trimmed_line_in kind ∷ lines_in l) (sym (g.0.2 ∙ part_from text.now (e + 1)))

      pub next_well : LinesWell (record { rest = r })
      next_well = go r g
        where
          go : (r : Option (Bor (List ℕ))) → IsGetRangeResult text.now (e + 1) (length text.now) r → LinesWell (record { rest = r })
          go None g = tt
          go (Some x) g = rw (g.0.2 ∙ part_from text.now (e + 1)) (rest_well text.now text_well e q (omega (arith, g.0.0)))

-- ---- too long names

long_cons : (l : Line) (ls : List Line) → long_name (l ∷ ls) ≡ (long_name (l ∷ []) || long_name ls)
unfolding long_name
long_cons nothing ls = refl
long_cons (header name) ls = rw or-false
long_cons (pair k v) ls = refl

long_nil : long_name [] ≡ false
unfolding long_name
long_nil = refl

-- a search for a line that f calls long, by calls that tell so
module _ {F : Type 0} (g : Mut F (Option LineKind × Unit {0}) Bool)
    (tells : (f : F) (line : Option LineKind) (b : Bool) (f' : F) → Parts line → Called g f (line, tt) b f' → b ≡ long_name (line_in line ∷ []))
  where
    names_passed : (xs : List (Option LineKind)) (s t : Lines) (f f' : F) → Yields NextLine s xs t → FoldsTo (λ p x q. Called g p (x, tt) false q) f xs f'
        → long_name (lines_left s) ≡ long_name (lines_left t)
    names_passed [] s t f f' y c = ap (λ (x : Lines). long_name (lines_left x)) y
    names_passed (x ∷ xs) s t f f' y c =
        ap long_name y.1.0 ∙ long_cons (trimmed_line_in x) (lines_left y.0)
        ∙ ap (λ (b : Bool). b || long_name (lines_left y.0)) (long_trimmed x ∙ sym (tells f x false c.0 y.1.1 c.1))
        ∙ names_passed xs y.0 t c.0 f' y.2 c.2

    pub names_any : (s u : Lines) (f : F) (r : Bool) → ChecksAny NextLine g s f r u → r ≡ long_name (lines_left s)
    names_any s u f r d = last d.1 d.3.2 d.5 ∙ sym (names_passed d.0 s d.3.0 f d.2 d.3.1 d.4)
      where
        last : (o : Option (Option LineKind)) → NextLine d.3.0 o u
            → MatchOption o (r ≡ false) (λ x. (r ≡ true) × ((h : F) × Called g d.2 (x, tt) true h)) → r ≡ long_name (lines_left d.3.0)
        last None n e = e ∙ sym (ap long_name n.0 ∙ long_nil)
        last (Some x) n e =
            e.0 ∙ sym (ap long_name n.0 ∙ long_cons (trimmed_line_in x) (lines_left u)
            ∙ ap (λ (b : Bool). b || long_name (lines_left u)) (long_trimmed x ∙ sym (tells d.2 x true e.1.0 n.1 e.1.1)))

-- ---- root

root_nil : (root : Bool) → root_at root [] ≡ root
unfolding root_at
root_nil root = refl

root_ends : (root : Bool) (line : Option LineKind) (ls : List Line) → starts_section line ≡ true → root_at root (trimmed_line_in line ∷ ls) ≡ root
unfolding root_at trimmed_line_in
root_ends root None ls e = absurd (let z : ◌≡◌ {A = ℕ} 0 1 = cc in omega arith)
root_ends root (Some (LineKind.Header name)) ls e = refl
root_ends root (Some (LineKind.Pair k v)) ls e = absurd (let z : ◌≡◌ {A = ℕ} 0 1 = cc in omega arith)

root_goes : (root : Bool) (line : Option LineKind) (ls : List Line) → starts_section line ≡ false → root_at root (trimmed_line_in line ∷ ls) ≡ root_at (root_after root (trimmed_line_in line)) ls
unfolding root_at root_after trimmed_line_in
root_goes root None ls e = refl
root_goes root (Some (LineKind.Header name)) ls e = absurd (let z : ◌≡◌ {A = ℕ} 0 1 = cc in omega arith)
root_goes root (Some (LineKind.Pair k v)) ls e = refl

pub record Root (text : List ℕ) (root : Bool) (s : Lines) : Type 0 where
  pub well : LinesWell s
  pub is : root_at false (lines_of (decode text)) ≡ root_at root (lines_left s)

module _ (text : List ℕ) (root : Bool) (s : Lines) (w : Root text root s) where
  pub root_end : lines_left s ≡ [] → root ≡ root_at false (lines_of (decode text))
  root_end e = sym (w.is ∙ ap (root_at root) e ∙ root_nil root)

  module _ (line : Option LineKind) (t : Lines) (n : lines_left s ≡ trimmed_line_in line ∷ lines_left t) where
    root_next : root_at false (lines_of (decode text)) ≡ root_at root (trimmed_line_in line ∷ lines_left t)
    root_next = w.is ∙ ap (root_at root) n

    pub root_found : (b : Bool) → b ≡ starts_section line → b ≡ true → root ≡ root_at false (lines_of (decode text))
    root_found b p y = sym (root_next ∙ root_ends root line (lines_left t) (sym p ∙ y))

    pub root_more : (b : Bool) → b ≡ starts_section line → b ≡ false → (new : Bool) → new ≡ root_after root (trimmed_line_in line) → LinesWell t → Root text new t
    root_more b p f new u v =
        record { well = v; is = root_next ∙ root_goes root line (lines_left t) (sym p ∙ f) ∙ ap (λ (x : Bool). root_at x (lines_left t)) (sym u) }

-- ---- sections and pairs

settings_nil : (rel : List ℕ) (applies : Bool) (r : Resolved) → settings rel applies r [] ≡ r
unfolding settings
settings_nil rel applies r = refl

settings_cons : (rel : List ℕ) (applies : Bool) (r : Resolved) (l : Line) (ls : List Line)
    → settings rel applies r (l ∷ ls) ≡ settings rel (applies_after rel applies l) (values_after (applies_after rel applies l) r l) ls
unfolding settings applies_after values_after
settings_cons rel applies r nothing ls = refl
settings_cons rel applies r (header name) ls = refl
settings_cons rel applies r (pair k v) ls = refl

pub record Setting (text rel : List ℕ) (old values : Resolved) (applies : Bool) (s : Lines) : Type 0 where
  pub well : LinesWell s
  pub names : long_name (lines_left s) ≡ false
  pub is : settings (decode rel) false old (lines_of (decode text)) ≡ settings (decode rel) applies values (lines_left s)

module _ (text rel : List ℕ) (old values : Resolved) (applies : Bool) (s : Lines) (w : Setting text rel old values applies s) where
  pub setting_end : lines_left s ≡ [] → values ≡ settings (decode rel) false old (lines_of (decode text))
  setting_end e = sym (w.is ∙ ap (settings (decode rel) applies values) e ∙ settings_nil (decode rel) applies values)

  module _ (line : Option LineKind) (t : Lines) (n : lines_left s ≡ trimmed_line_in line ∷ lines_left t) where
    setting_names : (long_name (trimmed_line_in line ∷ []) || long_name (lines_left t)) ≡ false
    setting_names = sym (long_cons (trimmed_line_in line) (lines_left t)) ∙ sym (ap long_name n) ∙ w.names

    pub setting_named : Parts line → WellFormed rel → Named line rel
    setting_named p v = record { parts = p; well = v; short = sym (long_trimmed line) ∙ neither_left (long_name (trimmed_line_in line ∷ [])) (long_name (lines_left t)) setting_names }

    pub setting_more : (on : Bool) (new : Resolved) → on ≡ applies_after (decode rel) applies (line_in line) → new ≡ values_after on values (trimmed_line_in line)
        → LinesWell t → Setting text rel old new on t
    setting_more on new a b v =
        record {
          well = v;
          names = neither_right (long_name (trimmed_line_in line ∷ [])) (long_name (lines_left t)) setting_names;
          is =
              w.is ∙ ap (settings (decode rel) applies values) n ∙ settings_cons (decode rel) applies values (trimmed_line_in line) (lines_left t)
              ∙ ap (λ (x : Bool). settings (decode rel) x (values_after x values (trimmed_line_in line)) (lines_left t)) (applies_trimmed (decode rel) applies line ∙ sym a)
              ∙ ap (λ (x : Resolved). settings (decode rel) on x (lines_left t)) (sym b);
        }

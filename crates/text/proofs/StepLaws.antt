-- What a written line, a joined else, several lines and the end make of the text.
use Prim.Native.Nat.{ℕ, ◌+◌, ◌-◌, ◌≤◌, ◌<◌, ◌^◌}
use mathlib.Core.Bool.{Bool, true, false, not, true≢false}
use mathlib.Core.Path.{◌≡◌, refl, sym, ap, ◌∙◌}
use mathlib.Core.List.{List, [], ◌∷◌, ◌++◌, append_assoc}
use native.Mathlib.Omega.{arith}
use lib.Dec.{eqb}
use lib.ListN.{length, replicate, length-append}
use lib.Seq.{length-take-le}
use Rattle.utf8.specs.Unicode.{encode, decode, size, trim_end}
use Rattle.utf8.proofs.Trim.{White, white_append, end_none}
use borrow.Author.Tests.{eq-eqb, eqb-true}
use Rattle.utf8.proofs.Decode.{encode_nil, encode_append, encode_ascii, size_append}
use Rattle.buffer.specs.Buffer.{Finishes}
use Rattle.buffer.specs.Repeat.{times}
use Rattle.buffer.proofs.AgreeLaws.{finishes_text}
use Rattle.compare.specs.Common.{Keeps, Compared}
use Rattle.compare.proofs.WriterLaws.{keeps_cut}
use Rattle.check_rules.specs.Check.{settled_lines, closed}
use Rattle.check_rules.proofs.SettledLaws.{settled_drop, settled_join, settled_solid, settled_white, joined_closed}
use Rattle.rules.specs.declared.LineEnding.{LineEnding}
use Rattle.rules.specs.Basics.{choose}
use Rattle.rules.specs.Lines.{as_str}
use Rattle.rules.specs.Options.{all_blank}
use Rattle.rules.specs.Assembly.{joined, drop_empty}
use Rattle.rules.specs.Line.{drop_blank}
use Rattle.rules.specs.Else.{joinable, can_join, join_else}
use Rattle.rules.specs.Call.{filled}
use Rattle.rules.proofs.Choose.{choose_case, choose_true, choose_false}
use Rattle.text.specs.declared.Last.{Last}
use Rattle.text.specs.declared.Written.{Written}
use Rattle.text.specs.Text.{trim_newest, newest_by, newest_of, is_first, sep_by, sep_of, kept_lines, alone_after, tail_of, full_of, nothing, after_lines, Line, ElseLine, Text, Grown, Ordered, From, Adds, Joins, Continued, Ended, Finished}
use Rattle.text.proofs.LinesLaws.{not_alone, joined_cons, joined_grow, size_joined, encode_append_lines, full_cut, full_empty, full_line, below_cut, below_full, below_empty, below_line, newest_cut}
use Rattle.text.proofs.PadLaws.{Blanks, indent_blanks, blanks_encode, some_size, some_chars, none_test, some_test, tail_pad, join_pad, else_trimmed, else_joinable, white_of}

-- ---- a line ending is one or two bytes

pub record Ending (eol : List ℕ) : Type 0 where
  pub bytes : encode eol ≡ eol
  pub small : length eol ≤ 2

pub ending : (e : LineEnding) → Ending (as_str e)
unfolding as_str
ending LineEnding.Lf = record { bytes = encode_ascii (10 ∷ []) (omega arith, tt); small = omega arith }
ending LineEnding.Crlf = record { bytes = encode_ascii (13 ∷ 10 ∷ []) (omega arith, (omega arith, tt)); small = omega arith }

pub sep_bytes : (eol : List ℕ) (first : Bool) → Ending eol → encode (sep_by eol first) ≡ sep_by eol first
unfolding choose
sep_bytes eol true e = encode_nil
sep_bytes eol false e = e.bytes

pub sep_le : (ending : LineEnding) (first : Bool) → length (sep_by (as_str ending) first) ≤ 2
sep_le e first = choose_case (λ (l : List ℕ). length l ≤ 2) (λ _. omega arith) (λ _. (ending e).small)

-- ---- the parts of the record

pub tail_le : (pad tail : ℕ) → tail_of pad tail ≤ pad + tail
tail_le pad tail = choose_case (λ (n : ℕ). n ≤ pad + tail) (λ _. omega arith) (λ _. omega arith)

full_le : (long full at : ℕ) → full ≤ at → full_of long full at ≤ at
full_le long full at h = choose_case (λ (n : ℕ). n ≤ at) (λ _. h) (λ _. omega arith)

full_mono : (b : Bool) (x y at : ℕ) → x ≤ y → choose b x at ≤ choose b y at
unfolding choose
full_mono true x y at h = h
full_mono false x y at h = omega arith

kind_some : (l : List ℕ) (b : Bool) → 1 ≤ size l → newest_by 1 b ≡ newest_by (size l) b
kind_some l b h = rw (some_test l h) refl

-- ---- lines of white space

white_right : (a b : List ℕ) → White (a ++ b) → White b
white_right [] b w = w
white_right (c ∷ a) b w = white_right a b w.1

none_size : (l : List ℕ) → size l ≡ 0 → l ≡ []
none_size [] e = refl
none_size (c ∷ cs) e = absurd (let h = some_size c cs in omega arith)

-- what the text is written after: its lines, the place, the place without its last empty lines, and whether there is no
-- line
record Stem (model eol : List ℕ) (ls : List (List ℕ)) (from full settled : ℕ) (first : Bool) (out : List ℕ) : Type 0 where
  pub place : from ≡ size (joined eol ls)
  pub holds : Keeps model out (encode (joined eol ls))
  pub whole : full ≡ size (joined eol (drop_empty ls))
  pub starts : first ≡ is_first (newest_of ls)
  pub settles : settled ≡ size (closed eol (settled_lines ls))

-- lines with their endings are the lines joined, and the separator before a next one
closed_joined : (eol : List ℕ) (ls : List (List ℕ)) → closed eol ls ≡ joined eol ls ++ sep_of eol (newest_of ls)
unfolding closed
closed_joined eol [] = unfold joined in unfold newest_of in unfold choose in refl
closed_joined eol (l ∷ ls) = sym (rw (joined_closed eol l ls, choose_false (is_first (newest_of (l ∷ ls))) [] eol (not_alone l ls), append_assoc))

module _ (model eol : List ℕ) where
  full_at : (l : List ℕ) (ls : List (List ℕ)) (full at : ℕ) → full ≡ size (joined eol (drop_empty ls)) → at ≡ size (joined eol (l ∷ ls))
      → full_of (size l) full at ≡ size (joined eol (drop_empty (l ∷ ls)))
  full_at [] ls full at e f = choose_true (eqb (size []) 0) full at none_test ∙ e ∙ ap (λ (x : List (List ℕ)). size (joined eol x)) (sym (full_empty ls))
  full_at (c ∷ cs) ls full at e f =
      choose_false (eqb (size (c ∷ cs)) 0) full at (some_test (c ∷ cs) (some_size c cs)) ∙ f
      ∙ ap (λ (x : List (List ℕ)). size (joined eol x)) (sym (full_line (c ∷ cs) ls (some_size c cs)))

  below_at : (l : List ℕ) (ls : List (List ℕ)) (from at : ℕ) → from ≡ size (joined eol ls) → at ≡ size (joined eol (l ∷ ls))
      → full_of (size l) from at ≡ size (joined eol (drop_blank (l ∷ ls)))
  below_at [] ls from at e f = choose_true (eqb (size []) 0) from at none_test ∙ e ∙ ap (λ (x : List (List ℕ)). size (joined eol x)) (sym (below_empty ls))
  below_at (c ∷ cs) ls from at e f =
      choose_false (eqb (size (c ∷ cs)) 0) from at (some_test (c ∷ cs) (some_size c cs)) ∙ f
      ∙ ap (λ (x : List (List ℕ)). size (joined eol x)) (sym (below_line (c ∷ cs) ls (some_size c cs)))

  alone_at : (l : List ℕ) (ls : List (List ℕ)) (first : Bool) → first ≡ is_first (newest_of ls) → alone_after (size l) first ≡ is_first (newest_of (drop_blank (l ∷ ls)))
  alone_at [] ls first e = choose_true (eqb (size []) 0) first false none_test ∙ e ∙ ap (λ (x : List (List ℕ)). is_first (newest_of x)) (sym (below_empty ls))
  alone_at (c ∷ cs) ls first e =
      choose_false (eqb (size (c ∷ cs)) 0) first false (some_test (c ∷ cs) (some_size c cs)) ∙ sym (not_alone (c ∷ cs) ls)
      ∙ ap (λ (x : List (List ℕ)). is_first (newest_of x)) (sym (below_line (c ∷ cs) ls (some_size c cs)))

  -- what is settled is before the newest line, if that holds more than white space, and else what was settled before it
  settled_at_law : (l : List ℕ) (ls : List (List ℕ)) (tail settled start : ℕ) → (eqb tail 0 ≡ true → White l) → (eqb tail 0 ≡ false → White l → ⊥)
      → settled ≡ size (closed eol (settled_lines ls)) → start ≡ size (joined eol ls ++ sep_of eol (newest_of ls))
      → full_of tail settled start ≡ size (closed eol (settled_lines (l ∷ ls)))
  settled_at_law l ls tail settled start w s e f =
      choose_case (λ (n : ℕ). n ≡ size (closed eol (settled_lines (l ∷ ls))))
      (λ h. e ∙ ap (λ (x : List (List ℕ)). size (closed eol x)) (sym (settled_white l ls (w h))))
      (λ h. f ∙ ap size (sym (closed_joined eol ls)) ∙ ap (λ (x : List (List ℕ)). size (closed eol x)) (sym (settled_solid l ls (s h))))

  stem : (drops : Bool) (ls : List (List ℕ)) (t : Written) (out : List ℕ) → Text model eol ls t out
      → Stem model eol (kept_lines drops ls) (choose drops t.below t.at.0) t.full t.settled (choose drops t.alone (is_first t.last)) out
  unfolding choose
  stem true ls t out r =
      record {
        place = r.below;
        holds = rw (below_cut eol ls) at (keeps_cut model out (encode (joined eol ls)) (size (joined eol (drop_blank ls))) r.holds);
        whole = r.full ∙ rw (below_full ls) refl;
        starts = r.alone;
        settles = r.settles ∙ ap (λ (x : List (List ℕ)). size (closed eol x)) (sym (settled_drop ls));
      }
  stem false ls t out r = record { place = r.at; holds = r.holds; whole = r.full; starts = ap is_first r.last; settles = r.settles }

  -- the separator before a next line
  sep_encode : (ls : List (List ℕ)) (from full settled : ℕ) (f : Bool) (out : List ℕ) → Ending eol → Stem model eol ls from full settled f out
      → encode (joined eol ls ++ sep_of eol (newest_of ls)) ≡ encode (joined eol ls) ++ sep_by eol f
  sep_encode ls from full settled f out ends r =
      let s : encode (sep_of eol (newest_of ls)) ≡ sep_by eol f = ap (λ (b : Bool). encode (sep_by eol b)) (sym r.starts) ∙ sep_bytes eol f ends in
      encode_append (joined eol ls) (sep_of eol (newest_of ls)) ∙ ap (λ (x : List ℕ). encode (joined eol ls) ++ x) s

  -- it is written
  after_sep : (ls : List (List ℕ)) (from full settled : ℕ) (f : Bool) (out o1 : List ℕ) (start : ℕ) → Ending eol → Stem model eol ls from full settled f out
      → Compared model out o1 from (sep_by eol f) start
      → (start ≡ size (joined eol ls ++ sep_of eol (newest_of ls))) × Keeps model o1 (encode (joined eol ls ++ sep_of eol (newest_of ls)))
  after_sep ls from full settled f out o1 start ends r w =
      let e = sep_encode ls from full settled f out ends r in (
        omega (arith, ap length e, length-append (encode (joined eol ls)) (sep_by eol f), w.next, r.place),
        rw e (w.holds (encode (joined eol ls)) (sym r.place) r.holds),
      )

-- ---- a line is added

module _
    (model eol out o1 p line : List ℕ) (from full settled : ℕ) (f : Bool) (start next k tail : ℕ) (joins : Bool)
    (ends : Ending eol) (b : Blanks p) (told : Line line tail joins) (starts : start ≡ from + length (sep_by eol f)) (pad : k ≡ length p)
    (w : Compared model out o1 from (sep_by eol f ++ (p ++ line)) next)
  where
    bytes : encode (p ++ decode line) ≡ p ++ line
    bytes = blanks_encode p (decode line) b ∙ ap (λ (x : List ℕ). p ++ x) told.well

    long : k + length line ≡ size (p ++ decode line)
    long = omega (arith, pad, ap length bytes, length-append p line)

    kept : tail ≡ size (trim_end (decode line))
    kept = sym (length-take-le tail line told.trims.fits) ∙ ap length (sym told.trims.well) ∙ ap size told.trims.text

    abbrev pushed : Written
    pushed =
        record {
          at = record { 0 = next };
          cut = start + tail_of (k) tail;
          full = full_of (k + length line) full next;
          below = full_of (k + length line) from next;
          alone = alone_after (k + length line) f;
          last = newest_by (k + length line) joins;
          settled = full_of tail settled start;
        }

    white_tail : eqb tail 0 ≡ true → White (p ++ decode line)
    white_tail h = white_append p (decode line) b.white (white_of (decode line) (none_size (trim_end (decode line)) (sym kept ∙ eqb-true tail 0 h)))

    solid_tail : eqb tail 0 ≡ false → White (p ++ decode line) → ⊥
    solid_tail h w = true≢false (sym (eq-eqb tail 0 (kept ∙ ap size (end_none (decode line) (white_right p (decode line) w)) ∙ ap length encode_nil)) ∙ h)

    push_text : (ls : List (List ℕ)) → Stem model eol ls from full settled f out → Text model eol ((p ++ decode line) ∷ ls) pushed o1
    unfolding newest_of trim_newest
    push_text ls r =
        let l = p ++ decode line in
        let s = sep_encode model eol ls from full settled f out ends r in
        let g : start ≡ size (joined eol ls ++ sep_of eol (newest_of ls)) = omega (arith, ap length s, length-append (encode (joined eol ls)) (sep_by eol f), starts, r.place) in
        let e : encode (joined eol (l ∷ ls)) ≡ encode (joined eol ls) ++ (sep_by eol f ++ (p ++ line)) =
        ap encode (joined_cons eol l ls ∙ sym (append_assoc (joined eol ls) (sep_of eol (newest_of ls)) l))
        ∙ encode_append (joined eol ls ++ sep_of eol (newest_of ls)) l ∙ rw (s, bytes, append_assoc) refl in
        let n : next ≡ size (joined eol (l ∷ ls)) = omega (arith, ap length e, length-append (encode (joined eol ls)) (sep_by eol f ++ (p ++ line)), w.next, r.place) in
        record {
          at = n;
          holds = rw e (w.holds (encode (joined eol ls)) (sym r.place) r.holds);
          cut = rw (pad, kept) (omega (arith, size_joined eol (trim_end l) ls, tail_pad p (decode line) b, g, size_append (joined eol ls) (sep_of eol (newest_of ls))));
          full = rw long (full_at model eol l ls full next r.whole n);
          last = rw (long, told.takes, ← join_pad p (decode line) b) refl;
          below = rw long (below_at model eol l ls from next r.place n);
          alone = rw long (alone_at model eol l ls f r.starts);
          settles = settled_at_law model eol l ls tail settled start white_tail solid_tail r.settles g;
        }

-- in the terms of the calls in `push_line`: s is the ending, and k the length of the indent p
pub row_room : {at from : ℕ} (e : LineEnding) (f : Bool) (s p line : List ℕ) → s ≡ sep_by (as_str e) f → from ≤ at
    → at + 2 + (length p + length line) < 2 ^ 64 → from + length (s ++ (p ++ line)) < 2 ^ 64
row_room e f s p line is h b = omega (arith, ap length is, sep_le e f, length-append s (p ++ line), length-append p line)

module _ {m x y : List ℕ} {from k next : ℕ} (s p line : List ℕ) (ek : k ≡ length p) (w : Compared m x y from (s ++ (p ++ line)) next) where
  pub starts_at : next ≡ from + length s + (k + length line)
  starts_at = omega (arith, w.next, length-append s (p ++ line), length-append p line)

  pub kept_room : {tail kept : ℕ} {joins : Bool} → Line line tail joins → kept ≡ tail_of k tail → next - (k + length line) + kept ≤ next
  kept_room {tail} told h = omega (arith, starts_at, tail_le k tail, told.trims.fits)

pub push_done : (e : LineEnding) (drops : Bool) (model out o1 : List ℕ) (t : Written) (indent : List ℕ) (levels : ℕ) (line : List ℕ) (from : ℕ) (f : Bool) (s : List ℕ) (k next tail : ℕ) (joins : Bool) (kept full below : ℕ) (alone : Bool) (last : Last) (settled : ℕ)
    → all_blank indent ≡ true → Line line tail joins → Ordered t → From drops t from → f ≡ choose drops t.alone (is_first t.last)
    → s ≡ sep_by (as_str e) f → Compared model out o1 from (s ++ (times levels indent ++ line)) next → k ≡ length (times levels indent)
    → kept ≡ tail_of k tail → full ≡ full_of (k + length line) t.full next
    → below ≡ full_of (k + length line) from next → alone ≡ alone_after (k + length line) f → last ≡ newest_by (k + length line) joins
    → settled ≡ full_of tail t.settled (next - (k + length line))
    → Adds (as_str e) drops (times levels indent ++ decode line) model out t o1
    (record { at = record { 0 = next }; cut = next - (k + length line) + kept; full = full; below = below; alone = alone; last = last; settled = settled })
push_done e drops model out o1 t indent levels line from f s k next tail joins kept full below alone last settled blank told order wf ef is w ekk ek efull eb ea el es =
    let p = times levels indent in
    let b = indent_blanks levels indent blank in
    let over : t.full ≤ from = rw wf.is (choose_case (λ (n : ℕ). t.full ≤ n) (λ _. order.full) (λ _. omega (arith, order.full, order.below))) in
    let r = starts_at s p line ekk w in
    let starts : next - (k + length line) ≡ from + length (sep_by (as_str e) f) = omega (arith, r, ap length is) in
    rw (ek, efull, eb, ea, el, es)
    (record {
      text = λ ls x. push_text model (as_str e) out o1 p line from t.full t.settled f (next - (k + length line)) next k tail joins (ending e) b told starts ekk (rw is at w) (kept_lines drops ls) (rw (wf.is, ef) (stem model (as_str e) drops ls t out x));
      grown = record {
        at = omega (arith, r, ap length is, sep_le e f, wf.small, ap length (blanks_encode p (decode line) b), ap length told.well, length-append p (encode (decode line)));
        cut = kept_room s p line ekk w told refl;
        full = full_mono (eqb (k + length line) 0) t.full from next over;
        below = full_le (k + length line) from next (omega (arith, w.next));
      };
    })

-- ---- an else is joined

pub join_done : (model out o1 o2 : List ℕ) (t : Written) (line : List ℕ) (start next : ℕ) (joins : Bool) (last : Last)
    → ElseLine line joins → t.cut ≤ t.at.0 → Compared model out o1 t.cut (32 ∷ []) start → Compared model o1 o2 start line next → last ≡ newest_by 1 joins
    → Joins (decode line) model out t o2 (record { at = record { 0 = next }; cut = next; full = next; below = next; alone = false; last = last; settled = t.settled })
unfolding can_join join_else trim_newest newest_of
join_done model out o1 o2 t line start next joins last told small first second el =
    record {
      text = go;
      grown = record { at = omega (arith, first.next, second.next, ap length told.well); cut = omega arith; full = omega arith; below = omega arith };
    }
  where
    go : (eol : List ℕ) (ls : List (List ℕ)) → Text model eol ls t out → can_join ls ≡ true
        → Text model eol (join_else (decode line) ls) (record { at = record { 0 = next }; cut = next; full = next; below = next; alone = false; last = last; settled = t.settled }) o2
    go eol [] r j = absurd (let o : ◌≡◌ {A = ℕ} 0 1 = cc in omega arith)
    go eol (l ∷ ls) r j =
        let x = trim_end l in
        let add : List ℕ = 32 ∷ decode line in
        let new = x ++ add in
        let h : 1 ≤ length (decode line) = some_chars (decode line) (omega (arith, told.some, ap length told.well)) in
        let bytes : encode add ≡ 32 ∷ line = encode_append (32 ∷ []) (decode line) ∙ rw (encode_ascii (32 ∷ []) (omega arith, tt), told.well) refl in
        let g : encode (joined eol (new ∷ ls)) ≡ encode (joined eol (x ∷ ls)) ++ (32 ∷ line) =
        ap encode (joined_grow eol x add ls) ∙ encode_append (joined eol (x ∷ ls)) add ∙ ap (λ (y : List ℕ). encode (joined eol (x ∷ ls)) ++ y) bytes in
        let n : next ≡ size (joined eol (new ∷ ls)) = omega (arith, ap length g, length-append (encode (joined eol (x ∷ ls))) (32 ∷ line), r.cut, first.next, second.next) in
        let k : 1 ≤ size new = omega (arith, size_append x add, ap length bytes) in
        let back : Keeps model out (encode (joined eol (x ∷ ls))) = rw (newest_cut eol l ls) at (keeps_cut model out (encode (joined eol (l ∷ ls))) (size (joined eol (x ∷ ls))) r.holds) in
        let one : Keeps model o1 (encode (joined eol (x ∷ ls)) ++ (32 ∷ [])) = first.holds (encode (joined eol (x ∷ ls))) (sym r.cut) back in
        let two : Keeps model o2 ((encode (joined eol (x ∷ ls)) ++ (32 ∷ [])) ++ line) =
        second.holds (encode (joined eol (x ∷ ls)) ++ (32 ∷ [])) (omega (arith, length-append (encode (joined eol (x ∷ ls))) (32 ∷ []), r.cut, first.next)) one in
        record {
          at = n;
          holds = rw g (rw append_assoc at two);
          cut = n ∙ rw (else_trimmed x (decode line) told.trimmed h) refl;
          full = n ∙ rw (full_line new ls k) refl;
          below = n ∙ rw (below_line new ls k) refl;
          alone = rw (below_line new ls k) (sym (not_alone new ls));
          last = el ∙ ap (newest_by 1) (told.takes ∙ sym (else_joinable l (decode line) told.trimmed h j)) ∙ kind_some new (joinable new) k;
          settles = r.settles ∙ ap (λ (a : List (List ℕ)). size (closed eol a)) (sym (settled_join (decode line) (l ∷ ls) j));
        }

-- ---- several lines

pub continue_done : (e : LineEnding) (drops : Bool) (model out o1 : List ℕ) (t : Written) (from : ℕ) (f : Bool) (r : ℕ) → From drops t from → f ≡ choose drops t.alone (is_first t.last)
    → Compared model out o1 from (sep_by (as_str e) f) r → Continued (as_str e) drops model out t o1 r
continue_done e drops model out o1 t from f r wf ef w =
    let s : (ls : List (List ℕ)) → Text model (as_str e) ls t out → Stem model (as_str e) (kept_lines drops ls) from t.full t.settled f out = λ ls x. rw (wf.is, ef) (stem model (as_str e) drops ls t out x) in
    record {
      place = λ ls x. (after_sep model (as_str e) (kept_lines drops ls) from t.full t.settled f out o1 r (ending e) (s ls x) w).0;
      holds = λ ls x. (after_sep model (as_str e) (kept_lines drops ls) from t.full t.settled f out o1 r (ending e) (s ls x) w).1;
      small = omega (arith, w.next, wf.small, sep_le e f);
    }

module _
    {model eol out out' after : List ℕ} {drops : Bool} {t : Written} {r next : ℕ} (m : List ℕ) (ms : List (List ℕ))
    (go_on : Continued eol drops model out t out' r) (written : Compared model out' after r (encode (joined eol (m ∷ ms))) next)
  where
    -- lines written after `continue_text`, the newest of which is trimmed and not empty
    pub lines_done : {joins : Bool} {last : ℕ} → 1 ≤ size m → trim_end m ≡ m → joinable m ≡ joins → last + size m ≡ next
        → (ls : List (List ℕ)) → Text model eol ls t out → Text model eol ((m ∷ ms) ++ kept_lines drops ls) (after_lines last next joins) after
    unfolding trim_newest newest_of
    lines_done {joins} {last} some trims takes ends ls x =
        let before = kept_lines drops ls in
        let e : encode (joined eol ((m ∷ ms) ++ before)) ≡ encode (joined eol before ++ sep_of eol (newest_of before)) ++ encode (joined eol (m ∷ ms)) = encode_append_lines eol m ms before in
        let n : next ≡ size (joined eol ((m ∷ ms) ++ before)) =
        omega (arith, ap length e, length-append (encode (joined eol before ++ sep_of eol (newest_of before))) (encode (joined eol (m ∷ ms))), written.next, go_on.place ls x) in
        record {
          at = n;
          holds = rw e (written.holds (encode (joined eol before ++ sep_of eol (newest_of before))) (sym (go_on.place ls x)) (go_on.holds ls x));
          cut = n ∙ ap (λ (l : List ℕ). size (joined eol (l ∷ (ms ++ before)))) (sym trims);
          full = n ∙ rw (full_line m (ms ++ before) some) refl;
          below = n ∙ rw (below_line m (ms ++ before) some) refl;
          alone = rw (below_line m (ms ++ before) some) (sym (not_alone m (ms ++ before)));
          last = ap (newest_by 1) (sym takes) ∙ kind_some m (joinable m) some;
          settles =
              omega (arith, n, ends, ap size (joined_closed eol m (ms ++ before)), size_append (closed eol (ms ++ before)) m)
              ∙ ap (λ (a : List (List ℕ)). size (closed eol a)) (sym (settled_solid m (ms ++ before) (λ w. solid (sym trims ∙ end_none m w))));
        }
      where
        solid : m ≡ [] → ⊥
        solid e = let h : 1 ≤ size m = some in omega (arith, ap size e, ap length encode_nil)

    pub lines_grown : (last : ℕ) (joins : Bool) → Grown t (size (joined eol (m ∷ ms)) + 2) (after_lines last next joins)
    lines_grown last joins = record { at = omega (arith, written.next, go_on.small); cut = omega arith; full = omega arith; below = omega arith }

-- ---- the start and the end

pub text_nothing : (model eol out : List ℕ) → Keeps model out [] → Text model eol [] nothing out
unfolding joined encode trim_newest drop_empty drop_blank newest_of closed settled_lines
text_nothing model eol out k = record { at = refl; holds = k; cut = refl; full = refl; last = refl; below = refl; alone = refl; settles = refl }

pub grown_ordered : {t u : Written} {n : ℕ} → Grown t n u → Ordered u
grown_ordered g = record { cut = g.cut; full = g.full; below = g.below }

last_sep : (eol : List ℕ) (newline : Bool) → sep_by eol (not newline) ≡ choose newline eol []
unfolding choose
last_sep eol true = refl
last_sep eol false = refl

module _
    (e : LineEnding) (newline : Bool) (model out o1 : List ℕ) (t : Written) (r : ℕ)
    (w : Compared model out o1 t.full (sep_by (as_str e) (not newline)) r)
  where
    rest : encode (choose newline (as_str e) []) ≡ sep_by (as_str e) (not newline)
    rest = ap encode (sym (last_sep (as_str e) newline)) ∙ sep_bytes (as_str e) (not newline) (ending e)

    done : (ls : List (List ℕ)) → encode (joined (as_str e) (drop_empty ls) ++ choose newline (as_str e) []) ≡ encode (joined (as_str e) (drop_empty ls)) ++ sep_by (as_str e) (not newline)
    done ls =
        encode_append (joined (as_str e) (drop_empty ls)) (choose newline (as_str e) []) ∙ ap (λ (x : List ℕ). encode (joined (as_str e) (drop_empty ls)) ++ x) rest

    pub end_done : Ended (as_str e) (choose newline (as_str e) []) model out t o1 r
    end_done =
        record {
          long = λ ls x. omega (arith, ap length (done ls), length-append (encode (joined (as_str e) (drop_empty ls))) (sep_by (as_str e) (not newline)), w.next, x.full);
          text = λ ls x. let full = joined (as_str e) (drop_empty ls) in
              let cut : Keeps model out (encode full) = rw (full_cut (as_str e) ls) at (keeps_cut model out (encode (joined (as_str e) ls)) (size full) x.holds) in
              rw (done ls) (w.holds (encode full) (sym x.full) cut);
          room = w.size;
        }

module _ (eol rest out o1 : List ℕ) (t : Written) (r : ℕ) (w : Ended eol rest [] out t o1 r) where
  pub finish_short : (o2 : List ℕ) → length o1 < r → o2 ≡ replicate (length o1) 0 → Finished eol rest out t o2 r
  finish_short o2 h z = record { long = w.long; text = λ ls x k. absurd (omega (arith, w.room)); zeros = λ k. z ∙ rw w.room refl }

  pub finish_whole : (o2 : List ℕ) → r ≤ length o1 → Finishes o1 o2 r → Finished eol rest out t o2 r
  unfolding filled Keeps
  finish_whole o2 h z =
      record {
        long = w.long;
        text = λ ls x k. finishes_text z h (encode (joined eol (drop_empty ls) ++ rest)) (sym (w.long ls x)) (w.text ls x) ∙ rw (w.room, ← w.long ls x) refl;
        zeros = λ k. absurd (omega (arith, w.room));
      }

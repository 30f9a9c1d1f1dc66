-- The lines of a source, one after the other: the loop of `text_kinds`.
use Prim.Native.Nat.{ℕ, zero, suc, ◌+◌, ◌-◌, ◌/◌, ◌<◌, ◌≤◌, ◌^◌, zero-le}
use native.Mathlib.Omega.{arith}
use native.Mathlib.Numerals.{add-one}
use mathlib.Core.Bool.{Bool, true, false}
use mathlib.Core.List.{List, [], ◌∷◌, map}
use mathlib.Core.Logic.{◌⊎◌, inl, inr}
use mathlib.Core.Path.{◌≡◌, refl, sym, ap, ◌∙◌}
use lib.ListN.{length, get_or, take, drop, replicate, length-take, length-drop, length-map, length-replicate, drop_of_length-le, take-append-drop, get_or-eq_default}
use lib.Seq.{drop-drop, take-length, get_or-take, get_or-drop}
use Rattle.utf8.specs.Unicode.{encode, decode, WellFormed}
use Rattle.utf8.specs.Places.{high_at}
use Rattle.utf8.proofs.Tests.{split}
use Rattle.rules.specs.declared.Carry.{Carry}
use Rattle.rules.specs.declared.TextKind.{TextKind}
use Rattle.rules.specs.Basics.{pieces, split_on}
use Rattle.rules.specs.Lines.{drop_cr}
use Rattle.rules.specs.Call.{filled}
use Rattle.rules.specs.Scan.{begin, carry_after}
use Rattle.rules.specs.TextKind.{rust_lines, text_kind_at, kind_number}
use Rattle.rules.proofs.LinesBytes.{rust_one, rust_more, rust_lines_bytes}
use Rattle.rules.proofs.StartsBytes.{on_decode}
use Rattle.rules.proofs.Choose.{choose_case}
use Rattle.basics.specs.Depth.{carry_depth}
use Rattle.scan.specs.Classified.{Classified}
use Rattle.line_ends.specs.LineEnds.{LineEnd}
use Rattle.line_ends.proofs.LineCuts.{Last, Cut, last, more, cut, whole, part_of, cr_fits}
use Rattle.text_kind.specs.Kind.{byte_kinds, byte_kind_in, kind_from, line_at, SourceFits}
use Rattle.text_kind.proofs.KindBytes.{kind_bytes}
use Rattle.text_kind.proofs.KindLines.{rust_none, line_last, line_more, kind_past, kind_more, kind_here, line_fits}
use Rattle.text_kinds.specs.Places.{Place, place_at, places_in, ascending, kind_of_place, lines_asked, lines_classified, kinds_of}
use Rattle.text_kinds.specs.Reading.{line_of, column_of, place_count, From, IsOn, Ahead, Filled, Listed, Shallow, LineAnswered, Without, Tells, line_count, Read, KindsFound}
use Rattle.text_kinds.specs.declared.Progress.{Progress}
use Rattle.text_kinds.proofs.PlaceLaws.{count_half, place_at_law, from_next, from_trans, from_line}
use Rattle.text_kinds.proofs.FillLaws.{filled_skip}
use Rattle.text_kinds.proofs.ClassLaws.{without_none, classes_in, classes_room}

-- ---- the lines of a text, one at a time

nothing_left : (y : Carry) (n c : ℕ) → kind_from y [] n c ≡ TextKind.Code
unfolding byte_kind_in split_on
nothing_left y n c = rw rust_none

no_lines : line_count [] ≡ 0
unfolding split_on
no_lines = rw rust_none

module _ (source : List ℕ) (at e : ℕ) (q : LineEnd source at e) (h : at < length source) where
  pub kind_step : (y : Carry) (n c : ℕ) → kind_from y (drop at source) (suc n) c ≡ kind_from (carry_after y (line_at (drop at source))) (drop (e + 1) source) n c
  kind_step y n c = go (split e (length source))
    where
      go : (e < length source) ⊎ (length source ≤ e) → kind_from y (drop at source) (suc n) c ≡ kind_from (carry_after y (line_at (drop at source))) (drop (e + 1) source) n c
      go (inl l) =
          let m = part_of source at e q l in
          let j : at + suc (e - at) ≡ e + 1 = omega (arith, q.from) in
          kind_more (drop at source) (e - at) m y n c
          ∙ ap (λ (x : List ℕ). kind_from (carry_after y x) (drop (suc (e - at)) (drop at source)) n c) (line_more (drop at source) (e - at) m)
          ∙ ap (λ (x : List ℕ). kind_from (carry_after y (line_at (drop at source))) x n c) (drop-drop (suc (e - at)) at source ∙ ap (λ (i : ℕ). drop i source) j)
      go (inr l) =
          kind_past (drop at source) (whole source at e q l) y n c
          ∙ sym (ap (λ (x : List ℕ). kind_from (carry_after y (line_at (drop at source))) x n c) (drop_of_length-le source {i = e + 1} (omega arith)) ∙ nothing_left _ n c)

  pub count_step : line_count (drop at source) ≡ suc (line_count (drop (e + 1) source))
  count_step = go (split e (length source))
    where
      some : (s : List ℕ) → 0 < length s → Last s → line_count s ≡ 1
      some [] k p = absurd (omega arith)
      some (b ∷ s) k p = rw (p, rust_one (b ∷ s) refl)

      go : (e < length source) ⊎ (length source ≤ e) → line_count (drop at source) ≡ suc (line_count (drop (e + 1) source))
      go (inl l) =
          let m = part_of source at e q l in
          let j : at + suc (e - at) ≡ e + 1 = omega (arith, q.from) in
          ap (λ (x : List (List ℕ)). length (rust_lines x)) (ap pieces m)
          ∙ ap length (rust_more (take (e - at) (drop at source)) _ _)
          ∙ ap (λ (x : List ℕ). suc (line_count x)) (drop-drop (suc (e - at)) at source ∙ ap (λ (i : ℕ). drop i source) j)
      go (inr l) =
          some (drop at source) (omega (arith, length-drop at source)) (whole source at e q l)
          ∙ sym (ap (λ (x : List ℕ). suc (line_count x)) (drop_of_length-le source {i = e + 1} (omega arith)) ∙ ap suc no_lines)

pub line_count_decode : (source : List ℕ) → WellFormed source → line_count (decode source) ≡ line_count source
line_count_decode source w =
    sym (on_decode line_count line_count (λ l. ap length (rust_lines_bytes l) ∙ length-map (rust_lines (pieces (split_on "\n" l))) encode) source w)

-- a line's bytes are those of the text from its start on
cr_byte : (l : List ℕ) (j : ℕ) → j < length (drop_cr l) → get_or (drop_cr l) j 0 ≡ get_or l j 0
unfolding drop_cr
cr_byte [] j h = refl
cr_byte (c ∷ []) j h = choose_case (λ (x : List ℕ). j < length x → get_or x j 0 ≡ get_or (c ∷ []) j 0) (λ e k. absurd (omega arith)) (λ e k. refl) h
cr_byte (c ∷ d ∷ l) zero h = refl
cr_byte (c ∷ d ∷ l) (suc j) h = cr_byte (d ∷ l) j (omega arith)

line_byte : (s : List ℕ) (j : ℕ) → j < length (line_at s) → get_or (line_at s) j 0 ≡ get_or s j 0
line_byte s j h = go (cut s)
  where
    go : Cut s → get_or (line_at s) j 0 ≡ get_or s j 0
    go (last e) = ap (λ (x : List ℕ). get_or x j 0) (sym (line_last s e))
    go (more k l e) =
        let q = line_more s k e in
        let n : j < length (drop_cr (take k s)) = omega (arith, ap length q) in
        ap (λ (x : List ℕ). get_or x j 0) (sym q) ∙ cr_byte (take k s) j n
        ∙ get_or-take k s j 0 (omega (arith, cr_fits (take k s), length-take k s))

-- ---- the largest line

line_asked : (ps : List Place) (k : ℕ) → k < length ps → (get_or ps k (place_at 0 0)).line < lines_asked ps
unfolding lines_asked
line_asked [] k h = absurd (omega arith)
line_asked (p ∷ ps) zero h = omega arith
line_asked (p ∷ ps) (suc k) h = let r = line_asked ps k (omega arith) in omega arith

pub asked_at : (list : List ℕ) (k : ℕ) → k < place_count list → line_of list k < lines_asked (places_in list)
asked_at list k h = rw (place_at_law list k (place_at 0 0) h) at (line_asked (places_in list) k h)

-- ---- the invariant

more_lines : {f : Place → ℕ} {list kinds : List ℕ} {m n k : ℕ} → m ≤ n → Filled f list m k kinds → Filled f list n k kinds
more_lines h r = record { within = r.within; room = r.room; front = r.front; back = r.back; passed = omega (arith, r.passed) }

pub read_start : (source list kinds scratch : List ℕ) (n : ℕ) → SourceFits source scratch → place_count list ≤ n → kinds ≡ replicate n 0
    → Read source list kinds (record { at = 0; lines = 0; carry = Carry.Code; next = 0; ascii = 0 })
unfolding lines_asked
read_start source list kinds scratch n f h z =
    record {
      within = zero-le;
      depth = zero-le;
      small = zero-le;
      same = λ n c. ap (λ (i : ℕ). text_kind_at (decode source) i c) (zero_plus n) ∙ kind_bytes source f.well n c;
      count = sym (zero_plus (line_count source));
      asked = zero-le;
      answers = record {
        within = zero-le;
        room = rw z (omega (arith, long));
        front = refl;
        back = z ∙ ap (λ (m : ℕ). replicate {A = ℕ} m 0) room_of_law;
        passed = zero-le;
      };
      ahead = record { from = λ _. start _ _ };
      plain = without_none _ 0;
    }
  where
    long : n ≡ length (replicate {A = ℕ} n 0)
    long = sym (length-replicate {A = ℕ} n 0)

    room_of_law : n ≡ length kinds - 0
    room_of_law = omega (arith, long, ap length z)

    zero_plus : (n : ℕ) → 0 + n ≡ n
    zero_plus n = omega arith

    start : (l c : ℕ) → From 0 0 l c
    start zero c = inr (refl, zero-le)
    start (suc l) c = inl (omega arith)

pub as_zeroed : (n : ℕ) (kinds₀ kinds : List ℕ) → kinds₀ ≡ replicate n 0 → length kinds ≡ length kinds₀ → length kinds ≡ n
as_zeroed n kinds₀ kinds z e = e ∙ ap length z ∙ length-replicate {A = ℕ} n 0

-- the line that starts at the place reached
module _ {source list kinds scratch : List ℕ} {p : Progress} (f : SourceFits source scratch) (w : Listed list kinds) (r : Read source list kinds p)
    (h : p.at < length source) (k : p.next < place_count list)
    (e : ℕ) (q : LineEnd source p.at e) (l : List ℕ) (g : l ≡ line_at (drop p.at source))
  where
    fits : length l ≤ e - p.at
    fits = rw g line_long
      where
        line_long : length (line_at (drop p.at source)) ≤ e - p.at
        line_long = go (split e (length source))
          where
            go : (e < length source) ⊎ (length source ≤ e) → length (line_at (drop p.at source)) ≤ e - p.at
            go (inl x) =
                let m = line_more (drop p.at source) (e - p.at) (part_of source p.at e q x) in
                omega (arith, ap length m, cr_fits (take (e - p.at) (drop p.at source)), length-take (e - p.at) (drop p.at source))
            go (inr x) = omega (arith, line_fits (drop p.at source), length-drop p.at source)

    pub line_shallow : Shallow p.carry (length l)
    line_shallow = record { deep = omega (arith, fits, r.depth, q.from, q.fits, f.short) }

    pub line_room_law : (length l ≤ length scratch) × (carry_depth p.carry + length l + 1 < 2 ^ 32)
    line_room_law = (omega (arith, fits, q.fits, f.room), line_shallow.deep)

    -- what is the same for both ways through a line
    kind_on : (y : Carry) → y ≡ carry_after p.carry l → (n c : ℕ) → text_kind_at (decode source) (p.lines + 1 + n) c ≡ kind_from y (drop (e + 1) source) n c
    kind_on y o n c =
        let j : p.lines + 1 + n ≡ p.lines + suc n = omega arith in
        ap (λ (i : ℕ). text_kind_at (decode source) i c) j
        ∙ r.same (suc n) c
        ∙ kind_step source p.at e q h p.carry n c
        ∙ ap (λ (x : Carry). kind_from x (drop (e + 1) source) n c) (sym (o ∙ ap (carry_after p.carry) g))

    count_on : line_count source ≡ p.lines + 1 + line_count (drop (e + 1) source)
    count_on = let m = count_step source p.at e q h in omega (arith, r.count)

    pub kinds_here : (c : ℕ) → kind_of_place (decode source) (place_at p.lines c) ≡ kind_number (get_or (byte_kinds (begin p.carry) l) c TextKind.Code)
    unfolding kind_of_place
    kinds_here c =
        let j : p.lines ≡ p.lines + 0 = omega arith in
        ap kind_number (ap (λ (i : ℕ). text_kind_at (decode source) i c) j ∙ r.same 0 c ∙ kind_here (drop p.at source) p.carry c)
        ∙ ap (λ (x : List ℕ). kind_number (get_or (byte_kinds (begin p.carry) x) c TextKind.Code)) (sym g)

    -- the line's class bytes, and how many bytes at its front are ASCII
    pub line_tells : (scratch' : List ℕ) (y : Carry) (ascii : ℕ) → Classified p.carry l scratch scratch' y → Without (high_at source) p.at ascii
        → Tells l scratch' (ascii - p.at) 0
    line_tells scratch' y ascii c a =
        record {
          room = classes_room (classes_in p.carry l scratch scratch' y c);
          ascii = record { none = λ j _ m. low j m (split j (length l)) };
          clear = without_none _ 0;
        }
      where
        low : (j : ℕ) → j < ascii - p.at → (j < length l) ⊎ (length l ≤ j) → high_at l j ≡ false
        low j m (inl h) =
            rw (g, line_byte (drop p.at source) j (rw g at h), get_or-drop p.at source j 0) (a.none (p.at + j) (omega arith) (omega arith))
        low j m (inr h) = rw (get_or-eq_default l 0 h)

    -- the next record
    abbrev on : Carry → ℕ → ℕ → Progress
    on y next ascii = record { at = e + 1; lines = p.lines + 1; carry = y; next = next; ascii = ascii }

    module _ {scratch' : List ℕ} {y : Carry} (c : Classified p.carry l scratch scratch' y) (b : Bool) (i : IsOn list p.next p.lines b) where
      read_on_law : (kinds' : List ℕ) (next ascii : ℕ) → p.lines + 1 ≤ lines_asked (places_in list) → Filled (kind_of_place (decode source)) list (suc p.lines) next kinds'
          → Ahead list (suc p.lines) 0 next → Without (high_at source) p.at ascii → Read source list kinds' (on y next ascii) × (p.at < e + 1)
      read_on_law kinds' next ascii far answers ahead a = (
        record {
          within = omega (arith, q.fits);
          depth = omega (arith, c.depth, fits, r.depth, q.from);
          small = omega (arith, r.small, q.from);
          same = kind_on y c.carry;
          count = count_on;
          asked = far;
          answers = more_lines (omega arith) answers;
          ahead = rw add-one ahead;
          plain = record { none = λ j h m. a.none j (omega (arith, q.from)) m };
        },
        omega (arith, q.from),
      )

      pub read_places : b ≡ true → (kinds' : List ℕ) (next ascii : ℕ) → LineAnswered l p.carry p.lines list p.next kinds next kinds'
          → Without (high_at source) p.at ascii → Read source list kinds' (on y next ascii) × (p.at < e + 1)
      read_places t kinds' next ascii a n =
          read_on_law kinds' next ascii (omega (arith, asked_at list p.next k, i.same_line t))
          (a.filled (kind_of_place (decode source)) kinds_here (more_lines (omega arith) r.answers)) a.ahead n

      pub read_none : b ≡ false → Read source list kinds (on y p.next p.ascii) × (p.at < e + 1)
      read_none t =
          let later = from_line (r.ahead.from k) (i.other t k) in
          read_on_law kinds p.next p.ascii (after later) (more_lines (omega arith) r.answers) (record { from = λ _. later }) r.plain
        where
          after : From (suc p.lines) 0 (line_of list p.next) (column_of list p.next) → p.lines + 1 ≤ lines_asked (places_in list)
          after (inl x) = omega (arith, asked_at list p.next k)
          after (inr x) = omega (arith, asked_at list p.next k)

-- ---- the end

front_and_zeros : (f : Place → ℕ) (list kinds : List ℕ) (lines : ℕ) → Filled f list lines (place_count list) kinds → kinds ≡ filled (length kinds) (map f (places_in list))
unfolding filled
front_and_zeros f list kinds lines r =
    let whole : take (place_count list) (places_in list) ≡ places_in list = take-length (places_in list) in
    let long : length (map f (places_in list)) ≡ place_count list = length-map (places_in list) f in
    sym (take-append-drop (place_count list) kinds)
    ∙ rw (r.front, r.back, whole, long)

all_kinds : (source list kinds : List ℕ) (n lines : ℕ) → length kinds ≡ n → Filled (kind_of_place (decode source)) list lines (place_count list) kinds
    → kinds ≡ filled n (kinds_of source list)
unfolding kinds_of
all_kinds source list kinds n lines s r = rw s at (front_and_zeros (kind_of_place (decode source)) list kinds lines r)

-- all places have their kinds
pub read_all : (source list kinds scratch : List ℕ) (n : ℕ) (p : Progress) → SourceFits source scratch → Read source list kinds p → length kinds ≡ n → length list / 2 ≤ p.next
    → KindsFound source list n p.lines kinds
unfolding lines_classified
read_all source list kinds scratch n p f r s h =
    let e : p.next ≡ place_count list = omega (arith, count_half list, r.answers.within) in
    let all : take p.next (places_in list) ≡ places_in list = rw (e, take-length) in
    let most : lines_asked (places_in list) ≤ p.lines = rw all at r.answers.passed in
    let d = line_count_decode source f.well in
    record {
      lines = omega (arith, r.asked, r.count);
      answers = all_kinds source list kinds n p.lines s (rw e at r.answers);
    }

-- the source is read: a place that has no answer yet is past its end
module _ (source list kinds scratch : List ℕ) (n : ℕ) (p : Progress) (f : SourceFits source scratch) (w : ascending (places_in list) ≡ true)
    (r : Read source list kinds p) (s : length kinds ≡ n) (h : length source ≤ p.at)
  where
    past : (line c : ℕ) → p.lines ≤ line → kind_of_place (decode source) (place_at line c) ≡ 0
    unfolding kind_of_place
    past line c l =
        let j : line ≡ p.lines + (line - p.lines) = omega arith in
        ap kind_number (ap (λ (i : ℕ). text_kind_at (decode source) i c) j ∙ r.same (line - p.lines) c
        ∙ ap (λ (x : List ℕ). kind_from p.carry x (line - p.lines) c) (drop_of_length-le source h) ∙ nothing_left p.carry (line - p.lines) c)

    not_less : {line column l c : ℕ} → From line column l c → line ≤ l
    not_less (inl x) = omega arith
    not_less (inr x) = omega arith

    passed_all : (m k : ℕ) → k + m ≡ place_count list → Ahead list p.lines 0 k → Filled (kind_of_place (decode source)) list (lines_asked (places_in list)) k kinds
        → Filled (kind_of_place (decode source)) list (lines_asked (places_in list)) (place_count list) kinds
    passed_all zero k e a q = let j : k ≡ place_count list = omega arith in rw j at q
    passed_all (suc m) k e a q =
        let l : k < place_count list = omega arith in
        let far = a.from l in
        passed_all m (k + 1) (omega arith)
        (record { from = λ x. from_trans far (from_next list k w x) })
        (filled_skip q l 0 (past (line_of list k) (column_of list k) (not_less far)) (asked_at list k l) refl)

    pub read_end : KindsFound source list n p.lines kinds
    unfolding lines_classified
    read_end =
        let d = line_count_decode source f.well in
        let z : line_count (drop p.at source) ≡ 0 = rw (drop_of_length-le source h) no_lines in
        let g = passed_all (place_count list - p.next) p.next (omega (arith, r.answers.within)) r.ahead (more_lines r.asked r.answers) in
        record {
          lines = omega (arith, r.asked, r.count);
          answers = all_kinds source list kinds n (lines_asked (places_in list)) s g;
        }

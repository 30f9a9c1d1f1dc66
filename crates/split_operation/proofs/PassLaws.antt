-- Laws of the passes over a line's bytes.
use Prim.Native.Nat.{ℕ, zero, suc, ◌+◌, ◌-◌, ◌≤◌, ◌<◌, zero-le, min}
use mathlib.Core.Bool.{Bool, true, false, not, true≢false}
use mathlib.Core.List.{List, [], ◌∷◌, ◌++◌, foldl, append-nil, append_assoc}
use mathlib.Core.Option.{Option, none, some}
use Rattle.std.specs.Prelude.{Some, None}
use Rattle.std.specs.Option.{SomeIff, MatchOption}
use Rattle.std.specs.Prelude as code
use mathlib.Core.Path.{◌≡◌, refl, sym, ap, ◌∙◌, subst}
use native.Mathlib.Nat.{suc-min-suc, min-eq_left, min-eq_right}
use native.Mathlib.Numerals.{add-one}
use native.Mathlib.Omega.{arith}
use lib.Dec.{eqb, ltb}
use lib.ListN.{length, get_or, take, drop, length-drop}
use lib.Seq.{drop-cons}
use borrow.Author.Tests.{eq-eqb, ne_eqb, lt-ltb, le-ltb, ltb-true, ltb-false}
use Rattle.buffer.specs.Buffer.{part}
use Rattle.buffer.proofs.RegionLaws.{part_from, part_more}
use mathlib.Core.Logic.{◌⊎◌, inl, inr}
use Rattle.utf8.proofs.Tests.{split}
use Rattle.rules.specs.Basics.{choose, same, Pieces, is_opener, is_closer}
use Rattle.rules.specs.Scan.{Cell, chars_of, is_code}
use Rattle.rules.specs.ClassBytes.{cells_of, cell_at}
use Rattle.rules.specs.SplitOperation.{Ops, OpStep, OpMark, op_mark, no_ops, token, operator, escape, bracket, one_char_step, two_char_step, code_step, fresh_step, op_step_at, deeper, shallower, balance_step, is_zero, is_balanced, has_word, keywords, looser, loosest, at_mark, cut_before}
use Rattle.rules.proofs.Choose.{choose_true, choose_false}
use Rattle.rules.proofs.CellsLaws.{cells_at, cells_end, chars_cells}
use Rattle.rules.specs.OperatorBytes.{byte_step, byte_marks}
use Rattle.split_operation.proofs.WordLaws.{part_none}
use Rattle.top_level_ops.specs.declared.OpState.{OpState}
use Rattle.top_level_ops.specs.declared.Token.{Token}
use Rattle.top_level_ops.specs.Steps.{OpFound, unless, found_as, ops_of, step_of, step_with, step_or, byte_or, token_step}
use Rattle.top_level_ops.proofs.StepLaws.{byte_or_law}
use Rattle.split_operation.specs.declared.pass.Break.{Break}
use Rattle.split_operation.specs.Pass.{marks_at, line_start, Sound, Breakable, cuts_at, rest_from, Cutting, NextOp, Seeking, break_strength, Balances, TakesOver, IsLooser, broken_at, Loosest, OpsAt, Pass, strength_of, cut_of, pass_at, Strong, Passing, BreakFound, PassEnd}

-- ---- one byte

-- a step opens and closes at most one bracket
record Grows (s : Ops) (r : OpStep) : Type 0 where
  opened : r.after.opened ≤ s.opened + 1
  closed : r.after.closed ≤ s.closed + 1

module _ (s : Ops) where
  grows_token : (operand : Bool) (n : ℕ) → Grows s (token s operand n)
  unfolding token
  grows_token operand n = record { opened = omega arith; closed = omega arith }

  grows_operator : (strength n : ℕ) → Grows s (operator s strength n)
  unfolding operator
  grows_operator strength n = record { opened = omega arith; closed = omega arith }

  grows_escape : (esc : Bool) → Grows s (escape s esc)
  unfolding escape
  grows_escape esc = record { opened = omega arith; closed = omega arith }

  grows_open : (operand : Bool) → Grows s (bracket (suc s.opened) s.closed operand)
  unfolding bracket
  grows_open operand = record { opened = omega arith; closed = omega arith }

  grows_close : (operand : Bool) → Grows s (bracket s.opened (suc s.closed) operand)
  unfolding bracket
  grows_close operand = record { opened = omega arith; closed = omega arith }

  grows_str : (operand esc : Bool) (n : ℕ) → Grows s (record { strength = 0; after = record { opened = s.opened; closed = s.closed; operand = operand; esc = esc; skip = n } })
  grows_str operand esc n = record { opened = omega arith; closed = omega arith }

  grows_or : (b : Bool) (x y : OpStep) → Grows s x → Grows s y → Grows s (choose b x y)
  unfolding choose
  grows_or true x y p q = p
  grows_or false x y p q = q

  ruleset growing = (grows_token, grows_operator, grows_escape, grows_open, grows_close, grows_str, grows_or)

  grows_code : (table : List ℕ) (c : ℕ) (cs : List ℕ) → Grows s (code_step table s c cs)
  unfolding code_step one_char_step two_char_step
  grows_code table c cs = search growing depth 12

  grows_fresh : (table : List ℕ) (x : Cell) (cs : List ℕ) → Grows s (fresh_step table s x cs)
  unfolding fresh_step
  grows_fresh table x cs = search (growing, grows_code) depth 12

  grows_at : (n : ℕ) (table : List ℕ) (x : Cell) (cs : List ℕ) → Grows s (op_step_at n table s x cs)
  unfolding op_step_at
  grows_at zero table x cs = grows_fresh table x cs
  grows_at (suc n) table x cs = grows_token s.operand n

  grows_byte : (table : List ℕ) (x : Cell) (cs : List ℕ) → Grows s (byte_step table s x cs)
  grows_byte table x cs = grows_or _ _ _ (record { opened = omega arith; closed = omega arith }) (grows_at s.skip table x cs)

-- the byte at i of a line was read: f was found
pub record ReadAt (table : List ℕ) (s : OpState) (line class : List ℕ) (i : ℕ) (f : OpFound) : Type 0 where
  pub marks : marks_at table s line class i ≡ op_mark (get_or line i 0) f.strength ∷ marks_at table f.after line class (i + 1)
  pub sound : Sound s i → Sound f.after (i + 1)

module _ (table : List ℕ) (s : OpState) (line class : List ℕ) (i : ℕ) (h : i < length line) (b : Breakable line class) where
  abbrev x : Cell
  x = cell_at line class i

  -- what stands after the byte
  chars_left : chars_of (cells_of (drop (i + 1) line) (drop (i + 1) class)) ≡ drop (i + 1) line
  chars_left = chars_cells (drop (i + 1) line) (drop (i + 1) class) (omega (arith, length-drop (i + 1) line, length-drop (i + 1) class, b.long))

  pub read_step : (f : OpFound) → step_of f ≡ byte_step table (ops_of s) x (drop (i + 1) line) → ReadAt table s line class i f
  unfolding byte_marks
  read_step f g =
      let z : byte_step table (ops_of s) x (chars_of (cells_of (drop (i + 1) line) (drop (i + 1) class))) ≡ step_of f = rw chars_left (sym g) in
      let v : Grows (ops_of s) (step_of f) = subst (Grows (ops_of s)) (sym g) (grows_byte (ops_of s) table x (drop (i + 1) line)) in
      record {
        marks = ap (byte_marks table (ops_of s)) (cells_at line class i h b.long)
            ∙ ap (λ (t : OpStep). op_mark (get_or line i 0) t.strength ∷ byte_marks table t.after (cells_of (drop (i + 1) line) (drop (i + 1) class))) z;
        sound = λ q. record { opened = omega (arith, q.opened, v.opened); closed = omega (arith, q.closed, v.closed) };
      }

  -- as the calls say it
  module _ (r : Bool) (a : OpState) (e : (t : OpStep) → step_or t (unless r a) ≡ byte_or t (ops_of s) x) where
    pub read_plain : r ≡ false → ReadAt table s line class i (record { strength = 0; after = a })
    read_plain k =
        let t : OpStep = token_step table (ops_of s) (get_or line i 0 ∷ drop (i + 1) line) in
        read_step (record { strength = 0; after = a }) (ap (λ (b : Bool). step_or t (unless b a)) (sym k) ∙ e t ∙ sym (byte_or_law table (ops_of s) x (drop (i + 1) line)))

    pub read_token : r ≡ true → a ≡ s → (t : Token) → ((o : Ops) → o.operand ≡ a.operand → step_with table o t ≡ token_step table o (take (length line - i) (drop i line)))
        → (strength : ℕ) (after : OpState) → found_as strength after ≡ step_with table (ops_of a) t → ReadAt table s line class i (record { strength = strength; after = after })
    read_token k same t q strength after g =
        let d : take (length line - i) (drop i line) ≡ get_or line i 0 ∷ drop (i + 1) line = part_from line i ∙ drop-cons line i 0 h ∙ rw (add-one i) in
        let u : OpStep = token_step table (ops_of s) (get_or line i 0 ∷ drop (i + 1) line) in
        read_step (record { strength = strength; after = after })
        (g ∙ ap (λ (y : OpState). step_with table (ops_of y) t) same ∙ q (ops_of s) (ap (λ (y : OpState). y.operand) (sym same)) ∙ ap (token_step table (ops_of s)) d ∙ ap (λ (b : Bool). step_or u (unless b a)) (sym k) ∙ e u
        ∙ sym (byte_or_law table (ops_of s) x (drop (i + 1) line)))

-- the strength of the operator that a token is, as the call after `take` gives it
pub taken_strength : {k n : ℕ} {s : OpState} {r : OpStep} → k ≡ n → found_as n s ≡ r → found_as k s ≡ r
taken_strength {k} {n} {s} {r} e f = ap (λ (m : ℕ). found_as m s) e ∙ f

-- ---- strengths

pub looser_none : (a b : ℕ) → a ≡ 0 → b ≡ looser a b
unfolding looser
looser_none zero b h = refl
looser_none (suc a) b h = absurd (omega arith)

pub looser_less : (a b : ℕ) → (a ≡ 0 → ⊥) → (b ≡ 0 → ⊥) → a < b → a ≡ looser a b
unfolding looser
looser_less zero b h k l = absurd (h refl)
looser_less (suc a) zero h k l = absurd (k refl)
looser_less (suc a) (suc b) h k l = sym (min-eq_left (omega arith))

pub looser_more : (a b : ℕ) → (a ≡ 0 → ⊥) → (b ≡ 0 → ⊥) → b ≤ a → b ≡ looser a b
unfolding looser
looser_more zero b h k l = absurd (h refl)
looser_more (suc a) zero h k l = absurd (k refl)
looser_more (suc a) (suc b) h k l = sym (min-eq_right (omega arith))

looser_suc : (a b : ℕ) → looser (suc a) (suc b) ≡ suc (min a b)
unfolding looser
looser_suc a b = suc-min-suc a b

min_assoc : (a b c : ℕ) → min (min a b) c ≡ min a (min b c)
min_assoc a b c = omega arith

pub looser_zero : (a : ℕ) → looser a 0 ≡ a
unfolding looser
looser_zero zero = refl
looser_zero (suc a) = refl

looser_assoc : (a b c : ℕ) → looser (looser a b) c ≡ looser a (looser b c)
unfolding looser
looser_assoc zero b c = refl
looser_assoc (suc a) zero c = refl
looser_assoc (suc a) (suc b) zero = looser_zero (looser (suc a) (suc b))
looser_assoc (suc a) (suc b) (suc c) = rw (looser_suc a b, looser_suc b c, looser_suc (min a b) c, looser_suc a (min b c), min_assoc a b c)

pub never_looser : (a b : ℕ) → a ≡ 0 → IsLooser a b false
never_looser a b h = record { taken = λ e. absurd (true≢false (sym e)); left = λ e. rw h (looser_zero b) }

first_looser : (a b : ℕ) → (a ≡ 0 → ⊥) → b ≡ 0 → IsLooser a b true
first_looser a b h k = record { taken = λ e. record { some = omega arith; less = λ l. absurd (omega arith); is = sym (looser_none b a k) }; left = λ e. absurd (true≢false e) }

less_looser : (a b : ℕ) → (a ≡ 0 → ⊥) → (b ≡ 0 → ⊥) → IsLooser a b (ltb a b)
less_looser a b h k =
    record {
      taken = λ e. let l : a < b = ltb-true a b e in record { some = omega arith; less = λ _. l; is = sym (looser_more b a k h (omega arith)) };
      left = λ e. let l : b ≤ a = ltb-false a b e in go (split b a) l;
    }
  where
    go : (b < a) ⊎ (a ≤ b) → b ≤ a → looser b a ≡ b
    go (inl m) l = sym (looser_less b a k h m)
    go (inr m) l = let q : a ≡ b = omega arith in rw q (sym (looser_more b b k k (omega arith)))

pub looser_by : (a : ℕ) (b : code.Option Break) → (a ≡ 0 → ⊥) → Strong b → (r : Bool) → {P : Break → Type 0}
    → MatchOption b (r ≡ true) P → ((w : Break) → P w → r ≡ ltb a w.strength) → IsLooser a (strength_of b) r
looser_by a None h k r m f = rw m (first_looser a 0 h refl)
looser_by a (Some w) h k r m f = rw (f w m) (less_looser a w.strength h k)

-- ---- brackets

abbrev balanced : Bool → Bool → Bool → Option ℕ → Option ℕ
balanced code opens closes d = choose (not code) d (choose opens (deeper d) (choose closes (shallower d) d))

-- once the depth fell, it stays so
stays_fell : (x : Cell) → balance_step none x ≡ none
unfolding balance_step deeper shallower choose
stays_fell x = go (is_code x.class) (is_opener x.ch) (is_closer x.ch)
  where
    go : (a b c : Bool) → balanced a b c none ≡ none
    go false b c = refl
    go true true c = refl
    go true false true = refl
    go true false false = refl

-- the state after a byte of code
code_balance : (d : Option ℕ) (x : Cell) (r : Bool) → r ≡ is_code x.class → r ≡ true
    → balance_step d x ≡ choose (is_opener x.ch) (deeper d) (choose (is_closer x.ch) (shallower d) d)
unfolding balance_step
code_balance d x r p q = choose_false _ _ _ (ap not (sym p ∙ q))

module _ (depth : ℕ) (x : Cell) (r : Bool) (p : r ≡ is_code x.class) where
  pub balance_other : r ≡ false → Balances depth x (Some depth)
  unfolding balance_step
  balance_other q = record { is = sym (choose_true _ _ _ (ap not (sym p ∙ q))); small = omega arith }

  deepens : some (depth + 1) ≡ deeper (some depth)
  unfolding deeper
  deepens = rw (add-one depth)

  falls : (n : ℕ) → n ≡ 0 → none ≡ shallower (some n)
  unfolding shallower
  falls zero h = refl
  falls (suc n) h = absurd (omega arith)

  lessens : (n : ℕ) → (n ≡ 0 → ⊥) → some (n - 1) ≡ shallower (some n)
  unfolding shallower
  lessens zero h = absurd (h refl)
  lessens (suc n) h = let e : suc n - 1 ≡ n = omega arith in rw e

  module _ (q : r ≡ true) (s : Bool) (u : s ≡ is_opener x.ch) where
    pub balance_open : s ≡ true → Balances depth x (Some (depth + 1))
    balance_open v =
        record { is = deepens ∙ sym (code_balance (some depth) x r p q ∙ choose_true _ _ _ (sym u ∙ v)); small = omega arith }

    module _ (v : s ≡ false) (t : Bool) (w : t ≡ is_closer x.ch) where
      closed : t ≡ true → balance_step (some depth) x ≡ shallower (some depth)
      closed y = code_balance (some depth) x r p q ∙ choose_false _ _ _ (sym u ∙ v) ∙ choose_true _ _ _ (sym w ∙ y)

      pub balance_close : t ≡ true → (o : code.Option ℕ) → SomeIff o (1 ≤ depth) (depth - 1) → Balances depth x o
      balance_close y None e = record { is = falls depth (omega (arith, e)) ∙ sym (closed y); small = zero-le }
      balance_close y (Some d) e =
          subst (λ (n : ℕ). Balances depth x (Some n)) (sym e.1) (record { is = lessens depth (λ (z : depth ≡ 0). absurd (omega (arith, e.0))) ∙ sym (closed y); small = omega arith })

      pub balance_plain : t ≡ false → Balances depth x (Some depth)
      balance_plain y =
          record {
            is = sym (code_balance (some depth) x r p q ∙ choose_false _ _ _ (sym u ∙ v) ∙ choose_false _ _ _ (sym w ∙ y));
            small = omega arith;
          }

-- ---- the next operator: none of the strength stands before i

pub seek_start : (table : List ℕ) (strength : ℕ) (line class : List ℕ) (from : ℕ) (start : OpState) → Cutting strength line class from start → Seeking table strength line class from start start from
seek_start table strength line class from start c =
    record { some = c.some; after = omega arith; within = c.within; breaks = c.breaks; sound = c.sound; first = rw (part_none line from); rest = refl }

module _ {table : List ℕ} {strength : ℕ} {line class : List ℕ} {from : ℕ} {start s : OpState} {i : ℕ} (q : Seeking table strength line class from start s i) where
  cuts : (f : OpFound) → ReadAt table s line class i f
      → cuts_at table strength s line class i ≡ at_mark (eqb f.strength strength) (get_or line i 0) (cuts_at table strength f.after line class (i + 1))
  unfolding cut_before
  cuts f t = ap (cut_before strength) t.marks

  pub seek_read : (f : OpFound) → i < length line → ReadAt table s line class i f → (f.strength ≡ strength → ⊥) → Seeking table strength line class from start f.after (i + 1)
  unfolding at_mark
  seek_read f h a n =
      let e : cuts_at table strength s line class i ≡ at_mark false (get_or line i 0) (cuts_at table strength f.after line class (i + 1)) = rw (ne_eqb f.strength strength n) at (cuts f a) in
      record {
        some = q.some;
        after = omega (arith, q.after);
        within = omega arith;
        breaks = q.breaks;
        sound = a.sound q.sound;
        first = q.first ∙ ap (λ (p : Pieces). part line from i ++ p.first) e ∙ rw (part_more line from i q.after h, append_assoc);
        rest = q.rest ∙ ap (λ (p : Pieces). p.rest) e;
      }

  pub seek_found : (f : OpFound) → i < length line → ReadAt table s line class i f → f.strength ≡ strength
      → NextOp table strength line class from start (record { place = i; after = f.after })
  unfolding at_mark rest_from
  seek_found f h a n =
      let e : cuts_at table strength s line class i ≡ at_mark true (get_or line i 0) (cuts_at table strength f.after line class (i + 1)) = rw (eq-eqb f.strength strength n) at (cuts f a) in
      record {
        after = q.after;
        fits = q.within;
        first = q.first ∙ ap (λ (p : Pieces). part line from i ++ p.first) e ∙ append-nil (part line from i);
        rest = q.rest ∙ ap (λ (p : Pieces). p.rest) e ∙ sym (choose_true _ _ _ (lt-ltb i (length line) h));
        sound = λ l. a.sound q.sound;
      }

  pub seek_end : length line ≤ i → NextOp table strength line class from start (record { place = i; after = s })
  unfolding rest_from byte_marks cut_before
  seek_end h =
      let e : cells_of (drop i line) (drop i class) ≡ [] = cells_end line class i h in
      record {
        after = q.after;
        fits = q.within;
        first = q.first ∙ rw (e, append-nil);
        rest = q.rest ∙ rw e (sym (choose_false _ _ _ (le-ltb i (length line) h)));
        sound = λ l. absurd (omega arith);
      }

  -- as the calls of `next_op` say it
  pub seek_plain : (r : Bool) (a : OpState) → i < length line → ((t : OpStep) → step_or t (unless r a) ≡ byte_or t (ops_of s) (cell_at line class i)) → r ≡ false
      → Seeking table strength line class from start a (i + 1)
  seek_plain r a h e k = seek_read (record { strength = 0; after = a }) h (read_plain table s line class i h q.breaks r a e k) (λ z. q.some (sym z))

-- ---- the operators of the whole line

loosest_cons : (m : OpMark) (ms : List OpMark) → loosest (m ∷ ms) ≡ looser m.strength (loosest ms)
unfolding loosest
loosest_cons m ms = refl

pub ops_start : (table line class : List ℕ) (b : Loosest) → Breakable line class → b.ops ≡ line_start → b.strength ≡ 0 → OpsAt table line class b 0
unfolding looser
ops_start table line class b h e z =
    record {
      within = zero-le;
      breaks = h;
      sound = rw e (record { opened = omega arith; closed = omega arith });
      loosest = rw (e, z);
      clear = λ p pos less. rw e (seek_start table p line class 0 line_start (record { some = λ y. omega arith; within = zero-le; breaks = h; sound = record { opened = omega arith; closed = omega arith } }));
      found = λ l. absurd (omega arith);
    }

left_apart : (m n p : ℕ) → 0 < p → (0 < m → p < m) → looser m n ≡ m → n ≡ p → ⊥
unfolding looser
left_apart zero n p pos less e z = omega arith
left_apart (suc m) zero p pos less e z = omega arith
left_apart (suc m) (suc n) p pos less e z = let l : p < suc m = less (omega arith) in omega arith

module _ {table line class : List ℕ} {b : Loosest} {i : ℕ} (q : OpsAt table line class b i) (h : i < length line) (f : OpFound) (a : ReadAt table b.ops line class i f) where
  sum : loosest (marks_at table line_start line class 0) ≡ looser (looser b.strength f.strength) (loosest (marks_at table f.after line class (i + 1)))
  sum = q.loosest ∙ ap (λ (ms : List OpMark). looser b.strength (loosest ms)) a.marks ∙ rw (loosest_cons, ← looser_assoc)

  -- an operator that takes over
  pub ops_taken : TakesOver f.strength b.strength → OpsAt table line class (record { ops = f.after; strength = f.strength; cut = record { place = i; after = f.after } }) (i + 1)
  ops_taken t =
      record {
        within = omega arith;
        breaks = q.breaks;
        sound = a.sound q.sound;
        loosest = sum ∙ rw t.is;
        clear = λ p pos less.
            let l : p < f.strength = less t.some in
            seek_read (q.clear p pos (λ k. omega (arith, t.less k))) f h a (λ (e : f.strength ≡ p). omega arith);
        found = λ k. seek_found (q.clear f.strength t.some t.less) f h a refl;
      }

  -- one that doesn't
  pub ops_left : looser b.strength f.strength ≡ b.strength → OpsAt table line class (record { ops = f.after; strength = b.strength; cut = b.cut }) (i + 1)
  ops_left e =
      record {
        within = omega arith;
        breaks = q.breaks;
        sound = a.sound q.sound;
        loosest = sum ∙ rw e;
        clear = λ p pos less. seek_read (q.clear p pos less) f h a (λ (z : f.strength ≡ p). left_apart b.strength f.strength p pos less e z);
        found = q.found;
      }

-- ---- the pass for a line's strength

-- the state by default
pub starts_line : (s : OpState) → (s.opened ≡ 0) × ((s.closed ≡ 0) × ((s.operand ≡ false) × ((s.esc ≡ false) × (s.skip ≡ 0)))) → s ≡ line_start
starts_line s e =
    let t : ◌≡◌ {A = OpState} (record { opened = s.opened; closed = s.closed; operand = s.operand; esc = s.esc; skip = s.skip }) line_start = rw (e.0, e.1.0, e.1.1.0, e.1.1.1.0, e.1.1.1.1) in
    t

pub passing_start : (table line class : List ℕ) (p : Pass) → Breakable line class → has_word keywords (cells_of line class) ≡ false → p.ops.ops ≡ line_start → p.ops.strength ≡ 0 → p.depth ≡ 0 → Passing table line class p 0
unfolding is_balanced
passing_start table line class p h w e z d =
    record { ops = ops_start table line class p.ops h e z; deep = omega arith; words = w; balance = rw d }

fell : (xs : List Cell) → foldl balance_step none xs ≡ none
fell [] = refl
fell (x ∷ xs) = ap (λ (o : Option ℕ). foldl balance_step o xs) (stays_fell x) ∙ fell xs

module _ (table line class : List ℕ) (p : Pass) (i : ℕ) (q : Passing table line class p i) (h : i < length line) where
  abbrev left : List Cell
  left = cells_of (drop (i + 1) line) (drop (i + 1) class)

  cells : cells_of (drop i line) (drop i class) ≡ cell_at line class i ∷ left
  cells = cells_at line class i h q.ops.breaks.long

  balance_left : is_balanced (cells_of line class) ≡ is_zero (foldl balance_step (balance_step (some p.depth) (cell_at line class i)) left)
  balance_left = q.balance ∙ ap (λ (xs : List Cell). is_zero (foldl balance_step (some p.depth) xs)) cells

  pub pass_fell : Balances p.depth (cell_at line class i) None → 0 ≡ break_strength table (cells_of line class)
  unfolding break_strength
  pass_fell b = sym (choose_false _ _ _ q.words ∙ choose_true _ _ _ (ap not y))
    where
      y : is_balanced (cells_of line class) ≡ false
      y = balance_left ∙ ap (λ (o : Option ℕ). is_zero (foldl balance_step o left)) (sym b.is) ∙ ap is_zero (fell left)

  pub passing_more : (d : ℕ) → Balances p.depth (cell_at line class i) (Some d) → (ops : Loosest) → OpsAt table line class ops (i + 1)
      → Passing table line class (record { ops = ops; depth = d }) (i + 1)
  passing_more d b ops o =
      record {
        ops = o;
        deep = omega (arith, b.small, q.deep);
        words = q.words;
        balance = balance_left ∙ ap (λ (o : Option ℕ). is_zero (foldl balance_step o left)) (sym b.is);
      }

-- as the calls of `find_break` say it
module _ {table line class : List ℕ} {s : OpState} {depth : ℕ} (a : code.Option Break) {i : ℕ} (q : Passing table line class (pass_at s depth a) i) (h : i < length line) where
  abbrev p : Pass
  p = pass_at s depth a

  module _ (d : ℕ) (v : Balances depth (cell_at line class i) (Some d)) where
    pass_on : (b : Loosest) → OpsAt table line class b (i + 1) → Passing table line class (record { ops = b; depth = d }) (i + 1)
    pass_on b o = passing_more table line class p i q h d v b o

    module _ (r : Bool) (n : OpState) (e : (t : OpStep) → step_or t (unless r n) ≡ byte_or t (ops_of s) (cell_at line class i)) where
      pub pass_plain : r ≡ false → Passing table line class (pass_at n d a) (i + 1)
      pass_plain k =
          pass_on (record { ops = n; strength = strength_of a; cut = cut_of a })
          (ops_left q.ops h (record { strength = 0; after = n }) (read_plain table s line class i h q.ops.breaks r n e k) (looser_zero (strength_of a)))

      module _ (k : r ≡ true) (same : n ≡ s) (t : Token) (g : (o : Ops) → o.operand ≡ n.operand → step_with table o t ≡ token_step table o (take (length line - i) (drop i line)))
          (strength : ℕ) (after : OpState) (u : found_as strength after ≡ step_with table (ops_of n) t) (l : Bool) (y : IsLooser strength (strength_of a) l) where
        abbrev f : OpFound
        f = record { strength = strength; after = after }

        read : ReadAt table s line class i f
        read = read_token table s line class i h q.ops.breaks r n e k same t g strength after u

        pub pass_taken : l ≡ true → (b : Break) → b ≡ broken_at i strength after → Passing table line class (pass_at after d (Some b)) (i + 1) × (b.strength ≡ 0 → ⊥)
        pass_taken z b j =
            subst (λ (x : Break). Passing table line class (pass_at after d (Some x)) (i + 1) × (x.strength ≡ 0 → ⊥)) (sym j) (
              pass_on (record { ops = after; strength = strength; cut = record { place = i; after = after } }) (ops_taken q.ops h f read (y.taken z)),
              (λ o. absurd (omega (arith, (y.taken z).some))),
            )

        pub pass_left : l ≡ false → Passing table line class (pass_at after d a) (i + 1)
        pass_left z = pass_on (record { ops = after; strength = strength_of a; cut = cut_of a }) (ops_left q.ops h f read (y.left z))

-- the whole line was read
module _ (depth : ℕ) (a : code.Option Break) where
  module _ (table line class : List ℕ) (s : OpState) (q : Passing table line class (pass_at s depth a) (length line)) where
    none_left : cells_of (drop (length line) line) (drop (length line) class) ≡ []
    none_left = cells_end line class (length line) (omega arith)

    end_balance : is_balanced (cells_of line class) ≡ eqb depth 0
    end_balance = q.balance ∙ rw none_left (go depth)
      where
        go : (d : ℕ) → is_zero (some d) ≡ eqb d 0
        go zero = refl
        go (suc d) = sym (ne_eqb (suc d) 0 (omega arith))

    end_loosest : loosest (byte_marks table no_ops (cells_of line class)) ≡ strength_of a
    unfolding byte_marks loosest
    end_loosest = q.ops.loosest ∙ rw none_left (looser_zero (strength_of a))

  kept : (table line class : List ℕ) (b : code.Option Break) → strength_of b ≡ break_strength table (cells_of line class) → (0 < strength_of b → NextOp table (strength_of b) line class 0 line_start (cut_of b)) → Strong b
      → BreakFound table line class b
  kept table line class None e f k = e
  kept table line class (Some b) e f k = record { strength = e; some = k; cut = f (omega arith) }

  pub end_found : depth ≡ 0 → PassEnd depth a a
  unfolding break_strength
  end_found d =
      record {
        found = λ table line class s q k.
            kept table line class a
            (sym (choose_false _ _ _ q.words ∙ choose_false _ _ _ (ap not (end_balance table line class s q ∙ eq-eqb _ 0 d)) ∙ end_loosest table line class s q))
            q.ops.found k;
      }

  pub end_open : (depth ≡ 0 → ⊥) → PassEnd depth a None
  unfolding break_strength
  end_open d =
      record {
        found = λ table line class s q k.
            sym (choose_false _ _ _ q.words ∙ choose_true _ _ _ (ap not (end_balance table line class s q ∙ ne_eqb _ 0 d)));
      }

pub pass_end : {table line class : List ℕ} {s : OpState} {depth : ℕ} (a : code.Option Break) {i : ℕ} (r : code.Option Break) → Passing table line class (pass_at s depth a) i → length line ≤ i
    → Strong a → PassEnd depth a r → BreakFound table line class r
pass_end {table} {line} {class} {s} {depth} a {i} r q h k e =
    let z : i ≡ length line = omega (arith, q.ops.within) in
    e.found table line class s (subst (Passing table line class (pass_at s depth a)) z q) k

-- a line with a keyword isn't broken
pub keyword_unbroken : (table line class : List ℕ) → has_word keywords (cells_of line class) ≡ true → 0 ≡ break_strength table (cells_of line class)
unfolding break_strength
keyword_unbroken table line class e = sym (choose_true _ _ _ e)

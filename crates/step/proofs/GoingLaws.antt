-- The line that goes on: spacing, its class bytes, and its brackets.
use Prim.Native.Nat.{ℕ, ◌+◌, ◌-◌, ◌*◌, ◌≤◌}
use native.Mathlib.Omega.{arith}
use mathlib.Core.Bool.{Bool, true, false}
use mathlib.Core.List.{List, ◌++◌}
use mathlib.Core.Path.{◌≡◌, refl, sym, ap, ◌∙◌, subst}
use lib.ListN.{length, take, drop}
use lib.Seq.{take-take}
use Rattle.utf8.specs.Unicode.{encode, decode, WellFormed}
use Rattle.buffer.specs.Buffer.{part}
use Rattle.rules.specs.Basics.{choose, count, is_opener}
use Rattle.rules.specs.Scan.{chars_of, classify, carry_after}
use Rattle.rules.specs.ClassBytes.{class_bytes, cells_of}
use Rattle.rules.specs.Spacing.{normalize_spacing, respaced}
use Rattle.rules.specs.Brackets.{Entry, leading_closers, scan_brackets}
use Rattle.rules.specs.declared.Carry.{Carry}
use Rattle.rules.proofs.Choose.{choose_true, choose_false}
use Rattle.rules.proofs.StartsBytes.{on_decode, all_ascii, closers_encode, closers_ascii}
use Rattle.rules.proofs.ScanBytes.{chars_classify}
use Rattle.rules.proofs.BracketsBytes.{brackets_encode, drop_encode}
use Rattle.rules.proofs.SpacedLine.{spaced_bytes, brackets_height, openers_spaced, count_length, length_size, count_drop}
use Rattle.scan.specs.Within.{ClassifiedAt}
use Rattle.basics.specs.Region.{Only}
use Rattle.basics.specs.Closers.{Closers}
use Rattle.spacing.specs.Respaced.{Normalized, Unchanged}
use Rattle.brackets.specs.Stack.{stacked, Nested, StackFits, BracketsDone}
use Rattle.brackets.specs.declared.Nesting.{Nesting}
use Rattle.basics.proofs.SplitLaws.{after_back, only_from}
use Rattle.basics.proofs.OnlyLaws.{only_same, only_wider, only_then, only_part_before}
use Rattle.buffer.proofs.RegionLaws.{length_part}
use Rattle.line.specs.Holds.{Classes}
use Rattle.line.specs.Scratch.{respaced_at, reclassed_at, stack_at}
use Rattle.line.proofs.HoldsLaws.{cells_decoded, length_stacked}
use Rattle.step.specs.declared.Going.{Going}
use Rattle.step.specs.Going.{LineRoom, going_line, Goes, Went, BracketsCounted}

-- ---- the line that goes on

-- a line and its class bytes from the front of scratch on
pub front_part : (scratch : List ℕ) (n : ℕ) → part scratch 0 (0 + n) ≡ take n scratch
front_part scratch n = let e : 0 + n - 0 ≡ n = omega arith in rw e

module _ (line scratch : List ℕ) (unit : ℕ) (after : Carry) (well : WellFormed line) (room : LineRoom scratch unit (length line)) (classes : Classes Carry.Code line scratch 0 after) where
  pub goes_own : (r : Bool) → Unchanged line (take (length line) scratch) r → r ≡ true
      → Went line scratch scratch unit (record { own = true; len = length line; class_at = 0; carry = after })
  unfolding choose
  goes_own r u e =
      let b : take (length line) scratch ≡ class_bytes (classify Carry.Code line) = sym (front_part scratch (length line)) ∙ classes.bytes in
      let s = spaced_bytes line well in
      let k : line ≡ encode (respaced (decode line)) = sym (u.yes e) ∙ ap (λ (ks : List ℕ). normalize_spacing (cells_of line ks)) b ∙ s.bytes in
      record {
        goes = record {
          long = refl;
          well = well;
          text = ap decode k ∙ s.chars;
          classes = classes.bytes;
          leaves = classes.leaves;
          depth = omega (arith, classes.depth);
          most = omega arith;
          fits = omega (arith, room.short);
        };
        only = only_same scratch _ _;
      }

-- scratch is split where the respaced line goes: the class bytes stand before it, at the front
module _ (line scratch front back : List ℕ) (unit : ℕ) (room : LineRoom scratch unit (length line)) (f : front ≡ take (respaced_at unit) scratch) (g : back ≡ drop (respaced_at unit) scratch) where
  front_classes : take (length line) front ≡ take (length line) scratch
  front_classes = rw f (take-take (length line) (respaced_at unit) scratch (omega (arith, room.short)))

  pub goes_spaced : (after : Carry) → WellFormed line → Classes Carry.Code line scratch 0 after → (out last : List ℕ) (len : ℕ) (carry : Carry)
      → Normalized (cells_of line (take (length line) front)) back out (length line) len → ClassifiedAt (front ++ out) (respaced_at unit) len (reclassed_at unit) last carry
      → Went line scratch last unit (record { own = false; len = len; class_at = reclassed_at unit; carry = carry })
  unfolding choose
  goes_spaced after well classes out last len carry n c =
      let at : ℕ = respaced_at unit in
      let mid : List ℕ = front ++ out in
      let fits : at ≤ length scratch = omega (arith, room.room) in
      let v : Only scratch mid at (at + 2 * length line) = only_from scratch front back out at fits f g (2 * length line) (only_wider 0 (0 + 2 * length line) n.only (omega arith) (omega arith)) in
      let e : at + len - at ≡ len = omega arith in
      let i : part mid at (at + len) ≡ normalize_spacing (cells_of line (take (length line) front)) = rw (e, after_back scratch front back out at fits f g) n.is in
      let b : take (length line) front ≡ class_bytes (classify Carry.Code line) = front_classes ∙ sym (front_part scratch (length line)) ∙ classes.bytes in
      let s = spaced_bytes line well in
      let o : Only mid last (reclassed_at unit) (reclassed_at unit + len) = c.only in
      let p : part last at (at + len) ≡ part mid at (at + len) = only_part_before o at (at + len) (omega arith) (omega (arith, n.most, room.short)) in
      let k : part last at (at + len) ≡ encode (respaced (decode line)) = p ∙ i ∙ ap (λ (ks : List ℕ). normalize_spacing (cells_of line ks)) b ∙ s.bytes in
      record {
        goes = record {
          long = length_part last at len (omega (arith, o.long, v.long, n.most, room.short, room.room));
          well = subst WellFormed (sym k) s.well;
          text = ap decode k ∙ s.chars;
          classes = c.bytes ∙ ap (λ (l : List ℕ). class_bytes (classify Carry.Code l)) (sym p);
          leaves = c.carry ∙ ap (carry_after Carry.Code) (sym p);
          depth = c.depth;
          most = n.most;
          fits = omega (arith, n.most, room.short);
        };
        only = only_then (only_wider 0 (stack_at unit) v (omega arith) (omega (arith, room.short))) (only_wider 0 (stack_at unit) o (omega arith) (omega (arith, n.most, room.short)));
      }

-- ---- its brackets

-- the stack after a line whose leading closers popped before
module _ {y after : Carry} {line scratch : List ℕ} {at : ℕ} (well : WellFormed line) (classes : Classes y line scratch at after) where
  stack_dropped : {scratch' : List ℕ} {base n closers : ℕ} {left deep : Nesting} → Closers line closers
      → BracketsDone scratch scratch' base left n (scan_brackets left.line (drop closers (cells_of line (part scratch at (at + length line)))) (stacked scratch base left.depth)) deep
      → stacked scratch' base deep.depth ≡ scan_brackets left.line (drop (leading_closers (decode line)) (classify y (decode line))) (stacked scratch base left.depth)
  stack_dropped {base = base} {left = left} k w =
      let n = k.is ∙ on_decode leading_closers leading_closers closers_encode line well in
      let low : all_ascii (take (leading_closers (decode line)) (chars_of (classify y (decode line)))) ≡ true =
      ap (λ (s : List ℕ). all_ascii (take (leading_closers (decode line)) s)) (chars_classify y (decode line)) ∙ closers_ascii (decode line) in
      w.is
      ∙ rw (cells_decoded well classes, n, drop_encode (leading_closers (decode line)) (classify y (decode line)) low)
      (brackets_encode left.line (drop (leading_closers (decode line)) (classify y (decode line))) (stacked scratch base left.depth))

-- each bracket that is left open has an opener in the line
height_dropped : (k : ℕ) (l : List ℕ) (n : ℕ) (stack : List Entry) → length (scan_brackets k (drop n (classify Carry.Code (respaced l))) stack) ≤ length stack + length l
height_dropped k l n stack =
    let e : count is_opener (chars_of (classify Carry.Code (respaced l))) ≡ count is_opener l =
    ap (count is_opener) (chars_classify Carry.Code (respaced l)) ∙ openers_spaced (classify Carry.Code l) ∙ ap (count is_opener) (chars_classify Carry.Code l) in
    let cells = classify Carry.Code (respaced l) in
    omega (arith, e, brackets_height k (drop n cells) stack, count_drop is_opener n cells, count_length is_opener l)

module _ (line scratch scratch' : List ℕ) (unit : ℕ) (g : Going) (closers : ℕ) (left deep : Nesting) (well : WellFormed line) (goes : Goes line scratch unit g)
    (k : Closers (encode (respaced (decode line))) closers) where
  counts : (L : List ℕ) → going_line line scratch unit g ≡ L
      → BracketsDone scratch scratch' (stack_at unit) left (length L)
      (scan_brackets left.line (drop closers (cells_of L (part scratch g.class_at (g.class_at + length L)))) (stacked scratch (stack_at unit) left.depth)) deep
      → BracketsCounted (respaced (decode line)) scratch scratch' (stack_at unit) left (length line) deep
  counts L e w =
      let n : g.len ≡ length L = sym goes.long ∙ ap length e in
      let classes : Classes Carry.Code L scratch g.class_at g.carry =
      record {
        bytes = ap (λ (m : ℕ). part scratch g.class_at (g.class_at + m)) (sym n) ∙ goes.classes ∙ ap (λ (s : List ℕ). class_bytes (classify Carry.Code s)) e;
        leaves = goes.leaves ∙ ap (carry_after Carry.Code) e;
        depth = omega (arith, goes.depth, n);
      } in
      let t : decode L ≡ respaced (decode line) = ap decode (sym e) ∙ goes.text in
      let well' : WellFormed L = subst WellFormed e goes.well in
      let k' : Closers L closers = subst (λ (s : List ℕ). Closers s closers) (sym (sym well' ∙ ap encode t)) k in
      let s : stacked scratch' (stack_at unit) deep.depth
      ≡ scan_brackets left.line (drop (leading_closers (respaced (decode line))) (classify Carry.Code (respaced (decode line)))) (stacked scratch (stack_at unit) left.depth) =
      rw t at (stack_dropped well' classes k' w) in
      record {
        stack = s;
        runs = w.runs;
        most =
            omega (
              arith,
              length_stacked scratch' (stack_at unit) deep.depth,
              ap length s,
              length_stacked scratch (stack_at unit) left.depth,
              height_dropped left.line (decode line) (leading_closers (respaced (decode line))) (stacked scratch (stack_at unit) left.depth),
              length_size (decode line),
              ap length well,
            );
        line = w.line;
        long = w.only.long;
      }

  pub counts_own : g.own ≡ true
      → BracketsDone scratch scratch' (stack_at unit) left (length line)
      (scan_brackets left.line (drop closers (cells_of line (part scratch g.class_at (g.class_at + length line)))) (stacked scratch (stack_at unit) left.depth)) deep
      → BracketsCounted (respaced (decode line)) scratch scratch' (stack_at unit) left (length line) deep
  counts_own e w = counts line (choose_true g.own line _ e) w

  pub counts_spaced : g.own ≡ false
      → BracketsDone scratch scratch' (stack_at unit) left g.len
      (scan_brackets left.line (drop closers (cells_of (part scratch (respaced_at unit) (respaced_at unit + g.len)) (part scratch g.class_at (g.class_at + g.len)))) (stacked scratch (stack_at unit) left.depth))
      deep
      → BracketsCounted (respaced (decode line)) scratch scratch' (stack_at unit) left (length line) deep
  counts_spaced e w =
      let p : going_line line scratch unit g ≡ part scratch (respaced_at unit) (respaced_at unit + g.len) = choose_false g.own line _ e in
      let n : length (part scratch (respaced_at unit) (respaced_at unit + g.len)) ≡ g.len = ap length (sym p) ∙ goes.long in
      counts (part scratch (respaced_at unit) (respaced_at unit + g.len)) p
      (subst (λ (m : ℕ). BracketsDone scratch scratch' (stack_at unit) left m
      (scan_brackets left.line (drop closers (cells_of (part scratch (respaced_at unit) (respaced_at unit + g.len)) (part scratch g.class_at (g.class_at + m)))) (stacked scratch (stack_at unit) left.depth)) deep)
      (sym n) w)

-- there is room for the stack
pub count_room : (line scratch : List ℕ) (unit : ℕ) (g : Going) (left : Nesting) (n : ℕ) → LineRoom scratch unit (length line) → Goes line scratch unit g
    → left.depth + length line ≤ unit → Nested scratch (stack_at unit) left → n ≡ g.len → StackFits scratch g.class_at n (stack_at unit) left
count_room line scratch unit g left n r w h k e = record { classes = omega (arith, w.fits); stack = omega (arith, w.most, r.room, r.short); runs = k.runs; line = k.line }

pub own_length : (line scratch : List ℕ) (unit : ℕ) (g : Going) → Goes line scratch unit g → g.own ≡ true → length line ≡ g.len
own_length line scratch unit g w e = ap length (sym (choose_true g.own line (part scratch (respaced_at unit) (respaced_at unit + g.len)) e)) ∙ w.long

-- Laws of the stack in scratch, and the loops over a line's brackets.
use Prim.Native.Nat.{ℕ, zero, suc, ◌+◌, ◌-◌, ◌*◌, ◌/◌, ◌%◌, ◌≤◌, ◌<◌, zero-le}
use mathlib.Core.Bool.{Bool, true, false, not, ◌||◌, true≢false}
use mathlib.Core.List.{List, [], ◌∷◌, ◌++◌, foldl}
use mathlib.Core.Path.{◌≡◌, refl, sym, ap, subst, ◌∙◌}
use native.Mathlib.Nat.{add-zero}
use native.Mathlib.Numerals.{add-one}
use native.Mathlib.Omega.{arith}
use borrow.Author.Tests.{eqb-true, le-leb, lt-leb, leb-true, leb-false, ltb-true, ltb-false, not-false, not-true}
use lib.Dec.{eqb, leb, ltb}
use lib.ListN.{length, get_or, take, drop, set, length-set, length-drop}
use lib.Seq.{get_or-set_same, get_or-set_other, get_or-drop}
use Rattle.blocks.specs.Blocks.{NoneFrom, FirstFrom}
use Rattle.std.specs.Int.{from_bool}
use Rattle.utf8.proofs.Tests.{by_test}
use Rattle.rules.specs.Basics.{choose, is_closer}
use Rattle.rules.specs.Scan.{Cell, cell, is_code}
use Rattle.rules.specs.ClassBytes.{class_of, cells_of}
use Rattle.rules.specs.Brackets.{Entry, Open, opened, escaped, push, pop_from, pop, bracket_step, scan_brackets, leading_closers, levels}
use Rattle.rules.proofs.Choose.{choose_case, choose_false}
use Rattle.rules.proofs.Leading.{Passing, passing_start, passing_more, passing_stop, passing_end}
use Rattle.rules.proofs.CellsLaws.{drop_cells, cells_at, cells_end}
use Rattle.basics.specs.Region.{Only}
use Rattle.basics.specs.Closers.{Closers}
use Rattle.brackets.specs.Stack.{entry_size, adds_of, entry_at, stacked, EntryRoom, EntryPut, Tallies, may_turn, turns_at, solid_at, StackRoom, Turned, StackFits, ScanFits, BracketsDone, opened_by}
use Rattle.brackets.specs.declared.Nesting.{Nesting}
use Rattle.brackets.specs.declared.Tally.{Tally}
use Rattle.basics.proofs.SplitLaws.{after_back, only_from}
use Rattle.basics.proofs.OnlyLaws.{only_same, only_set, only_wider, only_then, only_at, only_past}

-- ---- leading closers

module _ (line : List ℕ) (r : ℕ) (f : FirstFrom (solid_at line) 0 (length line) r) where
  closing : (n : ℕ) → n ≤ r → Passing is_closer line n
  closing zero h = passing_start is_closer line
  closing (suc n) h =
      rw (← (add-one n)) (passing_more (closing n (omega arith)) (omega (arith, f.within)) (not-false (is_closer (get_or line n 0)) (f.none n zero-le (omega arith))))

  pub closers_first : Closers line r
  unfolding leading_closers
  closers_first =
      by_test (ltb r (length line))
      (λ t. let h : r < length line = ltb-true r (length line) t in record { is = passing_stop (closing r (omega arith)) h (not-true (is_closer (get_or line r 0)) (f.passes h)); fits = f.within })
      (λ t. record { is = passing_end (closing r (omega arith)) (ltb-false r (length line) t); fits = f.within })

-- ---- the stack

-- an entry that a change leaves
entry_same : (x y : List ℕ) (p : ℕ) → ((i : ℕ) → p ≤ i → i < p + entry_size → get_or y i 0 ≡ get_or x i 0) → entry_at y p ≡ entry_at x p
unfolding entry_at
entry_same x y p e = rw (e p (omega arith) (omega arith), e (p + 1) (omega arith) (omega arith), e (p + 2) (omega arith) (omega arith))

-- a stack that stands before the region that changed
stacked_below : {x y : List ℕ} {a e : ℕ} → Only x y a e → (base n : ℕ) → base + entry_size * n ≤ a → stacked y base n ≡ stacked x base n
unfolding stacked
stacked_below w base zero h = refl
stacked_below {x} {y} w base (suc n) h =
    rw (entry_same x y (base + entry_size * n) (λ i l k. only_at w i (omega arith)), stacked_below w base n (omega arith))

stacked_push : (buf : List ℕ) (base n : ℕ) (adds : Bool) (line : ℕ) (after : List ℕ) → EntryPut buf (base + entry_size * n) adds line after
    → stacked after base (n + 1) ≡ record { adds = adds; line = line } ∷ stacked buf base n
unfolding stacked
stacked_push buf base n adds line after w = rw (add-one n, w.is, stacked_below w.only base n (omega arith))

stacked_top : (buf : List ℕ) (base n : ℕ) → (n ≡ 0 → ⊥) → stacked buf base n ≡ entry_at buf (base + entry_size * (n - 1)) ∷ stacked buf base (n - 1)
unfolding stacked
stacked_top buf base zero h = absurd (h refl)
stacked_top buf base (suc n) h = let e : suc n - 1 ≡ n = omega arith in rw e

-- n closers
stacked_none : (buf : List ℕ) (base n : ℕ) → drop n (stacked buf base 0) ≡ stacked buf base 0
unfolding stacked
stacked_none buf base zero = refl
stacked_none buf base (suc n) = refl

stacked_next : (buf : List ℕ) (base depth n : ℕ) → drop (suc n) (stacked buf base (suc depth)) ≡ drop n (stacked buf base depth)
unfolding stacked
stacked_next buf base depth n = refl

pub stacked_drop : (buf : List ℕ) (base depth n : ℕ) → drop n (stacked buf base depth) ≡ stacked buf base (depth - n)
stacked_drop buf base depth zero = let e : depth - 0 ≡ depth = omega arith in rw e
stacked_drop buf base zero (suc n) = let e : 0 - suc n ≡ 0 = omega arith in rw e (stacked_none buf base (suc n))
stacked_drop buf base (suc depth) (suc n) =
    let e : suc depth - suc n ≡ depth - n = omega arith in
    rw e (stacked_next buf base depth n ∙ stacked_drop buf base depth n)

-- a stack that stands after the region that changed
pub stacked_past : {x y : List ℕ} {a e : ℕ} → Only x y a e → (base n : ℕ) → e ≤ base → stacked y base n ≡ stacked x base n
unfolding stacked
stacked_past w base zero h = refl
stacked_past {x} {y} w base (suc n) h =
    rw (entry_same x y (base + entry_size * n) (λ i l k. only_past w i (omega arith)), stacked_past w base n h)

-- ---- the levels of the stack

levels_cons : (x : Entry) (s : List Entry) → levels (x ∷ s) ≡ choose x.adds 1 0 + levels s
unfolding levels
levels_cons x s = refl

-- whether an entry added a level stands in its first byte
adds_at : (buf : List ℕ) (p : ℕ) → (entry_at buf p).adds ≡ adds_of (get_or buf p 0)
unfolding entry_at
adds_at buf p = refl

pub levels_most : (buf : List ℕ) (base n : ℕ) → levels (stacked buf base n) ≤ n
unfolding stacked levels
levels_most buf base zero = zero-le
levels_most buf base (suc n) =
    let r = levels_most buf base n in
    choose_case (λ (m : ℕ). m + levels (stacked buf base n) ≤ suc n) (λ e. omega arith) (λ e. omega arith)

levels_top : (buf : List ℕ) (base n : ℕ) → (n ≡ 0 → ⊥)
    → levels (stacked buf base n) ≡ choose (adds_of (get_or buf (base + entry_size * (n - 1)) 0)) 1 0 + levels (stacked buf base (n - 1))
levels_top buf base n h =
    ap levels (stacked_top buf base n h) ∙ levels_cons _ _
    ∙ ap (λ (b : Bool). choose b 1 0 + levels (stacked buf base (n - 1))) (adds_at buf (base + entry_size * (n - 1)))

levels_push : (buf : List ℕ) (base n : ℕ) (adds : Bool) (line : ℕ) (after : List ℕ) → EntryPut buf (base + entry_size * n) adds line after
    → levels (stacked after base (n + 1)) ≡ choose adds 1 0 + levels (stacked buf base n)
levels_push buf base n adds line after w = ap levels (stacked_push buf base n adds line after w) ∙ levels_cons _ _

-- the loop of `pop_closers`: `end` brackets are left at its end
pub record Popping (buf : List ℕ) (base end depth levels₁ : ℕ) : Type 0 where
  pub from : end ≤ depth
  pub fits : base + entry_size * depth ≤ length buf
  pub runs : levels₁ ≡ levels (stacked buf base depth)

module _ (buf : List ℕ) (base end depth levels₁ : ℕ) (w : Popping buf base end depth levels₁) where
  module _ (h : end < depth) (r : ℕ) (e : r ≡ choose (adds_of (get_or buf (base + entry_size * (depth - 1)) 0)) 1 0) where
    top : levels₁ ≡ r + levels (stacked buf base (depth - 1))
    top = w.runs ∙ levels_top buf base depth (λ z. absurd (omega arith)) ∙ ap (λ (k : ℕ). k + levels (stacked buf base (depth - 1))) (sym e)

    pub popping_less : r ≤ levels₁
    popping_less = omega (arith, top)

    pub popping_more : Popping buf base end (depth - 1) (levels₁ - r)
    popping_more = record { from = omega arith; fits = omega (arith, w.fits); runs = omega (arith, top) }

-- ---- an entry

pub line_read : (buf : List ℕ) (p a b c : ℕ) → a ≡ get_or buf p 0 / 2 → b ≡ get_or buf (p + 1) 0 → c ≡ get_or buf (p + 2) 0
    → a * 65536 + b + c * 256 ≡ (entry_at buf p).line
unfolding entry_at
line_read buf p a b c e f g = rw (e, f, g)

-- its three bytes
abbrev first_byte : Bool → ℕ → ℕ
first_byte adds line = from_bool adds + 2 * (line / 256 / 256)

abbrev with_entry : List ℕ → ℕ → Bool → ℕ → List ℕ
with_entry buf p adds line = set (set (set buf p (first_byte adds line)) (p + 1) (line % 256)) (p + 2) (line / 256 % 256)

-- the first holds both
first_adds : (adds : Bool) (n : ℕ) → adds_of (from_bool adds + 2 * n) ≡ adds
first_adds true n = let e : (1 + 2 * n) % 2 ≡ 1 = omega arith in rw e
first_adds false n = let e : (0 + 2 * n) % 2 ≡ 0 = omega arith in rw e

first_line : (adds : Bool) (n : ℕ) → (from_bool adds + 2 * n) / 2 ≡ n
first_line true n = omega arith
first_line false n = omega arith

module _ (buf : List ℕ) (p : ℕ) (adds : Bool) (line : ℕ) (w : EntryRoom buf p line) where
  abbrev one : List ℕ
  one = set buf p (first_byte adds line)

  abbrev two : List ℕ
  two = set one (p + 1) (line % 256)

  two_long : length two ≡ length buf
  two_long = length-set one (p + 1) (line % 256) ∙ length-set buf p (first_byte adds line)

  first_put : get_or (with_entry buf p adds line) p 0 ≡ first_byte adds line
  first_put =
      get_or-set_other two (p + 2) p (line / 256 % 256) 0 (λ e. absurd (omega arith))
      ∙ get_or-set_other one (p + 1) p (line % 256) 0 (λ e. absurd (omega arith))
      ∙ get_or-set_same buf p (first_byte adds line) 0 (omega (arith, w.place))

  second_put : get_or (with_entry buf p adds line) (p + 1) 0 ≡ line % 256
  second_put =
      get_or-set_other two (p + 2) (p + 1) (line / 256 % 256) 0 (λ e. absurd (omega arith))
      ∙ get_or-set_same one (p + 1) (line % 256) 0 (omega (arith, w.place, length-set buf p (first_byte adds line)))

  third_put : get_or (with_entry buf p adds line) (p + 2) 0 ≡ line / 256 % 256
  third_put = get_or-set_same two (p + 2) (line / 256 % 256) 0 (omega (arith, w.place, two_long))

  pub entry_put : (b : ℕ) → b ≡ first_byte adds line → EntryPut buf p adds line (set (set (set buf p b) (p + 1) (line % 256)) (p + 2) (line / 256 % 256))
  unfolding entry_at
  entry_put b q =
      let l : line / 256 / 256 * 65536 + line % 256 + line / 256 % 256 * 256 ≡ line = omega arith in
      rw q
      (record {
        is = rw (first_put, second_put, third_put, first_adds adds (line / 256 / 256), first_line adds (line / 256 / 256), l);
        only =
            only_then (only_set buf p (first_byte adds line) p (p + entry_size) (omega arith) (omega arith))
            (only_then (only_set one (p + 1) (line % 256) p (p + entry_size) (omega arith) (omega arith))
            (only_set two (p + 2) (line / 256 % 256) p (p + entry_size) (omega arith) (omega arith)));
      })

-- ---- one bracket

-- 1 for an entry that added a level
pub level_bool : (b : Bool) → from_bool b ≡ choose b 1 0
unfolding choose
level_bool true = refl
level_bool false = refl

bool_most : (b : Bool) → from_bool b ≤ 1
bool_most true = omega arith
bool_most false = omega arith

module _ (buf : List ℕ) (t : Tally) (w : StackRoom buf t) where
  pub levels_room : (adds : Bool) (more : ℕ) → more ≡ from_bool adds → t.nesting.levels + more ≤ length buf
  levels_room adds more e = omega (arith, levels_most buf 0 t.nesting.depth, w.runs, w.place, bool_most adds)

  pub push_turn : (after : List ℕ) (p : ℕ) (adds : Bool) (more : ℕ) → p ≡ entry_size * t.nesting.depth → adds ≡ leb t.nesting.levels t.from → more ≡ from_bool adds → EntryPut buf p adds t.nesting.line after
      → Turned push buf t after (record { nesting = record { depth = t.nesting.depth + 1; levels = t.nesting.levels + more; line = t.nesting.line }; from = t.from; esc = false })
  unfolding push
  push_turn after p adds more e f g v =
      let q : p ≡ 0 + entry_size * t.nesting.depth = omega arith in
      let u : EntryPut buf (0 + entry_size * t.nesting.depth) adds t.nesting.line after = rw q at v in
      let m = level_bool adds in
      record {
        is = λ o h.
            (let z : leb o.added o.popped ≡ adds = net_same o h ∙ sym f in
            record { stack = rw (stacked_push buf 0 t.nesting.depth adds t.nesting.line after u, h.stack, z, h.line); line = h.line; net = rw (z, g, m) (by_adds o adds h.net); esc = refl });
        runs = omega (arith, w.runs, levels_push buf 0 t.nesting.depth adds t.nesting.line after u, m);
        depth = omega arith;
        line = refl;
        only = only_wider 0 (entry_size * t.nesting.depth + entry_size) v.only (omega arith) (omega arith);
      }
    where
      net_same : (o : Open) → Tallies buf t o → leb o.added o.popped ≡ leb t.nesting.levels t.from
      net_same o h =
          by_test (leb t.nesting.levels t.from) (λ e. le-leb o.added o.popped (omega (arith, h.net, leb-true t.nesting.levels t.from e)) ∙ sym e)
          (λ e. lt-leb o.added o.popped (omega (arith, h.net, leb-false t.nesting.levels t.from e)) ∙ sym e)

      by_adds : (o : Open) (a : Bool) → o.added + t.from ≡ o.popped + t.nesting.levels → o.added + choose a 1 0 + t.from ≡ o.popped + (t.nesting.levels + choose a 1 0)
      by_adds o a e = omega arith

  pub pop_none : t.nesting.depth ≡ 0 → Turned pop buf t buf (record { nesting = t.nesting; from = t.from; esc = false })
  unfolding pop_from stacked
  pop_none e =
      record {
        is = λ o h. (let s : o.stack ≡ [] = sym h.stack ∙ rw e in rw s (record { stack = rw e; line = h.line; net = h.net; esc = refl }));
        runs = w.runs;
        depth = omega arith;
        line = refl;
        only = only_same buf _ _;
      }

  module _ (h : t.nesting.depth ≡ 0 → ⊥) (p l : ℕ) (a : p ≡ entry_size * (t.nesting.depth - 1)) (b : l ≡ choose (adds_of (get_or buf p 0)) 1 0) where
    q : p ≡ 0 + entry_size * (t.nesting.depth - 1)
    q = omega (arith, a)

    level : l ≡ choose (adds_of (get_or buf (0 + entry_size * (t.nesting.depth - 1)) 0)) 1 0
    level = rw q at b

    top_level : t.nesting.levels ≡ l + levels (stacked buf 0 (t.nesting.depth - 1))
    top_level = w.runs ∙ levels_top buf 0 t.nesting.depth h ∙ ap (λ (k : ℕ). k + levels (stacked buf 0 (t.nesting.depth - 1))) (sym level)

    pub pop_less : l ≤ t.nesting.levels
    pop_less = omega (arith, top_level)

    popped : (left : ℕ) (o : Open) → Tallies buf t o → t.nesting.levels ≡ choose (adds_of (get_or buf (0 + entry_size * (t.nesting.depth - 1)) 0)) 1 0 + left
        → Tallies buf (record { nesting = record { depth = t.nesting.depth - 1; levels = left; line = t.nesting.line }; from = t.from; esc = false }) (pop o)
    unfolding pop_from entry_at
    popped left o k n =
        let s : o.stack ≡ entry_at buf (0 + entry_size * (t.nesting.depth - 1)) ∷ stacked buf 0 (t.nesting.depth - 1) = sym k.stack ∙ stacked_top buf 0 t.nesting.depth h in
        rw s (record { stack = refl; line = k.line; net = omega (arith, k.net, n); esc = refl })

    pub pop_turn : Turned pop buf t buf (record { nesting = record { depth = t.nesting.depth - 1; levels = t.nesting.levels - l; line = t.nesting.line }; from = t.from; esc = false })
    pop_turn =
        record {
          is = λ o k. popped (t.nesting.levels - l) o k (omega (arith, top_level, level));
          runs = omega (arith, top_level);
          depth = omega arith;
          line = refl;
          only = only_same buf _ _;
        }

-- ---- one character

module _ (buf : List ℕ) (t : Tally) (r : t.nesting.levels ≡ levels (stacked buf 0 t.nesting.depth)) where
  -- it changes nothing
  pub turn_same : Turned (λ o. o) buf t buf t
  turn_same = record { is = λ o h. h; runs = r; depth = omega arith; line = refl; only = only_same buf _ _ }

  -- it is escaped, or escapes the next
  pub turn_escaped : (b : Bool) → Turned (escaped b) buf t buf (record { nesting = t.nesting; from = t.from; esc = b })
  turn_escaped b =
      record {
        is = λ o h. record { stack = h.stack; line = h.line; net = h.net; esc = refl };
        runs = r;
        depth = omega arith;
        line = refl;
        only = only_same buf _ _;
      }

-- what was done is what is asked
pub turn_by : (buf : List ℕ) (t : Tally) {g f : Open → Open} {after : List ℕ} {u : Tally} → Turned g buf t after u
    → ((o : Open) → Tallies buf t o → g o ≡ f o) → Turned f buf t after u
turn_by buf t {after = after} {u = u} w e =
    record {
      is = λ o h. subst (Tallies after u) (e o h) (w.is o h);
      runs = w.runs;
      depth = w.depth;
      line = w.line;
      only = w.only;
    }

-- a byte that is no bracket and no backslash

not_turned : (b c : ℕ) → may_turn b ≡ true → may_turn c ≡ false → eqb c b ≡ false
not_turned b c y n = by_test (eqb c b) (λ e. let z : true ≡ false = sym y ∙ ap may_turn (sym (eqb-true c b e)) ∙ n in cc) (λ e. e)

-- none of both
neither : (a b r : Bool) → r ≡ not (a || b) → r ≡ true → (a ≡ false) × (b ≡ false)
neither true b r e q = absurd (true≢false (sym q ∙ e))
neither false true r e q = absurd (true≢false (sym q ∙ e))
neither false false r e q = (refl, refl)

turn_idle : (x : Cell) (o : Open) (r : Bool) → r ≡ not (o.esc || may_turn x.ch) → r ≡ true → o ≡ bracket_step o x
unfolding bracket_step may_turn
turn_idle x o r e q =
    let n = neither o.esc (may_turn x.ch) r e q in
    let no : (b : ℕ) → may_turn b ≡ true → eqb x.ch b ≡ false = λ b y. not_turned b x.ch y n.1 in
    go (not (is_code x.class))
    (choose_false _ _ _ n.0
    ∙ choose_false _ _ _ (no 92 refl)
    ∙ choose_false _ _ _ (rw (no 123 refl, no 40 refl, no 91 refl))
    ∙ choose_false _ _ _ (rw (no 125 refl, no 41 refl, no 93 refl)))
  where
    go : {x y : Open} (b : Bool) → y ≡ x → x ≡ choose b x y
    go {x} b e = sym (choose_case (λ (z : Open). z ≡ x) (λ q. refl) (λ q. e))

-- ---- the loop over a line's cells

pub record Scanning (line ks buf₀ : List ℕ) (b : Nesting) (skip : ℕ) (buf : List ℕ) (t : Tally) (i : ℕ) : Type 0 where
  pub o : Open
  pub now : Tallies buf t o
  pub same : scan_brackets b.line (drop skip (cells_of line ks)) (stacked buf₀ 0 b.depth) ≡ (foldl bracket_step o (cells_of (drop i line) (drop i ks))).stack
  pub runs : t.nesting.levels ≡ levels (stacked buf 0 t.nesting.depth)
  pub number : t.nesting.line ≡ b.line
  pub high : t.nesting.depth + skip ≤ b.depth + i
  pub from : skip ≤ i
  pub upto : i ≤ skip + length line
  pub only : Only buf₀ buf 0 (entry_size * (b.depth + length line))

pub scanning_start : (line ks buf : List ℕ) (b : Nesting) (skip : ℕ) → ScanFits line ks buf b → Scanning line ks buf b skip buf (record { nesting = b; from = b.levels; esc = false }) skip
unfolding scan_brackets
scanning_start line ks buf b skip f =
    record {
      o = opened b.line 0 0 false (stacked buf 0 b.depth);
      now = record { stack = refl; line = refl; net = refl; esc = refl };
      same = rw (drop_cells skip line ks);
      runs = f.runs;
      number = refl;
      high = omega arith;
      from = omega arith;
      upto = omega arith;
      only = only_same buf _ _;
    }

module _ (line ks buf₀ : List ℕ) (b : Nesting) (skip : ℕ) (f : ScanFits line ks buf₀ b) where
  module _ (buf : List ℕ) (t : Tally) (i : ℕ) (w : Scanning line ks buf₀ b skip buf t i) where
    pub scan_more : (buf' : List ℕ) (u : Tally) → i < length line → Turned (λ o. bracket_step o (cell (get_or line i 0) (class_of (get_or ks i 0)))) buf t buf' u
        → Scanning line ks buf₀ b skip buf' u (i + 1)
    scan_more buf' u h v =
        record {
          o = bracket_step w.o (cell (get_or line i 0) (class_of (get_or ks i 0)));
          now = v.is w.o w.now;
          same = w.same ∙ rw (cells_at line ks i h f.classes);
          runs = v.runs;
          number = v.line ∙ w.number;
          high = omega (arith, w.high, v.depth);
          from = omega (arith, w.from);
          upto = omega arith;
          only = only_then w.only (only_wider 0 (entry_size * (b.depth + length line)) v.only (omega arith) (omega (arith, w.high, w.from)));
        }

    -- there is room for one more
    pub scan_room : i < length line → StackRoom buf t
    scan_room h = record { place = omega (arith, w.high, w.from, w.only.long, f.stack); runs = w.runs; line = omega (arith, w.number, f.line) }

    pub scan_end : length line ≤ i → BracketsDone buf₀ buf 0 b (length line) (scan_brackets b.line (drop skip (cells_of line ks)) (stacked buf₀ 0 b.depth)) t.nesting
    scan_end h =
        let z : entry_size * (b.depth + length line) ≡ 0 + entry_size * (b.depth + length line) = omega arith in
        record {
          is = w.now.stack ∙ sym (w.same ∙ rw (cells_end line ks i h));
          runs = w.runs;
          most = omega (arith, w.high, w.upto);
          line = w.number;
          only = rw z at w.only;
        }

    scan_skip : (r : Bool) → i < length line → r ≡ not (t.esc || may_turn (get_or line i 0)) → r ≡ true → Scanning line ks buf₀ b skip buf t (i + 1)
    scan_skip r h e q =
        scan_more buf t h (turn_by buf t (turn_same buf t w.runs) (λ o k. turn_idle (cell (get_or line i 0) (class_of (get_or ks i 0))) o r (rw (← k.esc) e) q))

  -- several bytes that are no bracket and no backslash
  module _ (buf : List ℕ) (t : Tally) where
    abbrev Here : ℕ → Type 0
    Here i = Scanning line ks buf₀ b skip buf t i

    run_skip : (i n : ℕ) → Here i → t.esc ≡ false → i + n ≤ length line → ((j : ℕ) → i ≤ j → j < i + n → may_turn (get_or line j 0) ≡ false) → Here (i + n)
    run_skip i zero w e h a = subst Here (sym (add-zero i)) w
    run_skip i (suc n) w e h a =
        let k : i + n + 1 ≡ i + suc n = omega arith in
        let idle : true ≡ not (t.esc || may_turn (get_or line (i + n) 0)) = rw (e, a (i + n) (omega arith) (omega arith)) in
        subst Here k (scan_skip buf t (i + n) (run_skip i n w e (omega arith) (λ j l m. a j l (omega arith))) true (omega arith) idle refl)

    pub idle_skip : (i : ℕ) → Here i → (r : Bool) (k : ℕ) → i < length line → r ≡ not (t.esc || may_turn (get_or line i 0)) → r ≡ true
        → NoneFrom (turns_at line) (i + 1) (length line) k → Here k
    idle_skip i w r k h e q idle =
        let s : i + 1 + (k - (i + 1)) ≡ k = omega (arith, idle.from) in
        subst Here s
        (run_skip (i + 1) (k - (i + 1)) (scan_skip buf t i w r h e q) (neither t.esc (may_turn (get_or line i 0)) r e q).0
        (omega (arith, idle.from, idle.within)) (λ j l m. idle.none j l (omega (arith, idle.from))))

-- ---- a stack that is the end of scratch

entry_from : (buf : List ℕ) (base p q : ℕ) → q ≡ base + p → entry_at (drop base buf) p ≡ entry_at buf q
unfolding entry_at
entry_from buf base p q e =
    let a : base + p + 1 ≡ base + (p + 1) = omega arith in
    let b : base + p + 2 ≡ base + (p + 2) = omega arith in
    rw (e, a, b, get_or-drop base buf p 0, get_or-drop base buf (p + 1) 0, get_or-drop base buf (p + 2) 0)

pub stacked_from : (buf : List ℕ) (base n : ℕ) → stacked (drop base buf) 0 n ≡ stacked buf base n
unfolding stacked
stacked_from buf base zero = refl
stacked_from buf base (suc n) = rw (entry_from buf base (0 + entry_size * n) (base + entry_size * n) (omega arith), stacked_from buf base n)

-- scratch after a change of the stack
module _ (buf front x y : List ℕ) (base : ℕ) (fits : base ≤ length buf) (f : front ≡ take base buf) (g : x ≡ drop base buf) where
  scratch_done : (b : Nesting) (n : ℕ) (s : List Entry) (r : Nesting) → BracketsDone x y 0 b n s r → BracketsDone buf (front ++ y) base b n s r
  scratch_done b n s r w =
      let e : stacked (front ++ y) base r.depth ≡ stacked y 0 r.depth = sym (stacked_from (front ++ y) base r.depth) ∙ ap (λ l. stacked l 0 r.depth) (after_back _ _ _ _ _ fits f g) in
      record {
        is = e ∙ w.is;
        runs = rw e w.runs;
        most = w.most;
        line = w.line;
        only = only_from _ _ _ _ _ fits f g (entry_size * (b.depth + n)) w.only;
      }

  -- the stack itself
  tail_stack : (n : ℕ) → stacked x 0 n ≡ stacked buf base n
  tail_stack n = rw g (stacked_from buf base n)

  -- a line that is one opener
  pub open_done : (b : Nesting) (u : Tally) → Turned push x (record { nesting = b; from = b.levels; esc = false }) y u
      → BracketsDone buf (front ++ y) base b 1 (opened_by b.line (stacked buf base b.depth)) u.nesting
  unfolding push
  open_done b u v =
      let e : entry_size * b.depth + entry_size ≡ 0 + entry_size * (b.depth + 1) = omega arith in
      let s = (v.is (opened b.line 0 0 false (stacked x 0 b.depth)) (record { stack = refl; line = refl; net = refl; esc = refl })).stack in
      scratch_done b 1 _ u.nesting
      (record { is = s ∙ ap (opened_by b.line) (tail_stack b.depth); runs = v.runs; most = v.depth; line = v.line; only = rw e at v.only })

  pub scan_done : (line ks line₀ ks₀ : List ℕ) (n skip : ℕ) (b r : Nesting) → line ≡ line₀ → ks ≡ ks₀ → length line ≡ n
      → BracketsDone x y 0 b (length line) (scan_brackets b.line (drop skip (cells_of line ks)) (stacked x 0 b.depth)) r
      → BracketsDone buf (front ++ y) base b n (scan_brackets b.line (drop skip (cells_of line₀ ks₀)) (stacked buf base b.depth)) r
  scan_done line ks line₀ ks₀ n skip b r e k l w =
      scratch_done b n _ r
      (record {
        is = w.is ∙ rw (e, k, tail_stack b.depth);
        runs = w.runs;
        most = omega (arith, w.most);
        line = w.line;
        only = rw l at w.only;
      })

module _ (buf x : List ℕ) (class n base : ℕ) (b : Nesting) (f : StackFits buf class n base b) (g : x ≡ drop base buf) where
  tail_runs : b.levels ≡ levels (stacked x 0 b.depth)
  tail_runs = f.runs ∙ ap levels (sym (stacked_from buf base b.depth) ∙ ap (λ l. stacked l 0 b.depth) (sym g))

  tail_long : length x ≡ length buf - base
  tail_long = ap length g ∙ length-drop base buf

  pub open_room : 1 ≤ n → StackRoom x (record { nesting = b; from = b.levels; esc = false })
  open_room h = record { place = omega (arith, tail_long, f.stack); runs = tail_runs; line = f.line }

  pub scan_fits : (line ks : List ℕ) → length line ≡ n → length ks ≡ n → ScanFits line ks x b
  scan_fits line ks e k = record { classes = omega arith; stack = omega (arith, tail_long, f.stack); runs = tail_runs; line = f.line }

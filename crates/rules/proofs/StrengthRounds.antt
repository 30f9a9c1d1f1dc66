-- No more rounds than strengths are needed to break a line of code and strings: the first piece of a break holds
-- operators that bind tighter than the one it was broken at.
--     Plain                  a line of code and strings whose operators bind tighter than p
--     plain_first            so is the first piece of a break, for the strength of the break
--     rounds_known           k rounds are enough where no strength of the table is over k
--     known_lines            so are max_strength rounds for every table of such strengths
--     strengths_known        every table of a host is one of these
--     fifteen_rounds         both together
use Prim.Native.Nat.{ℕ, zero, suc, ◌+◌, ◌-◌, ◌/◌, ◌%◌, ◌≤◌, ◌<◌}
use native.Mathlib.Omega.{arith}
use native.Mathlib.Nat.{mod-lt}
use mathlib.Core.Bool.{true, not, true≢false}
use mathlib.Core.List.{List, [], ◌∷◌, ◌++◌, nil≢cons, append_assoc, append_cancel_left}
use mathlib.Core.Logic.{◌⊎◌, inl, inr}
use mathlib.Core.Option.{Option, none, some}
use mathlib.Core.Path.{◌≡◌, refl, sym, ap, subst, ◌∙◌}
use lib.ListN.{length, take, length-append}
use borrow.Author.Tests.{not-true}
use Rattle.utf8.specs.Unicode.{is_white, trim}
use Rattle.utf8.proofs.Tests.{and_left, and_right, split}
use Rattle.utf8.proofs.Trim.{White, trim_split}
use Rattle.rules.specs.declared.Class.{Class}
use Rattle.rules.specs.declared.Carry.{Carry}
use Rattle.rules.specs.Basics.{Pieces}
use Rattle.rules.specs.Options.{Options}
use Rattle.rules.specs.Scan.{Cell, chars_of, begin, classify, is_code_or_str, all_code_or_str}
use Rattle.rules.specs.Operators.{operators, max_strength, AtMost}
use Rattle.rules.specs.Strengths.{fields_of, strengths_in}
use Rattle.rules.specs.SplitOperation.{Ops, token, op_step_at, op_step, OpMark, op_mark, marks_from, no_ops, top_level_ops, looser, loosest, cut_before, trimmed, break_at, split_once, next_break, break_on, break_first, lay_pieces, split_operation}
use Rattle.rules.proofs.Choose.{choose_case}
use Rattle.rules.proofs.ScanBytes.{label, chars_append, chars_classify}
use Rattle.rules.proofs.CellsLaws.{length_classify}
use Rattle.rules.proofs.OperatorsBytes.{mark_bytes}
use Rattle.rules.proofs.Rounds.{rounds_enough}
use Rattle.rules.proofs.Prefix.{all_solid, Operators, marks_operators, marked_chars, marks_chars, Tighter, CutAt, cut_at, Begins, scan_prefix, scan_white, marks_white, ops_after, marks_till, marks_append, length_till, marks_prefix, solid_after}

-- ---- parts of lists of marks and cells

tighter_right : (p : ℕ) (ks ms : List OpMark) → Tighter p (ks ++ ms) → Tighter p ms
tighter_right p [] ms t = t
tighter_right p (k ∷ ks) ms t = tighter_right p ks ms t.1

-- a list and one not longer that start the same list
tighter_part : (p : ℕ) (ks ls ms ns : List OpMark) → ms ++ ns ≡ ks ++ ls → length ks ≤ length ms → Tighter p ms → Tighter p ks
tighter_part p [] ls ms ns e h t = tt
tighter_part p (k ∷ ks) ls [] ns e h t = absurd (omega arith)
tighter_part p (k ∷ ks) ls (m ∷ ms) ns e h t =
    let q : m ≡ k = cc in
    let r : ms ++ ns ≡ ks ++ ls = cc in
    (subst (λ (x : OpMark). 0 < x.strength → p < x.strength) q t.0, tighter_part p ks ls ms ns r (omega arith) t.1)

-- what follows two lists of one length is the same
mark_at_law : (ks ms : List OpMark) (x y : OpMark) (ls ns : List OpMark) → ms ++ (y ∷ ns) ≡ ks ++ (x ∷ ls) → length ks ≡ length ms → y ≡ x
mark_at_law [] [] x y ls ns e h = cc
mark_at_law [] (m ∷ ms) x y ls ns e h = absurd (omega arith)
mark_at_law (k ∷ ks) [] x y ls ns e h = absurd (omega arith)
mark_at_law (k ∷ ks) (m ∷ ms) x y ls ns e h = let r : ms ++ (y ∷ ns) ≡ ks ++ (x ∷ ls) = cc in mark_at_law ks ms x y ls ns r (omega arith)

all_left : (xs ys : List Cell) → all_code_or_str (xs ++ ys) ≡ true → all_code_or_str xs ≡ true
unfolding all_code_or_str
all_left [] ys h = refl
all_left (x ∷ xs) ys h = rw (and_left (is_code_or_str x.class) (all_code_or_str (xs ++ ys)) h) (all_left xs ys (and_right (is_code_or_str x.class) (all_code_or_str (xs ++ ys)) h))

all_right : (xs ys : List Cell) → all_code_or_str (xs ++ ys) ≡ true → all_code_or_str ys ≡ true
unfolding all_code_or_str
all_right [] ys h = h
all_right (x ∷ xs) ys h = all_right xs ys (and_right (is_code_or_str x.class) (all_code_or_str (xs ++ ys)) h)

length_mark_bytes : (n : ℕ) (v : List ℕ) → length (mark_bytes n v) ≡ length v
unfolding mark_bytes
length_mark_bytes n [] = refl
length_mark_bytes n (c ∷ v) = ap suc (length_mark_bytes 0 v)

-- ---- a part of a line that stands before an operator

-- a line of code and strings whose operators bind tighter than p
pub record Plain (table : List ℕ) (p : ℕ) (l : List ℕ) : Type 0 where
  pub plain : all_code_or_str (classify Carry.Code l) ≡ true
  pub tighter : Tighter p (top_level_ops table (classify Carry.Code l))

-- at a character that is passed over no operator starts
skip_none : (n : ℕ) (table : List ℕ) (s : Ops) (x : Cell) (cs : List ℕ) → 0 < (op_step_at n table s x cs).strength → n ≡ 0
unfolding op_step_at token
skip_none zero table s x cs h = refl
skip_none (suc n) table s x cs h = absurd (omega arith)

-- where the next character is white space, no token is passed over
skip_white : (n : ℕ) (c : ℕ) (cs : List ℕ) → is_white c ≡ true → all_solid (take n (c ∷ cs)) ≡ true → n ≡ 0
unfolding all_solid
skip_white zero c cs w a = refl
skip_white (suc n) c cs w a = absurd (true≢false (sym w ∙ not-true (is_white c) (and_left (not (is_white c)) (all_solid (take n cs)) a)))

-- a line: white space v, the part a, white space w, and from the operator on
module _ (table : List ℕ) (p : ℕ) (v a w : List ℕ) (c : ℕ) (cs : List ℕ) (white-v : White v) (white-w : White w) where
  abbrev z : List ℕ
  z = w ++ (c ∷ cs)

  abbrev line : List ℕ
  line = v ++ (a ++ z)

  -- the line's cells: of the white space before, of a, and the rest
  record Parts : Type 0 where
    rest : List Cell
    is : classify Carry.Code line ≡ label Class.Code v ++ (classify Carry.Code a ++ rest)
    chars : chars_of rest ≡ z
    plain : all_code_or_str (classify Carry.Code a) ≡ true

  parts : all_code_or_str (classify Carry.Code line) ≡ true → Parts
  unfolding classify
  parts h =
      let s : classify Carry.Code line ≡ label Class.Code v ++ classify Carry.Code (a ++ z) = scan_white v (a ++ z) white-v in
      let k : all_code_or_str (classify Carry.Code (a ++ z)) ≡ true = all_right (label Class.Code v) (classify Carry.Code (a ++ z)) (rw s at h) in
      let b : Begins (begin Carry.Code) a z = scan_prefix a z (begin Carry.Code) k in
      let q : a ++ chars_of b.rest ≡ a ++ z =
      ap (λ (t : List ℕ). t ++ chars_of b.rest) (sym (chars_classify Carry.Code a)) ∙ sym (chars_append (classify Carry.Code a) b.rest)
      ∙ ap chars_of (sym b.is) ∙ chars_classify Carry.Code (a ++ z)
      in
      record {
        rest = b.rest;
        is = s ∙ ap (λ (t : List Cell). label Class.Code v ++ t) b.is;
        chars = append_cancel_left a (chars_of b.rest) z q;
        plain = all_left (classify Carry.Code a) b.rest (rw b.is at k);
      }

  -- the state after a, and the marks before it
  abbrev state : Ops
  state = ops_after table no_ops (classify Carry.Code a) z

  abbrev front : List OpMark
  front = mark_bytes 0 v ++ marks_till table no_ops (classify Carry.Code a) z

  length_front : length front ≡ length v + length a
  length_front =
      omega (
        arith,
        length-append (mark_bytes 0 v) (marks_till table no_ops (classify Carry.Code a) z),
        length_mark_bytes 0 v,
        length_till table (classify Carry.Code a) z no_ops,
        length_classify Carry.Code a,
      )

  marks_parts : (r : Parts) → top_level_ops table (classify Carry.Code line) ≡ front ++ marks_from table state r.rest
  unfolding top_level_ops
  marks_parts r =
      let xs : List Cell = classify Carry.Code a in
      ap (marks_from table no_ops) r.is ∙ marks_white table v (xs ++ r.rest) white-v
      ∙ ap (λ (ms : List OpMark). mark_bytes 0 v ++ ms)
      (marks_append table xs r.rest no_ops
      ∙ ap (λ (t : List ℕ). marks_till table no_ops xs t ++ marks_from table (ops_after table no_ops xs t) r.rest) r.chars)
      ∙ sym (append_assoc (mark_bytes 0 v) (marks_till table no_ops xs z) (marks_from table state r.rest))

  -- its marks: those before the operator, the operator's, and the others
  module _ (ms : List OpMark) (m : OpMark) (ns : List OpMark) (r : Parts)
      (is : top_level_ops table (classify Carry.Code line) ≡ ms ++ (m ∷ ns)) (long : length ms ≡ length v + length a + length w) (operator : 0 < m.strength) where
    marks_same : ms ++ (m ∷ ns) ≡ front ++ marks_from table state r.rest
    marks_same = sym is ∙ marks_parts r

    -- no token runs on past a: white space follows it, or an operator
    state_fresh : state.skip ≡ 0
    unfolding all_solid
    state_fresh = go w refl white-w
      where
        at_operator : w ≡ [] → (xs : List Cell) → chars_of xs ≡ c ∷ cs → ms ++ (m ∷ ns) ≡ front ++ marks_from table state xs → state.skip ≡ 0
        at_operator e [] q h = unfold chars_of in absurd (nil≢cons q)
        at_operator e (x ∷ xs) q h = unfold marks_from in
            (let f : length front ≡ length ms = omega (arith, length_front, ap length e) in
            let k : m ≡ op_mark x.ch (op_step table state x (chars_of xs)).strength = mark_at_law front ms _ m _ ns h f in
            skip_none state.skip table state x (chars_of xs) (subst (λ (t : OpMark). 0 < t.strength) k operator))

        go : (u : List ℕ) → w ≡ u → White u → state.skip ≡ 0
        go [] e h = at_operator e r.rest (r.chars ∙ ap (λ (t : List ℕ). t ++ (c ∷ cs)) e) marks_same
        go (x ∷ u) e h =
            skip_white state.skip x (u ++ (c ∷ cs)) h.0
            (subst (λ (t : List ℕ). all_solid (take state.skip (t ++ (c ∷ cs))) ≡ true) e (solid_after table (classify Carry.Code a) z no_ops refl))

    part_plain : Tighter p ms → Plain table p a
    unfolding top_level_ops
    part_plain t =
        let f : Tighter p front = tighter_part p front (marks_from table state r.rest) ms (m ∷ ns) marks_same (omega (arith, length_front)) t in
        record {
          plain = r.plain;
          tighter = subst (Tighter p) (marks_prefix table (classify Carry.Code a) z no_ops state_fresh) (tighter_right p (mark_bytes 0 v) (marks_till table no_ops (classify Carry.Code a) z) f);
        }

-- ---- the first piece of a break

marked_append : (ks ms : List OpMark) → marked_chars (ks ++ ms) ≡ marked_chars ks ++ marked_chars ms
unfolding marked_chars
marked_append [] ms = refl
marked_append (k ∷ ks) ms = ap {B = List ℕ} (λ l. k.ch ∷ l) (marked_append ks ms)

length_marked : (ms : List OpMark) → length (marked_chars ms) ≡ length ms
unfolding marked_chars
length_marked [] = refl
length_marked (m ∷ ms) = ap suc (length_marked ms)

pub plain_first : (table : List ℕ) (p : ℕ) (l : List ℕ) → all_code_or_str (classify Carry.Code l) ≡ true → loosest (top_level_ops table (classify Carry.Code l)) ≡ suc p
    → Plain table (suc p) (trim (cut_before (suc p) (top_level_ops table (classify Carry.Code l))).first)
unfolding top_level_ops marked_chars
plain_first table p l h e =
    let ms : List OpMark = top_level_ops table (classify Carry.Code l) in
    let r : CutAt (suc p) ms = cut_at p ms e in
    let b : List ℕ = marked_chars r.before in
    let t = trim_split b in
    let cs : List ℕ = r.mark.ch ∷ marked_chars r.after in
    let q : l ≡ t.0 ++ (trim b ++ (t.1 ++ cs)) =
    sym (marks_chars table no_ops (classify Carry.Code l) ∙ chars_classify Carry.Code l) ∙ ap marked_chars r.is ∙ marked_append r.before (r.mark ∷ r.after)
    ∙ ap (λ (s : List ℕ). s ++ cs) t.4 ∙ append_assoc t.0 (trim b ++ t.1) cs ∙ ap (λ (s : List ℕ). t.0 ++ s) (append_assoc (trim b) t.1 cs)
    in
    let n : length r.before ≡ length t.0 + length (trim b) + length t.1 =
    omega (arith, length_marked r.before, ap length t.4, length-append t.0 (trim b ++ t.1), length-append (trim b) t.1)
    in
    let s : 0 < r.mark.strength = omega (arith, r.strength) in
    rw r.first
    (part_plain table (suc p) t.0 (trim b) t.1 r.mark.ch (marked_chars r.after) t.2 t.3 r.before r.mark r.after
    (parts table (suc p) t.0 (trim b) t.1 r.mark.ch (marked_chars r.after) t.2 t.3 (subst (λ (x : List ℕ). all_code_or_str (classify Carry.Code x) ≡ true) q h))
    (subst (λ (x : List ℕ). top_level_ops table (classify Carry.Code x) ≡ r.before ++ (r.mark ∷ r.after)) q r.is) n s r.tighter)

-- ---- rounds

tighter_zero : (ms : List OpMark) → Tighter 0 ms
tighter_zero [] = tt
tighter_zero (m ∷ ms) = (λ h. h, tighter_zero ms)

-- no operator is left that binds tighter than the tightest
no_operators : (table : List ℕ) (k p : ℕ) → AtMost k table → k ≤ p → (ms : List OpMark) → Operators table ms → Tighter p ms → loosest ms ≡ 0
unfolding loosest looser
no_operators table k p a h [] o t = refl
no_operators table k p a h (m ∷ ms) o t = go m.strength refl (no_operators table k p a h ms o.1 t.1)
  where
    go : (s : ℕ) → m.strength ≡ s → loosest ms ≡ 0 → looser s (loosest ms) ≡ 0
    go zero e i = i
    go (suc s) e i = absurd (let x = o.0.known k a in let y : p < m.strength = t.0 (omega arith) in omega arith)

-- the first piece of a break, if there is one, is plain for a strength over p
abbrev Rises : List ℕ → ℕ → Option Pieces → Type 0
Rises table p none = Unit {0}
Rises table p (some q) = (n : ℕ) × (p < n) × Plain table n q.first

rises_at : (table : List ℕ) (p : ℕ) (l : List ℕ) → Plain table p l → (n : ℕ) → loosest (top_level_ops table (classify Carry.Code l)) ≡ n
    → Rises table p (break_at n (top_level_ops table (classify Carry.Code l)))
unfolding break_at trimmed
rises_at table p l r zero e = tt
rises_at table p l r (suc n) e =
    let ms : List OpMark = top_level_ops table (classify Carry.Code l) in
    let c : CutAt (suc n) ms = cut_at n ms e in
    let t : Tighter p (c.mark ∷ c.after) = tighter_right p c.before (c.mark ∷ c.after) (subst (Tighter p) c.is r.tighter) in
    let k : p < c.mark.strength = t.0 (omega (arith, c.strength)) in
    (suc n, omega (arith, c.strength), plain_first table n l r.plain e)

module _ (table : List ℕ) (o : Options) (max level : ℕ) where
  rises_next : (p : ℕ) (l : List ℕ) → Plain table p l → Rises table p (next_break table o max level l)
  unfolding next_break split_once
  rises_next p l r =
      choose_case (Rises table p)
      (λ h. choose_case (Rises table p) (λ i. tt)
      (λ i. choose_case (Rises table p) (λ j. tt) (λ j. rises_at table p l r (loosest (top_level_ops table (classify Carry.Code l))) refl)))
      (λ h. tt)

  none_next : (k p : ℕ) → AtMost k table → k ≤ p → (l : List ℕ) → Plain table p l → next_break table o max level l ≡ none
  unfolding next_break split_once break_at
  none_next k p a h l r =
      let e : loosest (top_level_ops table (classify Carry.Code l)) ≡ 0 = no_operators table k p a h _ (marks_operators table (classify Carry.Code l)) r.tighter in
      choose_case (λ (q : Option Pieces). q ≡ none)
      (λ i. choose_case (λ (q : Option Pieces). q ≡ none) (λ j. refl) (λ j. choose_case (λ (q : Option Pieces). q ≡ none) (λ x. refl) (λ x. rw e)))
      (λ i. refl)

  -- with operators tighter than p, k - p rounds are as good as more
  rounds_over : (k : ℕ) → AtMost k table → (m n p : ℕ) (l : List ℕ) (rest : List (List ℕ)) → m ≤ n → k ≤ p + m → Plain table p l
      → break_first table o max level n (record { first = l; rest = rest }) ≡ break_first table o max level m (record { first = l; rest = rest })
  unfolding break_first break_on
  rounds_over k a zero zero p l rest h g r = refl
  rounds_over k a zero (suc n) p l rest h g r = rw (none_next k p a (omega arith) l r)
  rounds_over k a (suc m) zero p l rest h g r = absurd (omega arith)
  rounds_over k a (suc m) (suc n) p l rest h g r =
      go (next_break table o max level l) (rises_next p l r) (λ q l' rest' b s. rounds_over k a m n q l' rest' (omega arith) b s)
    where
      go : (b : Option Pieces) → Rises table p b
          → ((q : ℕ) (l' : List ℕ) (rest' : List (List ℕ)) → k ≤ q + m → Plain table q l'
          → break_first table o max level n (record { first = l'; rest = rest' }) ≡ break_first table o max level m (record { first = l'; rest = rest' }))
          → break_on b (record { first = l; rest = rest }) (break_first table o max level n) ≡ break_on b (record { first = l; rest = rest }) (break_first table o max level m)
      go none t f = refl
      go (some q) t f = f t.0 q.first (q.rest ++ rest) (omega (arith, t.1)) t.2

  -- so k rounds are enough for a line of code and strings
  pub rounds_known : (k : ℕ) → AtMost k table → (l : List ℕ) (rest : List (List ℕ)) → all_code_or_str (classify Carry.Code l) ≡ true → (n : ℕ) → length l ≤ n
      → break_first table o max level n (record { first = l; rest = rest }) ≡ break_first table o max level k (record { first = l; rest = rest })
  rounds_known k a l rest h n g = go (split n k)
    where
      whole : Pieces
      whole = record { first = l; rest = rest }

      go : (n < k) ⊎ (k ≤ n) → break_first table o max level n whole ≡ break_first table o max level k whole
      go (inl x) = sym (ap (λ (m : ℕ). break_first table o max level m whole) (omega arith) ∙ rounds_enough table o max level (k - n) n whole g)
      go (inr x) = rounds_over k a k n 0 l rest x (omega arith) (record { plain = h; tighter = tighter_zero (top_level_ops table (classify Carry.Code l)) })

-- ---- a table of strengths of 4 bits

pub known_lines : (table : List ℕ) → AtMost max_strength table → (o : Options) (max level : ℕ) (l : List ℕ) → all_code_or_str (classify Carry.Code l) ≡ true
    → split_operation table o max level l ≡ lay_pieces o level (break_first table o max level max_strength (record { first = l; rest = [] }))
unfolding split_operation
known_lines table a o max level l h =
    ap (lay_pieces o level) (rounds_known table o max level max_strength a l [] h (length l) (omega arith))

fields_small : (table : List ℕ) → AtMost max_strength (fields_of table)
unfolding fields_of
fields_small [] = tt
fields_small (b ∷ bs) =
    let high : b / 16 % 16 < 16 = mod-lt (b / 16) (omega arith) in
    let low : b % 16 < 16 = mod-lt b (omega arith) in
    (omega arith, (omega arith, fields_small bs))

take_most : (k n : ℕ) (ns : List ℕ) → AtMost k ns → AtMost k (take n ns)
take_most k zero ns h = tt
take_most k (suc n) [] h = tt
take_most k (suc n) (m ∷ ns) h = (h.0, take_most k n ns h.1)

-- every table that a host gives is one
pub strengths_known : (table : List ℕ) → AtMost max_strength (strengths_in table)
unfolding strengths_in
strengths_known table = take_most max_strength (length operators) (fields_of table) (fields_small table)

-- so that fifteen rounds are enough, whatever the table
pub fifteen_rounds : (table : List ℕ) (o : Options) (max level : ℕ) (l : List ℕ) → all_code_or_str (classify Carry.Code l) ≡ true
    → split_operation (strengths_in table) o max level l
    ≡ lay_pieces o level (break_first (strengths_in table) o max level 15 (record { first = l; rest = [] }))
fifteen_rounds table = known_lines (strengths_in table) (strengths_known table)

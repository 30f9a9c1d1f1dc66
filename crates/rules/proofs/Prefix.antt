-- The operators of a line and of its beginning.
--     Found, step_found           what one step of `marks_from` finds; Operator, marks_operators, of a line's marks
--     Tighter, CutAt, cut_at      the first place where a break cuts a line: the operators before it bind tighter
--     scan_prefix                 a beginning, scanned by itself, has the classes that it has in the line, where all
--                                 are code or string
--     scan_white, marks_white     white space before a line changes nothing
--     ops_after, marks_till         the state after some characters of a line, and their marks
--     marks_append, marks_prefix  a beginning has the marks that it has in the line, where no token runs on past it
--     solid_after                 what a token still passes over is no white space
use Prim.Native.Nat.{ℕ, zero, suc, ◌+◌, ◌≤◌, ◌<◌}
use native.Mathlib.Omega.{arith}
use mathlib.Core.Bool.{Bool, true, false, not, ◌&&◌, ◌||◌, true≢false, and-false, or-true}
use mathlib.Core.Logic.{◌⊎◌, inl, inr}
use mathlib.Core.List.{List, [], ◌∷◌, ◌++◌}
use mathlib.Core.Path.{◌≡◌, refl, sym, ap, ◌∙◌}
use lib.Dec.{eqb}
use lib.ListN.{length, take, drop, get_or, get_or-append}
use borrow.Author.Tests.{eq-eqb, eqb-true, eqb-false, ne_eqb, lt-leb, not-true, not-false}
use Rattle.utf8.specs.Unicode.{within, is_white}
use Rattle.utf8.proofs.Tests.{by_test, and_left, and_right, in_range_law, split}
use Rattle.utf8.proofs.Trim.{White}
use Rattle.rules.specs.declared.Class.{Class}
use Rattle.rules.specs.declared.Carry.{Carry}
use Rattle.rules.specs.declared.Mode.{Mode}
use Rattle.rules.specs.declared.Mark.{Mark}
use Rattle.rules.specs.Basics.{choose, is, codes, at, is_ident, same, one_of, leading, starts_with, first_is, is_blank}
use Rattle.rules.specs.Scan.{one, in_code, in_quoted, in_interp, in_inner, in_block, in_prefab, mark_at, next_of, next, Cell, cell, chars_of, scan, begin, is_code_or_str, all_code_or_str}
use Rattle.rules.specs.Operators.{AtMost, operators, index_in}
use Rattle.rules.specs.SplitOperation.{precedence, ends_operand, atom_len, Ops, OpStep, token, operator, escape, bracket, one_char_step, two_char_step, code_step, fresh_step, op_step_at, op_step, OpMark, op_mark, marks_from, no_ops, top_level_ops, looser, loosest, at_mark, cut_before}
use Rattle.rules.proofs.Choose.{choose_case}
use Rattle.rules.proofs.StartsBytes.{choose_both}
use Rattle.rules.proofs.ScanBytes.{label, chars_append}
use Rattle.rules.proofs.CellsLaws.{length_chars}
use Rattle.rules.proofs.OperatorsBytes.{mark_bytes}

pub never : {A : Type 0} {b : Bool} → b ≡ true → b ≡ false → A
never p q = absurd (true≢false (sym p ∙ q))

-- ---- operators

-- what holds of each of some texts holds of one of them
all_of : (List ℕ → Bool) → List (List ℕ) → Bool
all_of p [] = true
all_of p (w ∷ ws) = p w && all_of p ws

pub same_eq : (k w : List ℕ) → same k w ≡ true → k ≡ w
unfolding same
same_eq [] [] h = refl
same_eq [] (y ∷ ys) h = never h refl
same_eq (x ∷ xs) [] h = never h refl
same_eq (x ∷ xs) (y ∷ ys) h = rw (eqb-true x y (and_left (eqb x y) (same xs ys) h), same_eq xs ys (and_right (eqb x y) (same xs ys) h))

pub same_itself : (k : List ℕ) → same k k ≡ true
unfolding same
same_itself [] = refl
same_itself (x ∷ xs) = rw (eq-eqb x x refl, same_itself xs)

one_of_law : (p : List ℕ → Bool) (ws : List (List ℕ)) (w : List ℕ) → all_of p ws ≡ true → one_of ws w ≡ true → p w ≡ true
unfolding one_of all_of
one_of_law p [] w a h = never h refl
one_of_law p (v ∷ vs) w a h =
    by_test (same v w) (λ e. rw (← same_eq v w e) (and_left (p v) (all_of p vs) a)) (λ e. one_of_law p vs w (and_right (p v) (all_of p vs) a) (rw e at h))

-- a text's first character is no white space, and not the first of `else`
unfoldable pub leads : List ℕ → Bool
leads [] = true
leads (c ∷ cs) = not (is_white c) && not (is "e" c)

-- no character is white space
unfoldable pub all_solid : List ℕ → Bool
all_solid [] = true
all_solid (c ∷ cs) = not (is_white c) && all_solid cs

pub operator_leads : (w : List ℕ) → one_of operators w ≡ true → leads w ≡ true
unfolding all_of leads is_white
operator_leads w h = one_of_law leads operators w refl h

operator_solid : (w : List ℕ) → one_of operators w ≡ true → all_solid w ≡ true
unfolding all_of all_solid is_white
operator_solid w h = one_of_law all_solid operators w refl h

known_at : (table : List ℕ) (i k : ℕ) → AtMost k table → get_or table i 0 ≤ k
known_at [] i k a = omega arith
known_at (n ∷ ns) zero k a = a.0
known_at (n ∷ ns) (suc i) k a = known_at ns i k a.1

-- ---- what a step finds at c, with cs after it

-- a strength of the table, for a text that leads; and the token's other characters are no white space
pub record Found (table : List ℕ) (c : ℕ) (cs : List ℕ) (r : OpStep) : Type 0 where
  pub leads : 0 < r.strength → leads (c ∷ []) ≡ true
  pub known : (k : ℕ) → AtMost k table → r.strength ≤ k
  pub solid : all_solid (take r.after.skip cs) ≡ true

module _ (table : List ℕ) (c : ℕ) (cs : List ℕ) where
  found_none : (r : OpStep) → r.strength ≡ 0 → all_solid (take r.after.skip cs) ≡ true → Found table c cs r
  found_none r e a = record { leads = λ h. absurd (omega arith); known = λ k b. omega arith; solid = a }

  found_token : (s : Ops) (o : Bool) (n : ℕ) → all_solid (take n cs) ≡ true → Found table c cs (token s o n)
  unfolding token
  found_token s o n a = found_none (token s o n) refl a

  found_pass : (s : Ops) (o : Bool) → Found table c cs (token s o 0)
  unfolding all_solid
  found_pass s o = found_token s o 0 refl

  found_escape : (s : Ops) (e : Bool) → Found table c cs (escape s e)
  unfolding escape all_solid
  found_escape s e = found_none (escape s e) refl refl

  found_bracket : (m n : ℕ) (o : Bool) → Found table c cs (bracket m n o)
  unfolding bracket all_solid
  found_bracket m n o = found_none (bracket m n o) refl refl

  found_operator : (s : Ops) (op : List ℕ) (n : ℕ) → leads (c ∷ []) ≡ true → all_solid (take n cs) ≡ true → Found table c cs (operator s (precedence table op) n)
  unfolding operator precedence
  found_operator s op n h a =
      record {
        leads = λ k. h;
        known = λ k b. let r = known_at table (index_in operators op) k b in choose_case (λ (m : ℕ). m ≤ k) (λ t. r) (λ t. omega arith);
        solid = a;
      }

  found_or : (b : Bool) (x y : OpStep) → (b ≡ true → Found table c cs x) → (b ≡ false → Found table c cs y) → Found table c cs (choose b x y)
  found_or b x y f g = choose_case (Found table c cs) f g

starts_take : (w s : List ℕ) → starts_with s w ≡ true → take (length w) s ≡ w
unfolding starts_with
starts_take [] s h = refl
starts_take (w ∷ ws) [] h = never h refl
starts_take (w ∷ ws) (c ∷ s) h = rw (eqb-true c w (and_left (eqb c w) (starts_with s ws) h), starts_take ws s (and_right (eqb c w) (starts_with s ws) h))

-- after the first character of a text without white space
starts_solid : (w : ℕ) (ws : List ℕ) (c : ℕ) (cs : List ℕ) → all_solid ws ≡ true → starts_with (c ∷ cs) (w ∷ ws) ≡ true → all_solid (take (length ws) cs) ≡ true
unfolding starts_with
starts_solid w ws c cs a h = rw (starts_take ws cs (and_right (eqb c w) (starts_with cs ws) h)) a

first_solid : (cs : List ℕ) → first_is (is "=") cs ≡ true → all_solid (take 1 cs) ≡ true
unfolding first_is all_solid is_white
first_solid [] h = refl
first_solid (c ∷ cs) h = rw (eqb-true c 61 h)

second_solid : (cs : List ℕ) → all_solid (take 1 cs) ≡ true → all_solid (take 1 (drop 1 cs)) ≡ true → all_solid (take 2 cs) ≡ true
unfolding all_solid
second_solid [] a b = refl
second_solid (c ∷ cs) a b = rw (and_left (not (is_white c)) true a) b

-- ASCII characters that are no controls and no space
pub visible : (c : ℕ) → 33 ≤ c → c ≤ 126 → is_white c ≡ false
unfolding is_white
visible c h k =
    simp (
      lt-leb c 13 (omega arith),
      and-false,
      lt-leb 0x2000 c (omega arith),
      ne_eqb c 0x20 (omega arith),
      ne_eqb c 0x85 (omega arith),
      ne_eqb c 0xA0 (omega arith),
      ne_eqb c 0x1680 (omega arith),
      ne_eqb c 0x2028 (omega arith),
      ne_eqb c 0x2029 (omega arith),
      ne_eqb c 0x202F (omega arith),
      ne_eqb c 0x205F (omega arith),
      ne_eqb c 0x3000 (omega arith),
    )

pub ident_visible : (c : ℕ) → is_ident c ≡ true → is_white c ≡ false
unfolding is_ident
ident_visible c h =
    by_test (within 48 57 c) (λ e. let r = in_range_law 48 57 c e in visible c (omega arith) (omega arith))
    (λ e. by_test (within 65 90 c) (λ f. let r = in_range_law 65 90 c f in visible c (omega arith) (omega arith))
    (λ f. by_test (within 97 122 c) (λ g. let r = in_range_law 97 122 c g in visible c (omega arith) (omega arith))
    (λ g. let k : c ≡ 95 = eqb-true c 95 (rw (e, f, g) at h) in visible c (omega arith) (omega arith))))

atom_solid : (cs : List ℕ) → all_solid (take (atom_len cs) cs) ≡ true
unfolding leading all_solid
atom_solid [] = refl
atom_solid (c ∷ cs) =
    let r = atom_solid cs in
    choose_case (λ (n : ℕ). all_solid (take n (c ∷ cs)) ≡ true) (λ e. rw (solid e) r) (λ e. refl)
  where
    solid : (is_ident c || is "-" c) ≡ true → is_white c ≡ false
    solid e = by_test (is_ident c) (λ h. ident_visible c h) (λ h. let k : c ≡ 45 = eqb-true c 45 (rw h at e) in visible c (omega arith) (omega arith))

module _ (table : List ℕ) where
  one_found : (s : Ops) (c : ℕ) (cs : List ℕ) → Found table c cs (one_char_step table s c cs)
  unfolding one_char_step leads all_solid
  one_found s c cs =
      found_or table c cs _ _ _ (λ e. found_pass table c cs s _)
      (λ n. found_or table c cs _ _ _ (λ e. found_token table c cs s false 1 (first_solid cs e))
      (λ e. found_or table c cs _ _ _ (λ e. found_pass table c cs s false)
      (λ e. found_operator table c cs s (c ∷ []) 0 (operator_leads (c ∷ []) (not-false (one_of operators (c ∷ [])) n)) refl)))

  two_found : (s : Ops) (c : ℕ) (op cs : List ℕ) → leads (c ∷ []) ≡ true → all_solid (take 1 cs) ≡ true → Found table c cs (two_char_step table s op (drop 1 cs))
  unfolding two_char_step
  two_found s c op cs h a =
      found_or table c cs _ _ _
      (λ e. found_token table c cs s false 2 (second_solid cs a (first_solid (drop 1 cs) (and_right (same op (codes "<<") || same op (codes ">>")) (first_is (is "=") (drop 1 cs)) e))))
      (λ e. found_operator table c cs s op 1 h a)

  code_found : (s : Ops) (c : ℕ) (cs : List ℕ) → Found table c cs (code_step table s c cs)
  unfolding code_step leads all_solid is_white
  code_found s c cs =
      found_or table c cs _ _ _ (λ e. found_token table c cs s _ (atom_len cs) (atom_solid cs))
      (λ e. found_or table c cs _ _ _ (λ e. found_pass table c cs s _)
      (λ e. found_or table c cs _ _ _ (λ e. found_bracket table c cs _ _ false)
      (λ e. found_or table c cs _ _ _ (λ e. found_bracket table c cs _ _ _)
      (λ e. found_or table c cs _ _ _ (λ e. found_token table c cs s false 2 (starts_solid 46 (codes "..") c cs refl e))
      (λ e. found_or table c cs _ _ _ (λ e. found_token table c cs s false 1 (arrow e))
      (λ e. found_or table c cs _ _ _ (λ h. two_found s c (take 2 (c ∷ cs)) cs (operator_leads (take 2 (c ∷ cs)) (pair h)) (and_right (not (is_white c)) _ (operator_solid (take 2 (c ∷ cs)) (pair h))))
      (λ e. one_found s c cs)))))))
    where
      arrow : (at (c ∷ cs) "->" || at (c ∷ cs) "=>") ≡ true → all_solid (take 1 cs) ≡ true
      arrow e = by_test (at (c ∷ cs) "->") (λ h. starts_solid 45 (codes ">") c cs refl h) (λ h. starts_solid 61 (codes ">") c cs refl (rw h at e))

      pair : (eqb (length (take 2 (c ∷ cs))) 2 && one_of operators (take 2 (c ∷ cs))) ≡ true → one_of operators (take 2 (c ∷ cs)) ≡ true
      pair h = and_right (eqb (length (take 2 (c ∷ cs))) 2) (one_of operators (take 2 (c ∷ cs))) h

  fresh_found : (s : Ops) (x : Cell) (cs : List ℕ) → Found table x.ch cs (fresh_step table s x cs)
  unfolding fresh_step all_solid
  fresh_found s x cs =
      found_or table x.ch cs _ _ _ (λ e. found_none table x.ch cs _ refl refl)
      (λ e. found_or table x.ch cs _ _ _ (λ e. found_escape table x.ch cs s false)
      (λ e. found_or table x.ch cs _ _ _ (λ e. found_escape table x.ch cs s true)
      (λ e. code_found s x.ch cs)))

  pub step_found : (n : ℕ) (s : Ops) (x : Cell) (cs : List ℕ) → all_solid (take n (x.ch ∷ cs)) ≡ true → Found table x.ch cs (op_step_at n table s x cs)
  unfolding op_step_at all_solid
  step_found zero s x cs a = fresh_found s x cs
  step_found (suc n) s x cs a = found_token table x.ch cs s s.operand n (and_right (not (is_white x.ch)) (all_solid (take n cs)) a)

-- the strengths of all marks are the table's, and operators lead
pub record Operator (table : List ℕ) (m : OpMark) : Type 0 where
  pub leads : 0 < m.strength → leads (m.ch ∷ []) ≡ true
  pub known : (k : ℕ) → AtMost k table → m.strength ≤ k

abbrev pub Operators : List ℕ → List OpMark → Type 0
Operators table [] = Unit {0}
Operators table (m ∷ ms) = Operator table m × Operators table ms

marks_from_law : (table : List ℕ) (s : Ops) (cells : List Cell) → all_solid (take s.skip (chars_of cells)) ≡ true → Operators table (marks_from table s cells)
unfolding marks_from chars_of
marks_from_law table s [] a = tt
marks_from_law table s (x ∷ xs) a =
    let r = step_found table s.skip s x (chars_of xs) a in
    (record { leads = r.leads; known = r.known }, marks_from_law table (op_step table s x (chars_of xs)).after xs r.solid)

pub marks_operators : (table : List ℕ) (cells : List Cell) → Operators table (top_level_ops table cells)
unfolding top_level_ops all_solid
marks_operators table cells = marks_from_law table no_ops cells refl

-- ---- where a break cuts

unfoldable pub marked_chars : List OpMark → List ℕ
marked_chars [] = []
marked_chars (m ∷ ms) = m.ch ∷ marked_chars ms

pub marks_chars : (table : List ℕ) (s : Ops) (cells : List Cell) → marked_chars (marks_from table s cells) ≡ chars_of cells
unfolding marked_chars marks_from chars_of
marks_chars table s [] = refl
marks_chars table s (x ∷ xs) = ap {B = List ℕ} (λ r. x.ch ∷ r) (marks_chars table (op_step table s x (chars_of xs)).after xs)

-- every operator binds tighter than strength p
abbrev pub Tighter : ℕ → List OpMark → Type 0
Tighter p [] = Unit {0}
Tighter p (m ∷ ms) = (0 < m.strength → p < m.strength) × Tighter p ms

-- the marks are first cut at `mark`, which has the strength p; those before it bind tighter
pub record CutAt (p : ℕ) (ms : List OpMark) : Type 0 where
  pub before : List OpMark
  pub mark : OpMark
  pub after : List OpMark
  pub is : ms ≡ before ++ (mark ∷ after)
  pub strength : mark.strength ≡ p
  pub tighter : Tighter p before
  pub first : (cut_before p ms).first ≡ marked_chars before
  pub rest : (cut_before p ms).rest ≡ (mark.ch ∷ (cut_before p after).first) ∷ (cut_before p after).rest

-- where the loosest strength is p + 1 and a mark has another, the mark binds tighter and the rest has that strength
tighter_mark : (s n p : ℕ) → looser s n ≡ suc p → (s ≡ suc p → ⊥) → (n ≡ suc p) × (0 < s → suc p < s)
unfolding looser
tighter_mark zero n p e h = (e, λ k. absurd (omega arith))
tighter_mark (suc s) zero p e h = absurd (h e)
tighter_mark (suc s) (suc n) p e h = let k : ¬ (suc s ≡ suc p) = h in (omega arith, λ l. omega arith)

pub cut_at : (p : ℕ) (ms : List OpMark) → loosest ms ≡ suc p → CutAt (suc p) ms
unfolding loosest cut_before at_mark marked_chars
cut_at p [] e = absurd (omega arith)
cut_at p (m ∷ ms) e = by_test (eqb m.strength (suc p)) here (λ h. there h (cut_at p ms (other h).0))
  where
    other : eqb m.strength (suc p) ≡ false → (loosest ms ≡ suc p) × (0 < m.strength → suc p < m.strength)
    other h = tighter_mark m.strength (loosest ms) p e (eqb-false m.strength (suc p) h)

    here : eqb m.strength (suc p) ≡ true → CutAt (suc p) (m ∷ ms)
    here h =
        record {
          before = [];
          mark = m;
          after = ms;
          is = refl;
          strength = eqb-true m.strength (suc p) h;
          tighter = tt;
          first = rw h;
          rest = rw h;
        }

    there : eqb m.strength (suc p) ≡ false → CutAt (suc p) ms → CutAt (suc p) (m ∷ ms)
    there h r =
        record {
          before = m ∷ r.before;
          mark = r.mark;
          after = r.after;
          is = ap {B = List OpMark} (λ l. m ∷ l) r.is;
          strength = r.strength;
          tighter = ((other h).1, r.tighter);
          first = rw h (ap {B = List ℕ} (λ l. m.ch ∷ l) r.first);
          rest = rw h r.rest;
        }

-- ---- what a text starts with, and more after it

starts_more : (w s z : List ℕ) → starts_with s w ≡ true → starts_with (s ++ z) w ≡ true
unfolding starts_with
starts_more [] s z h = refl
starts_more (w ∷ ws) [] z h = never h refl
starts_more (w ∷ ws) (c ∷ s) z h = rw (and_left (eqb c w) (starts_with s ws) h) (starts_more ws s z (and_right (eqb c w) (starts_with s ws) h))

-- where only the longer text starts with w, w runs on past the shorter
starts_far : (w s z : List ℕ) → starts_with (s ++ z) w ≡ true → starts_with s w ≡ false → length s < length w
unfolding starts_with
starts_far [] s z h k = never refl k
starts_far (w ∷ ws) [] z h k = omega arith
starts_far (w ∷ ws) (c ∷ s) z h k =
    let e : eqb c w ≡ true = and_left (eqb c w) (starts_with (s ++ z) ws) h in
    let r = starts_far ws s z (and_right (eqb c w) (starts_with (s ++ z) ws) h) (rw e at k) in
    omega arith

-- ---- the scan of a beginning

-- the mark found in the whole line, if it is code or string, is the one found in its beginning
record Same (x y : Mark) : Type 0 where
  same : is_code_or_str x.class ≡ true → x ≡ y

same_refl : (x : Mark) → Same x x
same_refl x = record { same = λ h. refl }

same_or : (b : Bool) (x y y' : Mark) → Same y y' → Same (choose b x y) (choose b x y')
unfolding choose
same_or true x y y' r = same_refl x
same_or false x y y' r = r

-- a test that finds a comment or a prefab
same_bad : (b b' : Bool) (x y y' : Mark) → is_code_or_str x.class ≡ false → (b' ≡ true → b ≡ true) → Same y y' → Same (choose b x y) (choose b' x y')
unfolding choose
same_bad true b' x y y' k f r = record { same = λ h. never h k }
same_bad false true x y y' k f r = never (f refl) refl
same_bad false false x y y' k f r = r

same_code : (s z : List ℕ) (c : ℕ) → Same (in_code (c ∷ (s ++ z))) (in_code (c ∷ s))
unfolding in_code starts_with
same_code s z c =
    same_or _ _ _ _
    (same_or _ _ _ _
    (same_or _ _ _ _
    (same_bad _ _ _ _ _ refl (starts_more (codes "//") (c ∷ s) z)
    (same_bad _ _ _ _ _ refl (starts_more (codes "/*") (c ∷ s) z)
    (same_bad _ _ _ _ _ refl (starts_more (codes "$```") (c ∷ s) z) (same_refl _))))))

mark_same : (m : Mode) (c d : ℕ) (s z : List ℕ) → Same (mark_at m (c ∷ d ∷ (s ++ z))) (mark_at m (c ∷ d ∷ s))
unfolding starts_with in_quoted in_interp in_inner in_block in_prefab
mark_same Mode.Code c d s z = same_code (d ∷ s) z c
mark_same (Mode.Quoted q) c d s z = same_refl _
mark_same (Mode.Interp q e) c d s z = same_refl _
mark_same (Mode.Inner q e k) c d s z = same_refl _
mark_same Mode.Line c d s z = same_refl _
mark_same (Mode.Block e) c d s z = same_refl _
mark_same Mode.Prefab c d s z = same_bad _ _ _ _ _ refl (starts_more (codes "```") (c ∷ d ∷ s) z) (same_refl _)

-- at a beginning's last character the mark itself may be another: `${` is looked for in a string
record SameClass (x y : Mark) : Type 0 where
  class : is_code_or_str x.class ≡ true → x.class ≡ y.class

class_same : {x y : Mark} → Same x y → SameClass x y
class_same r = record { class = λ h. ap (λ (m : Mark). m.class) (r.same h) }

quoted_class : (q : Bool) (s : List ℕ) → (in_quoted q s).class ≡ Class.Str
unfolding in_quoted
quoted_class q s =
    choose_case (λ (m : Mark). m.class ≡ Class.Str) (λ h. refl)
    (λ h. choose_case (λ (m : Mark). m.class ≡ Class.Str) (λ i. refl)
    (λ i. choose_case (λ (m : Mark). m.class ≡ Class.Str) (λ j. refl) (λ j. refl)))

block_class : (d : ℕ) (s : List ℕ) → (in_block d s).class ≡ Class.BlockComment
unfolding in_block
block_class d s =
    choose_case (λ (m : Mark). m.class ≡ Class.BlockComment) (λ h. refl)
    (λ h. choose_case (λ (m : Mark). m.class ≡ Class.BlockComment)
    (λ i. choose_case (λ (m : Mark). m.class ≡ Class.BlockComment) (λ j. refl) (λ j. refl)) (λ i. refl))

mark_class : (m : Mode) (c : ℕ) (z : List ℕ) → SameClass (mark_at m (c ∷ z)) (mark_at m (c ∷ []))
unfolding starts_with in_interp in_inner in_prefab
mark_class Mode.Code c z = class_same (same_code [] z c)
mark_class (Mode.Quoted q) c z = record { class = λ h. quoted_class q (c ∷ z) ∙ sym (quoted_class q (c ∷ [])) }
mark_class (Mode.Interp q e) c z = class_same (same_refl _)
mark_class (Mode.Inner q e k) c z = class_same (same_refl _)
mark_class Mode.Line c z = class_same (same_refl _)
mark_class (Mode.Block e) c z = record { class = λ h. block_class e (c ∷ z) ∙ sym (block_class e (c ∷ [])) }
mark_class Mode.Prefab c z = class_same (same_bad _ _ _ _ _ refl (starts_more (codes "```") (c ∷ []) z) (same_refl _))

next_same : (n : ℕ) (k : Class) (m : Mode) (c d : ℕ) (s z : List ℕ) → Same (next_of n k m (c ∷ d ∷ (s ++ z))) (next_of n k m (c ∷ d ∷ s))
next_same zero k m c d s z = mark_same m c d s z
next_same (suc n) k m c d s z = same_refl _

next_class : (n : ℕ) (k : Class) (m : Mode) (c : ℕ) (z : List ℕ) → SameClass (next_of n k m (c ∷ z)) (next_of n k m (c ∷ []))
next_class zero k m c z = mark_class m c z
next_class (suc n) k m c z = class_same (same_refl _)

-- the cells of a are the first of those of a ++ z
pub record Begins (t : Mark) (a z : List ℕ) : Type 0 where
  pub rest : List Cell
  pub is : scan t (a ++ z) ≡ scan t a ++ rest

pub scan_prefix : (a z : List ℕ) (t : Mark) → all_code_or_str (scan t (a ++ z)) ≡ true → Begins t a z
unfolding scan all_code_or_str
scan_prefix [] z t h = record { rest = scan t z; is = refl }
scan_prefix (c ∷ []) z t h =
    let n : Mark = next t (c ∷ z) in
    let k : is_code_or_str n.class ≡ true = and_left (is_code_or_str n.class) (all_code_or_str (scan n z)) h in
    record {
      rest = scan n z;
      is = ap (λ (x : Class). cell c x ∷ scan n z) ((next_class t.more t.class t.mode c z).class k);
    }
scan_prefix (c ∷ d ∷ a) z t h =
    let n : Mark = next t (c ∷ d ∷ (a ++ z)) in
    let k : is_code_or_str n.class ≡ true = and_left (is_code_or_str n.class) (all_code_or_str (scan n (d ∷ (a ++ z)))) h in
    let e : n ≡ next t (c ∷ d ∷ a) = (next_same t.more t.class t.mode c d a z).same k in
    let r = scan_prefix (d ∷ a) z n (and_right (is_code_or_str n.class) (all_code_or_str (scan n (d ∷ (a ++ z)))) h) in
    record {
      rest = r.rest;
      is = ap (λ (l : List Cell). cell c n.class ∷ l) r.is ∙ ap (λ (m : Mark). cell c m.class ∷ (scan m (d ∷ a) ++ r.rest)) e;
    }

-- ---- white space before a line

white_not : (c k : ℕ) → is_white c ≡ true → is_white k ≡ false → eqb c k ≡ false
white_not c k w e = by_test (eqb c k) (λ h. never w (rw (eqb-true c k h) e)) (λ h. h)

white_code : (c : ℕ) (s : List ℕ) → is_white c ≡ true → in_code (c ∷ s) ≡ one Class.Code Mode.Code
unfolding in_code starts_with choose is_white
white_code c s w = simp (white_not c)

pub scan_white : (v z : List ℕ) → White v → scan (begin Carry.Code) (v ++ z) ≡ label Class.Code v ++ scan (begin Carry.Code) z
unfolding scan label
scan_white [] z w = refl
scan_white (c ∷ v) z w = rw (white_code c (v ++ z) w.0, scan_white v z w.1)

white_operator : (c : ℕ) (cs : List ℕ) → is_white c ≡ true → one_of operators (c ∷ cs) ≡ false
unfolding leads
white_operator c cs w = by_test (one_of operators (c ∷ cs)) (λ e. never (operator_leads (c ∷ cs) e) (rw w)) (λ e. e)

white_ends : (c : ℕ) → is_white c ≡ true → ends_operand c ≡ false
unfolding ends_operand is_white
white_ends c w =
    let i : is_ident c ≡ false = by_test (is_ident c) (λ h. never w (ident_visible c h)) (λ h. h) in
    rw i (simp (white_not c))

white_step : (table : List ℕ) (c : ℕ) (cs : List ℕ) → is_white c ≡ true → op_step table no_ops (cell c Class.Code) cs ≡ record { strength = 0; after = no_ops }
unfolding op_step_at fresh_step code_step one_char_step token starts_with choose is_white
white_step table c cs w = simp (white_not c, white_operator c, white_ends c, and-false) (choose_both (is_blank c) (record { strength = 0; after = no_ops }))

-- the marks, by what the first step gives
marks_cons : (table : List ℕ) (s : Ops) (x : Cell) (xs : List Cell) (r : OpStep) → op_step table s x (chars_of xs) ≡ r
    → marks_from table s (x ∷ xs) ≡ op_mark x.ch r.strength ∷ marks_from table r.after xs
unfolding marks_from
marks_cons table s x xs r e = ap (λ (t : OpStep). op_mark x.ch t.strength ∷ marks_from table t.after xs) e

pub marks_white : (table v : List ℕ) (ys : List Cell) → White v → marks_from table no_ops (label Class.Code v ++ ys) ≡ mark_bytes 0 v ++ marks_from table no_ops ys
unfolding label mark_bytes
marks_white table [] ys w = refl
marks_white table (c ∷ v) ys w =
    marks_cons table no_ops (cell c Class.Code) (label Class.Code v ++ ys) (record { strength = 0; after = no_ops }) (white_step table c _ w.0)
    ∙ ap (λ (ms : List OpMark). op_mark c 0 ∷ ms) (marks_white table v ys w.1)

-- ---- one step, in the whole line and in its beginning

-- where what is found in the whole passes over at most n characters more, the beginning gives the same
record Agrees (n : ℕ) (x y : OpStep) : Type 0 where
  same : x.after.skip ≤ n → x ≡ y

agrees_refl : (n : ℕ) (x : OpStep) → Agrees n x x
agrees_refl n x = record { same = λ h. refl }

module _ (n : ℕ) where
  -- a test that both pass or neither
  agrees_or : (b : Bool) (x x' y y' : OpStep) → (b ≡ true → Agrees n x x') → Agrees n y y' → Agrees n (choose b x y) (choose b x' y')
  unfolding choose
  agrees_or true x x' y y' f r = f refl
  agrees_or false x x' y y' f r = r

  -- a test that the beginning fails alone only where the token runs on past it
  agrees_far : (b b' : Bool) (x x' y y' : OpStep) → (b' ≡ true → b ≡ true) → (b ≡ true → b' ≡ false → n < x.after.skip) → Agrees n x x' → Agrees n y y'
      → Agrees n (choose b x y) (choose b' x' y')
  unfolding choose
  agrees_far true true x x' y y' f g q r = q
  agrees_far true false x x' y y' f g q r = record { same = λ h. absurd (let k = g refl refl in omega arith) }
  agrees_far false true x x' y y' f g q r = never (f refl) refl
  agrees_far false false x x' y y' f g q r = r

first_more : (p : ℕ → Bool) (cs z : List ℕ) → first_is p cs ≡ true → first_is p (cs ++ z) ≡ true
unfolding first_is
first_more p [] z h = never h refl
first_more p (c ∷ cs) z h = h

first_far : (p : ℕ → Bool) (cs z : List ℕ) → first_is p (cs ++ z) ≡ true → first_is p cs ≡ false → length cs < 1
unfolding first_is
first_far p [] z h k = omega arith
first_far p (c ∷ cs) z h k = never h k

one_agrees : (table : List ℕ) (s : Ops) (c : ℕ) (cs z : List ℕ) → Agrees (length cs) (one_char_step table s c (cs ++ z)) (one_char_step table s c cs)
unfolding one_char_step token
one_agrees table s c cs z =
    agrees_or (length cs) _ _ _ _ _ (λ e. agrees_refl (length cs) _)
    (agrees_far (length cs) _ _ _ _ _ _ (first_more (is "=") cs z) (first_far (is "=") cs z) (agrees_refl (length cs) _)
    (agrees_refl (length cs) _))

two_agrees : (table : List ℕ) (s : Ops) (op ds z : List ℕ) → Agrees (suc (length ds)) (two_char_step table s op (ds ++ z)) (two_char_step table s op ds)
unfolding two_char_step token
two_agrees table s op ds z =
    agrees_far (suc (length ds)) _ _ _ _ _ _ more far (agrees_refl (suc (length ds)) _) (agrees_refl (suc (length ds)) _)
  where
    t : Bool
    t = same op (codes "<<") || same op (codes ">>")

    more : (t && first_is (is "=") ds) ≡ true → (t && first_is (is "=") (ds ++ z)) ≡ true
    more h = rw (and_left t (first_is (is "=") ds) h, first_more (is "=") ds z (and_right t (first_is (is "=") ds) h))

    far : (t && first_is (is "=") (ds ++ z)) ≡ true → (t && first_is (is "=") ds) ≡ false → suc (length ds) < 2
    far h k =
        let e : t ≡ true = and_left t (first_is (is "=") (ds ++ z)) h in
        let r = first_far (is "=") ds z (and_right t (first_is (is "=") (ds ++ z)) h) (rw e at k) in
        omega arith

two_skips : (table : List ℕ) (s : Ops) (op rest : List ℕ) → 0 < (two_char_step table s op rest).after.skip
unfolding two_char_step token operator
two_skips table s op rest = choose_case (λ (r : OpStep). 0 < r.after.skip) (λ e. omega arith) (λ e. omega arith)

-- the tests from two characters on
abbrev pair_step : List ℕ → Ops → ℕ → List ℕ → OpStep
pair_step table s c cs =
    choose (eqb (length (take 2 (c ∷ cs))) 2 && one_of operators (take 2 (c ∷ cs))) (two_char_step table s (take 2 (c ∷ cs)) (drop 1 cs)) (one_char_step table s c cs)

pair_agrees : (table : List ℕ) (s : Ops) (c : ℕ) (cs z : List ℕ) → Agrees (length cs) (pair_step table s c (cs ++ z)) (pair_step table s c cs)
pair_agrees table s c [] z =
    agrees_far 0 _ _ _ _ _ _ (λ h. never h refl) (λ h k. two_skips table s (take 2 (c ∷ z)) (drop 1 z))
    (record { same = λ h. absurd (let k = two_skips table s (take 2 (c ∷ z)) (drop 1 z) in omega arith) }) (one_agrees table s c [] z)
pair_agrees table s c (d ∷ ds) z = agrees_or (suc (length ds)) _ _ _ _ _ (λ e. two_agrees table s (c ∷ d ∷ []) ds z) (one_agrees table s c (d ∷ ds) z)

-- an atom's name that does not run on past the beginning
atom_more : (cs z : List ℕ) → atom_len cs ≤ atom_len (cs ++ z)
unfolding leading choose
atom_more [] z = omega arith
atom_more (c ∷ cs) z = go (is_ident c || is "-" c) (atom_more cs z)
  where
    go : (b : Bool) → atom_len cs ≤ atom_len (cs ++ z) → choose b (suc (atom_len cs)) 0 ≤ choose b (suc (atom_len (cs ++ z))) 0
    go true h = omega arith
    go false h = omega arith

atom_near : (cs z : List ℕ) → atom_len (cs ++ z) ≤ length cs → atom_len (cs ++ z) ≡ atom_len cs
unfolding leading choose
atom_near [] z h = omega arith
atom_near (c ∷ cs) z h = go (is_ident c || is "-" c) (atom_near cs z) h
  where
    go : (b : Bool) → (atom_len (cs ++ z) ≤ length cs → atom_len (cs ++ z) ≡ atom_len cs) → choose b (suc (atom_len (cs ++ z))) 0 ≤ suc (length cs)
        → choose b (suc (atom_len (cs ++ z))) 0 ≡ choose b (suc (atom_len cs)) 0
    go true f k = ap suc (f (omega arith))
    go false f k = refl

atom_token : (s : Ops) (c : ℕ) (cs z : List ℕ)
    → Agrees (length cs) (token s (ends_operand (get_or (c ∷ (cs ++ z)) (atom_len (cs ++ z)) 0)) (atom_len (cs ++ z))) (token s (ends_operand (get_or (c ∷ cs) (atom_len cs) 0)) (atom_len cs))
unfolding token
atom_token s c cs z =
    record {
      same = λ h.
          let e = atom_near cs z h in
          let g : get_or (c ∷ (cs ++ z)) (atom_len cs) 0 ≡ get_or (c ∷ cs) (atom_len cs) 0 = get_or-append (c ∷ cs) z 0 (atom_len cs) (omega arith) in
          rw (e, g);
    }

-- whether an atom's name follows
atom_test : (t : Bool) (cs z : List ℕ) → (t && not (eqb (atom_len cs) 0)) ≡ true → (t && not (eqb (atom_len (cs ++ z)) 0)) ≡ true
atom_test t cs z h =
    let e : ¬ (atom_len cs ≡ 0) = eqb-false (atom_len cs) 0 (not-true (eqb (atom_len cs) 0) (and_right t (not (eqb (atom_len cs) 0)) h)) in
    let m = atom_more cs z in
    rw (and_left t (not (eqb (atom_len cs) 0)) h, ne_eqb (atom_len (cs ++ z)) 0 (omega arith))

atom_far : (t : Bool) (cs z : List ℕ) → (t && not (eqb (atom_len (cs ++ z)) 0)) ≡ true → (t && not (eqb (atom_len cs) 0)) ≡ false → length cs < atom_len (cs ++ z)
atom_far t cs z h k = go (split (length cs) (atom_len (cs ++ z)))
  where
    go : (length cs < atom_len (cs ++ z)) ⊎ (atom_len (cs ++ z) ≤ length cs) → length cs < atom_len (cs ++ z)
    go (inl l) = l
    go (inr l) = never h (rw (atom_near cs z l) k)

code_agrees : (table : List ℕ) (s : Ops) (c : ℕ) (cs z : List ℕ) → Agrees (length cs) (code_step table s c (cs ++ z)) (code_step table s c cs)
unfolding code_step
code_agrees table s c cs z =
    agrees_far n _ _ _ _ _ _ (atom_test t cs z) (λ h k. skips _ (atom_len (cs ++ z)) (atom_far t cs z h k)) (atom_token s c cs z)
    (agrees_or n _ _ _ _ _ (λ e. agrees_refl n _)
    (agrees_or n _ _ _ _ _ (λ e. agrees_refl n _)
    (agrees_or n _ _ _ _ _ (λ e. agrees_refl n _)
    (agrees_far n _ _ _ _ _ _ (starts_more (codes "...") (c ∷ cs) z) (λ h k. skips _ 2 (let r = starts_far (codes "...") (c ∷ cs) z h k in omega arith)) (agrees_refl n _)
    (agrees_far n _ _ _ _ _ _ arrow_more (λ h k. skips _ 1 (arrow_far h k)) (agrees_refl n _)
    (pair_agrees table s c cs z))))))
  where
    n : ℕ
    n = length cs

    t : Bool
    t = is ":" c && not s.operand

    skips : (o : Bool) (m : ℕ) → n < m → n < (token s o m).after.skip
    skips o m h = unfold token in h

    arrow_more : (at (c ∷ cs) "->" || at (c ∷ cs) "=>") ≡ true → (at (c ∷ (cs ++ z)) "->" || at (c ∷ (cs ++ z)) "=>") ≡ true
    arrow_more h =
        by_test (at (c ∷ cs) "->") (λ e. rw (starts_more (codes "->") (c ∷ cs) z e))
        (λ e. rw (starts_more (codes "=>") (c ∷ cs) z (rw e at h)) (or-true (at (c ∷ (cs ++ z)) "->")))

    arrow_far : (at (c ∷ (cs ++ z)) "->" || at (c ∷ (cs ++ z)) "=>") ≡ true → (at (c ∷ cs) "->" || at (c ∷ cs) "=>") ≡ false → n < 1
    arrow_far h k =
        by_test (at (c ∷ cs) "->") (λ e. never {b = true} refl (rw e at k))
        (λ e. by_test (at (c ∷ (cs ++ z)) "->") (λ f. let r = starts_far (codes "->") (c ∷ cs) z f e in omega arith)
        (λ f. let r = starts_far (codes "=>") (c ∷ cs) z (rw f at h) (rw e at k) in omega arith))

step_agrees : (n : ℕ) (table : List ℕ) (s : Ops) (x : Cell) (cs z : List ℕ) → Agrees (length cs) (op_step_at n table s x (cs ++ z)) (op_step_at n table s x cs)
unfolding op_step_at fresh_step
step_agrees zero table s x cs z =
    agrees_or (length cs) _ _ _ _ _ (λ e. agrees_refl (length cs) _)
    (agrees_or (length cs) _ _ _ _ _ (λ e. agrees_refl (length cs) _)
    (agrees_or (length cs) _ _ _ _ _ (λ e. agrees_refl (length cs) _)
    (code_agrees table s x.ch cs z)))
step_agrees (suc n) table s x cs z = agrees_refl (length cs) _

-- ---- the marks of a beginning

-- the state after the cells xs of a line whose characters z follow them; and their marks
unfoldable pub ops_after : List ℕ → Ops → List Cell → List ℕ → Ops
ops_after table s [] z = s
ops_after table s (x ∷ xs) z = ops_after table (op_step table s x (chars_of xs ++ z)).after xs z

unfoldable pub marks_till : List ℕ → Ops → List Cell → List ℕ → List OpMark
marks_till table s [] z = []
marks_till table s (x ∷ xs) z =
    op_mark x.ch (op_step table s x (chars_of xs ++ z)).strength ∷ marks_till table (op_step table s x (chars_of xs ++ z)).after xs z

-- one character of a token is passed over at a step
step_falls : (n : ℕ) (table : List ℕ) (s : Ops) (x : Cell) (cs : List ℕ) → n ≤ suc (op_step_at n table s x cs).after.skip
unfolding op_step_at token
step_falls zero table s x cs = omega arith
step_falls (suc n) table s x cs = omega arith

module _ (table : List ℕ) where
  pub marks_append : (xs ys : List Cell) (s : Ops)
      → marks_from table s (xs ++ ys) ≡ marks_till table s xs (chars_of ys) ++ marks_from table (ops_after table s xs (chars_of ys)) ys
  unfolding ops_after marks_till
  marks_append [] ys s = refl
  marks_append (x ∷ xs) ys s =
      let r : OpStep = op_step table s x (chars_of xs ++ chars_of ys) in
      marks_cons table s x (xs ++ ys) r (ap (op_step table s x) (chars_append xs ys))
      ∙ ap (λ (ms : List OpMark). op_mark x.ch r.strength ∷ ms) (marks_append xs ys r.after)

  pub length_till : (xs : List Cell) (z : List ℕ) (s : Ops) → length (marks_till table s xs z) ≡ length xs
  unfolding marks_till
  length_till [] z s = refl
  length_till (x ∷ xs) z s = ap suc (length_till xs z (op_step table s x (chars_of xs ++ z)).after)

  -- a token passes over no more than what follows it
  skip_falls : (xs : List Cell) (z : List ℕ) (s : Ops) → s.skip ≤ length xs + (ops_after table s xs z).skip
  unfolding ops_after
  skip_falls [] z s = omega arith
  skip_falls (x ∷ xs) z s =
      omega (arith, step_falls s.skip table s x (chars_of xs ++ z), skip_falls xs z (op_step table s x (chars_of xs ++ z)).after)

  pub marks_prefix : (xs : List Cell) (z : List ℕ) (s : Ops) → (ops_after table s xs z).skip ≡ 0 → marks_till table s xs z ≡ marks_from table s xs
  unfolding ops_after marks_till marks_from
  marks_prefix [] z s e = refl
  marks_prefix (x ∷ xs) z s e =
      let r : OpStep = op_step table s x (chars_of xs ++ z) in
      let k : r.after.skip ≤ length (chars_of xs) = omega (arith, length_chars xs, skip_falls xs z r.after) in
      ap (λ (ms : List OpMark). op_mark x.ch r.strength ∷ ms) (marks_prefix xs z r.after e)
      ∙ ap (λ (t : OpStep). op_mark x.ch t.strength ∷ marks_from table t.after xs) ((step_agrees s.skip table s x (chars_of xs) z).same k)

  pub solid_after : (xs : List Cell) (z : List ℕ) (s : Ops) → all_solid (take s.skip (chars_of xs ++ z)) ≡ true → all_solid (take (ops_after table s xs z).skip z) ≡ true
  unfolding ops_after chars_of
  solid_after [] z s a = a
  solid_after (x ∷ xs) z s a = solid_after xs z (op_step table s x (chars_of xs ++ z)).after (step_found table s.skip s x (chars_of xs ++ z) a).solid

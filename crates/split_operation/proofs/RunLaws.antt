-- Laws of a run of words, strings and gaps: no operator stands in it, and an operand ends after it if one of its bytes is
-- of a word or string, or one ended before.
use Prim.Native.Nat.{ℕ, zero, suc, ◌+◌, ◌≤◌, ◌<◌}
use mathlib.Core.Bool.{Bool, true, false, not, ◌&&◌, ◌||◌, and-false, true≢false}
use mathlib.Core.List.{List, [], ◌∷◌}
use mathlib.Core.Path.{◌≡◌, refl, sym, ap, ◌∙◌, subst}
use Rattle.std.specs.Prelude.{Some}
use Rattle.std.proofs.Math.Bool.{or-false, or-true}
use native.Mathlib.Omega.{arith}
use lib.Dec.{eqb}
use lib.ListN.{length, get_or, take, drop}
use borrow.Author.Tests.{eqb-true, lt-leb, ltb-true}
use Rattle.utf8.specs.Unicode.{tail}
use Rattle.utf8.proofs.Tests.{by_test, and_left, and_right}
use Rattle.rules.specs.declared.Class.{Class}
use Rattle.rules.specs.Basics.{choose, same, one_of, starts_with, is_blank, is_ident, is_opener, is_closer}
use Rattle.rules.specs.Scan.{cell, is_code, is_str}
use Rattle.rules.specs.ClassBytes.{class_of, cell_at}
use Rattle.rules.specs.Operators.{operators}
use Rattle.rules.specs.SplitOperation.{Ops, ends_operand, token, one_char_step, code_step, fresh_step, op_step_at, in_word}
use Rattle.rules.proofs.Choose.{choose_true, choose_false}
use Rattle.rules.proofs.StartsBytes.{low_of, steady_ident}
use Rattle.rules.specs.OperatorBytes.{byte_step}
use Rattle.top_level_ops.specs.declared.OpState.{OpState}
use Rattle.top_level_ops.specs.Steps.{ops_of, step_of}
use Rattle.split_operation.specs.Pass.{Breakable, NonePending, is_operand, in_gap, is_quiet, QuietRun, past_run, Balances, Seeking, Pass, Passing}
use Rattle.split_operation.proofs.WordLaws.{eqb_swap}
use Rattle.split_operation.proofs.PassLaws.{ReadAt, read_step, looser_zero, balance_other, balance_plain, passing_more, seek_read, ops_left}

-- the state after a byte that is passed where nothing is pending
shut : (s : OpState) (operand : Bool) → NonePending s → step_of (record { strength = 0; after = past_run s operand }) ≡ token (ops_of s) operand 0
unfolding token
shut s operand p = rw (p.esc, p.skip)

-- ---- one of them

module _ (c : ℕ) (h : is_ident c ≡ true) where
  -- it is no character that isn't one
  apart : (k : ℕ) → is_ident k ≡ false → eqb c k ≡ false
  apart k n = by_test (eqb c k) (λ e. let z : is_ident c ≡ is_ident k = ap is_ident (eqb-true c k e) in let y : true ≡ false = sym h ∙ z ∙ n in cc) (λ e. e)

  apart' : (k : ℕ) → is_ident k ≡ false → eqb k c ≡ false
  apart' k n = eqb_swap k c ∙ apart k n

  -- no operator starts with it
  no_operator : (w : List ℕ) → one_of operators (c ∷ w) ≡ false
  unfolding one_of same is_ident
  no_operator w =
      rw (apart' 124 refl, apart' 94 refl, apart' 38 refl, apart' 61 refl, apart' 33 refl, apart' 60 refl, apart' 62 refl, apart' 46 refl, apart' 43 refl, apart' 45 refl, apart' 42 refl, apart' 47 refl, apart' 37 refl)

  ident_code : (table : List ℕ) (s : Ops) (cs : List ℕ) → code_step table s c cs ≡ token s true 0
  unfolding code_step one_char_step ends_operand starts_with choose is_ident
  ident_code table s cs =
      rw (
        apart 58 refl,
        apart 32 refl,
        apart 9 refl,
        apart 123 refl,
        apart 40 refl,
        apart 91 refl,
        apart 125 refl,
        apart 41 refl,
        apart 93 refl,
        apart 46 refl,
        apart 45 refl,
        apart 61 refl,
        no_operator (take 1 cs),
        and-false (eqb (length (take 2 (c ∷ cs))) 2),
        no_operator [],
        h,
      )

  ident_low : tail c ≡ false
  unfolding tail
  ident_low = rw (lt-leb 0x80 c (ltb-true c 0x80 (low_of is_ident steady_ident c h)))

  ident_opener : is_opener c ≡ false
  unfolding is_ident
  ident_opener = rw (apart 123 refl, apart 40 refl, apart 91 refl)

  ident_closer : is_closer c ≡ false
  unfolding is_ident
  ident_closer = rw (apart 125 refl, apart 41 refl, apart 93 refl)

  -- the step of such a byte
  ident_fresh : (table : List ℕ) (s : Ops) (cs : List ℕ) → s.esc ≡ false → fresh_step table s (cell c Class.Code) cs ≡ token s true 0
  unfolding fresh_step is_ident
  ident_fresh table s cs e = choose_false _ _ _ refl ∙ choose_false _ _ _ e ∙ choose_false _ _ _ (apart 92 refl) ∙ ident_code table s cs

  ident_at : (n : ℕ) (table : List ℕ) (s : Ops) (cs : List ℕ) → n ≡ 0 → s.esc ≡ false → op_step_at n table s (cell c Class.Code) cs ≡ token s true 0
  unfolding op_step_at
  ident_at zero table s cs z e = ident_fresh table s cs e
  ident_at (suc n) table s cs z e = absurd (omega arith)

  ident_step : (table : List ℕ) (s : OpState) (cs : List ℕ) → NonePending s → step_of (record { strength = 0; after = past_run s true }) ≡ byte_step table (ops_of s) (cell c Class.Code) cs
  ident_step table s cs p = shut s true p ∙ sym (choose_false _ _ _ ident_low ∙ ident_at s.skip table (ops_of s) cs p.skip p.esc)

-- ---- a space or a tab

module _ (c : ℕ) (h : is_blank c ≡ true) where
  gap_of : (P : ℕ → Type 0) → P 32 → P 9 → P c
  gap_of P f g = by_test (eqb c 32) (λ e. subst P (sym (eqb-true c 32 e)) f) (λ e. subst P (sym (eqb-true c 9 (rw e at h))) g)

  gap_code : (table : List ℕ) (s : Ops) (cs : List ℕ) → code_step table s c cs ≡ token s s.operand 0
  unfolding code_step choose
  gap_code table s cs = gap_of (λ (k : ℕ). code_step table s k cs ≡ token s s.operand 0) refl refl

  gap_fresh : (table : List ℕ) (s : Ops) (cs : List ℕ) → s.esc ≡ false → fresh_step table s (cell c Class.Code) cs ≡ token s s.operand 0
  unfolding fresh_step
  gap_fresh table s cs e = choose_false _ _ _ refl ∙ choose_false _ _ _ e ∙ choose_false _ _ _ (gap_of (λ (k : ℕ). eqb k 92 ≡ false) refl refl) ∙ gap_code table s cs

  gap_at : (n : ℕ) (table : List ℕ) (s : Ops) (cs : List ℕ) → n ≡ 0 → s.esc ≡ false → op_step_at n table s (cell c Class.Code) cs ≡ token s s.operand 0
  unfolding op_step_at
  gap_at zero table s cs z e = gap_fresh table s cs e
  gap_at (suc n) table s cs z e = absurd (omega arith)

  gap_low : tail c ≡ false
  unfolding tail
  gap_low = gap_of (λ (k : ℕ). tail k ≡ false) refl refl

  gap_step : (table : List ℕ) (s : OpState) (cs : List ℕ) → NonePending s → step_of (record { strength = 0; after = s }) ≡ byte_step table (ops_of s) (cell c Class.Code) cs
  gap_step table s cs p = shut s s.operand p ∙ sym (choose_false _ _ _ gap_low ∙ gap_at s.skip table (ops_of s) cs p.skip p.esc)

-- ---- a byte that starts no character

module _ (c : ℕ) (h : tail c ≡ true) where
  tail_apart : (k : ℕ) → tail k ≡ false → eqb c k ≡ false
  tail_apart k n = by_test (eqb c k) (λ e. absurd (true≢false (sym h ∙ ap tail (eqb-true c k e) ∙ n))) (λ e. e)

  tail_opener : is_opener c ≡ false
  unfolding tail
  tail_opener = rw (tail_apart 123 refl, tail_apart 40 refl, tail_apart 91 refl)

  tail_closer : is_closer c ≡ false
  unfolding tail
  tail_closer = rw (tail_apart 125 refl, tail_apart 41 refl, tail_apart 93 refl)

code_class : (k : Class) → is_code k ≡ true → k ≡ Class.Code
code_class Class.Code e = refl
code_class Class.Str e = absurd (true≢false (sym e))
code_class Class.LineComment e = absurd (true≢false (sym e))
code_class Class.BlockComment e = absurd (true≢false (sym e))
code_class Class.Prefab e = absurd (true≢false (sym e))

str_code : (k : Class) → is_str k ≡ true → is_code k ≡ false
str_code Class.Code e = absurd (true≢false (sym e))
str_code Class.Str e = refl
str_code Class.LineComment e = refl
str_code Class.BlockComment e = refl
str_code Class.Prefab e = refl

pend : {s : OpState} {o : Bool} → NonePending s → NonePending (past_run s o)
pend p = record { skip = p.skip; esc = p.esc }

module _ (table : List ℕ) (s : OpState) (line class : List ℕ) (i : ℕ) (h : i < length line) (b : Breakable line class) (p : NonePending s) where
  abbrev k : Class
  k = class_of (get_or class i 0)

  abbrev c : ℕ
  c = get_or line i 0

  -- a byte of code, by the step that it makes there
  code_read : is_code k ≡ true → (after : OpState) → step_of (record { strength = 0; after = after }) ≡ byte_step table (ops_of s) (cell c Class.Code) (drop (i + 1) line)
      → ReadAt table s line class i (record { strength = 0; after = after })
  code_read e after f =
      read_step table s line class i h b (record { strength = 0; after = after })
      (f ∙ ap (λ (k : Class). byte_step table (ops_of s) (cell c k) (drop (i + 1) line)) (sym (code_class k e)))

  ident_read : in_word (cell_at line class i) ≡ true → ReadAt table s line class i (record { strength = 0; after = past_run s true })
  ident_read e = code_read (and_left (is_code k) (is_ident c) e) (past_run s true) (ident_step c (and_right (is_code k) (is_ident c) e) table s (drop (i + 1) line) p)

  string_at : (n : ℕ) → n ≡ s.skip → is_str k ≡ true → op_step_at n table (ops_of s) (cell_at line class i) (drop (i + 1) line) ≡ step_of (record { strength = 0; after = past_run s true })
  unfolding op_step_at fresh_step
  string_at zero z e = choose_true _ _ _ e ∙ ap (λ (m : ℕ). record { strength = 0; after = record { opened = s.opened; closed = s.closed; operand = true; esc = s.esc; skip = m } }) z
  string_at (suc n) z e = absurd (omega (arith, p.skip))

  string_read : (is_str (class_of (get_or class i 0)) && not (tail (get_or line i 0))) ≡ true → ReadAt table s line class i (record { strength = 0; after = past_run s true })
  string_read e =
      read_step table s line class i h b (record { strength = 0; after = past_run s true })
      (sym (choose_false _ _ _ (by_test (tail c) (λ t. absurd (true≢false (sym (and_right (is_str k) (not (tail c)) e) ∙ ap not t))) (λ t. t)) ∙ string_at s.skip refl (and_left (is_str k) (not (tail c)) e)))

  word_read : is_operand (cell_at line class i) ≡ true → ReadAt table s line class i (record { strength = 0; after = past_run s true })
  word_read e = by_test (in_word (cell_at line class i)) ident_read (λ n. string_read (rw n at e))

  blank_read : (is_code k && is_blank c) ≡ true → ReadAt table s line class i (record { strength = 0; after = s })
  blank_read e = code_read (and_left (is_code k) (is_blank c) e) s (gap_step c (and_right (is_code k) (is_blank c) e) table s (drop (i + 1) line) p)

  tail_read : tail c ≡ true → ReadAt table s line class i (record { strength = 0; after = s })
  tail_read e = read_step table s line class i h b (record { strength = 0; after = s }) (sym (choose_true _ _ _ e))

  gap_read : in_gap (cell_at line class i) ≡ true → ReadAt table s line class i (record { strength = 0; after = s })
  gap_read e = by_test (tail c) tail_read (λ n. blank_read (rw n at e))

module _ (line class : List ℕ) (i d : ℕ) where
  abbrev kind : Class
  kind = class_of (get_or class i 0)

  abbrev byte : ℕ
  byte = get_or line i 0

  quiet_balance : is_opener byte ≡ false → is_closer byte ≡ false → Balances d (cell_at line class i) (Some d)
  quiet_balance o l =
      by_test (is_code kind)
      (λ e. balance_plain d (cell_at line class i) true (sym e) refl false (sym o) refl false (sym l) refl)
      (λ e. balance_other d (cell_at line class i) false (sym e) refl)

  string_balance : (is_str (class_of (get_or class i 0)) && not (tail (get_or line i 0))) ≡ true → Balances d (cell_at line class i) (Some d)
  string_balance e = balance_other d (cell_at line class i) false (sym (str_code kind (and_left (is_str kind) (not (tail byte)) e))) refl

  word_balance : is_operand (cell_at line class i) ≡ true → Balances d (cell_at line class i) (Some d)
  word_balance e =
      by_test (in_word (cell_at line class i))
      (λ w. let z : is_ident byte ≡ true = and_right (is_code kind) (is_ident byte) w in quiet_balance (ident_opener byte z) (ident_closer byte z))
      (λ n. string_balance (rw n at e))

  gap_balance : in_gap (cell_at line class i) ≡ true → Balances d (cell_at line class i) (Some d)
  gap_balance e =
      by_test (tail byte) (λ t. quiet_balance (tail_opener byte t) (tail_closer byte t))
      (λ n. let z : is_blank byte ≡ true = and_right (is_code kind) (is_blank byte) (rw n at e) in
      quiet_balance (gap_of byte z (λ (k : ℕ). is_opener k ≡ false) refl refl) (gap_of byte z (λ (k : ℕ). is_closer k ≡ false) refl refl))

-- ---- a run of them

pub run_within : {line class : List ℕ} {from : ℕ} {s : OpState} {e : ℕ} {o : Bool} → QuietRun line class from s e o → from ≤ length line → (from ≤ e) × (e ≤ length line)
run_within QuietRun.begins h = (omega arith, h)
run_within (QuietRun.word q l p t) h = let r = run_within q h in (omega (arith, r.0), omega arith)
run_within (QuietRun.gap q l p t) h = let r = run_within q h in (omega (arith, r.0), omega arith)

-- the pass p, its state replaced
abbrev pub with_state : Pass → OpState → Pass
with_state p s = record { ops = record { ops = s; strength = p.ops.strength; cut = p.ops.cut }; depth = p.depth }

module _ {table line class : List ℕ} (p : Pass) where
  still : (e : ℕ) → (s s' : OpState) → Passing table line class (with_state p s) e → e < length line → ReadAt table s line class e (record { strength = 0; after = s' }) → Balances p.depth (cell_at line class e) (Some p.depth)
      → Passing table line class (with_state p s') (e + 1)
  still e s s' q l r b = passing_more table line class (with_state p s) e q l p.depth b (with_state p s').ops (ops_left q.ops l (record { strength = 0; after = s' }) r (looser_zero p.ops.strength))

  pub passing_run : {i e : ℕ} {o : Bool} → Passing table line class p i → QuietRun line class i p.ops.ops e o → Passing table line class (with_state p (past_run p.ops.ops o)) e
  passing_run q QuietRun.begins = q
  passing_run q (QuietRun.word {operand = operand} u l n t) =
      let r = passing_run q u in
      still _ (past_run p.ops.ops operand) (past_run p.ops.ops true) r l (word_read table (past_run p.ops.ops operand) line class _ l r.ops.breaks (pend n) t) (word_balance line class _ p.depth t)
  passing_run q (QuietRun.gap {operand = o} u l n t) =
      let r = passing_run q u in
      still _ (past_run p.ops.ops o) (past_run p.ops.ops o) r l (gap_read table (past_run p.ops.ops o) line class _ l r.ops.breaks (pend n) t) (gap_balance line class _ p.depth t)

module _ {table : List ℕ} {strength : ℕ} {line class : List ℕ} {from : ℕ} {start s : OpState} {i : ℕ} where
  pub seek_run : {e : ℕ} {o : Bool} → Seeking table strength line class from start s i → QuietRun line class i s e o → Seeking table strength line class from start (past_run s o) e
  seek_run q QuietRun.begins = q
  seek_run q (QuietRun.word u l n t) =
      let r = seek_run q u in
      seek_read r (record { strength = 0; after = past_run s true }) l (word_read table _ line class _ l r.breaks (pend n) t) (λ o. r.some (sym o))
  seek_run q (QuietRun.gap {operand = o} u l n t) =
      let r = seek_run q u in
      seek_read r (record { strength = 0; after = past_run s o }) l (gap_read table _ line class _ l r.breaks (pend n) t) (λ o. r.some (sym o))

-- ---- the functions

-- of code the table's test
pub quiet_code : (c : ℕ) (k : Class) → is_code k ≡ true → (is_ident c || (tail c || is_blank c)) ≡ is_quiet (cell c k)
quiet_code c Class.Code h = rw (or-false (is_ident c))
quiet_code c Class.Str h = absurd (true≢false (sym h))
quiet_code c Class.LineComment h = absurd (true≢false (sym h))
quiet_code c Class.BlockComment h = absurd (true≢false (sym h))
quiet_code c Class.Prefab h = absurd (true≢false (sym h))

module _ {line class : List ℕ} {from : ℕ} {s : OpState} {i : ℕ} {o : Bool} where
  pub run_on : QuietRun line class from s i o → i < length line → NonePending s → (w : Bool) → w ≡ is_operand (cell_at line class i) → is_quiet (cell_at line class i) ≡ true
      → QuietRun line class from s (i + 1) (o || w)
  run_on q h p true e y = rw (or-true o) (QuietRun.word q h p (sym e))
  run_on q h p false e y = rw (or-false o) (QuietRun.gap q h p (rw (sym e) at y))

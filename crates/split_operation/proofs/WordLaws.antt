-- Laws of words: whether one of the keywords stands in a line's code.
use Prim.Native.Nat.{ℕ, suc, ◌+◌, ◌-◌, ◌≤◌, ◌<◌, zero-le}
use mathlib.Core.Bool.{Bool, true, false, not, ◌&&◌, ◌||◌, and-false}
use mathlib.Core.List.{List, [], ◌∷◌, ◌++◌, reverse, reverse-append, reverse-reverse, append_assoc}
use mathlib.Core.Path.{◌≡◌, refl, sym, ap, ◌∙◌}
use native.Mathlib.Omega.{arith}
use lib.Dec.{eqb}
use lib.ListN.{length, get_or, take, drop}
use lib.Pointwise.{pointwise}
use borrow.Author.Tests.{eq-eqb, ne_eqb, eqb-true, eqb-false}
use Rattle.buffer.specs.Buffer.{part}
use Rattle.buffer.proofs.RegionLaws.{part_more}
use Rattle.utf8.proofs.Tests.{by_test, neither_left, neither_right}
use Rattle.split.proofs.MeasureLaws.{part_length}
use Rattle.blocks.specs.Blocks.{FirstFrom}
use Rattle.rules.specs.Basics.{choose, same, one_of}
use Rattle.rules.specs.Scan.{Cell, chars_of}
use Rattle.rules.specs.ClassBytes.{cells_of, cell_at}
use Rattle.rules.specs.SplitOperation.{in_word, word_on, has_word_from, has_word, keywords}
use Rattle.rules.proofs.Choose.{choose_true, choose_false}
use Rattle.rules.proofs.CellsLaws.{cells_at, cells_end, chars_cells}
use Rattle.split_operation.specs.Pass.{keyword_ends, WordOn, starts_keyword, keyword_starts_at, NoKeyword}

-- ---- words

-- a part that ends where it starts
pub part_none : (l : List ℕ) (a : ℕ) → part l a a ≡ []
part_none l a = let e : a - a ≡ 0 = omega arith in rw e

pub eqb_swap : (m n : ℕ) → eqb m n ≡ eqb n m
eqb_swap m n =
    by_test (eqb n m) (λ e. eq-eqb m n (sym (eqb-true n m e)) ∙ sym e) (λ e. ne_eqb m n (λ (h : m ≡ n). eqb-false n m e (sym h)) ∙ sym e)

pub same_pointwise : (s w : List ℕ) → pointwise eqb s w ≡ same w s
unfolding same
same_pointwise [] [] = refl
same_pointwise [] (b ∷ w) = refl
same_pointwise (a ∷ s) [] = refl
same_pointwise (a ∷ s) (b ∷ w) = rw (eqb_swap a b, same_pointwise s w)

-- no keyword has fewer than two characters
short_word : (w : List ℕ) → length w < 2 → one_of keywords w ≡ false
unfolding one_of same
short_word [] h = refl
short_word (a ∷ []) h = simp and-false
short_word (a ∷ b ∷ w) h = absurd (omega arith)

module _ (line : List ℕ) (start i : ℕ) (x : Cell) (pre : (i < length line) × (start ≤ i)) (r : Bool) (p : r ≡ in_word x) where
  pub word_on_law : get_or line i 0 ≡ x.ch → r ≡ true → WordOn line start i x start
  unfolding word_on
  word_on_law g q =
      record {
        start = omega (arith, pre.1);
        word = ap reverse (part_more line start i pre.1 pre.0) ∙ reverse-append (part line start i) (get_or line i 0 ∷ []) ∙ rw g (sym (choose_true _ _ _ (sym p ∙ q)));
        other = rw (← p, q);
      }

  module _ (q : r ≡ false) where
    ends : reverse (part line (i + 1) (i + 1)) ≡ word_on (reverse (part line start i)) x
    unfolding word_on
    ends = ap reverse (part_none line (i + 1)) ∙ sym (choose_false _ _ _ (sym p ∙ q))

    pub word_end : (s : Bool) → s ≡ one_of keywords (part line start i) → s ≡ false → WordOn line start i x (i + 1)
    word_end s u e = record { start = omega arith; word = ends; other = rw (← p, q, ← u) e }

    pub word_short : i ≤ start + 1 → WordOn line start i x (i + 1)
    word_short h = word_end false (sym (short_word (part line start i) (omega (arith, part_length line start i (omega (arith, pre.0)))))) refl

words_cons : (ws : List (List ℕ)) (word : List ℕ) (x : Cell) (xs : List Cell) → has_word_from ws word (x ∷ xs) ≡ ((not (in_word x) && one_of ws (reverse word)) || has_word_from ws (word_on word x) xs)
unfolding has_word_from
words_cons ws word x xs = refl

-- ---- the words of the whole line: the word that ends at i starts at `start`

pub record WordsAt (line class : List ℕ) (start i : ℕ) : Type 0 where
  pub order : start ≤ i
  pub words : has_word keywords (cells_of line class)
      ≡ has_word_from keywords (reverse (part line start i)) (cells_of (drop i line) (drop i class))

pub words_start : (line class : List ℕ) → WordsAt line class 0 0
unfolding has_word
words_start line class = record { order = zero-le; words = refl }

module _ {line class : List ℕ} {start i : ℕ} (q : WordsAt line class start i) (h : i < length line) (long : length line ≤ length class) where
  word_found : has_word keywords (cells_of line class) ≡ (keyword_ends line start i (cell_at line class i) || has_word_from keywords (word_on (reverse (part line start i)) (cell_at line class i)) (cells_of (drop (i + 1) line) (drop (i + 1) class)))
  word_found =
      q.words ∙ ap (has_word_from keywords (reverse (part line start i))) (cells_at line class i h long)
      ∙ words_cons keywords (reverse (part line start i)) (cell_at line class i) _ ∙ rw reverse-reverse

  pub words_keyword : keyword_ends line start i (cell_at line class i) ≡ true → true ≡ has_word keywords (cells_of line class)
  words_keyword e = sym (word_found ∙ rw e)

  pub words_more : (r : ℕ) → WordOn line start i (cell_at line class i) r → WordsAt line class r (i + 1)
  words_more r v = record { order = v.start; words = word_found ∙ rw (v.other, ← v.word) }

pub words_end : (line class : List ℕ) (start : ℕ) (r : Bool) → WordsAt line class start (length line) → r ≡ one_of keywords (take (length line - start) (drop start line)) → r ≡ has_word keywords (cells_of line class)
unfolding has_word_from
words_end line class start r q e =
    let none : cells_of (drop (length line) line) (drop (length line) class) ≡ [] = cells_end line class (length line) (omega arith) in
    e ∙ sym (q.words ∙ rw (none, reverse-reverse))

-- ---- no keyword where none of its first bytes stand

pub any_start : List ℕ → Bool
any_start [] = false
any_start (a ∷ []) = false
any_start (a ∷ b ∷ []) = eqb a 105 && eqb b 102
any_start (a ∷ b ∷ c ∷ l) = starts_keyword a b c || any_start (b ∷ c ∷ l)

starts_none : (s : List ℕ) → ((j : ℕ) → j + 2 < length s → keyword_starts_at s j ≡ false) → (eqb (get_or s (length s - 2) 0) 105 && eqb (get_or s (length s - 2 + 1) 0) 102) ≡ false → any_start s ≡ false
unfolding any_start
starts_none [] n e = refl
starts_none (a ∷ []) n e = refl
starts_none (a ∷ b ∷ []) n e = e
starts_none (a ∷ b ∷ c ∷ l) n e =
    let z : suc (suc (suc (length l))) - 2 ≡ suc (suc (suc (length l)) - 2) = omega arith in
    let y : suc (suc (suc (length l)) - 2) + 1 ≡ suc (suc (suc (length l)) - 2 + 1) = omega arith in
    rw (n 0 (omega arith))
    (starts_none (b ∷ c ∷ l)
    (λ j k. let u : suc j + 1 ≡ suc (j + 1) = omega arith in let v : suc j + 2 ≡ suc (j + 2) = omega arith in rw (u, v) at (n (suc j) (omega arith)))
    (rw (z, y) at e))

start_tail : (a : ℕ) (l : List ℕ) → any_start (a ∷ l) ≡ false → any_start l ≡ false
unfolding any_start
start_tail a [] h = refl
start_tail a (b ∷ []) h = refl
start_tail a (b ∷ c ∷ l) h = neither_right (starts_keyword a b c) (any_start (b ∷ c ∷ l)) h

start_after : (l m : List ℕ) → any_start (l ++ m) ≡ false → any_start m ≡ false
start_after [] m h = h
start_after (a ∷ l) m h = start_after l m (start_tail a (l ++ m) h)

module _ (p q r s t : Bool) (h : (p || q || r || s || t) ≡ false) where
  off4 : (p || q || r || s) ≡ false
  off4 = neither_left (p || q || r || s) t h

  off3 : (p || q || r) ≡ false
  off3 = neither_left (p || q || r) s off4

  off2 : (p || q) ≡ false
  off2 = neither_left (p || q) r off3

  all_off : (p ≡ false) × ((q ≡ false) × ((r ≡ false) × ((s ≡ false) × (t ≡ false))))
  all_off = (neither_left p q off2, (neither_right p q off2, (neither_right (p || q) r off3, (neither_right (p || q || r) s off4, neither_right (p || q || r || s) t h))))

start_before : (l m : List ℕ) → any_start (l ++ m) ≡ false → any_start l ≡ false
unfolding any_start
start_before [] m h = refl
start_before (a ∷ []) m h = refl
start_before (a ∷ b ∷ []) [] h = h
start_before (a ∷ b ∷ []) (c ∷ m) h = (all_off _ _ _ _ _ (neither_left (starts_keyword a b c) (any_start (b ∷ c ∷ m)) h)).0
start_before (a ∷ b ∷ c ∷ l) m h =
    rw (neither_left (starts_keyword a b c) (any_start (b ∷ c ∷ (l ++ m))) h) (start_before (b ∷ c ∷ l) m (neither_right (starts_keyword a b c) (any_start (b ∷ c ∷ (l ++ m))) h))

pair_off : (x y a b : ℕ) (t : Bool) → (eqb a x && eqb b y) ≡ false → (eqb x a && (eqb y b && t)) ≡ false
pair_off x y a b t h =
    by_test (eqb a x)
    (λ e. let z : eqb b y ≡ false = rw e at h in rw (eqb_swap y b, z, and-false) refl)
    (λ e. rw (eqb_swap x a, e) refl)

three_off : (x y z a b c : ℕ) (t : Bool) → (eqb a x && eqb b y && eqb c z) ≡ false → (eqb x a && (eqb y b && (eqb z c && t))) ≡ false
three_off x y z a b c t h =
    by_test (eqb a x && eqb b y)
    (λ e. let k : eqb c z ≡ false = rw e at h in rw (eqb_swap z c, k, and-false, and-false) refl)
    (λ e. pair_off x y a b (eqb z c && t) e)

word_none : (w : List ℕ) → any_start w ≡ false → one_of keywords w ≡ false
unfolding one_of same any_start
word_none [] h = refl
word_none (a ∷ []) h = simp and-false
word_none (a ∷ b ∷ []) h = rw (pair_off 105 102 a b true h) (simp and-false)
word_none (a ∷ b ∷ c ∷ w) h =
    let k = all_off _ _ _ _ _ (neither_left (starts_keyword a b c) (any_start (b ∷ c ∷ w)) h) in
    rw (
      pair_off 105 102 a b _ k.0,
      three_off 116 104 101 a b c _ k.1.0,
      three_off 101 108 115 a b c _ k.1.1.0,
      three_off 109 97 116 a b c _ k.1.1.1.0,
      three_off 97 119 97 a b c _ k.1.1.1.1,
    )

turned : (c : ℕ) (word m : List ℕ) → any_start (reverse word ++ (c ∷ m)) ≡ false → any_start (reverse (c ∷ word) ++ m) ≡ false
turned c word m h =
    let e : reverse (c ∷ word) ++ m ≡ reverse word ++ (c ∷ m) = ap (λ (l : List ℕ). l ++ m) (reverse-append (c ∷ []) word) ∙ append_assoc (reverse word) (c ∷ []) m in
    rw e h

no_word : (word : List ℕ) (xs : List Cell) → any_start (reverse word ++ chars_of xs) ≡ false → has_word_from keywords word xs ≡ false
unfolding has_word_from word_on choose chars_of
no_word word [] h = word_none (reverse word) (start_before (reverse word) [] h)
no_word word (x ∷ xs) h =
    let z : one_of keywords (reverse word) ≡ false = word_none (reverse word) (start_before (reverse word) (x.ch ∷ chars_of xs) h) in
    by_test (in_word x)
    (λ e. rw (z, and-false, e) (no_word (x.ch ∷ word) xs (turned x.ch word (chars_of xs) h)))
    (λ e. rw (z, and-false, e) (no_word [] xs (start_tail x.ch (chars_of xs) (start_after (reverse word) (x.ch ∷ chars_of xs) h))))

starts_told : (line : List ℕ) → any_start line ≡ false → (class : List ℕ) → length line ≤ length class → has_word keywords (cells_of line class) ≡ false
unfolding has_word
starts_told line h class l = no_word [] (cells_of line class) (rw (chars_cells line class l) h)

pub none_short : (line : List ℕ) → length line < 2 → NoKeyword line false
unfolding any_start
none_short [] h = record { none = λ e class l. starts_told [] refl class l }
none_short (a ∷ []) h = record { none = λ e class l. starts_told (a ∷ []) refl class l }
none_short (a ∷ b ∷ l) h = absurd (omega arith)

module _ (line : List ℕ) (r : ℕ) (h : 2 ≤ length line) (w : FirstFrom (keyword_starts_at line) 0 (length line - 2) r) (e : length line - 2 ≤ r) where
  none_long : (t : Bool) → t ≡ (eqb (get_or line (length line - 2) 0) 105 && eqb (get_or line (length line - 2 + 1) 0) 102) → NoKeyword line t
  none_long t f = record { none = λ z class l. starts_told line (starts_none line (λ j b. w.none j zero-le (omega arith)) (sym f ∙ z)) class l }

  pub none_first : (get_or line (length line - 2) 0 ≡ 105 → ⊥) → NoKeyword line (eqb (get_or line (length line - 2) 0) 105)
  none_first n = none_long _ (rw (ne_eqb (get_or line (length line - 2) 0) 105 n))

  pub none_second : get_or line (length line - 2) 0 ≡ 105 → NoKeyword line (eqb (get_or line (length line - 2 + 1) 0) 102)
  none_second n = none_long _ (rw (eq-eqb (get_or line (length line - 2) 0) 105 n))

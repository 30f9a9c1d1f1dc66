-- What a line starts with: white space, operators, words and declarations, found on bytes.
use Prim.Native.Nat.{ℕ, ◌-◌, ◌≤◌, ◌<◌}
use mathlib.Core.Bool.{Bool, true, false, not, ◌&&◌, ◌||◌, and-false, or-false, or-true, or_assoc, false≢true}
use mathlib.Core.List.{List, [], ◌∷◌}
use Rattle.std.specs.Prelude.{Option, Some, None}
use mathlib.Core.Path.{◌≡◌, refl, sym, ◌∙◌}
use native.Mathlib.Omega.{arith}
use borrow.Author.Tests.{eq-eqb, ne_eqb, eqb-true, eqb-false, ltb-true}
use lib.Dec.{eqb, ltb}
use lib.ListN.{length, get_or, take, drop, drop_of_length-le}
use Rattle.utf8.specs.Unicode.{encode, chars, decode, WellFormed, is_white, first_is_white}
use Rattle.utf8.proofs.Tests.{by_test, and_left, and_right, neither_left, neither_right}
use Rattle.utf8.proofs.Scan.{ascii_step}
use Rattle.buffer.proofs.RegionLaws.{part_from}
use Rattle.rules.specs.Basics.{choose, codes, at, is_empty, same, one_of, starts_with, first_is, starts_then}
use Rattle.rules.specs.Brackets.{leading_closers}
use Rattle.rules.specs.Operators.{operators, starts_one, starts_operator}
use Rattle.rules.specs.Words.{starts_with_word, white_or_paren, starts_with_one_of, starts_with_binary_op, same_declaration}
use Rattle.rules.specs.Line.{continues}
use Rattle.rules.proofs.StartsBytes.{on_decode, all_ascii, starts_encode, starts_column, first_encode, closers_encode}
use Rattle.rules.proofs.WordsBytes.{word_encode}
use Rattle.rules.proofs.OperatorsBytes.{operator_ascii}
use Rattle.basics.specs.Closers.{Closers}
use Rattle.format.specs.Words.{white_or, follows, Continues, declaration_of, same_of}
use Rattle.format.specs.declared.words.Declaration.{Declaration}

-- ---- white space or a byte

first_or : (p q : ℕ → Bool) (l : List ℕ) → first_is (λ c. p c || q c) l ≡ (first_is p l || first_is q l)
unfolding first_is
first_or p q [] = refl
first_or p q (c ∷ cs) = refl

pub first_white : (l : List ℕ) → first_is is_white l ≡ first_is_white l
unfolding first_is
first_white [] = refl
first_white (c ∷ cs) = refl

-- the byte c below 80 hex is the first character, or it is not
first_byte_law : (s : List ℕ) (c : ℕ) → WellFormed s → c < 0x80 → first_is (λ x. eqb x c) (decode s) ≡ first_is (λ x. eqb x c) s
first_byte_law s c w h = sym (on_decode (first_is (λ x. eqb x c)) (first_is (λ x. eqb x c)) (first_encode (λ x. eqb x c) false (λ b k. ne_eqb b c (omega arith))) s w)

module _ (s : List ℕ) (c : ℕ) (pre : WellFormed s × (c < 0x80)) where
  white_or_law : first_is (white_or c) (decode s) ≡ (first_is_white (decode s) || first_is (λ x. eqb x c) s)
  unfolding white_or
  white_or_law = first_or is_white (λ x. eqb x c) (decode s) ∙ rw (first_white (decode s), first_byte_law s c pre.0 pre.1)

  pub white_or_end : length s ≡ 0 → false ≡ first_is (white_or c) (decode s)
  unfolding first_is chars
  white_or_end h = none s h
    where
      none : (l : List ℕ) → length l ≡ 0 → false ≡ first_is (white_or c) (decode l)
      none [] h = refl
      none (x ∷ l) h = absurd (omega arith)

  first_is_law : (length s ≡ 0 → ⊥) → first_is (λ x. eqb x c) s ≡ eqb (get_or s 0 0) c
  unfolding first_is
  first_is_law h = some s h
    where
      some : (l : List ℕ) → (length l ≡ 0 → ⊥) → first_is (λ x. eqb x c) l ≡ eqb (get_or l 0 0) c
      some [] h = absurd (h refl)
      some (x ∷ l) h = refl

  pub white_or_byte : (length s ≡ 0 → ⊥) → get_or s 0 0 ≡ c → true ≡ first_is (white_or c) (decode s)
  white_or_byte h e = sym (white_or_law ∙ rw (first_is_law h, eq-eqb _ _ e) (or-true (first_is_white (decode s))))

  pub white_or_other : (r : Bool) → (length s ≡ 0 → ⊥) → (get_or s 0 0 ≡ c → ⊥) → r ≡ first_is_white (decode s) → r ≡ first_is (white_or c) (decode s)
  white_or_other r h n e = e ∙ sym (white_or_law ∙ rw (first_is_law h, ne_eqb _ _ n, or-false))

-- ---- operators

-- the bytes of an operator of one or two bytes are below 80 hex
one_low : (c : ℕ) → one_of operators (c ∷ []) ≡ true → c < 0x80
one_low c e = ltb-true c 0x80 (and_left (ltb c 0x80) true (operator_ascii (c ∷ []) e))

pair_low : (c d : ℕ) → one_of operators (c ∷ d ∷ []) ≡ true → (c < 0x80) × (d < 0x80)
pair_low c d e =
    let a = operator_ascii (c ∷ d ∷ []) e in
    (ltb-true c 0x80 (and_left (ltb c 0x80) (ltb d 0x80 && true) a), ltb-true d 0x80 (and_left (ltb d 0x80) true (and_right (ltb c 0x80) (ltb d 0x80 && true) a)))

module _ (s : List ℕ) (pre : WellFormed s × (1 < length s)) where
  -- what follows the operator is well-formed
  pub after_one : (r : Bool) → r ≡ one_of operators (get_or s 0 0 ∷ []) → r ≡ true → WellFormed (take (length s - 1) (drop 1 s))
  after_one r e q = rw part_from ((ascii_step s 0 (omega (arith, pre.1)) (one_low (get_or s 0 0) (sym e ∙ q))).well pre.0)

  pub after_pair : (r : Bool) → r ≡ one_of operators (get_or s 0 0 ∷ get_or s 1 0 ∷ []) → r ≡ true → WellFormed (take (length s - 2) (drop 2 s))
  after_pair r e q =
      let k = pair_low (get_or s 0 0) (get_or s 1 0) (sym e ∙ q) in
      let w : WellFormed (drop 1 s) = (ascii_step s 0 (omega (arith, pre.1)) k.0).well pre.0 in
      rw part_from ((ascii_step s 1 pre.1 k.1).well w)

  -- the answers of the two functions
  pub one_follows : (r f : Bool) → r ≡ one_of operators (get_or s 0 0 ∷ []) → r ≡ true → f ≡ first_is (white_or 40) (decode (take (length s - 1) (drop 1 s)))
      → f ≡ (one_of operators (get_or s 0 0 ∷ []) && follows s 1)
  unfolding follows white_or_paren white_or
  one_follows r f e q g = rw (← e, q) (g ∙ rw part_from)

  pub pair_follows : (r f : Bool) → r ≡ one_of operators (get_or s 0 0 ∷ get_or s 1 0 ∷ []) → r ≡ true → f ≡ first_is (white_or 40) (decode (take (length s - 2) (drop 2 s)))
      → f ≡ (one_of operators (get_or s 0 0 ∷ get_or s 1 0 ∷ []) && follows s 2)
  unfolding follows white_or_paren white_or
  pair_follows r f e q g = rw (← e, q) (g ∙ rw part_from)

-- an ASCII operator in a well-formed list, found on its bytes
then_operator : (s op : List ℕ) → WellFormed s → all_ascii op ≡ true → starts_then op white_or_paren false (decode s) ≡ (starts_with s op && follows s (length op))
unfolding starts_then follows
then_operator s op w a = rw (← on_decode (λ l. starts_with l op) (λ l. starts_with l op) (λ l. starts_encode op l a) s w) (go (starts_with s op) refl)
  where
    go : (b : Bool) → starts_with s op ≡ b
        → (b && (first_is white_or_paren (drop (length op) (decode s)) || (is_empty (drop (length op) (decode s)) && false))) ≡ (b && first_is white_or_paren (decode (drop (length op) s)))
    go true h = rw (and-false, or-false, (starts_column op s a w h).text)
    go false h = refl

-- operators of one or two ASCII characters
abbrev short : List ℕ → Bool
short [] = false
short (a ∷ []) = all_ascii (a ∷ [])
short (a ∷ b ∷ []) = all_ascii (a ∷ b ∷ [])
short (a ∷ b ∷ x ∷ w) = false

abbrev all_short : List (List ℕ) → Bool
all_short [] = true
all_short (op ∷ ops) = short op && all_short ops

one_more : (x y w z : Bool) → (x && true && w || (y && w || z)) ≡ ((x && true || y) && w || z)
one_more true y true z = refl
one_more true true false z = refl
one_more true false false z = refl
one_more false y w z = refl

pair_more : (x d y w z : Bool) → (x && (d && true) && w || (z || y && w)) ≡ (z || (x && (d && true) || y) && w)
pair_more true true y true z = sym (or-true z)
pair_more true true true false z = refl
pair_more true true false false z = refl
pair_more true false y w z = refl
pair_more false d y w z = refl

eqb_flip : (m n : ℕ) → eqb m n ≡ eqb n m
eqb_flip m n = by_test (eqb m n) (λ e. e ∙ sym (eq-eqb n m (sym (eqb-true m n e)))) (λ e. e ∙ sym (ne_eqb n m (λ q. eqb-false m n e (sym q))))

-- a text that starts with the first character of none
not_one : (ws : List (List ℕ)) (c : ℕ) (l : List ℕ) → starts_one ws c ≡ false → one_of ws (c ∷ l) ≡ false
unfolding starts_one one_of same first_is
not_one [] c l e = refl
not_one ([] ∷ ws) c l e = not_one ws c l e
not_one ((x ∷ w) ∷ ws) c l e =
    rw (eqb_flip x c, neither_left (eqb c x) (starts_one ws c) e, not_one ws c l (neither_right (eqb c x) (starts_one ws c) e))

module _ (c d : ℕ) (t : List ℕ) (w : WellFormed (c ∷ d ∷ t)) where
  abbrev line : List ℕ
  line = c ∷ d ∷ t

  some_operator : (ops : List (List ℕ)) → all_short ops ≡ true
      → starts_with_one_of ops (decode line) ≡ (one_of ops (c ∷ []) && follows line 1 || one_of ops (c ∷ d ∷ []) && follows line 2)
  unfolding starts_with_one_of one_of same starts_with
  some_operator [] a = refl
  some_operator ([] ∷ ops) a = absurd (false≢true a)
  some_operator ((x ∷ []) ∷ ops) a =
      let e = then_operator line (x ∷ []) w (and_left (all_ascii (x ∷ [])) (all_short ops) a) in
      rw (e, some_operator ops (and_right (all_ascii (x ∷ [])) (all_short ops) a), eqb_flip x c, and-false) (one_more (eqb c x) (one_of ops (c ∷ [])) (follows line 1) (one_of ops (c ∷ d ∷ []) && follows line 2))
  some_operator ((x ∷ y ∷ []) ∷ ops) a =
      let e = then_operator line (x ∷ y ∷ []) w (and_left (all_ascii (x ∷ y ∷ [])) (all_short ops) a) in
      rw (e, some_operator ops (and_right (all_ascii (x ∷ y ∷ [])) (all_short ops) a), eqb_flip x c, eqb_flip y d, and-false)
      (pair_more (eqb c x) (eqb d y) (one_of ops (c ∷ d ∷ [])) (follows line 2) (one_of ops (c ∷ []) && follows line 1))
  some_operator ((x ∷ y ∷ z ∷ v) ∷ ops) a = absurd (false≢true a)

-- nothing follows
follows_end : (s : List ℕ) (n : ℕ) → length s ≤ n → follows s n ≡ false
unfolding follows first_is chars
follows_end s n h = rw (drop_of_length-le s h)

no_operator : (s : List ℕ) → WellFormed s → length s ≤ 1 → (ops : List (List ℕ)) → all_short ops ≡ true → starts_with_one_of ops (decode s) ≡ false
unfolding starts_with_one_of
no_operator s w h [] a = refl
no_operator s w h ([] ∷ ops) a = absurd (false≢true a)
no_operator s w h ((x ∷ []) ∷ ops) a =
    let e = then_operator s (x ∷ []) w (and_left (all_ascii (x ∷ [])) (all_short ops) a) in
    rw (e, follows_end s 1 h, and-false) (no_operator s w h ops (and_right (all_ascii (x ∷ [])) (all_short ops) a))
no_operator s w h ((x ∷ y ∷ []) ∷ ops) a =
    let e = then_operator s (x ∷ y ∷ []) w (and_left (all_ascii (x ∷ y ∷ [])) (all_short ops) a) in
    rw (e, follows_end s 2 (omega arith), and-false) (no_operator s w h ops (and_right (all_ascii (x ∷ y ∷ [])) (all_short ops) a))
no_operator s w h ((x ∷ y ∷ z ∷ v) ∷ ops) a = absurd (false≢true a)

binary : (s : List ℕ) → WellFormed s → 1 < length s
    → starts_with_binary_op (decode s) ≡ (one_of operators (get_or s 0 0 ∷ []) && follows s 1 || one_of operators (get_or s 0 0 ∷ get_or s 1 0 ∷ []) && follows s 2)
unfolding starts_with_binary_op
binary [] w h = absurd (omega arith)
binary (c ∷ []) w h = absurd (omega arith)
binary (c ∷ d ∷ t) w h = some_operator c d t w operators refl

module _ (s : List ℕ) (w : WellFormed s) where
  pub binary_short : length s ≤ 1 → false ≡ starts_with_binary_op (decode s)
  unfolding starts_with_binary_op
  binary_short h = sym (no_operator s w h operators refl)

  pub binary_one : (r : Bool) → 1 < length s → r ≡ (one_of operators (get_or s 0 0 ∷ []) && follows s 1) → r ≡ true → true ≡ starts_with_binary_op (decode s)
  binary_one r h e q = sym (binary s w h ∙ rw (← e, q))

  pub binary_pair : (r q : Bool) → 1 < length s → r ≡ (one_of operators (get_or s 0 0 ∷ []) && follows s 1) → r ≡ false
      → q ≡ (one_of operators (get_or s 0 0 ∷ get_or s 1 0 ∷ []) && follows s 2) → q ≡ starts_with_binary_op (decode s)
  binary_pair r q h e z f = f ∙ sym (binary s w h ∙ rw (← e, z))

  pub binary_other : 1 < length s → starts_operator (get_or s 0 0) ≡ false → false ≡ starts_with_binary_op (decode s)
  unfolding starts_operator
  binary_other h e = binary_pair false false h (rw (not_one operators (get_or s 0 0) [] e)) refl (rw (not_one operators (get_or s 0 0) (get_or s 1 0 ∷ []) e))

-- ---- continues

abbrev body : List ℕ → Bool → Bool
body line e =
    eqb (leading_closers line) 0
    && (starts_with_word line (codes "then")
    || (starts_with_word line (codes "else") && not e || (starts_with_binary_op (decode line) || at line "." && not (at line "..."))))

pub on_bytes : (f : List ℕ → Bool) → ((l : List ℕ) → f (encode l) ≡ f l) → (s : List ℕ) → WellFormed s → f (decode s) ≡ f s
on_bytes f e s w = sym (on_decode f f e s w)

module _ (line : List ℕ) (closers : ℕ) (pre : WellFormed line × Closers line closers) (e r : Bool) where
  continues_by : r ≡ body line e → Continues line e r
  unfolding continues
  continues_by p =
      record {
        is = λ prev q. p ∙ sym (rw (
          on_decode leading_closers leading_closers closers_encode line pre.0,
          q,
          on_bytes (λ l. starts_with_word l (codes "then")) (λ l. word_encode l (codes "then") refl) line pre.0,
          on_bytes (λ l. starts_with_word l (codes "else")) (λ l. word_encode l (codes "else") refl) line pre.0,
          on_bytes (λ l. at l ".") (λ l. starts_encode (codes ".") l refl) line pre.0,
          on_bytes (λ l. at l "...") (λ l. starts_encode (codes "...") l refl) line pre.0,
        ) (simp or_assoc));
      }

  pub continues_closers : (closers ≡ 0 → ⊥) → r ≡ false → Continues line e r
  continues_closers n q = continues_by (q ∙ sym (rw (← pre.1.is, ne_eqb closers 0 n)))

  -- the rest, where there are none
  pub continues_rest : closers ≡ 0
      → r ≡ (starts_with_word line (codes "then") || (starts_with_word line (codes "else") && not e || (starts_with_binary_op (decode line) || at line "." && not (at line "..."))))
      → Continues line e r
  continues_rest n q = continues_by (q ∙ sym (rw (← pre.1.is, n)))

-- ---- declarations

-- a line has one first character
first_apart : (l v w : List ℕ) (x y : ℕ) → eqb x y ≡ false → starts_with l (x ∷ v) ≡ true → starts_with l (y ∷ w) ≡ false
unfolding starts_with
first_apart [] v w x y d h = refl
first_apart (c ∷ cs) v w x y d h = rw (eqb-true c x (and_left (eqb c x) (starts_with cs v) h), d)

record Declares (l : List ℕ) (i o v : Bool) (d : Option Declaration) : Type 0 where
  in_word_law : at l "in " ≡ i
  out_word : at l "out " ≡ o
  var_word : at l "var " ≡ v
  is_word : declaration_of l ≡ d

data Word (l : List ℕ) : Type 0 where
  no_word : Declares l false false false None → Word l
  an_in : Declares l true false false (Some Declaration.In) → Word l
  an_out : Declares l false true false (Some Declaration.Out) → Word l
  a_var : Declares l false false true (Some Declaration.Var) → Word l

word : (l : List ℕ) → Word l
unfolding declaration_of choose
word l =
    by_test (at l "in ")
    (λ i. let o = first_apart l _ _ 105 111 refl i in let v = first_apart l _ _ 105 118 refl i in
    an_in (record { in_word_law = i; out_word = o; var_word = v; is_word = rw i }))
    (λ i. by_test (at l "out ")
    (λ o. let v = first_apart l _ _ 111 118 refl o in an_out (record { in_word_law = i; out_word = o; var_word = v; is_word = rw (i, o) }))
    (λ o. by_test (at l "var ")
    (λ v. a_var (record { in_word_law = i; out_word = o; var_word = v; is_word = rw (i, o, v) }))
    (λ v. no_word (record { in_word_law = i; out_word = o; var_word = v; is_word = rw (i, o, v) }))))

pub same_declaration_by : (a b : List ℕ) → same_declaration a b ≡ same_of (declaration_of a) (declaration_of b)
unfolding same_declaration
same_declaration_by a b = go (word a) (word b)
  where
    both : {i o v j p w : Bool} {d e : Option Declaration} → Declares a i o v d → Declares b j p w e → (i && j || o && p || v && w) ≡ same_of d e
        → same_declaration a b ≡ same_of (declaration_of a) (declaration_of b)
    both x y q = rw (x.is_word, y.is_word, x.in_word_law, x.out_word, x.var_word, y.in_word_law, y.out_word, y.var_word) q

    go : Word a → Word b → same_declaration a b ≡ same_of (declaration_of a) (declaration_of b)
    go (no_word x) (no_word y) = both x y refl
    go (no_word x) (an_in y) = both x y refl
    go (no_word x) (an_out y) = both x y refl
    go (no_word x) (a_var y) = both x y refl
    go (an_in x) (no_word y) = both x y refl
    go (an_in x) (an_in y) = both x y refl
    go (an_in x) (an_out y) = both x y refl
    go (an_in x) (a_var y) = both x y refl
    go (an_out x) (no_word y) = both x y refl
    go (an_out x) (an_in y) = both x y refl
    go (an_out x) (an_out y) = both x y refl
    go (an_out x) (a_var y) = both x y refl
    go (a_var x) (no_word y) = both x y refl
    go (a_var x) (an_in y) = both x y refl
    go (a_var x) (an_out y) = both x y refl
    go (a_var x) (a_var y) = both x y refl

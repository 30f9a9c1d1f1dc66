-- Laws of struck texts and of what is kept.
--     Like              two texts are the same but for white space
--     like_append       so are two that are put together of such parts
--     like_before, like_after, like_trim     white space more or less changes nothing
--     kept_like, kept_append, kept_then      `Kept` from `Like`, of parts put together, of one step after another
--     kept_from, kept_to                     after or before a change of white space
use Rattle.rules.specs.Options.{PrintWidth}
use Prim.Native.Nat.{ℕ, ◌+◌}
use mathlib.Core.Bool.{Bool, true, false, not}
use mathlib.Core.List.{List, [], ◌∷◌, ◌++◌, map, flatten, reverse_aux, append_assoc, append-nil}
use mathlib.Core.Path.{◌≡◌, refl, sym, ap, ◌∙◌}
use native.Mathlib.Omega.{arith}
use lib.ListN.{length, length-append}
use borrow.Author.Tests.{eqb-true}
use Rattle.utf8.specs.Unicode.{is_white, trim, trim_end}
use Rattle.utf8.proofs.Trim.{White, end_split, trim_split}
use Rattle.rules.specs.Basics.{choose, is, cons_if, keep, count}
use Rattle.rules.specs.Demand3.{strike_white, is_kept, strike, commas_in, Kept}

-- ---- characters that are kept, and counted

cons_if_append : (t : Bool) (c : ℕ) (l m : List ℕ) → cons_if t c (l ++ m) ≡ cons_if t c l ++ m
cons_if_append true c l m = refl
cons_if_append false c l m = refl

pub keep_append : (p : ℕ → Bool) (a b : List ℕ) → keep p (a ++ b) ≡ keep p a ++ keep p b
unfolding keep
keep_append p [] b = refl
keep_append p (c ∷ cs) b = ap (cons_if (p c) c) (keep_append p cs b) ∙ cons_if_append (p c) c (keep p cs) (keep p b)

-- what takes parts to parts takes equal parts to equal wholes
append_same : (f : List ℕ → List ℕ) → ((a b : List ℕ) → f (a ++ b) ≡ f a ++ f b) → (a b c d : List ℕ) → f a ≡ f b → f c ≡ f d
    → f (a ++ c) ≡ f (b ++ d)
append_same f h a b c d p q = h a c ∙ ap (λ (r : List ℕ). r ++ f c) p ∙ ap (λ (r : List ℕ). f b ++ r) q ∙ sym (h b d)

-- none is kept that is left out before
keep_keep : (p q : ℕ → Bool) → ((c : ℕ) → q c ≡ false → p c ≡ false) → (l : List ℕ) → keep p (keep q l) ≡ keep p l
unfolding keep
keep_keep p q h [] = refl
keep_keep p q h (c ∷ l) = go (q c) refl (keep_keep p q h l)
  where
    go : (t : Bool) → q c ≡ t → keep p (keep q l) ≡ keep p l → keep p (cons_if t c (keep q l)) ≡ cons_if (p c) c (keep p l)
    go true e k = ap (cons_if (p c) c) k
    go false e k = k ∙ sym (ap (λ (t : Bool). cons_if t c (keep p l)) (h c e))

pub count_keep : (p : ℕ → Bool) (l : List ℕ) → count p l ≡ length (keep p l)
unfolding count keep choose
count_keep p [] = refl
count_keep p (c ∷ l) = ap (λ (n : ℕ). choose (p c) 1 0 + n) (count_keep p l) ∙ go (p c)
  where
    go : (t : Bool) → choose t 1 0 + length (keep p l) ≡ length (cons_if t c (keep p l))
    go true = omega arith
    go false = omega arith

-- ---- the same but for white space

pub strike_white_append : (a b : List ℕ) → strike_white (a ++ b) ≡ strike_white a ++ strike_white b
unfolding strike_white
strike_white_append a b = keep_append (λ c. not (is_white c)) a b

strike_white_white : (w : List ℕ) → White w → strike_white w ≡ []
unfolding strike_white keep
strike_white_white [] h = refl
strike_white_white (c ∷ w) h = ap (λ (t : Bool). cons_if (not t) c (strike_white w)) h.0 ∙ strike_white_white w h.1

pub record Like (a b : List ℕ) : Type 0 where
  pub same : strike_white a ≡ strike_white b

pub like_eq : {a b : List ℕ} → a ≡ b → Like a b
like_eq e = record { same = ap strike_white e }

pub like_refl : (a : List ℕ) → Like a a
like_refl a = like_eq refl

pub like_sym : {a b : List ℕ} → Like a b → Like b a
like_sym p = record { same = sym p.same }

infixr 30 ◌then◌
pub ◌then◌ : {a b c : List ℕ} → Like a b → Like b c → Like a c
◌then◌ p q = record { same = p.same ∙ q.same }

pub like_append : {a b c d : List ℕ} → Like a b → Like c d → Like (a ++ c) (b ++ d)
like_append {a} {b} {c} {d} p q = record { same = append_same strike_white strike_white_append a b c d p.same q.same }

pub like_white : (w : List ℕ) → White w → Like w []
like_white w h = record { same = strike_white_white w h ∙ sym (strike_white_white [] tt) }

-- white space before a text, and after it
pub like_before : (w l : List ℕ) → White w → Like (w ++ l) l
like_before w l h = like_append (like_white w h) (like_refl l)

pub like_after : (w l : List ℕ) → White w → Like (l ++ w) l
like_after w l h = like_append (like_refl l) (like_white w h) then like_eq (append-nil l)

pub like_trim_end : (l : List ℕ) → Like (trim_end l) l
like_trim_end l = let r = end_split l in like_sym (like_eq r.2 then like_after r.0 (trim_end l) r.1)

pub like_trim : (l : List ℕ) → Like (trim l) l
like_trim l =
    let r = trim_split l in
    like_sym (like_eq r.4 then like_before r.0 (trim l ++ r.1) r.2 then like_after r.1 (trim l) r.3)

-- each line the same but for white space, so the whole
pub like_map : (f : List ℕ → List ℕ) → ((l : List ℕ) → Like (f l) l) → (ls : List (List ℕ)) → Like (flatten (map f ls)) (flatten ls)
unfolding flatten
like_map f h [] = like_refl []
like_map f h (l ∷ ls) = like_append (h l) (like_map f h ls)

-- ---- the characters of lines

pub flatten_append : (ls ms : List (List ℕ)) → flatten (ls ++ ms) ≡ flatten ls ++ flatten ms
unfolding flatten
flatten_append [] ms = refl
flatten_append (l ∷ ls) ms = ap (λ (r : List ℕ). l ++ r) (flatten_append ls ms) ∙ sym (append_assoc l (flatten ls) (flatten ms))

-- those of lines whose newest is first
unfoldable pub flatten_back : List (List ℕ) → List ℕ
flatten_back [] = []
flatten_back (l ∷ ls) = flatten_back ls ++ l

pub flatten_back_reverse : (ls acc : List (List ℕ)) → flatten_back (reverse_aux ls acc) ≡ flatten_back acc ++ flatten ls
unfolding flatten_back flatten
flatten_back_reverse [] acc = sym (append-nil (flatten_back acc))
flatten_back_reverse (l ∷ ls) acc = flatten_back_reverse ls (l ∷ acc) ∙ append_assoc (flatten_back acc) l (flatten ls)

pub flatten_reverse : (ls acc : List (List ℕ)) → flatten (reverse_aux ls acc) ≡ flatten_back ls ++ flatten acc
unfolding flatten_back flatten
flatten_reverse [] acc = refl
flatten_reverse (l ∷ ls) acc = flatten_reverse ls (l ∷ acc) ∙ sym (append_assoc (flatten_back ls) l (flatten acc))

-- ---- what is kept

pub strike_append : (a b : List ℕ) → strike (a ++ b) ≡ strike a ++ strike b
unfolding strike
strike_append a b = keep_append is_kept a b

commas_in_append : (a b : List ℕ) → commas_in (a ++ b) ≡ commas_in a + commas_in b
unfolding commas_in
commas_in_append a b =
    omega (
      arith,
      count_keep (is ",") (a ++ b),
      count_keep (is ",") a,
      count_keep (is ",") b,
      ap length (keep_append (is ",") a b),
      length-append (keep (is ",") a) (keep (is ",") b),
    )

-- characters none of which is white space are the same in two such texts
pub keep_like : (p : ℕ → Bool) → ((c : ℕ) → not (is_white c) ≡ false → p c ≡ false) → {a b : List ℕ} → Like a b → keep p a ≡ keep p b
unfolding strike_white
keep_like p h {a} {b} e =
    sym (keep_keep p (λ c. not (is_white c)) h a) ∙ ap (keep p) e.same ∙ keep_keep p (λ c. not (is_white c)) h b

strike_like : {a b : List ℕ} → Like a b → strike a ≡ strike b
unfolding strike
strike_like e = keep_like is_kept (λ c h. rw h) e

-- white space is no comma
white_no_comma : (c : ℕ) → not (is_white c) ≡ false → is "," c ≡ false
unfolding is_white
white_no_comma c h = go (is "," c) refl
  where
    go : (t : Bool) → is "," c ≡ t → t ≡ false
    go true e = sym (ap (λ (n : ℕ). not (is_white n)) (eqb-true c 44 e)) ∙ h
    go false e = refl

commas_in_like : {a b : List ℕ} → Like a b → commas_in a ≡ commas_in b
unfolding commas_in
commas_in_like {a} {b} e = count_keep (is ",") a ∙ ap length (keep_like (is ",") white_no_comma e) ∙ sym (count_keep (is ",") b)

module _ {w : PrintWidth} where
  pub kept_like : {s t : List ℕ} → Like t s → Kept w s t 0 0
  kept_like p = record { struck = strike_like p; unbroken = λ h. p.same; commas = ap (λ (n : ℕ). n + 0) (commas_in_like p) }

  -- one step after another
  pub kept_then : {s t u : List ℕ} {i b j d : ℕ} → Kept w s t i b → Kept w t u j d → Kept w s u (i + j) (b + d)
  kept_then p q =
      record {
        struck = q.struck ∙ p.struck;
        unbroken = λ h. q.unbroken h ∙ p.unbroken h;
        commas = omega (arith, p.commas, q.commas);
      }

  pub kept_append : {s t s' t' : List ℕ} {i b i' b' : ℕ}
      → Kept w s t i b → Kept w s' t' i' b' → Kept w (s ++ s') (t ++ t') (i + i') (b + b')
  kept_append {s} {t} {s'} {t'} p q =
      record {
        struck = append_same strike strike_append t s t' s' p.struck q.struck;
        unbroken = λ h. append_same strike_white strike_white_append t s t' s' (p.unbroken h) (q.unbroken h);
        commas = omega (arith, commas_in_append t t', commas_in_append s s', p.commas, q.commas);
      }

  -- other counts of the same difference
  pub kept_counts : {s t : List ℕ} {i b : ℕ} (j d : ℕ) → b + j ≡ d + i → Kept w s t i b → Kept w s t j d
  kept_counts j d e p = record { struck = p.struck; unbroken = p.unbroken; commas = omega (arith, p.commas) }

  -- white space changes on either side
  pub kept_from : {r s t : List ℕ} {i b : ℕ} → Like s r → Kept w s t i b → Kept w r t i b
  kept_from {i} {b} p q = kept_counts i b (omega arith) (kept_then (kept_like p) q)

  pub kept_to : {s t u : List ℕ} {i b : ℕ} → Like u t → Kept w s t i b → Kept w s u i b
  kept_to {i} {b} p q = kept_counts i b (omega arith) (kept_then q (kept_like p))

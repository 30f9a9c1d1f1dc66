-- Laws of trimming.
--     end_append                          what is trimmed of a joined text, by where its last other character stands
--     start_split, end_split, trim_split  a trimmed text is a part: what is left out is white space
--     end_twice, trim_trim_end             a trimmed text is trimmed
--     trim_swap                           the order of the two ends is free
use Prim.Native.Nat.{ℕ, ◌≤◌}
use mathlib.Core.Bool.{true, false}
use mathlib.Core.List.{List, [], ◌∷◌, ◌++◌, append-nil}
use mathlib.Core.Path.{◌≡◌, refl, sym, ap, ◌∙◌, subst}
use native.Mathlib.Omega.{arith}
use lib.ListN.{length, length-append}
use Rattle.utf8.specs.Unicode.{is_white, trim_start, cons_trimmed, trim_end, trim}
use Rattle.utf8.proofs.Tests.{by_test}

-- every character is white space
abbrev pub White : List ℕ → Type 0
White [] = Unit {0}
White (c ∷ cs) = (is_white c ≡ true) × White cs

pub white_append : (a b : List ℕ) → White a → White b → White (a ++ b)
white_append [] b v w = w
white_append (c ∷ a) b v w = (v.0, white_append a b v.1 w)

-- ---- at the start

pub start_white : (c : ℕ) (cs : List ℕ) → is_white c ≡ true → trim_start (c ∷ cs) ≡ trim_start cs
unfolding trim_start
start_white c cs e = rw e

pub start_other : (c : ℕ) (cs : List ℕ) → is_white c ≡ false → trim_start (c ∷ cs) ≡ c ∷ cs
unfolding trim_start
start_other c cs e = rw e

pub start_nil : trim_start [] ≡ []
unfolding trim_start
start_nil = refl

pub start_append_white : (a b : List ℕ) → White a → trim_start (a ++ b) ≡ trim_start b
start_append_white [] b w = refl
start_append_white (c ∷ a) b w = start_white c (a ++ b) w.0 ∙ start_append_white a b w.1

pub start_split : (l : List ℕ) → (w : List ℕ) × White w × (l ≡ w ++ trim_start l)
start_split [] = ([], tt, sym start_nil)
start_split (c ∷ cs) =
    by_test (is_white c)
    (λ w. let r = start_split cs in (c ∷ r.0, (w, r.1), ap {B = List ℕ} (λ l. c ∷ l) (r.2 ∙ ap {B = List ℕ} (λ l. r.0 ++ l) (sym (start_white c cs w)))))
    (λ w. ([], tt, sym (start_other c cs w)))

pub start_none : (l : List ℕ) → White l → trim_start l ≡ []
start_none l w = ap trim_start (sym (append-nil l)) ∙ start_append_white l [] w ∙ start_nil

pub length_trim_start : (l : List ℕ) → length (trim_start l) ≤ length l
length_trim_start l = let r = start_split l in omega (arith, ap length r.2, length-append r.0 (trim_start l))

-- ---- at the end

pub end_nil : trim_end [] ≡ []
unfolding trim_end
end_nil = refl

end_cons : (c : ℕ) (cs : List ℕ) → trim_end (c ∷ cs) ≡ cons_trimmed c (trim_end cs)
unfolding trim_end
end_cons c cs = refl

cons_some : (c d : ℕ) (a ds : List ℕ) → cons_trimmed c (a ++ (d ∷ ds)) ≡ c ∷ (a ++ (d ∷ ds))
unfolding cons_trimmed
cons_some c d [] ds = refl
cons_some c d (x ∷ a) ds = refl

cons_white : (c : ℕ) → is_white c ≡ true → cons_trimmed c [] ≡ []
unfolding cons_trimmed
cons_white c w = rw w

cons_other : (c : ℕ) (l : List ℕ) → is_white c ≡ false → cons_trimmed c l ≡ c ∷ l
unfolding cons_trimmed
cons_other c [] w = rw w
cons_other c (d ∷ l) w = refl

pub end_none : (l : List ℕ) → White l → trim_end l ≡ []
end_none [] w = end_nil
end_none (c ∷ l) w = end_cons c l ∙ rw (end_none l w.1, cons_white c w.0)

pub end_append_white : (a b : List ℕ) → White b → trim_end (a ++ b) ≡ trim_end a
end_append_white [] b w = end_none b w ∙ sym end_nil
end_append_white (c ∷ a) b w = end_cons c (a ++ b) ∙ ap (cons_trimmed c) (end_append_white a b w) ∙ sym (end_cons c a)

pub end_append : (a b : List ℕ) (d : ℕ) (ds : List ℕ) → trim_end b ≡ d ∷ ds → trim_end (a ++ b) ≡ a ++ (d ∷ ds)
end_append [] b d ds e = e
end_append (c ∷ a) b d ds e = end_cons c (a ++ b) ∙ ap (cons_trimmed c) (end_append a b d ds e) ∙ cons_some c d a ds

-- one character more
pub end_white : (c : ℕ) (cs : List ℕ) → is_white c ≡ true → trim_end (cs ++ (c ∷ [])) ≡ trim_end cs
end_white c cs w = end_append_white cs (c ∷ []) (w, tt)

pub end_other : (c : ℕ) (cs : List ℕ) → is_white c ≡ false → trim_end (cs ++ (c ∷ [])) ≡ cs ++ (c ∷ [])
end_other c cs w = end_append cs (c ∷ []) c [] (end_cons c [] ∙ rw end_nil (cons_other c [] w))

-- the first character, where it is no white space
pub end_first : (c : ℕ) (cs : List ℕ) → is_white c ≡ false → trim_end (c ∷ cs) ≡ c ∷ trim_end cs
end_first c cs w = end_cons c cs ∙ cons_other c (trim_end cs) w

pub end_split : (l : List ℕ) → (w : List ℕ) × White w × (l ≡ trim_end l ++ w)
end_split [] = ([], tt, sym (ap {B = List ℕ} (λ t. t ++ []) end_nil))
end_split (c ∷ cs) = let r = end_split cs in go (trim_end cs) refl r.0 r.1 r.2
  where
    go : (t : List ℕ) → trim_end cs ≡ t → (w : List ℕ) → White w → cs ≡ trim_end cs ++ w → (w : List ℕ) × White w × (c ∷ cs ≡ trim_end (c ∷ cs) ++ w)
    go (d ∷ ds) e w v q = (w, v, rw (end_cons c cs, e, cons_some c d [] ds) (ap {B = List ℕ} (λ l. c ∷ l) (rw e at q)))
    go [] e w v q =
        let z : cs ≡ w = rw e at q in
        by_test (is_white c) (λ y. (c ∷ w, (y, v), rw (end_cons c cs, e, cons_white c y) (ap {B = List ℕ} (λ l. c ∷ l) z)))
        (λ y. (w, v, rw (end_cons c cs, e, cons_other c [] y) (ap {B = List ℕ} (λ l. c ∷ l) z)))

pub end_twice : (l : List ℕ) → trim_end (trim_end l) ≡ trim_end l
end_twice l = let r = end_split l in sym (end_append_white (trim_end l) r.0 r.1) ∙ ap trim_end (sym r.2)

pub length_trim_end : (l : List ℕ) → length (trim_end l) ≤ length l
length_trim_end l = let r = end_split l in omega (arith, ap length r.2, length-append (trim_end l) r.0)

-- ---- at both ends

start_cons : (c : ℕ) (l : List ℕ) → is_white c ≡ true → trim_start (cons_trimmed c l) ≡ trim_start l
unfolding cons_trimmed
start_cons c [] w = rw w
start_cons c (d ∷ l) w = start_white c (d ∷ l) w

pub trim_swap : (l : List ℕ) → trim_start (trim_end l) ≡ trim_end (trim_start l)
trim_swap [] = ap trim_start end_nil ∙ start_nil ∙ sym (ap trim_end start_nil ∙ end_nil)
trim_swap (c ∷ cs) =
    by_test (is_white c) (λ w. ap trim_start (end_cons c cs) ∙ start_cons c (trim_end cs) w ∙ trim_swap cs ∙ ap trim_end (sym (start_white c cs w)))
    (λ w. ap trim_start (end_first c cs w) ∙ start_other c (trim_end cs) w ∙ sym (ap trim_end (start_other c cs w) ∙ end_first c cs w))

pub trim_trim_end : (l : List ℕ) → trim_end (trim l) ≡ trim l
unfolding trim
trim_trim_end l = end_twice (trim_start l)

pub trim_split : (l : List ℕ) → (v : List ℕ) × (w : List ℕ) × White v × White w × (l ≡ v ++ (trim l ++ w))
unfolding trim
trim_split l =
    let r = start_split l in
    let q = end_split (trim_start l) in
    (r.0, q.0, r.1, q.1, r.2 ∙ ap {B = List ℕ} (λ t. r.0 ++ t) q.2)

pub trim_none : (l : List ℕ) → White l → trim l ≡ []
unfolding trim
trim_none l w = ap trim_end (start_none l w) ∙ end_nil

pub trim_empty : (l : List ℕ) → trim l ≡ [] → White l
trim_empty l e =
    let r = trim_split l in
    let q : l ≡ r.0 ++ r.1 = r.4 ∙ rw e in
    subst White (sym q) (white_append r.0 r.1 r.2 r.3)

pub length_trim : (l : List ℕ) → length (trim l) ≤ length l
unfolding trim
length_trim l = omega (arith, length_trim_end (trim_start l), length_trim_start l)

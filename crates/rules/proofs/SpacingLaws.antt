-- Spacing changes white space only.
use Prim.Native.Nat.{ℕ}
use mathlib.Core.Bool.{Bool, true, false, ◌||◌}
use mathlib.Core.List.{List, [], ◌∷◌, ◌++◌, foldl, append_assoc, append-nil}
use mathlib.Core.Path.{◌≡◌, refl, sym, ap}
use borrow.Author.Tests.{eqb-true}
use Rattle.utf8.specs.Unicode.{is_white}
use Rattle.utf8.proofs.Tests.{and_left, and_right}
use Rattle.utf8.proofs.Trim.{White}
use Rattle.rules.specs.Basics.{is, codes, is_blank}
use Rattle.rules.specs.Options.{all_blank}
use Rattle.rules.specs.Scan.{Cell, chars_of, is_code}
use Rattle.rules.specs.Spacing.{Spaced, spaced, cons_blank, trim_blanks, put_plain, put_after_comma, put_at, space_step, normalize_spacing}
use Rattle.rules.specs.declared.Gap.{Gap}
use Rattle.rules.proofs.Choose.{choose_case}
use Rattle.rules.proofs.Struck.{Like, like_eq, like_refl, like_sym, ◌then◌, like_append, like_after}

-- ---- spaces and tabs are white space

pub blank_white : (c : ℕ) → is_blank c ≡ true → is_white c ≡ true
unfolding is_white
blank_white c h = go (is " " c) refl h
  where
    go : (t : Bool) → is " " c ≡ t → (t || is "\t" c) ≡ true → is_white c ≡ true
    go true e k = ap is_white (eqb-true c 32 e)
    go false e k = ap is_white (eqb-true c 9 k)

pub all_white : (l : List ℕ) → all_blank l ≡ true → White l
unfolding all_blank
all_white [] h = tt
all_white (c ∷ l) h = (blank_white c (and_left (is_blank c) (all_blank l) h), all_white l (and_right (is_blank c) (all_blank l) h))

like_cons_blank : (c : ℕ) (l : List ℕ) → Like (cons_blank c l) (c ∷ l)
unfolding cons_blank
like_cons_blank c [] =
    choose_case (λ (r : List ℕ). Like r (c ∷ [])) (λ h. like_sym (like_after (c ∷ []) [] (blank_white c h, tt))) (λ h. like_refl (c ∷ []))
like_cons_blank c (d ∷ l) = like_refl (c ∷ d ∷ l)

like_trim_blanks : (l : List ℕ) → Like (trim_blanks l) l
unfolding trim_blanks
like_trim_blanks [] = like_refl []
like_trim_blanks (c ∷ l) = like_cons_blank c (trim_blanks l) then like_append (like_refl (c ∷ [])) (like_trim_blanks l)

-- ---- one step, and all

abbrev Adds : List ℕ → Cell → Spaced → Type 0
Adds out x r = Like r.out (out ++ (x.ch ∷ []))

add_plain : (out : List ℕ) (x : Cell) → Adds out x (put_plain out x)
unfolding put_plain
add_plain out x =
    let plain : Like (out ++ (x.ch ∷ [])) (out ++ (x.ch ∷ [])) = like_refl (out ++ (x.ch ∷ [])) in
    choose_case (Adds out x)
    (λ h. choose_case (Adds out x) (λ i. plain)
    (λ i. choose_case (Adds out x) (λ j. like_append (like_trim_blanks out) (like_refl (x.ch ∷ [])))
    (λ j. choose_case (Adds out x) (λ k. plain) (λ k. plain))))
    (λ h. plain)

-- a space before the character
space_before : (out : List ℕ) (x : Cell) → Adds out x (put_plain (out ++ codes " ") x)
unfolding is_white
space_before out x = add_plain (out ++ codes " ") x then like_append (like_after (codes " ") out (refl, tt)) (like_refl (x.ch ∷ []))

-- a blank left out
gone : (out : List ℕ) (c : ℕ) → is_blank c ≡ true → Like out (out ++ (c ∷ []))
gone out c h = like_sym (like_after (c ∷ []) out (blank_white c h, tt))

add_at : (g : Gap) (out : List ℕ) (x : Cell) → Adds out x (put_at g out x)
unfolding put_at put_after_comma
add_at Gap.Nothing out x = add_plain out x
add_at Gap.Escape out x = like_refl (out ++ (x.ch ∷ []))
add_at Gap.Comma out x =
    choose_case (Adds out x) (λ h. gone out x.ch (and_right (is_code x.class) (is_blank x.ch) h))
    (λ h. choose_case (Adds out x) (λ i. add_plain out x) (λ i. space_before out x))
add_at Gap.Space out x = choose_case (Adds out x) (λ h. gone out x.ch (ap (λ (t : Bool). t || is "\t" x.ch) h)) (λ h. add_plain out x)

like_spaced : (t : Spaced) (cells : List Cell) → Like (foldl space_step t cells).out (t.out ++ chars_of cells)
unfolding chars_of
like_spaced t [] = like_eq (sym (append-nil t.out))
like_spaced t (x ∷ xs) =
    like_spaced (space_step t x) xs then like_append (add_at t.gap t.out x) (like_refl (chars_of xs))
    then like_eq (append_assoc t.out (x.ch ∷ []) (chars_of xs))

pub like_spacing : (cells : List Cell) → Like (normalize_spacing cells) (chars_of cells)
unfolding normalize_spacing
like_spacing cells = like_spaced (spaced [] Gap.Nothing) cells

-- Laws of a respaced line.
--     scalars_spaced      it consists of scalar values where the line does
--     SpacedBytes         its bytes, and the characters that they read as
--     spaced_trimmed      a trimmed line stays trimmed, and does not become empty
--     brackets_height     the stack gets no higher than the line has openers; height_spaced: than it has characters
use Prim.Native.Nat.{ℕ, zero, suc, ◌+◌, ◌≤◌}
use native.Mathlib.Omega.{arith}
use mathlib.Core.Bool.{Bool, true, false, not, ◌||◌}
use mathlib.Core.List.{List, [], ◌∷◌, ◌++◌, foldl}
use mathlib.Core.Path.{◌≡◌, refl, sym, ap, ◌∙◌, subst}
use lib.ListN.{length, drop, length-append, length-drop}
use borrow.Author.Tests.{not-false, eqb-true}
use Rattle.utf8.specs.Unicode.{Scalars, encode_char, encode, decode, WellFormed, is_white, cons_trimmed, trim_end}
use Rattle.utf8.proofs.Tests.{and_right}
use Rattle.utf8.proofs.Table.{Bytes, single, several, bytes}
use Rattle.utf8.proofs.Decode.{decode_encode, decode_scalars, wf_encode}
use Rattle.utf8.proofs.Trim.{end_other}
use Rattle.rules.specs.Basics.{choose, is, codes, is_blank, is_opener, is_empty, count}
use Rattle.rules.specs.Scan.{Cell, is_code, chars_of, classify}
use Rattle.rules.specs.ClassBytes.{class_bytes, cells_of}
use Rattle.rules.specs.Spacing.{Spaced, spaced, trim_blanks, put_plain, put_after_comma, put_at, space_step, normalize_spacing, respaced}
use Rattle.rules.specs.Brackets.{Entry, Open, opened, push, pop_from, bracket_step, scan_brackets, count_brackets}
use Rattle.rules.specs.Demand3.{strike_white}
use Rattle.rules.specs.declared.Carry.{Carry}
use Rattle.rules.specs.declared.Gap.{Gap}
use Rattle.rules.proofs.Choose.{choose_case}
use Rattle.rules.proofs.ScanBytes.{chars_classify}
use Rattle.rules.proofs.CellsLaws.{cells_bytes}
use Rattle.rules.proofs.SpacingBytes.{spacing_encode}
use Rattle.rules.proofs.Struck.{count_keep, keep_like}
use Rattle.rules.proofs.SpacingLaws.{blank_white, like_spacing}
use Rattle.rules.proofs.CallLaws.{white_scalar, keep_scalars, scalars_keep}

-- ---- its characters

pub scalars_spaced : (cells : List Cell) → Scalars (chars_of cells) → Scalars (normalize_spacing cells)
unfolding strike_white
scalars_spaced cells s =
    scalars_keep (λ c. not (is_white c)) (λ c h. white_scalar c (not-false (is_white c) h)) (normalize_spacing cells)
    (subst Scalars (sym (like_spacing cells).same) (keep_scalars (λ c. not (is_white c)) (chars_of cells) s))

pub scalars_respaced : (l : List ℕ) → Scalars l → Scalars (respaced l)
scalars_respaced l s = scalars_spaced (classify Carry.Code l) (subst Scalars (sym (chars_classify Carry.Code l)) s)

-- ---- its bytes

pub record SpacedBytes (line : List ℕ) : Type 0 where
  pub bytes : normalize_spacing (cells_of line (class_bytes (classify Carry.Code line))) ≡ encode (respaced (decode line))
  pub well : WellFormed (encode (respaced (decode line)))
  pub chars : decode (encode (respaced (decode line))) ≡ respaced (decode line)

pub spaced_bytes : (line : List ℕ) → WellFormed line → SpacedBytes line
spaced_bytes line w =
    let s : Scalars (respaced (decode line)) = scalars_respaced (decode line) (decode_scalars line) in
    record {
      bytes = ap normalize_spacing (cells_bytes Carry.Code line w) ∙ spacing_encode (classify Carry.Code (decode line));
      well = wf_encode (respaced (decode line)) s;
      chars = decode_encode (respaced (decode line)) s;
    }

-- ---- its last character

-- the text ends in c
abbrev Ends : ℕ → Spaced → Type 0
Ends c t = (o : List ℕ) × (t.out ≡ o ++ (c ∷ []))

plain_ends : (o : List ℕ) (x : Cell) → Ends x.ch (put_plain o x)
unfolding put_plain
plain_ends o x =
    choose_case (Ends x.ch)
    (λ h. choose_case (Ends x.ch) (λ i. (o, refl))
    (λ i. choose_case (Ends x.ch) (λ j. (trim_blanks o, refl))
    (λ j. choose_case (Ends x.ch) (λ k. (o, refl)) (λ k. (o, refl)))))
    (λ h. (o, refl))

-- a character that is left out is a blank, so white space
not_gone : (c : ℕ) → is_white c ≡ false → is_blank c ≡ true → ⊥
not_gone c w h = let z : ◌≡◌ {A = Bool} true false = sym (blank_white c h) ∙ w in let y : ◌≡◌ {A = ℕ} 0 1 = cc in omega arith

step_ends : (g : Gap) (o : List ℕ) (x : Cell) → is_white x.ch ≡ false → Ends x.ch (put_at g o x)
unfolding put_at put_after_comma
step_ends Gap.Nothing o x w = plain_ends o x
step_ends Gap.Escape o x w = (o, refl)
step_ends Gap.Comma o x w =
    choose_case (Ends x.ch) (λ h. absurd (not_gone x.ch w (and_right (is_code x.class) (is_blank x.ch) h)))
    (λ h. choose_case (Ends x.ch) (λ i. plain_ends o x) (λ i. plain_ends (o ++ codes " ") x))
step_ends Gap.Space o x w =
    choose_case (Ends x.ch) (λ h. absurd (not_gone x.ch w (ap (λ (t : Bool). t || is "\t" x.ch) h))) (λ h. plain_ends o x)

-- a text that ends in other than white space
pub record Solid (l : List ℕ) : Type 0 where
  pub trimmed : trim_end l ≡ l
  pub some : is_empty l ≡ false

solid_ends : (c : ℕ) (t : Spaced) → is_white c ≡ false → Ends c t → Solid t.out
solid_ends c t w e = subst Solid (sym e.1) (record { trimmed = end_other c e.0 w; some = some e.0 })
  where
    some : (o : List ℕ) → is_empty (o ++ (c ∷ [])) ≡ false
    some [] = refl
    some (d ∷ o) = refl

solid_one : (c : ℕ) → trim_end (c ∷ []) ≡ c ∷ [] → is_white c ≡ false
unfolding trim_end cons_trimmed
solid_one c e = go (is_white c) refl
  where
    go : (b : Bool) → is_white c ≡ b → b ≡ false
    go true h = let z : ◌≡◌ {A = List ℕ} [] (c ∷ []) = rw h at e in cc
    go false h = refl

cons_rest : (c d : ℕ) (l t : List ℕ) → cons_trimmed c t ≡ c ∷ d ∷ l → t ≡ d ∷ l
unfolding cons_trimmed
cons_rest c d l [] h = absurd (none (is_white c) refl)
  where
    none : (b : Bool) → is_white c ≡ b → ⊥
    none true k = let z : ◌≡◌ {A = List ℕ} [] (c ∷ d ∷ l) = rw k at h in omega (arith, ap length z)
    none false k = let z : ◌≡◌ {A = List ℕ} (c ∷ []) (c ∷ d ∷ l) = rw k at h in omega (arith, ap length z)
cons_rest c d l (b ∷ t) h = cc

solid_rest : (c d : ℕ) (l : List ℕ) → trim_end (c ∷ d ∷ l) ≡ c ∷ d ∷ l → trim_end (d ∷ l) ≡ d ∷ l
unfolding trim_end
solid_rest c d l e = cons_rest c d l (trim_end (d ∷ l)) e

fold_solid : (t : Spaced) (cells : List Cell) → trim_end (chars_of cells) ≡ chars_of cells → is_empty (chars_of cells) ≡ false
    → Solid (foldl space_step t cells).out
unfolding chars_of
fold_solid t [] e n = let z : ◌≡◌ {A = Bool} true false = n in let y : ◌≡◌ {A = ℕ} 0 1 = cc in absurd (omega arith)
fold_solid t (x ∷ []) e n =
    let w : is_white x.ch ≡ false = solid_one x.ch e in
    solid_ends x.ch (space_step t x) w (step_ends t.gap t.out x w)
fold_solid t (x ∷ y ∷ ys) e n = fold_solid (space_step t x) (y ∷ ys) (solid_rest x.ch y.ch (chars_of ys) e) refl

spaced_solid : (l : List ℕ) → trim_end l ≡ l → is_empty l ≡ false → Solid (respaced l)
unfolding normalize_spacing
spaced_solid l e n =
    let k : l ≡ chars_of (classify Carry.Code l) = sym (chars_classify Carry.Code l) in
    fold_solid (spaced [] Gap.Nothing) (classify Carry.Code l) (subst (λ (s : List ℕ). trim_end s ≡ s) k e)
    (subst (λ (s : List ℕ). is_empty s ≡ false) k n)

pub spaced_trimmed : (l : List ℕ) → trim_end l ≡ l → is_empty l ≡ false → (trim_end (respaced l) ≡ respaced l) × (is_empty (respaced l) ≡ false)
spaced_trimmed l e n = let r = spaced_solid l e n in (r.trimmed, r.some)

-- ---- the height of the stack

push_height : (o : Open) → length (push o).stack ≤ suc (length o.stack)
unfolding push
push_height o = omega arith

pop_height : (stack : List Entry) (o : Open) → length (pop_from stack o).stack ≤ length stack
unfolding pop_from
pop_height [] o = omega arith
pop_height (e ∷ stack) o = omega arith

step_height : (o : Open) (x : Cell) (n : ℕ) → (is_opener x.ch ≡ true → 1 ≤ n) → length (bracket_step o x).stack ≤ length o.stack + n
unfolding bracket_step
step_height o x n f =
    let P : Open → Type 0 = λ r. length r.stack ≤ length o.stack + n in
    choose_case P (λ h. omega arith)
    (λ h. choose_case P (λ i. omega arith)
    (λ i. choose_case P (λ j. omega arith)
    (λ j. choose_case P (λ k. omega (arith, f k, push_height o))
    (λ k. choose_case P (λ m. omega (arith, pop_height o.stack o)) (λ m. omega arith)))))

fold_height : (cells : List Cell) (o : Open) → length (foldl bracket_step o cells).stack ≤ length o.stack + count is_opener (chars_of cells)
unfolding chars_of count choose
fold_height [] o = omega arith
fold_height (x ∷ xs) o =
    let one : is_opener x.ch ≡ true → 1 ≤ choose (is_opener x.ch) 1 0 = λ h. omega (arith, ap {B = ℕ} (λ (b : Bool). choose b 1 0) h) in
    let s = step_height o x (choose (is_opener x.ch) 1 0) one in
    omega (arith, s, fold_height xs (bracket_step o x))

pub brackets_height : (k : ℕ) (cells : List Cell) (stack : List Entry) → length (scan_brackets k cells stack) ≤ length stack + count is_opener (chars_of cells)
unfolding scan_brackets
brackets_height k cells stack = fold_height cells (opened k 0 0 false stack)

-- white space is no opener
white_no_opener : (c : ℕ) → not (is_white c) ≡ false → is_opener c ≡ false
unfolding is_white
white_no_opener c h = go (is "{" c) (is "(" c) (is "[" c) refl refl refl
  where
    no : (k : ℕ) → not (is_white k) ≡ true → c ≡ k → ⊥
    no k w e = let z : ◌≡◌ {A = Bool} true false = sym w ∙ sym (ap (λ (n : ℕ). not (is_white n)) e) ∙ h in let y : ◌≡◌ {A = ℕ} 0 1 = cc in omega arith

    go : (a b d : Bool) → is "{" c ≡ a → is "(" c ≡ b → is "[" c ≡ d → (a || b || d) ≡ false
    go true b d p q r = absurd (no 123 refl (eqb-true c 123 p))
    go false true d p q r = absurd (no 40 refl (eqb-true c 40 q))
    go false false true p q r = absurd (no 91 refl (eqb-true c 91 r))
    go false false false p q r = refl

pub openers_spaced : (cells : List Cell) → count is_opener (normalize_spacing cells) ≡ count is_opener (chars_of cells)
openers_spaced cells =
    count_keep is_opener (normalize_spacing cells) ∙ ap length (keep_like is_opener white_no_opener (like_spacing cells))
    ∙ sym (count_keep is_opener (chars_of cells))

pub count_length : (p : ℕ → Bool) (l : List ℕ) → count p l ≤ length l
unfolding count
count_length p [] = omega arith
count_length p (c ∷ l) =
    let r = count_length p l in
    choose_case (λ (n : ℕ). n + count p l ≤ suc (length l)) (λ h. omega arith) (λ h. omega arith)

-- those after the first n
pub count_drop : (p : ℕ → Bool) (n : ℕ) (cells : List Cell) → count p (chars_of (drop n cells)) ≤ count p (chars_of cells)
unfolding count chars_of
count_drop p zero cells = omega arith
count_drop p (suc n) [] = omega arith
count_drop p (suc n) (x ∷ xs) = omega (arith, count_drop p n xs)

pub count_height : (k n : ℕ) (cells : List Cell) (stack : List Entry) → length (count_brackets k n cells stack) ≤ length stack + count is_opener (chars_of cells)
unfolding count_brackets
count_height k n cells stack =
    omega (arith, brackets_height k (drop n cells) (drop n stack), count_drop is_opener n cells, length-drop n stack)

pub height_spaced : (k : ℕ) (l : List ℕ) (n : ℕ) (stack : List Entry)
    → length (count_brackets k n (classify Carry.Code (respaced l)) stack) ≤ length stack + length l
height_spaced k l n stack =
    let e : count is_opener (chars_of (classify Carry.Code (respaced l))) ≡ count is_opener l =
    ap (count is_opener) (chars_classify Carry.Code (respaced l)) ∙ openers_spaced (classify Carry.Code l)
    ∙ ap (count is_opener) (chars_classify Carry.Code l)
    in
    omega (arith, e, count_height k n (classify Carry.Code (respaced l)) stack, count_length is_opener l)

-- a character has one byte or more
char_some : (c : ℕ) (bs : List ℕ) → Bytes c bs → 1 ≤ length bs
char_some c bs (single h) = omega arith
char_some c bs (several hc hb hs) = omega arith

pub length_size : (l : List ℕ) → length l ≤ length (encode l)
unfolding encode
length_size [] = omega arith
length_size (c ∷ l) =
    omega (arith, length_size l, char_some c (encode_char c) (bytes c), length-append (encode_char c) (encode l))

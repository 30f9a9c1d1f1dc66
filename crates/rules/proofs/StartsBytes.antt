-- Tests of a text, made on its UTF-8 bytes: a character below 80 hex is its own byte, and every byte of another is 80
-- hex or more.
--     on_decode                     a law on encode l, for a well-formed list of bytes
--     Steady                        a test that tells no two characters from 80 hex on apart
--     starts_encode, starts_cons    starts_with, for an ASCII text; and after a first character of its own
--     drop_ascii, take_ascii        an ASCII front: as many bytes as characters
--     drop_starts, starts_column    the same after starts_with
--     first_encode, last_encode, then_encode, empty_encode, same_encode     the tests of Basics
--     leading_encode, leading_ascii as many first bytes as characters pass a test of ASCII characters
--     closers_encode                leading closers
use Prim.Native.Nat.{ℕ, zero, suc, ◌<◌, ◌≤◌}
use Prim.Native.Char.{Char, code}
use native.Mathlib.Omega.{arith}
use mathlib.Core.Bool.{Bool, true, false, not, ◌&&◌, ◌||◌, and-false}
use mathlib.Core.List.{List, [], ◌∷◌, ◌++◌, append-nil}
use mathlib.Core.Path.{◌≡◌, refl, sym, ap, subst, ◌∙◌}
use lib.Dec.{eqb, ltb}
use lib.ListN.{length, take, drop, take-append-drop}
use borrow.Author.Tests.{ne_eqb, eqb-true, ltb-true, ltb-false, lt-leb}
use Rattle.utf8.specs.Unicode.{Scalars, encode_char, encode, decode, WellFormed}
use Rattle.utf8.specs.Places.{Column}
use Rattle.utf8.proofs.Tests.{by_test, and_left, and_right}
use Rattle.utf8.proofs.Table.{encode_char_1, High, none, also, Bytes, single, several, bytes}
use Rattle.utf8.proofs.Decode.{encode_nil, scalars_right, decode_scalars, decode_encode, wf_encode}
use Rattle.rules.specs.Basics.{choose, is, is_blank, is_opener, is_closer, is_ident, is_empty, same, starts_with, first_is, last_is, starts_then, leading}
use Rattle.rules.specs.Brackets.{leading_closers}
use Rattle.rules.proofs.Choose.{choose_case}

pub on_decode {ℓ} : {A : Type ℓ} (f g : List ℕ → A) → ((l : List ℕ) → f (encode l) ≡ g l) → (s : List ℕ) → WellFormed s → f s ≡ g (decode s)
on_decode f g e s w = ap f (sym w) ∙ e (decode s)

pub choose_map {ℓ κ} : {A : Type ℓ} {B : Type κ} (f : A → B) (b : Bool) (x y : A) → f (choose b x y) ≡ choose b (f x) (f y)
unfolding choose
choose_map f true x y = refl
choose_map f false x y = refl

pub choose_both {ℓ} : {A : Type ℓ} (b : Bool) (x : A) → choose b x x ≡ x
unfolding choose
choose_both true x = refl
choose_both false x = refl

-- all characters are below 80 hex
abbrev pub all_ascii : List ℕ → Bool
all_ascii [] = true
all_ascii (c ∷ cs) = ltb c 0x80 && all_ascii cs

-- a text that is not empty has a first byte
pub encode_some : (c : ℕ) (cs : List ℕ) → (b : ℕ) × (s : List ℕ) × (encode (c ∷ cs) ≡ b ∷ s)
unfolding encode
encode_some c cs = go (encode_char c) (bytes c)
  where
    go : (bs : List ℕ) → Bytes c bs → (b : ℕ) × (s : List ℕ) × (bs ++ encode cs ≡ b ∷ s)
    go bs (single h) = (c, encode cs, refl)
    go bs (several {b = b} {bs = bs'} hc hb hs) = (b, bs' ++ encode cs, refl)

-- ---- tests of one character

-- f gives v for every character from 80 hex on, and so for each byte of one
abbrev pub Steady : {A : Type 0} → (ℕ → A) → A → Type 0
Steady f v = (b : ℕ) → 0x80 ≤ b → f b ≡ v

pub not_ascii : (b k : ℕ) → 0x80 ≤ b → ltb k 0x80 ≡ true → eqb b k ≡ false
not_ascii b k h l = let m : k < 0x80 = ltb-true k 0x80 l in ne_eqb b k (omega arith)

pub steady_is : (k : Char) → ltb (code k) 0x80 ≡ true → Steady (is k) false
steady_is k l b h = not_ascii b (code k) h l

pub steady_blank : Steady is_blank false
steady_blank b h = simp (not_ascii b)

pub steady_opener : Steady is_opener false
steady_opener b h = simp (not_ascii b)

pub steady_closer : Steady is_closer false
steady_closer b h = simp (not_ascii b)

pub steady_ident : Steady is_ident false
unfolding is_ident
steady_ident b h = simp (not_ascii b, and-false, lt-leb b 57 (omega arith), lt-leb b 90 (omega arith), lt-leb b 122 (omega arith))

pub steady_not : (p : ℕ → Bool) (v : Bool) → Steady p v → Steady (λ c. not (p c)) (not v)
steady_not p v f b h = ap not (f b h)

-- a character that passes such a test
pub low_of : (p : ℕ → Bool) → Steady p false → (c : ℕ) → p c ≡ true → ltb c 0x80 ≡ true
low_of p f c h = by_test (ltb c 0x80) (λ e. e) (λ e. let z : p c ≡ false = f c (ltb-false c 0x80 e) in cc)

-- ---- the first characters

pub starts_encode : (w l : List ℕ) → all_ascii w ≡ true → starts_with (encode l) w ≡ starts_with l w
unfolding starts_with encode
starts_encode [] l a = refl
starts_encode (w ∷ ws) [] a = refl
starts_encode (w ∷ ws) (c ∷ cs) a = go (encode_char c) (bytes c) (starts_encode ws cs (and_right (ltb w 0x80) (all_ascii ws) a))
  where
    k : ltb w 0x80 ≡ true
    k = and_left (ltb w 0x80) (all_ascii ws) a

    go : (bs : List ℕ) → Bytes c bs → starts_with (encode cs) ws ≡ starts_with cs ws → starts_with (bs ++ encode cs) (w ∷ ws) ≡ starts_with (c ∷ cs) (w ∷ ws)
    go bs (single h) e = rw e
    go bs (several {b = b} hc hb hs) e = rw (not_ascii b w hb k, not_ascii c w hc k)

-- the same for bytes of which the first is a character
pub starts_cons : (c : ℕ) (cs w : List ℕ) → all_ascii w ≡ true → starts_with (c ∷ encode cs) w ≡ starts_with (c ∷ cs) w
unfolding starts_with
starts_cons c cs [] a = refl
starts_cons c cs (w ∷ ws) a = rw (starts_encode ws cs (and_right (ltb w 0x80) (all_ascii ws) a))

-- ---- an ASCII text at the front: as many bytes as characters

pub drop_ascii : (n : ℕ) (l : List ℕ) → all_ascii (take n l) ≡ true → drop n (encode l) ≡ encode (drop n l)
unfolding encode
drop_ascii zero l a = refl
drop_ascii (suc n) [] a = refl
drop_ascii (suc n) (c ∷ cs) a =
    rw (encode_char_1 c (ltb-true c 0x80 (and_left (ltb c 0x80) (all_ascii (take n cs)) a))) (drop_ascii n cs (and_right (ltb c 0x80) (all_ascii (take n cs)) a))

pub take_ascii : (n : ℕ) (l : List ℕ) → all_ascii (take n l) ≡ true → take n (encode l) ≡ take n l
unfolding encode
take_ascii zero l a = refl
take_ascii (suc n) [] a = refl
take_ascii (suc n) (c ∷ cs) a =
    rw (encode_char_1 c (ltb-true c 0x80 (and_left (ltb c 0x80) (all_ascii (take n cs)) a)), take_ascii n cs (and_right (ltb c 0x80) (all_ascii (take n cs)) a))

pub starts_ascii : (w l : List ℕ) → all_ascii w ≡ true → starts_with l w ≡ true → all_ascii (take (length w) l) ≡ true
unfolding starts_with
starts_ascii [] l a h = refl
starts_ascii (w ∷ ws) [] a h = refl
starts_ascii (w ∷ ws) (c ∷ cs) a h =
    rw (
      eqb-true c w (and_left (eqb c w) (starts_with cs ws) h),
      and_left (ltb w 0x80) (all_ascii ws) a,
      starts_ascii ws cs (and_right (ltb w 0x80) (all_ascii ws) a) (and_right (eqb c w) (starts_with cs ws) h),
    )

pub starts_length : (w l : List ℕ) → starts_with l w ≡ true → length w ≤ length l
unfolding starts_with
starts_length [] l h = omega arith
starts_length (w ∷ ws) [] h = absurd (let z : ◌≡◌ {A = ℕ} 0 1 = cc in omega arith)
starts_length (w ∷ ws) (c ∷ cs) h = let r = starts_length ws cs (and_right (eqb c w) (starts_with cs ws) h) in omega arith

pub drop_starts : (w l : List ℕ) → all_ascii w ≡ true → starts_with l w ≡ true → drop (length w) (encode l) ≡ encode (drop (length w) l)
drop_starts w l a h = drop_ascii (length w) l (starts_ascii w l a h)

-- in a well-formed list: what follows it is well-formed, and its characters are those that follow
pub starts_column : (w s : List ℕ) → all_ascii w ≡ true → WellFormed s → starts_with s w ≡ true → Column s (length w) (length w)
starts_column w s a v h =
    let l : List ℕ = decode s in
    let n : ℕ = length w in
    let k : Scalars (drop n l) = scalars_right (take n l) (drop n l) (subst Scalars (sym (take-append-drop n l)) (decode_scalars s)) in
    let e : drop n s ≡ encode (drop n l) =
    ap (drop n) (sym v) ∙ drop_starts w l a (sym (starts_encode w l a) ∙ ap (λ (t : List ℕ). starts_with t w) v ∙ h)
    in
    record { fits = starts_length w s h; well = rw e (wf_encode (drop n l) k); text = rw e (decode_encode (drop n l) k) }

-- ---- what follows it

pub first_encode : (p : ℕ → Bool) (v : Bool) → Steady p v → (l : List ℕ) → first_is p (encode l) ≡ first_is p l
unfolding first_is encode
first_encode p v f [] = refl
first_encode p v f (c ∷ cs) = go (encode_char c) (bytes c)
  where
    go : (bs : List ℕ) → Bytes c bs → first_is p (bs ++ encode cs) ≡ p c
    go bs (single h) = refl
    go bs (several {b = b} hc hb hs) = f b hb ∙ sym (f c hc)

pub empty_encode : (l : List ℕ) → is_empty (encode l) ≡ is_empty l
empty_encode [] = rw encode_nil
empty_encode (c ∷ cs) = rw (encode_some c cs).2

pub then_encode : (w : List ℕ) (p : ℕ → Bool) (v end : Bool) → all_ascii w ≡ true → Steady p v → (l : List ℕ) → starts_then w p end (encode l) ≡ starts_then w p end l
unfolding starts_then
then_encode w p v end a f l = rw (starts_encode w l a) (go (starts_with l w) refl)
  where
    go : (t : Bool) → starts_with l w ≡ t
        → (t && (first_is p (drop (length w) (encode l)) || (is_empty (drop (length w) (encode l)) && end)))
        ≡ (t && (first_is p (drop (length w) l) || (is_empty (drop (length w) l) && end)))
    go true h = rw (drop_starts w l a h, first_encode p v f (drop (length w) l), empty_encode (drop (length w) l))
    go false h = refl

-- ---- the last character

-- what stands before a text that is not empty doesn't matter
last_cons : (p : ℕ → Bool) (b : ℕ) (s : List ℕ) → is_empty s ≡ false → last_is p (b ∷ s) ≡ last_is p s
unfolding last_is
last_cons p b [] e = absurd (let z : ◌≡◌ {A = ℕ} 0 1 = cc in omega arith)
last_cons p b (c ∷ s) e = refl

pub last_after : (p : ℕ → Bool) (bs s : List ℕ) → is_empty s ≡ false → last_is p (bs ++ s) ≡ last_is p s
last_after p [] s e = refl
last_after p (b ∷ []) s e = last_cons p b s e
last_after p (b ∷ c ∷ bs) s e = last_cons p b ((c ∷ bs) ++ s) refl ∙ last_after p (c ∷ bs) s e

last_high : (p : ℕ → Bool) (v : Bool) → Steady p v → (b : ℕ) (bs : List ℕ) → 0x80 ≤ b → High bs → last_is p (b ∷ bs) ≡ v
unfolding last_is
last_high p v f b bs h none = f b h
last_high p v f b bs h (also {b = c} {bs = cs} k hs) = last_high p v f c cs k hs

pub last_encode : (p : ℕ → Bool) (v : Bool) → Steady p v → (l : List ℕ) → last_is p (encode l) ≡ last_is p l
unfolding encode last_is
last_encode p v f [] = refl
last_encode p v f (c ∷ []) = go (encode_char c) (bytes c)
  where
    go : (bs : List ℕ) → Bytes c bs → last_is p (bs ++ []) ≡ last_is p (c ∷ [])
    go bs (single h) = refl
    go bs (several {b = b} {bs = cs} hc hb hs) = rw (append-nil cs) (last_high p v f b cs hb hs ∙ sym (f c hc))
last_encode p v f (c ∷ d ∷ ds) =
    last_after p (encode_char c) (encode (d ∷ ds)) (empty_encode (d ∷ ds)) ∙ last_encode p v f (d ∷ ds) ∙ sym (last_cons p c (d ∷ ds) refl)

-- ---- the whole text

pub same_encode : (l w : List ℕ) → all_ascii w ≡ true → same (encode l) w ≡ same l w
unfolding same encode
same_encode [] w a = refl
same_encode (c ∷ cs) [] a = ap (λ (s : List ℕ). same s []) (encode_some c cs).2
same_encode (c ∷ cs) (w ∷ ws) a = go (encode_char c) (bytes c) (same_encode cs ws (and_right (ltb w 0x80) (all_ascii ws) a))
  where
    k : ltb w 0x80 ≡ true
    k = and_left (ltb w 0x80) (all_ascii ws) a

    go : (bs : List ℕ) → Bytes c bs → same (encode cs) ws ≡ same cs ws → same (bs ++ encode cs) (w ∷ ws) ≡ same (c ∷ cs) (w ∷ ws)
    go bs (single h) e = rw e
    go bs (several {b = b} hc hb hs) e = rw (not_ascii b w hb k, not_ascii c w hc k)

-- ---- leading characters that pass a test; leading closers

pub leading_encode : (p : ℕ → Bool) → Steady p false → (l : List ℕ) → leading p (encode l) ≡ leading p l
unfolding leading encode choose
leading_encode p f [] = refl
leading_encode p f (c ∷ cs) = go (encode_char c) (bytes c) (leading_encode p f cs)
  where
    go : (bs : List ℕ) → Bytes c bs → leading p (encode cs) ≡ leading p cs → leading p (bs ++ encode cs) ≡ leading p (c ∷ cs)
    go bs (single h) e = rw e
    go bs (several {b = b} hc hb hs) e = rw (f b hb, f c hc)

pub leading_ascii : (p : ℕ → Bool) → Steady p false → (l : List ℕ) → all_ascii (take (leading p l) l) ≡ true
unfolding leading
leading_ascii p f [] = refl
leading_ascii p f (c ∷ cs) =
    choose_case (λ (n : ℕ). all_ascii (take n (c ∷ cs)) ≡ true) (λ e. rw (low_of p f c e) (leading_ascii p f cs)) (λ e. refl)

pub closers_encode : (l : List ℕ) → leading_closers (encode l) ≡ leading_closers l
unfolding leading_closers
closers_encode l = leading_encode is_closer steady_closer l

pub closers_ascii : (l : List ℕ) → all_ascii (take (leading_closers l) l) ≡ true
unfolding leading_closers
closers_ascii l = leading_ascii is_closer steady_closer l

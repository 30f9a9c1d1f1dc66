-- The respaced text of a line's bytes is the bytes of the respaced text of its characters; and its length.
--     spacing_encode     normalize_spacing on bytes
--     spacing_bound      a text of n cells becomes at most 2 n long
use Prim.Native.Nat.{ℕ, suc, ◌+◌, ◌*◌, ◌<◌, ◌≤◌}
use native.Mathlib.Omega.{arith}
use mathlib.Core.Bool.{Bool, and-false}
use mathlib.Core.List.{List, [], ◌∷◌, ◌++◌, foldl, append-nil, append_assoc}
use mathlib.Core.Path.{◌≡◌, refl, sym, ap, ◌∙◌}
use lib.Dec.{lit<}
use lib.ListN.{length, length-append}
use Rattle.utf8.specs.Unicode.{encode_char, encode}
use Rattle.utf8.proofs.Table.{encode_char_1, High, none, also, Bytes, single, several, bytes}
use Rattle.utf8.proofs.Decode.{encode_append, encode_one}
use Rattle.rules.specs.declared.Class.{Class}
use Rattle.rules.specs.declared.Gap.{Gap}
use Rattle.rules.specs.Basics.{choose, is_blank}
use Rattle.rules.specs.Scan.{Cell, cell, is_code}
use Rattle.rules.specs.Spacing.{Spaced, spaced, cons_blank, trim_blanks, put_plain, put_after_comma, put_at, space_step, normalize_spacing}
use Rattle.rules.proofs.Choose.{choose_case}
use Rattle.rules.proofs.StartsBytes.{encode_some, choose_map, choose_both, not_ascii, steady_blank, steady_closer}
use Rattle.rules.proofs.ScanBytes.{label, encode_cells, fold_encode}

encode_snoc : (c : ℕ) → c < 0x80 → (o : List ℕ) → encode (o ++ (c ∷ [])) ≡ encode o ++ (c ∷ [])
encode_snoc c h o = encode_append o (c ∷ []) ∙ rw (encode_one c, encode_char_1 c h)

-- ---- blanks at the end

cons_high : (b : ℕ) (s : List ℕ) → 0x80 ≤ b → cons_blank b s ≡ b ∷ s
unfolding cons_blank choose
cons_high b [] h = rw (steady_blank b h)
cons_high b (x ∷ s) h = refl

trim_high : (bs s : List ℕ) → High bs → trim_blanks (bs ++ s) ≡ bs ++ trim_blanks s
unfolding trim_blanks
trim_high bs s none = refl
trim_high bs s (also {b = b} {bs = bs'} h hs) = rw (trim_high bs' s hs, cons_high b (bs' ++ trim_blanks s) h)

cons_more : (c x : ℕ) (l : List ℕ) → cons_blank c (encode (x ∷ l)) ≡ c ∷ encode (x ∷ l)
unfolding cons_blank
cons_more c x l = rw (encode_some x l).2

cons_low : (c : ℕ) → encode_char c ≡ c ∷ [] → (l : List ℕ) → cons_blank c (encode l) ≡ encode (cons_blank c l)
unfolding encode cons_blank
cons_low c e [] = rw (choose_map encode (is_blank c), e)
cons_low c e (x ∷ l) = cons_more c x l ∙ rw e

pub trim_blanks_encode : (o : List ℕ) → trim_blanks (encode o) ≡ encode (trim_blanks o)
unfolding encode trim_blanks
trim_blanks_encode [] = refl
trim_blanks_encode (c ∷ o) = go (encode_char c) refl (bytes c) (trim_blanks_encode o)
  where
    go : (bs : List ℕ) → encode_char c ≡ bs → Bytes c bs → trim_blanks (encode o) ≡ encode (trim_blanks o) → trim_blanks (bs ++ encode o) ≡ encode (cons_blank c (trim_blanks o))
    go bs e (single h) i = rw i (cons_low c e (trim_blanks o))
    go bs e (several {b = b} {bs = bs'} hc hb hs) i = trim_high bs (encode o) (also hb hs) ∙ rw (i, cons_high c (trim_blanks o) hc, e)

-- ---- a character below 80 hex does to the bytes what it does to the characters

bytes_of : Spaced → Spaced
bytes_of t = spaced (encode t.out) t.gap

bytes_spaced : (o : List ℕ) (g : Gap) → bytes_of (spaced o g) ≡ spaced (encode o) g
unfolding bytes_of
bytes_spaced o g = refl

bytes_choose : (b : Bool) (x y : Spaced) → bytes_of (choose b x y) ≡ choose b (bytes_of x) (bytes_of y)
bytes_choose b x y = choose_map bytes_of b x y

plain_low : (c : ℕ) → c < 0x80 → (k : Class) (o : List ℕ) → put_plain (encode o) (cell c k) ≡ bytes_of (put_plain o (cell c k))
unfolding put_plain
plain_low c h k o = simp (bytes_choose, bytes_spaced, encode_snoc c h, trim_blanks_encode)

step_low : (c : ℕ) → c < 0x80 → (k : Class) (g : Gap) (o : List ℕ) → put_at g (encode o) (cell c k) ≡ bytes_of (put_at g o (cell c k))
unfolding put_at put_after_comma
step_low c h k Gap.Nothing o = plain_low c h k o
step_low c h k Gap.Escape o = simp (bytes_spaced, encode_snoc c h)
step_low c h k Gap.Comma o = simp (bytes_choose, bytes_spaced, ← (plain_low c h k), encode_snoc 32 (lit< tt))
step_low c h k Gap.Space o = simp (bytes_choose, bytes_spaced, plain_low c h k)

-- ---- any other character, and each of its bytes, is written as it is, after the space that a comma before it asks for

lead : Gap → List ℕ → List ℕ
lead Gap.Nothing o = o
lead Gap.Escape o = o
lead Gap.Comma o = o ++ (32 ∷ [])
lead Gap.Space o = o

plain_high : (b : ℕ) → 0x80 ≤ b → (k : Class) (o : List ℕ) → put_plain o (cell b k) ≡ spaced (o ++ (b ∷ [])) Gap.Nothing
unfolding put_plain choose
plain_high b h k o = rw (not_ascii b 92 h refl, not_ascii b 44 h refl, not_ascii b 32 h refl) (choose_both (is_code k) _)

step_high : (b : ℕ) → 0x80 ≤ b → (k : Class) (g : Gap) (o : List ℕ) → put_at g o (cell b k) ≡ spaced (lead g o ++ (b ∷ [])) Gap.Nothing
unfolding lead put_at put_after_comma choose
step_high b h k Gap.Nothing o = plain_high b h k o
step_high b h k Gap.Escape o = refl
step_high b h k Gap.Comma o = rw (steady_blank b h, and-false (is_code k), steady_closer b h) (plain_high b h k (o ++ (32 ∷ [])))
step_high b h k Gap.Space o = rw (not_ascii b 32 h refl) (plain_high b h k o)

rest_high : (bs : List ℕ) → High bs → (k : Class) (o : List ℕ) → foldl space_step (spaced o Gap.Nothing) (label k bs) ≡ spaced (o ++ bs) Gap.Nothing
unfolding label put_at
rest_high bs none k o = rw append-nil
rest_high bs (also {b = b} {bs = bs'} h hs) k o =
    ap (λ (t : Spaced). foldl space_step t (label k bs')) (plain_high b h k o) ∙ rest_high bs' hs k (o ++ (b ∷ [])) ∙ rw append_assoc

lead_encode : (g : Gap) (o : List ℕ) → lead g (encode o) ≡ encode (lead g o)
unfolding lead
lead_encode Gap.Nothing o = refl
lead_encode Gap.Escape o = refl
lead_encode Gap.Comma o = sym (encode_snoc 32 (lit< tt) o)
lead_encode Gap.Space o = refl

last_bytes : (o : List ℕ) (c b : ℕ) (bs : List ℕ) → encode_char c ≡ b ∷ bs → encode o ++ (b ∷ []) ++ bs ≡ encode (o ++ (c ∷ []))
last_bytes o c b bs e = rw (encode_append o (c ∷ []), encode_one c, e, append_assoc)

pub spacing_encode : (cells : List Cell) → normalize_spacing (encode_cells cells) ≡ encode (normalize_spacing cells)
unfolding normalize_spacing bytes_of encode
spacing_encode cells =
    ap (λ (t : Spaced). t.out)
    (fold_encode space_step space_step (λ (t u : Spaced). u ≡ bytes_of t) low high cells (spaced [] Gap.Nothing) (spaced [] Gap.Nothing) refl)
  where
    low : (t u : Spaced) (c : ℕ) (k : Class) → c < 0x80 → u ≡ bytes_of t → space_step u (cell c k) ≡ bytes_of (space_step t (cell c k))
    low t u c k h r = rw r (step_low c h k t.gap t.out)

    high : (t u : Spaced) (c b : ℕ) (bs : List ℕ) (k : Class) → encode_char c ≡ b ∷ bs → 0x80 ≤ c → 0x80 ≤ b → High bs → u ≡ bytes_of t
        → foldl space_step (space_step u (cell b k)) (label k bs) ≡ bytes_of (space_step t (cell c k))
    high t u c b bs k e hc hb hs r =
        rw (
          r,
          step_high b hb k t.gap (encode t.out),
          step_high c hc k t.gap t.out,
          lead_encode t.gap t.out,
          rest_high bs hs k (encode (lead t.gap t.out) ++ (b ∷ [])),
        )
        (ap (λ (o : List ℕ). spaced o Gap.Nothing) (last_bytes (lead t.gap t.out) c b bs e))

-- ---- how long the text gets: at most two characters for each cell

cons_shorter : (c n : ℕ) (r : List ℕ) → length r ≤ n → length (cons_blank c r) ≤ suc n
unfolding cons_blank
cons_shorter c n [] h = choose_case (λ (s : List ℕ). length s ≤ suc n) (λ e. omega arith) (λ e. omega arith)
cons_shorter c n (d ∷ r) h = omega arith

trim_shorter : (o : List ℕ) → length (trim_blanks o) ≤ length o
unfolding trim_blanks
trim_shorter [] = omega arith
trim_shorter (c ∷ o) = cons_shorter c (length o) (trim_blanks o) (trim_shorter o)

record Short (n : ℕ) (t : Spaced) : Type 0 where
  short : length t.out ≤ n

short_or : (n : ℕ) (b : Bool) (x y : Spaced) → Short n x → Short n y → Short n (choose b x y)
short_or n b x y p q = choose_case (Short n) (λ e. p) (λ e. q)

short_as : (n : ℕ) (o : List ℕ) (g : Gap) → length o ≤ n → Short n (spaced o g)
short_as n o g h = record { short = h }

short_one : (n c : ℕ) (o : List ℕ) (g : Gap) → length o + 1 ≤ n → Short n (spaced (o ++ (c ∷ [])) g)
short_one n c o g h = record { short = simp length-append (omega arith) }

short_trim : (n c : ℕ) (o : List ℕ) (g : Gap) → length o + 1 ≤ n → Short n (spaced (trim_blanks o ++ (c ∷ [])) g)
short_trim n c o g h = short_one n c (trim_blanks o) g (omega (arith, trim_shorter o))

ruleset shorts = (short_or, short_as, short_trim, short_one, arith)

plain_short : (n : ℕ) (o : List ℕ) (x : Cell) → length o + 1 ≤ n → Short n (put_plain o x)
unfolding put_plain
plain_short n o x h = search shorts depth 8

step_short : (n : ℕ) (g : Gap) (o : List ℕ) (x : Cell) → length o + 2 ≤ n → Short n (put_at g o x)
unfolding put_at put_after_comma
step_short n Gap.Nothing o x h = plain_short n o x (omega arith)
step_short n Gap.Escape o x h = short_one n x.ch o Gap.Nothing (omega arith)
step_short n Gap.Comma o x h =
    short_or n _ _ _ (short_as n o Gap.Comma (omega arith))
    (short_or n _ _ _ (plain_short n o x (omega arith)) (plain_short n (o ++ (32 ∷ [])) x (simp length-append (omega arith))))
step_short n Gap.Space o x h = short_or n _ _ _ (short_as n o Gap.Space (omega arith)) (plain_short n o x (omega arith))

fold_short : (cells : List Cell) (t : Spaced) → length (foldl space_step t cells).out ≤ length t.out + 2 * length cells
fold_short [] t = omega arith
fold_short (x ∷ xs) t =
    let s : Short (length t.out + 2) (space_step t x) = step_short (length t.out + 2) t.gap t.out x (omega arith) in
    let r = fold_short xs (space_step t x) in
    omega arith

pub spacing_bound : (cells : List Cell) → length (normalize_spacing cells) ≤ 2 * length cells
unfolding normalize_spacing
spacing_bound cells = omega (arith, fold_short cells (spaced [] Gap.Nothing))

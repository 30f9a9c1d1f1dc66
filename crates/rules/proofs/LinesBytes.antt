-- Lines, cut on bytes; the line ending that is kept.
--     drop_cr_encode, lines_encode, rust_lines_encode, rust_lines_bytes
--     count_test, crlfs_encode, dominant_encode, ends_lf_encode
use Prim.Native.Nat.{ℕ, ◌≤◌}
use native.Mathlib.Omega.{arith}
use mathlib.Core.Bool.{Bool, false}
use mathlib.Core.List.{List, [], ◌∷◌, ◌++◌, map}
use mathlib.Core.Path.{◌≡◌, refl, sym, ap, ◌∙◌}
use Rattle.utf8.specs.Unicode.{encode_char, encode}
use Rattle.utf8.proofs.Table.{High, none, also, Bytes, single, several, bytes}
use Rattle.rules.specs.Basics.{choose, is, is_empty, pieces, split_on, count}
use Rattle.rules.specs.Lines.{drop_cr, lines_of, crlfs, dominant_in, ends_in_lf}
use Rattle.rules.specs.TextKind.{rust_lines}
use Rattle.rules.proofs.StartsBytes.{encode_some, choose_map, Steady, steady_is, first_encode, last_encode, empty_encode}
use Rattle.rules.proofs.WordsBytes.{pieces_encode}

-- ---- lines

-- before a character that is no CR at the end
cr_high : (b : ℕ) (s : List ℕ) → 0x80 ≤ b → drop_cr (b ∷ s) ≡ b ∷ drop_cr s
unfolding drop_cr choose
cr_high b [] h = rw (steady_is "\r" refl b h)
cr_high b (d ∷ s) h = refl

drop_high : (bs s : List ℕ) → High bs → drop_cr (bs ++ s) ≡ bs ++ drop_cr s
drop_high bs s none = refl
drop_high bs s (also {b = b} {bs = bs'} h hs) = cr_high b (bs' ++ s) h ∙ rw (drop_high bs' s hs)

cr_more : (c d : ℕ) (ds : List ℕ) → drop_cr (c ∷ encode (d ∷ ds)) ≡ c ∷ drop_cr (encode (d ∷ ds))
unfolding drop_cr
cr_more c d ds = rw (encode_some d ds).2

cr_low : (c : ℕ) (cs : List ℕ) → encode_char c ≡ c ∷ [] → drop_cr (encode cs) ≡ encode (drop_cr cs) → drop_cr (c ∷ encode cs) ≡ encode (drop_cr (c ∷ cs))
unfolding encode drop_cr
cr_low c [] e i = rw (choose_map encode (is "\r" c), e)
cr_low c (d ∷ ds) e i = cr_more c d ds ∙ rw (i, e)

pub drop_cr_encode : (l : List ℕ) → drop_cr (encode l) ≡ encode (drop_cr l)
unfolding encode drop_cr
drop_cr_encode [] = refl
drop_cr_encode (c ∷ cs) = go (encode_char c) refl (bytes c) (drop_cr_encode cs)
  where
    go : (bs : List ℕ) → encode_char c ≡ bs → Bytes c bs → drop_cr (encode cs) ≡ encode (drop_cr cs) → drop_cr (bs ++ encode cs) ≡ encode (drop_cr (c ∷ cs))
    go bs e (single h) i = cr_low c cs e i
    go bs e (several {b = b} {bs = bs'} hc hb hs) i = drop_high (b ∷ bs') (encode cs) (also hb hs) ∙ rw (cr_high c cs hc, i, e)

each_cr : (ps : List (List ℕ)) → map drop_cr (map encode ps) ≡ map encode (map drop_cr ps)
each_cr [] = refl
each_cr (p ∷ ps) = rw (drop_cr_encode p, each_cr ps)

pub lines_encode : (l : List ℕ) → lines_of (encode l) ≡ map encode (lines_of l)
unfolding lines_of
lines_encode l = ap (map drop_cr) (pieces_encode "\n" refl l) ∙ each_cr (pieces (split_on "\n" l))

pub rust_one : (l : List ℕ) → is_empty l ≡ false → rust_lines (l ∷ []) ≡ l ∷ []
unfolding rust_lines
rust_one [] e = absurd (let z : ◌≡◌ {A = ℕ} 0 1 = cc in omega arith)
rust_one (c ∷ cs) e = refl

pub rust_more : (l m : List ℕ) (ls : List (List ℕ)) → rust_lines (l ∷ m ∷ ls) ≡ drop_cr l ∷ rust_lines (m ∷ ls)
unfolding rust_lines drop_cr
rust_more [] m ls = refl
rust_more (c ∷ cs) m ls = refl

-- Rust's `lines`, of pieces and of a text
pub rust_lines_encode : (ps : List (List ℕ)) → rust_lines (map encode ps) ≡ map encode (rust_lines ps)
unfolding rust_lines encode
rust_lines_encode [] = refl
rust_lines_encode ([] ∷ []) = refl
rust_lines_encode ((c ∷ cs) ∷ []) = rust_one (encode (c ∷ cs)) (empty_encode (c ∷ cs))
rust_lines_encode (l ∷ m ∷ ls) =
    rust_more (encode l) (encode m) (map encode ls) ∙ rw (drop_cr_encode l, rust_lines_encode (m ∷ ls)) (sym (ap (map encode) (rust_more l m ls)))

pub rust_lines_bytes : (l : List ℕ) → rust_lines (pieces (split_on "\n" (encode l))) ≡ map encode (rust_lines (pieces (split_on "\n" l)))
rust_lines_bytes l = ap rust_lines (pieces_encode "\n" refl l) ∙ rust_lines_encode (pieces (split_on "\n" l))

-- ---- the line ending

count_high : (p : ℕ → Bool) → Steady p false → (bs s : List ℕ) → High bs → count p (bs ++ s) ≡ count p s
unfolding count choose
count_high p f bs s none = refl
count_high p f bs s (also {b = b} {bs = bs'} h hs) = rw (f b h, count_high p f bs' s hs) (omega arith)

pub count_test : (p : ℕ → Bool) → Steady p false → (l : List ℕ) → count p (encode l) ≡ count p l
unfolding count encode choose
count_test p f [] = refl
count_test p f (c ∷ cs) = go (encode_char c) (bytes c) (count_test p f cs)
  where
    go : (bs : List ℕ) → Bytes c bs → count p (encode cs) ≡ count p cs → count p (bs ++ encode cs) ≡ count p (c ∷ cs)
    go bs (single h) i = rw i
    go bs (several {b = b} {bs = bs'} hc hb hs) i = count_high p f (b ∷ bs') (encode cs) (also hb hs) ∙ rw (f c hc, i) (omega arith)

crlfs_high : (bs s : List ℕ) → High bs → crlfs (bs ++ s) ≡ crlfs s
unfolding crlfs choose
crlfs_high bs s none = refl
crlfs_high bs s (also {b = b} {bs = bs'} h hs) = rw (steady_is "\r" refl b h, crlfs_high bs' s hs) (omega arith)

pub crlfs_encode : (l : List ℕ) → crlfs (encode l) ≡ crlfs l
unfolding crlfs encode choose
crlfs_encode [] = refl
crlfs_encode (c ∷ cs) = go (encode_char c) (bytes c) (crlfs_encode cs)
  where
    go : (bs : List ℕ) → Bytes c bs → crlfs (encode cs) ≡ crlfs cs → crlfs (bs ++ encode cs) ≡ crlfs (c ∷ cs)
    go bs (single h) i = rw (i, first_encode (is "\n") false (steady_is "\n" refl) cs)
    go bs (several {b = b} {bs = bs'} hc hb hs) i = crlfs_high (b ∷ bs') (encode cs) (also hb hs) ∙ rw (steady_is "\r" refl c hc, i) (omega arith)

pub dominant_encode : (l : List ℕ) → dominant_in (encode l) ≡ dominant_in l
unfolding dominant_in
dominant_encode l = rw (crlfs_encode l, count_test (is "\n") (steady_is "\n" refl) l)

pub ends_lf_encode : (l : List ℕ) → ends_in_lf (encode l) ≡ ends_in_lf l
unfolding ends_in_lf
ends_lf_encode l = last_encode (is "\n") false (steady_is "\n" refl) l

-- The parts of a line, found on its bytes.
--     lower_encode, word_encode     a word without regard to case
--     has_encode, key_encode, setting_encode     what stands before and after the first `=`
use Prim.Native.Nat.{ℕ, ◌+◌, ◌≤◌, ◌<◌}
use mathlib.Core.Bool.{Bool, true, ◌||◌}
use mathlib.Core.List.{List, [], ◌∷◌, ◌++◌}
use mathlib.Core.Path.{◌≡◌, refl, ap, ◌∙◌}
use native.Mathlib.Omega.{arith}
use Rattle.utf8.specs.Unicode.{encode_char, encode, decode, WellFormed, within}
use Rattle.utf8.proofs.Table.{High, none, also, Bytes, single, several, bytes, encode_char_1}
use Rattle.utf8.proofs.Tests.{by_test, in_range_law}
use Rattle.rules.specs.Basics.{choose, is, same}
use Rattle.rules.proofs.Choose.{choose_true, choose_false}
use Rattle.rules.proofs.StartsBytes.{all_ascii, on_decode, same_encode, steady_is}
use Rattle.config_lines.specs.Words.{lowered}
use Rattle.config_rules.specs.Lines.{lower, has_eq, key, setting}
use Rattle.config_lines.proofs.WordLaws.{low_above}

-- ---- words

lower_high : (bs s : List ℕ) → High bs → lower (bs ++ s) ≡ bs ++ lower s
unfolding lower
lower_high bs s none = refl
lower_high bs s (also {b = b} {bs = bs'} h hs) = rw (← low_above b (omega arith), lower_high bs' s hs)

low_small : (c : ℕ) → c < 0x80 → lowered c < 0x80
low_small c h =
    by_test (within 65 90 c)
    (λ t. let r : (65 ≤ c) × (c ≤ 90) = in_range_law 65 90 c t in rw (choose_true (within 65 90 c) (c + 32) c t) (omega arith))
    (λ t. rw (choose_false (within 65 90 c) (c + 32) c t) h)

pub lower_encode : (l : List ℕ) → lower (encode l) ≡ encode (lower l)
unfolding lower encode
lower_encode [] = refl
lower_encode (c ∷ cs) = go (encode_char c) refl (bytes c) (lower_encode cs)
  where
    go : (bs : List ℕ) → encode_char c ≡ bs → Bytes c bs → lower (encode cs) ≡ encode (lower cs) → lower (bs ++ encode cs) ≡ encode_char (lowered c) ++ encode (lower cs)
    go bs e (single h) i = rw (encode_char_1 (lowered c) (low_small c h)) (unfold lower in ap (λ (r : List ℕ). lowered c ∷ r) i)
    go bs e (several {b = b} {bs = bs'} hc hb hs) i =
        lower_high (b ∷ bs') (encode cs) (also hb hs) ∙ rw (i, ← low_above c (omega arith), e)

pub word_decode : (w : List ℕ) → all_ascii w ≡ true → (s : List ℕ) → WellFormed s → same (lower s) w ≡ same (lower (decode s)) w
word_decode w a s = on_decode (λ (l : List ℕ). same (lower l) w) (λ (l : List ℕ). same (lower l) w) (λ l. rw (lower_encode l) (same_encode (lower l) w a)) s

-- ---- the first `=`

has_high : (bs s : List ℕ) → High bs → has_eq (bs ++ s) ≡ has_eq s
unfolding has_eq
has_high bs s none = refl
has_high bs s (also {b = b} {bs = bs'} h hs) = rw (steady_is "=" refl b h) (has_high bs' s hs)

pub has_encode : (l : List ℕ) → has_eq (encode l) ≡ has_eq l
unfolding has_eq encode
has_encode [] = refl
has_encode (c ∷ cs) = go (encode_char c) (bytes c) (has_encode cs)
  where
    go : (bs : List ℕ) → Bytes c bs → has_eq (encode cs) ≡ has_eq cs → has_eq (bs ++ encode cs) ≡ (is "=" c || has_eq cs)
    go bs (single h) i = unfold has_eq in ap (λ (r : Bool). is "=" c || r) i
    go bs (several {b = b} {bs = bs'} hc hb hs) i = has_high (b ∷ bs') (encode cs) (also hb hs) ∙ i ∙ rw (steady_is "=" refl c hc)

key_high : (bs s : List ℕ) → High bs → key (bs ++ s) ≡ bs ++ key s
unfolding key choose
key_high bs s none = refl
key_high bs s (also {b = b} {bs = bs'} h hs) = rw (steady_is "=" refl b h, key_high bs' s hs)

pub key_encode : (l : List ℕ) → key (encode l) ≡ encode (key l)
unfolding key encode
key_encode [] = refl
key_encode (c ∷ cs) = go (encode_char c) refl (bytes c) (key_encode cs)
  where
    go : (bs : List ℕ) → encode_char c ≡ bs → Bytes c bs → key (encode cs) ≡ encode (key cs) → key (bs ++ encode cs) ≡ encode (choose (is "=" c) [] (c ∷ key cs))
    go bs e (single h) i = unfold key in unfold choose in by_test (is "=" c) (λ t. rw t) (λ t. rw t (unfold encode in rw (e, i)))
    go bs e (several {b = b} {bs = bs'} hc hb hs) i =
        key_high (b ∷ bs') (encode cs) (also hb hs) ∙ (unfold choose in rw (steady_is "=" refl c hc) (unfold encode in rw (e, i)))

setting_high : (bs s : List ℕ) → High bs → setting (bs ++ s) ≡ setting s
unfolding setting choose
setting_high bs s none = refl
setting_high bs s (also {b = b} {bs = bs'} h hs) = rw (steady_is "=" refl b h) (setting_high bs' s hs)

pub setting_encode : (l : List ℕ) → setting (encode l) ≡ encode (setting l)
unfolding setting encode
setting_encode [] = refl
setting_encode (c ∷ cs) = go (encode_char c) (bytes c) (setting_encode cs)
  where
    go : (bs : List ℕ) → Bytes c bs → setting (encode cs) ≡ encode (setting cs) → setting (bs ++ encode cs) ≡ encode (choose (is "=" c) cs (setting cs))
    go bs (single h) i = unfold setting in unfold choose in by_test (is "=" c) (λ t. rw t) (λ t. rw t i)
    go bs (several {b = b} {bs = bs'} hc hb hs) i =
        setting_high (b ∷ bs') (encode cs) (also hb hs) ∙ i ∙ (unfold choose in rw (steady_is "=" refl c hc))

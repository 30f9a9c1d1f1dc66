-- Laws on a buffer that holds as much of a text as fits. The text can grow at its end and be cut back.
use mathlib.Core.Path.{◌≡◌, refl, ap, ◌∙◌}
use mathlib.Core.List.{List, [], ◌∷◌, ◌++◌}
use Prim.Native.Nat.{ℕ, zero, suc, ◌-◌, ◌≤◌}
use native.Mathlib.Nat.{not-suc-le-zero, le_of_suc-le-suc}
use lib.ListN.{length, take, drop, replicate}
use Rattle.buffer.specs.Buffer.{over, Agree, Appended, Finishes}

pub agree_nil : (x : List ℕ) → Agree x []
unfolding Agree
agree_nil [] = tt
agree_nil (a ∷ x) = tt

pub agree_over : (x l : List ℕ) → Agree (over x l) l
unfolding Agree over
agree_over [] l = tt
agree_over (a ∷ x) [] = tt
agree_over (a ∷ x) (b ∷ l) = (refl, agree_over x l)

-- the text is cut back
pub agree_cut : (x t : List ℕ) (k : ℕ) → Agree x t → Agree x (take k t)
unfolding Agree
agree_cut [] t k g = tt
agree_cut (a ∷ x) t zero g = tt
agree_cut (a ∷ x) [] (suc k) g = tt
agree_cut (a ∷ x) (b ∷ t) (suc k) g = (g.0, agree_cut x t k g.1)

-- a text that fits stands at the front
pub agree_text : (x t : List ℕ) → length t ≤ length x → Agree x t → take (length t) x ≡ t
unfolding Agree
agree_text x [] h g = refl
agree_text [] (b ∷ t) h g = absurd (not-suc-le-zero h)
agree_text (a ∷ x) (b ∷ t) h g = rw (g.0, agree_text x t (le_of_suc-le-suc h) g.1)

-- a line is written where the text ends, past the end too
agree_next : (x t l : List ℕ) → Agree x t → Agree (take (length t) x ++ over (drop (length t) x) l) (t ++ l)
unfolding Agree over
agree_next x [] l g = agree_over x l
agree_next [] (b ∷ t) l g = tt
agree_next (a ∷ x) (b ∷ t) l g = (g.0, agree_next x t l g.1)

pub appended_agree : {x x' l : List ℕ} {at r : ℕ} → Appended x x' at l r → (t : List ℕ) → length t ≡ at → Agree x t → Agree x' (t ++ l)
appended_agree {x} {x'} {l} w t e g = rw (w.is, ← e) (agree_next x t l g)

-- the text that an output holds at the end, then zeros
pub finishes_text : {x x' : List ℕ} {at : ℕ} → Finishes x x' at → at ≤ length x → (t : List ℕ) → length t ≡ at → Agree x t
    → x' ≡ t ++ replicate (length x - at) 0
finishes_text {x} {x'} {at} w h t e g = w.is ∙ ap (λ (l : List ℕ). l ++ replicate (length x - at) 0) (rw e at (agree_text x t (rw e h) g))

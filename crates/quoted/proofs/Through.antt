-- The mark after a part of a line, by what follows it.
--     through           the mark after s, where r follows
--     through_sep       before a separator a part is read as if the line ended
use Prim.Native.Nat.{ℕ}
use mathlib.Core.List.{List, [], ◌∷◌, ◌++◌, append_assoc, append-nil}
use mathlib.Core.Path.{◌≡◌, refl, ap, ◌∙◌}
use Rattle.rules.specs.Scan.{next, final}
use Rattle.rules.specs.declared.Mark.{Mark}
use Rattle.quoted.proofs.Separators.{Sep, next_before}

unfoldable pub through : Mark → List ℕ → List ℕ → Mark
through t [] r = t
through t (c ∷ s) r = through (next t (c ∷ (s ++ r))) s r

pub through_nil : (t : Mark) (s : List ℕ) → through t s [] ≡ final t s
unfolding through final
through_nil t [] = refl
through_nil t (c ∷ s) =
    ap (λ (l : List ℕ). through (next t (c ∷ l)) s []) (append-nil s) ∙ through_nil (next t (c ∷ s)) s

pub through_snoc : (t : Mark) (o : List ℕ) (c : ℕ) (r : List ℕ)
    → through t (o ++ (c ∷ [])) r ≡ next (through t o (c ∷ r)) (c ∷ r)
unfolding through
through_snoc t [] c r = refl
through_snoc t (x ∷ o) c r =
    ap (λ (l : List ℕ). through (next t (x ∷ l)) (o ++ (c ∷ [])) r) (append_assoc o (c ∷ []) r)
    ∙ through_snoc (next t (x ∷ (o ++ (c ∷ r)))) o c r

pub through_sep : (w : ℕ) → Sep w → (t : Mark) (o r : List ℕ) → through t o (w ∷ r) ≡ final t o
unfolding through final
through_sep w sep t [] r = refl
through_sep w sep t (x ∷ o) r =
    ap (λ (u : Mark). through u o (w ∷ r)) (next_before w sep t (x ∷ o) r) ∙ through_sep w sep (next t (x ∷ o)) o r

-- Laws on the passes over a source that find its line ending.
use Prim.Native.Nat.{ℕ, ◌+◌, ◌-◌, ◌≤◌, ◌<◌}
use mathlib.Core.Bool.{false, ◌&&◌, and-false}
use mathlib.Core.Path.{◌≡◌, refl, sym, ap, ◌∙◌}
use mathlib.Core.List.{List, [], ◌∷◌, ◌++◌, append_assoc}
use native.Mathlib.Nat.{zero-add}
use native.Mathlib.Numerals.{add-one}
use native.Mathlib.Omega.{arith}
use lib.Dec.{eqb}
use lib.ListN.{length, get_or, take, length-take}
use lib.Seq.{take-suc}
use borrow.Author.Tests.{eq-eqb, ne_eqb, lt-ltb, le-ltb}
use Rattle.rules.specs.Basics.{choose, is, first_is, last_is, count}
use Rattle.rules.specs.Lines.{crlfs, dominant_in, ends_in_lf}
use Rattle.rules.specs.declared.LineEnding.{LineEnding}
use Rattle.rules.proofs.Leading.{last_at}
use Rattle.options.specs.Endings.{Counted}

-- ---- a block, byte by byte: its first i bytes

module _ (s : List ℕ) (i : ℕ) {first lf crlf last : ℕ} (c : Counted (take i s) first lf crlf last) (h : i < length s) where
  one : (r : List ℕ) → take (i + 1) s ++ r ≡ take i s ++ (get_or s i 0 ∷ r)
  one r = ap (λ (l : List ℕ). l ++ r) (rw (add-one i) (take-suc s i 0 h)) ∙ append_assoc (take i s) (get_or s i 0 ∷ []) r

  long : length (take (i + 1) s) ≡ length (take i s) + 1
  long = simp length-take (omega arith)

  count_next : (r : List ℕ) → count (is "\n") (take (i + 1) s ++ r) ≡ lf + (choose (is "\n" (get_or s i 0)) 1 0 + count (is "\n") r)
  unfolding count
  count_next r = ap (count (is "\n")) (one r) ∙ c.lfs (get_or s i 0 ∷ r)

  pairs_next : (r : List ℕ) → crlfs (first ∷ (take (i + 1) s ++ r)) ≡ crlf + (choose (is "\r" last && is "\n" (get_or s i 0)) 1 0 + crlfs (get_or s i 0 ∷ r))
  unfolding crlfs first_is
  pairs_next r = ap (λ (l : List ℕ). crlfs (first ∷ l)) (one r) ∙ c.pairs (get_or s i 0 ∷ r)

  -- a byte that is no LF; an LF by itself; an LF after a CR
  pub counted_other : (get_or s i 0 ≡ 10 → ⊥) → Counted (take (i + 1) s) first lf crlf (get_or s i 0)
  unfolding choose
  counted_other n =
      record {
        lfs = λ r. count_next r ∙ rw (ne_eqb (get_or s i 0) 10 n) (omega arith);
        pairs = λ r. pairs_next r ∙ rw (ne_eqb (get_or s i 0) 10 n, and-false) (omega arith);
        few = c.few;
        small = omega (arith, c.small, long);
      }

  pub counted_lf : get_or s i 0 ≡ 10 → (last ≡ 13 → ⊥) → Counted (take (i + 1) s) first (lf + 1) crlf (get_or s i 0)
  unfolding choose
  counted_lf e n =
      record {
        lfs = λ r. count_next r ∙ rw (eq-eqb (get_or s i 0) 10 e) (omega arith);
        pairs = λ r. pairs_next r ∙ rw (ne_eqb last 13 n) (omega arith);
        few = omega (arith, c.few);
        small = omega (arith, c.small, long);
      }

  pub counted_crlf : get_or s i 0 ≡ 10 → last ≡ 13 → Counted (take (i + 1) s) first (lf + 1) (crlf + 1) (get_or s i 0)
  unfolding choose
  counted_crlf e p =
      record {
        lfs = λ r. count_next r ∙ rw (eq-eqb (get_or s i 0) 10 e) (omega arith);
        pairs = λ r. pairs_next r ∙ rw (eq-eqb last 13 p, eq-eqb (get_or s i 0) 10 e) (omega arith);
        few = omega (arith, c.few);
        small = omega (arith, c.small, long);
      }

-- ---- a source, block by block: all are counted but those of what is left

pub record CountedTo (s rest : List ℕ) (lf crlf last : ℕ) : Type 0 where
  pub lfs : count (is "\n") s ≡ lf + count (is "\n") rest
  pub pairs : crlfs s ≡ crlf + crlfs (last ∷ rest)
  pub few : crlf ≤ lf
  pub small : lf + length rest ≤ length s

pub to_start : (s rest : List ℕ) → rest ≡ s → CountedTo s rest 0 0 0
unfolding crlfs choose
to_start s rest e = rw e (record { lfs = sym (zero-add _); pairs = omega arith; few = omega arith; small = omega arith })

-- at the end all are counted
to_all : {s rest : List ℕ} {lf crlf last : ℕ} → CountedTo s rest lf crlf last → length rest ≡ 0 → (count (is "\n") s ≡ lf) × (crlfs s ≡ crlf)
unfolding count crlfs first_is choose
to_all {rest = []} c h = (c.lfs ∙ omega arith, c.pairs ∙ rw and-false (omega arith))
to_all {rest = b ∷ rest} c h = absurd (omega arith)

module _ {s rest : List ℕ} {lf crlf last : ℕ} (c : CountedTo s rest lf crlf last) (h : length rest ≡ 0) where
  pub dominant_crlf : lf - crlf < crlf → LineEnding.Crlf ≡ dominant_in s
  unfolding dominant_in choose
  dominant_crlf l = let e = to_all c h in rw (e.0, e.1, lt-ltb (lf - crlf) crlf l)

  pub dominant_lf : crlf ≤ lf - crlf → LineEnding.Lf ≡ dominant_in s
  unfolding dominant_in choose
  dominant_lf l = let e = to_all c h in rw (e.0, e.1, le-ltb (lf - crlf) crlf l)

pub ends_empty : (s : List ℕ) → length s ≡ 0 → false ≡ ends_in_lf s
unfolding ends_in_lf last_is
ends_empty [] e = refl
ends_empty (a ∷ s) e = absurd (omega arith)

pub ends_last : (s : List ℕ) → (length s ≡ 0 → ⊥) → eqb (get_or s (length s - 1) 0) 10 ≡ ends_in_lf s
unfolding ends_in_lf
ends_last s n = last_at (is "\n") s n

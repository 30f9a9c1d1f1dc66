-- Lines joined: how the text grows by a line, and what it is cut back to.
use Prim.Native.Nat.{ℕ, ◌+◌, ◌≤◌}
use mathlib.Core.Bool.{Bool, true, false}
use mathlib.Core.Path.{◌≡◌, refl, sym, ap, ◌∙◌}
use mathlib.Core.List.{List, [], ◌∷◌, ◌++◌, append_assoc, append-nil}
use native.Mathlib.Omega.{arith}
use lib.Dec.{eqb}
use lib.ListN.{take}
use lib.Seq.{take-append_seam}
use Rattle.utf8.specs.Unicode.{encode, size, trim_end}
use Rattle.utf8.proofs.Decode.{encode_append, size_append}
use Rattle.utf8.proofs.Trim.{end_split}
use Rattle.rules.specs.Basics.{choose, is_empty}
use Rattle.rules.specs.Assembly.{joined, drop_empty}
use Rattle.rules.specs.Line.{drop_blank}
use Rattle.rules.specs.Else.{joinable, can_join}
use Rattle.text.specs.declared.Last.TheVariants.{Empty, Joinable, Other}
use Rattle.text.specs.Text.{newest_of, is_first, is_joinable, sep_of}

-- a text that starts with another is cut back to it
pub cut_back : (a b r : List ℕ) → a ≡ b ++ r → take (size b) (encode a) ≡ encode b
cut_back a b r e = ap (λ (x : List ℕ). take (size b) (encode x)) e ∙ ap (take (size b)) (encode_append b r) ∙ take-append_seam (encode b) (encode r)

not_first : (a b : Bool) → is_first (choose a Joinable (choose b Empty Other)) ≡ false
unfolding choose
not_first true b = refl
not_first false true = refl
not_first false false = refl

pub not_alone : (l : List ℕ) (ls : List (List ℕ)) → is_first (newest_of (l ∷ ls)) ≡ false
unfolding newest_of
not_alone l ls = not_first (joinable l) (eqb (size l) 0)

module _ (eol : List ℕ) where
  pub joined_cons : (l : List ℕ) (ls : List (List ℕ)) → joined eol (l ∷ ls) ≡ joined eol ls ++ (sep_of eol (newest_of ls) ++ l)
  unfolding joined choose
  joined_cons l [] = unfold newest_of in refl
  joined_cons l (m ∷ ls) = rw (not_alone m ls)

  pub joined_grow : (a b : List ℕ) (ls : List (List ℕ)) → joined eol ((a ++ b) ∷ ls) ≡ joined eol (a ∷ ls) ++ b
  joined_grow a b ls = rw (joined_cons (a ++ b) ls, joined_cons a ls) (simp append_assoc)

  pub size_joined : (l : List ℕ) (ls : List (List ℕ)) → size (joined eol (l ∷ ls)) ≡ size (joined eol ls) + size (sep_of eol (newest_of ls)) + size l
  size_joined l ls =
      ap size (joined_cons l ls) ∙ size_append (joined eol ls) (sep_of eol (newest_of ls) ++ l) ∙ omega (arith, size_append (sep_of eol (newest_of ls)) l)

  -- several lines, the newest first, after others
  pub joined_append : (m : List ℕ) (ms ls : List (List ℕ)) → joined eol ((m ∷ ms) ++ ls) ≡ joined eol ls ++ (sep_of eol (newest_of ls) ++ joined eol (m ∷ ms))
  unfolding joined
  joined_append m [] ls = joined_cons m ls
  joined_append m (n ∷ ms) ls = ap (λ (x : List ℕ). x ++ (eol ++ m)) (joined_append n ms ls) ∙ simp append_assoc

  pub encode_append_lines : (m : List ℕ) (ms ls : List (List ℕ))
      → encode (joined eol ((m ∷ ms) ++ ls)) ≡ encode (joined eol ls ++ sep_of eol (newest_of ls)) ++ encode (joined eol (m ∷ ms))
  encode_append_lines m ms ls =
      ap encode (joined_append m ms ls ∙ sym (append_assoc (joined eol ls) (sep_of eol (newest_of ls)) (joined eol (m ∷ ms))))
      ∙ encode_append (joined eol ls ++ sep_of eol (newest_of ls)) (joined eol (m ∷ ms))

  -- what the last empty lines are in the text
  rest_of : List (List ℕ) → List ℕ
  rest_of [] = []
  rest_of ([] ∷ ls) = rest_of ls ++ sep_of eol (newest_of ls)
  rest_of ((c ∷ cs) ∷ ls) = []

  full_front : (ls : List (List ℕ)) → joined eol ls ≡ joined eol (drop_empty ls) ++ rest_of ls
  unfolding drop_empty rest_of
  full_front [] = sym (append-nil (joined eol []))
  full_front ([] ∷ ls) =
      joined_cons [] ls
      ∙ rw append-nil
      (ap (λ (x : List ℕ). x ++ sep_of eol (newest_of ls)) (full_front ls) ∙ append_assoc (joined eol (drop_empty ls)) (rest_of ls) (sep_of eol (newest_of ls)))
  full_front ((c ∷ cs) ∷ ls) = sym (append-nil (joined eol ((c ∷ cs) ∷ ls)))

  -- the text without its last empty lines
  pub full_cut : (ls : List (List ℕ)) → take (size (joined eol (drop_empty ls))) (encode (joined eol ls)) ≡ encode (joined eol (drop_empty ls))
  full_cut ls = cut_back (joined eol ls) (joined eol (drop_empty ls)) (rest_of ls) (full_front ls)

  below_front : (ls : List (List ℕ)) → (r : List ℕ) × (joined eol ls ≡ joined eol (drop_blank ls) ++ r)
  unfolding drop_blank
  below_front [] = ([], sym (append-nil (joined eol [])))
  below_front ([] ∷ ls) = (sep_of eol (newest_of ls) ++ [], joined_cons [] ls)
  below_front ((c ∷ cs) ∷ ls) = ([], sym (append-nil (joined eol ((c ∷ cs) ∷ ls))))

  -- an empty newest line dropped
  pub below_cut : (ls : List (List ℕ)) → take (size (joined eol (drop_blank ls))) (encode (joined eol ls)) ≡ encode (joined eol (drop_blank ls))
  below_cut ls = let w = below_front ls in cut_back (joined eol ls) (joined eol (drop_blank ls)) w.0 w.1

  -- the newest line trimmed
  pub newest_cut : (l : List ℕ) (ls : List (List ℕ)) → take (size (joined eol (trim_end l ∷ ls))) (encode (joined eol (l ∷ ls))) ≡ encode (joined eol (trim_end l ∷ ls))
  newest_cut l ls =
      let w = end_split l in
      cut_back (joined eol (l ∷ ls)) (joined eol (trim_end l ∷ ls)) w.0
      (ap (λ (x : List ℕ). joined eol (x ∷ ls)) w.2 ∙ joined_grow (trim_end l) w.0 ls)

pub full_empty : (ls : List (List ℕ)) → drop_empty ([] ∷ ls) ≡ drop_empty ls
unfolding drop_empty
full_empty ls = refl

pub full_line : (l : List ℕ) (ls : List (List ℕ)) → 1 ≤ size l → drop_empty (l ∷ ls) ≡ l ∷ ls
unfolding drop_empty encode
full_line [] ls h = absurd (omega arith)
full_line (c ∷ cs) ls h = refl

pub below_full : (ls : List (List ℕ)) → drop_empty (drop_blank ls) ≡ drop_empty ls
unfolding drop_blank drop_empty
below_full [] = refl
below_full ([] ∷ ls) = refl
below_full ((c ∷ cs) ∷ ls) = refl

pub below_empty : (ls : List (List ℕ)) → drop_blank ([] ∷ ls) ≡ ls
unfolding drop_blank
below_empty ls = refl

pub below_line : (l : List ℕ) (ls : List (List ℕ)) → 1 ≤ size l → drop_blank (l ∷ ls) ≡ l ∷ ls
unfolding drop_blank encode
below_line [] ls h = absurd (omega arith)
below_line (c ∷ cs) ls h = refl

-- ---- the kind of the newest line

pub kind_first : (ls : List (List ℕ)) → is_first (newest_of ls) ≡ is_empty ls
kind_first [] = unfold newest_of in refl
kind_first (l ∷ ls) = not_alone l ls

kind_joins : (a b : Bool) → is_joinable (choose a Joinable (choose b Empty Other)) ≡ a
unfolding choose
kind_joins true b = refl
kind_joins false true = refl
kind_joins false false = refl

pub kind_joinable : (ls : List (List ℕ)) → is_joinable (newest_of ls) ≡ can_join ls
unfolding newest_of can_join
kind_joinable [] = refl
kind_joinable (l ∷ ls) = kind_joins (joinable l) (eqb (size l) 0)

-- The lines of the open brackets, listed.
--     listed_long, listed_at       a list of n numbers: its length, and what stands at i
--     Listing                      the loop of `list_lines`
use Prim.Native.Nat.{ℕ, zero, suc, ◌+◌, ◌-◌, ◌*◌, ◌≤◌, ◌<◌}
use mathlib.Core.List.{List, [], ◌∷◌, ◌++◌}
use mathlib.Core.Logic.{◌⊎◌, inl, inr}
use mathlib.Core.Path.{◌≡◌, refl, sym, ap, ◌∙◌}
use native.Mathlib.Omega.{arith}
use borrow.Author.Tests.{lt-ltb, le-ltb}
use lib.ListN.{length, get_or, take, replicate, length-append, length-take, length-replicate, get_or-replicate, get_or-eq_default, get_or-append}
use lib.Seq.{get_or-append-add, get_or-append_seam, get_or-take, ext_get_or}
use Rattle.utf8.proofs.Tests.{split}
use Rattle.rules.specs.Basics.{choose}
use Rattle.rules.specs.Brackets.{open_lines}
use Rattle.rules.specs.Call.{filled, listed}
use Rattle.brackets.specs.Stack.{entry_size, entry_at, stacked, line_at, Listed}

-- ---- a list with room for n

pub listed_long : (n : ℕ) (l : List ℕ) → length (listed n l) ≡ n
unfolding listed filled
listed_long n l =
    omega (arith, length-append (take n l) (replicate (n - length (take n l)) 0), length-replicate {A = ℕ} (n - length (take n l)) 0, length-take n l)

pub listed_at : (n : ℕ) (l : List ℕ) (i : ℕ) → i < n → get_or (listed n l) i 0 ≡ get_or l i 0
unfolding listed filled
listed_at n l i h = go (split i (length (take n l)))
  where
    zeros : List ℕ
    zeros = replicate (n - length (take n l)) 0

    go : (i < length (take n l)) ⊎ (length (take n l) ≤ i) → get_or (take n l ++ zeros) i 0 ≡ get_or l i 0
    go (inl k) = get_or-append (take n l) zeros 0 i k ∙ get_or-take n l i 0 h
    go (inr k) =
        let e : length (take n l) + (i - length (take n l)) ≡ i = omega arith in
        ap (λ (j : ℕ). get_or (take n l ++ zeros) j 0) (sym e)
        ∙ get_or-append-add (take n l) zeros (i - length (take n l)) 0
        ∙ get_or-replicate (n - length (take n l)) (i - length (take n l)) 0 0 (omega arith)
        ∙ sym (get_or-eq_default l 0 (omega (arith, length-take n l)))

-- ---- the lines of a stack

pub lines_long : (buf : List ℕ) (base n : ℕ) → length (open_lines (stacked buf base n)) ≡ n
unfolding stacked open_lines
lines_long buf base zero = refl
lines_long buf base (suc n) = omega (arith, length-append (open_lines (stacked buf base n)) ((entry_at buf (base + entry_size * n)).line ∷ []), lines_long buf base n)

lines_some : (buf : List ℕ) (base n i : ℕ) → i < n → get_or (open_lines (stacked buf base n)) i 0 ≡ (entry_at buf (base + entry_size * i)).line
unfolding stacked open_lines
lines_some buf base zero i h = absurd (omega arith)
lines_some buf base (suc n) i h = go (lines_some buf base n i) (split i n)
  where
    l : List ℕ
    l = open_lines (stacked buf base n)

    go : (i < n → get_or l i 0 ≡ (entry_at buf (base + entry_size * i)).line) → (i < n) ⊎ (n ≤ i)
        → get_or (l ++ ((entry_at buf (base + entry_size * n)).line ∷ [])) i 0 ≡ (entry_at buf (base + entry_size * i)).line
    go r (inl k) = get_or-append l ((entry_at buf (base + entry_size * n)).line ∷ []) 0 i (omega (arith, lines_long buf base n)) ∙ r k
    go r (inr k) =
        let e : i ≡ length l = omega (arith, lines_long buf base n) in
        let m : n ≡ i = omega arith in
        ap (λ (j : ℕ). get_or (l ++ ((entry_at buf (base + entry_size * n)).line ∷ [])) j 0) e
        ∙ get_or-append_seam l (entry_at buf (base + entry_size * n)).line [] 0
        ∙ ap (λ (j : ℕ). (entry_at buf (base + entry_size * j)).line) m

pub lines_at : (buf : List ℕ) (base n i : ℕ) → line_at buf base n i ≡ get_or (open_lines (stacked buf base n)) i 0
unfolding choose
lines_at buf base n i = go (split i n)
  where
    go : (i < n) ⊎ (n ≤ i) → line_at buf base n i ≡ get_or (open_lines (stacked buf base n)) i 0
    go (inl h) = rw (lt-ltb i n h) (sym (lines_some buf base n i h))
    go (inr h) = rw (le-ltb i n h) (sym (get_or-eq_default (open_lines (stacked buf base n)) 0 (omega (arith, lines_long buf base n))))

-- ---- the loop

pub record Listing (buf : List ℕ) (base depth : ℕ) (list₀ list : List ℕ) (i : ℕ) : Type 0 where
  pub long : length list ≡ length list₀
  pub done : (j : ℕ) → j < i → get_or list j 0 ≡ line_at buf base depth j

module _ (buf : List ℕ) (base depth : ℕ) (list₀ list : List ℕ) (i : ℕ) (w : Listing buf base depth list₀ list i) where
  pub listing_end : length list ≤ i → Listed (open_lines (stacked buf base depth)) (length list₀) depth list
  listing_end h =
      let l = open_lines (stacked buf base depth) in
      record {
        holds =
            ext_get_or 0 list (listed (length list₀) l) (w.long ∙ sym (listed_long (length list₀) l))
            (λ j k. w.done j (omega arith) ∙ lines_at buf base depth j ∙ sym (listed_at (length list₀) l j (omega (arith, w.long))));
        count = sym (lines_long buf base depth);
      }

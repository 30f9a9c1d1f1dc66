-- Laws on lists of bytes.
use Rattle.std.proofs.Common.{ℕ, zero, suc, ◌≤◌, ◌≡◌, List, [], ◌∷◌, length, take, replicate, refl, ap, ◌∙◌, arith}
use native.Mathlib.Nat.{sub-zero, suc-sub-suc, not-suc-le-zero, le_of_suc-le-suc, mul-one}
use lib.Seq.{take_at}
use Rattle.buffer.specs.Buffer.{over}
use Rattle.buffer.proofs.OverLaws.{over_nil}
use Rattle.buffer.proofs.RepeatLaws.{length_times}
use Rattle.rules.specs.Call.{filled}
use Rattle.rules.specs.Options.{max_indent, spaces}
use Rattle.options.specs.Indents.{IsFilled}

-- a text written over zeros
pub over_zeros : (n : ℕ) (t : List ℕ) → length t ≤ n → over (replicate n 0) t ≡ filled n t
unfolding over filled
over_zeros n [] h = over_nil (replicate n 0) ∙ rw sub-zero
over_zeros zero (a ∷ t) h = absurd (not-suc-le-zero h)
over_zeros (suc n) (a ∷ t) h = rw suc-sub-suc (ap (λ (l : List ℕ). a ∷ l) (over_zeros n t (le_of_suc-le-suc h)))

-- one that fills them
pub over_whole : (n : ℕ) (t : List ℕ) → length t ≡ n → over (replicate n 0) t ≡ t
unfolding over
over_whole zero [] h = refl
over_whole zero (a ∷ t) h = absurd (omega arith)
over_whole (suc n) [] h = absurd (omega arith)
over_whole (suc n) (a ∷ t) h = ap (λ (l : List ℕ). a ∷ l) (over_whole n t (omega arith))

pub length_spaces : (n : ℕ) → length (spaces n) ≡ n
length_spaces n = length_times n (32 ∷ []) ∙ mul-one n

-- a text in front of its zeros
pub take_filled : (n : ℕ) (t : List ℕ) → take (length t) (filled n t) ≡ t
unfolding filled
take_filled n t = take_at t _ (length t) refl

-- ---- an indent that was written over zeros

module _ (t bytes : List ℕ) (n : ℕ) (fits : length t ≤ max_indent) (size : n ≡ length t) (is : bytes ≡ over (replicate max_indent 0) t) where
  array : bytes ≡ filled max_indent t
  array = is ∙ over_zeros max_indent t fits

  pub made_view : take n bytes ≡ t
  made_view = rw (size, array) (take_filled max_indent t)

  pub made_filled : IsFilled (record { bytes = bytes; len = n })
  made_filled = rw (made_view, size, array)

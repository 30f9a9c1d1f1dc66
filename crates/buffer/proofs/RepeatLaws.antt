-- Laws on a text several times over.
use Prim.Native.Nat.{ℕ, zero, suc, ◌+◌, ◌-◌, ◌*◌, ◌≤◌}
use mathlib.Core.Path.{◌≡◌, refl, sym, ap, ◌∙◌}
use mathlib.Core.Bool.{Bool, true}
use mathlib.Core.List.{List, [], ◌++◌, append_assoc, append-nil}
use native.Mathlib.Nat.{zero-mul, suc-mul, zero-add, suc-add, mul-le-mul}
use native.Mathlib.Omega.{arith}
use lib.ListN.{length, replicate, length-append, replicate-append-replicate}
use Rattle.buffer.specs.Buffer.{AllAre}
use Rattle.buffer.specs.Repeat.{times}

pub length_times : (n : ℕ) (w : List ℕ) → length (times n w) ≡ n * length w
unfolding times
length_times zero w = sym (zero-mul (length w))
length_times (suc n) w = let k = length_times n w in let m = suc-mul n (length w) in omega (arith, length-append w (times n w))

-- a bound that a caller can show
pub times_within : (n : ℕ) (w : List ℕ) {a b : ℕ} → n ≤ a → length w ≤ b → length (times n w) ≤ a * b
times_within n w h k = rw length_times (mul-le-mul h k)

pub times_append : (m n : ℕ) (w : List ℕ) → times (m + n) w ≡ times m w ++ times n w
unfolding times
times_append zero n w = rw zero-add
times_append (suc m) n w = rw (suc-add, append_assoc, ← times_append m n w)

pub times_snoc : (n : ℕ) (w : List ℕ) → times (n + 1) w ≡ times n w ++ w
unfolding times
times_snoc n w = times_append n 1 w ∙ rw append-nil

pub times_split : (m n : ℕ) (w : List ℕ) → m ≤ n → times n w ≡ times m w ++ times (n - m) w
times_split m n w h = let k : m + (n - m) ≡ n = omega arith in sym (rw (← times_append, k))

pub times_nil : (n : ℕ) → times n [] ≡ []
unfolding times
times_nil zero = refl
times_nil (suc n) = times_nil n

pub times_run : (n k b : ℕ) → times n (replicate k b) ≡ replicate (n * k) b
unfolding times
times_run zero k b = rw zero-mul
times_run (suc n) k b = let m : suc n * k ≡ k + n * k = omega (arith, suc-mul n k) in rw (m, ← replicate-append-replicate, times_run n k b)

-- a text of one kind of byte
pub times_alike : (w : List ℕ) (n b k : ℕ) (same : Bool) → AllAre w b same → same ≡ true → k ≡ length (times n w) → times n w ≡ replicate k b
times_alike w n b k same h e l = ap (times n) (h.yes e) ∙ times_run n (length w) b ∙ ap (λ (i : ℕ). replicate i b) (sym (l ∙ length_times n w))

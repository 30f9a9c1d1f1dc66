-- A number that is spelled in decimal digits is read back: `number_back`.
use Prim.Native.Nat.{ℕ, zero, suc, ◌+◌, ◌*◌, ◌-◌, ◌/◌, ◌%◌, ◌^◌, ◌<◌}
use native.Mathlib.Omega.{arith}
use native.Mathlib.Nat.{mod-lt, div-add-mod', div-lt_iff_lt-mul, pow-suc}
use mathlib.Core.List.{List, [], ◌∷◌, ◌++◌, append_assoc}
use mathlib.Core.Bool.{cond}
use lib.Dec.{ltb}
use mathlib.Core.Path.{◌≡◌, ◌∙◌}
use borrow.Author.Tests.{lt-ltb, le-ltb, lt-leb}
use Rattle.rules.specs.Basics.{choose}
use Rattle.replay_run.specs.Stored.{number_at, number_in}

-- the ASCII code of a digit below 16: `0` to `9`, then `a` to `f`
abbrev pub hex_digit_ascii : ℕ → ℕ
hex_digit_ascii d = cond (ltb d 10) (48 + d) (87 + d)

-- the last k digits of n in base b, the most significant first
abbrev pub last_digits : ℕ → ℕ → ℕ → List ℕ
last_digits b zero n = []
last_digits b (suc k) n = last_digits b k (n / b) ++ (hex_digit_ascii (n % b) ∷ [])

-- one digit more
next_digit : (n d at : ℕ) (t : List ℕ) → n < 100000000 → d < 10 → number_at n at (hex_digit_ascii d ∷ t) ≡ number_at (n * 10 + d) (at + 1) t
unfolding number_at choose
next_digit n d at t h k =
    let e : 48 + d - 48 ≡ d = omega arith in
    rw (lt-ltb d 10 k, le-ltb (48 + d) 48 (omega arith), le-ltb 57 (48 + d) (omega arith), lt-leb 100000000 n h, e)

spelled : (k n at : ℕ) (t : List ℕ) → n < 10 ^ k → n < 1000000000 → number_at 0 at (last_digits 10 k n ++ t) ≡ number_at n (at + k) t
spelled zero n at t h l =
    let e : n ≡ 0 = omega arith in
    let z : at + 0 ≡ at = omega arith in
    rw (e, z)
spelled (suc k) n at t h l =
    let m : n % 10 < 10 = mod-lt n (omega arith) in
    let e : n / 10 * 10 + n % 10 ≡ n = div-add-mod' n 10 in
    let p : n < 10 ^ k * 10 = rw (pow-suc 10 k) at h in
    let q : at + k + 1 ≡ at + suc k = omega arith in
    rw append_assoc
    (spelled k (n / 10) at (hex_digit_ascii (n % 10) ∷ t) ((div-lt_iff_lt-mul (omega arith)).1 p) (omega arith)
    ∙ next_digit (n / 10) (n % 10) (at + k) t (omega arith) m
    ∙ rw (e, q))

-- the k digits of n, then a space
pub number_back : (k n : ℕ) (t : List ℕ) → n < 10 ^ k → n < 1000000000 → number_in (last_digits 10 k n ++ (32 ∷ t)) 0 ≡ record { value = n; next = k + 1 }
unfolding number_at choose
number_back k n t h l =
    let z : 0 + k ≡ k = omega arith in
    spelled k n 0 (32 ∷ t) h l ∙ rw z

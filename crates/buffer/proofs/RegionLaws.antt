-- Laws on parts of a buffer: what a region that is written holds, what the other regions then hold, and what comes back
-- of a part that was lent.
use mathlib.Core.Path.{◌≡◌, sym, ap, ◌∙◌}
use mathlib.Core.List.{List, [], ◌∷◌, ◌++◌, append_assoc, append-nil}
use Prim.Native.Nat.{ℕ, zero, suc, ◌+◌, ◌-◌, ◌≤◌, ◌<◌}
use native.Mathlib.Nat.{add-zero}
use native.Mathlib.Numerals.{add-one}
use native.Mathlib.Omega.{arith}
use lib.ListN.{length, get_or, take, drop, set, length-append, length-drop, take-append-drop, drop_of_length-le}
use lib.Seq.{length-take-le, take-add, take_all, take-nil, take_at, drop_at, append_snoc, drop-drop, set_split, take-suc, get_or-drop}
use Rattle.buffer.specs.Buffer.{part, put}

-- a part that runs to the end, `&s[a..]`
pub part_from : (s : List ℕ) (a : ℕ) → part s a (length s) ≡ drop a s
part_from s a = take_all (length s - a) (drop a s) (omega (arith, length-drop a s))

-- a part of a part, and a part's length
pub drop_take : (a e : ℕ) (s : List ℕ) → drop a (take e s) ≡ take (e - a) (drop a s)
drop_take zero e s = let n : e - 0 ≡ e = omega arith in rw n
drop_take (suc a) zero s = let n : 0 - suc a ≡ 0 = omega arith in rw n
drop_take (suc a) (suc e) [] = sym (take-nil (suc e - suc a))
drop_take (suc a) (suc e) (x ∷ s) = let n : suc e - suc a ≡ e - a = omega arith in rw n (drop_take a e s)

pub length_part : (s : List ℕ) (a n : ℕ) → a + n ≤ length s → length (part s a (a + n)) ≡ n
length_part s a n h = length-take-le (a + n - a) (drop a s) (omega (arith, length-drop a s)) ∙ omega arith

-- what comes back of it where it was lent, `g(&mut s[a..])`, and the callee left y in it
pub back_from : (s y : List ℕ) (a : ℕ) → take a s ++ (y ++ drop (length s - a) (drop a s)) ≡ take a s ++ y
back_from s y a = rw (drop_of_length-le (drop a s) {i = length s - a} (omega (arith, length-drop a s)), append-nil)

pub put_nil : (d : List ℕ) (at : ℕ) → put d at [] ≡ d
unfolding put
put_nil d at = simp (append-nil, add-zero, take-append-drop)

head_length : (d : List ℕ) (at : ℕ) (x : List ℕ) → at ≤ length d → length (take at d ++ x) ≡ at + length x
head_length d at x h = length-append (take at d) x ∙ ap (λ (n : ℕ). n + length x) (length-take-le at d h)

pub length_put : (d : List ℕ) (at : ℕ) (x : List ℕ) → at + length x ≤ length d → length (put d at x) ≡ length d
unfolding put
length_put d at x h =
    let n = length-append (take at d ++ x) (drop (at + length x) d) in
    let k = head_length d at x (omega arith) in
    let m = length-drop (at + length x) d in
    omega arith

-- a second region that starts where the first ends
pub put_put : (d : List ℕ) (at : ℕ) (x y : List ℕ) → at + length x ≤ length d → put (put d at x) (at + length x) y ≡ put d at (x ++ y)
unfolding put
put_put d at x y h =
    let k = at + length x in
    let p = take at d ++ x in
    let n : length p ≡ k = head_length d at x (omega arith) in
    let front : take k (p ++ drop k d) ≡ p = take_at p (drop k d) k n in
    let back : drop (k + length y) (p ++ drop k d) ≡ drop (k + length y) d = sym (drop-drop (length y) k (p ++ drop k d)) ∙ ap (drop (length y)) (drop_at p (drop k d) k n) ∙ drop-drop (length y) k d in
    let e : at + length (x ++ y) ≡ k + length y = omega (arith, length-append x y) in
    rw (front, back, e, ← append_assoc)

-- what comes back of a part that was lent, `g(&mut s[a..e])`, where the callee left y in it
pub put_back : (d y : List ℕ) (a k : ℕ) → length y ≡ k → take a d ++ (y ++ drop k (drop a d)) ≡ put d a y
unfolding put
put_back d y a k e = rw (drop-drop, ← append_assoc, e)

-- one store is a region of one element
pub set_put : (d : List ℕ) (i v : ℕ) → i < length d → set d i v ≡ put d i (v ∷ [])
unfolding put
set_put d i v h = set_split d i v h ∙ rw (add-one, append_snoc)

-- a part that is one element longer
pub part_more : (d : List ℕ) (a e : ℕ) → a ≤ e → e < length d → part d a (e + 1) ≡ part d a e ++ get_or d e 0 ∷ []
part_more d a e h k =
    let n : e + 1 - a ≡ suc (e - a) = omega arith in
    let m : a + (e - a) ≡ e = omega arith in
    rw (n, take-suc (drop a d) (e - a) 0 (omega (arith, length-drop a d)), get_or-drop, m)

-- a part in two
pub part_join : (s : List ℕ) (i a e : ℕ) → i ≤ a → a ≤ e → part s i e ≡ part s i a ++ part s a e
part_join s i a e h k =
    let n : e - i ≡ (a - i) + (e - a) = omega arith in
    let m : i + (a - i) ≡ a = omega arith in
    rw (n, take-add (a - i) (e - a) (drop i s), drop-drop (a - i) i s, m)

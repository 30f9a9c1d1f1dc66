-- UTF-8 here is that of the library, of which `str` is.
--     prefix_all     where all is UTF-8
--     prefix_valid   where the library's longest front that is UTF-8 ends
use Prim.Native.Nat.{ℕ, ◌≤◌}
use mathlib.Core.Bool.{true}
use mathlib.Core.List.{List, [], ◌∷◌, ◌++◌, append-nil}
use mathlib.Core.Logic.{⊎_elim}
use mathlib.Core.Path.{◌≡◌, refl, sym, ap, ◌∙◌}
use native.Mathlib.Omega.{arith}
use borrow.Author.Tests.{le-leb, le-ltb, lt-ltb}
use lib.ListN.{length, take, drop, length-take, take-append-drop}
use lib.Dec.{T}
use lib.Utf8.{scalar, scalars, encode as std_encode, encodes, scalar_cases, low_scalar}
use Rattle.std.specs.Str.{IsUtf8, IsValidUpTo}
use Rattle.utf8.specs.Unicode.{is_scalar, Scalars, encode_char, encode, decode, prefix_len}
use Rattle.utf8.proofs.Tests.{split, and_left, and_right}
use Rattle.utf8.proofs.Table.{scalar_low, scalar_high, scalar_range}
use Rattle.utf8.proofs.Decode.{decode_scalars, prefix_split, prefix_longest}

same_char : (c : ℕ) → std_encode c ≡ encode_char c
unfolding std_encode encode_char
same_char c = refl

same_bytes : (cs : List ℕ) → encodes cs ≡ encode cs
unfolding encode
same_bytes [] = refl
same_bytes (c ∷ cs) = rw (same_char c, same_bytes cs)

scalar_here : (c : ℕ) → scalar c ≡ true → T (is_scalar c)
scalar_here c e = ⊎_elim (λ h. scalar_low c h) (λ h. scalar_high c h.0 (omega (arith, h.1))) (scalar_cases c e)

scalars_here : (cs : List ℕ) → scalars cs ≡ true → Scalars cs
scalars_here [] e = tt
scalars_here (c ∷ cs) e = (scalar_here c (and_left (scalar c) (scalars cs) e), scalars_here cs (and_right (scalar c) (scalars cs) e))

scalar_there : (c : ℕ) → T (is_scalar c) → scalar c ≡ true
scalar_there c t = ⊎_elim (λ h. low_scalar c h)
    (λ h. simp (le-ltb c 55296 (omega (arith, h.0)), le-leb 57344 c h.0, lt-ltb c 1114112 (omega (arith, h.1)))) (scalar_range c t)

scalars_there : (cs : List ℕ) → Scalars cs → scalars cs ≡ true
scalars_there [] s = refl
scalars_there (c ∷ cs) s = rw (scalar_there c s.0) (scalars_there cs s.1)

-- a front that is UTF-8 is within the prefix
front_within : (s front : List ℕ) (rest : List ℕ) → IsUtf8 front → s ≡ front ++ rest → length front ≤ prefix_len s
front_within s front rest u e =
    let b : encode u.0 ≡ front = sym (same_bytes u.0) ∙ u.1.1 in
    omega (arith, prefix_longest s u.0 rest (scalars_here u.0 u.1.0) (e ∙ ap (λ (l : List ℕ). l ++ rest) (sym b)), ap length b)

prefix_fits : (s : List ℕ) → prefix_len s ≤ length s
prefix_fits s = omega (arith, ap length (prefix_split s), length-take (prefix_len s) s)

prefix_utf8 : (s : List ℕ) → IsUtf8 (take (prefix_len s) s)
prefix_utf8 s = (decode s, (scalars_there (decode s) (decode_scalars s), same_bytes (decode s) ∙ sym (prefix_split s)))

pub prefix_all : (s : List ℕ) → IsUtf8 s → length s ≡ prefix_len s
prefix_all s u = omega (arith, front_within s s [] u (sym (append-nil s)), prefix_fits s)

pub prefix_valid : (s : List ℕ) (n : ℕ) → IsValidUpTo s n → n ≡ prefix_len s
prefix_valid s n v =
    let k : length (take n s) ≡ n = simp length-take (omega (arith, v.short)) in
    let a : n ≤ prefix_len s = omega (arith, k, front_within s (take n s) (drop n s) v.front (sym (take-append-drop n s))) in
    ⊎_elim (λ h. absurd (v.longest (prefix_len s) h (prefix_utf8 s))) (λ h. omega arith) (split n (prefix_len s))

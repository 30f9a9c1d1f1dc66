-- A text that was compared with the source, and whether it is the source.
use Prim.Native.Nat.{ℕ}
use native.Mathlib.Omega.{arith}
use mathlib.Core.Bool.{Bool, true, false, true≢false}
use mathlib.Core.List.{List, [], ◌∷◌, ◌++◌, append-nil}
use mathlib.Core.Path.{◌≡◌, sym, ap, ◌∙◌}
use lib.ListN.{length, length-append}
use lib.Seq.{take_all}
use Rattle.utf8.specs.Unicode.{Scalars, encode, decode, WellFormed}
use Rattle.utf8.proofs.Decode.{decode_encode}
use Rattle.utf8.proofs.Tests.{by_test}
use Rattle.rules.specs.Basics.{same, starts_with}
use Rattle.rules.proofs.Prefix.{same_eq, same_itself}
use Rattle.compare.specs.Common.{Tells}
use Rattle.check_rules.proofs.CheckLaws.{starts_append}
use Rattle.check_rules.proofs.ByteLaws.{starts_begins}
use Rattle.check_call.specs.CheckCall.{Compares}

-- a beginning that is as long
none_left : (a more s : List ℕ) → s ≡ a ++ more → length a ≡ length s → a ≡ s
none_left a [] s e h = sym (e ∙ append-nil a)
none_left a (c ∷ more) s e h = absurd (omega (arith, ap length e, length-append a (c ∷ more)))

same_yes : (a s : List ℕ) → a ≡ s → same a s ≡ true
same_yes a s e = ap (λ (x : List ℕ). same x s) e ∙ same_itself s

starts_same : (s a : List ℕ) → length a ≡ length s → starts_with s a ≡ same a s
starts_same s a h =
    by_test (starts_with s a)
    (λ e. let b = starts_begins s a e in e ∙ sym (same_yes a s (none_left a b.more s b.is h)))
    (λ e. by_test (same a s)
    (λ k. absurd (true≢false (sym (starts_append s []) ∙ ap (λ (x : List ℕ). starts_with x s) (append-nil s) ∙ ap (starts_with s) (sym (same_eq a s k)) ∙ e)))
    (λ k. e ∙ sym k))

pub equals_told : (source cell : List ℕ) (n : ℕ) (r : Bool) → n ≡ length source → Tells source cell n r → Compares source cell n r
equals_told source cell n r e t =
    record {
      is = λ text l k.
          t.is text k (omega arith) ∙ ap (starts_with source) (take_all n text (omega arith)) ∙ starts_same source text (omega arith);
    }

pub equals_long : (source cell : List ℕ) (n : ℕ) → (n ≡ length source → ⊥) → Compares source cell n false
equals_long source cell n e =
    record { is = λ text l k. by_test (same text source) (λ s. absurd (e (l ∙ ap length (same_eq text source s)))) (λ s. sym s) }

-- the same of characters
pub same_chars : (source text : List ℕ) → WellFormed source → Scalars text → same (encode text) source ≡ same text (decode source)
same_chars source text w s =
    by_test (same text (decode source))
    (λ e. same_yes (encode text) source (ap encode (same_eq text (decode source) e) ∙ w) ∙ sym e)
    (λ e. by_test (same (encode text) source)
    (λ k. absurd (true≢false (sym (same_yes text (decode source) (sym (decode_encode text s) ∙ ap decode (same_eq (encode text) source k))) ∙ e)))
    (λ k. k ∙ sym e))

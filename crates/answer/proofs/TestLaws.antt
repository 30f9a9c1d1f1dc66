-- The tests of a call that a law of another crate decides.
use Prim.Native.Nat.{ℕ, ◌%◌, ◌≤◌}
use mathlib.Core.List.{List, [], ◌∷◌}
use mathlib.Core.Path.{◌≡◌, sym, ◌∙◌}
use borrow.Author.Tests.{le-ltb, eq-eqb, ne_eqb}
use lib.ListN.{length, get_or}
use Rattle.std.specs.Prelude.{Ok, Err}
use Rattle.utf8.specs.Unicode.{prefix_len}
use Rattle.utf8.proofs.Decode.{test_whole, test_part}
use Rattle.rules.specs.Refusals.{Verdict, scratch_needed, tested, short_scratch, ill_formed, wrong_length, bits_set}
use Rattle.rules.specs.Strengths.{table_length, last_bits}
use Rattle.rules.specs.declared.Refusal.{Refusal}
use Rattle.operators.proofs.StrengthLaws.{last_field}

module _
    (source : List ℕ) (each scratch : ℕ) (h : scratch_needed each source ≤ scratch) (prefix : ℕ) (e : prefix ≡ prefix_len source)
  where
    pub not_utf8 : (prefix ≡ length source → ⊥)
        → Err (Refusal.NotUtf8 prefix) ≡ tested (short_scratch (scratch_needed each source) scratch ∷ ill_formed source ∷ [])
    not_utf8 n = rw (le-ltb scratch (scratch_needed each source) h, test_part source (λ p. n (e ∙ p)), e)

    pub bytes_pass : prefix ≡ length source → Ok tt ≡ tested (short_scratch (scratch_needed each source) scratch ∷ ill_formed source ∷ [])
    bytes_pass p = rw (le-ltb scratch (scratch_needed each source) h, test_whole source (sym e ∙ p))

-- the table of strengths
module _ (table : List ℕ) (h : length table ≡ table_length) where
  abbrev strength_tests : Verdict
  strength_tests = tested (wrong_length table ∷ bits_set table ∷ [])

  pub bits_set_law : (get_or table 10 0 % 16 ≡ 0 → ⊥) → Err Refusal.StrengthsBits ≡ strength_tests
  bits_set_law k = rw (eq-eqb (length table) table_length h, ne_eqb (last_bits table) 0 (λ e. k (sym (last_field table) ∙ e)))

  pub bits_clear : get_or table 10 0 % 16 ≡ 0 → Ok tt ≡ strength_tests
  bits_clear k = rw (eq-eqb (length table) table_length h, eq-eqb (last_bits table) 0 (last_field table ∙ k))

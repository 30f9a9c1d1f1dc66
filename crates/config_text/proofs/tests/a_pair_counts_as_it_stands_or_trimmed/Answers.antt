use Prim.Native.Nat.{ℕ}
use mathlib.Core.Bool.{true}
use mathlib.Core.List.{List, [], ◌∷◌}
use mathlib.Core.Path.{◌≡◌, refl}
use borrow.Author.Tests.{ltb-true}
use lib.Dec.{ltb}
use Rattle.utf8.specs.Unicode.{WellFormed}
use Rattle.utf8.proofs.Decode.{Ascii, wf_ascii}
use Rattle.utf8.proofs.Tests.{and_left, and_right}
use Rattle.rules.proofs.StartsBytes.{all_ascii}
use Rattle.config_lines.specs.Kinds.{Parts}
use Rattle.config_text.proofs.tests.a_pair_counts_as_it_stands_or_trimmed.Goals as goal

low : (s : List ℕ) → all_ascii s ≡ true → Ascii s
low [] a = tt
low (c ∷ s) a = (ltb-true c 0x80 (and_left (ltb c 0x80) (all_ascii s) a), low s (and_right (ltb c 0x80) (all_ascii s) a))

well : (s : List ℕ) → all_ascii s ≡ true → WellFormed s
well s a = wf_ascii s (low s a)

pub kind_of-spaced-requires : goal.kind_of-spaced-requires
kind_of-spaced-requires g c = well _ refl

pub root_after-requires-2 : goal.root_after-requires-2
unfolding Parts
root_after-requires-2 g c = (well _ refl, well _ refl)

pub root_after_trimming-requires-2 : goal.root_after_trimming-requires-2
unfolding Parts
root_after_trimming-requires-2 g c = (well _ refl, well _ refl)

pub kind_of-spaced-requires-2 : goal.kind_of-spaced-requires-2
kind_of-spaced-requires-2 g c = well _ refl

pub values_after-requires-2 : goal.values_after-requires-2
unfolding Parts
values_after-requires-2 g c = (well _ refl, well _ refl)

pub values_after-requires-3 : goal.values_after-requires-3
unfolding Parts
values_after-requires-3 g c = (well _ refl, well _ refl)

-- What one item says of a string, by its first character; and the tokens that code holds.
use Prim.Native.Nat.{ℕ, zero, suc, ◌<◌}
use mathlib.Core.Bool.{Bool, ◌&&◌, ◌||◌, and-false, or-false}
use mathlib.Core.List.{List, [], ◌∷◌}
use mathlib.Core.Path.{◌≡◌, refl, sym, ap}
use native.Mathlib.Omega.{arith}
use lib.Dec.{eqb}
use lib.ListN.{length, drop, get_or}
use Rattle.rules.specs.Basics.{is, first_is}
use Rattle.config_rules.specs.Numbers.{in_range}
use Rattle.config_rules.specs.Name.{Item}
use Rattle.config_rules.specs.Name.Item.{part, same, one, run, ahead, range}
use Rattle.config_rules.specs.Globs.{Strings, one_then, run_then, some_then, ahead_then, item_then}
use Rattle.glob_pass.specs.declared.Known.{Known}
use Rattle.glob_pass.specs.declared.kinds.Kind.{Kind}
use Rattle.glob_pass.specs.Kinds.{held_at, held}
use Rattle.glob_pass.specs.Pass.{before, value_at, Heads}

one_first : (p : ℕ → Bool) (k : Strings) (s : List ℕ) (c : ℕ) → Heads c s → one_then p k s ≡ (p c && before k s)
unfolding one_then before
one_first p k [] c h = sym (and-false (p c))
one_first p k (d ∷ s) c h = rw h

run_first : (p : ℕ → Bool) (k : Strings) (s : List ℕ) (c : ℕ) → Heads c s
    → run_then p k s ≡ (k s || (p c && before (run_then p k) s))
unfolding run_then before
run_first p k [] c h = rw (and-false (p c), or-false (k []))
run_first p k (d ∷ s) c h = rw h

ahead_first : (k : Strings) (s : List ℕ) (c : ℕ) → Heads c s → ahead_then k s ≡ (is "/" c && k s)
unfolding ahead_then first_is
ahead_first k [] c h = rw h
ahead_first k (d ∷ s) c h = rw h

abbrev pub known : Bool → Bool → Bool → Bool → Known
known next old prior hit = record { next = next; old = old; prior = prior; hit = hit }

pub item_first : (i : Item) (k : Strings) (s : List ℕ) (c : ℕ) (hit : Bool) → Heads c s
    → ((m n : List ℕ) → i ≡ range m n → hit ≡ some_then (in_range m n) k s)
    → item_then i k s ≡ value_at i c (known (k s) (before (item_then i k) s) (before k s) hit)
unfolding item_then value_at
item_first part k s c hit h e = refl
item_first (same d) k s c hit h e = one_first (eqb d) k s c h
item_first (one p) k s c hit h e = one_first p k s c h
item_first (run p) k s c hit h e = run_first p k s c h
item_first ahead k s c hit h e = ahead_first k s c h
item_first (range m n) k s c hit h e = sym (e m n refl)

-- ---- the tokens held

pub length_held : (ks : List Kind) (cs : List ℕ) → length ks ≡ length cs → length (held ks cs) ≡ length ks
unfolding held
length_held [] cs e = refl
length_held (k ∷ ks) [] e = absurd (omega arith)
length_held (k ∷ ks) (c ∷ cs) e = ap suc (length_held ks cs (omega arith))

pub held_at_law : (ks : List Kind) (cs : List ℕ) (q : ℕ) (d : Kind) → length ks ≡ length cs → q < length ks
    → drop q (held ks cs) ≡ held_at (get_or ks q d) (drop q cs) ∷ drop (suc q) (held ks cs)
unfolding held
held_at_law [] cs q d e h = absurd (omega arith)
held_at_law (k ∷ ks) [] q d e h = absurd (omega arith)
held_at_law (k ∷ ks) (c ∷ cs) zero d e h = refl
held_at_law (k ∷ ks) (c ∷ cs) (suc q) d e h = held_at_law ks cs q d (omega arith) (omega arith)

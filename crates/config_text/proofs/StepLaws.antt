-- What one line does, by its kind.
use Rattle.std.specs.Prelude.{Option, Some, None}
use Prim.Native.Nat.{ℕ, ◌≤◌}
use denote.Ref.{Bor}
use mathlib.Core.Bool.{Bool, true, false, ◌||◌}
use mathlib.Core.List.{List, [], ◌∷◌}
use mathlib.Core.Path.{◌≡◌, refl, ◌∙◌}
use borrow.Author.Tests.{ltb-false}
use lib.Dec.{ltb}
use lib.ListN.{length}
use Rattle.utf8.specs.Unicode.{decode, WellFormed, trim}
use Rattle.rules.specs.Basics.{choose, codes, same}
use Rattle.rules.specs.declared.Resolved.{Resolved}
use Rattle.config_rules.specs.Lines.{lower}
use Rattle.config_rules.specs.Lines.Line.{pair}
use Rattle.config_rules.specs.Values.{superseded}
use Rattle.config_rules.specs.Sections.{long_name}
use Rattle.config_lines.specs.Words.{Trimmed}
use Rattle.config_lines.specs.Kinds.{line_in, trimmed_line_in, Parts}
use Rattle.config_lines.specs.declared.kinds.LineKind.{LineKind}
use Rattle.config_lines.proofs.LineBytes.{word_decode}
use Rattle.config_lines.proofs.PairLaws.{superseded_decode}
use Rattle.config_text.specs.Steps.{root_after, applies_after, values_after}

-- ---- a header

module _ (line : Option LineKind) (name : Bor (List ℕ)) (e : line ≡ Some (LineKind.Header name)) where
  pub name_well : Parts line → WellFormed name.now
  unfolding Parts
  name_well p = rw e at p

  long_is : ltb 1024 (length (decode name.now)) ≡ long_name (line_in line ∷ [])
  unfolding long_name line_in
  long_is = rw e (or_false (ltb 1024 (length (decode name.now))))
    where
      or_false : (b : Bool) → b ≡ (b || false)
      or_false true = refl
      or_false false = refl

  pub name_fits : long_name (line_in line ∷ []) ≡ false → length (decode name.now) ≤ 1024
  name_fits q = ltb-false 1024 (length (decode name.now)) (long_is ∙ q)

-- ---- what is asked of headers alone: trimming a pair changes nothing

pub long_trimmed : (line : Option LineKind) → long_name (trimmed_line_in line ∷ []) ≡ long_name (line_in line ∷ [])
unfolding trimmed_line_in line_in long_name
long_trimmed None = refl
long_trimmed (Some (LineKind.Header name)) = refl
long_trimmed (Some (LineKind.Pair k v)) = refl

pub applies_trimmed : (rel : List ℕ) (applies : Bool) (line : Option LineKind)
    → applies_after rel applies (trimmed_line_in line) ≡ applies_after rel applies (line_in line)
unfolding trimmed_line_in line_in applies_after
applies_trimmed rel applies None = refl
applies_trimmed rel applies (Some (LineKind.Header name)) = refl
applies_trimmed rel applies (Some (LineKind.Pair k v)) = refl

-- ---- a pair of which the bytes key and value are the characters k and v

module _ (key k : List ℕ) (w : WellFormed key) (d : decode key ≡ k) where
  key_same : same (lower key) (codes "root") ≡ same (lower k) (codes "root")
  key_same = word_decode (codes "root") refl key w ∙ rw d

  other_key : (b : Bool) → b ≡ same (lower key) (codes "root") → b ≡ false → (root : Bool) (v : List ℕ) → root ≡ root_after root (pair (lower k) v)
  unfolding root_after choose
  other_key b q n root v = rw (← key_same, ← q, n)

  module _ (value v : List ℕ) (x : WellFormed value) (f : decode value ≡ v) where
    root_pair : (b : Bool) → b ≡ same (lower key) (codes "root") → b ≡ true → (root r : Bool) → r ≡ same (lower value) (codes "true")
        → r ≡ root_after root (pair (lower k) (lower v))
    unfolding root_after choose
    root_pair b q y root r z = rw (← key_same, ← q, y) (z ∙ word_decode (codes "true") refl value x ∙ rw f)

    counted_pair : (old r : Resolved) (applies : Bool) → applies ≡ true → r ≡ superseded old (lower key) (lower value)
        → r ≡ values_after applies old (pair (lower k) (lower v))
    unfolding values_after choose
    counted_pair old r applies y q = rw y (q ∙ superseded_decode old key value w x ∙ rw (d, f))

-- ---- a pair, its key and value as they stand, and trimmed

module _ (line : Option LineKind) (k v : Bor (List ℕ)) (e : line ≡ Some (LineKind.Pair k v)) (p : Parts line) where
  pair_well : WellFormed k.now × WellFormed v.now
  unfolding Parts
  pair_well = rw e at p

  pub key_well : WellFormed k.now
  key_well = pair_well.0

  pub value_well : WellFormed v.now
  value_well = pair_well.1

  pub root_set : (b : Bool) → b ≡ same (lower k.now) (codes "root") → b ≡ true → (root r : Bool) → r ≡ same (lower v.now) (codes "true")
      → r ≡ root_after root (line_in line)
  unfolding line_in
  root_set b q y root r z = rw e (root_pair k.now (decode k.now) key_well refl v.now (decode v.now) value_well refl b q y root r z)

  pub root_kept : (b : Bool) → b ≡ same (lower k.now) (codes "root") → b ≡ false → (root : Bool) → root ≡ root_after root (line_in line)
  unfolding line_in
  root_kept b q n root = rw e (other_key k.now (decode k.now) key_well refl b q n root (lower (decode v.now)))

  pub values_set : (old r : Resolved) (applies : Bool) → applies ≡ true → r ≡ superseded old (lower k.now) (lower v.now)
      → r ≡ values_after applies old (line_in line)
  unfolding line_in
  values_set old r applies y q = rw e (counted_pair k.now (decode k.now) key_well refl v.now (decode v.now) value_well refl old r applies y q)

  pub values_kept : (old : Resolved) (applies : Bool) → applies ≡ false → old ≡ values_after applies old (line_in line)
  unfolding values_after line_in choose
  values_kept old applies n = rw (e, n)

  pub trimmed_values_kept : (old : Resolved) (applies : Bool) → applies ≡ false → old ≡ values_after applies old (trimmed_line_in line)
  unfolding values_after trimmed_line_in choose
  trimmed_values_kept old applies n = rw (e, n)

  module _ (key : List ℕ) (a : Trimmed k.now key) where
    pub trimmed_root_kept : (b : Bool) → b ≡ same (lower key) (codes "root") → b ≡ false → (root : Bool) → root ≡ root_after root (trimmed_line_in line)
    unfolding trimmed_line_in
    trimmed_root_kept b q n root = rw e (other_key key (trim (decode k.now)) a.well a.is b q n root (lower (trim (decode v.now))))

    module _ (value : List ℕ) (z : Trimmed v.now value) where
      pub trimmed_root_set : (b : Bool) → b ≡ same (lower key) (codes "root") → b ≡ true → (root r : Bool) → r ≡ same (lower value) (codes "true")
          → r ≡ root_after root (trimmed_line_in line)
      unfolding trimmed_line_in
      trimmed_root_set b q y root r n = rw e (root_pair key (trim (decode k.now)) a.well a.is value (trim (decode v.now)) z.well z.is b q y root r n)

      pub trimmed_values_set : (old r : Resolved) (applies : Bool) → applies ≡ true → r ≡ superseded old (lower key) (lower value)
          → r ≡ values_after applies old (trimmed_line_in line)
      unfolding trimmed_line_in
      trimmed_values_set old r applies y q = rw e (counted_pair key (trim (decode k.now)) a.well a.is value (trim (decode v.now)) z.well z.is old r applies y q)

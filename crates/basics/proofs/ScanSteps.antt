-- One byte of a line read: what the scan makes of the rest, and the class byte that is written.
use Prim.Native.Nat.{ℕ, ◌+◌, ◌<◌}
use mathlib.Core.Path.{◌≡◌}
use mathlib.Core.List.{List, ◌∷◌, ◌++◌, append_assoc}
use native.Mathlib.Numerals.{add-one}
use lib.ListN.{length, take, drop, set}
use lib.Seq.{drop-cons, take-suc-set}
use Rattle.rules.specs.declared.Mark.{Mark}
use Rattle.rules.specs.Scan.{next, scan, final, classes_of}
use Rattle.rules.specs.ClassBytes.{class_byte, class_bytes}

-- a byte that is written at the place reached
pub written_more : (done rest : List ℕ) (i b : ℕ) → i < length done → take i done ++ (b ∷ rest) ≡ take (i + 1) (set done i b) ++ rest
written_more done rest i b l = rw (add-one, take-suc-set, append_assoc)

pub classes_more : (line : List ℕ) (t : Mark) (i : ℕ) → i < length line → class_bytes (scan t (drop i line)) ≡ class_byte (next t (drop i line)).class ∷ class_bytes (scan (next t (drop i line)) (drop (i + 1) line))
unfolding scan classes_of
classes_more line t i l = rw (add-one, drop-cons line i 0)

pub final_more : (line : List ℕ) (t : Mark) (i : ℕ) → i < length line → final t (drop i line) ≡ final (next t (drop i line)) (drop (i + 1) line)
unfolding final
final_more line t i l = rw (add-one, drop-cons line i 0)

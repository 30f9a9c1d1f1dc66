-- A line of code classified in the buffer that it stands in.
use Prim.Native.Nat.{ℕ, ◌+◌, ◌-◌, ◌≤◌}
use mathlib.Core.List.{List, ◌++◌}
use mathlib.Core.Path.{◌≡◌, refl, sym, ap, ◌∙◌}
use native.Mathlib.Omega.{arith}
use lib.ListN.{length, take, drop, length-drop, length-append}
use lib.Seq.{take-append_seam, drop-append_seam}
use Rattle.buffer.specs.Buffer.{part}
use Rattle.rules.specs.declared.Carry.{Carry}
use Rattle.rules.specs.Scan.{classify}
use Rattle.rules.specs.ClassBytes.{class_bytes}
use Rattle.rules.proofs.CellsLaws.{length_class_bytes, length_classify}
use Rattle.basics.specs.Region.{Only}
use Rattle.basics.proofs.SplitLaws.{front_part, front_long, after_back, only_from}
use Rattle.scan.specs.Classified.{Classified}
use Rattle.scan.specs.Within.{ClassRoom, ClassifiedAt}

module _ {y : Carry} {line before after : List ℕ} {r : Carry} (w : Classified y line before after r) (fits : length line ≤ length before) where
  long : length line ≡ length (class_bytes (classify y line))
  long = sym (length_class_bytes (classify y line) ∙ length_classify y line)

  pub written : take (length line) after ≡ class_bytes (classify y line)
  written =
      ap (take (length line)) w.bytes
      ∙ ap (λ (n : ℕ). take n (class_bytes (classify y line) ++ drop (length line) before)) long
      ∙ take-append_seam (class_bytes (classify y line)) (drop (length line) before)

  pub only : Only before after 0 (0 + length line)
  only =
      let l : 0 + length line ≡ length (class_bytes (classify y line)) = omega (arith, long) in
      let k : 0 + length line ≡ length line = omega arith in
      record {
        long = omega (arith, ap length w.bytes, length-append (class_bytes (classify y line)) (drop (length line) before), long, length-drop (length line) before);
        front = refl;
        back =
            ap (drop (0 + length line)) w.bytes
            ∙ ap (λ (n : ℕ). drop n (class_bytes (classify y line) ++ drop (length line) before)) l
            ∙ drop-append_seam (class_bytes (classify y line)) (drop (length line) before)
            ∙ ap (λ (n : ℕ). drop n before) (sym k);
      }

-- the buffer is front and back, and the class bytes go to the front of back
module _ (buf front back after : List ℕ) (at n class : ℕ) (r : Carry) (fits : ClassRoom buf at n class) (f : front ≡ take class buf) (g : back ≡ drop class buf) where
  line_long : length (part front at (at + n)) ≡ n
  line_long = front_long buf front class at n f fits.apart (omega (arith, fits.room))

  pub classified_at : Classified Carry.Code (part front at (at + n)) back after r → ClassifiedAt buf at n class (front ++ after) r
  classified_at w =
      let l : part front at (at + n) ≡ part buf at (at + n) = front_part buf front class at n f fits.apart in
      let h : length (part front at (at + n)) ≤ length back = omega (arith, line_long, ap length g, length-drop class buf, fits.room) in
      let e : class + n - class ≡ n = omega arith in
      record {
        bytes = rw (e, after_back buf front back after class (omega (arith, fits.room)) f g) (rw line_long at (written w h) ∙ rw l);
        carry = w.carry ∙ rw l;
        depth = omega (arith, w.depth, line_long);
        only = only_from buf front back after class (omega (arith, fits.room)) f g n (rw line_long at (only w h));
      }

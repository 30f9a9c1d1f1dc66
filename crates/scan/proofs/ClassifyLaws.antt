-- The loop of `classify`, from stretch to stretch.
use Prim.Native.Nat.{ℕ, ◌+◌, ◌≤◌, zero-le}
use mathlib.Core.Path.{◌≡◌, refl, sym, ◌∙◌}
use mathlib.Core.List.{List, [], append-nil}
use native.Mathlib.Omega.{arith}
use lib.ListN.{length, take, drop, drop_of_length-le, take-append-drop}
use Rattle.rules.specs.declared.Carry.{Carry}
use Rattle.rules.specs.Scan.{scan, final, classes_of, classify, carry_after, begin, mode_of, open_after}
use Rattle.rules.specs.ClassBytes.{class_bytes}
use Rattle.basics.specs.Depth.{carry_depth}
use Rattle.scan.specs.declared.Stop.{Stop}
use Rattle.scan.specs.Classified.{Classified}
use Rattle.scan.specs.Stretch.{Scanned, Stretch}
use Rattle.scan.proofs.ScannedLaws.{scanned_start, scanned_then}

-- before place i of the line, with y open there
pub record Reached (line : List ℕ) (carry : Carry) (class₀ class : List ℕ) (i : ℕ) (y : Carry) : Type 0 where
  pub scanned : Scanned line (begin carry) 0 class₀ (begin y) i class
  pub depth : carry_depth y ≤ carry_depth carry + i

pub reached_start : (line : List ℕ) (carry : Carry) (class : List ℕ) → Reached line carry class class 0 carry
reached_start line carry class = record { scanned = scanned_start line (begin carry) 0 class zero-le; depth = omega arith }

open_again : (y : Carry) → open_after (mode_of y) ≡ y
open_again Carry.Code = refl
open_again (Carry.Block d) = refl
open_again Carry.Prefab = refl

module _ {line : List ℕ} {carry : Carry} {class₀ class : List ℕ} {i : ℕ} {y : Carry} (p : Reached line carry class₀ class i y) where
  pub reached_more : {r : Stop} {after : List ℕ} → Stretch line y i class r after → Reached line carry class₀ after r.at r.carry
  reached_more s = record { scanned = scanned_then p.scanned s.scanned; depth = omega (arith, p.depth, s.depth) }

  pub reached_end : length line ≤ i → Classified carry line class₀ class y
  unfolding scan classes_of final classify carry_after
  reached_end l =
      let d : drop i line ≡ [] = drop_of_length-le line l in
      let k : i ≡ length line = omega (arith, p.scanned.moved.within) in
      let w : class_bytes (scan (begin carry) line) ≡ take (length line) class = p.scanned.bytes ∙ rw (d, k, append-nil) in
      let o : open_after (final (begin carry) line).mode ≡ y = p.scanned.carry ∙ rw d (open_again y) in
      record {
        bytes = sym (take-append-drop (length line) class) ∙ rw (← w, p.scanned.beyond);
        carry = sym o;
        depth = omega (arith, p.depth);
      }

-- Reading on: from one mark to the next, over a mark of several bytes, at the line's end.
use Prim.Native.Nat.{ℕ, zero, suc, ◌+◌, ◌-◌, ◌<◌, ◌≤◌}
use mathlib.Core.Path.{◌≡◌, refl, ◌∙◌}
use mathlib.Core.List.{List, [], ◌∷◌}
use native.Mathlib.Nat.{le_refl, add-zero}
use native.Mathlib.Omega.{arith}
use lib.ListN.{length, drop, set, replicate, length-set, drop_of_length-le}
use lib.Seq.{drop-set-lt}
use Rattle.buffer.specs.Buffer.{put}
use Rattle.buffer.proofs.RegionLaws.{put_nil, put_put, set_put}
use Rattle.rules.specs.declared.Class.{Class}
use Rattle.rules.specs.declared.Mode.{Mode}
use Rattle.rules.specs.declared.Mark.{Mark}
use Rattle.rules.specs.Scan.{long, one, next, mark_at, scan, final, classes_of, open_after}
use Rattle.rules.specs.ClassBytes.{class_byte, class_bytes}
use Rattle.basics.proofs.ScanSteps.{written_more, classes_more, final_more}
use Rattle.scan.specs.Stretch.{Moved, Scanned, fresh}

pub moved_start : (line : List ℕ) (a : ℕ) (class : List ℕ) → a ≤ length line → Moved line a class a class
moved_start line a class l = record { on = le_refl a; within = l; as_long = refl }

pub moved_then : {line : List ℕ} {a e f : ℕ} {x y z : List ℕ} → Moved line a x e y → Moved line e y f z → Moved line a x f z
moved_then p q = record { on = omega arith; within = q.within; as_long = q.as_long ∙ p.as_long }

pub moved_one : (line : List ℕ) (i : ℕ) (class : List ℕ) (b : ℕ) → i < length line → Moved line i class (i + 1) (set class i b)
moved_one line i class b l = record { on = omega arith; within = omega arith; as_long = length-set class i b }

pub moved_last : (line : List ℕ) (i : ℕ) (class : List ℕ) (b : ℕ) → i < length line → Moved line (i + 1) class (i + 1) (set class i b)
moved_last line i class b l = record { on = le_refl _; within = omega arith; as_long = length-set class i b }

pub moved_two : (line : List ℕ) (i : ℕ) (class : List ℕ) (b : ℕ) → i + 1 < length line → Moved line (i + 1) class (i + 2) (set (set class i b) (i + 1) b)
moved_two line i class b l = record { on = omega arith; within = omega arith; as_long = simp length-set }

pub scanned_start : (line : List ℕ) (t : Mark) (a : ℕ) (class : List ℕ) → a ≤ length line → Scanned line t a class t a class
scanned_start line t a class l = record { moved = moved_start line a class l; bytes = refl; carry = refl; beyond = refl }

module _ {line : List ℕ} {t u v : Mark} {a e f : ℕ} {x y z : List ℕ} where
  pub scanned_then : Scanned line t a x u e y → Scanned line u e y v f z → Scanned line t a x v f z
  scanned_then p q =
      record {
        moved = moved_then p.moved q.moved;
        bytes = p.bytes ∙ q.bytes;
        carry = p.carry ∙ q.carry;
        beyond = q.beyond ∙ p.beyond;
      }

-- at the line's end it only matters what is open
module _ {line : List ℕ} {t u : Mark} {a e : ℕ} {x y : List ℕ} where
  pub scanned_last : (v : Mark) → Scanned line t a x u e y → length line ≤ e → open_after u.mode ≡ open_after v.mode → Scanned line t a x v e y
  unfolding scan classes_of final
  scanned_last v p l o =
      let d : drop e line ≡ [] = drop_of_length-le line l in
      record {
        moved = p.moved;
        bytes = p.bytes ∙ rw d;
        carry = p.carry ∙ rw d o;
        beyond = p.beyond;
      }

-- the class of a mark that is over does not matter
scan_fresh : (k : Class) (m : Mode) (s : List ℕ) → scan (one k m) s ≡ scan (fresh m) s
unfolding scan
scan_fresh k m [] = refl
scan_fresh k m (c ∷ s) = refl

final_fresh : (k : Class) (m : Mode) (s : List ℕ) → (final (one k m) s).mode ≡ (final (fresh m) s).mode
unfolding final
final_fresh k m [] = refl
final_fresh k m (c ∷ s) = refl

module _ {line : List ℕ} {t : Mark} {a e : ℕ} {x y : List ℕ} where
  pub scanned_fresh : (k : Class) (m : Mode) → Scanned line t a x (one k m) e y → Scanned line t a x (fresh m) e y
  scanned_fresh k m p =
      record {
        moved = p.moved;
        bytes = p.bytes ∙ rw (scan_fresh k m);
        carry = p.carry ∙ rw (final_fresh k m);
        beyond = p.beyond;
      }

module _ (line : List ℕ) (t : Mark) (i : ℕ) (class : List ℕ) (u : Mark) (b : ℕ) (l : i < length line) (room : length line ≤ length class) where
  -- one byte
  pub scanned_byte : next t (drop i line) ≡ u → b ≡ class_byte u.class → Scanned line t i class u (i + 1) (set class i b)
  scanned_byte e f =
      record {
        moved = moved_one line i class b l;
        bytes = rw (classes_more line t i l, e, ← f) (written_more class (class_bytes (scan u (drop (i + 1) line))) i b (omega arith));
        carry = rw (final_more line t i l, e);
        beyond = drop-set-lt (length line) class i b l;
      }

module _ (line : List ℕ) (m : Mode) (i : ℕ) (class : List ℕ) (k : Class) (u : Mode) (b : ℕ) (l : i < length line) (room : length line ≤ length class) where
  -- a mark of one byte
  pub scanned_one : mark_at m (drop i line) ≡ one k u → b ≡ class_byte k → Scanned line (fresh m) i class (fresh u) (i + 1) (set class i b)
  scanned_one e f = scanned_fresh k u (scanned_byte line (fresh m) i class (one k u) b l room e f)

  -- a mark of two bytes, of which the line may end after the first
  pub scanned_two : mark_at m (drop i line) ≡ long 1 k u → b ≡ class_byte k → i + 1 < length line → Scanned line (fresh m) i class (fresh u) (i + 2) (set (set class i b) (i + 1) b)
  scanned_two e f h =
      let p : Scanned line (fresh m) i class (long 1 k u) (i + 1) (set class i b) = scanned_byte line (fresh m) i class (long 1 k u) b l room e f in
      let r : length line ≤ length (set class i b) = simp length-set room in
      let j : i + 1 + 1 ≡ i + 2 = omega arith in
      scanned_fresh k u (scanned_then p (rw j at (scanned_byte line (long 1 k u) (i + 1) (set class i b) (one k u) b h r refl f)))

  pub scanned_cut : mark_at m (drop i line) ≡ long 1 k u → b ≡ class_byte k → length line ≤ i + 1 → Scanned line (fresh m) i class (fresh u) (i + 1) (set class i b)
  scanned_cut e f h = scanned_last (fresh u) (scanned_byte line (fresh m) i class (long 1 k u) b l room e f) h refl

-- a mark of one byte after what is read
module _ {line : List ℕ} {t : Mark} {a : ℕ} {x : List ℕ} {m : Mode} {i : ℕ} {class : List ℕ} where
  pub then_one : (k : Class) (u : Mode) → Scanned line t a x (fresh m) i class → i < length line → length line ≤ length x → mark_at m (drop i line) ≡ one k u
      → Scanned line t a x (fresh u) (i + 1) (set class i (class_byte k))
  then_one k u p l room e = scanned_then p (scanned_one line m i class k u (class_byte k) l (omega (arith, p.moved.as_long)) e refl)

-- n bytes of one class
module _ (line : List ℕ) (t : ℕ → Mark) (b : ℕ) (steps : (j : ℕ) (s : List ℕ) → next (t (suc j)) s ≡ t j) (same : (j : ℕ) → b ≡ class_byte (t j).class) where
  -- a first byte, then n more
  then_run : (n i : ℕ) (class : List ℕ) (u : Mark) → i < length line → length line ≤ length class → Scanned line u i class (t n) (i + 1) (set class i b)
      → Scanned line (t n) (i + 1) (set class i b) (t 0) (i + 1 + n) (put (set class i b) (i + 1) (replicate n b))
      → Scanned line u i class (t 0) (i + suc n) (put class i (replicate (suc n) b))
  then_run n i class u l room p q =
      let j : i + 1 + n ≡ i + suc n = omega arith in
      let e : put (set class i b) (i + 1) (replicate n b) ≡ put class i (b ∷ replicate n b) = rw (set_put class i b (omega arith)) (put_put class i (b ∷ []) (replicate n b) (omega arith)) in
      scanned_then p (rw (j, e) at q)

  run : (n i : ℕ) (class : List ℕ) → i + n ≤ length line → length line ≤ length class → Scanned line (t n) i class (t 0) (i + n) (put class i (replicate n b))
  run zero i class l room = rw (add-zero, put_nil) (scanned_start line (t 0) i class (omega arith))
  run (suc n) i class l room =
      let h : i < length line = omega arith in
      then_run n i class (t (suc n)) h room (scanned_byte line (t (suc n)) i class (t n) b h room (steps n (drop i line)) (same n)) (run n (i + 1) (set class i b) (omega arith) (simp length-set room))

  scanned_run : (m : Mode) (n i : ℕ) (class : List ℕ) → mark_at m (drop i line) ≡ t n → i + suc n ≤ length line → length line ≤ length class → Scanned line (fresh m) i class (t 0) (i + suc n) (put class i (replicate (suc n) b))
  scanned_run m n i class e l room =
      let h : i < length line = omega arith in
      then_run n i class (fresh m) h room (scanned_byte line (fresh m) i class (t n) b h room e (same n)) (run n (i + 1) (set class i b) (omega arith) (simp length-set room))

module _ (line : List ℕ) (i : ℕ) (class : List ℕ) (room : length line ≤ length class) where
  -- a mark of n + 1 bytes
  pub scanned_long : (m : Mode) (n : ℕ) (k : Class) (u : Mode) → mark_at m (drop i line) ≡ long n k u → i + suc n ≤ length line
      → Scanned line (fresh m) i class (fresh u) (i + suc n) (put class i (replicate (suc n) (class_byte k)))
  scanned_long m n k u e l = scanned_fresh k u (scanned_run line (λ (x : ℕ). long x k u) (class_byte k) (λ x s. refl) (λ x. refl) m n i class e l room)

  -- a `//` comment, to the line's end
  pub scanned_comment : mark_at Mode.Code (drop i line) ≡ one Class.LineComment Mode.Line → i < length line
      → Scanned line (fresh Mode.Code) i class (fresh Mode.Code) (length line) (put class i (replicate (length line - i) 2))
  scanned_comment e l =
      let n : ℕ = length line - (i + 1) in
      let h : i + suc n ≡ length line = omega arith in
      let j : length line - i ≡ suc n = omega arith in
      let p = scanned_run line (λ (x : ℕ). one Class.LineComment Mode.Line) 2 (λ x s. refl) (λ x. refl) Mode.Code n i class e (omega arith) room in
      rw j (rw h at (scanned_last (fresh Mode.Code) p (omega arith) refl))

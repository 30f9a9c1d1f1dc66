-- Sixteen bytes at a time.
--     counted_start, counted_more   the loop over a block
--     count_more, past_block                    the scans of ScanLaws.antt, a block further
--     column_last                               the column of a place, by the line that it stands in
use Prim.Native.Nat.{ℕ, zero, suc, ◌+◌, ◌-◌, ◌≤◌, ◌<◌}
use native.Mathlib.Nat.{add-zero}
use native.Mathlib.Numerals.{add-one}
use native.Mathlib.Omega.{arith}
use mathlib.Core.Bool.{Bool, true, false, ◌||◌}
use mathlib.Core.List.{List}
use mathlib.Core.Path.{◌≡◌, refl, sym, ap, ◌∙◌, subst}
use borrow.Author.Count.{below_more}
use borrow.Author.Tests.{ltb-false}
use lib.Dec.{ltb}
use Rattle.std.specs.Prelude.{None, Some}
use mir.Val.{bool_byte}
use lib.ListN.{length, get_or, take, drop, length-drop}
use lib.Seq.{take-length}
use Rattle.utf8.specs.Unicode.{decode, WellFormed, code_at}
use Rattle.utf8.proofs.Scan.{ascii, ascii_step}
use Rattle.utf8.proofs.Tests.{neither_left, neither_right}
use Rattle.buffer.specs.Buffer.{part}
use Rattle.buffer.proofs.RegionLaws.{part_from}
use Rattle.rules.specs.Basics.{choose, is, count}
use Rattle.caret.specs.Caret.{past, line_of, column_of, place_of}
use Rattle.caret.specs.declared.Past.{Past}
use Rattle.caret.specs.Moving.{PastNth, LineColumnOf}
use Rattle.caret.specs.Blocks.{one, count_at, AsciiTest, Counted, BlockAt}
use Rattle.caret.proofs.ScanLaws.{CountScan, count_hit, count_miss, PastScan, past_hit, past_miss}
use Rattle.caret.proofs.RoundTrip.{place_back}

-- ---- one byte

one_true : one true ≡ 1
unfolding choose
one_true = refl

one_false : one false ≡ 0
unfolding choose
one_false = refl

one_of : (r : Bool) → bool_byte r ≡ one r
one_of true = sym one_true
one_of false = sym one_false

pub one_few : (r : Bool) → bool_byte r ≤ 1
one_few true = omega arith
one_few false = omega arith

-- ---- the loop over a block

module _ (p : ℕ → Bool) (s : List ℕ) (at : ℕ) where
  pub counted_start : Counted p s at 0 false 0
  unfolding count_at
  counted_start =
      record { short = omega arith; few = omega arith; ascii = λ e j h. absurd (omega arith); is = λ e. refl }

  pub counted_more : (k n d : ℕ) (high r : Bool) → Counted p s at k high n → k < 16
      → AsciiTest p (get_or s (at + k) 0) r → d ≡ bool_byte r
      → Counted p s at (k + 1) (high || ltb 127 (get_or s (at + k) 0)) (n + d)
  unfolding count_at
  counted_more k n d high r q h c g =
      record {
        short = omega arith;
        few = omega (arith, q.few, one_few r);
        ascii = λ e. below_more (λ (j : ℕ). get_or s (at + j) 0 < 0x80) k (q.ascii (neither_left high (ltb 127 b) e)) (low e);
        is = λ e. rw add-one
            (omega (arith, q.is (neither_left high (ltb 127 b) e), one_of r, ap one (c.is (low e))));
      }
    where
      b : ℕ
      b = get_or s (at + k) 0

      low : (high || ltb 127 b) ≡ false → get_or s (at + k) 0 < 0x80
      low e = let l = ltb-false 127 b (neither_right high (ltb 127 b) e) in omega arith

-- ---- the scans, a block further

module _ (p : ℕ → Bool) (s : List ℕ) (i : ℕ) where
  -- a byte of it is a character, and tested as such
  char : (k : ℕ) (t : Bool) → get_or s (i + k) 0 < 0x80 → p (get_or s (i + k) 0) ≡ t → p (code_at (drop (i + k) s)) ≡ t
  char k t a e = ap p (ascii s (i + k) a).1 ∙ e

  further : (k : ℕ) → i + k + 1 ≡ i + suc k
  further k = omega arith

  count_next : (n c k : ℕ) → CountScan p s (n + c) (i + k) → i + k < length s → get_or s (i + k) 0 < 0x80
      → CountScan p s (n + (c + one (p (get_or s (i + k) 0)))) (i + suc k)
  count_next n c k r h a = go (p (get_or s (i + k) 0)) refl
    where
      go : (b : Bool) → p (get_or s (i + k) 0) ≡ b → CountScan p s (n + (c + one b)) (i + suc k)
      go true e =
          let m : n + c + 1 ≡ n + (c + one true) = omega (arith, one_true) in
          rw (m, further k) at (count_hit p s (n + c) (i + k) 1 r (ascii_step s (i + k) h a) (char k true a e))
      go false e =
          let m : n + c ≡ n + (c + one false) = omega (arith, one_false) in
          rw (m, further k) at (count_miss p s (n + c) (i + k) 1 r (ascii_step s (i + k) h a) (char k false a e))

  count_run : (n k : ℕ) → CountScan p s n i → i + k ≤ length s → ((j : ℕ) → j < k → get_or s (i + j) 0 < 0x80)
      → CountScan p s (n + count_at p s i k) (i + k)
  unfolding count_at
  count_run n zero q h a = rw (add-zero n, add-zero i) q
  count_run n (suc k) q h a =
      count_next n (count_at p s i k) k (count_run n k q (omega arith) (λ j l. a j (omega arith))) (omega arith) (a k (omega arith))

  pub count_more : (n m : ℕ) → CountScan p s n i → BlockAt p s i (Some m) → CountScan p s (n + m) (i + 16)
  count_more n m q b =
      let c = b.counted m refl in
      rw (c.is refl) (count_run n 16 q (b.fits m refl) (c.ascii refl))

  past_next : (n left c k : ℕ) → (c < left → PastScan p n s (left - c) (i + k)) → i + k < length s → get_or s (i + k) 0 < 0x80
      → c + one (p (get_or s (i + k) 0)) < left
      → PastScan p n s (left - (c + one (p (get_or s (i + k) 0)))) (i + suc k)
  past_next n left c k r h a = go (p (get_or s (i + k) 0)) refl
    where
      go : (b : Bool) → p (get_or s (i + k) 0) ≡ b → c + one b < left → PastScan p n s (left - (c + one b)) (i + suc k)
      go true e l =
          let o = one_true in
          let m : left - c - 1 ≡ left - (c + one true) = omega (arith, o) in
          rw (m, further k) at
          (past_hit p n s (left - c) (i + k) 1 (r (omega (arith, o))) (omega (arith, o)) (ascii_step s (i + k) h a) (char k true a e))
      go false e l =
          let o = one_false in
          let m : left - c ≡ left - (c + one false) = omega (arith, o) in
          rw (m, further k) at
          (past_miss p n s (left - c) (i + k) 1 (r (omega (arith, o))) (omega (arith, o)) (ascii_step s (i + k) h a) (char k false a e))

  past_run : (n left k : ℕ) → PastScan p n s left i → count_at p s i k < left → i + k ≤ length s
      → ((j : ℕ) → j < k → get_or s (i + j) 0 < 0x80) → PastScan p n s (left - count_at p s i k) (i + k)
  unfolding count_at
  past_run n left zero q f h a = let z : left - 0 ≡ left = omega arith in rw (z, add-zero i) q
  past_run n left (suc k) q f h a =
      past_next n left (count_at p s i k) k (λ l. past_run n left k q l (omega arith) (λ j v. a j (omega arith))) (omega arith)
      (a k (omega arith)) f

  pub past_block : (n left m : ℕ) → PastScan p n s left i → BlockAt p s i (Some m) → m < left
      → PastScan p n s (left - m) (i + 16)
  past_block n left m q b h =
      let c = b.counted m refl in
      rw (c.is refl) (past_run n left 16 q (omega (arith, c.is refl)) (b.fits m refl) (c.ascii refl))

-- ---- the column of the place behind a text

last_line : (l : List ℕ) → column_of l ≡ length (drop (past (is "\n") (line_of l) l) l)
unfolding place_of
last_line l =
    let e : past (is "\n") (line_of (take (length l) l)) l + column_of (take (length l) l) ≡ length l =
    place_back (length l) l (omega arith) in
    let f : past (is "\n") (line_of l) l + column_of l ≡ length l = rw (take-length l) at e in
    omega (arith, f, length-drop (past (is "\n") (line_of l) l) l)

module _ (s : List ℕ) (line : ℕ) (r : Past) (q : PastNth (is "\n") s line r) where
  pub last_well : WellFormed (part s r.at (length s))
  last_well = subst WellFormed (sym (part_from s r.at)) q.here.well

  pub column_last : (n : ℕ) → line ≡ count (is "\n") (decode s) → n ≡ length (decode (part s r.at (length s)))
      → LineColumnOf (decode s) line n
  unfolding line_of
  column_last n e f =
      record {
        is_line = e;
        is_column = f ∙ ap (λ (l : List ℕ). length (decode l)) (part_from s r.at) ∙ ap length q.here.text
            ∙ ap (λ (k : ℕ). length (drop (past (is "\n") k (decode s)) (decode s))) e ∙ sym (last_line (decode s));
      }

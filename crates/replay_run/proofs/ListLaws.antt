-- Numbers and cases of a stored list, read on bytes.
--     Reading     the loop of `number_at`: n is what the digits from `at` up to i spell
--     case_read   seven numbers, each from the place after the one before it, are a case
use Prim.Native.Nat.{ℕ, ◌+◌, ◌*◌, ◌-◌, ◌<◌, ◌≤◌}
use native.Mathlib.Omega.{arith}
use native.Mathlib.Nat.{le_refl}
use native.Mathlib.Numerals.{add-one}
use mathlib.Core.Bool.{true, false, true≢false}
use mathlib.Core.List.{List}
use mathlib.Core.Logic.{◌⊎◌, inl, inr}
use mathlib.Core.Path.{◌≡◌, refl, sym, ◌∙◌}
use borrow.Author.Tests.{lt-ltb, le-ltb, le-leb, lt-leb}
use lib.Dec.{ltb}
use lib.ListN.{length, get_or, drop, drop_of_length-le}
use lib.Seq.{drop-cons}
use Rattle.utf8.specs.Unicode.{within}
use Rattle.utf8.proofs.Tests.{split, range, in_range_law}
use Rattle.rules.specs.Basics.{choose}
use Rattle.replay_run.specs.Stored.{number_at, number_in, NumberRead, case_of, case_at, CaseRead}
use Rattle.replay_run.specs.declared.list.Number.{Number}

pub record Reading (list : List ℕ) (at n i : ℕ) : Type 0 where
  pub from : at ≤ i
  pub within : i ≤ length list
  pub small : n < 1000000000
  pub same : number_in list at ≡ number_at n i (drop i list)

pub reading_start : (list : List ℕ) (at : ℕ) → at ≤ length list → Reading list at 0 at
reading_start list at h = record { from = le_refl at; within = h; small = omega arith; same = refl }

module _ (list : List ℕ) (at n i : ℕ) (r : Reading list at n i) where
  abbrev stopped : Number
  stopped = record { value = n; next = i + 1 }

  read_here : i < length list → stopped ≡ number_at n i (drop i list) → NumberRead list at stopped
  read_here h e = record { is = e ∙ sym r.same; from = omega (arith, r.from); fits = omega arith; small = r.small }

  pub reading_other : i < length list → within 48 57 (get_or list i 0) ≡ false → NumberRead list at stopped
  unfolding number_at choose
  reading_other h t = read_here h (rw (drop-cons list i 0) (go _ (split (get_or list i 0) 48) (split 57 (get_or list i 0))))
    where
      go : (x : Number) → (get_or list i 0 < 48) ⊎ (48 ≤ get_or list i 0) → (57 < get_or list i 0) ⊎ (get_or list i 0 ≤ 57)
          → stopped ≡ choose (ltb (get_or list i 0) 48) stopped (choose (ltb 57 (get_or list i 0)) stopped x)
      go x (inl j) k = rw (lt-ltb (get_or list i 0) 48 j)
      go x (inr j) (inl k) = rw (le-ltb (get_or list i 0) 48 j, lt-ltb 57 (get_or list i 0) k)
      go x (inr j) (inr k) = absurd (true≢false (sym (range 48 57 _ j k) ∙ t))

  pub reading_full : i < length list → within 48 57 (get_or list i 0) ≡ true → 100000000 ≤ n → NumberRead list at stopped
  unfolding number_at choose
  reading_full h t l =
      let d = in_range_law 48 57 (get_or list i 0) t in
      read_here h (rw (drop-cons list i 0, le-ltb (get_or list i 0) 48 d.0, le-ltb 57 (get_or list i 0) d.1, le-leb 100000000 n l))

  pub reading_more : i < length list → within 48 57 (get_or list i 0) ≡ true → n < 100000000 → Reading list at (n * 10 + (get_or list i 0 - 48)) (i + 1)
  unfolding number_at choose
  reading_more h t l =
      let d = in_range_law 48 57 (get_or list i 0) t in
      let e : number_at n i (drop i list) ≡ number_at (n * 10 + (get_or list i 0 - 48)) (i + 1) (drop (i + 1) list) =
      rw (drop-cons list i 0, le-ltb (get_or list i 0) 48 d.0, le-ltb 57 (get_or list i 0) d.1, lt-leb 100000000 n l) (rw (add-one i))
      in
      record { from = omega (arith, r.from); within = omega arith; small = omega arith; same = r.same ∙ e }

  pub reading_end : length list ≤ i → NumberRead list at (record { value = n; next = length list })
  unfolding number_at
  reading_end h =
      let e : i ≡ length list = omega (arith, r.within) in
      record {
        is = rw (← e) (rw (drop_of_length-le list h) at (sym r.same));
        from = omega (arith, r.from);
        fits = omega arith;
        small = r.small;
      }

pub case_read : (list : List ℕ) (at : ℕ) (source indent answer widthSet width lineEnding finalNewline : Number) → NumberRead list at source → NumberRead list source.next indent
    → NumberRead list indent.next answer → NumberRead list answer.next widthSet → NumberRead list widthSet.next width → NumberRead list width.next lineEnding
    → NumberRead list lineEnding.next finalNewline → CaseRead list at (case_of source indent answer widthSet width lineEnding finalNewline)
unfolding case_at
case_read list at a b c d e f g ra rb rc rd re rf rg =
    record {
      is = rw (← ra.is, ← rb.is, ← rc.is, ← rd.is, ← re.is, ← rf.is, ← rg.is);
      from = omega (arith, ra.from, rb.from, rc.from, rd.from, re.from, rf.from, rg.from);
      fits = rg.fits;
      source = ra.small;
      indent = rb.small;
      answer = rc.small;
    }

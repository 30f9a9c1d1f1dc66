-- The calls with a list of changes, by what each step gives.
use Prim.Native.Nat.{ℕ, ◌*◌, ◌/◌, ◌<◌, ◌≤◌}
use mathlib.Core.List.{List}
use mathlib.Core.Path.{◌≡◌, refl, sym, ap, ◌∙◌, subst}
use native.Mathlib.Omega.{arith}
use borrow.Author.Tests.{lt-ltb, le-ltb}
use lib.ListN.{length, take, replicate}
use Rattle.utf8.specs.Unicode.{decode}
use Rattle.buffer.specs.Buffer.{Finishes}
use Rattle.rules.specs.Refusals.{Verdict}
use Rattle.rules.specs.Call.{Call, filled}
use Rattle.rules.specs.declared.Refusal.{Refusal}
use Rattle.std.specs.Prelude.{Ok, Err}
use Rattle.rules.specs.declared.Formatted.{Formatted}
use Rattle.rules.proofs.RefusalLaws.{numbered, test_on, test_off}
use Rattle.edits.specs.Text.{TextRan}
use Rattle.changes.specs.Changes.{changes, numbers, changes_in, Faithful}
use Rattle.changes.specs.Writing.{Written}
use Rattle.changes.proofs.ChangeLaws.{faithful}
use Rattle.changes.proofs.ListLaws.{length_numbers, filled_in}
use Rattle.edits.specs.ChangesCall.{changes_of, changes_verdict, changes_told}
use Rattle.edits.specs.ChangesAnswered.{ChangesAnswered}
use Rattle.edits.proofs.TextLaws.{stopped, zeros_left, answers, passed_by, text_chars, text_room, alike}

abbrev short_for : ℕ → Verdict
short_for m = Err (Refusal.ListShort m)

module _ (c : Call) (room : ℕ) where
  -- a refused call
  refused_by_law : (why : Refusal) (out list work : List ℕ) → changes_verdict c room ≡ Err why → out ≡ replicate c.output 0
      → list ≡ replicate room 0 → work ≡ replicate c.scratch 0 → ChangesAnswered c room (changes_told (Err why)) out list work
  refused_by_law why out list work v eo el ew =
      record {
        answer = rw v;
        output = eo ∙ rw v;
        changes = el ∙ rw v;
        scratch = ew;
        well = λ e. absurd (numbered why e);
        kept = λ e. absurd (numbered why e);
        quoted = λ e. absurd (numbered why e);
        faithful = λ e. absurd (numbered why e);
      }

  pub changes_stopped : (why : Refusal) (out list work : List ℕ) → TextRan c (Err why) out work → list ≡ replicate room 0
      → ChangesAnswered c room (changes_told (Err why)) out list work
  unfolding changes_verdict
  changes_stopped why out list work q o =
      refused_by_law why out list work (stopped c why out work q _) (zeros_left c why out work q) o q.is.scratch

  module _ (t : Formatted) (out work : List ℕ) (q : TextRan c (Ok t) out work) (x x' : List ℕ) (n : ℕ) (k : length x ≡ room)
      (w : Written c.source (take t.length out) x x' n) where
    changes_are : changes (decode c.source) (decode (take t.length out)) ≡ changes_of c
    unfolding changes_of
    changes_are = ap (changes (decode c.source)) (text_chars c t out work q)

    count_is : n ≡ length (changes_of c)
    count_is = w.count ∙ ap length changes_are

    pub changes_short : (zeros list : List ℕ) → length x' / 4 < n → zeros ≡ replicate (length out) 0 → list ≡ replicate (length x') 0
        → ChangesAnswered c room (changes_told (Err (Refusal.ListShort n))) zeros list work
    unfolding changes_verdict
    changes_short zeros list h o ol =
        let v : changes_verdict c room ≡ Err (Refusal.ListShort n) =
        passed_by c t out work q _
        ∙ test_on _ _ (lt-ltb (room / 4) (length (changes_of c)) (omega (arith, k, w.long, count_is)))
        ∙ ap short_for (sym count_is) in
        refused_by_law (Refusal.ListShort n) zeros list work v
        (o ∙ ap (λ (m : ℕ). replicate m 0) (text_room c t out work q))
        (ol ∙ ap (λ (m : ℕ). replicate m 0) (w.long ∙ k)) q.is.scratch

    pub changes_given : (list : List ℕ) → n ≤ length x' / 4 → Finishes x' list (n * 4)
        → ChangesAnswered c room (changes_told (Ok (record { text = t; changes = n }))) out list work
    unfolding changes_verdict filled
    changes_given list h f =
        let v : changes_verdict c room ≡ Ok tt =
        passed_by c t out work q _
        ∙ test_off _ _ (le-ltb (room / 4) (length (changes_of c)) (omega (arith, k, w.long, count_is))) in
        let long : length (numbers (changes_of c)) ≡ n * 4 =
        length_numbers (changes_of c) ∙ ap (λ (m : ℕ). m * 4) (sym count_is) in
        let room-is : length x' ≡ room = w.long ∙ k in
        let l : list ≡ filled room (numbers (changes_of c)) =
        f.is ∙ rw (w.front (omega (arith, w.long)), changes_are, room-is, ← long) in
        let s = take t.length out in
        let g : Faithful c.source s (changes_of c) =
        subst (Faithful c.source s) changes_are (faithful c.source s (alike c t out work q)) in
        let back : changes_in (take (n * 4) list) ≡ changes_of c =
        ap (λ (y : List ℕ). changes_in (take (n * 4) y)) l
        ∙ ap (λ (m : ℕ). changes_in (take (m * 4) (filled room (numbers (changes_of c))))) count_is
        ∙ filled_in room (changes_of c) in
        let a = answers c t out work q in
        record {
          answer = rw (v, ← q.is.outcome, ← count_is);
          output = q.is.output ∙ rw v;
          changes = l ∙ rw v;
          scratch = q.is.scratch;
          well = λ e. a.well refl;
          kept = λ e. a.kept refl;
          quoted = λ e. a.quoted refl;
          faithful = λ e. subst (Faithful c.source s) (sym back) g;
        }

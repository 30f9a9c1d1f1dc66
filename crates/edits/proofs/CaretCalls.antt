-- The calls with a caret, by what each step gives.
use Prim.Native.Nat.{ℕ}
use mathlib.Core.Bool.{not}
use mathlib.Core.List.{List}
use mathlib.Core.Path.{◌≡◌, refl, sym, ap, ◌∙◌}
use Rattle.std.specs.Prelude.{None, Some, Ok, Err}
use lib.ListN.{length, take, replicate}
use Rattle.utf8.specs.Unicode.{decode}
use Rattle.rules.specs.Call.{Call}
use Rattle.rules.specs.declared.Refusal.{Refusal}
use Rattle.rules.specs.declared.Formatted.{Formatted}
use Rattle.rules.proofs.RefusalLaws.{numbered, test_on, test_off}
use Rattle.edits.specs.Text.{TextRan}
use Rattle.caret.specs.Caret.{moved_to}
use Rattle.caret.specs.declared.LineColumn.{LineColumn}
use Rattle.caret.specs.Moving.{LineColumnOf, CaretMoved}
use Rattle.caret.proofs.AnswerLaws.{follows_at}
use Rattle.edits.specs.CaretCall.{caret_verdict, caret_in, caret_told}
use Rattle.edits.specs.CaretAnswered.{CaretAnswered}
use Rattle.edits.proofs.TextLaws.{stopped, zeros_left, answers, passed_by, text_chars, text_room}

module _ (c : Call) (line column : ℕ) where
  -- a refused call
  refused_by_law : (why : Refusal) (out work : List ℕ) → caret_verdict c line column ≡ Err why → out ≡ replicate c.output 0
      → work ≡ replicate c.scratch 0 → CaretAnswered c line column (caret_told (Err why)) out work
  refused_by_law why out work v eo ew =
      record {
        answer = rw v;
        output = eo ∙ rw v;
        scratch = ew;
        well = λ e. absurd (numbered why e);
        kept = λ e. absurd (numbered why e);
        quoted = λ e. absurd (numbered why e);
        follows = λ e. absurd (numbered why e);
      }

  pub caret_stopped : (why : Refusal) (out work : List ℕ) → TextRan c (Err why) out work → CaretAnswered c line column (caret_told (Err why)) out work
  unfolding caret_verdict
  caret_stopped why out work q = refused_by_law why out work (stopped c why out work q _) (zeros_left c why out work q) q.is.scratch

  module _ (t : Formatted) (out work : List ℕ) (q : TextRan c (Ok t) out work) where
    pub caret_none : (zeros : List ℕ) → CaretMoved c.source (take t.length out) line column None → zeros ≡ replicate (length out) 0
        → CaretAnswered c line column (caret_told (Err Refusal.NoPlace)) zeros work
    unfolding caret_verdict
    caret_none zeros m o =
        refused_by_law Refusal.NoPlace zeros work (passed_by c t out work q _ ∙ test_on _ _ (ap not (sym m.found)))
        (o ∙ ap (λ (n : ℕ). replicate n 0) (text_room c t out work q)) q.is.scratch

    pub caret_goes : (to : LineColumn) → CaretMoved c.source (take t.length out) line column (Some to)
        → CaretAnswered c line column (caret_told (Ok (record { text = t; to = to }))) out work
    unfolding caret_verdict caret_in
    caret_goes to m =
        let v : caret_verdict c line column ≡ Ok tt =
        passed_by c t out work q _ ∙ test_off _ _ (ap not (sym m.found)) in
        let g : LineColumnOf (moved_to line column (decode c.source) (decode (take t.length out))) to.line to.column =
        m.goes to refl in
        let w : moved_to line column (decode c.source) (decode (take t.length out)) ≡ caret_in c line column =
        ap (moved_to line column (decode c.source)) (text_chars c t out work q) in
        let a = answers c t out work q in
        record {
          answer = rw (v, ← q.is.outcome, ← w, ← g.is_line, ← g.is_column);
          output = q.is.output ∙ rw v;
          scratch = q.is.scratch;
          well = λ e. a.well refl;
          kept = λ e. a.kept refl;
          quoted = λ e. a.quoted refl;
          follows = λ e.
              follows_at line column (decode c.source) (decode (take t.length out)) to.line to.column (a.kept refl).struck g;
        }

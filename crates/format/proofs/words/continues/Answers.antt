use Rattle.std.specs.Prelude.{◌≡◌, not, ◌&&◌, ◌||◌}
use borrow.Author.Tests.{ne_eqb}
use native.Mathlib.Omega.{arith}
use Rattle.utf8.specs.Unicode.{decode}
use Rattle.rules.specs.Basics.{codes}
use Rattle.rules.specs.Words.{starts_with_word, starts_with_binary_op}
use Rattle.format.proofs.WordLaws.{continues_closers, continues_rest}
use Rattle.format.proofs.words.continues.Goals as goal
use Rattle.format.proofs.words.continues.Goals.{then-starts_with_word, else-starts_with_word, then-continues_with_else, else-continues_with_else}

pub returns-else-closers-eq0 : goal.returns-else-closers-eq0
returns-else-closers-eq0 c = continues_closers _ _ c.requires _ _ c.if-closers-eq0.false (ne_eqb _ _ c.if-closers-eq0.false)

pub returns-then-starts_with_binary_op : goal.returns-then-starts_with_binary_op
returns-then-starts_with_binary_op c =
    let l = c.args.line.now in
    let words : c.if-starts_with_word.value ≡ (starts_with_word l (codes "then") || starts_with_word l (codes "else") && not c.args.after_brace) =
    elim c.if-starts_with_word.branch [ then-starts_with_word w ↦ grind arith | else-starts_with_word w ↦ grind arith ] in
    let some : c.if-continues_with_else.value ≡ (starts_with_word l (codes "then") || starts_with_word l (codes "else") && not c.args.after_brace || starts_with_binary_op (decode l)) =
    elim c.if-continues_with_else.branch [ then-continues_with_else w ↦ grind arith | else-continues_with_else w ↦ grind arith ] in
    continues_rest _ _ c.requires _ _ c.if-closers-eq0.true (grind arith)

pub returns-else-starts_with_binary_op : goal.returns-else-starts_with_binary_op
returns-else-starts_with_binary_op c =
    let l = c.args.line.now in
    let words : c.if-starts_with_word.value ≡ (starts_with_word l (codes "then") || starts_with_word l (codes "else") && not c.args.after_brace) =
    elim c.if-starts_with_word.branch [ then-starts_with_word w ↦ grind arith | else-starts_with_word w ↦ grind arith ] in
    let some : c.if-continues_with_else.value ≡ (starts_with_word l (codes "then") || starts_with_word l (codes "else") && not c.args.after_brace || starts_with_binary_op (decode l)) =
    elim c.if-continues_with_else.branch [ then-continues_with_else w ↦ grind arith | else-continues_with_else w ↦ grind arith ] in
    continues_rest _ _ c.requires _ _ c.if-closers-eq0.true (grind arith)

use borrow.Author.Rules.{rules}
use mathlib.Core.Path.{sym, ◌∙◌}
use Rattle.std.specs.Prelude.{◌≡◌, ◌∷◌, []}
use Rattle.rules.specs.Operators.{operators, index_in}
use Rattle.operators.specs.Places.{place_of}
use Rattle.rules.proofs.Choose.{picks}
use Rattle.top_level_ops.proofs.StepLaws.{one_token, one_operator, signed_assigns, signed_unary, operator_strength, token_operator, unary_at}
use Rattle.top_level_ops.proofs.one_char_step.Goals.{then-assigns-via-then-assigns, then-assigns-via-else-assigns+then-is_unary}
use Rattle.top_level_ops.proofs.one_char_step.Goals as goal

pub returns-in_default : goal.returns-in_default
returns-in_default c = λ table s cs e f. let h = c.plain_token.ensures table s in search (rules, one_token)

pub returns-then-assigns : goal.returns-then-assigns
returns-then-assigns c =
    λ table s cs e f.
    let g = c.plain_token-then-assigns.ensures table s in
    one_operator table s _ cs _ c.in-Some.operator c.in-Some.ensures
    (elim c.then-assigns.branch [
      | then-assigns-via-then-assigns w ↦ signed_assigns table s _ cs _ _ _ c.from.ensures f g w.if-assigns.true
      | then-assigns-via-else-assigns+then-is_unary w ↦
          signed_unary table s _ cs _ _ _ c.from.ensures f g w.if-assigns.false (rw e (sym w.is_unary.ensures ∙ w.if-is_unary.true))
    ])

pub returns : goal.returns
returns c = λ table s cs e f. let g : place_of c.in-Some.operator ≡ index_in operators (c.args.c ∷ []) = c.in-Some.ensures in one_operator _ s _ cs _ c.in-Some.operator c.in-Some.ensures
    (search (picks, operator_strength, token_operator, unary_at) depth 20)

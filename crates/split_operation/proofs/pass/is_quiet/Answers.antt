use Rattle.std.proofs.Common.{◌||◌, refl, arith, sym, ◌∙◌}
use Rattle.basics.proofs.TableLaws.{told}
use Rattle.rules.specs.Basics.{is_blank, is_ident}
use Rattle.rules.specs.ClassBytes.{class_of}
use Rattle.utf8.specs.Unicode.{tail}
use Rattle.split_operation.specs.declared.pass.TheConstants.{QUIET}
use Rattle.split_operation.proofs.RunLaws.{quiet_code}
use Rattle.split_operation.proofs.pass.is_quiet.Goals as goal

pub returns-then-is_code : goal.returns-then-is_code
unfolding is_ident tail
returns-then-is_code c =
    told QUIET 33 (λ b. is_ident b || (tail b || is_blank b)) c.args.c (omega arith) refl
    ∙ quiet_code c.args.c (class_of c.args.k) (sym c.is_code.ensures ∙ c.if-is_code.true)

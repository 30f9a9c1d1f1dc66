use Rattle.std.proofs.Common.{refl, arith}
use Rattle.basics.proofs.TableLaws.{told}
use Rattle.brackets.specs.Stack.{may_turn}
use Rattle.brackets.specs.declared.turns.TheConstants.{TURNING}
use Rattle.brackets.proofs.turns.may_turn.Goals as goal

pub returns : goal.returns
unfolding may_turn
returns c = told TURNING 44 may_turn c.args.c (omega arith) refl

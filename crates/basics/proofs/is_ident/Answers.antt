use Rattle.std.proofs.Common.{refl, arith}
use Rattle.basics.specs.declared.TheConstants.{IDENT}
use Rattle.basics.proofs.TableLaws.{told}
use Rattle.rules.specs.Basics.{is_ident}
use Rattle.basics.proofs.is_ident.Goals as goal

pub returns : goal.returns
unfolding is_ident
returns c = told IDENT 44 is_ident c.args.c (omega arith) refl

use native.Mathlib.Nat.{add-zero}
use native.Mathlib.Omega.{arith}
use Prim.Native.Nat.{◌+◌, ◌-◌}
use mathlib.Core.Path.{◌≡◌, refl}
use lib.ListN.{length, take, drop, length-drop}
use lib.Seq.{get_or-drop, drop-drop, take_all}
use Rattle.glob_pass.specs.Kinds.{held_at}
use Rattle.glob_pass.specs.Pass.{value_at}
use Rattle.glob_pass.proofs.Braces.value_at.Goals as goal

pub returns-in-Plain : goal.returns-in-Plain
unfolding held_at value_at
returns-in-Plain c = rw (c.in-Plain.is, get_or-drop c.args.p c.args.chars.now 0 0, add-zero c.args.p) (refl, refl)

pub returns-in-Escape : goal.returns-in-Escape
unfolding held_at value_at
returns-in-Escape c = rw (c.in-Escape.is, get_or-drop c.args.p c.args.chars.now 1 0, c.code_behind.ensures) (refl, refl)

pub returns-in-Set : goal.returns-in-Set
unfolding held_at value_at
returns-in-Set c =
    let n = c.args.p + 1 in
    let t : take (length c.args.chars.now - n) (drop n c.args.chars.now) ≡ drop n c.args.chars.now =
    take_all (length c.args.chars.now - n) (drop n c.args.chars.now) (omega (arith, length-drop n c.args.chars.now)) in
    rw (c.in-Set.is, drop-drop 1 c.args.p c.args.chars.now, c.in_set.ensures, t) (refl, refl)

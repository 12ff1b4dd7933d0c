-- Assumes nothing.
use mathlib.Core.Path.{sym, ap}
use mathlib.Core.Bool.{Bool, cond}
use Prim.Native.Nat.{◌+◌}
use native.Mathlib.Omega.{arith}
use borrow.Author.Tests.{lt-ltb, le-ltb}
use Rattle.soundness.proofs.faces.stands.Goals as goal

pub returns-then-j-a : goal.returns-then-j-a
returns-then-j-a c =
    let a = c.args in
    (sym (ap (λ (t : Bool). cond t a.j (a.j + 1)) (lt-ltb a.j a.a c.if-j-a.true)), omega arith)

pub returns-else-j-a : goal.returns-else-j-a
returns-else-j-a c =
    let a = c.args in
    (sym (ap (λ (t : Bool). cond t a.j (a.j + 1)) (le-ltb a.j a.a c.if-j-a.false)), omega arith)

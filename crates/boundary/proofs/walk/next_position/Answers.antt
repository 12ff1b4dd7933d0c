-- The goals that the search leaves. Assumes nothing.
use mathlib.Core.Path.{sym, ◌∙◌}
use Prim.Native.Nat.{◌+◌}
use native.Mathlib.Omega.{arith}
use Rattle.boundary.proofs.Walking.{from_next, from_skip}
use Rattle.boundary.proofs.walk.next_position.Goals as goal

pub loop-position-preserved : goal.loop-position-preserved
loop-position-preserved c =
    let a = c.args in
    let none = sym c.on_boundary.ensures ∙ c.if-on_boundary.false in
    c.loop-position.invariant ∙ from_skip a.d a.s a.table.now c.requires.long a.p c.loop-position.position c.requires.number (omega arith) none

pub returns : goal.returns
returns c =
    let a = c.args in
    let behind = from_next a.d a.s a.table.now c.requires.long a.p in
    record {
      same = c.loop-position.invariant ∙ behind c.loop-position.position c.requires.number (omega arith)
          ∙ sym (behind (a.d + 1) c.requires.number (omega arith));
      found = λ h. absurd (omega arith);
    }

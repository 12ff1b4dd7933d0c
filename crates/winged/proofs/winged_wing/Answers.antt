-- The call wing for a host: what was tried directly is the call's answer, and else the call itself answers. Assumes nothing.
use mathlib.Core.Path.{ap, ◌∙◌}
use mathlib.Core.Bool.{not}
use Prim.Native.Nat.{◌≤◌}
use native.Mathlib.Omega.{arith}
use borrow.Author.Rules.{rules}
use mir.Syntax.{w64}
use mir.ValLaws.{to_z-of_z, to_z_pos}
use Rattle.rules.specs.Limits.{max_dimension}
use Rattle.rules.proofs.InLimits.{Limits, limits_are}
use Rattle.direct.proofs.Room.{table_fits}
use Rattle.direct.specs.Inner.Direct.{Lent}
use Rattle.winged.specs.Inner.Sent.{table_room}
use Rattle.winged.proofs.Directly.{direct_host, kept-host}
use Rattle.winged.proofs.winged_wing.Goals as goal
use Rattle.winged.proofs.winged_wing.Goals.{After-table_words, Then-in_room}

lent : (c : Then-in_room) → let a = c.args in Lent a.d a.v a.s a.cells.now a.table.now a.uploaded.now
lent c = c.in_room.ensures.lent c.if-in_room.true

limits : (c : Then-in_room) → let a = c.args in Limits max_dimension a.d a.v a.s
limits c = limits_are _ _ _ _ (ap not (lent c).shape)

few : (c : After-table_words) → c.table_words.result ≤ table_room
few c =
    let a = c.args in
    let l = limits (goal.at.After-table_words c).Then-in_room in
    omega (arith, c.table_words.ensures, table_fits a.d a.s l.dimension l.cells)

pub table_words-requires : goal.table_words-requires
table_words-requires c = let l = limits c in (l.dimension, l.cells)

pub overflow_cast-result : goal.overflow_cast-result
overflow_cast-result c = omega (arith, few c)

pub returns-then-in_room : goal.returns-then-in_room
returns-then-in_room c =
    let a = c.args in
    let host = direct_host a.d a.v a.s a.cells.now a.table.now a.uploaded.now (lent (goal.at.returns-then-in_room c).Then-in_room) _ _ _ _
    c.table_words.ensures c.if-in_room.true c.in_room.ensures.direct in
    record {
      answer = to_z_pos w64 _ (omega (arith, few c)) ∙ host.0;
      buffer = host.1;
      uploaded = host.2;
    }

pub returns : goal.returns
returns c =
    let a = c.args in
    let host = kept-host a.d a.v a.s a.cells.now a.table.now a.uploaded.now _ _ _ _ _ _
    c.if-in_room.false c.in_room.ensures.direct (c.wing_told-2.ensures.answer, c.wing_told-2.ensures.buffer, c.wing_told-2.ensures.uploaded) in
    record {
      answer = to_z-of_z w64 _ (search rules) ∙ host.0;
      buffer = host.1;
      uploaded = host.2;
    }

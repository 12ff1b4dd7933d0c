-- The records, the codes, and then the keys one after the other. Assumes nothing.
use Prim.Native.Nat.{ℕ, ◌<◌}
use Rattle.soundness.specs.Inner.Certified.{Fine}
use Rattle.soundness.proofs.Chaining.{chains-none}
use Rattle.soundness.proofs.KnownKeys.{fine_under}
use Rattle.soundness.proofs.Passing.{pass_coded}
use Rattle.soundness.proofs.Telling.{rows_up, told}
use Rattle.soundness.proofs.rooms.in_codes.Goals as goal
use Rattle.soundness.proofs.rooms.in_codes.Goals.{Else-not-all_fine}

fine : (c : Else-not-all_fine) → let a = (c.args) in (p : ℕ) → p < a.s → Fine a.d a.v a.table.now p
fine c = c.all_fine.ensures c.if-not-all_fine.false

pub codes-requires : goal.codes-requires
codes-requires c =
    let a = c.args in
    let k = c.requires in
    (k.1, k.0, (λ p h. fine_under a.d a.v _ a.s p a.table.now k.0 h (fine (goal.at.codes-requires c).Else-not-all_fine p h) k.3), k.4)

pub all_coded-requires : goal.all_coded-requires
all_coded-requires c =
    let a = c.args in
    let lent = c.requires.5 in (
      pass_coded a.d a.s a.table.now _ _ _ a.head.now a.next.now c.requires.0
          (rows_up a.d a.v a.s a.table.now c.requires.0 (fine (goal.at.all_coded-requires c).Else-not-all_fine)) lent.next_room c.codes.ensures
          (chains-none _ a.head.now a.next.now lent.some lent.few lent.blank),
      c.codes.ensures,
    )

pub returns : goal.returns
returns c = λ e.
    let a = c.args in
    told a.d a.v a.s a.table.now c.requires.0 (fine (goal.at.returns c).Else-not-all_fine) c.requires.1 c.requires.2 (c.all_coded.ensures.right e)

-- `winged_move` answers what `move_bytes` does, as a number. Assumes nothing.
use mathlib.Core.Path.{ap, ◌∙◌}
use Prim.Native.Nat.{◌/◌}
use native.Mathlib.Omega.{arith}
use borrow.Author.Rules.{rules}
use lib.ListN.{length}
use mir.Syntax.{w64}
use mir.ValLaws.{to_z-of_z}
use Rattle.hosting.specs.Moves.{move_told}
use Rattle.winged.specs.Host.{host_answer}
use Rattle.winged.specs.Inner.Sent.{count_of}
use Rattle.winged.proofs.Counts.{move_within}
use Rattle.winged.proofs.winged_move.Goals as goal

pub answered-requires : goal.answered-requires
answered-requires c =
    let a = c.args in
    omega (
      arith,
      ap count_of c.move_bytes.ensures.answer,
      move_within (move_told a.n a.v a.h (record { kind = a.kind; axis = a.axis; other = a.other; a = a.a; b = a.b; c = a.c })
          a.points.now (length a.levels.now / 8)),
    )

pub returns : goal.returns
returns c =
    let call = c.move_bytes in
    record {
      answer = to_z-of_z w64 _ (search rules) ∙ c.answered.ensures ∙ ap host_answer call.ensures.answer;
      buffer = call.ensures.buffer;
    }

-- `winged_list` answers what `list_bytes` does, as a number. Assumes nothing.
use mathlib.Core.Path.{ap, ◌∙◌}
use native.Mathlib.Omega.{arith}
use borrow.Author.Rules.{rules}
use mir.Syntax.{w64}
use mir.ValLaws.{to_z-of_z}
use Rattle.winged.specs.Host.{host_answer}
use Rattle.winged.specs.Inner.Sent.{count_of}
use Rattle.winged.proofs.Counts.{list-within}
use Rattle.winged.proofs.winged_list.Goals as goal

pub answered-requires : goal.answered-requires
answered-requires c =
    let a = c.args in
    omega (
      arith,
      ap count_of c.list_bytes.ensures.answer,
      list-within a.version a.d a.n a.v a.s a.table.now a.points.now a.text.now,
    )

pub returns : goal.returns
returns c =
    let call = c.list_bytes in
    record {
      answer = to_z-of_z w64 _ (search rules) ∙ c.answered.ensures ∙ ap host_answer call.ensures.answer;
      buffer = call.ensures.buffer;
    }

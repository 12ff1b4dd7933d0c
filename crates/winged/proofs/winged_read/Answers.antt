-- `winged_read` answers what `read_bytes` does, as a number. Assumes nothing.
use mathlib.Core.Path.{ap, ◌∙◌}
use native.Mathlib.Omega.{arith}
use borrow.Author.Rules.{rules}
use mir.Syntax.{w64}
use mir.ValLaws.{to_z-of_z}
use Rattle.winged.specs.Host.{host_answer}
use Rattle.winged.proofs.Counts.{read_small}
use Rattle.winged.proofs.winged_read.Goals as goal

pub answered-requires : goal.answered-requires
answered-requires c = read_small _ _ _ _ _ c.read_bytes.ensures.answer (omega arith)

pub returns : goal.returns
returns c =
    let call = c.read_bytes in
    record {
      answer = to_z-of_z w64 _ (search rules) ∙ c.answered.ensures ∙ ap host_answer call.ensures.answer;
      header = call.ensures.header;
      cells = call.ensures.cells;
      points = call.ensures.points;
    }

-- `winged_key` answers what `key_text` does, as a number. Assumes nothing.
use mathlib.Core.Path.{ap, ◌∙◌}
use native.Mathlib.Omega.{arith}
use borrow.Author.Rules.{rules}
use lib.ListN.{length}
use mir.Syntax.{w64}
use mir.ValLaws.{to_z-of_z}
use Rattle.winged.specs.Host.{host_answer}
use Rattle.winged.specs.Inner.Sent.{count_of}
use Rattle.winged.proofs.Counts.{text-within}
use Rattle.winged.proofs.winged_key.Goals as goal

pub answered-requires : goal.answered-requires
answered-requires c =
    omega (arith, ap count_of c.key_text.ensures.answer, text-within c.args.file.now (length c.args.text.now))

pub returns : goal.returns
returns c =
    let call = c.key_text in
    record {
      answer = to_z-of_z w64 _ (search rules) ∙ c.answered.ensures ∙ ap host_answer call.ensures.answer;
      buffer = call.ensures.buffer;
    }

-- `read_words` reads with room enough. Assumes nothing.
use mathlib.Core.Path.{◌≡◌, ap, ◌∙◌}
use Rattle.std.proofs.lemmas.Result.{err_from_is_err_and}
use Rattle.rules.specs.Calls.{accepted}
use Rattle.file.specs.Tests.{cells_length}
use Rattle.read.specs.Read.{read_input, read_cells}
use Rattle.hosting.specs.Inner.Rooms.{word_room, float_room}
use Rattle.hosting.proofs.ReadRows.{passed, roomy, read-accepts, read_refuses, read_roomy, words_roomy}
use Rattle.hosting.proofs.reading.read_words.Goals as goal
use Rattle.hosting.proofs.reading.read_words.Goals.{After-read_cells, In_ok-read_cells}

-- what read leaves, with the room told by the limits
left : (c : After-read_cells) → c.read_cells.new.cells ≡ read_cells (read_input c.args.file.now word_room float_room) c.args.words.now
left c = words_roomy c.args.file.now c.args.words.now c.requires _ c.read_cells.ensures.cells

accepts : (c : In_ok-read_cells) → accepted (cells_length c.args.file.now) ≡ roomy c.args.file.now
accepts c = read-accepts _ _ (read_roomy c.args.file.now c.args.words.now c.requires _ c.in_ok-read_cells.ensures.answer)

pub words-requires : goal.words-requires
words-requires c = (passed _ _ (accepts c)).0.header

pub returns : goal.returns
returns c = record {
  answer = ap accepted c.words.ensures ∙ accepts (goal.at.returns c).In_ok-read_cells;
  buffer = left (goal.at.returns c).After-read_cells;
}

pub returns-in_err-read_cells : goal.returns-in_err-read_cells
returns-in_err-read_cells c =
    let p = err_from_is_err_and c.from_residual.result c.from_residual.ensures.1 in record {
      answer = rw (p.1, p.2) (read_refuses _ _ (read_roomy c.args.file.now c.args.words.now c.requires _ c.in_err-read_cells.ensures.answer));
      buffer = left (goal.at.returns-in_err-read_cells c).After-read_cells;
    }

-- The words of the swept table. Assumes nothing.
use mathlib.Core.Path.{ap₂, ◌∙◌}
use native.Mathlib.Numerals.{add-one}
use Rattle.records.specs.Layout.{table_length}
use Rattle.sweep.proofs.limits.swept_words.Goals as goal

pub returns : goal.returns
returns c = c.table_words.ensures ∙ ap₂ table_length (add-one _) c.swept_cells.ensures

-- Wings in uploaded order, told from the words of a list and of its table.
--   uploaded_at d cells table p j      the wing of cell p at the place that its uploaded vertex j has in ascending order
--   uploaded_row d cells table p       those of the cell; uploaded_rows d s cells table are those of all s cells
use Rattle.std.specs.Prelude.{List, ℕ, get_or}
use Rattle.words.specs.Records.{tabulate, concat}
use Rattle.simplex.specs.Order.{below}
use Rattle.records.specs.Layout.{cell_in, wings_size}
use Rattle.records.specs.Inner.Inside.{wing_in}

abbrev pub uploaded_at : ℕ → List ℕ → List ℕ → ℕ → ℕ → ℕ
uploaded_at d cells table p j = let w = (cell_in d cells p).row in wing_in d table p (below (get_or w j 0) w)

abbrev pub uploaded_row : ℕ → List ℕ → List ℕ → ℕ → List ℕ
uploaded_row d cells table p = tabulate (wings_size d) (uploaded_at d cells table p)

unfoldable pub uploaded_rows : ℕ → ℕ → List ℕ → List ℕ → List ℕ
uploaded_rows d s cells table = concat (tabulate s (uploaded_row d cells table))

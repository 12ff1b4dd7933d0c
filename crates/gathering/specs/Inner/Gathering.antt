-- A table whose wings are all empty.
--   blank_words d c        the words of a cell with d + 1 empty wings
--   blank_table d s ws     the table of a list of s cells: its words are ws, and each cell is in ascending order
--   FineRow d v m w       the first d + 1 entries of w ascend, the last is below v, and m is a material
--   FineCell d v ws p     cell p of a list with the words ws, in ascending order, is so, and its sign word is one
--   rank_in j x w          how many entries of w go before its entry j, which is x: earlier ones that are at most x, others that are below it
--   overtaken j x w       how many of the first j entries of w are above x
use Rattle.std.specs.Prelude.{List, [], ◌∷◌, ◌++◌, ℕ, zero, suc, ◌+◌, ◌≤◌, ◌<◌, leb, ltb, get_or, replicate}
use Rattle.words.specs.Records.{tabulate, concat, part}
use Rattle.rules.specs.Limits.{max_material}
use Rattle.simplex.specs.Cell.{Cell, Row, one}
use Rattle.simplex.specs.Order.{ascending, below}
use Rattle.records.specs.Layout.{empty, cell_in, cell_words, list_size}

unfoldable pub blank_words : ℕ → Cell → List ℕ
blank_words d c = cell_words c ++ replicate (suc d) empty

unfoldable pub blank_table : ℕ → ℕ → List ℕ → List ℕ
blank_table d s ws = concat (tabulate s (λ p. blank_words d (ascending (cell_in d ws p))))

pub record FineRow (d v m : ℕ) (w : Row) : Type 0 where
  pub material : m ≤ max_material
  pub low : get_or w d 0 < v
  pub up : (j : ℕ) → j < d → get_or w j 0 < get_or w (suc j) 0

pub record FineCell (d v : ℕ) (ws : List ℕ) (p : ℕ) : Type 0 where
  pub sign : get_or (part (list_size d) p ws) 0 0 ≤ 1
  pub rest : FineRow d v (ascending (cell_in d ws p)).material (ascending (cell_in d ws p)).row

abbrev pub rank_in : ℕ → ℕ → Row → ℕ
rank_in zero x w = below x w
rank_in (suc j) x [] = 0
rank_in (suc j) x (y ∷ w) = one (leb y x) + rank_in j x w

abbrev pub overtaken : ℕ → ℕ → Row → ℕ
overtaken zero x w = 0
overtaken (suc j) x [] = 0
overtaken (suc j) x (y ∷ w) = one (ltb x y) + overtaken j x w

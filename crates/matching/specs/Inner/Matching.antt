-- Keys that are equal. A key is the row of a cell less one vertex, or the whole row.
--   Keyed rows k w first      rows has 4096 cells of 8 words, the numbers k, w and first are in range, and the keys are equally long
--   cell_row rows k p          the row of cell p: the first k of its 8 words
--   key_row rows k w first g   key g, of w keys a cell: the row of cell g / w less position first + g % w
--   last_below q m             the last index below m at which the test q passes, or 65535
--   earlier rows k w first g  the last key before g with the row of g, or 65535
--   Behind n new old          from place n on the words are as they were
--   Answered rows k w first n new old   each of n keys has its answer, and what stands behind stays
use Rattle.std.specs.Prelude.{Bool, cond, List, ◌⊎◌, ◌≡◌, ℕ, zero, suc, ◌+◌, ◌/◌, ◌%◌, ◌<◌, ◌≤◌, length, take, get_or}
use Rattle.words.specs.Records.{part}
use Rattle.records.specs.Layout.{empty}
use Rattle.simplex.specs.Cell.{Row, same_row}
use Rattle.simplex.specs.Faces.{without}

pub record Keyed (rows : List ℕ) (k w first : ℕ) : Type 0 where
  pub long : length rows ≡ 32768
  pub vertices : k ≤ 8
  pub some : 0 < w
  pub most : w ≤ 8
  pub start : first ≤ 8
  pub alike : (w ≡ 1) ⊎ (first + w ≤ k)

abbrev pub cell_row : List ℕ → ℕ → ℕ → Row
cell_row rows k p = take k (part 8 p rows)

abbrev pub key_row : List ℕ → ℕ → ℕ → ℕ → ℕ → Row
key_row rows k w first g = without (first + g % w) (cell_row rows k (g / w))

abbrev pub last_below : (ℕ → Bool) → ℕ → ℕ
last_below q zero = empty
last_below q (suc m) = cond (q m) m (last_below q m)

unfoldable pub earlier : List ℕ → ℕ → ℕ → ℕ → ℕ → ℕ
earlier rows k w first g = last_below (λ f. same_row (key_row rows k w first f) (key_row rows k w first g)) g

abbrev pub Behind : ℕ → List ℕ → List ℕ → Type 0
Behind n new old = (g : ℕ) → n ≤ g → get_or new g 0 ≡ get_or old g 0

pub record Answered (rows : List ℕ) (k w first n : ℕ) (new old : List ℕ) : Type 0 where
  pub long : length new ≡ 32768
  pub each : (g : ℕ) → g < n → get_or new g 0 ≡ earlier rows k w first g
  pub behind : Behind n new old

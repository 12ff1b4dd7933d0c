-- What an accepted list of cells is.
--   Solid nv cs       on nv vertices: rows ascend, none stands twice, a face belongs to at most two cells, then with opposite signs,
--                     and materials are within their limit
--   row_at cs p        the row of cell p
use mathlib.Core.List.{List}
use Prim.Native.Nat.{ℕ, zero, suc, ◌≤◌, ◌<◌}
use native.Mathlib.Omega.{arith}
use lib.ListN.{length, get_or}
use Rattle.words.specs.Records.{tabulate}
use Rattle.rules.specs.Limits.{max_material}
use Rattle.simplex.specs.Cell.{Cell, Row, no_cell}
use Rattle.simplex.specs.Chain.{total}
use Rattle.simplex.specs.Faces.{facets}
use Rattle.simplex.specs.Sort.{Asc}
use Rattle.simplex.proofs.Cancel.{Paired}
use Rattle.simplex.proofs.Each.{All, Each, each_at}
use Rattle.simplex.proofs.Rows.{Good}

pub record Solid (nv : ℕ) (cs : List Cell) : Type 0 where
  pub rows : All (Good nv) cs
  pub asc : All Asc cs
  pub distinct : (r : Row) → total r cs ≤ 1
  pub meet : (r : Row) → total r (facets cs) ≤ 2
  pub paired : Paired (facets cs)
  pub materials : Each (λ c. c.material ≤ max_material) cs

abbrev pub row_at : List Cell → ℕ → Row
row_at cs n = (get_or cs n no_cell).row

pub all_at : (R : Row → Type 0) (cs : List Cell) → All R cs → (p : ℕ) → p < length cs → R (row_at cs p)
all_at R cs a p h = each_at (λ c. R c.row) cs p no_cell a h

pub each_tabulated : {A : Type 0} (Q : A → Type 0) (n : ℕ) (f : ℕ → A) → ((p : ℕ) → p < n → Q (f p)) → Each Q (tabulate n f)
each_tabulated Q zero f h = tt
each_tabulated Q (suc n) f h = (h 0 (omega arith), each_tabulated Q n (λ p. f (suc p)) (λ p l. h (suc p) (omega arith)))

pub all_tabulated : (R : Row → Type 0) (n : ℕ) (f : ℕ → Cell) → ((p : ℕ) → p < n → R (f p).row) → All R (tabulate n f)
all_tabulated R = each_tabulated (λ c. R c.row)

-- The vertices of one swept record, by place.
--   lifted_vertex .. i p j     vertex j of cell p, at level i
--   swept_vertex .. i p k j    vertex j of cell k over cell p at level i
use Rattle.std.specs.Prelude.{ℕ, suc, ◌+◌, ◌-◌, cond, List, nat_le}
use Rattle.prism.specs.Cells.{at_level}
use Rattle.sweeping.specs.Inner.SweptWords.{solid_vertex}

abbrev pub lifted_vertex : ℕ → ℕ → ℕ → List ℕ → ℕ → ℕ → ℕ → ℕ
lifted_vertex d v s ws i p j = at_level v i (solid_vertex d s ws p j)

abbrev pub swept_vertex : ℕ → ℕ → ℕ → List ℕ → ℕ → ℕ → ℕ → ℕ → ℕ
swept_vertex d v s ws i p k j =
    cond (nat_le (k + j) d) (lifted_vertex d v s ws i p (k + j)) (lifted_vertex d v s ws (suc i) p (k + j - suc d))

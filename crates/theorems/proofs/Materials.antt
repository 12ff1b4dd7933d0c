-- The laws of materials, and their examples, which are computed.
use mathlib.Core.Path.{◌≡◌, refl, sym, ap, ap₂, ◌∙◌}
use mathlib.Core.Bool.{Bool, true, false, cond, not, ◌&&◌}
use mathlib.Core.List.{List, [], ◌∷◌, ◌++◌, map, append-nil, head-eq_of_cons-eq, tail-eq_of_cons-eq}
use Prim.Native.Nat.{ℕ, suc, ◌≤◌, ◌<◌}
use native.Mathlib.Omega.{arith}
use lib.Dec.{eqb}
use lib.ListN.{length, get_or}
use Rattle.simplex.specs.Cell.{Row, Cell, filled, no_cell}
use Rattle.simplex.specs.Faces.{faces}
use Rattle.simplex.proofs.Each.{each_at, each_keep}
use Rattle.simplex.proofs.Materials.{MadeOf, faces-made}
use Rattle.records.specs.Layout.{Entry, empty, entries_of}
use Rattle.solids.specs.Table.{entry_at}
use Rattle.solids.specs.Wings.{has_face, neighbour_from}
use Rattle.prism.specs.Swept.{swept_table}
use Rattle.prism.specs.Wings.{cell_number}
use Rattle.prism.proofs.SweptTable.{swept_at}
use Rattle.sweep.specs.Sweep.{SweepInput}
use Rattle.boundary.specs.Boundary.{at_empty, boundary_of}
use Rattle.boundary.specs.Inner.Walk.{cell_from}
use Rattle.theorems.specs.Materials.{Materials, MaterialExamples}
use Rattle.theorems.proofs.Computing.{computing}

swept : (x : SweepInput) (i p k : ℕ) → i < x.h → p < x.s → k ≤ x.d →
    let es = entries_of x.d x.s x.table in
    (entry_at (swept_table x.d x.v x.s x.h es) (cell_number x.d x.s i p k)).cell.material ≡ (entry_at es p).cell.material
swept x i p k hi hp hk =
    ap (λ (e : Entry). e.cell.material)
    (swept_at x.d x.v x.s x.h (entries_of x.d x.s x.table) i p k hi hp (omega arith))

empty-made : (n : ℕ) (fs : List Cell) (ws : List ℕ) → MadeOf n fs → MadeOf n (at_empty fs ws)
empty-made n [] ws a = tt
empty-made n (f ∷ fs) [] a = tt
empty-made n (f ∷ fs) (w ∷ ws) a = go (eqb w empty) (empty-made n fs ws a.1)
  where
    go : (t : Bool) → MadeOf n (at_empty fs ws) → MadeOf n (cond t (f ∷ at_empty fs ws) (at_empty fs ws))
    go true r = (a.0, r)
    go false r = r

joined : (e : Entry) (es : List Entry) → boundary_of (e ∷ es) ≡ boundary_of (e ∷ []) ++ boundary_of es
joined e es = ap (λ fs. fs ++ boundary_of es) (sym (append-nil (cell_from 0 e)))

faced : (e : Entry) (f : ℕ) → f < length (boundary_of (e ∷ [])) → (get_or (boundary_of (e ∷ [])) f no_cell).material ≡ e.cell.material
faced e f h =
    let c = e.cell in
    let one = append-nil (cell_from 0 e) in
    ap (λ L. (get_or L f no_cell).material) one
    ∙ each_at (λ (x : Cell). x.material ≡ c.material) (cell_from 0 e) f no_cell
    (each_keep (λ x. x.material ≡ c.material) (λ f. filled f.row) (at_empty (faces c.sign c.material c.row) e.wings)
    (empty-made c.material (faces c.sign c.material c.row) e.wings (faces-made c.sign c.material c.row)))
    (omega (arith, h, ap length one))

rows_alone : (p n : ℕ) (w : Row) (xs ys : List Cell) → map (λ (c : Cell). c.row) xs ≡ map (λ (c : Cell). c.row) ys →
    neighbour_from p n w xs ≡ neighbour_from p n w ys
rows_alone p n w [] [] e = refl
rows_alone p n w [] (y ∷ ys) e = absurd (omega (arith, ap length e))
rows_alone p n w (x ∷ xs) [] e = absurd (omega (arith, ap length e))
rows_alone p n w (x ∷ xs) (y ∷ ys) e =
    ap₂ (λ v r. cond (not (eqb p n) && has_face w v) n r) (head-eq_of_cons-eq e) (rows_alone p (suc n) w xs ys (tail-eq_of_cons-eq e))

pub materials : Materials
materials = record { swept = swept; joined = joined; faced = faced; wings = λ xs ys e p w. rows_alone p 0 w xs ys e }

pub material_examples : MaterialExamples
unfolding computing
material_examples = record { shared = refl; with_materials_lem = refl; of_none = refl; without = refl; too_high = refl; not_ours = refl }

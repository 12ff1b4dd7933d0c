-- The cells of one material of a solid.
--   made_le               a sum over them is at most that over all
--   made-solid            they are a solid
--   made-alone            their sweep has a face no more often than the whole one
--   made-boundary         the faces of that material of the sweep's boundary: those of their sweep that are alone in the whole one
-- Assumes nothing.
use mathlib.Core.Path.{◌≡◌, ap, subst, ◌∙◌}
use mathlib.Core.Bool.{Bool, true, false, cond}
use mathlib.Core.Logic.{◌≢◌, by_cases}
use mathlib.Core.List.{List, [], ◌∷◌}
use Prim.Native.Nat.{ℕ, ◌+◌, ◌≤◌}
use native.Mathlib.Decide.{dec_le}
use native.Mathlib.Omega.{arith}
use lib.Dec.{eqb}
use borrow.Author.Tests.{eqb-false, ne_eqb}
use Rattle.rules.specs.Limits.{max_material}
use Rattle.simplex.specs.Cell.{Cell, Row, filled, times}
use Rattle.simplex.specs.Chain.{of_material, total}
use Rattle.simplex.specs.Faces.{all_faces, facets, keep}
use Rattle.simplex.specs.Sort.{Asc}
use Rattle.simplex.proofs.Cancel.{Paired, lone_in, plus-minus}
use Rattle.simplex.proofs.Each.{All-keep, each_keep}
use Rattle.simplex.proofs.Materials.{of_material-all_faces, of_material-keep}
use Rattle.simplex.proofs.Rows.{Good}
use Rattle.simplex.proofs.Sums.{Functional, plus_on, sum_chain}
use Rattle.solids.proofs.Solid.{Solid}
use Rattle.prism.specs.Cells.{sweep_of}
use Rattle.prism.proofs.SweptMaterials.{of_material_sweep}
use Rattle.third_term.proofs.BoundarySum.{swept_boundary}

of_material-facets : (m : ℕ) (cs : List Cell) → of_material m (facets cs) ≡ facets (of_material m cs)
of_material-facets m cs = of_material-keep m (λ c. filled c.row) (all_faces cs) ∙ ap (keep (λ c. filled c.row)) (of_material-all_faces m cs)

pub made_le : (m : ℕ) (f : Functional) (b : Bool) (cs : List Cell) → sum_chain f b (of_material m cs) ≤ sum_chain f b cs
made_le m f b [] = omega arith
made_le m f b (c ∷ cs) = go (eqb c.material m) (made_le m f b cs)
  where
    go : (t : Bool) → sum_chain f b (of_material m cs) ≤ sum_chain f b cs →
        sum_chain f b (cond t (c ∷ of_material m cs) (of_material m cs)) ≤ f (times c.sign b) c.row + sum_chain f b cs
    go true h = omega arith
    go false h = omega arith

made-few : (m : ℕ) (w : Row) (cs : List Cell) → total w (of_material m cs) ≤ total w cs
made-few m w cs =
    omega (arith, plus-minus w cs, plus-minus w (of_material m cs), made_le m (plus_on w) true cs, made_le m (plus_on w) false cs)

-- of faces that meet in pairs, those of one material do
made-paired : (m : ℕ) (F : List Cell) → ((w : Row) → total w F ≤ 2) → Paired F → Paired (of_material m F)
made-paired m F two paired w n =
    by_cases (dec_le 2 (total w M))
    (λ h. omega (
      arith,
      h,
      plus-minus w F,
      plus-minus w M,
      made_le m (plus_on w) true F,
      made_le m (plus_on w) false F,
      two w,
      paired w (ne_eqb (total w F) 1 (λ z. omega (arith, h, made-few m w F))),
    ))
    (λ h. omega (arith, h, other, plus-minus w M))
  where
    M : List Cell
    M = of_material m F

    other : total w M ≢ 1
    other = eqb-false (total w M) 1 n

pub made-solid : (nv m : ℕ) (cs : List Cell) → Solid nv cs → Solid nv (of_material m cs)
made-solid nv m cs s =
    record {
      rows = All-keep (Good nv) (λ c. eqb c.material m) cs s.rows;
      asc = All-keep Asc (λ c. eqb c.material m) cs s.asc;
      distinct = λ w. omega (arith, made-few m w cs, s.distinct w);
      meet = λ w. subst (λ F. total w F ≤ 2) (of_material-facets m cs) (omega (arith, made-few m w (facets cs), s.meet w));
      paired = subst Paired (of_material-facets m cs) (made-paired m (facets cs) s.meet s.paired);
      materials = each_keep (λ c. c.material ≤ max_material) (λ c. eqb c.material m) cs s.materials;
    }

pub made-boundary : (nv h m : ℕ) (cs : List Cell) →
    of_material m (swept_boundary nv h cs)
    ≡ keep (λ c. lone_in (facets (sweep_of nv h cs)) c.row) (facets (sweep_of nv h (of_material m cs)))
made-boundary nv h m cs =
    let F = facets (sweep_of nv h cs) in
    of_material-keep m (λ c. lone_in F c.row) F
    ∙ ap (keep (λ c. lone_in F c.row)) (of_material-facets m (sweep_of nv h cs) ∙ ap facets (of_material_sweep m nv h cs))

pub made-alone : (nv h m : ℕ) (cs : List Cell) (w : Row) → total w (facets (sweep_of nv h (of_material m cs))) ≤ total w (facets (sweep_of nv h cs))
made-alone nv h m cs w =
    subst (λ F. total w F ≤ total w (facets (sweep_of nv h cs)))
    (of_material-facets m (sweep_of nv h cs) ∙ ap facets (of_material_sweep m nv h cs)) (made-few m w (facets (sweep_of nv h cs)))

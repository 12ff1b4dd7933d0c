-- The third term holds for every two sittings in which wing and sweep refuse nothing.
use mathlib.Core.Path.{◌≡◌, ap, ap₂, subst, subst₂, sym, ◌∙◌}
use lib.IntN.{◌+ℤ◌, ◌-ℤ◌, pos}
use mathlib.Core.List.{List}
use lib.Dec.{eqb}
use mathlib.Core.Bool.{false, true}
use Prim.Native.Nat.{suc, ℕ, ◌≤◌}
use Rattle.simplex.specs.Cell.{Cell, Row, filled}
use Rattle.simplex.specs.Chain.{Same, coefficient, total}
use Rattle.simplex.specs.Faces.{all_faces, facets}
use Rattle.simplex.proofs.Each.{All, All-keep}
use Rattle.simplex.proofs.FaceCounts.{all_faces-long}
use Rattle.simplex.proofs.Rows.{Long}
use Rattle.solids.proofs.Tests.{count-sum}
use Rattle.prism.specs.Cells.{sweep_of, top_copy}
use Rattle.boundary.specs.Boundary.{own_boundary}
use Rattle.boundary.proofs.FaceCodec.{faces-back}
use Rattle.boundary.proofs.Lone.{lone_once}
use Rattle.third_term.specs.ThirdTerm.{BoundaryOf, Sitting, ThirdTerm, Unrefused, boundary, signed, solid}
use Rattle.third_term.proofs.Coefficients.{coefficients, times_ℤ, value}
use Rattle.third_term.proofs.Decides.{back, forth}
use Rattle.third_term.proofs.Run.{boundary_is, faces-accepts, faces-writes, is_long, is_solid, some-steps, swept_is_long}

coefficient_is : (w : Row) (cs : List Cell) → coefficient w cs ≡ value w cs
coefficient_is w cs = ap₂ (λ a b. pos a -ℤ pos b) (count-sum true w cs) (count-sum false w cs)

module _ (d v h : ℕ) (x : Sitting) (u : Unrefused d v h x) where
  abbrev T : List Cell
  T = sweep_of v h (solid d v h x)

  boundary-long : All (Long (suc d)) (boundary d v h x)
  boundary-long =
      subst (All (Long (suc d))) (sym (boundary_is d v h x u))
      (All-keep (Long (suc d)) (λ f. eqb (total f.row (facets T)) 1) (facets T)
      (All-keep (Long (suc d)) (λ f. filled f.row) (all_faces T) (all_faces-long (suc d) T (swept_is_long d v h x u))))

  sum_is : (w : Row) →
      coefficient w (boundary d v h x)
      ≡ signed d v h x (coefficient w (top_copy v h (solid d v h x)) -ℤ coefficient w (solid d v h x))
      +ℤ coefficient w (sweep_of v h (own_boundary (solid d v h x)))
  sum_is w =
      coefficient_is w (boundary d v h x) ∙ ap (value w) (boundary_is d v h x u)
      ∙ coefficients v d h (solid d v h x) (is_solid d v h x u) (is_long d v h x u) w
      ∙ sym (ap₂ (λ y z. times_ℤ d y +ℤ z)
      (ap₂ (λ y z. y -ℤ z) (coefficient_is w (top_copy v h (solid d v h x))) (coefficient_is w (solid d v h x)))
      (coefficient_is w (sweep_of v h (own_boundary (solid d v h x)))))

  pub boundary_of_lem : BoundaryOf d v h x
  boundary_of_lem =
      record {
        answered = faces-accepts d v h x u;
        written = faces-writes d v h x u;
        read = faces-back (suc d) (boundary d v h x) boundary-long;
        distinct = λ w. subst (λ b. total w b ≤ 1) (sym (boundary_is d v h x u)) (lone_once (facets T) w);
        sum = sum_is;
      }

pub third_term_lem : (d v h : ℕ) (x y : Sitting) → Unrefused d v h x → Unrefused d v h y → ThirdTerm d v h x y
third_term_lem d v h x y ux uy =
    record {
      decides = (
        (λ e. subst₂ Same (sym (boundary_is d v h x ux)) (sym (boundary_is d v h y uy)) (forth v h (solid d v h x) (solid d v h y) e)),
        (λ e. back v h (solid d v h x) (solid d v h y) (is_solid d v h x ux) (is_solid d v h y uy) (some-steps d v h x ux)
            (subst₂ Same (boundary_is d v h x ux) (boundary_is d v h y uy) e)),
      );
      first = boundary_of_lem d v h x ux;
      second = boundary_of_lem d v h y uy;
    }

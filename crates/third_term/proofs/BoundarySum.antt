-- The boundary of a sweep as a sum: top, bottom, and the sweep of the solid's own boundary, for any functional.
--   over_sweep f nv h          a functional summed over the sweep of a row
--   swept_boundary nv h cs     the own boundary of the swept cells
use mathlib.Core.Path.{◌≡◌, refl, sym, ap}
use mathlib.Core.Bool.{Bool, true, false}
use mathlib.Core.List.{List, []}
use Prim.Native.Nat.{ℕ, zero, suc, ◌+◌, ◌*◌}
use native.Mathlib.Omega.{arith}
use Rattle.simplex.specs.Cell.{Cell}
use Rattle.simplex.specs.Faces.{all_faces, facets, keep}
use Rattle.simplex.proofs.Cancel.{lone_cancel, lone_in, sum_chain_facets}
use Rattle.simplex.proofs.Sums.{Functional, sum_chain, sum_chain_add, sum_chain_all_faces, sum_chain_append, sum_chain_zero}
use Rattle.solids.proofs.Solid.{Solid}
use Rattle.prism.specs.Cells.{level, sweep_of}
use Rattle.prism.proofs.Level.{at_height, over_prism}
use Rattle.prism.proofs.Pairs.{swept-paired}
use Rattle.prism.proofs.SweptSolid.{swept-facets}
use Rattle.prism.proofs.SweptSums.{sum_chain_level, sweep_id, swept_parts}
use Rattle.boundary.specs.Boundary.{own_boundary}

abbrev pub over_sweep : Functional → ℕ → ℕ → Functional
over_sweep f nv zero c y = 0
over_sweep f nv (suc h) c y = over_sweep f nv h c y + over_prism f (h * nv) (suc h * nv) c y

pub sum_chain_sweep : (f : Functional) (nv h : ℕ) (b : Bool) (cs : List Cell) → sum_chain f b (sweep_of nv h cs) ≡ sum_chain (over_sweep f nv h) b cs
sum_chain_sweep f nv zero b cs = sym (sum_chain_zero b cs)
sum_chain_sweep f nv (suc h) b cs =
    omega (
      arith,
      sum_chain_append f b (sweep_of nv h cs) (level nv h cs),
      sum_chain_sweep f nv h b cs,
      sum_chain_level f nv h b cs,
      sum_chain_add (over_sweep f nv h) (over_prism f (h * nv) (suc h * nv)) b cs,
    )

over_sweep_nil : (f : Functional) (nv h : ℕ) (c : Bool) → over_sweep f nv h c [] ≡ 0
over_sweep_nil f nv zero c = refl
over_sweep_nil f nv (suc h) c = omega (arith, over_sweep_nil f nv h c)

abbrev pub swept_boundary : ℕ → ℕ → List Cell → List Cell
swept_boundary nv h cs = own_boundary (sweep_of nv h cs)

module _ (nv : ℕ) (cs : List Cell) (s : Solid nv cs) where
  bd_eq : (h : ℕ) → swept_boundary nv h cs ≡ keep (λ c. lone_in (all_faces (sweep_of nv h cs)) c.row) (all_faces (sweep_of nv h cs))
  bd_eq h = ap (λ F. keep (λ c. lone_in F c.row) F) (swept-facets nv h cs s)

  pub bd_is : (h : ℕ) (f : Functional) →
      sum_chain f true (swept_boundary nv h cs) + swept_parts f nv h false cs
      ≡ swept_parts f nv h true cs + sum_chain f false (swept_boundary nv h cs)
  bd_is h f =
      omega (
        arith,
        sweep_id f nv h cs,
        sum_chain_all_faces f true (sweep_of nv h cs),
        sum_chain_all_faces f false (sweep_of nv h cs),
        lone_cancel (all_faces (sweep_of nv h cs)) (swept-paired nv cs s h) f,
        ap (sum_chain f true) (bd_eq h),
        ap (sum_chain f false) (bd_eq h),
      )

  pub boundary-sum : (h : ℕ) (f : Functional) →
      sum_chain f true (swept_boundary nv h cs)
      + (sum_chain (at_height f (h * nv)) false cs + sum_chain (at_height f (zero * nv)) true cs + sum_chain f false
      (sweep_of nv h (own_boundary cs)))
      ≡ (sum_chain (at_height f (h * nv)) true cs + sum_chain (at_height f (zero * nv)) false cs + sum_chain f true (sweep_of nv h (own_boundary cs)))
      + sum_chain f false (swept_boundary nv h cs)
  boundary-sum h f =
      omega (
        arith,
        bd_is h f,
        lone_cancel (facets cs) s.paired (over_sweep f nv h),
        sum_chain_facets (over_sweep f nv h) true cs (λ c. over_sweep_nil f nv h c),
        sum_chain_facets (over_sweep f nv h) false cs (λ c. over_sweep_nil f nv h c),
        sum_chain_sweep f nv h true (own_boundary cs),
        sum_chain_sweep f nv h false (own_boundary cs),
        sum_chain_sweep f nv h true (all_faces cs),
        sum_chain_sweep f nv h false (all_faces cs),
      )

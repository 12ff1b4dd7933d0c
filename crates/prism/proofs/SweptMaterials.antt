-- Materials in a sweep: swept cells have the material of the cell that they come from.
--   each-swept            what holds of the materials of a list holds of those of its sweep
--   of_material_sweep      the swept cells of one material are the sweep of the cells of that material
-- Assumes nothing.
use mathlib.Core.Path.{◌≡◌, refl, ap₂, ◌∙◌}
use mathlib.Core.List.{List, [], ◌∷◌, ◌++◌}
use Prim.Native.Nat.{ℕ, zero, suc}
use lib.Dec.{eqb}
use Rattle.simplex.specs.Cell.{Cell}
use Rattle.simplex.specs.Chain.{of_material}
use Rattle.simplex.proofs.FaceCounts.{keep_append}
use Rattle.simplex.proofs.Each.{Each}
use Rattle.simplex.proofs.Materials.{of_material-step}
use Rattle.prism.specs.Cells.{level, prism, sweep_of}
use Rattle.prism.proofs.SweptEach.{each-prism, each_sweep}

pub each-swept : (Q : ℕ → Type 0) (v h : ℕ) (cs : List Cell) → Each (λ c. Q c.material) cs →
    Each (λ c. Q c.material) (sweep_of v h cs)
each-swept Q v h cs a = each_sweep (λ c. Q c.material) (λ c. Q c.material) v h cs a (λ i c l q k b. q)

module _ (m : ℕ) where
  of_material-level : (v i : ℕ) (cs : List Cell) → of_material m (level v i cs) ≡ level v i (of_material m cs)
  of_material-level v i [] = refl
  of_material-level v i (c ∷ cs) =
      of_material-step (level v i) m c (prism v i c) cs (λ xs. refl) (each-prism (λ x. x.material ≡ c.material) v i c (λ k l. refl))
      (of_material-level v i cs)

  pub of_material_sweep : (v h : ℕ) (cs : List Cell) → of_material m (sweep_of v h cs) ≡ sweep_of v h (of_material m cs)
  of_material_sweep v zero cs = refl
  of_material_sweep v (suc h) cs =
      keep_append (λ c. eqb c.material m) (sweep_of v h cs) (level v h cs)
      ∙ ap₂ {C = List Cell} (λ x y. x ++ y) (of_material_sweep v h cs) (of_material-level v h cs)

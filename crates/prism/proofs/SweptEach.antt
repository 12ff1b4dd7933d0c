-- What holds of each prism cell holds of each swept cell.
--   each-prism, each_sweep        of the prism of one cell, and of the sweep of a list
-- Assumes nothing.
use mathlib.Core.List.{List, [], ◌∷◌}
use Prim.Native.Nat.{ℕ, zero, suc, ◌<◌}
use native.Mathlib.Omega.{arith}
use lib.ListN.{length}
use Rattle.simplex.specs.Cell.{Cell}
use Rattle.simplex.proofs.Each.{Each, each_append}
use Rattle.solids.proofs.Solid.{each_tabulated}
use Rattle.prism.specs.Cells.{level, prism, prism_cell, sweep_of}

pub each-prism : (R : Cell → Type 0) (v i : ℕ) (c : Cell) → ((k : ℕ) → k < length c.row → R (prism_cell v i k c)) → Each R (prism v i c)
each-prism R v i c h = each_tabulated R (length c.row) (λ k. prism_cell v i k c) h

module _ (R Q : Cell → Type 0) (v : ℕ) where
  each_level : (i : ℕ) (cs : List Cell) → Each Q cs →
      ((c : Cell) → Q c → (k : ℕ) → k < length c.row → R (prism_cell v i k c)) → Each R (level v i cs)
  each_level i [] a h = tt
  each_level i (c ∷ cs) a h = each_append R (prism v i c) (level v i cs) (each-prism R v i c (h c a.0)) (each_level i cs a.1 h)

  pub each_sweep : (h : ℕ) (cs : List Cell) → Each Q cs →
      ((i : ℕ) (c : Cell) → i < h → Q c → (k : ℕ) → k < length c.row → R (prism_cell v i k c)) → Each R (sweep_of v h cs)
  each_sweep zero cs a r = tt
  each_sweep (suc h) cs a r =
      each_append R (sweep_of v h cs) (level v h cs) (each_sweep h cs a (λ i c l. r i c (omega arith)))
      (each_level h cs a (λ c. r h c (omega arith)))

-- A table whose records are fine and whose keys are all first or second is sound.
use mathlib.Core.Path.{◌≡◌}
use mathlib.Core.Logic.{◌⊎◌}
use mathlib.Core.Bool.{true}
use mathlib.Core.List.{List}
use Prim.Native.Nat.{ℕ, suc, ◌*◌, ◌≤◌, ◌<◌}
use lib.ListN.{length}
use Rattle.rules.specs.Limits.{max_dimension}
use Rattle.rules.specs.Shapes.{shape_ok}
use Rattle.simplex.specs.Sort.{Asc}
use Rattle.records.specs.Inner.Inside.{Table}
use Rattle.records.proofs.Places.{record_long, row-long}
use Rattle.solids.specs.Table.{sound}
use Rattle.soundness.specs.Inner.Certified.{Fine, row_in}
use Rattle.soundness.specs.Inner.Pairing.{First, Second}
use Rattle.soundness.proofs.Certified.{certified}
use Rattle.soundness.proofs.FaceRows.{rising}
use Rattle.soundness.proofs.Linked.{apart, linked}

module _ (d v s : ℕ) (ws : List ℕ) (t : Table d s ws) (fine : (p : ℕ) → p < s → Fine d v ws p) where
  pub rows_up : (p : ℕ) → p < s → Asc (row_in d ws p)
  rows_up p h = rising d v s p ws t.long h (fine p h)

  pub told : 1 ≤ d → shape_ok max_dimension d v s ≡ true →
      ((g : ℕ) → g < s * suc d → First d ws (s * suc d) g ⊎ Second d ws g) → sound d v s ws ≡ true
  told some ok done =
      let size : (p : ℕ) → p < s → length (row_in d ws p) ≡ suc d = λ p h. row-long d _ (record_long d s p ws h t.long) in
      certified d v s ws some t.cells t.long fine (linked d s ws t.cells done size rows_up) (apart d s ws t.cells done size rows_up) ok

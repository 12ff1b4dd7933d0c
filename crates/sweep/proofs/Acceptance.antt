-- What it gives that sweep does not refuse.
--   Swept i           numbers of an accepted table, and of its sweep
use mathlib.Core.Path.{◌≡◌, refl}
use mathlib.Core.Bool.{true}
use Prim.Native.Nat.{ℕ, ◌≤◌}
use lib.Dec.{ltb}
use borrow.Author.Tests.{ltb-false, not-false}
use Rattle.rules.specs.Calls.{accepted}
use Rattle.rules.specs.Limits.{max_cells, max_source, max_vertices, steps_ok, swept_vertices}
use Rattle.rules.specs.Shapes.{shape_ok}
use Rattle.rules.proofs.Accepting.{accepted_by}
use Rattle.rules.proofs.Tests.{and_parts}
use Rattle.solids.proofs.Tests.{or_false}
use Rattle.prism.specs.Swept.{swept_cells}
use Rattle.sweep.specs.Sweep.{SweepInput, swept_length, sweep_outcome, sweep_rules}

pub record Swept (i : SweepInput) : Type 0 where
  pub shape : shape_ok max_source i.d i.v i.s ≡ true
  pub steps : steps_ok i.h ≡ true
  pub vertices : swept_vertices i.v i.h ≤ max_vertices
  pub cells : swept_cells i.d i.s i.h ≤ max_cells

pub swept_is : (i : SweepInput) (n : ℕ) → sweep_outcome i ≡ accepted n → Swept i
unfolding sweep_outcome sweep_rules
swept_is i n e =
    let none = (accepted_by sweep_rules swept_length i n refl e).1 in
    let numbers = and_parts (shape_ok max_source i.d i.v i.s) (steps_ok i.h) (not-false _ (none 2)) in
    let large = or_false (ltb max_vertices (swept_vertices i.v i.h)) (ltb max_cells (swept_cells i.d i.s i.h)) (none 12) in
    record {
      shape = numbers.0;
      steps = numbers.1;
      vertices = ltb-false _ _ large.0;
      cells = ltb-false _ _ large.1;
    }

-- What it gives that wing does not refuse.
--   Winged i          numbers, length, cells and rooms of an accepted list
use mathlib.Core.Path.{◌≡◌, refl}
use mathlib.Core.Bool.{true}
use Prim.Native.Nat.{ℕ, ◌≤◌}
use borrow.Author.Tests.{eqb-true, ltb-false, not-false}
use lib.Dec.{ltb}
use lib.ListN.{length}
use Rattle.rules.specs.Calls.{accepted}
use Rattle.rules.specs.Limits.{max_dimension}
use Rattle.rules.specs.Shapes.{shape_ok}
use Rattle.rules.proofs.Accepting.{accepted_by}
use Rattle.records.specs.Layout.{list_length}
use Rattle.solids.specs.Accept.{acceptable, solid_rules}
use Rattle.solids.proofs.Accepted.{passes}
use Rattle.solids.proofs.Tests.{or_false}
use Rattle.wing.specs.Wing.{WingInput, wing_length, uploaded_length, wing_outcome, wing_rules}

pub record Winged (i : WingInput) (n : ℕ) : Type 0 where
  pub count : n ≡ wing_length i
  pub shape : shape_ok max_dimension i.list.d i.list.v i.list.s ≡ true
  pub size : length i.list.words ≡ list_length i.list.d i.list.s
  pub cells : acceptable i.list ≡ true
  pub fits : wing_length i ≤ i.room
  pub uploaded_fits : uploaded_length i ≤ i.uploaded_room

pub winged_is : (i : WingInput) (n : ℕ) → wing_outcome i ≡ accepted n → Winged i n
unfolding wing_outcome wing_rules solid_rules
winged_is i n e =
    let l = i.list in
    let by = accepted_by wing_rules wing_length i n refl e in
    let none = by.1 in
    let rooms = or_false (ltb i.room (wing_length i)) (ltb i.uploaded_room (uploaded_length i)) (none 15) in
    record {
      count = by.0;
      shape = not-false _ (none 2);
      size = eqb-true _ _ (not-false _ (none 3));
      cells = passes l
          (record { sign = none 6; vertex = none 7; twice = none 8; material = none 18; cell = none 9; crowded = none 10; equal = none 11 });
      fits = ltb-false _ _ rooms.0;
      uploaded_fits = ltb-false _ _ rooms.1;
    }

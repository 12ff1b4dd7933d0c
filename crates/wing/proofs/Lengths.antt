-- What an accepted call writes: wing's count is that of its table's words, and they stand at the front of their buffer.
--   TableLeft i n w       what is known where an accepted call has left w in that buffer
use mathlib.Core.Path.{◌≡◌, sym, ap, ◌∙◌}
use mathlib.Core.Bool.{true, not}
use mathlib.Core.List.{List}
use Prim.Native.Nat.{ℕ, ◌≤◌}
use lib.ListN.{length, take}
use lib.Seq.{length-take-le}
use Rattle.rules.specs.Calls.{Outcome, accepted, after}
use Rattle.rules.specs.Limits.{max_dimension}
use Rattle.rules.proofs.Accepting.{front_of}
use Rattle.rules.proofs.InLimits.{limits_are}
use Rattle.records.specs.Layout.{list_length, table_length}
use Rattle.records.specs.Inner.Inside.{Table}
use Rattle.solids.specs.Accept.{Listed, solid_of, acceptable}
use Rattle.solids.specs.Table.{table_of_list}
use Rattle.solids.proofs.Accepted.{accepted-solid, solid-length}
use Rattle.solids.proofs.OwnTable as own
use Rattle.wing.specs.Wing.{WingInput, uploaded_length, wing_outcome, wing_buffer}
use Rattle.wing.proofs.Acceptance.{winged_is}

pub table-long : (l : Listed) → length l.words ≡ list_length l.d l.s → acceptable l ≡ true →
    length (table_of_list l) ≡ table_length l.d l.s
unfolding table_of_list
table-long l e ok =
    let solid = accepted-solid l e ok in
    own.words-length l.d l.v (solid_of l) solid.0 solid.1 ∙ ap (table_length l.d) (solid-length l)

pub accepted-long : (i : WingInput) (k : ℕ) → wing_outcome i ≡ accepted k → k ≡ length (table_of_list i.list)
accepted-long i k e = let w = winged_is i k e in w.count ∙ sym (table-long i.list w.size w.cells)

-- the front of the buffer lent for the table
pub winged_front : (i : WingInput) (out w : List ℕ) (k : ℕ) → w ≡ wing_buffer i out →
    wing_outcome i ≡ accepted k → (k ≤ length w) × (take k w ≡ table_of_list i.list)
unfolding wing_buffer
winged_front i out w k e a =
    front_of (table_of_list i.list) out w k (e ∙ ap (λ o. after o (table_of_list i.list) out) a) (accepted-long i k a)

-- what is known of that front, and of the further buffer's room
pub record TableLeft (i : WingInput) (n : ℕ) (w : List ℕ) : Type 0 where
  pub told : wing_outcome i ≡ accepted n
  pub fits : n ≤ length w
  pub front : take n w ≡ table_of_list i.list
  pub long : length (take n w) ≡ n
  pub table : Table i.list.d i.list.s (take n w)
  pub size : length i.list.words ≡ list_length i.list.d i.list.s
  pub room : uploaded_length i ≤ i.uploaded_room

pub table_left : (i : WingInput) (out w : List ℕ) (o : Outcome ℕ) (n : ℕ) → o ≡ wing_outcome i → w ≡ wing_buffer i out → o ≡ accepted n →
    TableLeft i n w
table_left i out w o n q e m =
    let a = sym q ∙ m in
    let front = winged_front i out w n e a in
    let facts = winged_is i n a in
    let l = limits_are max_dimension i.list.d i.list.v i.list.s (ap not facts.shape) in
    let long = length-take-le n w front.0 in
    record {
      told = a;
      fits = front.0;
      front = front.1;
      long = long;
      table = record { dimension = l.dimension; cells = l.cells; long = long ∙ facts.count };
      size = facts.size;
      room = facts.uploaded_fits;
    }

-- The call read by the first of its rules that applies.
--   refuses, accepts      what it answers and leaves of the cells where one applies, and where none does
--   points_kept, points_put      what it leaves of the points, by its answer
--   Passed                what the writers then rely on: the header is there, the length is right, the floats are in range, and both
--                         buffers have room; passed, passed_each and passed_by make it
--   ours_long, right-length, floats_parts     what rows 1, 3 and 4 say where they do not apply
-- Assumes nothing.
use mathlib.Core.Path.{◌≡◌, refl, sym, ap, ◌∙◌}
use mathlib.Core.Bool.{true, false, not, ◌&&◌}
use mathlib.Core.List.{List}
use Prim.Native.Nat.{ℕ, ◌≤◌}
use lib.Dec.{eqb, ltb}
use lib.ListN.{length, take}
use lib.Ieee.{Float}
use borrow.Author.Tests.{ltb-false, eqb-true, not-false}
use Rattle.words.specs.Records.{all_of, tabulate}
use Rattle.rules.specs.Limits.{version_ok}
use Rattle.rules.specs.Calls.{first_refusal, accepted, refused, written}
use Rattle.rules.specs.Numbers.{number_of}
use Rattle.rules.specs.declared.refusal.Refusal.{Refusal}
use Rattle.rules.proofs.Accepting.{test_of, passes, accepted_by}
use Rattle.rules.proofs.Refusing.{refused_is, accepted_is, kept, put}
use Rattle.rules.proofs.Tests.{and_parts}
use Rattle.simplex.specs.Cell.{same_row}
use Rattle.solids.proofs.Tests.{or_false}
use Rattle.points.specs.Step.{in_range}
use Rattle.file.specs.File.{mark, version_of, header_size, amount_of, point_count, file_length, file_points}
use Rattle.file.specs.Tests.{not_ours, floats_ok, cells_length, file_words}
use Rattle.read.specs.declared.Header.{Header}
use Rattle.read.specs.Read.{ReadInput, read_rules, read_outcome, read_cells, read_points, header_of}

abbrev header : ReadInput → Header
header i = header_of i.bytes

module _ (i : ReadInput) (cells : List ℕ) where
  pub refuses : (r : Refusal) → number_of r ≡ first_refusal read_rules i → (refused (number_of r) ≡ read_outcome i) × (cells ≡ read_cells i cells)
  unfolding read_outcome read_cells
  refuses r h = let e = refused_is read_rules header i r h in (e, kept _ (number_of r) (file_words i.bytes) cells e)

  pub accepts : (k : Header) (new : List ℕ) → 0 ≡ first_refusal read_rules i → k ≡ header_of i.bytes →
      new ≡ written (file_words i.bytes) cells → (accepted k ≡ read_outcome i) × (new ≡ read_cells i cells)
  unfolding read_outcome read_cells
  accepts k new h e w = let o = accepted_is read_rules header i h in (ap accepted e ∙ o, w ∙ put _ _ (file_words i.bytes) cells o)

module _ (i : ReadInput) (points : List Float) where
  pub points_kept : (n : ℕ) → refused n ≡ read_outcome i → points ≡ read_points i points
  unfolding read_points
  points_kept n e = kept _ n (file_points i.bytes) points e

  pub points_put : (k : Header) (new : List Float) → accepted k ≡ read_outcome i → new ≡ written (file_points i.bytes) points →
      new ≡ read_points i points
  unfolding read_points
  points_put k new e w = w ∙ put _ k (file_points i.bytes) points e

module _ (b : List ℕ) where
  pub ours_long : not_ours b ≡ false → header_size ≤ length b
  ours_long e =
      ltb-false (length b) header_size
      (or_false (ltb (length b) header_size) (not (same_row (take 3 b) mark && version_ok (version_of b))) e).0

  pub right-length : not (eqb (length b) (file_length b)) ≡ false → length b ≡ file_length b
  right-length e = eqb-true (length b) (file_length b) (not-false (eqb (length b) (file_length b)) e)

  pub floats_parts : not (floats_ok b) ≡ false → (all_of in_range (tabulate 3 (amount_of b)) ≡ true) × (all_of in_range (file_points b) ≡ true)
  floats_parts e = and_parts (all_of in_range (tabulate 3 (amount_of b))) (all_of in_range (file_points b)) (not-false (floats_ok b) e)

pub record Passed (i : ReadInput) : Type 0 where
  pub long : header_size ≤ length i.bytes
  pub whole : length i.bytes ≡ file_length i.bytes
  pub amounts : all_of in_range (tabulate 3 (amount_of i.bytes)) ≡ true
  pub floats : all_of in_range (file_points i.bytes) ≡ true
  pub cells : cells_length i.bytes ≤ i.cell_room
  pub points : point_count i.bytes ≤ i.point_room

pub passed_each : (i : ReadInput) → ((n : ℕ) → test_of n read_rules i ≡ false) → Passed i
unfolding read_rules
passed_each i fine =
    let b = i.bytes in
    let floats = floats_parts b (fine 4) in
    let rooms = or_false (ltb i.cell_room (cells_length b)) (ltb i.point_room (point_count b)) (fine 15) in
    record {
      long = ours_long b (fine 1);
      whole = right-length b (fine 3);
      amounts = floats.0;
      floats = floats.1;
      cells = ltb-false i.cell_room (cells_length b) rooms.0;
      points = ltb-false i.point_room (point_count b) rooms.1;
    }

pub passed : (i : ReadInput) → 0 ≡ first_refusal read_rules i → Passed i
unfolding read_rules
passed i h = passed_each i (passes read_rules i refl h)

pub passed_by : (i : ReadInput) (k : Header) → accepted k ≡ read_outcome i → Passed i
unfolding read_rules read_outcome
passed_by i k e = passed_each i (accepted_by read_rules header i k refl (sym e)).1

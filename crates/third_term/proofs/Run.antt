-- One sitting: what wing and sweep write, and the boundary of the swept table.
use mathlib.Core.Path.{◌≡◌, ap, ap₂, refl, sym, ◌∙◌}
use Prim.Native.Nat.{◌*◌, ◌<◌, suc, ℕ, ◌≤◌}
use mathlib.Core.List.{List}
use native.Mathlib.Omega.{arith}
use lib.ListN.{length}
use borrow.Author.Tests.{eq-eqb, le-leb, le-ltb, leb-true}
use lib.Dec.{leb}
use native.Mathlib.Nat.{suc-mul}
use mathlib.Core.Bool.{not, true}
use Rattle.rules.specs.Calls.{accepted, written}
use Rattle.rules.specs.Limits.{max_dimension, max_source, max_steps, sizes_ok, swept_vertices}
use Rattle.rules.specs.Shapes.{shape_ok}
use Rattle.rules.proofs.InLimits.{Limits, limits_are, sizes_follow}
use Rattle.rules.proofs.Tests.{and_parts}
use Rattle.rules.proofs.Accepting.{front_of}
use Rattle.simplex.specs.Cell.{Cell}
use Rattle.simplex.proofs.Each.{All}
use Rattle.simplex.proofs.Rows.{Long}
use Rattle.records.specs.Layout.{face_size, empty, Entry, entries_of, table_length, table_words}
use Rattle.solids.specs.Table.{sound, table_of, table_of_list}
use Rattle.wing.specs.Wing.{wing_buffer}
use Rattle.solids.proofs.Accepted.{accepted-solid, solid-length}
use Rattle.solids.proofs.OwnTable.{entries_of_words, table-sound, words-length}
use Rattle.solids.proofs.Solid.{Solid}
use Rattle.prism.specs.Cells.{sweep_of}
use Rattle.prism.specs.Swept.{swept_cells, swept_table}
use Rattle.sweep.specs.Sweep.{sweep_buffer, swept_length, swept_words}
use Rattle.prism.proofs.SweptRows.{len_sweep, none-swept}
use Rattle.prism.proofs.SweptSolid.{swept-long, swept-solid}
use Rattle.prism.proofs.SweptTable.{swept-table}
use Rattle.boundary.specs.Boundary.{boundary_of, own_boundary}
use Rattle.boundary.specs.Faces.{boundary_cells, faces_buffer, faces_outcome, faces_rules}
use Rattle.boundary.proofs.EmptyWings.{boundary-own}
use Rattle.third_term.specs.ThirdTerm.{Sitting, Unrefused, boundary, boundary_words, list, solid, swept_written, table_written, to_faces, to_sweep}
use Rattle.third_term.specs.ThirdTerm.{to_wing}
use Rattle.wing.proofs.Acceptance.{Winged, winged_is}
use Rattle.sweep.proofs.Acceptance.{Swept, swept_is}

module _ (d v h : ℕ) (x : Sitting) (u : Unrefused d v h x) where
  abbrev cs : List Cell
  cs = solid d v h x

  abbrev T : List Cell
  T = sweep_of v h cs

  wing_facts : Winged (to_wing d v h x) (table_length d x.s)
  wing_facts = winged_is (to_wing d v h x) (table_length d x.s) u.winged

  sweep_facts : Swept (to_sweep d v h x)
  sweep_facts = swept_is (to_sweep d v h x) (swept_length (to_sweep d v h x)) u.swept

  pub is_solid : Solid v cs
  is_solid = (accepted-solid (list d v h x) wing_facts.size wing_facts.cells).0

  pub is_long : All (Long (suc d)) cs
  is_long = (accepted-solid (list d v h x) wing_facts.size wing_facts.cells).1

  pub count : length cs ≡ x.s
  count = solid-length (list d v h x)

  -- wing writes the table of the solid
  table_is : table_written d v h x ≡ table_words (table_of cs)
  unfolding wing_buffer table_of_list
  table_is =
      rw u.winged
      (front_of (table_words (table_of cs)) x.table_buffer _ (table_length d x.s) refl
      (sym (words-length d v cs is_solid is_long ∙ ap (table_length d) count))).1

  entries_are : entries_of d x.s (table_written d v h x) ≡ table_of cs
  entries_are = ap₂ {C = List Entry} (λ n ws. entries_of d n ws) (sym count) table_is ∙ entries_of_words d v cs is_solid is_long

  limits : Limits max_source d v x.s
  limits = limits_are max_source d v x.s (ap not sweep_facts.shape)

  pub some-steps : 0 < h
  some-steps = leb-true 1 h (and_parts (leb 1 h) (leb h max_steps) sweep_facts.steps).0

  small : length cs ≤ empty
  small = omega (arith, count, limits.cells)

  swept-count : length T ≡ swept_cells d x.s h
  swept-count = len_sweep v (suc d) h cs is_long ∙ ap (λ n. h * (n * suc d)) count

  swept_small : length T ≤ empty
  swept_small = omega (arith, swept-count, sweep_facts.cells)

  -- the sweep of an accepted solid is a solid
  pub swept_is_solid : Solid (swept_vertices v h) T
  swept_is_solid = swept-solid v h cs is_solid

  pub swept_is_long : All (Long (suc (suc d))) T
  swept_is_long = swept-long v h (suc d) cs is_long

  -- sweep writes the table of the swept cells: the wings that the rule gives are their neighbours
  swept-words : swept_words (to_sweep d v h x) ≡ table_words (table_of T)
  unfolding swept_words
  swept-words =
      ap (λ es. table_words (swept_table d v x.s h es)) entries_are
      ∙ ap (λ n. table_words (swept_table d v n h (table_of cs))) (sym count)
      ∙ ap table_words (swept-table v d h cs is_solid is_long small)

  pub swept-table_is : swept_written d v h x ≡ table_words (table_of T)
  unfolding sweep_buffer
  swept-table_is =
      rw u.swept
      ((front_of (swept_words (to_sweep d v h x)) x.swept_buffer _ (swept_length (to_sweep d v h x)) refl
      (sym (ap length swept-words ∙ words-length (suc d) (swept_vertices v h) T swept_is_solid swept_is_long
      ∙ ap (table_length (suc d)) swept-count))).1
      ∙ swept-words)

  -- the boundary off its empty wings is the swept cells' own
  pub boundary_is : boundary d v h x ≡ own_boundary T
  boundary_is =
      ap boundary_of
      (ap₂ {C = List Entry} (λ n ws. entries_of (suc d) n ws) (sym swept-count) swept-table_is
      ∙ entries_of_words (suc d) (swept_vertices v h) T swept_is_solid swept_is_long)
      ∙ boundary-own (swept_vertices v h) (suc d) T swept_is_solid swept_is_long swept_small

  -- a sweep has vertices where its solid has, and is without cells where that is
  swept-shape : shape_ok max_dimension (suc d) (swept_vertices v h) (swept_cells d x.s h) ≡ true
  swept-shape =
      rw (le-leb (suc d) max_dimension (omega (arith, limits.dimension)))
      (sizes_follow v x.s (swept_vertices v h) (swept_cells d x.s h) (and_parts (leb d max_source) (sizes_ok v x.s) sweep_facts.shape).1
      sweep_facts.vertices sweep_facts.cells
      (λ some. omega (arith, some, suc-mul h v))
      (λ none. ap (λ n. swept_cells d n h) none ∙ none-swept d h))

  swept-length_is : length (swept_written d v h x) ≡ table_length (suc d) (swept_cells d x.s h)
  swept-length_is =
      ap length swept-table_is ∙ words-length (suc d) (swept_vertices v h) T swept_is_solid swept_is_long ∙ ap (table_length (suc d)) swept-count

  -- the swept table is sound
  pub swept-sound : sound (suc d) (swept_vertices v h) (swept_cells d x.s h) (swept_written d v h x) ≡ true
  swept-sound =
      ap₂ (λ n ws. sound (suc d) (swept_vertices v h) n ws) (sym swept-count) swept-table_is
      ∙ table-sound (suc d) (swept_vertices v h) T swept_is_solid swept_is_long
      (ap (shape_ok max_dimension (suc d) (swept_vertices v h)) swept-count ∙ swept-shape)

  -- so faces does not refuse it
  pub faces-accepts : (out : List ℕ) → length (boundary d v h x) * face_size (suc d) ≤ length out →
      faces_outcome (to_faces d v h x out) ≡ accepted (length (boundary d v h x))
  unfolding faces_outcome faces_rules boundary_cells
  faces-accepts out room =
      rw (
        swept-shape,
        eq-eqb (length (swept_written d v h x)) (table_length (suc d) (swept_cells d x.s h)) swept-length_is,
        swept-sound,
        le-ltb (length out) (length (boundary d v h x) * face_size (suc d)) room,
      ) refl

  pub faces-writes : (out : List ℕ) → length (boundary d v h x) * face_size (suc d) ≤ length out →
      faces_buffer (to_faces d v h x out) out ≡ written (boundary_words d v h x) out
  unfolding faces_buffer boundary_cells
  faces-writes out room = rw (faces-accepts out room) refl

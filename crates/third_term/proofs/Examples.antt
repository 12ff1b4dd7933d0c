-- The third term at a point and at a segment, each swept once: what the law, as r, says there. And a pair of different solids.
use mathlib.Core.Path.{◌≡◌, refl}
use mathlib.Core.Bool.{true}
use mathlib.Core.List.{[], ◌∷◌}
use Prim.Native.Nat.{◌≤◌}
use lib.IntN.{pos, neg_ℤ}
use lib.ListN.{replicate}
use Rattle.rules.specs.Calls.{accepted}
use Rattle.simplex.specs.Chain.{count_on, of_material, coefficient}
use Rattle.solids.proofs.Computing.{computing}
use Rattle.wing.specs.Wing.{wing_rules, wing_outcome, wing_buffer}
use Rattle.sweep.specs.Sweep.{sweep_rules, swept_words, sweep_outcome, sweep_buffer}
use Rattle.boundary.specs.Faces.{boundary_cells, faces_rules, faces_outcome}
use Rattle.third_term.specs.ThirdTerm.{Sitting, solid, boundary, boundary_words, to_faces, BoundaryOf}
use Rattle.third_term.specs.Pairs.{circle, reversed, inlaid}

unfoldable opened : Unit {0}
unfolding computing wing_rules wing_outcome wing_buffer sweep_rules swept_words sweep_outcome sweep_buffer boundary_cells faces_rules faces_outcome
opened = tt

abbrev point : Sitting
point = record { s = 1; cells = 0 ∷ 5 ∷ 0 ∷ []; table_buffer = replicate 4 7; uploaded_buffer = 7 ∷ []; swept_buffer = replicate 6 7 }

abbrev segment : Sitting
segment = record { s = 1; cells = 0 ∷ 5 ∷ 0 ∷ 1 ∷ []; table_buffer = replicate 6 7; uploaded_buffer = replicate 2 7; swept_buffer = replicate 16 7 }

pub bottom_of_a_point : BoundaryOf 0 1 1 point → coefficient (0 ∷ []) (boundary 0 1 1 point) ≡ neg_ℤ (pos 1)
unfolding opened
bottom_of_a_point r = r.sum (0 ∷ [])

pub top_of_a_point : BoundaryOf 0 1 1 point → coefficient (1 ∷ []) (boundary 0 1 1 point) ≡ pos 1
unfolding opened
top_of_a_point r = r.sum (1 ∷ [])

-- two faces of three words each
pub room_for_a_point : BoundaryOf 0 1 1 point → 6 ≤ 6 → faces_outcome (to_faces 0 1 1 point (replicate 6 7)) ≡ accepted 2
unfolding opened
room_for_a_point r = r.answered (replicate 6 7)

-- and so they are written, each with the point's material behind it
pub faces_of_a_point : boundary_words 0 1 1 point ≡ 0 ∷ 1 ∷ 5 ∷ 1 ∷ 0 ∷ 5 ∷ []
unfolding opened
faces_of_a_point = refl

pub bottom_of_a_segment : BoundaryOf 1 2 1 segment → coefficient (0 ∷ 1 ∷ []) (boundary 1 2 1 segment) ≡ pos 1
unfolding opened
bottom_of_a_segment r = r.sum (0 ∷ 1 ∷ [])

pub side_of_a_segment : BoundaryOf 1 2 1 segment → coefficient (0 ∷ 2 ∷ []) (boundary 1 2 1 segment) ≡ neg_ℤ (pos 1)
unfolding opened
side_of_a_segment r = r.sum (0 ∷ 2 ∷ [])

-- the ring has the segment from 0 to 1, and its reverse does not; nor does the inlaid ring have it of material 0
pub once_in_circle : count_on true (0 ∷ 1 ∷ []) (of_material 0 (solid 1 3 1 circle)) ≡ 1
once_in_circle = refl

pub never_in_reverse : count_on true (0 ∷ 1 ∷ []) (of_material 0 (solid 1 3 1 reversed)) ≡ 0
never_in_reverse = refl

pub never_in_inlaid : count_on true (0 ∷ 1 ∷ []) (of_material 0 (solid 1 3 1 inlaid)) ≡ 0
never_in_inlaid = refl

-- The example of each row of the refusal table, with its neighbour on the accepted side where that is short. Paper, section 9.
use Rattle.std.specs.Prelude.{◌≡◌, List, [], ◌∷◌, ◌++◌, ℕ, ◌*◌, replicate, set, Float}
use Rattle.rules.specs.Calls.{accepted, refused}
use Rattle.wing.specs.Wing.{wing_outcome}
use Rattle.sweep.specs.Sweep.{SweepInput, sweep_outcome, sweep_buffer}
use Rattle.boundary.specs.Faces.{FacesInput, faces_outcome}
use Rattle.points.specs.declared.step.Step.{Step}
use Rattle.points.specs.declared.step.Step.TheVariants as S
use Rattle.motion.specs.Move.{MoveInput, move_outcome}
use Rattle.read.specs.Read.{ReadInput, read_outcome, header_of}
use Rattle.theorems.specs.Shorthand.{made, spelled, list_of, to_wing, origin, one, minus_one, large, ample}
use Rattle.theorems.specs.MarkedKeys.{k1_file}

abbrev pub read : List ℕ → ReadInput
read b = record { bytes = b; cell_room = ample; point_room = ample }

-- one point of three axes at the origin, moved by a step
abbrev pub moved : Step → MoveInput
moved step = record { n = 3; v = 1; h = 1; step = step; points = origin ∷ origin ∷ origin ∷ []; room = ample }

-- a point of one axis at x, slid by 1
abbrev pub slid : Float → MoveInput
slid x = record { n = 1; v = 1; h = 1; step = S.Slide 0 one; points = x ∷ []; room = ample }

-- points of one axis at x and y, slid by -1
abbrev pub slid_both : Float → Float → MoveInput
slid_both x y = record { n = 1; v = 2; h = 1; step = S.Slide 0 minus_one; points = x ∷ y ∷ []; room = ample }

-- a table of one triangle with the given first wing
abbrev pub triangle : ℕ → FacesInput
triangle w = record { d = 2; v = 3; s = 1; table = 0 ∷ 0 ∷ 0 ∷ 1 ∷ 2 ∷ w ∷ 65535 ∷ 65535 ∷ []; room = ample }

-- the table of one point, swept once
abbrev pub point_into : ℕ → SweepInput
point_into room = record { d = 0; v = 1; s = 1; h = 1; table = 0 ∷ 0 ∷ 0 ∷ 65535 ∷ []; room = room }

-- a table of s triangles, whatever they are
abbrev pub triangles_in_steps : ℕ → ℕ → SweepInput
triangles_in_steps s h = record { d = 2; v = 3; s = s; h = h; table = replicate (s * 8) 0; room = ample }

pub record Refusals : Type 0 where
  pub row1 : read_outcome (read []) ≡ refused 1
  pub row2 : read_outcome (read (set k1_file 11 0)) ≡ refused 2
  pub row3 : read_outcome (read (k1_file ++ 0 ∷ [])) ≡ refused 3
  -- the point's bytes 6 and 7 are those of 1,048,576
  pub row4 : read_outcome (read (set (set k1_file 46 48) 47 65)) ≡ refused 4
  pub row5 : (move_outcome (moved (S.Slide 3 one)) ≡ refused 5) × (move_outcome (moved (S.Slide 2 one)) ≡ accepted 6)
  pub row6 : (read_outcome (read (set k1_file 48 42)) ≡ refused 6) × (read_outcome (read k1_file) ≡ accepted (header_of k1_file))
  pub row7 : wing_outcome (to_wing (list_of 2 3 (spelled "+013" ∷ []))) ≡ refused 7
  pub row8 : wing_outcome (to_wing (list_of 2 3 (spelled "+011" ∷ []))) ≡ refused 8
  pub row9 : wing_outcome (to_wing (list_of 2 3 (spelled "+012" ∷ spelled "-210" ∷ []))) ≡ refused 9
  pub row10 : wing_outcome (to_wing (list_of 2 5 (spelled "+012" ∷ spelled "+013" ∷ spelled "+014" ∷ []))) ≡ refused 10
  pub row11 : wing_outcome (to_wing (list_of 2 4 (spelled "+012" ∷ spelled "+123" ∷ []))) ≡ refused 11
  pub row12 : sweep_outcome (triangles_in_steps 1000 2) ≡ refused 12
  pub row13 : move_outcome (slid large) ≡ refused 13
  pub row14 : (faces_outcome (triangle 0) ≡ refused 14) × (faces_outcome (triangle 65535) ≡ accepted 3)
  pub row15 : (sweep_outcome (point_into 5) ≡ refused 15) × (sweep_outcome (point_into 6) ≡ accepted 6)
  -- two points slid along the axis on which they differ, and two that have one place
  pub row17 : (move_outcome (slid_both large one) ≡ refused 17) × (move_outcome (slid_both one one) ≡ accepted 4)
  pub row18 : (wing_outcome (to_wing (list_of 2 3 (made 1000 "+012" ∷ []))) ≡ refused 18)
      × (wing_outcome (to_wing (list_of 2 3 (made 999 "+012" ∷ []))) ≡ accepted 8)
  -- a refused call writes nothing; an accepted one from the start, and no further
  pub untouched : sweep_buffer (point_into 5) (7 ∷ 7 ∷ 7 ∷ 7 ∷ 7 ∷ []) ≡ 7 ∷ 7 ∷ 7 ∷ 7 ∷ 7 ∷ []
  pub no_further : sweep_buffer (point_into 7) (7 ∷ 7 ∷ 7 ∷ 7 ∷ 7 ∷ 7 ∷ 7 ∷ []) ≡ 0 ∷ 0 ∷ 0 ∷ 1 ∷ 65535 ∷ 65535 ∷ 7 ∷ []

-- The solid without cells: every call takes it in every dimension, and the third term tells it from every other. Paper, section 2.
--   NoCells               the laws; EmptyKeys, what is printed for small files
--   no_cells               a sitting without cells, lent no room
--   empty_file d n         a file without vertices and cells, slid once
--   vertex_file            the file of K1 without its cell
--   cell_file              the file of K1 without its vertex
use Rattle.std.specs.Prelude.{◌≡◌, ◌↔◌, true, List, [], ◌∷◌, ◌++◌, ℕ, suc, ◌*◌, ◌≤◌, length, take, drop, Float}
use Rattle.words.specs.Records.{all_of}
use Rattle.words.specs.Text.{ascii}
use Rattle.rules.specs.Limits.{max_dimension, max_source, max_vertices, axes_ok, steps_ok, version_ok, swept_vertices}
use Rattle.rules.specs.Calls.{accepted, refused}
use Rattle.simplex.specs.Chain.{Same}
use Rattle.wing.specs.Wing.{wing_input, wing_outcome, wing_buffer, uploaded_buffer}
use Rattle.sweep.specs.Sweep.{sweep_input, sweep_outcome, sweep_buffer}
use Rattle.boundary.specs.Boundary.{own_boundary}
use Rattle.boundary.specs.Faces.{faces_input, faces_outcome, faces_buffer}
use Rattle.points.specs.declared.step.Step.{Step}
use Rattle.points.specs.Step.{in_range, step_fits, step_floats}
use Rattle.motion.specs.Move.{move_input, move_outcome, move_buffer}
use Rattle.listing.specs.Lines.{first_line, vertex_lines}
use Rattle.list.specs.List.{list_input, list_text, list_outcome}
use Rattle.page.specs.Key.{printed}
use Rattle.third_term.specs.ThirdTerm.{Sitting, Unrefused, solid, boundary}
use Rattle.third_term.specs.Pairs.{circle, sitting}
use Rattle.theorems.specs.MarkedKeys.{k1_file}

abbrev pub no_cells : Sitting
no_cells = record { s = 0; cells = []; table_buffer = []; uploaded_buffer = []; swept_buffer = [] }

abbrev pub empty_file : ℕ → ℕ → List ℕ
empty_file d n = take 5 k1_file ++ (d ∷ n ∷ 0 ∷ 0 ∷ 0 ∷ 0 ∷ take 29 (drop 11 k1_file))

abbrev pub vertex_file : List ℕ
vertex_file = take 9 k1_file ++ (0 ∷ 0 ∷ take 37 (drop 11 k1_file))

abbrev pub cell_file : List ℕ
cell_file = take 7 k1_file ++ (0 ∷ 0 ∷ take 31 (drop 9 k1_file) ++ drop 48 k1_file)

pub record NoCells : Type 0 where
  -- every call takes it, whatever room it is lent, and writes nothing
  pub winged : (d v : ℕ) (out further : List ℕ) → d ≤ max_dimension → v ≤ max_vertices →
      let i = wing_input d v 0 [] (length out) (length further) in
      (wing_outcome i ≡ accepted 0) × (wing_buffer i out ≡ out) × (uploaded_buffer i further ≡ further)
  pub swept : (d v h : ℕ) (out : List ℕ) → d ≤ max_source → steps_ok h ≡ true → swept_vertices v h ≤ max_vertices →
      let i = sweep_input d v 0 h [] (length out) in (sweep_outcome i ≡ accepted 0) × (sweep_buffer i out ≡ out)
  pub faceless : (d v : ℕ) (out : List ℕ) → d ≤ max_dimension → v ≤ max_vertices →
      let i = faces_input d v 0 [] (length out) in (faces_outcome i ≡ accepted 0) × (faces_buffer i out ≡ out)
  pub moved : (n h : ℕ) (step : Step) (out : List Float) → axes_ok n ≡ true → steps_ok h ≡ true →
      all_of in_range (step_floats step) ≡ true → step_fits n step ≡ true →
      let i = move_input n 0 h step [] (length out) in (move_outcome i ≡ accepted 0) × (move_buffer i out ≡ out)
  -- its key, in either version, is a first line and the lines of the vertices
  pub text : (k d n v room : ℕ) (ps : List Float) → list_text (list_input k d n v 0 [] ps room) ≡ first_line d n v 0 ++ vertex_lines n v ps
  pub listed : (k d n v room : ℕ) (ps : List Float) → version_ok k ≡ true → d ≤ max_dimension → axes_ok n ≡ true → v ≤ max_vertices →
      length ps ≡ v * n → all_of in_range ps ≡ true → length (first_line d n v 0 ++ vertex_lines n v ps) ≤ room →
      list_outcome (list_input k d n v 0 [] ps room) ≡ accepted (length (first_line d n v 0 ++ vertex_lines n v ps))
  -- but a cell has vertices: row 2
  pub no_vertex : (k d s h n room further : ℕ) (ws : List ℕ) (ps : List Float) →
      (wing_outcome (wing_input d 0 (suc s) ws room further) ≡ refused 2) × (sweep_outcome (sweep_input d 0 (suc s) h ws room) ≡ refused 2)
      × (faces_outcome (faces_input d 0 (suc s) ws room) ≡ refused 2) × (list_outcome (list_input k d n 0 (suc s) ws ps room) ≡ refused 2)
  -- the third term speaks of it wherever it speaks of a solid
  pub unrefused : (d v h : ℕ) (x : Sitting) → Unrefused d v h x → Unrefused d v h no_cells
  -- its sweep has no boundary, and no other's has none
  pub alone : (d v h : ℕ) (x : Sitting) → Unrefused d v h x → (boundary d v h x ≡ []) ↔ (x.s ≡ 0)
  -- false: told by the solid's own boundary, which a ring has none of either
  pub own : ((x : Sitting) → Unrefused 1 3 1 x → (own_boundary (solid 1 3 1 x) ≡ []) ↔ (x.s ≡ 0)) → ⊥
  -- computed: on either side of the third term's `decides`
  pub different : (Same (solid 1 3 1 circle) (solid 1 3 1 no_cells) → ⊥) × (Same (boundary 1 3 1 circle) (boundary 1 3 1 no_cells) → ⊥)
  pub equal : Same (solid 1 3 1 (sitting 0 [])) (solid 1 3 1 no_cells) × Same (boundary 1 3 1 (sitting 0 [])) (boundary 1 3 1 no_cells)
  pub without-vertices : Unrefused 6 0 64 no_cells × (boundary 6 0 64 no_cells ≡ [])

-- what the program prints
pub record EmptyKeys : Type 0 where
  pub nothing : printed (empty_file 0 1) ≡ ascii "key 1 1 0 0\n"
  pub six : printed (empty_file 6 8) ≡ ascii "key 7 8 0 0\n"
  pub vertices : printed vertex_file ≡ ascii "key 1 1 2 0\nv 0 0.500\nv 1 1.500\n"
  pub cell : printed cell_file ≡ ascii "refused 2\n"

-- The calls take the solid without cells, at every dimension and vertex count: each test is of a limit, or of nothing.
-- And no other solid's sweep is without boundary, by the third term.
use mathlib.Core.Path.{◌≡◌, refl, sym, ap, subst₂, ◌∙◌}
use mathlib.Core.Logic.{◌↔◌}
use mathlib.Core.Bool.{true, false, not, and-false}
use mathlib.Core.List.{List, [], ◌∷◌, ◌++◌, append-nil}
use Prim.Native.Nat.{ℕ, suc, ◌*◌, ◌≤◌}
use native.Mathlib.Nat.{mul-zero, zero-mul, suc-mul}
use native.Mathlib.Omega.{arith}
use lib.Dec.{ltb}
use lib.ListN.{length}
use lib.Ieee.{Float}
use borrow.Author.Tests.{le-leb, le-ltb, eq-eqb}
use Rattle.words.specs.Records.{all_of}
use Rattle.words.proofs.Records.{concat-none}
use Rattle.rules.specs.Limits.{max_dimension, max_source, max_vertices, axes_ok, steps_ok, swept_vertices, version_ok}
use Rattle.rules.specs.Calls.{accepted, refused}
use Rattle.rules.proofs.InLimits.{Limits, limits_are, no_shape}
use Rattle.simplex.specs.Chain.{Same}
use Rattle.simplex.proofs.Chains.{same_none}
use Rattle.records.specs.Layout.{entries_of, face_size, list_size, record_size}
use Rattle.prism.specs.Swept.{swept_cells}
use Rattle.prism.proofs.SweptRows.{none-swept}
use Rattle.solids.proofs.Computing.{computing as solids-computing}
use Rattle.solids.specs.Table.{table_of_list}
use Rattle.solids.specs.Uploaded.{uploaded_of_list}
use Rattle.wing.specs.Wing.{wing_input, wing_rules, wing_outcome, wing_buffer, uploaded_buffer}
use Rattle.sweep.specs.Sweep.{sweep_input, swept_length, swept_words, sweep_rules, sweep_outcome, sweep_buffer}
use Rattle.boundary.specs.Boundary.{boundary_of}
use Rattle.boundary.specs.Faces.{boundary_cells, faces_input, faces_rules, faces_outcome, faces_buffer}
use Rattle.points.specs.declared.step.Step.{Step}
use Rattle.points.specs.Step.{in_range, step_fits, step_floats}
use Rattle.points.specs.Carrying.{carries}
use Rattle.points.proofs.LevelLaws.{levels-none}
use Rattle.motion.specs.Move.{move_input, move_outcome, move_rules, moved_levels, move_buffer}
use Rattle.listing.specs.Lines.{first_line, vertex_lines, key_text}
use Rattle.list.specs.List.{list_input, list_text, list_outcome, list_rules}
use Rattle.third_term.specs.ThirdTerm.{Sitting, Unrefused, boundary, solid, swept_written, table_written, to_sweep}
use Rattle.third_term.specs.Pairs.{circle}
use Rattle.sweep.proofs.Acceptance.{Swept, swept_is}
use Rattle.third_term.proofs.Run.{count}
use Rattle.third_term.proofs.ThirdTerm.{third_term_lem}
use Rattle.theorems.specs.NoCells.{NoCells, EmptyKeys, no_cells}
use Rattle.theorems.proofs.Computing.{computing}

no_words : (d : ℕ) → 0 * record_size d ≡ 0
no_words d = zero-mul (record_size d)

-- row 15 does not apply to what needs no room
any_room : (room : ℕ) → ltb room 0 ≡ false
any_room room = le-ltb room 0 (omega arith)

wing_accepts : (d v room further : ℕ) → d ≤ max_dimension → v ≤ max_vertices → wing_outcome (wing_input d v 0 [] room further) ≡ accepted 0
unfolding wing_outcome wing_rules solids-computing
wing_accepts d v room further hd hv =
    rw (
      le-leb d max_dimension hd,
      le-leb v max_vertices hv,
      zero-mul (list_size d),
      no_words d,
      zero-mul (suc d),
      any_room room,
      any_room further,
    ) refl

sweep_accepts : (d v h room : ℕ) → d ≤ max_source → steps_ok h ≡ true → swept_vertices v h ≤ max_vertices →
    sweep_outcome (sweep_input d v 0 h [] room) ≡ accepted 0
unfolding sweep_outcome sweep_rules solids-computing
sweep_accepts d v h room hd hh few =
    rw (
      le-leb d max_source hd,
      le-leb d max_dimension (omega (arith, hd)),
      le-leb v max_vertices (omega (arith, few, suc-mul h v)),
      hh,
      le-ltb max_vertices (swept_vertices v h) few,
      no_words d,
      none-swept d h,
      no_words (suc d),
      any_room room,
    ) refl

faces-accepts : (d v room : ℕ) → d ≤ max_dimension → v ≤ max_vertices → faces_outcome (faces_input d v 0 [] room) ≡ accepted 0
unfolding faces_outcome faces_rules boundary_cells solids-computing
faces-accepts d v room hd hv =
    rw (le-leb d max_dimension hd, le-leb v max_vertices hv, no_words d, zero-mul (face_size d), any_room room) refl

move_accepts : (n h room : ℕ) (step : Step) → axes_ok n ≡ true → steps_ok h ≡ true → all_of in_range (step_floats step) ≡ true →
    step_fits n step ≡ true → move_outcome (move_input n 0 h step [] room) ≡ accepted 0
unfolding move_outcome move_rules moved_levels carries
move_accepts n h room step hn hh floats fits =
    rw (hn, hh, mul-zero (suc h), zero-mul n, floats, fits, levels-none step n h, any_room room) refl

winged : (d v : ℕ) (out further : List ℕ) → d ≤ max_dimension → v ≤ max_vertices →
    let i = wing_input d v 0 [] (length out) (length further) in
    (wing_outcome i ≡ accepted 0) × (wing_buffer i out ≡ out) × (uploaded_buffer i further ≡ further)
unfolding wing_buffer uploaded_buffer table_of_list uploaded_of_list
winged d v out further hd hv = let e = wing_accepts d v (length out) (length further) hd hv in (e, rw e refl, rw e refl)

swept : (d v h : ℕ) (out : List ℕ) → d ≤ max_source → steps_ok h ≡ true → swept_vertices v h ≤ max_vertices →
    let i = sweep_input d v 0 h [] (length out) in (sweep_outcome i ≡ accepted 0) × (sweep_buffer i out ≡ out)
unfolding sweep_buffer swept_words
swept d v h out hd hh few =
    let e = sweep_accepts d v h (length out) hd hh few in (e, rw (e, concat-none h (λ i. []) (λ i. refl)) refl)

faceless : (d v : ℕ) (out : List ℕ) → d ≤ max_dimension → v ≤ max_vertices →
    let i = faces_input d v 0 [] (length out) in (faces_outcome i ≡ accepted 0) × (faces_buffer i out ≡ out)
unfolding faces_buffer boundary_cells
faceless d v out hd hv = let e = faces-accepts d v (length out) hd hv in (e, rw e refl)

moved : (n h : ℕ) (step : Step) (out : List Float) → axes_ok n ≡ true → steps_ok h ≡ true →
    all_of in_range (step_floats step) ≡ true → step_fits n step ≡ true →
    let i = move_input n 0 h step [] (length out) in (move_outcome i ≡ accepted 0) × (move_buffer i out ≡ out)
unfolding move_buffer moved_levels
moved n h step out hn hh floats fits =
    let e = move_accepts n h (length out) step hn hh floats fits in (e, rw (e, levels-none step n h) refl)

text : (k d n v room : ℕ) (ps : List Float) → list_text (list_input k d n v 0 [] ps room) ≡ first_line d n v 0 ++ vertex_lines n v ps
unfolding list_text key_text
text k d n v room ps = ap (λ t. first_line d n v 0 ++ t) (append-nil (vertex_lines n v ps))

listed : (k d n v room : ℕ) (ps : List Float) → version_ok k ≡ true → d ≤ max_dimension → axes_ok n ≡ true → v ≤ max_vertices →
    length ps ≡ v * n → all_of in_range ps ≡ true → length (first_line d n v 0 ++ vertex_lines n v ps) ≤ room →
    list_outcome (list_input k d n v 0 [] ps room) ≡ accepted (length (first_line d n v 0 ++ vertex_lines n v ps))
unfolding list_outcome list_rules solids-computing
listed k d n v room ps hk hd hn hv long inside fits =
    rw (
      hk,
      le-leb d max_dimension hd,
      hn,
      le-leb v max_vertices hv,
      no_words d,
      eq-eqb (length ps) (v * n) long,
      inside,
      text k d n v room ps,
      le-ltb room (length (first_line d n v 0 ++ vertex_lines n v ps)) fits,
    ) refl

no_vertex : (k d s h n room further : ℕ) (ws : List ℕ) (ps : List Float) →
    (wing_outcome (wing_input d 0 (suc s) ws room further) ≡ refused 2) × (sweep_outcome (sweep_input d 0 (suc s) h ws room) ≡ refused 2)
    × (faces_outcome (faces_input d 0 (suc s) ws room) ≡ refused 2) × (list_outcome (list_input k d n 0 (suc s) ws ps room) ≡ refused 2)
unfolding wing_outcome wing_rules sweep_outcome sweep_rules faces_outcome faces_rules list_outcome list_rules
no_vertex k d s h n room further ws ps = (
  rw (no_shape max_dimension d s) refl,
  rw (no_shape max_source d s) refl,
  rw (no_shape max_dimension d s) refl,
  rw (no_shape max_dimension d s, and-false (version_ok k)) refl,
)

-- a sitting without cells: nothing is winged, nothing swept, and the boundary is empty
no_table : (d v h : ℕ) → d ≤ max_dimension → v ≤ max_vertices → table_written d v h no_cells ≡ []
unfolding wing_buffer table_of_list
no_table d v h hd hv = rw (wing_accepts d v 0 0 hd hv, no_words d) refl

no_boundary : (d v h : ℕ) (x : Sitting) → x.s ≡ 0 → boundary d v h x ≡ []
no_boundary d v h x e = ap (λ n. boundary_of (entries_of (suc d) n (swept_written d v h x))) (ap (λ n. swept_cells d n h) e ∙ none-swept d h)

unrefused : (d v h : ℕ) (x : Sitting) → Unrefused d v h x → Unrefused d v h no_cells
unrefused d v h x u =
    record {
      winged = wing_accepts d v 0 0 d_small l.vertices ∙ ap accepted (sym (no_words d));
      swept =
          ap (λ ws. sweep_outcome (sweep_input d v 0 h ws 0)) (no_table d v h d_small l.vertices)
          ∙ sweep_accepts d v h 0 l.dimension facts.steps facts.vertices
          ∙ ap accepted (sym (ap (λ n. n * record_size (suc d)) (none-swept d h) ∙ no_words (suc d)));
    }
  where
    facts : Swept (to_sweep d v h x)
    facts = swept_is (to_sweep d v h x) (swept_length (to_sweep d v h x)) u.swept

    l : Limits max_source d v x.s
    l = limits_are max_source d v x.s (ap not facts.shape)

    d_small : d ≤ max_dimension
    d_small = omega (arith, l.dimension)

alone : (d v h : ℕ) (x : Sitting) → Unrefused d v h x → (boundary d v h x ≡ []) ↔ (x.s ≡ 0)
alone d v h x u = (
  (λ e. sym (count d v h x u)
      ∙ ap length (same_none (solid d v h x)
      ((third_term_lem d v h x no_cells u (unrefused d v h x u)).decides.1
      (subst₂ Same (sym e) (sym (no_boundary d v h no_cells refl)) (λ m s w. refl))))),
  no_boundary d v h x,
)

-- the ring has the segment from 0 to 1 with plus, and so has the bottom of its sweep
different : (Same (solid 1 3 1 circle) (solid 1 3 1 no_cells) → ⊥) × (Same (boundary 1 3 1 circle) (boundary 1 3 1 no_cells) → ⊥)
unfolding computing
different = (
  (λ e. let z : ◌≡◌ {A = ℕ} 1 0 = e 0 true (0 ∷ 1 ∷ []) in omega arith),
  (λ e. let z : ◌≡◌ {A = ℕ} 1 0 = e 0 true (0 ∷ 1 ∷ []) in omega arith),
)

pub no_cells_lem : NoCells
unfolding computing
no_cells_lem =
    record {
      winged = winged;
      swept = swept;
      faceless = faceless;
      moved = moved;
      text = text;
      listed = listed;
      no_vertex = no_vertex;
      unrefused = unrefused;
      alone = alone;
      own = λ t. let z : ◌≡◌ {A = ℕ} 3 0 = (t circle (record { winged = refl; swept = refl })).0 refl in omega arith;
      different = different;
      equal = ((λ m s w. refl), (λ m s w. refl));
      without-vertices = (record { winged = refl; swept = refl }, refl);
    }

pub empty_keys : EmptyKeys
unfolding computing
empty_keys = record { nothing = refl; six = refl; vertices = refl; cell = refl }

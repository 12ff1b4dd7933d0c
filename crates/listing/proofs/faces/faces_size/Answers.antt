-- The goals that the search leaves. Assumes nothing.
use mathlib.Core.Path.{◌≡◌, sym, ap, ◌∙◌}
use mathlib.Core.List.{◌∷◌}
use Prim.Native.Nat.{◌≤◌}
use native.Mathlib.Omega.{arith}
use lib.ListN.{length, length-append}
use borrow.Author.Rules.{rules}
use Rattle.boundary.specs.Inner.Walk.{face_at, table_faces, faces_from}
use Rattle.boundary.proofs.Sizes.{faces-few}
use Rattle.boundary.proofs.Walking.{from_start, from_end, face_next}
use Rattle.listing.specs.Lines.{face_line, face_lines}
use Rattle.listing.proofs.faces.faces_size.Goals as goal
use Rattle.listing.proofs.faces.faces_size.Goals.{After-next_face-at-in-loop-at, Start}

few : (c : Start) → length (table_faces c.args.d c.args.s c.args.table.now) ≤ 32768
few c = faces-few c.args.d c.args.s c.args.table.now c.requires

-- the face that is counted, and those behind it
next : (c : After-next_face-at-in-loop-at) →
    let a = c.args in
    let at = c.loop-at.at in
    faces_from a.d a.s a.table.now at.cell at.position
    ≡ face_at a.d a.table.now at.cell at.position
    ∷ faces_from a.d a.s a.table.now c.next_face-at-in-loop-at.result.cell c.next_face-at-in-loop-at.result.position
next c =
    face_next c.requires.long c.loop-at.invariant.0 c.loop-at-test.true ∙ rw c.next_face-at-in-loop-at.ensures.same

pub loop-at-init : goal.loop-at-init
loop-at-init c =
    let a = c.args in
    let n = c.next_face-at.ensures in
    let all = sym (from_start a.d a.s a.table.now) ∙ n.same in
    (n.place, omega arith, omega (arith, ap length all), omega (arith, ap (λ fs. length (face_lines a.version fs)) all))

pub overflow_add-count : goal.overflow_add-count
overflow_add-count c = omega (arith, few (goal.at.overflow_add-count c).Start)

pub face_len-bytes-requires : goal.face_len-bytes-requires
face_len-bytes-requires c =
    (search rules, c.loop-at.invariant.0.position (omega arith))

pub overflow_add-bytes : goal.overflow_add-bytes
overflow_add-bytes c = omega (arith, few (goal.at.overflow_add-bytes c).Start)

pub overflow_add-at : goal.overflow_add-at
overflow_add-at c = omega (arith, c.loop-at.invariant.0.position (omega arith))

pub loop-at-smaller : goal.loop-at-smaller
loop-at-smaller c = omega (arith, ap length (next c))

pub loop-at-preserved : goal.loop-at-preserved
loop-at-preserved c =
    let a = c.args in
    let later = faces_from a.d a.s a.table.now c.next_face-at-in-loop-at.result.cell c.next_face-at-in-loop-at.result.position in
    let here = face_line a.version (face_at a.d a.table.now c.loop-at.at.cell c.loop-at.at.position) in (
      c.next_face-at-in-loop-at.ensures.place,
      omega arith,
      omega (arith, ap length (next c)),
      omega (arith, ap (λ fs. length (face_lines a.version fs)) (next c), length-append here (face_lines a.version later)),
    )

pub returns : goal.returns
returns c =
    let none = from_end c.args.d c.args.s c.args.table.now c.loop-at.at.cell c.loop-at.at.position (omega arith) in record {
      size_of = record { faces = omega (arith, ap length none); bytes = omega (arith, ap (λ fs. length (face_lines c.args.version fs)) none) };
      count_bound = (omega (arith, few (goal.at.returns c).Start), omega (arith, few (goal.at.returns c).Start));
    }

-- Faces of a table of the right length: rows 14 and 15, and then all faces are written. Assumes nothing.
use mathlib.Core.Path.{◌≡◌, refl, sym, ap, ap₂, ◌∙◌}
use mathlib.Core.Bool.{true, not}
use mathlib.Core.List.{[]}
use Prim.Native.Nat.{◌*◌, ◌≤◌}
use native.Mathlib.Nat.{mul-le-mul}
use native.Mathlib.Omega.{arith}
use borrow.Author.Rules.{rules}
use borrow.Author.Tests.{eq-eqb, lt-ltb, le-ltb}
use lib.Dec.{eqb}
use lib.IntN.{pos}
use lib.ListN.{length}
use mir.Syntax.{w64}
use mir.ValLaws.{to_z_pos, to_z-of_z}
use Rattle.words.proofs.Bytes.{bytes-length}
use Rattle.records.specs.Layout.{table_length, face_size, faces_words}
use Rattle.records.specs.Inner.Inside.{Table}
use Rattle.boundary.specs.Faces.{FacesInput, boundary_cells, faces_length, faces_rules}
use Rattle.boundary.specs.Inner.Walk.{table_faces}
use Rattle.boundary.proofs.Sizes.{words_long}
use Rattle.rules.specs.Limits.{max_dimension}
use Rattle.rules.proofs.InLimits.{Limits, limits_are}
use Rattle.boundary.proofs.Order.{refuses, accepts}
use Rattle.solids.specs.Table.{sound}
use Rattle.words.proofs.Placed.{placed_first}
use Rattle.winged.specs.Inner.Sent.{faces_in, faces_bytes}
use Rattle.winged.proofs.FaceBytes.{bytes-faces}
use Rattle.winged.proofs.FaceOutcomes.{told-refused, told-accepted}
use Rattle.winged.proofs.faces.faces_from.Goals as goal
use Rattle.winged.proofs.faces.faces_from.Goals.{After-face_size, Else-not-is_sound, Else-out-n, Start}

abbrev input : Start → FacesInput
input s = faces_in s.args.d s.args.v s.args.s s.args.table.now s.args.out.now

limits : (s : Start) → Limits max_dimension s.args.d s.args.v s.args.s
limits s = limits_are max_dimension s.args.d s.args.v s.args.s (ap not s.requires.0)

right : (s : Start) → eqb (length s.args.table.now) (table_length s.args.d s.args.s) ≡ true
right s = eq-eqb (length s.args.table.now) (table_length s.args.d s.args.s) s.requires.1

table : (s : Start) → Table s.args.d s.args.s s.args.table.now
table s = record { dimension = (limits s).dimension; cells = (limits s).cells; long = s.requires.1 }

whole : (c : Else-not-is_sound) → let a = c.args in sound a.d a.v a.s a.table.now ≡ true
whole c = sym c.is_sound.ensures ∙ c.if-not-is_sound.false

-- the words of the faces, and the most of them
needed : (c : After-face_size) → c.count_faces.result * c.face_size.result ≡ faces_length (input (goal.at.After-face_size c).Start)
unfolding boundary_cells
needed c = ap₂ ◌*◌ c.count_faces.ensures.count c.face_size.ensures

few : (c : After-face_size) → c.count_faces.result * c.face_size.result ≤ 32768 * face_size max_dimension
few c =
    mul-le-mul {m₁ = c.face_size.result} {m₂ = face_size max_dimension}
    c.count_faces.ensures.few (omega (arith, c.face_size.ensures, (limits (goal.at.After-face_size c).Start).dimension))

-- there is room
fits : (c : Else-out-n) → faces_length (input (goal.at.Else-out-n c).Start) ≤ (input (goal.at.Else-out-n c).Start).room
fits c = omega (arith, c.if-out-n.false, needed (goal.at.Else-out-n c).After-face_size)

pub returns-then-not-is_sound : goal.returns-then-not-is_sound
unfolding faces_rules
returns-then-not-is_sound c =
    let a = c.args in
    let unsound = sym c.is_sound.ensures ∙ c.if-not-is_sound.true in
    let s = (goal.at.returns-then-not-is_sound c).Start in
    let o = sym (refuses (input s) [] 14 (rw (c.requires.0, right s, unsound))).0 in
    let told = told-refused a.d a.v a.s a.table.now a.out.now 14 o in
    record {
      answer = to_z-of_z w64 _ (search rules) ∙ c.answered.ensures ∙ told.0;
      buffer = told.1;
    }

pub count_faces-requires : goal.count_faces-requires
count_faces-requires c = table (goal.at.count_faces-requires c).Start

pub face_size-requires : goal.face_size-requires
face_size-requires c = (limits (goal.at.face_size-requires c).Start).dimension

pub overflow_mul-n : goal.overflow_mul-n
overflow_mul-n c = omega (arith, few c)

pub returns-then-out-n : goal.returns-then-out-n
unfolding faces_rules
returns-then-out-n c =
    let a = c.args in
    let s = (goal.at.returns-then-out-n c).Start in
    let words = needed (goal.at.returns-then-out-n c).After-face_size in
    let short = lt-ltb (input s).room (faces_length (input s)) (omega (arith, c.if-out-n.true, words)) in
    let fine = whole (goal.at.returns-then-out-n c).Else-not-is_sound in
    let o = sym (refuses (input s) [] 15 (rw (c.requires.0, right s, fine, short))).0 in
    let told = told-refused a.d a.v a.s a.table.now a.out.now 15 o in
    record {
      answer = to_z-of_z w64 _ (search rules) ∙ c.answered-then-out-n.ensures ∙ told.0;
      buffer = told.1;
    }

pub write_bytes-requires : goal.write_bytes-requires
unfolding boundary_cells
write_bytes-requires c =
    let a = c.args in
    let fs = table_faces a.d a.s a.table.now in
    let t = table (goal.at.write_bytes-requires c).Start in
    let words = words_long a.d a.s a.table.now t in
    let room = fits (goal.at.write_bytes-requires c).Else-out-n in
    (t, omega (arith, room, words, ap length (bytes-faces fs), bytes-length (faces_words fs)))

pub returns : goal.returns
unfolding boundary_cells faces_rules
returns c =
    let a = c.args in
    let s = (goal.at.returns c).Start in
    let n = (goal.at.returns c).After-face_size in
    let room = le-ltb (input s).room (faces_length (input s)) (fits (goal.at.returns c).Else-out-n) in
    let fine = whole (goal.at.returns c).Else-not-is_sound in
    let o = sym (accepts (input s) [] _ _ (rw (c.requires.0, right s, fine, room)) refl refl).0 in
    let told = told-accepted a.d a.v a.s a.table.now a.out.now (length (boundary_cells (input s))) o in
    let fs = table_faces a.d a.s a.table.now in
    record {
      answer = to_z_pos w64 (c.count_faces.result * c.face_size.result) (omega (arith, few n)) ∙ ap pos (needed n) ∙ told.0;
      buffer = rw (bytes-faces fs) (c.write_bytes.ensures ∙ placed_first (faces_bytes fs) a.out.now) ∙ told.1;
    }

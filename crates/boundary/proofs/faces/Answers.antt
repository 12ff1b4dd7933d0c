-- The call faces: each return is a rule's, and only an accepted call writes. Assumes nothing.
use mathlib.Core.Path.{◌≡◌, sym, ap, ap₂, ◌∙◌}
use mathlib.Core.Bool.{false, not}
use Prim.Native.Nat.{◌*◌}
use native.Mathlib.Nat.{mul-le-mul}
use native.Mathlib.Omega.{arith}
use lib.Dec.{eqb}
use lib.ListN.{length}
use Rattle.words.proofs.Placed.{placed_first}
use Rattle.rules.specs.Limits.{max_dimension}
use Rattle.rules.proofs.Tests.{differs, agrees, is_less, not_less}
use Rattle.rules.proofs.InLimits.{Limits, limits_are}
use Rattle.records.specs.Inner.Inside.{Table}
use Rattle.records.specs.Layout.{table_length, faces_words}
use Rattle.boundary.specs.Faces.{faces_input, boundary_cells, faces_rules}
use Rattle.boundary.specs.Inner.Walk.{table_faces}
use Rattle.boundary.proofs.Order.{refuses, accepts}
use Rattle.boundary.proofs.Sizes.{words_long}
use Rattle.boundary.proofs.faces.Goals as goal
use Rattle.boundary.proofs.faces.Goals.{Else-table-table_words, Else-not-within}

limits : (c : Else-not-within) → let a = c.args in Limits max_dimension a.d a.v a.s
limits c = limits_are _ _ _ _ (ap not (sym c.within.ensures ∙ c.if-not-within.false))

table : (c : Else-table-table_words) → let a = c.args in Table a.d a.s a.table.now
table c =
    let l = limits (goal.at.Else-table-table_words c).Else-not-within in
    record { dimension = l.dimension; cells = l.cells; long = c.if-table-table_words.false ∙ c.table_words.ensures }

three-passes : (c : Else-table-table_words) → let a = c.args in not (eqb (length a.table.now) (table_length a.d a.s)) ≡ false
three-passes c = agrees _ _ (c.if-table-table_words.false ∙ c.table_words.ensures)

pub returns-then-not-within : goal.returns-then-not-within
unfolding faces_rules
returns-then-not-within c =
    let r = refuses (faces_input c.args.d c.args.v c.args.s c.args.table.now (length c.args.out.now)) c.args.out.now 2 (cc) in
    record { answer = r.0; buffer = r.1 }

pub table_words-requires : goal.table_words-requires
table_words-requires c = let l = limits c in (l.dimension, l.cells)

pub returns-then-table-table_words : goal.returns-then-table-table_words
unfolding faces_rules
returns-then-table-table_words c =
    let r = refuses (faces_input c.args.d c.args.v c.args.s c.args.table.now (length c.args.out.now)) c.args.out.now 3 (cc (differs _ _
    (λ e. c.if-table-table_words.true (e ∙ sym c.table_words.ensures)))) in
    record { answer = r.0; buffer = r.1 }

pub returns-then-not-is_sound : goal.returns-then-not-is_sound
unfolding faces_rules
returns-then-not-is_sound c =
    let r = refuses (faces_input c.args.d c.args.v c.args.s c.args.table.now (length c.args.out.now)) c.args.out.now 14 (cc (three-passes
    (goal.at.returns-then-not-is_sound c).Else-table-table_words)) in
    record { answer = r.0; buffer = r.1 }

pub count_faces-n-requires : goal.count_faces-n-requires
count_faces-n-requires c = table (goal.at.count_faces-n-requires c).Else-table-table_words

pub face_size-requires : goal.face_size-requires
face_size-requires c = (limits (goal.at.face_size-requires c).Else-not-within).dimension

pub overflow_mul-n : goal.overflow_mul-n
overflow_mul-n c =
    let l = limits (goal.at.overflow_mul-n c).Else-not-within in
    omega (arith, mul-le-mul {n₁ = c.count_faces-n.result} {m₁ = c.face_size.result} {n₂ = 32768} {m₂ = 9} (omega arith) (omega arith))

pub returns-then-out-n : goal.returns-then-out-n
unfolding faces_rules boundary_cells
returns-then-out-n c =
    let r = refuses (faces_input c.args.d c.args.v c.args.s c.args.table.now (length c.args.out.now)) c.args.out.now 15 (cc (
      three-passes
          (goal.at.returns-then-out-n c).Else-table-table_words,
      is_less _ _ c.if-out-n.true,
    )) in
    record { answer = r.0; buffer = r.1 }

pub write_faces-requires : goal.write_faces-requires
write_faces-requires c =
    let t = table (goal.at.write_faces-requires c).Else-table-table_words in
    let a = c.args in
    let words = ap₂ ◌*◌ c.count_faces-n.ensures.count c.face_size.ensures in
    (t, omega (arith, words, c.if-out-n.false, words_long a.d a.s a.table.now t))

pub returns : goal.returns
unfolding faces_rules boundary_cells
returns c =
    let a = c.args in
    let i = faces_input a.d a.v a.s a.table.now (length a.out.now) in
    let new = c.write_faces.ensures.content ∙ placed_first (faces_words (table_faces a.d a.s a.table.now)) a.out.now in
    let r = accepts i a.out.now _ _ (cc (
      three-passes (goal.at.returns c).Else-table-table_words,
      not_less _ _ c.if-out-n.false,
    )) c.count_faces-n.ensures.count new in
    record { answer = r.0; buffer = r.1 }

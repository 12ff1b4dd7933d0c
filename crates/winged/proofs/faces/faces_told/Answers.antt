-- Rows 2 and 3, and then the room for the table. Assumes nothing.
use mathlib.Core.Path.{◌≡◌, sym, ap, ◌∙◌, subst}
use mathlib.Core.Bool.{true, not}
use Prim.Native.Nat.{ℕ, ◌*◌, ◌≤◌}
use native.Mathlib.Omega.{arith}
use borrow.Author.Rules.{rules}
use lib.ListN.{length}
use mir.Syntax.{w64}
use mir.ValLaws.{to_z-of_z}
use Rattle.rules.specs.Limits.{max_dimension}
use Rattle.rules.specs.Shapes.{shape_ok}
use Rattle.records.specs.Layout.{table_length}
use Rattle.rules.proofs.InLimits.{Limits, limits_are}
use Rattle.winged.specs.Host.{host_faces, host_faces_buffer}
use Rattle.winged.specs.Inner.Sent.{table_room}
use Rattle.direct.proofs.Room.{table_fits}
use Rattle.winged.proofs.FaceOutcomes.{host-outside, host_wrong}
use Rattle.winged.proofs.faces.faces_told.Goals as goal
use Rattle.winged.proofs.faces.faces_told.Goals.{After-table_words-n, Else-not-within, Else-table-n, Start}

inside : (c : Else-not-within) → let a = c.args in shape_ok max_dimension a.d a.v a.s ≡ true
inside c = sym c.within.ensures ∙ c.if-not-within.false

limits : (c : Else-not-within) → let a = c.args in Limits max_dimension a.d a.v a.s
limits c = limits_are _ _ _ _ (ap not (inside c))

-- the words that the table should have
twice : (c : After-table_words-n) → let a = c.args in c.table_words-n.result * 2 ≡ table_length a.d a.s * 2
twice c = ap (λ n. n * 2) c.table_words-n.ensures

few : (c : After-table_words-n) → c.table_words-n.result ≤ table_room
few c =
    let l = limits (goal.at.After-table_words-n c).Else-not-within in
    let a = c.args in
    omega (arith, c.table_words-n.ensures, table_fits a.d a.s l.dimension l.cells)

-- what a room for m words asks
abbrev Fits : Start → ℕ → ℕ → Type 0
Fits s m d =
    let a = s.args in
    (shape_ok max_dimension d a.v a.s ≡ true) × (length a.table.now ≡ table_length d a.s * 2) × (table_length d a.s ≤ m) × (m ≤ table_room)

fits : (m : ℕ) (c : Else-table-n) → m ≤ table_room → c.table_words-n.result ≤ m → Fits (goal.at.Else-table-n c).Start m c.args.d
fits m c r l =
    let n = (goal.at.Else-table-n c).After-table_words-n in
    (inside (goal.at.Else-table-n c).Else-not-within, c.if-table-n.false ∙ twice n, omega (arith, c.table_words-n.ensures, l), r)

-- it holds of a dimension that is the table's
at : (s : Start) (m k : ℕ) → Fits s m s.args.d → s.args.d ≡ k → Fits s m k
at s m k l e = subst (Fits s m) e l

back : (s : Start) (k : ℕ) → s.args.d ≡ k → let a = s.args in
    (host_faces k a.v a.s a.table.now a.faces.now ≡ host_faces a.d a.v a.s a.table.now a.faces.now)
    × (host_faces_buffer k a.v a.s a.table.now a.faces.now ≡ host_faces_buffer a.d a.v a.s a.table.now a.faces.now)
back s k e =
    let a = s.args in (
      ap (λ i. host_faces i a.v a.s a.table.now a.faces.now) (sym e),
      ap (λ i. host_faces_buffer i a.v a.s a.table.now a.faces.now) (sym e),
    )

pub returns-then-not-within : goal.returns-then-not-within
returns-then-not-within c =
    let a = c.args in
    let host = host-outside a.d a.v a.s a.table.now a.faces.now
    (sym c.within.ensures ∙ c.if-not-within.true) in
    record {
      answer = to_z-of_z w64 _ (search rules) ∙ c.answered.ensures ∙ host.0;
      buffer = host.1;
    }

pub table_words-n-requires : goal.table_words-n-requires
table_words-n-requires c = let l = limits c in (l.dimension, l.cells)

pub overflow_mul-n : goal.overflow_mul-n
overflow_mul-n c = omega (arith, few c)

pub returns-then-table-n : goal.returns-then-table-n
returns-then-table-n c =
    let a = c.args in
    let shape = inside (goal.at.returns-then-table-n c).Else-not-within in
    let words = twice (goal.at.returns-then-table-n c).After-table_words-n in
    let host = host_wrong a.d a.v a.s a.table.now a.faces.now shape (λ e. c.if-table-n.true (e ∙ sym words)) in
    record {
      answer = to_z-of_z w64 _ (search rules) ∙ c.answered-then-table-n.ensures ∙ host.0;
      buffer = host.1;
    }

pub in_room-requires : goal.in_room-requires
in_room-requires c =
    at (goal.at.in_room-requires c).Start 2048 1 (fits 2048 (goal.at.in_room-requires c).Else-table-n
    (omega arith) c.if-n-le2048.true) c.if-d-eq1.true

pub returns-then-d-eq1 : goal.returns-then-d-eq1
returns-then-d-eq1 c = let k = back (goal.at.returns-then-d-eq1 c).Start 1 c.if-d-eq1.true in
    record {
      answer = to_z-of_z w64 _ (search rules) ∙ c.in_room.ensures.answer ∙ k.0;
      buffer = c.in_room.ensures.buffer ∙ k.1;
    }

pub in_room-requires-then-n-le2048 : goal.in_room-requires-then-n-le2048
in_room-requires-then-n-le2048 c = fits 2048 (goal.at.in_room-requires-then-n-le2048 c).Else-table-n (omega arith) c.if-n-le2048.true

pub apart-requires : goal.apart-requires
apart-requires c =
    at (goal.at.apart-requires c).Start 16384 1 (fits 16384 (goal.at.apart-requires c).Else-table-n
    (omega arith) c.if-n-le16384.true) c.if-d-eq1-2.true

pub returns-then-d-eq1-2 : goal.returns-then-d-eq1-2
returns-then-d-eq1-2 c = let k = back (goal.at.returns-then-d-eq1-2 c).Start 1 c.if-d-eq1-2.true in
    record {
      answer = to_z-of_z w64 _ (search rules) ∙ c.apart.ensures.answer ∙ k.0;
      buffer = c.apart.ensures.buffer ∙ k.1;
    }

pub apart-requires-then-n-le16384 : goal.apart-requires-then-n-le16384
apart-requires-then-n-le16384 c = fits 16384 (goal.at.apart-requires-then-n-le16384 c).Else-table-n (omega arith) c.if-n-le16384.true

pub apart-requires-then-d-eq1-3 : goal.apart-requires-then-d-eq1-3
apart-requires-then-d-eq1-3 c =
    at (goal.at.apart-requires-then-d-eq1-3 c).Start 40960 1 (fits 40960 (goal.at.apart-requires-then-d-eq1-3 c).Else-table-n
    (omega arith) c.if-n-le40960.true) c.if-d-eq1-3.true

pub returns-then-d-eq1-3 : goal.returns-then-d-eq1-3
returns-then-d-eq1-3 c = let k = back (goal.at.returns-then-d-eq1-3 c).Start 1 c.if-d-eq1-3.true in
    record {
      answer = to_z-of_z w64 _ (search rules) ∙ c.apart-then-d-eq1-3.ensures.answer ∙ k.0;
      buffer = c.apart-then-d-eq1-3.ensures.buffer ∙ k.1;
    }

pub apart-requires-then-n-le40960 : goal.apart-requires-then-n-le40960
apart-requires-then-n-le40960 c = fits 40960 (goal.at.apart-requires-then-n-le40960 c).Else-table-n (omega arith) c.if-n-le40960.true

pub apart-requires-then-d-eq4 : goal.apart-requires-then-d-eq4
apart-requires-then-d-eq4 c =
    let room = fits 73728 (goal.at.apart-requires-then-d-eq4 c).Else-table-n (omega arith) (few
    (goal.at.apart-requires-then-d-eq4 c).After-table_words-n) in
    at (goal.at.apart-requires-then-d-eq4 c).Start 73728 4 room c.if-d-eq4.true

pub returns-then-d-eq4 : goal.returns-then-d-eq4
returns-then-d-eq4 c = let k = back (goal.at.returns-then-d-eq4 c).Start 4 c.if-d-eq4.true in
    record {
      answer = to_z-of_z w64 _ (search rules) ∙ c.apart-then-d-eq4.ensures.answer ∙ k.0;
      buffer = c.apart-then-d-eq4.ensures.buffer ∙ k.1;
    }

pub apart-requires-2 : goal.apart-requires-2
apart-requires-2 c = fits 73728 (goal.at.apart-requires-2 c).Else-table-n (omega arith) (few (goal.at.apart-requires-2 c).After-table_words-n)

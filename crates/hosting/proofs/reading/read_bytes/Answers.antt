-- `read_bytes` meets its contract: a refusal is read's, or that of the room, and else each part is written. Assumes nothing.
use mathlib.Core.Path.{◌≡◌, sym, ◌∙◌}
use mathlib.Core.Bool.{false}
use mathlib.Core.List.{List}
use Prim.Native.Nat.{ℕ, ◌/◌, ◌≤◌}
use native.Mathlib.Omega.{arith}
use lib.ListN.{length, take}
use lib.Seq.{length-take-le}
use Rattle.std.proofs.lemmas.Result.{err_from_is_err_and}
use Rattle.file.specs.File.{point_count}
use Rattle.file.specs.Tests.{cells_length, file_words}
use Rattle.hosting.specs.Reads.{told_size}
use Rattle.hosting.proofs.ReadRows.{Passed, passed, short, rooms, words-read, read-refused, read_short, read_done}
use Rattle.hosting.proofs.reading.read_bytes.Goals as goal
use Rattle.hosting.proofs.reading.read_bytes.Goals.{Else-no_room, In_ok-n}

abbrev file : In_ok-n → List ℕ
file e = e.args.file.now

-- no test of the file refused it
ok : (e : In_ok-n) → Passed (file e) × (e.in_ok-n.n ≡ cells_length (file e))
ok e = passed (file e) _ e.in_ok-n.ensures.answer

front : (e : In_ok-n) → let w = e.read_words.new.words in
    (e.in_ok-n.n ≤ length w) × (take e.in_ok-n.n w ≡ file_words (file e))
front e = words-read (file e) _ e.in_ok-n.ensures.answer _ _ e.in_ok-n.ensures.buffer

-- there is room
enough : (c : Else-no_room) → let a = c.args in
    short a.file.now a.header.now a.cells.now a.points.now ≡ false
enough c = sym c.no_room.ensures ∙ c.if-no_room.false

space : (c : Else-no_room) → let a = c.args in
    (told_size ≤ length a.header.now) × (cells_length a.file.now ≤ length a.cells.now / 2)
    × (point_count a.file.now ≤ length a.points.now / 8)
space c = let a = c.args in rooms a.file.now a.header.now a.cells.now a.points.now (enough c)

pub no_room-requires : goal.no_room-requires
no_room-requires c = (ok (goal.at.no_room-requires c).In_ok-n).0.header

pub returns-then-no_room : goal.returns-then-no_room
returns-then-no_room c =
    let a = c.args in
    let t = read_short a.file.now a.header.now a.cells.now a.points.now (ok (goal.at.returns-then-no_room c).In_ok-n).0
    (sym c.no_room.ensures ∙ c.if-no_room.true) in
    record { answer = t.0; header = t.1.0; cells = t.1.1.0; points = t.1.1.1 }

pub put_header-requires : goal.put_header-requires
put_header-requires c =
    let p = goal.at.put_header-requires c in
    ((ok p.In_ok-n).0.header, (space p.Else-no_room).0)

pub slice_bounds-words-end : goal.slice_bounds-words-end
slice_bounds-words-end c = (front (goal.at.slice_bounds-words-end c).In_ok-n).0

pub slice_bounds-encode-end : goal.slice_bounds-encode-end
slice_bounds-encode-end c = sym (length-take-le _ _ (front (goal.at.slice_bounds-encode-end c).In_ok-n).0)

pub encode-requires : goal.encode-requires
encode-requires c =
    let p = goal.at.encode-requires c in
    omega (
      arith,
      length-take-le c.in_ok-n.n c.read_words.new.words (front p.In_ok-n).0,
      (ok p.In_ok-n).1,
      (space p.Else-no_room).1,
    )

pub put_points-requires : goal.put_points-requires
put_points-requires c =
    let p = goal.at.put_points-requires c in
    ((ok p.In_ok-n).0.whole, (space p.Else-no_room).2)

pub returns : goal.returns
returns c =
    let a = c.args in
    let p = goal.at.returns c in
    let t = read_done a.file.now a.header.now a.cells.now a.points.now (ok p.In_ok-n).0 (enough p.Else-no_room) _ (ok p.In_ok-n).1 _
    (front p.In_ok-n).1 _ _ _ c.put_header.ensures c.encode.ensures c.put_points.ensures in
    record { answer = t.0; header = t.1.0; cells = t.1.1.0; points = t.1.1.1 }

pub returns-in_err-n : goal.returns-in_err-n
returns-in_err-n c =
    let a = c.args in
    let p = err_from_is_err_and c.from_residual.result c.from_residual.ensures.1 in
    let t = read-refused a.file.now a.header.now a.cells.now a.points.now _ c.in_err-n.ensures.answer in
    record { answer = rw (p.1, p.2) t.0; header = t.1.0; cells = t.1.1.0; points = t.1.1.1 }

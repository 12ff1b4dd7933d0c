-- The goals that the search leaves. Assumes nothing.
use mathlib.Core.Path.{◌≡◌, sym, ap, ap₂, ◌∙◌}
use Prim.Native.Nat.{suc, ◌≤◌, ◌<◌, ◌+◌, ◌*◌}
use native.Mathlib.Numerals.{add-one}
use native.Mathlib.Nat.{zero-mul}
use native.Mathlib.Omega.{arith}
use lib.ListN.{length}
use Rattle.words.specs.Inner.Placed.{placed}
use Rattle.words.proofs.Records.{record_next}
use Rattle.words.proofs.Writing.{left_starts, left_item, left_item_fits, left_items, put_first}
use Rattle.simplex.specs.Cell.{no_cell}
use Rattle.records.specs.Layout.{list_size, cell_words}
use Rattle.file.specs.File.{version_of, dimension_of, cell_head, cell_bytes, file_cells}
use Rattle.file.specs.Tests.{file_words}
use Rattle.file.specs.Inner.Places.{cell_words_from}
use Rattle.file.proofs.Parts.{size, cell_place, cell_room_lem, cells-length, file_cell_lem, words_at}
use Rattle.file.proofs.Stores.{one-length, words_count}
use Rattle.file.proofs.cells.write_cells.Goals as goal
use Rattle.file.proofs.cells.write_cells.Goals.{At-loop-p, In-loop-p}

-- what the header says, as the code has it
version-is : (l : At-loop-p) → l.version-version.result ≡ version_of l.args.b.now
version-is l = l.version-version.ensures.0

dimension-is : (l : At-loop-p) → l.dimension-d.result ≡ dimension_of l.args.b.now
dimension-is l = l.dimension-d.ensures.0

bytes-are : (l : At-loop-p) → l.cell_size-bytes.result ≡ size l.args.b.now
bytes-are l =
    l.cell_size-bytes.ensures.0 ∙ ap₂ cell_bytes (version-is l) (dimension-is l)

words_are : (l : At-loop-p) → l.list_size-size.result ≡ list_size (dimension_of l.args.b.now)
words_are l = l.list_size-size.ensures ∙ ap list_size (dimension-is l)

-- where cell p stands in the file
place-is : (c : In-loop-p) → c.cells_start-start.result + c.loop-p.p * c.cell_size-bytes.result ≡ cell_place c.args.b.now c.loop-p.p
place-is c = ap₂ (λ x n. x + c.loop-p.p * n) c.cells_start-start.ensures.0 (bytes-are (goal.at.In-loop-p c).At-loop-p)

-- the cell that is written is within the file, and has room
room : (c : In-loop-p) → let b = c.args.b.now in
    (cell_place b c.loop-p.p + size b ≤ length b)
    × (c.loop-p.p * c.list_size-size.result + list_size (dimension_of b) ≤ length c.loop-p.out)
room c =
    let b = c.args.b.now in
    let here : c.loop-p.p < length (file_cells b) = omega (arith, cells-length b) in
    let fits = left_item_fits cell_words no_cell (file_cells b) c.loop-p.p here c.loop-p.invariant in (
      cell_room_lem b c.requires.0 c.loop-p.p (omega arith),
      omega (arith, fits, one-length b c.requires.0 c.loop-p.p (omega arith)),
    )

pub list_size-size-requires : goal.list_size-size-requires
list_size-size-requires c = omega (arith, c.dimension-d.ensures.1)

pub loop-p-init : goal.loop-p-init
unfolding file_words
loop-p-init c =
    let b = c.args.b.now in
    rw zero-mul (left_starts 0 _ _ (omega (arith, words_count b c.requires.0, c.requires.1)))

pub write_cell-requires : goal.write_cell-requires
write_cell-requires c =
    let inside = (goal.at.write_cell-requires c).In-loop-p in
    let here = (goal.at.write_cell-requires c).At-loop-p in (
      omega (arith, place-is inside, (room inside).0, ap cell_head (version-is here), dimension-is here),
      omega (arith, (room inside).1, dimension-is here),
    )

pub loop-p-preserved : goal.loop-p-preserved
loop-p-preserved c =
    let l = (goal.at.loop-p-preserved c).At-loop-p in
    let b = c.args.b.now in
    let p = c.loop-p.p in
    let to = p * c.list_size-size.result in
    let here : p < length (file_cells b) = omega (arith, cells-length b) in
    let m = c.dimension-d.result + 1 in
    let at = c.cells_start-start.result + p * c.cell_size-bytes.result in
    let count : m ≡ suc (dimension_of b) = add-one _ ∙ ap suc (dimension-is l) in
    left_item cell_words no_cell (file_cells b) p here c.loop-p.invariant _ c.write_cell.new.out
    (record {
      place = omega (arith, record_next c.list_size-size.result p, one-length b c.requires.0 p (omega arith), words_are l);
      content = c.write_cell.ensures
          ∙ ap (λ xs. placed to xs c.loop-p.out)
          (ap (λ k. cell_words_from k b at m) (version-is l)
          ∙ words_at b c.requires.0 p (omega arith) m count at (place-is (goal.at.loop-p-preserved c).In-loop-p)
          ∙ ap cell_words (sym (file_cell_lem b c.requires.0 p (omega arith))));
    })

pub returns : goal.returns
returns c =
    let b = c.args.b.now in
    put_first (left_items cell_words (file_cells b) c.loop-p.p (omega (arith, cells-length b)) c.loop-p.invariant)

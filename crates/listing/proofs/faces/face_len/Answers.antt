-- A face's line has a sign, the fields of its numbers and a line feed. Assumes nothing.
use mathlib.Core.Path.{◌≡◌, sym, ap, ◌∙◌}
use mathlib.Core.List.{List}
use Prim.Native.Nat.{ℕ, ◌+◌, ◌≤◌}
use native.Mathlib.Omega.{arith}
use lib.ListN.{length, take, length-replicate}
use lib.Seq.{length-take-le}
use Rattle.simplex.specs.Cell.{Cell}
use Rattle.boundary.specs.Inner.Walk.{face_at}
use Rattle.printing.specs.Fields.{fields}
use Rattle.listing.specs.Lines.{face_line}
use Rattle.listing.proofs.FaceText.{line-length, line_short}
use Rattle.listing.proofs.faces.face_len.Goals as goal
use Rattle.listing.proofs.faces.face_len.Goals.{After-fields_len, After-fill_fields-n}

abbrev here : After-fill_fields-n → Cell
here c = let a = c.args in face_at a.d a.table.now a.p a.a

-- the numbers that are lent
abbrev row : After-fill_fields-n → List ℕ
row c = c.fill_fields-n.new.row

few : (c : After-fill_fields-n) → c.fill_fields-n.result ≤ 8
few c = omega (arith, c.fill_fields-n.ensures.upper_bound, c.requires.0.dimension)

inside : (c : After-fill_fields-n) → c.fill_fields-n.result ≤ length (row c)
inside c = omega (arith, few c, c.fill_fields-n.auto.row, length-replicate {A = ℕ} 8 0)

long : (c : After-fill_fields-n) → length (take c.fill_fields-n.result (row c)) ≡ c.fill_fields-n.result
long c = length-take-le c.fill_fields-n.result (row c) (inside c)

size : (c : After-fields_len)
    → (2 + c.fields_len.result ≡ length (face_line c.args.version (here (goal.at.After-fields_len c).After-fill_fields-n)))
    × (2 + c.fields_len.result ≤ 256)
size c =
    let k = c.args.version in
    let numbers = c.fill_fields-n.ensures.row_after in
    let count = c.fields_len.ensures ∙ ap (λ ws. length (fields ws)) numbers in
    let short = line_short k (here (goal.at.After-fields_len c).After-fill_fields-n)
    (omega (
      arith,
      ap length numbers,
      long (goal.at.After-fields_len c).After-fill_fields-n,
      few (goal.at.After-fields_len c).After-fill_fields-n,
    )) in (
      omega (arith, count, line-length k (here (goal.at.After-fields_len c).After-fill_fields-n)),
      omega (arith, count, line-length k (here (goal.at.After-fields_len c).After-fill_fields-n), short),
    )

pub slice_bounds-row-end : goal.slice_bounds-row-end
slice_bounds-row-end c = inside (goal.at.slice_bounds-row-end c).After-fill_fields-n

pub slice_bounds-fields_len-end : goal.slice_bounds-fields_len-end
slice_bounds-fields_len-end c = sym (long (goal.at.slice_bounds-fields_len-end c).After-fill_fields-n)

pub fields_len-requires : goal.fields_len-requires
fields_len-requires c =
    omega (arith, long (goal.at.fields_len-requires c).After-fill_fields-n, few (goal.at.fields_len-requires c).After-fill_fields-n)

pub overflow_add-result : goal.overflow_add-result
overflow_add-result c = omega (arith, (size c).1)

pub returns : goal.returns
returns c = let s = size c in record { value = s.0; upper_bound = s.1 }

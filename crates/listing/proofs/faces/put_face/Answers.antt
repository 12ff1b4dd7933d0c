-- A face's line is a line of numbers, behind its sign. Assumes nothing.
use mathlib.Core.Path.{◌≡◌, sym, ap, ◌∙◌}
use mathlib.Core.List.{List, [], ◌∷◌, map}
use Prim.Native.Nat.{ℕ, ◌≤◌}
use native.Mathlib.Omega.{arith}
use lib.ListN.{length, take, length-replicate}
use lib.Seq.{length-take-le}
use Rattle.simplex.specs.SignWords.{sign_of}
use Rattle.boundary.specs.Inner.Walk.{face_at}
use Rattle.printing.specs.Decimal.{digits}
use Rattle.printing.specs.Fields.{line}
use Rattle.listing.specs.Lines.{sign_text, face_line}
use Rattle.listing.proofs.FaceText.{sign_text_lem, face-line}
use Rattle.listing.proofs.faces.put_face.Goals as goal
use Rattle.listing.proofs.faces.put_face.Goals.{After-fill_fields-n}

abbrev row : After-fill_fields-n → List ℕ
row c = take c.fill_fields-n.result c.fill_fields-n.new.row

few : (c : After-fill_fields-n) → c.fill_fields-n.result ≤ 8
few c = omega (arith, c.fill_fields-n.ensures.upper_bound, c.requires.0.dimension)

inside : (c : After-fill_fields-n) → c.fill_fields-n.result ≤ length c.fill_fields-n.new.row
inside c = omega (arith, few c, c.fill_fields-n.auto.row, length-replicate {A = ℕ} 8 0)

long : (c : After-fill_fields-n) → length (row c) ≡ c.fill_fields-n.result
long c = length-take-le c.fill_fields-n.result _ (inside c)

-- the line that is put
whole : (c : After-fill_fields-n) → let a = c.args in
    face_line a.version (face_at a.d a.table.now a.p a.a) ≡ line (c.sign_byte.result ∷ []) (map digits (row c))
whole c =
    let a = c.args in
    let f = face_at a.d a.table.now a.p a.a in
    let sign = c.sign_byte.ensures ∙ ap (λ w. sign_text (sign_of w)) c.face_sign.ensures ∙ sign_text_lem f.sign in
    face-line a.version f _ (row c) sign c.fill_fields-n.ensures.row_after

pub slice_bounds-row-end : goal.slice_bounds-row-end
slice_bounds-row-end c = inside (goal.at.slice_bounds-row-end c).After-fill_fields-n

pub slice_bounds-first_line-end-2 : goal.slice_bounds-first_line-end-2
slice_bounds-first_line-end-2 c = sym (long (goal.at.slice_bounds-first_line-end-2 c).After-fill_fields-n)

pub first_line-requires : goal.first_line-requires
first_line-requires c = rw (whole (goal.at.first_line-requires c).After-fill_fields-n) at c.requires.2

pub returns : goal.returns
returns c = rw (whole (goal.at.returns c).After-fill_fields-n) c.first_line.ensures

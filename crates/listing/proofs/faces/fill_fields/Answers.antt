-- The vertices of a face, and in version 2 its material behind them. Assumes nothing.
use mathlib.Core.Path.{◌≡◌, sym, ap₂, ◌∙◌}
use mathlib.Core.List.{List, [], ◌∷◌, ◌++◌}
use Prim.Native.Nat.{ℕ}
use native.Mathlib.Omega.{arith}
use lib.ListN.{length, length-set}
use Rattle.simplex.specs.Cell.{Cell}
use Rattle.boundary.specs.Inner.Walk.{face_at}
use Rattle.listing.proofs.FaceText.{fields-one, fields_two, take_more}
use Rattle.listing.proofs.faces.fill_fields.Goals as goal
use Rattle.listing.proofs.faces.fill_fields.Goals.{After-fill_row, Start}

-- the row with the vertices, as long as before
abbrev filled : After-fill_row → List ℕ
filled c = c.fill_row.new.row

long : (c : After-fill_row) → length (filled c) ≡ length c.args.row.now
long c = c.fill_row.auto.row

abbrev face : Start → Cell
face s = let a = s.args in face_at a.d a.table.now a.p a.a

pub bounds-row-d : goal.bounds-row-d
bounds-row-d c =
    omega (arith, c.requires.2, long (goal.at.bounds-row-d c).After-fill_row)

pub shape_of-row-then-with_materials : goal.shape_of-row-then-with_materials
shape_of-row-then-with_materials c =
    length-set (filled (goal.at.shape_of-row-then-with_materials c).After-fill_row) c.args.d c.material.result
    ∙ long (goal.at.shape_of-row-then-with_materials c).After-fill_row

pub returns-then-with_materials : goal.returns-then-with_materials
returns-then-with_materials c =
    record {
      upper_bound = omega arith;
      row_after = take_more c.args.d (filled (goal.at.returns-then-with_materials c).After-fill_row) c.material.result
          (omega (arith, c.requires.2, long (goal.at.returns-then-with_materials c).After-fill_row))
          ∙ ap₂ {C = List ℕ} (λ x y. x ++ y ∷ []) c.fill_row.ensures c.material.ensures
          ∙ sym (fields_two c.args.version (face (goal.at.returns-then-with_materials c).Start) (sym c.with_materials.ensures
          ∙ c.if-with_materials.true));
    }

pub shape_of-row : goal.shape_of-row
shape_of-row c = long (goal.at.shape_of-row c).After-fill_row

pub returns : goal.returns
returns c =
    record {
      upper_bound = omega arith;
      row_after = c.fill_row.ensures
          ∙ sym (fields-one c.args.version (face (goal.at.returns c).Start) (sym c.with_materials.ensures ∙ c.if-with_materials.false));
    }

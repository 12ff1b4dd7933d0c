-- `take` answers the first refusal: each test is a row's, by the laws of Refusing. Assumes nothing.
use mathlib.Core.Path.{◌≡◌, sym, ◌∙◌}
use mathlib.Core.Bool.{false}
use mathlib.Core.List.{List}
use Prim.Native.Nat.{ℕ, suc}
use native.Mathlib.Omega.{arith}
use Rattle.simplex.specs.Cell.{Sign}
use Rattle.solids.specs.Accept.{Listed, bad_material, bad_sign, listed_cells, vertex_beyond, vertex_twice}
use Rattle.tables.specs.Inner.Held.{record_list}
use Rattle.tables.proofs.Refusing.{first-sign, first-vertex, first-twice, first-material, sign_bad, vertex_beyond_lem, vertex-twice}
use Rattle.tables.proofs.Refusing.{material_bad, refused-rest, solid_held}
use Rattle.tables.proofs.take.take.Goals as goal
use Rattle.tables.proofs.take.take.Goals.{After-any_falls, After-bad_material, After-bad_sign, After-beyond, After-gather, Else-any_falls}
use Rattle.tables.proofs.take.take.Goals.{Else-bad_material, Else-bad_sign, Else-beyond}

abbrev list : After-bad_sign → Listed
list c = let a = c.args in record_list a.size a.d a.v a.s a.words.now

abbrev rows : After-gather → List ℕ
rows c = c.gather.new.rows

abbrev signs : After-gather → List Sign
signs c = c.gather.new.signs

-- rows 6 to 8 and 18 are what the code tests
six : (c : After-bad_sign) → bad_sign (list c) ≡ c.bad_sign.result
six c =
    let a = c.args in
    sign_bad a.size a.d a.v a.s a.words.now c.requires.d_bound.1 c.requires.d_bound.4 ∙ sym c.bad_sign.ensures

seven : (c : After-beyond) → let l = list (goal.at.After-beyond c).After-bad_sign in vertex_beyond l.v (listed_cells l) ≡ c.beyond.result
seven c =
    let a = c.args in
    let pre = c.requires.d_bound in
    vertex_beyond_lem a.size a.d a.v a.s a.words.now pre.1 pre.4 (rows (goal.at.After-beyond c).After-gather)
    (signs (goal.at.After-beyond c).After-gather) pre.3 pre.0
    c.gather.ensures.rows_len_2.0 c.gather.ensures.by_index ∙ sym c.beyond.ensures

eight : (c : After-any_falls) → vertex_twice (listed_cells (list (goal.at.After-any_falls c).After-bad_sign)) ≡ c.any_falls.result
eight c =
    let a = c.args in
    let pre = c.requires.d_bound in
    vertex-twice a.size a.d a.v a.s a.words.now pre.1 pre.4 (rows (goal.at.After-any_falls c).After-gather)
    (signs (goal.at.After-any_falls c).After-gather) pre.3 pre.0
    c.gather.ensures.rows_len_2.0 c.gather.ensures.by_index ∙ sym c.any_falls.ensures

eighteen : (c : After-bad_material) → bad_material (listed_cells (list (goal.at.After-bad_material c).After-bad_sign)) ≡ c.bad_material.result
eighteen c =
    let a = c.args in
    material_bad a.size a.d a.v a.s a.words.now c.requires.d_bound.1 c.requires.d_bound.4 ∙ sym c.bad_material.ensures

-- and where they pass
six-passes : (c : Else-bad_sign) → bad_sign (list (goal.at.Else-bad_sign c).After-bad_sign) ≡ false
six-passes c = six (goal.at.Else-bad_sign c).After-bad_sign ∙ c.if-bad_sign.false

seven-passes : (c : Else-beyond) → let l = list (goal.at.Else-beyond c).After-bad_sign in vertex_beyond l.v (listed_cells l) ≡ false
seven-passes c = seven (goal.at.Else-beyond c).After-beyond ∙ c.if-beyond.false

eight-passes : (c : Else-any_falls) → vertex_twice (listed_cells (list (goal.at.Else-any_falls c).After-bad_sign)) ≡ false
eight-passes c = eight (goal.at.Else-any_falls c).After-any_falls ∙ c.if-any_falls.false

eighteen-passes : (c : Else-bad_material) → bad_material (listed_cells (list (goal.at.Else-bad_material c).After-bad_sign)) ≡ false
eighteen-passes c = eighteen (goal.at.Else-bad_material c).After-bad_material ∙ c.if-bad_material.false

-- a refusal's number is not 0
some : (n : ℕ) → suc n ≡ 0 → ⊥
some n e = omega arith

pub returns-then-bad_sign : goal.returns-then-bad_sign
returns-then-bad_sign c = record {
  number = first-sign (list (goal.at.returns-then-bad_sign c).After-bad_sign) (six (goal.at.returns-then-bad_sign c).After-bad_sign
      ∙ c.if-bad_sign.true);
  taken = λ z. absurd (some _ z);
}

pub returns-then-beyond : goal.returns-then-beyond
returns-then-beyond c = record {
  number = first-vertex (list (goal.at.returns-then-beyond c).After-bad_sign) (six-passes (goal.at.returns-then-beyond c).Else-bad_sign)
      (seven (goal.at.returns-then-beyond c).After-beyond ∙ c.if-beyond.true);
  taken = λ z. absurd (some _ z);
}

pub returns-then-any_falls : goal.returns-then-any_falls
returns-then-any_falls c = record {
  number = first-twice (list (goal.at.returns-then-any_falls c).After-bad_sign) (six-passes (goal.at.returns-then-any_falls c).Else-bad_sign)
      (seven-passes (goal.at.returns-then-any_falls c).Else-beyond) (eight (goal.at.returns-then-any_falls c).After-any_falls ∙ c.if-any_falls.true);
  taken = λ z. absurd (some _ z);
}

pub returns-then-bad_material : goal.returns-then-bad_material
returns-then-bad_material c = record {
  number = first-material (list (goal.at.returns-then-bad_material c).After-bad_sign) (six-passes (goal.at.returns-then-bad_material c).Else-bad_sign)
      (seven-passes (goal.at.returns-then-bad_material c).Else-beyond) (eight-passes (goal.at.returns-then-bad_material c).Else-any_falls)
      (eighteen (goal.at.returns-then-bad_material c).After-bad_material ∙ c.if-bad_material.true);
  taken = λ z. absurd (some _ z);
}

pub adjacent-requires : goal.adjacent-requires
adjacent-requires c =
    let pre = c.requires.d_bound in
    record {
      d_bound = (pre.0, pre.3, c.gather.ensures.rows_len_2.0, c.requires.rows_len.2);
      rows_value = sym c.any_falls.ensures ∙ c.if-any_falls.false;
    }

pub returns : goal.returns
returns c =
    let a = c.args in
    let pre = c.requires.d_bound in
    let rest =
    refused-rest a.size a.d a.v a.s a.words.now pre.1 pre.4 (rows (goal.at.returns c).After-gather) (signs (goal.at.returns c).After-gather) pre.3
    pre.0 c.gather.ensures.rows_len_2.0 c.gather.ensures.by_index
    (six-passes (goal.at.returns c).Else-bad_sign) (seven-passes (goal.at.returns c).Else-beyond) (eight-passes (goal.at.returns c).Else-any_falls)
    (eighteen-passes (goal.at.returns c).Else-bad_material) in
    let cells = solid_held a.size a.d a.v a.s a.words.now pre.1 pre.4
    (rows (goal.at.returns c).After-gather) (signs (goal.at.returns c).After-gather) pre.3 pre.0 c.gather.ensures.rows_len_2.0
    c.gather.ensures.by_index in
    record {
      number = c.adjacent.ensures.fault _ ∙ sym rest;
      taken = λ z. record { wide = c.gather.ensures.rows_len_2.0; cells = cells; winged = c.adjacent.ensures.wings _ z };
    }

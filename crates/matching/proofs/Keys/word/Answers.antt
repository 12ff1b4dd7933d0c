-- A word of a key, by the key's place.
use mathlib.Core.Path.{◌≡◌, sym, ap, subst⁻¹, ◌∙◌}
use mathlib.Core.Bool.{cond}
use Prim.Native.Nat.{ℕ, ◌+◌, ◌-◌, ◌*◌, ◌/◌, ◌%◌, ◌<◌}
use native.Mathlib.Nat.{div-lt_iff_lt-mul, mod-lt}
use native.Mathlib.Omega.{arith}
use lib.Dec.{ltb}
use lib.ListN.{get_or}
use Rattle.matching.proofs.KeptRows.{kept-few, key_at, stands_below}
use Rattle.matching.proofs.Keys.word.Goals as goal
use Rattle.matching.proofs.Keys.word.Goals.{After-stands-i, Start}

at-below : (s : Start) → s.args.g % s.args.self.w < s.args.self.w
at-below s = mod-lt s.args.g s.requires.0.keyed.some

cell_below : (s : Start) → s.args.g / s.args.self.w < 4096
cell_below s = omega (arith, (div-lt_iff_lt-mul {y = 4096} s.requires.0.keyed.some).1 s.requires.1)

-- the row has that word
inside : (s : Start) → let a = s.args in a.j < cond (ltb (a.self.first + a.g % a.self.w) a.self.k) (a.self.k - 1) a.self.k
inside s = s.requires.0.inside _ (at-below s)

few : (s : Start) → s.args.j < 8
few s = let a = s.args in omega (arith, inside s, kept-few a.self.k (a.self.first + a.g % a.self.w) s.requires.0.keyed.vertices)

-- where it stands in the cell
stood : (c : After-stands-i) → let a = c.args in
    c.stands-i.result ≡ cond (ltb a.j (a.self.first + a.g % a.self.w)) a.j (a.j + 1)
stood c =
    let a = c.args in
    c.stands-i.ensures ∙ ap (λ (i : ℕ). cond (ltb a.j (a.self.first + i)) a.j (a.j + 1)) c.place_of-here.ensures.1

in_cell : (c : After-stands-i) → c.stands-i.result < 8
in_cell c =
    let a = c.args in
    subst⁻¹ (λ (x : ℕ). x < 8) (stood c)
    (stands_below a.self.k (a.self.first + a.g % a.self.w) a.j c.requires.0.keyed.vertices (inside (goal.at.After-stands-i c).Start))

in_table : (c : After-stands-i) → c.place_of-here.result.cell * 8 + c.stands-i.result < 32768
in_table c =
    omega (arith, in_cell c, cell_below (goal.at.After-stands-i c).Start, c.place_of-here.ensures.0)

pub overflow_add-self : goal.overflow_add-self
overflow_add-self c =
    omega (arith, at-below (goal.at.overflow_add-self c).Start, c.place_of-here.ensures.1, c.requires.0.keyed.most, c.requires.0.keyed.start)

pub stands-i-requires : goal.stands-i-requires
stands-i-requires c = omega (arith, few (goal.at.stands-i-requires c).Start)

pub overflow_mul-p : goal.overflow_mul-p
overflow_mul-p c = omega (arith, in_table c)

pub overflow_add-p : goal.overflow_add-p
overflow_add-p c = omega (arith, in_table c)

pub offset_bounds-rows-p : goal.offset_bounds-rows-p
offset_bounds-rows-p c = omega (arith, in_table c)

pub bounds-rows-p : goal.bounds-rows-p
bounds-rows-p c = omega (arith, in_table (goal.at.bounds-rows-p c).After-stands-i)

pub returns : goal.returns
returns c =
    let a = c.args in (
      c.from.ensures
          ∙ (λ i. get_or a.rows.now (c.place_of-here.ensures.0 i * 8 + stood (goal.at.returns c).After-stands-i i) 0)
          ∙ sym (key_at a.rows.now a.self.k (a.g / a.self.w) c.requires.0.keyed.long c.requires.0.keyed.vertices
          (cell_below (goal.at.returns c).Start)
          (a.self.first + a.g % a.self.w) a.j (inside (goal.at.returns c).Start)),
      omega arith,
    )

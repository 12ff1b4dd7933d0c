-- Four right words. Assumes nothing.
use Rattle.std.proofs.Common.{◌≡◌, ℕ, suc, ◌+◌, ◌-◌, ◌*◌, ◌<◌, ◌≤◌, cond, eqb, ltb, length, sym, ap, ◌∙◌, ap₂, arith, length-set}
use Rattle.records.specs.Layout.{record_size, material_place, wing_place}
use Rattle.simplex.specs.SignWords.{turned_sign}
use Rattle.sweeping.proofs.Bounds.{number-inside}
use Rattle.sweeping.proofs.PrismWords.{inside-prism, sign_at_lem, material_at_lem, above_at_lem, below_at, head_kept, head_right}
use Rattle.sweeping.proofs.heads.put_head.Given.{Over}
use Rattle.sweeping.proofs.heads.put_head.Goals as goal
use Rattle.sweeping.proofs.heads.put_head.Goals.{After-first_wing, Start}

-- the four places, inside the buffer
record Places (g : Over) (c : After-first_wing g) : Type 0 where
  pub sign : c.args.at + c.record_place.result ≡ c.args.at + (c.args.k * record_size (suc g.row.D) + 0)
  pub material : c.args.at + c.record_place.result + 1
      ≡ c.args.at + (c.args.k * record_size (suc g.row.D) + material_place)
  pub above : c.args.at + c.record_place.result + c.first_wing.result
      ≡ c.args.at + (c.args.k * record_size (suc g.row.D) + wing_place (suc g.row.D) 0)
  pub below : c.args.at + c.record_place.result + c.first_wing.result + (g.row.D + 1)
      ≡ c.args.at + (c.args.k * record_size (suc g.row.D) + wing_place (suc g.row.D) (suc g.row.D))
  pub inside : c.args.at + c.record_place.result + c.first_wing.result + (g.row.D + 1)
      < length c.args.out.now

places : (g : Over) (c : After-first_wing g) → Places g c
places g c =
    let a = c.args in
    let r = c.record_place.ensures.place in
    let w = c.first_wing.ensures in
    let last = inside-prism g.row.D a.v a.s a.h a.table.now c.requires.ready a.i a.p c.requires.at.0 c.requires.at.1 a.k
    (wing_place (suc g.row.D) (suc g.row.D)) c.requires.at.2 (omega arith) in
    record {
      sign = omega (arith, r);
      material = omega (arith, r);
      above = omega (arith, r, w);
      below = omega (arith, r, w);
      inside = omega (arith, r, w, last, c.requires.room);
    }

few : (g : Over) (c : Start g) → c.args.x.first + g.row.D ≤ 4096
few g c =
    let a = c.args in
    let pre = c.requires.at in
    omega (
      arith,
      pre.3.first,
      c.requires.ready.cells,
      number-inside g.row.D a.s a.h a.i a.p g.row.D pre.0 pre.1 (omega arith),
    )

pub bounds-out-to : goal.bounds-out-to
bounds-out-to g c = let p = places g (goal.at.bounds-out-to g c).After-first_wing in omega (arith, p.inside)

pub bounds-out-to-2 : goal.bounds-out-to-2
bounds-out-to-2 g c = let p = places g (goal.at.bounds-out-to-2 g c).After-first_wing in simp length-set (omega (arith, p.inside))

pub above-requires : goal.above-requires
above-requires g c = few g (goal.at.above-requires g c).Start

pub bounds-out-wings : goal.bounds-out-wings
bounds-out-wings g c = let p = places g (goal.at.bounds-out-wings g c).After-first_wing in simp length-set (omega (arith, p.inside))

pub below-requires : goal.below-requires
below-requires g c = (few g (goal.at.below-requires g c).Start, c.requires.at.2)

pub bounds-out-wings-2 : goal.bounds-out-wings-2
bounds-out-wings-2 g c = let p = places g (goal.at.bounds-out-wings-2 g c).After-first_wing in simp length-set (omega (arith, p.inside))

-- the four words
pub returns : goal.returns
returns g c =
    let a = c.args in
    let hk = c.requires.at.2 in
    let x = c.requires.at.3 in
    let q = places g (goal.at.returns g c).After-first_wing in
    let sign = c.turned.ensures ∙ ap (λ (n : ℕ). turned_sign n (a.k * g.row.D)) x.sign
    ∙ sym (sign_at_lem g.row.D a.v a.s a.h a.table.now c.requires.ready a.i a.p c.requires.at.0 c.requires.at.1 a.k hk) in
    let material = x.material
    ∙ sym (material_at_lem g.row.D a.v a.s a.h a.table.now c.requires.ready a.i a.p c.requires.at.0 c.requires.at.1 a.k hk) in
    let above = c.above.ensures
    ∙ ap₂ (λ (n m : ℕ). cond (ltb a.k g.row.D) (n + suc a.k) m) x.first x.top
    ∙ sym (above_at_lem g.row.D a.v a.s a.h a.table.now c.requires.ready a.i a.p c.requires.at.0 c.requires.at.1 a.k hk) in
    let below = c.below.ensures
    ∙ ap₂ (λ (n m : ℕ). cond (eqb a.k 0) m (n + (a.k - 1))) x.first x.bottom
    ∙ sym (below_at g.row.D a.v a.s a.h a.table.now c.requires.ready a.i a.p c.requires.at.0 c.requires.at.1 a.k hk) in record {
      kept = head_kept g.row.D a.v a.s a.h a.table.now c.requires.ready a.i a.p c.requires.at.0 c.requires.at.1 a.k a.at hk a.out.now
          c.requires.room _ _ _ _ sign material above below _ _ _ _ q.sign q.material q.above q.below;
      right = head_right g.row.D a.v a.s a.h a.table.now c.requires.ready a.i a.p c.requires.at.0 c.requires.at.1 a.k a.at hk a.out.now
          c.requires.room _ _ _ _ sign material above below _ _ _ _ q.sign q.material q.above q.below;
    }

-- The goals that the search leaves. Assumes nothing.
use Rattle.std.proofs.Common.{◌≡◌, ℕ, ◌+◌, ◌-◌, ◌<◌, length, sym, ap, ◌∙◌, arith}
use Rattle.records.specs.Layout.{vertex_place}
use Rattle.sweeping.specs.Inner.SweptWords.{prism_words}
use Rattle.sweeping.proofs.Columns.{column_at}
use Rattle.sweeping.proofs.Filling.{kept-none, kept_then, rights_from, stored}
use Rattle.sweeping.proofs.PrismWords.{inside-prism, vertex_at}
use Rattle.sweeping.proofs.vertices.put_column.Given.{Over}
use Rattle.sweeping.proofs.vertices.put_column.Goals as goal
use Rattle.sweeping.proofs.vertices.put_column.Goals.{After-record_place, In-loop-k}

low : (g : Over) (c : In-loop-k g) → let a = c.args in
    column_at g.row.D a.m c.loop-k.k < length (prism_words g.row.D a.v a.s a.h a.table.now a.i a.p)
low g c =
    let a = c.args in
    let at = c.requires.at in
    let k = c.loop-k.k in
    inside-prism g.row.D a.v a.s a.h a.table.now c.requires.ready a.i a.p at.0 at.1 k (vertex_place (a.m - k))
    (omega (arith, c.loop-k-test.true, at.2)) (omega (arith, at.5))

-- the place, inside the buffer
place : (g : Over) (c : After-record_place g) → c.record_place.result + (2 + (c.args.m - c.loop-k.k)) ≡ column_at g.row.D c.args.m c.loop-k.k
place g c = omega (arith, c.record_place.ensures.place)

inside : (g : Over) (c : After-record_place g) → c.args.at + (c.record_place.result + (2 + (c.args.m - c.loop-k.k))) < length c.args.out.now
inside g c =
    omega (arith, place g c, low g (goal.at.After-record_place g c).In-loop-k, c.requires.room)

pub loop-k-init : goal.loop-k-init
loop-k-init g c = (kept-none _ _ _, λ q l m. absurd (omega arith))

pub record_place-requires : goal.record_place-requires
record_place-requires g c = (c.requires.ready.dimension, omega (arith, c.loop-k-test.true, c.requires.at.2))

pub bounds-out-at : goal.bounds-out-at
bounds-out-at g c =
    omega (arith, inside g c, c.loop-k.invariant.0.outside.same)

pub loop-k-preserved : goal.loop-k-preserved
loop-k-preserved g c =
    let a = c.args in
    let at = c.requires.at in
    let k = c.loop-k.k in
    let inv = c.loop-k.invariant in
    let words = prism_words g.row.D a.v a.s a.h a.table.now a.i a.p in
    let put = stored a.at words c.loop-k.out (column_at g.row.D a.m k) a.x _
    (omega (arith, c.requires.room, inv.0.outside.same)) (low g (goal.at.loop-k-preserved g c).In-loop-k) (ap (λ (n : ℕ). a.at + n) (place g c))
    (c.requires.word k c.loop-k.auto.k (omega arith)
    ∙ sym (vertex_at g.row.D a.v a.s a.h a.table.now c.requires.ready a.i a.p at.0 at.1 k
    (omega (arith, c.loop-k-test.true, at.2)) (a.m - k) (omega (arith, at.5)))) in (
      kept_then _ _ _ _ _ inv.0 put.kept,
      λ q l. rights_from a.at words _ _ (column_at g.row.D a.m) a.low k put.kept inv.1 put.right q l,
    )

pub returns : goal.returns
returns g c = let i = c.loop-k.invariant in record {
  kept = i.0;
  right = λ k l m. i.1 k l (omega arith);
}

-- The goals that the search leaves. Assumes nothing.
use Rattle.std.proofs.Common.{◌≡◌, suc, ◌+◌, ◌*◌, ◌≤◌, length, ap, arith}
use Rattle.words.proofs.Records.{record_fits}
use Rattle.records.specs.Layout.{record_size}
use Rattle.sweeping.proofs.Stepping.{records_more, records_none}
use Rattle.sweeping.proofs.raising.step_level.Given.{Over}
use Rattle.sweeping.proofs.raising.step_level.Goals as goal
use Rattle.sweeping.proofs.raising.step_level.Goals.{In-loop-q}

-- the record of this turn is inside the level
place : (g : Over) (c : In-loop-q g) → c.loop-q.q * c.record_size-size.result ≡ c.loop-q.q * record_size (suc g.row.D)
place g c = ap (λ n. c.loop-q.q * n) (omega (arith, c.record_size-size.ensures))

fits : (g : Over) (c : In-loop-q g) → (c.loop-q.q * c.record_size-size.result + record_size (suc g.row.D) ≤ c.args.n)
    × (c.args.n + c.args.n ≤ length c.loop-q.out)
fits g c =
    let l = c.loop-q in (
      omega (arith, record_fits (record_size (suc g.row.D)) c.args.c l.q c.loop-q-test.true, place g c, c.requires.3),
      omega (arith, c.requires.4, l.invariant.outside.same),
    )

pub loop-q-init : goal.loop-q-init
loop-q-init g c = records_none _ _ _ _ _

pub step_record-requires : goal.step_record-requires
step_record-requires g c =
    let f = fits g (goal.at.step_record-requires g c).In-loop-q in
    (c.requires.0, omega (arith, f.0, f.1), omega (arith, f.0, f.1))

pub loop-q-preserved : goal.loop-q-preserved
loop-q-preserved g c =
    let a = c.args in
    let l = c.loop-q in
    let step = rw (place g (goal.at.loop-q-preserved g c).In-loop-q) at c.step_record.ensures in
    records_more g.row.D a.v a.c a.n a.out.now l.q _ l.out _ c.loop-q-test.true c.requires.3
    (λ j m. c.steps-all.ensures j (omega (arith, c.requires.0))) l.invariant step

pub returns : goal.returns
returns g c =
    let i = c.loop-q.invariant in
    record { outside = i.outside; steps = λ q j l m. i.steps q j (omega (arith, c.loop-q-test.false)) m }

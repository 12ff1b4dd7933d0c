-- The goals that the search leaves. Assumes nothing.
use Rattle.std.proofs.Common.{ℕ, List, length, ap, arith}
use Rattle.words.proofs.Writing.{left_starts, left_record, left_record_fits, left_records}
use Rattle.sweeping.specs.Inner.SweptWords.{prism_words}
use Rattle.sweeping.proofs.SweptWords.{level_is}
use Rattle.sweeping.proofs.writing.write_level.Given.{Over}
use Rattle.sweeping.proofs.writing.write_level.Goals as goal
use Rattle.sweeping.proofs.writing.write_level.Goals.{Start}

abbrev prisms : (g : Over) → Start g → ℕ → List ℕ
prisms g c = let a = c.args in prism_words g.row.D a.v a.s a.h a.table.now a.i

pub loop-p-init : goal.loop-p-init
loop-p-init g c =
    let a = c.args in
    left_starts a.at _ a.out.now (omega (arith, c.requires.room, ap length (level_is g.row.D a.v a.s a.h a.table.now a.i)))

pub write_prism-next-requires : goal.write_prism-next-requires
write_prism-next-requires g c =
    let more = c.loop-p-test.true in
    record {
      ready = c.requires.ready;
      at = (c.requires.at, more);
      room = left_record_fits _ _ (prisms g (goal.at.write_prism-next-requires g c).Start) more c.loop-p.invariant;
    }

pub loop-p-preserved : goal.loop-p-preserved
loop-p-preserved g c =
    left_record _ _ (prisms g (goal.at.loop-p-preserved g c).Start) c.loop-p-test.true c.loop-p.invariant _ _
    (record { place = c.write_prism-next.ensures.place; content = c.write_prism-next.ensures.words })

pub returns : goal.returns
returns g c =
    let a = c.args in
    let put = left_records a.s c.loop-p.p (prisms g (goal.at.returns g c).Start) (omega arith) c.loop-p.invariant in
    let is = level_is g.row.D a.v a.s a.h a.table.now a.i in
    record {
      place = rw is put.place;
      words = rw is put.content;
    }

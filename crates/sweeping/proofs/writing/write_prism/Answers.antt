-- Vertices, heads and sides are all the words of the records over one cell. Assumes nothing.
use Rattle.std.proofs.Common.{◌≡◌, suc, ◌+◌, ◌*◌, length, arith}
use Rattle.records.specs.Layout.{record_size}
use Rattle.sweeping.specs.Inner.SweptWords.{prism_words}
use Rattle.sweeping.proofs.Filling.{kept_then}
use Rattle.sweeping.proofs.PrismFilled.{prism-filled}
use Rattle.sweeping.proofs.PrismWords.{head_stays}
use Rattle.sweeping.proofs.SweptWords.{prism-long}
use Rattle.sweeping.proofs.writing.write_prism.Given.{Over}
use Rattle.sweeping.proofs.writing.write_prism.Goals as goal
use Rattle.sweeping.proofs.writing.write_prism.Goals.{Start}

long : (g : Over) (c : Start g) → let a = c.args in
    length (prism_words g.row.D a.v a.s a.h a.table.now a.i a.p) ≡ (g.row.D + 1) * record_size (suc g.row.D)
long g c = let a = c.args in prism-long g.row.D a.v a.s a.h a.table.now c.requires.ready.long a.i a.p c.requires.at.1

pub put_heads-requires : goal.put_heads-requires
put_heads-requires g c =
    record {
      ready = c.requires.ready;
      at = c.requires.at;
      room = omega (arith, c.requires.room, c.put_vertices.ensures.kept.outside.same);
    }

pub put_faces-requires : goal.put_faces-requires
put_faces-requires g c =
    record {
      ready = c.requires.ready;
      at = c.requires.at;
      room = omega (arith, c.requires.room, c.put_vertices.ensures.kept.outside.same, c.put_heads.ensures.kept.outside.same);
    }

pub returns : goal.returns
returns g c =
    let a = c.args in
    let words = prism_words g.row.D a.v a.s a.h a.table.now a.i a.p in
    let two = kept_then a.at words _ _ _ c.put_vertices.ensures.kept c.put_heads.ensures.kept in record {
      place = omega (arith, long g (goal.at.returns g c).Start, c.record_place.ensures.place);
      words = prism-filled g.row.D a.v a.s a.h a.table.now c.requires.ready a.i a.p c.requires.at.1 a.at a.out.now _ c.requires.room
          (kept_then a.at words _ _ _ two c.put_faces.ensures.kept)
          (λ k hk. head_stays _ _ words _ _ k c.put_faces.ensures.kept (c.put_heads.ensures.right k hk))
          (λ k j hk hj. c.put_faces.ensures.kept.right _ (c.put_heads.ensures.kept.right _ (c.put_vertices.ensures.vertices k j hk hj)))
          c.put_faces.ensures.right;
    }

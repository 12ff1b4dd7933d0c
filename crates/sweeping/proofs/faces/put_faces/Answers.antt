-- The goals that the search leaves. Assumes nothing.
use Rattle.std.proofs.Common.{ℕ, ◌≤◌, not-suc-le-zero, arith}
use Rattle.sweeping.specs.Inner.PrismPlaces.{side_at}
use Rattle.sweeping.specs.Inner.SweptWords.{prism_words}
use Rattle.sweeping.proofs.Filling.{kept-none, kept_then, rights_more}
use Rattle.sweeping.proofs.faces.put_faces.Goals as goal

pub loop-a-init : goal.loop-a-init
loop-a-init g c = (kept-none _ _ _, λ l b m n. absurd (not-suc-le-zero n))

pub put_face-requires : goal.put_face-requires
put_face-requires g c =
    let low : c.loop-a.a ≤ g.row.D = omega arith in
    record {
      ready = c.requires.ready;
      at = (c.requires.at.0, c.requires.at.1, low);
      room = omega (arith, c.requires.room, c.loop-a.invariant.0.outside.same);
    }

pub loop-a-preserved : goal.loop-a-preserved
loop-a-preserved g c =
    let a = c.args in
    let words = prism_words g.row.D a.v a.s a.h a.table.now a.i a.p in (
      kept_then _ _ _ _ _ c.loop-a.invariant.0 c.put_face.ensures.kept,
      λ m b h. rights_more a.at words _ _ (λ (b : ℕ). side_at g.row.D b m) c.loop-a.a c.put_face.ensures.kept (λ x y. c.loop-a.invariant.1 m x h y)
          (c.put_face.ensures.right m h) b,
    )

pub returns : goal.returns
returns g c = let i = c.loop-a.invariant in record {
  kept = i.0;
  right = λ a l h m. i.1 l a m (omega arith);
}

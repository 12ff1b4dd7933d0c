-- The goals that the search leaves. Assumes nothing.
use Rattle.std.proofs.Common.{◌≡◌, ℕ, ◌+◌, ◌<◌, length, sym, ap, ◌∙◌, ap₂, not-suc-le-zero, arith}
use Rattle.sweeping.specs.Inner.Across.{face_first, face_back, side_word}
use Rattle.sweeping.specs.Inner.PrismPlaces.{side_at}
use Rattle.sweeping.specs.Inner.SweptWords.{prism_words, solid_wing}
use Rattle.sweeping.proofs.Filling.{kept-none, kept_then, stored, rights_more}
use Rattle.sweeping.proofs.PrismWords.{side_at_lem, side-low, side-inside, back_low}
use Rattle.sweeping.proofs.faces.put_face.Given.{Over}
use Rattle.sweeping.proofs.faces.put_face.Goals as goal
use Rattle.sweeping.proofs.faces.put_face.Goals.{In-loop-l}

-- the word of this turn, and its place
is : (g : Over) (c : In-loop-l g) → let a = c.args in
    side_word c.across_face-x.result.first c.across_face-x.result.back c.loop-l.l
    ≡ side_word (face_first g.row.D a.s (solid_wing g.row.D a.s a.table.now) a.i a.p a.a)
    (face_back g.row.D (solid_wing g.row.D a.s a.table.now) a.p a.a) c.loop-l.l
is g c = ap₂ (λ f b. side_word f b c.loop-l.l) c.across_face-x.ensures.first c.across_face-x.ensures.back

low : (g : Over) (c : In-loop-l g) → side_at g.row.D c.args.a c.loop-l.l
    < length (prism_words g.row.D c.args.v c.args.s c.args.h c.args.table.now
    c.args.i c.args.p)
low g c =
    let a = c.args in
    let at = c.requires.at in
    side-inside g.row.D a.v a.s a.h a.table.now c.requires.ready a.i a.p at.0 at.1 a.a _ at.2 c.loop-l-test.true

inside : (g : Over) (c : In-loop-l g) → c.args.at + side_at g.row.D c.args.a c.loop-l.l
    < length c.args.out.now
inside g c = omega (arith, low g c, c.requires.room)

pub loop-l-init : goal.loop-l-init
loop-l-init g c = (kept-none _ _ _, λ q l. absurd (not-suc-le-zero l))

pub side_word-requires : goal.side_word-requires
side_word-requires g c =
    let a = c.args in
    let at = c.requires.at in (
      c.requires.ready.dimension,
      omega (
        arith,
        c.across_face-x.ensures.back,
        back_low g.row.D a.v a.s a.h a.table.now c.requires.ready a.i a.p at.0 at.1 a.a at.2,
      ),
      c.loop-l-test.true,
      omega (
        arith,
        is g c,
        side-low g.row.D a.v a.s a.h a.table.now c.requires.ready a.i a.p at.0 at.1 a.a _ at.2 c.loop-l-test.true,
      ),
    )

pub side_place-requires : goal.side_place-requires
side_place-requires g c =
    (c.requires.ready.dimension, c.requires.at.2, c.loop-l-test.true)

pub bounds-out-at : goal.bounds-out-at
bounds-out-at g c =
    omega (arith, inside g (goal.at.bounds-out-at g c).In-loop-l, c.side_place.ensures.place, c.loop-l.invariant.0.outside.same)

pub loop-l-preserved : goal.loop-l-preserved
loop-l-preserved g c =
    let a = c.args in
    let at = c.requires.at in
    let l = c.loop-l.l in
    let inv = c.loop-l.invariant in
    let words = prism_words g.row.D a.v a.s a.h a.table.now a.i a.p in
    let put = stored a.at words c.loop-l.out (side_at g.row.D a.a l) _ _
    (omega (arith, c.requires.room, inv.0.outside.same)) (low g (goal.at.loop-l-preserved g c).In-loop-l)
    (ap (λ (n : ℕ). a.at + n) c.side_place.ensures.place)
    (c.side_word.ensures ∙ is g (goal.at.loop-l-preserved g c).In-loop-l
    ∙ sym (side_at_lem g.row.D a.v a.s a.h a.table.now c.requires.ready a.i a.p at.0 at.1 a.a l at.2 c.loop-l-test.true)) in (
      kept_then _ _ _ _ _ inv.0 put.kept,
      rights_more a.at words _ _ (side_at g.row.D a.a) l put.kept inv.1 put.right,
    )

pub returns : goal.returns
returns g c = let i = c.loop-l.invariant in record {
  kept = i.0;
  right = λ l m. i.1 l (omega arith);
}

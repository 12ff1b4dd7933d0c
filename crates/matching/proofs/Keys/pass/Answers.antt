-- A digit that all keys have alike parts nothing; by any other the classes are parted.
use mathlib.Core.Path.{refl}
use native.Mathlib.Omega.{arith}
use Rattle.matching.proofs.Classing.{classed_flat, classed_more}
use Rattle.matching.proofs.Keys.pass.Goals as goal

pub returns-then-flat : goal.returns-then-flat
returns-then-flat c =
    record {
      classed_2 = classed_flat _ _ _ _ c.requires.classed (c.flat.ensures c.if-flat.true);
      prev_len = (c.requires.worded.2, (λ g h. refl));
    }

pub link-requires : goal.link-requires
link-requires c =
    (omega (arith, c.requires.worded.1, c.requires.worded.0.keyed.most), c.requires.classed.named, c.requires.worded.2)

pub refine-requires : goal.refine-requires
refine-requires c =
    record {
      worded = (c.requires.worded.0, c.requires.worded.1, c.requires.classed.named, c.requires.classed.class_long);
      linked = c.link.ensures.linked.0;
    }

pub returns : goal.returns
returns c =
    record {
      classed_2 = classed_more _ _ _ _ _ c.requires.classed c.refine.ensures;
      prev_len = (c.link.ensures.linked.1, c.link.ensures.behind);
    }

-- The goals that the search leaves. Assumes nothing.
use mathlib.Core.Bool.{false≢true}
use mathlib.Core.Path.{refl, ◌∙◌}
use Prim.Native.Nat.{◌-◌}
use native.Mathlib.Omega.{arith}
use lib.ListN.{length-set}
use Rattle.matching.specs.Inner.Matching.{key_row, earlier}
use Rattle.matching.specs.Inner.Buckets.{bucket_at}
use Rattle.matching.proofs.Links.{answered_more, linked_below, behind-set}
use Rattle.matching.proofs.Keys.settle.Goals as goal

pub loop-g-init : goal.loop-g-init
loop-g-init c = (c.requires.keyed.3, c.requires.linked, (λ f h t. absurd (omega arith)), (λ g h. refl))

pub back-found-requires : goal.back-found-requires
back-found-requires c =
    record {
      keyed = (c.requires.keyed.0, c.requires.keyed.1, omega arith);
      linked = (λ f b. c.loop-g.invariant.1 f (omega arith));
    }

pub returns-then-left-eq0 : goal.returns-then-left-eq0
returns-then-left-eq0 c =
    record {
      prev_len = c.loop-g.invariant.0;
      g_after = (λ e. absurd (false≢true e));
      behind = c.loop-g.invariant.3;
    }

pub loop-g-preserved : goal.loop-g-preserved
loop-g-preserved c =
    let a = c.args in
    let l = c.loop-g in (
      length-set l.prev (l.g - 1) _ ∙ l.invariant.0,
      linked_below (bucket_at (key_row _ a.self.k _ _)) l.prev (l.g - 1) _ (λ f b. l.invariant.1 f (omega arith)),
      answered_more (earlier _ a.self.k a.self.w _) l.prev a.n (l.g - 1) _ (omega (arith, l.invariant.0))
          (c.back-found.ensures (omega (arith, c.if-left-eq0.false))) (λ f h t. l.invariant.2 f (omega arith) t),
      behind-set a.n l.prev a.prev.now (l.g - 1) _ (omega arith) l.invariant.3,
    )

pub returns : goal.returns
returns c =
    let inv = c.loop-g.invariant in
    record {
      prev_len = inv.0;
      g_after = (λ e g h. inv.2 g (omega arith) h);
      behind = inv.3;
    }

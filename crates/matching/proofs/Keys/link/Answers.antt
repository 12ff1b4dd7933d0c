-- The goals that the search leaves. Assumes nothing.
use mathlib.Core.Path.{◌≡◌, refl, ap, subst, ◌∙◌}
use mathlib.Core.List.{List}
use Prim.Native.Nat.{ℕ, suc, ◌*◌}
use native.Mathlib.Nat.{zero-mul, suc-mul, mul-le-mul_right}
use native.Mathlib.Numerals.{add-one}
use native.Mathlib.Omega.{arith}
use lib.ListN.{length, get_or, length-replicate, get_or-replicate}
use Rattle.matching.specs.Inner.Matching.{key_row}
use Rattle.matching.specs.Inner.Buckets.{bucket_at}
use Rattle.matching.specs.Inner.Links.{Linked}
use Rattle.matching.proofs.Links.{linking-start}
use Rattle.matching.proofs.Keys.link.Goals as goal

pub loop-p-init : goal.loop-p-init
loop-p-init c =
    let e = c.requires.3 in (
      rw (zero-mul _)
          (linking-start _ _ _ _ (λ b l. ap (λ (h : List ℕ). get_or h b 0) e ∙ get_or-replicate 32768 b 65535 0 l)
          (ap length e ∙ length-replicate {A = ℕ} 32768 65535) c.requires.2),
      (λ g h. refl),
    )

pub link_cell-requires : goal.link_cell-requires
link_cell-requires c =
    record {
      keyed = (c.requires.0, omega arith);
      linking = c.loop-p.invariant.0;
    }

pub loop-p-preserved : goal.loop-p-preserved
loop-p-preserved c =
    let l = c.loop-p in
    let a = c.args in
    let most = mul-le-mul_right {m = suc l.p} {n = a.s} a.self.w (omega arith) in (
      rw (add-one, suc-mul) c.link_cell.ensures.linking_2,
      (λ g h. c.link_cell.ensures.behind g (omega (arith, most, suc-mul l.p a.self.w)) ∙ l.invariant.1 g h),
    )

pub returns : goal.returns
returns c =
    let a = c.args in
    let l = c.loop-p in
    let e : l.p ≡ a.s = omega arith in record {
      linked = subst (λ (p : ℕ). Linked (bucket_at (key_row a.rows.now a.self.k a.self.w a.self.first)) l.prev (p * a.self.w)) e l.invariant.0.links;
      prev_len = (l.invariant.0.prev_long, l.invariant.0.head_long);
      behind = l.invariant.1;
    }

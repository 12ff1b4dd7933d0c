-- The goals that the search leaves. Assumes nothing.
use mathlib.Core.Path.{◌≡◌, refl, subst, ◌∙◌}
use Prim.Native.Nat.{ℕ, ◌+◌, ◌*◌, ◌<◌}
use native.Mathlib.Nat.{add-zero, add_assoc}
use native.Mathlib.Omega.{arith}
use lib.ListN.{get_or, set}
use Rattle.matching.specs.Inner.Matching.{key_row}
use Rattle.matching.specs.Inner.Buckets.{bucket_at}
use Rattle.matching.specs.Inner.Links.{Linking}
use Rattle.matching.proofs.Links.{linking_more, behind-set, bucket_is, key_below}
use Rattle.matching.proofs.Weights.{bucket_of_lem, term-within}
use Rattle.matching.proofs.Keys.link_cell.Goals as goal
use Rattle.matching.proofs.Keys.link_cell.Goals.{In-loop-i}

-- the key is one of 32768
in_table : (c : In-loop-i) → c.args.p * c.args.self.w + c.loop-i.i < 32768
in_table c = omega (arith, key_below _ _ _ c.loop-i-test.true c.requires.keyed.1)

pub loop-i-init : goal.loop-i-init
loop-i-init c =
    (rw (add-zero (c.args.p * c.args.self.w)) c.requires.linking, (λ g h. refl))

pub bucket-b-requires : goal.bucket-b-requires
bucket-b-requires c =
    let a = c.args in
    let w = c.weigh-weighed in (
      c.requires.keyed.0.vertices,
      term-within a.rows.now a.p a.self.k (a.self.first + c.loop-i.i) w.result.sum w.result.each c.requires.keyed.0.vertices
          w.ensures.sum w.ensures.terms,
    )

pub overflow_mul-g : goal.overflow_mul-g
overflow_mul-g c = omega (arith, in_table (goal.at.overflow_mul-g c).In-loop-i)

pub overflow_add-g : goal.overflow_add-g
overflow_add-g c = omega (arith, in_table (goal.at.overflow_add-g c).In-loop-i)

pub offset_bounds-prev-g : goal.offset_bounds-prev-g
offset_bounds-prev-g c = omega (arith, in_table (goal.at.offset_bounds-prev-g c).In-loop-i)

pub bounds-prev-g : goal.bounds-prev-g
bounds-prev-g c = omega (arith, in_table (goal.at.bounds-prev-g c).In-loop-i)

pub overflow_cast-head : goal.overflow_cast-head
overflow_cast-head c = omega (arith, in_table (goal.at.overflow_cast-head c).In-loop-i)

pub loop-i-preserved : goal.loop-i-preserved
loop-i-preserved c =
    let a = c.args in
    let l = c.loop-i in
    let w = c.weigh-weighed in
    let b = (c.bucket-b) in (
      subst (λ (m : ℕ). Linking (bucket_at (key_row a.rows.now a.self.k a.self.w a.self.first))
          (set l.head b.result (a.p * a.self.w + l.i)) (set l.prev (a.p * a.self.w + l.i) (get_or l.head b.result 0)) 32768 m)
          (add_assoc (a.p * a.self.w) _ 1)
          (linking_more (bucket_at (key_row a.rows.now a.self.k a.self.w a.self.first)) _ _ 32768 (a.p * a.self.w + l.i) _
          (in_table (goal.at.loop-i-preserved c).In-loop-i) (omega arith)
          (bucket_is a.p _ _ c.loop-i-test.true a.rows.now a.self.k a.self.first _
          (b.ensures.0 ∙ bucket_of_lem a.rows.now a.p a.self.k (a.self.first + l.i) w.result.sum w.result.each c.requires.keyed.0.vertices
          w.ensures.sum w.ensures.terms)) b.ensures.1
          l.invariant.0),
      behind-set (a.p * a.self.w + a.self.w) l.prev a.prev.now (a.p * a.self.w + l.i) (get_or l.head b.result 0) (omega arith) l.invariant.1,
    )

pub returns : goal.returns
returns c =
    let a = c.args in
    let l = c.loop-i in
    let e : l.i ≡ a.self.w = omega arith in
    let key = key_row a.rows.now a.self.k a.self.w a.self.first in
    record {
      linking_2 = subst (λ (i : ℕ). Linking (bucket_at key) l.head l.prev 32768 (a.p * a.self.w + i)) e l.invariant.0;
      behind = l.invariant.1;
    }

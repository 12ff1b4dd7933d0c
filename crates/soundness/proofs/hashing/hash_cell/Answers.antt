-- The goals that the search leaves. Assumes nothing.
use mathlib.Core.Path.{◌≡◌, sym, ap, ◌∙◌, subst}
use Prim.Native.Nat.{suc, ◌+◌, ◌*◌}
use native.Mathlib.Nat.{add_assoc}
use native.Mathlib.Omega.{arith}
use lib.ListN.{length-set}
use Rattle.soundness.specs.Inner.Certified.{row_in}
use Rattle.soundness.specs.Inner.Hashing.{face_of, hash_of}
use Rattle.soundness.proofs.FaceRows.{size_in}
use Rattle.soundness.proofs.Weighing.{face_of_lem, hash_is, weight-without}
use Rattle.soundness.specs.Inner.Hashing.{Hashes}
use Rattle.soundness.proofs.Filled.{filled_more}
use Rattle.soundness.proofs.hashing.hash_cell.Goals as goal

pub scattered-requires : goal.scattered-requires
scattered-requires c =
    let a = c.args in
    let n = size_in a.d a.s a.p a.table.now c.requires.1 in
    omega (
      arith,
      c.terms-cell.ensures.each.1 c.loop-a.a (omega arith),
      weight-without c.loop-a.a (row_in a.d a.table.now a.p) (omega (arith, n)),
      c.terms-cell.ensures.sum,
    )

pub loop-a-preserved : goal.loop-a-preserved
loop-a-preserved c =
    let a = c.args in
    let i = c.loop-a.invariant in
    let n = size_in a.d a.s a.p a.table.now c.requires.1 in
    let g = a.p * suc a.d + c.loop-a.a in
    let e : c.scattered.result ≡ hash_of (face_of a.d a.table.now g) =
    hash_is c.loop-a.a _ _ _ (row_in a.d a.table.now a.p) (omega (arith, n)) (omega (arith, n, c.requires.0)) c.terms-cell.ensures.sum
    (c.terms-cell.ensures.each.1 c.loop-a.a (omega arith)) c.scattered.ensures
    ∙ ap hash_of (sym (face_of_lem a.d a.table.now a.p c.loop-a.a (omega arith))) in (
      length-set c.loop-a.hash _ _ ∙ i.0,
      rw c.key-g.ensures.0 (rw (sym (add_assoc (a.p * suc a.d) c.loop-a.a 1))
          (filled_more (λ g. hash_of (face_of a.d a.table.now g)) c.loop-a.hash g _ (omega (arith, c.key-g.ensures, i.0, c.requires.3)) i.1
          e)),
    )

pub returns : goal.returns
returns c =
    let a = c.args in
    let i = c.loop-a.invariant in
    let e : c.loop-a.a ≡ suc a.d = omega arith in
    record {
      hashed = subst (λ x. Hashes a.d a.table.now c.loop-a.hash (a.p * suc a.d + x)) e i.1;
      long = i.0;
    }

-- The goals that the search leaves. Assumes nothing.
use mathlib.Core.Path.{◌≡◌, ap, ◌∙◌, subst}
use Prim.Native.Nat.{suc, ◌+◌, ◌*◌, ◌/◌, ◌%◌, ◌^◌, ◌≤◌, ◌<◌}
use native.Mathlib.Omega.{arith}
use lib.ListN.{length}
use Rattle.simplex.specs.Cell.{Row}
use Rattle.simplex.specs.Faces.{without}
use Rattle.soundness.specs.Inner.Certified.{row_in}
use Rattle.soundness.specs.Inner.Coding.{CodedTo, code_of}
use Rattle.soundness.proofs.Coding.{face_code, face_fits, one_more}
use Rattle.soundness.proofs.FaceRows.{size_in}
use Rattle.soundness.proofs.codes.put_cell.Goals as goal
use Rattle.soundness.proofs.codes.put_cell.Goals.{In-loop-a, Start}

abbrev row : Start → Row
row s = let a = s.args in row_in a.d a.table.now a.p

size : (s : Start) → length (row s) ≡ suc s.args.d
size s = let a = s.args in size_in a.d a.s a.p a.table.now s.requires.0

-- the code of the face at this place, and that it fits
face : (k : In-loop-a) → let c = k.row_code-c.result in
    (c % k.loop-a.one + c / k.loop-a.one / k.args.b * k.loop-a.one ≡ code_of k.args.b (without k.loop-a.a (row (goal.at.In-loop-a k).Start)))
    × (code_of k.args.b (without k.loop-a.a (row (goal.at.In-loop-a k).Start)) < 9223372036854775808)
face k =
    let a = k.args in
    let i = k.loop-a.invariant in
    let e = k.row_code-c.ensures in
    let w = row (goal.at.In-loop-a k).Start in (
      ap (λ x. x % k.loop-a.one + x / k.loop-a.one / a.b * k.loop-a.one) e
          ∙ ap (λ x. code_of a.b w % x + code_of a.b w / x / a.b * x) i.0
          ∙ face_code a.b a.d k.loop-a.a w k.requires.4 (size (goal.at.In-loop-a k).Start) k.requires.2 (omega arith),
      face_fits a.b a.d k.loop-a.a w k.requires.4 (size (goal.at.In-loop-a k).Start) k.requires.2 9223372036854775808 (omega arith) k.requires.3,
    )

-- what the next digit counts
next : (k : In-loop-a)
    → (k.loop-a.one * k.args.b ≡ k.args.b ^ (k.loop-a.a + 1)) × (k.loop-a.one * k.args.b ≤ 9223372036854775808) × (0 < k.loop-a.one)
next k =
    let a = k.args in
    one_more a.b a.d k.loop-a.a (row (goal.at.In-loop-a k).Start) k.requires.4 (size (goal.at.In-loop-a k).Start) k.requires.2 k.loop-a.one
    9223372036854775808 k.loop-a.invariant.0
    (omega arith) k.requires.3

pub nonzero_rem-c : goal.nonzero_rem-c
nonzero_rem-c c = (next c).2

pub nonzero_div-c : goal.nonzero_div-c
nonzero_div-c c = (next c).2

pub overflow_mul-c : goal.overflow_mul-c
overflow_mul-c c = let r = face c in omega (arith, r.0, r.1)

pub overflow_add-c : goal.overflow_add-c
overflow_add-c c = let r = face c in omega (arith, r.0, r.1)

pub put_key-requires : goal.put_key-requires
put_key-requires c =
    let i = c.loop-a.invariant in
    let f = face (goal.at.put_key-requires c).In-loop-a in
    (c.requires.0, omega arith, c.requires.1, i.1, f.0, omega (arith, f.0, f.1), i.2)

pub overflow_mul-one : goal.overflow_mul-one
overflow_mul-one c = omega (arith, (next (goal.at.overflow_mul-one c).In-loop-a).1)

pub loop-a-preserved : goal.loop-a-preserved
loop-a-preserved c =
    let i = c.loop-a.invariant in (
      (next (goal.at.loop-a-preserved c).In-loop-a).0,
      c.put_key.ensures.room,
      c.put_key.ensures.told,
      c.put_key.auto.hash ∙ i.3,
      c.put_key.auto.code ∙ i.4,
      c.put_key.auto.known ∙ i.5,
    )

pub returns : goal.returns
returns c =
    let a = c.args in
    let i = c.loop-a.invariant in
    let e : c.loop-a.a ≡ a.d + 1 = omega arith in record {
      told = subst (λ x. CodedTo a.d a.b a.table.now c.loop-a.hash c.loop-a.code c.loop-a.known
          (a.p * suc a.d + x)) e i.2;
      room = i.1;
    }

-- The goals that the search leaves. Assumes nothing.
use mathlib.Core.Path.{◌≡◌, sym, ap, ◌∙◌, subst}
use mathlib.Core.List.{[]}
use Prim.Native.Nat.{ℕ, suc, ◌+◌, ◌*◌, ◌-◌, ◌≤◌, ◌<◌}
use native.Mathlib.Omega.{arith}
use lib.ListN.{length, get_or, drop}
use lib.Seq.{drop-length}
use Rattle.simplex.specs.Cell.{Row}
use Rattle.soundness.specs.Inner.Certified.{row_in}
use Rattle.soundness.specs.Inner.Coding.{code_of}
use Rattle.soundness.proofs.Coding.{code_drop, code_fits}
use Rattle.soundness.proofs.FaceRows.{size_in}
use Rattle.soundness.proofs.codes.row_code.Goals as goal
use Rattle.soundness.proofs.codes.row_code.Goals.{Start}

abbrev row : Start → Row
row s = let a = s.args in row_in a.d a.table.now a.p

size : (s : Start) → length (row s) ≡ suc s.args.d
size s = let a = s.args in size_in a.d a.s a.p a.table.now s.requires.0

-- one vertex more, and that it fits
more : (s : Start) (c j : ℕ) → 0 < j → j ≤ s.args.d + 1 → c ≡ code_of s.args.b (drop j (row s)) →
    (code_of s.args.b (drop (j - 1) (row s)) ≡ c * s.args.b + get_or (row s) (j - 1) 0)
    × (code_of s.args.b (drop (j - 1) (row s)) < 9223372036854775808)
more s c j some most e =
    let a = s.args in
    let z : suc (j - 1) ≡ j = omega arith in (
      code_drop a.b (j - 1) (row s) (omega (arith, size s))
          ∙ ap (λ i. i * a.b + get_or (row s) (j - 1) 0) (ap (λ i. code_of a.b (drop i (row s))) z ∙ sym e),
      code_fits a.b a.d (j - 1) _ (row s) s.requires.3 (size s) s.requires.1 s.requires.2,
    )

pub loop-j-init : goal.loop-j-init
loop-j-init c =
    let e : suc c.args.d ≡ c.args.d + 1 = omega arith in (
      omega arith,
      sym (ap (code_of c.args.b)
          (subst (λ n. drop n (row (goal.at.loop-j-init c).Start) ≡ []) (size (goal.at.loop-j-init c).Start ∙ e)
          (drop-length (row (goal.at.loop-j-init c).Start)))),
    )

pub overflow_mul-c : goal.overflow_mul-c
overflow_mul-c c =
    let r = more (goal.at.overflow_mul-c c).Start c.loop-j.c c.loop-j.j (omega arith) c.loop-j.invariant.0 c.loop-j.invariant.1 in
    omega (arith, r.0, r.1)

pub overflow_add-c : goal.overflow_add-c
overflow_add-c c =
    let r = more (goal.at.overflow_add-c c).Start c.loop-j.c c.loop-j.j (omega arith) c.loop-j.invariant.0 c.loop-j.invariant.1 in
    omega (arith, r.0, r.1, c.vertex.ensures, c.from.ensures)

pub loop-j-preserved : goal.loop-j-preserved
loop-j-preserved c =
    let r = more (goal.at.loop-j-preserved c).Start c.loop-j.c c.loop-j.j (omega arith) c.loop-j.invariant.0 c.loop-j.invariant.1 in
    (omega arith, ap (λ x. c.loop-j.c * c.args.b + x) (c.from.ensures ∙ c.vertex.ensures) ∙ sym r.0)

pub returns : goal.returns
returns c =
    let e : c.loop-j.j ≡ 0 = omega arith in
    c.loop-j.invariant.1 ∙ ap (λ i. code_of c.args.b (drop i (row (goal.at.returns c).Start))) e

-- By dimension. Assumes nothing.
use mathlib.Core.Path.{◌≡◌, sym, ap, ◌∙◌}
use mathlib.Core.Bool.{cond}
use Prim.Native.Nat.{ℕ, ◌≤◌}
use native.Mathlib.Omega.{arith}
use lib.Dec.{ltb}
use borrow.Author.Tests.{le-ltb, lt-ltb}
use Rattle.soundness.specs.Inner.Coding.{base_of}
use Rattle.soundness.proofs.codes.base.Goals as goal

-- from dimension 5 on, and from 6 on
five : (d : ℕ) → 5 ≤ d → base_of d ≡ cond (ltb d 6) 1024 (cond (ltb d 7) 512 128)
five d h = ap (λ t. cond t 4096 (cond (ltb d 6) 1024 (cond (ltb d 7) 512 128))) (le-ltb d 5 h)

six : (d : ℕ) → 6 ≤ d → base_of d ≡ cond (ltb d 7) 512 128
six d h = five d (omega arith) ∙ ap (λ t. cond t 1024 (cond (ltb d 7) 512 128)) (le-ltb d 6 h)

pub returns-then-d-lt5 : goal.returns-then-d-lt5
returns-then-d-lt5 c = let d = c.args.d in
    sym (ap (λ t. cond t 4096 (cond (ltb d 6) 1024 (cond (ltb d 7) 512 128))) (lt-ltb d 5 c.if-d-lt5.true))

pub returns-then-d-lt6 : goal.returns-then-d-lt6
returns-then-d-lt6 c = let d = c.args.d in
    sym (five d (omega arith) ∙ ap (λ t. cond t 1024 (cond (ltb d 7) 512 128)) (lt-ltb d 6 c.if-d-lt6.true))

pub returns-then-d-lt7 : goal.returns-then-d-lt7
returns-then-d-lt7 c = let d = c.args.d in
    sym (six d (omega arith) ∙ ap (λ t. cond t 512 128) (lt-ltb d 7 c.if-d-lt7.true))

pub returns : goal.returns
returns c = let d = c.args.d in
    sym (six d (omega arith) ∙ ap (λ t. cond t 512 128) (le-ltb d 7 (omega arith)))

-- A byte of a word.
use mathlib.Core.Path.{ap}
use Prim.Native.Nat.{ℕ, ◌/◌, ◌%◌}
use native.Mathlib.Omega.{arith}
use borrow.Author.Tests.{eq-eqb, ne_eqb}
use Rattle.matching.specs.Inner.Classes.{key_digit}
use Rattle.matching.proofs.Keys.digit.Goals as goal

pub returns-then-j-eq0 : goal.returns-then-j-eq0
unfolding key_digit
returns-then-j-eq0 c =
    (rw (eq-eqb _ 0 c.if-j-eq0.true) (ap (λ (y : ℕ). y / 4096) c.word-x.ensures.0), omega (arith, c.word-x.ensures.1))

pub returns-else-j-eq0 : goal.returns-else-j-eq0
unfolding key_digit
returns-else-j-eq0 c =
    (rw (ne_eqb _ 0 c.if-j-eq0.false) (ap (λ (y : ℕ). y % 4096) c.word-x.ensures.0), omega arith)

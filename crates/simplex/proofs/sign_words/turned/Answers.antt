-- `turned` is `turned_sign`. Assumes nothing.
use mathlib.Core.Path.{refl}
use borrow.Author.Tests.{eq-eqb, ne_eqb}
use Rattle.simplex.proofs.Signs.{even_plus, odd_minus}
use Rattle.simplex.proofs.sign_words.turned.Goals as goal

pub returns-then-w-eq0 : goal.returns-then-w-eq0
returns-then-w-eq0 c = rw (even_plus _ c.if-n-eq0.true, eq-eqb _ _ c.if-w-eq0.true) refl

pub returns-then-n-eq0 : goal.returns-then-n-eq0
returns-then-n-eq0 c = rw (even_plus _ c.if-n-eq0.true, ne_eqb _ _ c.if-w-eq0.false) refl

pub returns-then-w-eq0-2 : goal.returns-then-w-eq0-2
returns-then-w-eq0-2 c = rw (odd_minus _ c.if-n-eq0.false, eq-eqb _ _ c.if-w-eq0-2.true) refl

pub returns : goal.returns
returns c = rw (odd_minus _ c.if-n-eq0.false, ne_eqb _ _ c.if-w-eq0-2.false) refl

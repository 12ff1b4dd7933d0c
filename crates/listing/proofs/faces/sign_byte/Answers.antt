-- The sign of a sign word. Assumes nothing.
use borrow.Author.Tests.{eq-eqb, ne_eqb}
use Rattle.listing.proofs.faces.sign_byte.Goals as goal

pub returns-then-word-eq0 : goal.returns-then-word-eq0
returns-then-word-eq0 c = simp (eq-eqb _ _ c.if-word-eq0.true)

pub returns : goal.returns
returns c = simp (ne_eqb _ _ c.if-word-eq0.false)

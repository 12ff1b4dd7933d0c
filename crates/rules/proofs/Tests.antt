-- Laws of tests, which several crates share.
--   and_parts             both parts of a conjunction that is true
--   differs, agrees       the test `!=` of two numbers, where they differ and where they are the same
--   is_less, not_less     the test `<`, where it holds and where it fails
-- Assumes nothing.
use mathlib.Core.Path.{◌≡◌, refl, ap}
use mathlib.Core.Bool.{Bool, true, false, not, ◌&&◌}
use Prim.Native.Nat.{ℕ, ◌<◌, ◌≤◌}
use lib.Dec.{eqb, ltb}
use borrow.Author.Tests.{ne_eqb, eq-eqb, lt-ltb, le-ltb}

pub and_parts : (a b : Bool) → (a && b) ≡ true → (a ≡ true) × (b ≡ true)
and_parts true b e = (refl, e)
and_parts false true e = (e, refl)
and_parts false false e = (e, e)

pub differs : (a b : ℕ) → (a ≡ b → ⊥) → not (eqb a b) ≡ true
differs a b h = ap not (ne_eqb a b h)

pub agrees : (a b : ℕ) → a ≡ b → not (eqb a b) ≡ false
agrees a b e = ap not (eq-eqb a b e)

pub is_less : (a b : ℕ) → a < b → ltb a b ≡ true
is_less = lt-ltb

pub not_less : (a b : ℕ) → b ≤ a → ltb a b ≡ false
not_less = le-ltb

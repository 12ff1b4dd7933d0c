-- One key after the other.
use mathlib.Core.Path.{◌≡◌}
use Prim.Native.Nat.{ℕ, ◌<◌}
use Rattle.matching.specs.Inner.Classes.{key_digit}
use Rattle.matching.proofs.Keys.flat.Given as goal

abbrev pub invariant-loop-g : goal.invariant-loop-g
invariant-loop-g l = (f : ℕ) → f < l.g → key_digit l.rows l.self.k l.self.w l.self.first l.j f ≡ 0

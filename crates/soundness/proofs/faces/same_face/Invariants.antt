-- Two faces are compared vertex by vertex: those passed are the same. Assumes nothing.
use mathlib.Core.Path.{◌≡◌}
use Prim.Native.Nat.{ℕ, ◌≤◌, ◌<◌}
use lib.ListN.{get_or}
use Rattle.soundness.specs.Inner.Certified.{face_in}
use Rattle.soundness.proofs.faces.same_face.Given as goal

abbrev pub invariant-loop-j : goal.invariant-loop-j
invariant-loop-j l =
    (l.j ≤ l.d) × ((i : ℕ) → i < l.j → get_or (face_in l.d l.table l.p l.a) i 0 ≡ get_or (face_in l.d l.table l.q l.b) i 0)

-- Bounds on the lengths of lines.
--   points-length         a line's rest of k coordinates has at most 26 k + 1
--   vertex-length         a vertex line of at most 8 axes has at most 256
--   vertices-length       the vertex lines have at most 256 each
--   first-sum             the length of the first line
--   lines_length          n lines of at most k bytes have at most n k
-- Assumes nothing.
use mathlib.Core.Path.{◌≡◌}
use mathlib.Core.List.{List, [], ◌∷◌, map}
use Prim.Native.Nat.{ℕ, zero, suc, ◌+◌, ◌*◌, ◌≤◌}
use native.Mathlib.Nat.{suc-mul, min-le_left}
use native.Mathlib.Omega.{arith}
use lib.Ieee.{Float}
use lib.ListN.{length, drop, length-append, length-take}
use Rattle.words.specs.Records.{tabulate, part, concat}
use Rattle.printing.specs.Decimal.{digits, coordinate}
use Rattle.printing.specs.Fields.{rest_of_line}
use Rattle.printing.proofs.Digits.{digits-length}
use Rattle.printing.proofs.Bounds.{coordinate-length}
use Rattle.listing.specs.Lines.{first_line, vertex_line, vertex_lines}

pub points-length : (xs : List Float) → length (rest_of_line (map coordinate xs)) ≤ 26 * length xs + 1
points-length [] = omega arith
points-length (x ∷ xs) = omega (arith, length-append (coordinate x) (rest_of_line (map coordinate xs)), coordinate-length x, points-length xs)

pub vertex-length : (n : ℕ) (ps : List Float) (p : ℕ) → n ≤ 8 → length (vertex_line n ps p) ≤ 256
unfolding vertex_line
vertex-length n ps p h =
    let xs = part n p ps in
    omega (
      arith,
      length-append (digits p) (rest_of_line (map coordinate xs)),
      digits-length p,
      points-length xs,
      length-take n (drop (p * n) ps),
      min-le_left n (length (drop (p * n) ps)),
    )

pub lines_length : (k n : ℕ) (f : ℕ → List ℕ) → ((p : ℕ) → length (f p) ≤ k) → length (concat (tabulate n f)) ≤ n * k
lines_length k zero f h = omega arith
lines_length k (suc n) f h =
    omega (arith, length-append (f 0) (concat (tabulate n (λ i. f (suc i)))), h 0, lines_length k n (λ i. f (suc i)) (λ p. h (suc p)), suc-mul n k)

pub vertices-length : (n v : ℕ) (ps : List Float) → n ≤ 8 → length (vertex_lines n v ps) ≤ v * 256
vertices-length n v ps h = lines_length 256 v (vertex_line n ps) (λ p. vertex-length n ps p h)

pub first-sum : (d n v f : ℕ) → length (first_line d n v f) ≡ 8 + length (digits d) + length (digits n) + length (digits v) + length (digits f)
unfolding first_line
first-sum d n v f =
    omega (
      arith,
      length-append (digits d) (rest_of_line (digits n ∷ digits v ∷ digits f ∷ [])),
      length-append (digits n) (rest_of_line (digits v ∷ digits f ∷ [])),
      length-append (digits v) (rest_of_line (digits f ∷ [])),
      length-append (digits f) (10 ∷ []),
    )

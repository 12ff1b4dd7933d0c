-- Small solids, computed: what is accepted, and the words of its table.
use mathlib.Core.Path.{◌≡◌, refl}
use mathlib.Core.Bool.{true, false}
use mathlib.Core.List.{List, [], ◌∷◌}
use Prim.Native.Nat.{ℕ}
use lib.ListN.{take, drop}
use Rattle.solids.specs.Accept.{Listed}
use Rattle.solids.specs.Table.{table_of_list, sound}
use Rattle.solids.specs.Uploaded.{uploaded_of_list}
use Rattle.solids.proofs.Computing.{computing}
use Rattle.solids.proofs.FirstOfTwo.{told}

-- one segment with both signs, of two materials
pub one-cell-twice : told 1 2 2 (0 ∷ 0 ∷ 0 ∷ 1 ∷ 1 ∷ 1 ∷ 0 ∷ 1 ∷ []) ≡ 9
unfolding computing
one-cell-twice = refl

-- two segments in a row, of two materials
pub two_in_a_row : told 1 3 2 (0 ∷ 0 ∷ 0 ∷ 1 ∷ 0 ∷ 7 ∷ 1 ∷ 2 ∷ []) ≡ 0
unfolding computing
two_in_a_row = refl

abbrev table : ℕ → ℕ → ℕ → List ℕ → List ℕ
table d v s words = table_of_list (record { d = d; v = v; s = s; words = words })

-- each of them is the other's neighbour at the vertex that they share
pub neighbours : table 1 3 2 (0 ∷ 0 ∷ 0 ∷ 1 ∷ 0 ∷ 7 ∷ 1 ∷ 2 ∷ []) ≡ 0 ∷ 0 ∷ 0 ∷ 1 ∷ 1 ∷ 65535 ∷ 0 ∷ 7 ∷ 1 ∷ 2 ∷ 65535 ∷ 0 ∷ []
unfolding computing
neighbours = refl

-- a segment from vertex 1 to vertex 0
pub put_in_order : table 1 2 1 (0 ∷ 5 ∷ 1 ∷ 0 ∷ []) ≡ 1 ∷ 5 ∷ 0 ∷ 1 ∷ 65535 ∷ 65535 ∷ []
unfolding computing
put_in_order = refl

pub point-sound : sound 0 1 1 (0 ∷ 999 ∷ 0 ∷ 65535 ∷ []) ≡ true
unfolding computing
point-sound = refl

-- a point of material 1,000
pub material-unsound : sound 0 1 1 (0 ∷ 1000 ∷ 0 ∷ 65535 ∷ []) ≡ false
unfolding computing
material-unsound = refl

-- a point that is its own neighbour
pub point-unsound : sound 0 1 1 (0 ∷ 0 ∷ 0 ∷ 0 ∷ []) ≡ false
unfolding computing
point-unsound = refl

-- the triangle (2 0 1) and its neighbours at 0 1, at 1 2 and at 0 2, which lack vertices 2, 0 and 1
abbrev pub star : Listed
star =
    record {
      d = 2;
      v = 6;
      s = 4;
      words = 0 ∷ 0 ∷ 2 ∷ 0 ∷ 1 ∷ 1 ∷ 0 ∷ 0 ∷ 1 ∷ 3 ∷ 1 ∷ 0 ∷ 1 ∷ 2 ∷ 4 ∷ 0 ∷ 0 ∷ 0 ∷ 2 ∷ 5 ∷ [];
    }

pub uploaded_order : take 3 (uploaded_of_list star) ≡ 1 ∷ 2 ∷ 3 ∷ []
unfolding computing
uploaded_order = refl

pub ascending-order : take 3 (drop 5 (table_of_list star)) ≡ 2 ∷ 3 ∷ 1 ∷ []
unfolding computing
ascending-order = refl

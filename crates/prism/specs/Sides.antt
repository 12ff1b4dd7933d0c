-- Side pairs. A cell p of dimension d has, over its face a, d sides among its swept cells: pairs (cell k, position j). Paper, section 4.
-- Places count from 0 here: the paper's l-th pair is at place l - 1.
--   side_pair d a l        the pair at place l over face a: (l, a - l) while l is below a, (l + 1, d + a - l) afterwards
--   side_cell, side_position    its two parts
--   side_face d k j        the face over which position j of cell k stands: that vertex it lacks
--   side_place d k j       its place among the sides over that face
-- The step rule tells each pair from the one before; that the pairs obey it is a law (proofs/SideLaws).
--   first_side d a         the pair at place 0
--   next_side d x          the pair after x
use Rattle.std.specs.Prelude.{cond, ℕ, zero, suc, ◌+◌, ◌-◌, eqb, leb, ltb}

pub record Side : Type 0 where
  pub cell : ℕ
  pub position : ℕ

abbrev pub side : ℕ → ℕ → Side
side k j = record { cell = k; position = j }

abbrev pub side_cell : ℕ → ℕ → ℕ
side_cell a l = cond (ltb l a) l (suc l)

abbrev pub side_position : ℕ → ℕ → ℕ → ℕ
side_position d a l = cond (ltb l a) (a - l) (d + a - l)

abbrev pub side_pair : ℕ → ℕ → ℕ → Side
side_pair d a l = side (side_cell a l) (side_position d a l)

abbrev pub side_face : ℕ → ℕ → ℕ → ℕ
side_face d k j = cond (leb (k + j) d) (k + j) (k + j - suc d)

abbrev pub side_place : ℕ → ℕ → ℕ → ℕ
side_place d k j = cond (leb (k + j) d) k (k - 1)

-- (cell 1, position d) for face 0, else (cell 0, position a)
abbrev pub first_side : ℕ → ℕ → Side
first_side d zero = side 1 d
first_side d (suc a) = side 0 (suc a)

-- after (k, j) comes (k + 2, d) if j = 1, else (k + 1, j - 1)
abbrev pub next_side : ℕ → Side → Side
next_side d x = cond (eqb x.position 1) (side (x.cell + 2) d) (side (x.cell + 1) (x.position - 1))

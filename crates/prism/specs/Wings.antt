-- The wings of swept cells, from the wings of the solid. Paper, section 4.
--   cell_number d s i p k      the number of cell k over cell p at level i
--   back_to wing p q d         the position b at which wing b of q is p
--   swept_wing .. i p k j      wing j of cell k over cell p at level i, in a sweep of h steps of s cells
-- `wing p a` is wing a of cell p of the solid.
use Rattle.std.specs.Prelude.{cond, ℕ, zero, suc, ◌+◌, ◌*◌, ◌-◌, eqb, ltb}
use Rattle.records.specs.Layout.{empty}
use Rattle.prism.specs.Sides.{side_pair, side_face, side_place}

abbrev pub cell_number : ℕ → ℕ → ℕ → ℕ → ℕ → ℕ
cell_number d s i p k = k + p * suc d + i * (s * suc d)

-- the first b, of n from b on, with wing q b = p
abbrev pub back_from : (ℕ → ℕ → ℕ) → ℕ → ℕ → ℕ → ℕ → ℕ
back_from wing p q b zero = b
back_from wing p q b (suc n) = let r = back_from wing p q (suc b) n in cond (eqb (wing q b) p) b r

abbrev pub back_to : (ℕ → ℕ → ℕ) → ℕ → ℕ → ℕ → ℕ
back_to wing p q d = back_from wing p q 0 (suc d)

module _ (d s h : ℕ) (wing : ℕ → ℕ → ℕ) where
  -- position 0: the next cell over p, or the first of the next level
  abbrev pub wing_above : ℕ → ℕ → ℕ → ℕ
  wing_above i p k = cond (ltb k d) (cell_number d s i p (suc k)) (cond (eqb (suc i) h) empty (cell_number d s (suc i) p 0))

  -- position d + 1: the cell before, or the last of the level below
  abbrev pub wing_below : ℕ → ℕ → ℕ → ℕ
  wing_below i p k = cond (eqb k 0) (cond (eqb i 0) empty (cell_number d s (i - 1) p d)) (cell_number d s i p (k - 1))

  -- the side at place l over face a of p: with q across a and p across b of q, it meets the side at place l over b
  abbrev pub wing_aside : ℕ → ℕ → ℕ → ℕ → ℕ
  wing_aside i p a l = cond (eqb (wing p a) empty) empty (cell_number d s i (wing p a) (side_pair d (back_to wing p (wing p a) d) l).cell)

  abbrev pub swept_wing : ℕ → ℕ → ℕ → ℕ → ℕ
  swept_wing i p k j =
      cond (eqb j 0) (wing_above i p k) (cond (eqb j (suc d)) (wing_below i p k) (wing_aside i p (side_face d k j) (side_place d k j)))

-- Pairs of small solids, on which the third term is tried.
--   sitting s cells       a list of s cells as words, with buffers that have room enough
--   circle, reversed      three segments in a ring, and the same with each sign turned over: both are closed
--   inlaid                the ring with its first segment of another material
--   points, exchanged     two points, listed in two orders
use Rattle.std.specs.Prelude.{List, [], ◌∷◌, ℕ, replicate}
use Rattle.third_term.specs.ThirdTerm.{Sitting}

abbrev pub sitting : ℕ → List ℕ → Sitting
sitting s cells = record { s = s; cells = cells; table_buffer = replicate 96 0; uploaded_buffer = replicate 96 0; swept_buffer = replicate 96 0 }

-- +01 +12 -02
abbrev pub circle : Sitting
circle = sitting 3 (0 ∷ 0 ∷ 0 ∷ 1 ∷ 0 ∷ 0 ∷ 1 ∷ 2 ∷ 1 ∷ 0 ∷ 0 ∷ 2 ∷ [])

-- -01 -12 +02
abbrev pub reversed : Sitting
reversed = sitting 3 (1 ∷ 0 ∷ 0 ∷ 1 ∷ 1 ∷ 0 ∷ 1 ∷ 2 ∷ 0 ∷ 0 ∷ 0 ∷ 2 ∷ [])

-- +01 of material 7, +12 -02
abbrev pub inlaid : Sitting
inlaid = sitting 3 (0 ∷ 7 ∷ 0 ∷ 1 ∷ 0 ∷ 0 ∷ 1 ∷ 2 ∷ 1 ∷ 0 ∷ 0 ∷ 2 ∷ [])

-- +0 +1
abbrev pub points : Sitting
points = sitting 2 (0 ∷ 0 ∷ 0 ∷ 0 ∷ 0 ∷ 1 ∷ [])

-- +1 +0
abbrev pub exchanged : Sitting
exchanged = sitting 2 (0 ∷ 0 ∷ 1 ∷ 0 ∷ 0 ∷ 0 ∷ [])

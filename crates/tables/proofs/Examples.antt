-- A row of eight, computed.
use mathlib.Core.Path.{◌≡◌, refl}
use mathlib.Core.List.{[], ◌∷◌}
use Rattle.tables.specs.Inner.Held.{row_of_eight}

pub six_unused : row_of_eight (3 ∷ 4 ∷ []) ≡ 3 ∷ 4 ∷ 0 ∷ 0 ∷ 0 ∷ 0 ∷ 0 ∷ 0 ∷ []
six_unused = refl

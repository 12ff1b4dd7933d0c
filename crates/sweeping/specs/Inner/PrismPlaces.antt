-- Where words stand in the records over one cell.
--   side_at d a l              the side at place l over face a
--   HeadRight .. k            the words of cell k that come from no face and are no vertices are right
--   HeadOf .. i p x           x has what these share over cell p at level i
use Rattle.std.specs.Prelude.{◌≡◌, ℕ, suc, ◌+◌, ◌*◌, List}
use Rattle.records.specs.Inner.Inside.{sign_in, material_in}
use Rattle.records.specs.Layout.{record_size, material_place, wing_place}
use Rattle.prism.specs.Sides.{side_cell, side_position}
use Rattle.prism.specs.Wings.{cell_number, wing_above, wing_below}
use Rattle.sweeping.specs.Inner.Filling.{Right}
use Rattle.sweeping.specs.declared.heads.Head.{Head}

abbrev pub side_at : ℕ → ℕ → ℕ → ℕ
side_at d a l = side_cell a l * record_size (suc d) + wing_place (suc d) (side_position d a l)

pub record HeadRight (d at : ℕ) (xs buf : List ℕ) (k : ℕ) : Type 0 where
  pub sign : Right at xs buf (k * record_size (suc d) + 0)
  pub material : Right at xs buf (k * record_size (suc d) + material_place)
  pub above : Right at xs buf (k * record_size (suc d) + wing_place (suc d) 0)
  pub below : Right at xs buf (k * record_size (suc d) + wing_place (suc d) (suc d))

pub record HeadOf (d s h : ℕ) (ws : List ℕ) (i p : ℕ) (x : Head) : Type 0 where
  pub sign : x.sign ≡ sign_in d ws p
  pub material : x.material ≡ material_in d ws p
  pub first : x.first ≡ cell_number d s i p 0
  pub top : x.top ≡ wing_above d s h (λ q a. 0) i p d
  pub bottom : x.bottom ≡ wing_below d s h (λ q a. 0) i p 0

-- What the words of a table show of it, record by record, so that it is sound. A place is a position a of a cell p.
--   row_in d ws p          the vertices of cell p
--   face_in d ws p a       its face at position a, the row alone
--   Meets d ws p a q b    face a of p is face b of q: each cell is the other's wing there, with another vertex left out and the opposite sign
--   Leads d ws p a        the place stands for its face: its wing is empty or a later cell
--   Fine d v ws p         the record of cell p but for its wings: a sign word, a material, ascending vertices below v
--   Linked d s ws p a     a leading place has no wing, or meets one; any other is met by one
--   Apart d s ws          no two leading places have the same face
use Rattle.std.specs.Prelude.{◌≡◌, List, ℕ, suc, ◌≤◌, ◌<◌}
use Rattle.rules.specs.Limits.{max_material}
use Rattle.simplex.specs.Cell.{Row}
use Rattle.simplex.specs.Faces.{without}
use Rattle.simplex.specs.SignWords.{turned_sign}
use Rattle.records.specs.Layout.{empty, entry_in}
use Rattle.records.specs.Inner.Inside.{sign_in, material_in, vertex_in, wing_in}

abbrev pub row_in : ℕ → List ℕ → ℕ → Row
row_in d ws p = (entry_in d ws p).cell.row

abbrev pub face_in : ℕ → List ℕ → ℕ → ℕ → Row
face_in d ws p a = without a (row_in d ws p)

pub record Meets (d : ℕ) (ws : List ℕ) (p a q b : ℕ) : Type 0 where
  pub there : wing_in d ws p a ≡ q
  pub back : wing_in d ws q b ≡ p
  pub face : face_in d ws p a ≡ face_in d ws q b
  pub apex : vertex_in d ws p a ≡ vertex_in d ws q b → ⊥
  pub opposite : turned_sign (sign_in d ws p) a ≡ turned_sign (sign_in d ws q) b → ⊥

abbrev pub Leads : ℕ → List ℕ → ℕ → ℕ → Type 0
Leads d ws p a = p < wing_in d ws p a

pub record Fine (d v : ℕ) (ws : List ℕ) (p : ℕ) : Type 0 where
  pub sign : sign_in d ws p ≤ 1
  pub material : material_in d ws p ≤ max_material
  pub low : vertex_in d ws p d < v
  pub up : (j : ℕ) → j < d → vertex_in d ws p j < vertex_in d ws p (suc j)

pub record Linked (d s : ℕ) (ws : List ℕ) (p a : ℕ) : Type 0 where
  pub leading : Leads d ws p a → (wing_in d ws p a ≡ empty → ⊥) → (wing_in d ws p a < s) × ((b : ℕ) × (b ≤ d) × Meets d ws p a (wing_in d ws p a) b)
  pub following : wing_in d ws p a ≤ p → (q : ℕ) × (b : ℕ) × (q < p) × (b ≤ d) × Meets d ws q b p a

abbrev pub Apart : ℕ → ℕ → List ℕ → Type 0
Apart d s ws = (p a q b : ℕ) → p < s → a ≤ d → q < s → b ≤ d → Leads d ws p a → Leads d ws q b →
    face_in d ws p a ≡ face_in d ws q b → (p ≡ q) × (a ≡ b)

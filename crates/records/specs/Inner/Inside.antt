-- What the readers of a table are told, and what they read.
--   Table d s ws          the words are s records of dimension d, numbers within the limits
--   Inside d s p ws       the words are s records of dimension d, and p is one of them
--   sign_in d ws p         the sign word of record p; material_in d ws p its material
--   vertex_in d ws p k     its vertex k; wing_in d ws p a its wing a
use Rattle.std.specs.Prelude.{◌≡◌, List, ℕ, ◌≤◌, ◌<◌, length, get_or}
use Rattle.words.specs.Records.{part}
use Rattle.rules.specs.Limits.{max_dimension, max_cells}
use Rattle.records.specs.Layout.{empty, record_size, table_length, entry_in}

pub record Table (d s : ℕ) (ws : List ℕ) : Type 0 where
  pub dimension : d ≤ max_dimension
  pub cells : s ≤ max_cells
  pub long : length ws ≡ table_length d s

pub record Inside (d s p : ℕ) (ws : List ℕ) : Type 0 where
  pub dimension : d ≤ max_dimension
  pub long : length ws ≡ table_length d s
  pub number : p < s

abbrev pub sign_in : ℕ → List ℕ → ℕ → ℕ
sign_in d ws p = get_or (part (record_size d) p ws) 0 0

abbrev pub material_in : ℕ → List ℕ → ℕ → ℕ
material_in d ws p = (entry_in d ws p).cell.material

abbrev pub vertex_in : ℕ → List ℕ → ℕ → ℕ → ℕ
vertex_in d ws p k = get_or (entry_in d ws p).cell.row k 0

abbrev pub wing_in : ℕ → List ℕ → ℕ → ℕ → ℕ
wing_in d ws p a = get_or (entry_in d ws p).wings a empty

-- Levels from those below.
--   prism_size d           words of the records over one cell
--   Ahead w x r           r goes on from w and x: it is x again, or as much more, where that is a word
--   Raised n at old new   so do n words behind the n from `at` on and the n behind those
--   step_of d v c j        how much more word j of a record is at the next level: nothing, v for a vertex, c for a wing
--   Stepped x t r         r is x where t is 0 or x the empty wing, else t more, where that is a word
--   SteppedTo n from to ts old new    so are n words from `to` on, from those from `from` on
--   SteppedLevel d v c n m old new    so are m records of the second level of n words, from those of the first
use Rattle.std.specs.Prelude.{◌≡◌, ℕ, suc, ◌+◌, ◌-◌, ◌*◌, ◌<◌, ◌≤◌, cond, List, nat_lt, slice_index}
use Rattle.records.specs.Layout.{empty, record_size, vertex_place, wing_place}
use Rattle.sweeping.specs.Inner.Filling.{Outside}

abbrev pub prism_size : ℕ → ℕ
prism_size d = (d + 1) * record_size (suc d)

pub record Ahead (w x r : ℕ) : Type 0 where
  pub still : w ≡ x → r ≡ x
  pub goes : w ≤ x → x + (x - w) ≤ 65535 → r ≡ x + (x - w)

pub record Raised (n at : ℕ) (old new : List ℕ) : Type 0 where
  pub outside : Outside (at + n + n) n old new
  pub ahead : (e : ℕ) → e < n → Ahead (slice_index old (at + e)) (slice_index old (at + n + e)) (slice_index new (at + n + n + e))

abbrev pub step_of : ℕ → ℕ → ℕ → ℕ → ℕ
step_of d v c j = cond (nat_lt j (vertex_place 0)) 0 (cond (nat_lt j (wing_place (suc d) 0)) v c)

pub record Stepped (x t r : ℕ) : Type 0 where
  pub still : t ≡ 0 → r ≡ x
  pub none : x ≡ empty → r ≡ x
  pub goes : x < empty → x + t ≤ 65535 → r ≡ x + t

pub record SteppedTo (n from to : ℕ) (ts old new : List ℕ) : Type 0 where
  pub outside : Outside to n old new
  pub steps : (j : ℕ) → j < n → Stepped (slice_index old (from + j)) (slice_index ts j) (slice_index new (to + j))

pub record SteppedLevel (d v c n m : ℕ) (old new : List ℕ) : Type 0 where
  pub outside : Outside n n old new
  pub steps : (q j : ℕ) → q < m → j < record_size (suc d) →
      Stepped (slice_index old (q * record_size (suc d) + j)) (step_of d v c j) (slice_index new (n + (q * record_size (suc d) + j)))

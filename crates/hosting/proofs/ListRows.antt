-- The call list on bytes, row by row.
--   list_2, list_3, list_4    a refusal: the answer, and the lent bytes as they were
--   list_right                the lengths are right: what list answers on what is decoded
--   list_needs, list_small    what the tests say of the numbers and the lengths
--   list_decodes              list on what is decoded
-- Assumes nothing.
use mathlib.Core.Path.{◌≡◌, refl, sym}
use mathlib.Core.Bool.{Bool, true, false, not, ◌&&◌}
use mathlib.Core.List.{List}
use Prim.Native.Nat.{ℕ, ◌*◌, ◌≤◌}
use native.Mathlib.Nat.{mul-le-mul}
use native.Mathlib.Omega.{arith}
use lib.Dec.{eqb}
use lib.Ieee.{Float}
use lib.ListN.{length}
use borrow.Author.Tests.{eq-eqb, eqb-true, not-false}
use Rattle.words.specs.Bytes.{words16}
use Rattle.words.specs.Records.{all_of}
use Rattle.words.proofs.Bytes.{words_count}
use Rattle.rules.specs.Calls.{Outcome, refused}
use Rattle.rules.specs.Limits.{max_dimension, max_axes, max_vertices, max_cells}
use Rattle.rules.proofs.InLimits.{list_limits_are}
use Rattle.rules.proofs.Tests.{and_parts}
use Rattle.records.specs.Layout.{record_size, table_length}
use Rattle.points.specs.Step.{in_range}
use Rattle.list.specs.List.{numbers_fit, list_input, list_rules, list_outcome, list_buffer}
use Rattle.hosting.specs.Floats.{floats64}
use Rattle.hosting.specs.Lists.{host_list_input, host_list_outcome, host_list_buffer}
use Rattle.hosting.specs.Inner.Rooms.{table_room, float_room}
use Rattle.hosting.proofs.FloatLaws.{floats_length}

module _ (k d n v s : ℕ) where
  pub list_needs : not (numbers_fit k d n v s) ≡ false → (d ≤ max_dimension) × (n ≤ max_axes) × (v ≤ max_vertices) × (s ≤ max_cells)
  list_needs a = let l = list_limits_are k d n v s a in (l.dimension, l.axes, l.vertices, l.cells)

  module _ (table points : List ℕ) where
    abbrev pub lengths : Bool
    lengths = eqb (length table) (table_length d s * 2) && eqb (length points) (v * n * 8)

    right : not lengths ≡ false → (length table ≡ table_length d s * 2) × (length points ≡ v * n * 8)
    right b =
        let both = and_parts (eqb (length table) (table_length d s * 2)) (eqb (length points) (v * n * 8)) (not-false lengths b) in
        (eqb-true _ _ both.0, eqb-true _ _ both.1)

    pub list_small : not (numbers_fit k d n v s) ≡ false → not lengths ≡ false → not (all_of in_range (floats64 points)) ≡ false →
        (length table ≤ table_room * 2) × (length points ≤ float_room * 8) × (all_of in_range (floats64 points) ≡ true)
    list_small a b c =
        let l = list_needs a in
        let words = mul-le-mul {m₁ = record_size d} {m₂ = record_size max_dimension} l.3 (omega arith) in
        (omega (arith, (right b).0, words), omega (arith, (right b).1, mul-le-mul l.2 l.1), not-false _ c)

    decoded : not lengths ≡ false → (eqb (length (words16 table)) (table_length d s) && eqb (length (floats64 points)) (v * n)) ≡ true
    decoded b =
        let r = right b in
        rw (
          eq-eqb (length (words16 table)) (table_length d s) (omega (arith, words_count table)),
          eq-eqb (length (floats64 points)) (v * n) (omega (arith, floats_length points)),
        ) refl

module _ (k d n v s : ℕ) (table points out : List ℕ) where
  abbrev Refuses : ℕ → Type 0
  Refuses i = (refused i ≡ host_list_outcome k d n v s table points out) × (out ≡ host_list_buffer k d n v s table points out)

  pub list_2 : not (numbers_fit k d n v s) ≡ true → Refuses 2
  unfolding host_list_outcome host_list_buffer
  list_2 a = rw a (refl, refl)

  module _ (a : not (numbers_fit k d n v s) ≡ false) where
    pub list_3 : not (lengths k d n v s table points) ≡ true → Refuses 3
    unfolding host_list_outcome host_list_buffer
    list_3 b = rw (a, b) (refl, refl)

    module _ (b : not (lengths k d n v s table points) ≡ false) where
      pub list_4 : not (all_of in_range (floats64 points)) ≡ true → Refuses 4
      unfolding host_list_outcome host_list_buffer list_outcome list_rules
      list_4 c = rw (a, b, decoded k d n v s table points b, c) (refl, refl)

      pub list_right : (o : Outcome ℕ) (w : List ℕ) →
          (o ≡ list_outcome (host_list_input k d n v s table points out)) × (w ≡ list_buffer (host_list_input k d n v s table points out) out) →
          (o ≡ host_list_outcome k d n v s table points out) × (w ≡ host_list_buffer k d n v s table points out)
      unfolding host_list_outcome host_list_buffer list_buffer
      list_right o w e = rw (a, b) e

  -- words and floats that were decoded to the fronts of two arrays
  pub list_decodes : (o : Outcome ℕ) (w ws : List ℕ) (fs : List Float) →
      (o ≡ list_outcome (list_input k d n v s ws fs (length out))) × (w ≡ list_buffer (list_input k d n v s ws fs (length out)) out) →
      ws ≡ words16 table → fs ≡ floats64 points →
      (o ≡ list_outcome (host_list_input k d n v s table points out)) × (w ≡ list_buffer (host_list_input k d n v s table points out) out)
  list_decodes o w ws fs e a b = rw (sym a, sym b) e

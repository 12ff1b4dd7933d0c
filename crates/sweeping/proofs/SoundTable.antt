-- A sound table is the table of its own cells, which are a solid: so its vertices are below v, its wings below s, and they lead back.
--   sound-solid           the solid of a sound table
--   sound_ready           what the writer of a sweep goes by
-- Assumes nothing.
use Rattle.std.proofs.Common.{◌≡◌, ℕ, zero, suc, ◌*◌, ◌<◌, ◌≤◌, true, not, ◌&&◌, eqb, List, [], ◌∷◌, length, get_or, take, sym, ap, ◌∙◌}
use Rattle.std.proofs.Common.{le_of_suc-le-suc, not-suc-le-zero, arith, length-take-le, eqb-true}
use Rattle.words.specs.Records.{part}
use Rattle.rules.specs.Limits.{max_source, max_vertices, max_cells, max_dimension, swept_vertices}
use Rattle.rules.specs.Shapes.{shape_ok}
use Rattle.rules.proofs.InLimits.{limits_are}
use Rattle.rules.proofs.Tests.{and_parts}
use Rattle.simplex.specs.Cell.{Cell, Row, same_row}
use Rattle.simplex.proofs.Each.{All}
use Rattle.simplex.proofs.Rows.{Below, Good, Long, same_row_true}
use Rattle.solids.specs.Accept.{Listed, acceptable, solid_of}
use Rattle.records.specs.Layout.{empty, Entry, entries_of, list_size, own_list, record_size, table_length, table_words}
use Rattle.solids.specs.Table.{entry_at, own_listed, own_table, sound, table_of, table_of_list, wing_at}
use Rattle.solids.proofs.Accepted.{accepted-solid, solid-length}
use Rattle.solids.proofs.OwnTable.{entries_of_words}
use Rattle.solids.proofs.Solid.{Solid, all_at, row_at}
use Rattle.solids.proofs.Symmetric.{wing, wings_symmetric}
use Rattle.solids.proofs.Tables.{table_at, table_wing}
use Rattle.prism.specs.Swept.{swept_cells}
use Rattle.prism.specs.Wings.{back_to}
use Rattle.sweeping.specs.Inner.SweptWords.{solid_entries, solid_vertex, solid_wing, Ready}
use Rattle.words.proofs.Records.{length_tabulated}
use Rattle.prism.proofs.SweptWings.{back_is}
use Rattle.records.proofs.Parts.{part-long}

-- the entries ws are those of the table of the cells of a solid
pub record TableOf (d v s : ℕ) (ws : List ℕ) (cs : List Cell) : Type 0 where
  pub solid : Solid v cs
  pub rows : All (Long (suc d)) cs
  pub count : length cs ≡ s
  pub small : s ≤ max_cells
  pub long : length ws ≡ table_length d s
  pub entries : entries_of d s ws ≡ table_of cs

pub cells_in : ℕ → ℕ → ℕ → List ℕ → List Cell
cells_in d v s ws = solid_of (own_listed d v s ws)

own-long : (d s : ℕ) (ws : List ℕ) → length ws ≡ table_length d s → length (own_list d s ws) ≡ s * list_size d
own-long d s ws e =
    length_tabulated (list_size d) s (λ p. take (list_size d) (part (record_size d) p ws))
    (λ p l. length-take-le (list_size d) (part (record_size d) p ws) (omega (arith, part-long (record_size d) p s ws l e)))

count_is : (d v s : ℕ) (ws : List ℕ) → length (cells_in d v s ws) ≡ s
unfolding cells_in
count_is d v s ws = solid-length (own_listed d v s ws)

pub sound-solid : (d v s : ℕ) (ws : List ℕ) → sound d v s ws ≡ true → TableOf d v s ws (cells_in d v s ws)
unfolding sound own_table table_of_list cells_in
sound-solid d v s ws e =
    record { solid = solid.0; rows = solid.1; count = count_is d v s ws; small = cells_small; long = long; entries = entries }
  where
    l : Listed
    l = own_listed d v s ws

    cs : List Cell
    cs = solid_of l

    parts : (shape_ok max_dimension d v s ≡ true)
        × ((eqb (length ws) (table_length d s) && (acceptable l && same_row ws (table_words (table_of cs)))) ≡ true)
    parts = and_parts (shape_ok max_dimension d v s) (eqb (length ws) (table_length d s) && (acceptable l && same_row ws (table_words (table_of cs))))
        e

    rest : (eqb (length ws) (table_length d s) ≡ true) × ((acceptable l && same_row ws (table_words (table_of cs))) ≡ true)
    rest = and_parts (eqb (length ws) (table_length d s)) (acceptable l && same_row ws (table_words (table_of cs))) parts.1

    own : (acceptable l ≡ true) × (same_row ws (table_words (table_of cs)) ≡ true)
    own = and_parts (acceptable l) (same_row ws (table_words (table_of cs))) rest.1

    long : length ws ≡ table_length d s
    long = eqb-true (length ws) (table_length d s) rest.0

    cells_small : s ≤ max_cells
    cells_small = (limits_are max_dimension d v s (ap not parts.0)).cells

    solid : Solid v cs × All (Long (suc d)) cs
    solid = accepted-solid l (own-long d s ws long) own.0

    words : ws ≡ table_words (table_of cs)
    words = same_row_true ws (table_words (table_of cs)) own.1

    entries : entries_of d s ws ≡ table_of cs
    entries =
        ap (entries_of d s) words ∙ ap (λ n. entries_of d n (table_words (table_of cs))) (sym (count_is d v s ws))
        ∙ entries_of_words d v cs solid.0 solid.1

below_at : (v : ℕ) (w : Row) (k : ℕ) → Below v w → k < length w → get_or w k 0 < v
below_at v [] k b h = absurd (not-suc-le-zero h)
below_at v (x ∷ w) zero b h = b.0
below_at v (x ∷ w) (suc k) b h = below_at v w k b.1 (le_of_suc-le-suc h)

module _ (d v s h : ℕ) (ws : List ℕ) (cs : List Cell) (t : TableOf d v s ws cs) where
  entries_are : solid_entries d s ws ≡ table_of cs
  unfolding solid_entries
  entries_are = t.entries

  wing_is : (p a : ℕ) → solid_wing d s ws p a ≡ wing v d cs t.solid t.rows p a
  wing_is p a = ap (λ es. wing_at es p a) entries_are ∙ table_wing (suc d) cs t.rows p a

  low : (p k : ℕ) → p < s → k ≤ d → solid_vertex d s ws p k < v
  low p k hp hk =
      let hp' : p < length cs = omega (arith, t.count) in
      let row = all_at (λ w. Long (suc d) w) cs t.rows p hp' in
      let e : solid_vertex d s ws p k ≡ get_or (entry_at (table_of cs) p).cell.row k 0 = ap (λ es. get_or (entry_at es p).cell.row k 0) entries_are in
      omega (
        arith,
        e,
        ap (λ (x : Entry). get_or x.cell.row k 0) (table_at cs p hp'),
        below_at v (row_at cs p) k (all_at (Good v) cs t.solid.rows p hp').1 (omega (arith, row)),
      )

  module _ (p a : ℕ) (hp : p < s) (ha : a ≤ d) (full : solid_wing d s ws p a ≡ empty → ⊥) where
    across : (b : ℕ) × (solid_wing d s ws p a < s) × (b ≤ d) × (solid_wing d s ws (solid_wing d s ws p a) b ≡ p)
        × ((m : ℕ) → m < b → solid_wing d s ws (solid_wing d s ws p a) m ≡ p → ⊥)
    across =
        let r = wings_symmetric v d cs t.solid t.rows (omega (arith, t.count, t.small))
        p a (omega (arith, t.count)) ha (λ e. full (wing_is p a ∙ e)) in
        let q-is = wing_is p a in (
          r.0,
          omega (arith, q-is, r.1, t.count),
          r.3,
          wing_is (solid_wing d s ws p a) r.0 ∙ ap (λ q. wing v d cs t.solid t.rows q r.0) q-is ∙ r.5,
          (λ m l e. r.6 m l (sym (wing_is (solid_wing d s ws p a) m ∙ ap (λ q. wing v d cs t.solid t.rows q m) q-is) ∙ e)),
        )

    back_small : back_to (solid_wing d s ws) p (solid_wing d s ws p a) d ≤ d
    back_small =
        let r = across in
        omega (arith, r.2, back_is (solid_wing d s ws) p (solid_wing d s ws p a) (suc d) 0 r.0 r.3 (omega arith) (omega (arith, r.2)) r.4)

  table_ready : d ≤ max_source → swept_vertices v h ≤ max_vertices → swept_cells d s h ≤ max_cells → Ready d v s h ws
  table_ready hd hv hc =
      record {
        dimension = hd;
        vertices = hv;
        cells = hc;
        long = t.long;
        low = low;
        across = λ p a hp ha full. (across p a hp ha full).1;
        back = back_small;
      }

pub sound_ready : (d v s h : ℕ) (ws : List ℕ) → d ≤ max_source → swept_vertices v h ≤ max_vertices →
    swept_cells d s h ≤ max_cells → sound d v s ws ≡ true → Ready d v s h ws
sound_ready d v s h ws hd hv hc e = table_ready d v s h ws (cells_in d v s ws) (sound-solid d v s ws e) hd hv hc

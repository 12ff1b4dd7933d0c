-- The sweep of a solid is a solid.
use mathlib.Core.Path.{◌≡◌, refl, sym, subst}
use mathlib.Core.Bool.{true, cond}
use mathlib.Core.List.{List, [], ◌∷◌, ◌++◌}
use Prim.Native.Nat.{ℕ, zero, suc, ◌*◌, ◌≤◌, ◌<◌}
use native.Mathlib.Omega.{arith}
use native.Mathlib.Nat.{mul-le-mul_right}
use lib.Dec.{eqb}
use lib.ListN.{length, take, drop}
use Rattle.rules.specs.Limits.{max_material}
use Rattle.simplex.specs.Cell.{Cell, Row, same_row}
use Rattle.simplex.specs.Chain.{sum_rows, total}
use Rattle.simplex.specs.Faces.{all_faces, facets}
use Rattle.simplex.specs.Sort.{Asc}
use Rattle.simplex.proofs.Cancel.{Paired}
use Rattle.simplex.proofs.Each.{All, All_both}
use Rattle.simplex.proofs.Counts.{one_and, sum_chain_le, sum_chain_sum_rows, sum_rows-append, sum_rows-cond, sum_rows_le}
use Rattle.simplex.proofs.FaceCounts.{facets_le, facets-same}
use Rattle.simplex.proofs.Rows.{Below, Filled, Good, Long, hits}
use Rattle.solids.proofs.Solid.{Solid}
use Rattle.prism.specs.Cells.{level, sweep_of}
use Rattle.prism.proofs.Decode.{level_in}
use Rattle.prism.proofs.FaceBounds.{base_in, across_levels, count_prism_bound, lower_in, raised_row, side_on, upper_in}
use Rattle.prism.proofs.FaceKinds.{across_levels_le, swept_meet}
use Rattle.prism.proofs.Level.{dimension_sign, over_prism, raised}
use Rattle.prism.proofs.Pairs.{swept-paired}
use Rattle.prism.proofs.PrismCounts.{doubled, sum_prism_count_prism}
use Rattle.prism.proofs.SweptEach.{each_sweep}
use Rattle.prism.proofs.SweptMaterials.{each-swept}
use Rattle.prism.proofs.SweptRows.{below-drop, below-take, drop_non, len_cell, prism_row}
use Rattle.prism.proofs.SweptSums.{sum_chain_level}

-- of the rows
all_sweep : (R Q : Row → Type 0) (nv h : ℕ) (cs : List Cell) → All Q cs →
    ((i : ℕ) (v : Row) → i < h → Q v → (k : ℕ) → k < length v → R (prism_row (i * nv) (suc i * nv) k v)) → All R (sweep_of nv h cs)
all_sweep R Q nv h cs a r = each_sweep (λ c. R c.row) (λ c. Q c.row) nv h cs a (λ i c. r i c.row)

-- bounds
below-append : (n : ℕ) (l r : Row) → Below n l → Below n r → Below n (l ++ r)
below-append n [] r bl br = br
below-append n (x ∷ l) r bl br = (bl.0, below-append n l r bl.1 br)

below_up : (nv i m : ℕ) (v : Row) → Below nv v → suc i ≤ m → Below (m * nv) (raised (i * nv) v)
below_up nv i m [] b h = tt
below_up nv i m (x ∷ v) b h = (omega (arith, mul-le-mul_right {m = suc i} {n = m} nv h), below_up nv i m v b.1 h)

-- ascending
pub asc_up : (m : ℕ) (v : Row) → Asc v → Asc (raised m v)
asc_up m [] s = tt
asc_up m (x ∷ []) s = tt
asc_up m (x ∷ y ∷ v) s = (omega arith, asc_up m (y ∷ v) s.1)

asc_drop : (k : ℕ) (v : Row) → Asc v → Asc (drop k v)
asc_drop zero v s = s
asc_drop (suc k) [] s = tt
asc_drop (suc k) (x ∷ []) s = asc_drop k [] tt
asc_drop (suc k) (x ∷ y ∷ v) s = asc_drop k (y ∷ v) s.1

asc_take : (k : ℕ) (v : Row) → Asc v → Asc (take k v)
asc_take zero v s = tt
asc_take (suc k) [] s = tt
asc_take (suc zero) (x ∷ v) s = tt
asc_take (suc (suc k)) (x ∷ []) s = tt
asc_take (suc (suc k)) (x ∷ y ∷ v) s = (s.0, asc_take (suc k) (y ∷ v) s.1)

abbrev From : ℕ → Row → Type 0
From n [] = Unit {0}
From n (x ∷ v) = (n ≤ x) × From n v

from_up : (m : ℕ) (v : Row) → From m (raised m v)
from_up m [] = tt
from_up m (x ∷ v) = (omega arith, from_up m v)

asc_append : (n : ℕ) (l r : Row) → Asc l → Asc r → Below n l → From n r → Asc (l ++ r)
asc_append n [] r sl sr bl fr = sr
asc_append n (x ∷ []) [] sl sr bl fr = tt
asc_append n (x ∷ []) (y ∷ r) sl sr bl fr = (omega arith, sr)
asc_append n (x ∷ y ∷ l) r sl sr bl fr = (sl.0, asc_append n (y ∷ l) r sl.1 sr bl.1 fr)

asc_cell : (nv i k : ℕ) (v : Row) → Below nv v → Asc v → Asc (prism_row (i * nv) (suc i * nv) k v)
asc_cell nv i k v b s =
    asc_append (suc i * nv) (raised (i * nv) (drop k v)) (raised (suc i * nv) (take (suc k) v))
    (asc_up (i * nv) (drop k v) (asc_drop k v s)) (asc_up (suc i * nv) (take (suc k) v) (asc_take (suc k) v s))
    (below_up nv i (suc i) (drop k v) (below-drop nv k v b) (omega arith)) (from_up (suc i * nv) (take (suc k) v))

non_cell : (lo hi k : ℕ) (v : Row) → k < length v → Filled (prism_row lo hi k v)
non_cell lo hi k v h = go (drop k v) (drop_non k v h)
  where
    go : (r : Row) → Filled r → Filled (raised lo r ++ raised hi (take (suc k) v))
    go [] n = absurd n
    go (x ∷ r) n = tt

good_cell : (nv h i k : ℕ) (v : Row) → i < h → Below nv v → k < length v → Good (suc h * nv) (prism_row (i * nv) (suc i * nv) k v)
good_cell nv h i k v l b hk = (
  non_cell (i * nv) (suc i * nv) k v hk,
  below-append (suc h * nv) (raised (i * nv) (drop k v)) (raised (suc i * nv) (take (suc k) v))
      (below_up nv i (suc h) (drop k v) (below-drop nv k v b) (omega arith))
      (below_up nv (suc i) (suc h) (take (suc k) v) (below-take nv (suc k) v b) (omega arith)),
)

-- no two swept cells are on one row
level-once : (nv i : ℕ) (w : Row) (cs : List Cell) → All (Good nv) cs →
    total w (level nv i cs) ≤ cond (eqb (level_in nv w) i) (sum_rows (side_on nv w) cs) 0
level-once nv i w cs a =
    omega (
      arith,
      sum_chain_sum_rows (hits w) true (level nv i cs),
      sum_chain_level (λ c y. hits w y) nv i true cs,
      sum_chain_le (Good nv) (over_prism (λ c y. hits w y) (i * nv) (suc i * nv)) (λ v. cond (eqb (level_in nv w) i) (side_on nv w v) 0) true cs a
          (λ c v g.
          omega (arith, sum_prism_count_prism (raised_row (hits w) (i * nv) (suc i * nv)) (dimension_sign v) c v, count_prism_bound nv i w v g.1)),
      sum_rows-cond (eqb (level_in nv w) i) (side_on nv w) cs,
    )

sweep_once : (nv h : ℕ) (w : Row) (cs : List Cell) → All (Good nv) cs →
    total w (sweep_of nv h cs) ≤ across_levels (level_in nv w) (sum_rows (side_on nv w) cs) 0 h
sweep_once nv zero w cs a = omega arith
sweep_once nv (suc h) w cs a =
    omega (arith, sum_rows-append (hits w) (sweep_of nv h cs) (level nv h cs), sweep_once nv h w cs a, level-once nv h w cs a)

pub swept_two : (nv h : ℕ) (cs : List Cell) → All (Good nv) cs → All (λ v. 2 ≤ length v) (sweep_of nv h cs)
swept_two nv h cs a =
    all_sweep (λ v. 2 ≤ length v) (Good nv) nv h cs a (λ i v l g k hk. omega (arith, len_cell (i * nv) (suc i * nv) k (length v) v refl hk))

pub swept-facets : (nv h : ℕ) (cs : List Cell) → Solid nv cs → facets (sweep_of nv h cs) ≡ all_faces (sweep_of nv h cs)
swept-facets nv h cs s = facets-same (sweep_of nv h cs) (swept_two nv h cs s.rows)

pub swept-solid : (nv h : ℕ) (cs : List Cell) → Solid nv cs → Solid (suc h * nv) (sweep_of nv h cs)
swept-solid nv h cs s = record {
  rows = all_sweep (Good (suc h * nv)) (Good nv) nv h cs s.rows (λ i v l g k hk. good_cell nv h i k v l g.1 hk);
  asc =
      all_sweep Asc (λ v. Good nv v × Asc v) nv h cs (All_both (Good nv) Asc cs s.rows s.asc)
      (λ i v l g k hk. asc_cell nv i k v g.0.1 g.1);
  distinct = λ w. omega (
    arith,
    sweep_once nv h w cs s.rows,
    across_levels_le (level_in nv w) (sum_rows (side_on nv w) cs) 0 h,
    sum_rows_le Asc (side_on nv w) (hits (base_in nv w)) cs s.asc
        (λ y _. one_and (doubled (lower_in nv w) (upper_in nv w)) (same_row y (base_in nv w))),
    s.distinct (base_in nv w),
  );
  meet = λ w. omega (arith, swept_meet nv cs s h w, facets_le w (sweep_of nv h cs));
  paired = subst Paired (sym (swept-facets nv h cs s)) (swept-paired nv cs s h);
  materials = each-swept (λ m. m ≤ max_material) nv h cs s.materials;
}

pub swept-long : (nv h n : ℕ) (cs : List Cell) → All (Long n) cs → All (Long (suc n)) (sweep_of nv h cs)
swept-long nv h n cs a = all_sweep (Long (suc n)) (Long n) nv h cs a (λ i v l g k hk. len_cell (i * nv) (suc i * nv) k n v g (omega arith))

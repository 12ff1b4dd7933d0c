-- The rows of swept cells, by number, and their faces, by position. No cells give none.
use mathlib.Core.Path.{◌≡◌, refl, sym, ap, ap₂, ◌∙◌}
use mathlib.Core.Bool.{Bool, true, false, cond}
use mathlib.Core.List.{List, [], ◌∷◌, ◌++◌, append-nil}
use Prim.Native.Nat.{ℕ, zero, suc, ◌+◌, ◌*◌, ◌-◌, ◌≤◌, ◌<◌}
use native.Mathlib.Omega.{arith}
use native.Mathlib.Nat.{suc-mul, zero-mul, mul-zero, mul-le-mul_right, le_of_suc-le-suc, not-suc-le-zero}
use native.Mathlib.Decide.{ℕ_discrete}
use lib.Dec.{ltb}
use lib.ListN.{length, take, drop, length-append, length-map, length-drop, get_or-append}
use lib.Seq.{length-take-le, drop-cons, drop-length, take-length, get_or-append-add}
use borrow.Author.Tests.{ltb-true, ltb-false}
use Rattle.words.proofs.Records.{tabulate_at, tabulate-length}
use Rattle.simplex.specs.Cell.{Cell, Row, no_cell}
use Rattle.simplex.specs.Faces.{without}
use Rattle.simplex.proofs.Each.{All}
use Rattle.simplex.proofs.Rows.{Below, Filled, Long}
use Rattle.simplex.proofs.Without.{drop-face, drop-face_ge, take-face_ge, take-face_lt, without_left, without-map, without-right}
use Rattle.solids.proofs.Solid.{row_at}
use Rattle.solids.proofs.Tables.{cell_at}
use Rattle.prism.specs.Cells.{level, prism, prism_cell, sweep_of}
use Rattle.prism.specs.Sides.{side_cell, side_position}
use Rattle.prism.specs.Swept.{swept_cells}
use Rattle.prism.proofs.Level.{raised}

-- cell k over a row
abbrev pub prism_row : ℕ → ℕ → ℕ → Row → Row
prism_row lo hi k v = raised lo (drop k v) ++ raised hi (take (suc k) v)

-- a lower vertex dropped: position j of cell k, 1 ≤ j, is cell k over face k + j
pub side-low : (lo hi k j : ℕ) (v : Row) → 1 ≤ j → k + j < length v →
    without j (prism_row lo hi k v) ≡ prism_row lo hi k (without (k + j) v)
side-low lo hi k j v p h =
    without_left j (raised lo (drop k v)) (raised hi (take (suc k) v)) (rw (length-map, length-drop) (omega arith))
    ∙ ap₂ {C = Row} (λ l r. l ++ r) (without-map (λ n. n + lo) j (drop k v) ∙ ap (raised lo) (drop-face k j v))
    (ap (raised hi) (sym (take-face_lt (k + j) (suc k) v (omega arith))))

-- an upper vertex dropped: position d + a - k of cell k + 1 is cell k over face a
pub side_high : (lo hi k a j : ℕ) (v : Row) → a ≤ k → suc k < length v → j + suc k ≡ length v + a →
    without j (prism_row lo hi (suc k) v) ≡ prism_row lo hi k (without a v)
side_high lo hi k a j v h l e =
    let p : j ≡ length (raised lo (drop (suc k) v)) + a = rw (length-map, length-drop) (omega arith) in
    rw p (without-right a (raised lo (drop (suc k) v)) (raised hi (take (suc (suc k)) v))
    ∙ ap₂ {C = Row} (λ l r. l ++ r) (ap (raised lo) (sym (drop-face_ge a k v h)))
    (without-map (λ n. n + hi) a (take (suc (suc k)) v) ∙ ap (raised hi) (sym (take-face_ge a (suc k) v (omega arith)))))

-- the inner face below cell k
abbrev pub between : ℕ → ℕ → ℕ → Row → Row
between lo hi k v = raised lo (drop k v) ++ raised hi (take k v)

pub first-face : (lo hi k : ℕ) (v : Row) → k < length v → without zero (prism_row lo hi k v) ≡ between lo hi (suc k) v
first-face lo hi k v l = rw (drop-cons v k 0 l) refl

pub last-face : (lo hi k : ℕ) (v : Row) → k < length v → without (length v) (prism_row lo hi k v) ≡ between lo hi k v
last-face lo hi k v l =
    let p : length v ≡ length (raised lo (drop k v)) + k = rw (length-map, length-drop) (omega arith) in
    ap (λ j. without j (prism_row lo hi k v)) p ∙ without-right k (raised lo (drop k v)) (raised hi (take (suc k) v))
    ∙ ap (λ r. raised lo (drop k v) ++ r) (without-map (λ n. n + hi) k (take (suc k) v)
    ∙ ap (raised hi) (sym (take-face_ge k k v (omega arith)) ∙ take-face_lt k k v (omega arith)))

pub mid_top : (lo hi : ℕ) (v : Row) → between lo hi (length v) v ≡ raised hi v
mid_top lo hi v = rw (drop-length v, take-length v) refl

pub mid_bottom : (lo hi : ℕ) (v : Row) → between lo hi zero v ≡ raised lo v
mid_bottom lo hi v = append-nil (raised lo v)

pub len_cell : (lo hi k n : ℕ) (v : Row) → length v ≡ n → k < n → length (prism_row lo hi k v) ≡ suc n
len_cell lo hi k n v l h =
    length-append (raised lo (drop k v)) (raised hi (take (suc k) v))
    ∙ rw (length-map, length-map, length-drop, length-take-le (suc k) v (omega arith)) (omega arith)

pub below-drop : (nv k : ℕ) (v : Row) → Below nv v → Below nv (drop k v)
below-drop nv zero v b = b
below-drop nv (suc k) [] b = tt
below-drop nv (suc k) (x ∷ v) b = below-drop nv k v b.1

pub below-take : (nv k : ℕ) (v : Row) → Below nv v → Below nv (take k v)
below-take nv zero v b = tt
below-take nv (suc k) [] b = tt
below-take nv (suc k) (x ∷ v) b = (b.0, below-take nv k v b.1)

pub below-face : (nv k : ℕ) (v : Row) → Below nv v → Below nv (without k v)
below-face nv k [] b = tt
below-face nv zero (x ∷ v) b = b.1
below-face nv (suc k) (x ∷ v) b = (b.0, below-face nv k v b.1)

pub drop_non : (k : ℕ) (v : Row) → k < length v → Filled (drop k v)
drop_non k [] h = absurd (not-suc-le-zero h)
drop_non zero (x ∷ v) h = tt
drop_non (suc k) (x ∷ v) h = drop_non k v (le_of_suc-le-suc h)

-- the side at place l over face a is the swept face at place l
pub pair-face : (lo hi d a l : ℕ) (v : Row) → length v ≡ suc d → a ≤ d → l < d →
    without (side_position d a l) (prism_row lo hi (side_cell a l) v) ≡ prism_row lo hi l (without a v)
pair-face lo hi d a l v e ha hl = go (ltb l a) refl
  where
    go : (t : Bool) → ltb l a ≡ t → without (cond t (a - l) (d + a - l)) (prism_row lo hi (cond t l (suc l)) v)
        ≡ prism_row lo hi l (without a v)
    go true z =
        let y : l < a = ltb-true l a z in
        side-low lo hi l (a - l) v (omega arith) (omega arith) ∙ ap (λ b. prism_row lo hi l (without b v)) (omega arith)
    go false z = let y : a ≤ l = ltb-false l a z in side_high lo hi l a (d + a - l) v y (omega arith) (omega arith)

pub pair_lt : (d a l : ℕ) → a ≤ d → l < d → (side_cell a l < suc d) × (side_position d a l < suc (suc d))
pair_lt d a l ha hl = go (ltb l a) refl
  where
    go : (t : Bool) → ltb l a ≡ t → (cond t l (suc l) < suc d) × (cond t (a - l) (d + a - l) < suc (suc d))
    go true z = omega arith
    go false z = omega (arith, ltb-false l a z)

cell_left : (xs ys : List Cell) (n : ℕ) → n < length xs → cell_at (xs ++ ys) n ≡ cell_at xs n
cell_left xs ys n h = get_or-append xs ys no_cell n h

cell-right : (xs ys : List Cell) (n m : ℕ) → m ≡ length xs + n → cell_at (xs ++ ys) m ≡ cell_at ys n
cell-right xs ys n m e = ap (cell_at (xs ++ ys)) e ∙ get_or-append-add xs ys n no_cell

module _ (nv n : ℕ) where
  len_block : (i : ℕ) (c : Cell) → Long n c.row → length (prism nv i c) ≡ n
  len_block i c l = tabulate-length (length c.row) (λ k. prism_cell nv i k c) ∙ l

  pub len_level : (i : ℕ) (cs : List Cell) → All (Long n) cs → length (level nv i cs) ≡ length cs * n
  len_level i [] a = sym (zero-mul n)
  len_level i (c ∷ cs) a =
      omega (arith, length-append (prism nv i c) (level nv i cs), len_block i c a.0, len_level i cs a.1)

  cell-level : (i p k : ℕ) (cs : List Cell) → All (Long n) cs → p < length cs →
      k < n → cell_at (level nv i cs) (k + p * n) ≡ prism_cell nv i k (cell_at cs p)
  cell-level i p k [] a hp hk = absurd (not-suc-le-zero hp)
  cell-level i zero k (c ∷ cs) a hp hk =
      ap (cell_at (level nv i (c ∷ cs))) (omega arith)
      ∙ cell_left (prism nv i c) (level nv i cs) k (omega (arith, len_block i c a.0))
      ∙ tabulate_at (length c.row) (λ k. prism_cell nv i k c) k no_cell (omega arith)
  cell-level i (suc p) k (c ∷ cs) a hp hk =
      cell-right (prism nv i c) (level nv i cs) (k + p * n) (k + suc p * n) (omega (arith, len_block i c a.0))
      ∙ cell-level i p k cs a.1 (le_of_suc-le-suc hp) hk

  pub len_sweep : (h : ℕ) (cs : List Cell) → All (Long n) cs → length (sweep_of nv h cs) ≡ h * (length cs * n)
  len_sweep zero cs a = sym (zero-mul (length cs * n))
  len_sweep (suc h) cs a =
      omega (arith, length-append (sweep_of nv h cs) (level nv h cs), len_sweep h cs a, len_level h cs a)

  cell_sweep : (h i r : ℕ) (cs : List Cell) → All (Long n) cs → i < h → r < length cs * n →
      cell_at (sweep_of nv h cs) (r + i * (length cs * n)) ≡ cell_at (level nv i cs) r
  cell_sweep zero i r cs a hi hr = absurd (not-suc-le-zero hi)
  cell_sweep (suc h) i r cs a hi hr = go (ℕ_discrete i h) (λ l. cell_sweep h i r cs a l hr)
    where
      go : Dec (i ≡ h) → (i < h → cell_at (sweep_of nv h cs) (r + i * (length cs * n)) ≡ cell_at (level nv i cs) r) →
          cell_at (sweep_of nv (suc h) cs) (r + i * (length cs * n)) ≡ cell_at (level nv i cs) r
      go (yes e) k = rw e (cell-right (sweep_of nv h cs) (level nv h cs) r (r + h * (length cs * n)) (omega (arith, len_sweep h cs a)))
      go (no z) k =
          let l : i < h = omega arith in
          cell_left (sweep_of nv h cs) (level nv h cs) (r + i * (length cs * n))
          (omega (arith, len_sweep h cs a, suc-mul i (length cs * n), mul-le-mul_right {m = suc i} {n = h} (length cs * n) l))
          ∙ k l

  -- the number of cell k over cell p at level i, among S cells
  abbrev pub number_of : ℕ → ℕ → ℕ → ℕ → ℕ
  number_of S i p k = k + p * n + i * (S * n)

  in_level : (S p k : ℕ) → p < S → k < n → k + p * n < S * n
  in_level S p k hp hk = omega (arith, mul-le-mul_right {m = suc p} {n = S} n hp)

  pub cell_num : (h i p k : ℕ) (cs : List Cell) → All (Long n) cs → i < h → p < length cs → k < n →
      cell_at (sweep_of nv h cs) (number_of (length cs) i p k) ≡ prism_cell nv i k (cell_at cs p)
  cell_num h i p k cs a hi hp hk = cell_sweep h i (k + p * n) cs a hi (in_level (length cs) p k hp hk) ∙ cell-level i p k cs a hp hk

  pub row_num : (h i p k : ℕ) (cs : List Cell) → All (Long n) cs → i < h → p < length cs → k < n →
      row_at (sweep_of nv h cs) (number_of (length cs) i p k) ≡ prism_row (i * nv) (suc i * nv) k (row_at cs p)
  row_num h i p k cs a hi hp hk = ap (λ (c : Cell). c.row) (cell_num h i p k cs a hi hp hk)

  pub num_lt : (h S i p k : ℕ) → i < h → p < S → k < n → number_of S i p k < h * (S * n)
  num_lt h S i p k hi hp hk = omega (arith, in_level S p k hp hk, mul-le-mul_right {m = suc i} {n = h} (S * n) hi)

pub none-swept : (d h : ℕ) → swept_cells d 0 h ≡ 0
none-swept d h = ap (λ n. h * n) (zero-mul (suc d)) ∙ mul-zero h

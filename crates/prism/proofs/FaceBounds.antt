-- How many faces of the swept cells lie on a row: at most what the row tells.
use mathlib.Core.Path.{◌≡◌, refl, ap, ap₂, ◌∙◌, fun_ext}
use mathlib.Core.Bool.{Bool, true, false, cond, ◌&&◌}
use mathlib.Core.List.{List, [], ◌∷◌, ◌++◌, append-nil}
use Prim.Native.Nat.{ℕ, zero, suc, ◌+◌, ◌*◌, ◌≤◌}
use native.Mathlib.Omega.{arith}
use lib.Dec.{eqb}
use Rattle.simplex.specs.Cell.{Cell, Row, filled, one, same_row}
use Rattle.simplex.specs.Chain.{sum_rows, total}
use Rattle.simplex.specs.Faces.{all_faces}
use Rattle.simplex.proofs.Each.{All}
use Rattle.simplex.proofs.Counts.{all_faces-append, count_faces, count_faces_append, count_faces_cond, count_faces_le, count_faces_map, sum_chain_le}
use Rattle.simplex.proofs.Counts.{sum_chain_sum_rows, sum_faces_count_faces, sum_rows-add, sum_rows-append, sum_rows-cond, sum_rows_le}
use Rattle.simplex.proofs.Rows.{Below, Filled, Good, hits}
use Rattle.simplex.proofs.Sums.{sum_chain_all_faces, sum_faces}
use Rattle.prism.specs.Cells.{level, sweep_of}
use Rattle.prism.proofs.Decode.{decode, level_in, lowers, uppers}
use Rattle.prism.proofs.Level.{dimension_sign, over_prism, raised}
use Rattle.prism.proofs.Prism.{OnPairs, sum_prism}
use Rattle.prism.proofs.PrismCounts.{count_id, count_first_count_inner, count_inner, count_inner_le, count_inner_one, count_inner_zero, count_prism}
use Rattle.prism.proofs.PrismCounts.{count_prism_add, count_prism_le, count_prism_one, count_prism_zero, doubled, hits_pair, rest}
use Rattle.prism.proofs.PrismCounts.{sum_prism_count_prism}
use Rattle.prism.proofs.SweptSums.{sum_chain_level}

abbrev pub raised_row : (Row → ℕ) → ℕ → ℕ → Row → Row → ℕ
raised_row g lo hi l u = g (raised lo l ++ raised hi u)

-- the faces of one cell's prism
cell-count : (g : Row → ℕ) (lo hi : ℕ) (b : Bool) (v : Row) → Filled v →
    over_prism (sum_faces (λ c y. g y)) lo hi b v
    ≡ 2 * count_inner (raised_row g lo hi) v + g (raised hi v) + g (raised lo v) + count_faces (count_prism (raised_row g lo hi)) v
cell-count g lo hi b [] n = absurd n
cell-count g lo hi b (x ∷ w) n =
    let v : Row = x ∷ w in
    let f : Row → Row → ℕ = λ l u. count_faces (λ y. raised_row g lo hi y u) l in
    let k : Row → Row → ℕ = λ l u. count_faces (λ y. raised_row g lo hi l y) u in
    omega (
      arith,
      step,
      sum_prism_count_prism (λ l u. f l u + k l u) (dimension_sign v) b v,
      count_prism_add f k v,
      count_id (raised_row g lo hi) v,
      count_first_count_inner (raised_row g lo hi) x w,
      ap g (append-nil (raised lo v)),
    )
  where
    one_cell : (c : Bool) (l u : Row) →
        sum_faces (λ c y. g y) c (raised lo l ++ raised hi u)
        ≡ count_faces (λ y. raised_row g lo hi y u) l + count_faces (λ y. raised_row g lo hi l y) u
    one_cell c l u =
        sum_faces_count_faces g c (raised lo l ++ raised hi u) ∙ count_faces_append g (raised lo l) (raised hi u)
        ∙ ap₂ (λ a b. a + b) (count_faces_map (λ y. g (y ++ raised hi u)) (λ n. n + lo) l)
        (count_faces_map (λ y. g (raised lo l ++ y)) (λ n. n + hi) u)

    step : over_prism (sum_faces (λ c y. g y)) lo hi b (x ∷ w)
        ≡ sum_prism (λ c l u. count_faces (λ y. raised_row g lo hi y u) l + count_faces (λ y. raised_row g lo hi l y) u) (dimension_sign (x ∷ w)) b
        (x ∷ w)
    step = ap (λ (f : OnPairs). sum_prism f (dimension_sign (x ∷ w)) b (x ∷ w)) (fun_ext (λ c. fun_ext (λ l. fun_ext (λ u. one_cell c l u))))

-- pull a test out
cond_count_inner : (t : Bool) (a b v : Row) → count_inner (λ l u. cond t (hits_pair a b l u) 0) v ≤ cond t (one (filled b && same_row v (b ++ a))) 0
cond_count_inner true a b v = count_inner_one a b v
cond_count_inner false a b v = omega (arith, count_inner_zero v)

cond_count_prism : (t : Bool) (a b v : Row) →
    count_prism (λ l u. cond t (hits_pair a b l u) 0) v ≤ cond t (one (doubled a b && same_row v (b ++ rest a))) 0
cond_count_prism true a b v = count_prism_one a b v
cond_count_prism false a b v = omega (arith, count_prism_zero v)

-- what a row w tells
abbrev pub lower_in : ℕ → Row → Row
lower_in nv w = lowers nv (level_in nv w) w

abbrev pub upper_in : ℕ → Row → Row
upper_in nv w = uppers nv (level_in nv w) w

-- the row of the solid's face under a side
abbrev pub base_in : ℕ → Row → Row
base_in nv w = upper_in nv w ++ rest (lower_in nv w)

abbrev pub inner_on : ℕ → Row → Row → ℕ
inner_on nv w v = one (filled (upper_in nv w) && same_row v (upper_in nv w ++ lower_in nv w))

abbrev pub side_on : ℕ → Row → Row → ℕ
side_on nv w y = one (doubled (lower_in nv w) (upper_in nv w) && same_row y (base_in nv w))

abbrev pub flat_on : ℕ → Row → Row → ℕ
flat_on nv w v = one (same_row [] (upper_in nv w) && same_row v (lower_in nv w))

module _ (nv i : ℕ) (w : Row) where
  -- what counts if w is at level i
  abbrev here : ℕ → ℕ
  here n = cond (eqb (level_in nv w) i) n 0

  -- the indicator of w on the rows between level i and the next
  abbrev hit : Row → Row → ℕ
  hit = raised_row (hits w) (i * nv) (suc i * nv)

  abbrev on_pair : Row → Row → ℕ
  on_pair l u = here (hits_pair (lower_in nv w) (upper_in nv w) l u)

  count_inner_bound : (v : Row) → Below nv v → count_inner hit v ≤ here (inner_on nv w v)
  count_inner_bound v bd = omega (
    arith,
    count_inner_le nv hit on_pair v bd (decode nv i w),
    cond_count_inner (eqb (level_in nv w) i) (lower_in nv w) (upper_in nv w) v,
  )

  pub count_prism_bound : (v : Row) → Below nv v → count_prism hit v ≤ here (side_on nv w v)
  count_prism_bound v bd = omega (
    arith,
    count_prism_le nv hit on_pair v bd (decode nv i w),
    cond_count_prism (eqb (level_in nv w) i) (lower_in nv w) (upper_in nv w) v,
  )

  flat_bound : (v : Row) → Good nv v → hits w (raised (i * nv) v) ≤ here (flat_on nv w v)
  flat_bound v g = omega (arith, ap (hits w) (append-nil (raised (i * nv) v)), decode nv i w v [] g.1 tt g.0)

  cell_bound : (c : Bool) (v : Row) → Good nv v →
      over_prism (sum_faces (λ c y. hits w y)) (i * nv) (suc i * nv) c v
      ≤ here (inner_on nv w v) + here (inner_on nv w v) + here (count_faces (side_on nv w) v)
      + hits w (raised (suc i * nv) v) + hits w (raised (i * nv) v)
  cell_bound c v g = omega (
    arith,
    cell-count (hits w) (i * nv) (suc i * nv) c v g.0,
    count_inner_bound v g.1,
    count_faces_le nv (count_prism hit) (λ y. here (side_on nv w y)) v g.1 count_prism_bound,
    count_faces_cond (eqb (level_in nv w) i) (side_on nv w) v,
  )

  level_bound : (cs : List Cell) → All (Good nv) cs →
      total w (all_faces (level nv i cs))
      ≤ here (sum_rows (inner_on nv w) cs + sum_rows (inner_on nv w) cs + sum_rows (count_faces (side_on nv w)) cs)
      + sum_rows (λ v. hits w (raised (suc i * nv) v)) cs + sum_rows (λ v. hits w (raised (i * nv) v)) cs
  level_bound cs a =
      let t = eqb (level_in nv w) i in
      let f1 : Row → ℕ = λ v. here (inner_on nv w v) in
      let f2 : Row → ℕ = λ v. here (count_faces (side_on nv w) v) in
      let f3 : Row → ℕ = λ v. hits w (raised (suc i * nv) v) in
      let f4 : Row → ℕ = λ v. hits w (raised (i * nv) v) in
      omega (
        arith,
        sum_chain_sum_rows (hits w) true (all_faces (level nv i cs)),
        sum_chain_all_faces (λ c y. hits w y) true (level nv i cs),
        sum_chain_level (sum_faces (λ c y. hits w y)) nv i true cs,
        sum_chain_le (Good nv) (over_prism (sum_faces (λ c y. hits w y)) (i * nv) (suc i * nv))
            (λ v. f1 v + f1 v + f2 v + f3 v + f4 v) true cs a cell_bound,
        sum_rows-add (λ v. f1 v + f1 v + f2 v + f3 v) f4 cs,
        sum_rows-add (λ v. f1 v + f1 v + f2 v) f3 cs,
        sum_rows-add (λ v. f1 v + f1 v) f2 cs,
        sum_rows-add f1 f1 cs,
        sum_rows-cond t (inner_on nv w) cs,
        sum_rows-cond t (count_faces (side_on nv w)) cs,
        cond3 t (sum_rows (inner_on nv w) cs) (sum_rows (count_faces (side_on nv w)) cs),
      )
    where
      cond3 : (t : Bool) (m n : ℕ) → cond t (m + m + n) 0 ≡ cond t m 0 + cond t m 0 + cond t n 0
      cond3 true m n = refl
      cond3 false m n = omega arith

  -- the copy of the solid at level i, on w
  pub copies_bound : (cs : List Cell) → All (Good nv) cs → sum_rows (λ v. hits w (raised (i * nv) v)) cs ≤ here (sum_rows (flat_on nv w) cs)
  copies_bound cs a = omega (
    arith,
    sum_rows_le (Good nv) (λ v. hits w (raised (i * nv) v)) (λ v. here (flat_on nv w v)) cs a flat_bound,
    sum_rows-cond (eqb (level_in nv w) i) (flat_on nv w) cs,
  )

-- the sum over h levels, of what stands at level j
abbrev pub across_levels : ℕ → ℕ → ℕ → ℕ → ℕ
across_levels j m f zero = 0
across_levels j m f (suc i) = across_levels j m f i + (cond (eqb j i) m 0 + cond (eqb j (suc i)) f 0 + cond (eqb j i) f 0)

pub sweep_bound : (nv h : ℕ) (w : Row) (cs : List Cell) → All (Good nv) cs →
    total w (all_faces (sweep_of nv h cs)) ≤ across_levels (level_in nv w)
    (sum_rows (inner_on nv w) cs + sum_rows (inner_on nv w) cs + sum_rows (count_faces (side_on nv w)) cs) (sum_rows (flat_on nv w) cs) h
sweep_bound nv zero w cs a = omega arith
sweep_bound nv (suc h) w cs a =
    omega (
      arith,
      sweep_bound nv h w cs a,
      level_bound nv h w cs a,
      copies_bound nv h w cs a,
      copies_bound nv (suc h) w cs a,
      ap (sum_rows (hits w)) (all_faces-append (sweep_of nv h cs) (level nv h cs)),
      sum_rows-append (hits w) (all_faces (sweep_of nv h cs)) (all_faces (level nv h cs)),
    )

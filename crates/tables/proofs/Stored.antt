-- One cell read, sorted and stored is the cell in ascending order; the others stay.
use mathlib.Core.Path.{◌≡◌, refl, sym, ap, ap₂, ◌∙◌}
use mathlib.Core.Bool.{Bool, false, not}
use mathlib.Core.List.{List, ◌++◌, append_assoc}
use Prim.Native.Nat.{ℕ, suc, ◌+◌, ◌*◌, ◌-◌, ◌≤◌, ◌<◌}
use native.Mathlib.Omega.{arith}
use native.Mathlib.Nat.{add-zero, ne_of_lt}
use lib.ListN.{length, take, drop, get_or, set, replicate, length-set, length-append, length-drop, get_or-append}
use lib.Seq.{paste, length-paste, length-take-le, take_at, drop_at, take-take, drop-drop, get_or-take, get_or-drop, get_or-set_same, get_or-set_other}
use lib.Seq.{ext_get_or}
use Rattle.words.specs.Records.{part}
use Rattle.simplex.specs.Cell.{Cell, Sign, cell, times}
use Rattle.simplex.specs.Order.{orientation, sorted}
use Rattle.simplex.specs.Sort.{row_odd, row_sorted}
use Rattle.simplex.proofs.Signs.{not-not}
use Rattle.simplex.proofs.Sorting.{sorted-length}
use Rattle.tables.specs.Inner.Held.{Gathered, cell_read, material_at, row_of_eight}
use Rattle.tables.proofs.Reading.{eight_front, eight-long, eight-rest}
use Rattle.simplex.specs.SignWords.{sign_of}
use Rattle.records.specs.Layout.{list_size, material_place, vertex_place}
use Rattle.records.proofs.Parts.{drop-take}

-- two lists with one record p
pub part_same : (n p : ℕ) (X Y : List ℕ) → p * n + n ≤ length X → length X ≡ length Y →
    ((i : ℕ) → i < n → get_or X (p * n + i) 0 ≡ get_or Y (p * n + i) 0) → part n p X ≡ part n p Y
part_same n p X Y h e same = ext_get_or 0 (part n p X) (part n p Y) (long X h ∙ sym (long Y (omega arith)))
    (λ i l. word X i (omega (arith, long X h)) ∙ same i (omega (arith, long X h)) ∙ sym (word Y i (omega (arith, long X h))))
  where
    long : (Z : List ℕ) → p * n + n ≤ length Z → length (part n p Z) ≡ n
    long Z l = length-take-le n (drop (p * n) Z) (rw (length-drop (p * n) Z) (omega arith))

    word : (Z : List ℕ) (i : ℕ) → i < n → get_or (part n p Z) i 0 ≡ get_or Z (p * n + i) 0
    word Z i l = get_or-take n (drop (p * n) Z) i 0 l ∙ get_or-drop (p * n) Z i 0

-- the sign word, the material and the vertices of record p
module _ (size d p : ℕ) (ws : List ℕ) (hd : list_size d ≤ size) where
  pub read-sign : (cell_read size d ws p).sign ≡ sign_of (get_or ws (p * size) 0)
  read-sign =
      ap sign_of
      (get_or-take (list_size d) (part size p ws) 0 0 (omega arith) ∙ get_or-take size (drop (p * size) ws) 0 0 (omega arith)
      ∙ get_or-drop (p * size) ws 0 0 ∙ ap (λ i. get_or ws i 0) (add-zero (p * size)))

  pub read-material : (cell_read size d ws p).material ≡ material_at size ws p
  read-material =
      get_or-take (list_size d) (part size p ws) material_place 0 (omega arith)
      ∙ get_or-take size (drop (p * size) ws) material_place 0 (omega arith) ∙ get_or-drop (p * size) ws material_place 0

  pub read-row : (cell_read size d ws p).row ≡ take (suc d) (drop (p * size + vertex_place 0) ws)
  read-row =
      ap (drop (vertex_place 0)) (take-take (list_size d) size (drop (p * size) ws) hd)
      ∙ drop-take (vertex_place 0) (suc d) (list_size d) (drop (p * size) ws) (omega arith)
      ∙ ap (take (suc d)) (drop-drop (vertex_place 0) (p * size) ws)

module _ (rows row : List ℕ) (p : ℕ) (hp : p < 4096) (wide : length rows ≡ 32768) (eight : length row ≡ 8) where
  pub paste_wide : length (paste rows (p * 8) row 8) ≡ 32768
  paste_wide = length-paste rows (p * 8) row 8 (omega arith) (omega arith) ∙ wide

  pub paste_here : part 8 p (paste rows (p * 8) row 8) ≡ row
  paste_here =
      ap (λ (xs : List ℕ). take 8 (drop (p * 8) xs)) (append_assoc (take (p * 8) rows) (take 8 row) (drop (p * 8 + 8) rows))
      ∙ ap (take 8) (drop_at (take (p * 8) rows) (take 8 row ++ drop (p * 8 + 8) rows) (p * 8) (length-take-le (p * 8) rows (omega arith)))
      ∙ take_at (take 8 row) (drop (p * 8 + 8) rows) 8 (length-take-le 8 row (omega arith))
      ∙ lib.Seq.take_all 8 row (omega arith)

  pub paste_there : (q : ℕ) → q < p → part 8 q (paste rows (p * 8) row 8) ≡ part 8 q rows
  paste_there q h =
      part_same 8 q (paste rows (p * 8) row 8) rows (omega (arith, paste_wide)) (paste_wide ∙ sym wide)
      (λ i l. ap (λ (xs : List ℕ). get_or xs (q * 8 + i) 0) (append_assoc (take (p * 8) rows) (take 8 row) (drop (p * 8 + 8) rows))
      ∙ get_or-append (take (p * 8) rows) (take 8 row ++ drop (p * 8 + 8) rows)
      0 (q * 8 + i) (omega (arith, length-take-le (p * 8) rows (omega arith)))
      ∙ get_or-take (p * 8) rows (q * 8 + i) 0 (omega arith))

-- the row sorted by its first d + 1 vertices
module _ (d : ℕ) (row : List ℕ) (hd : d ≤ 7) (eight : length row ≡ 8) where
  pub sorted_front : take (suc d) (row_sorted (suc d) row) ≡ sorted (take (suc d) row)
  unfolding row_sorted
  sorted_front =
      take_at (sorted (take (suc d) row)) (drop (suc d) row) (suc d) (sorted-length (take (suc d) row) ∙ length-take-le (suc d) row (omega arith))

  sorted_whole : row_sorted (suc d) row ≡ sorted (take (suc d) row) ++ drop (suc d) row
  unfolding row_sorted
  sorted_whole = refl

  sorted-eight : length (row_sorted (suc d) row) ≡ 8
  unfolding row_sorted
  sorted-eight =
      omega (
        arith,
        length-append (sorted (take (suc d) row)) (drop (suc d) row),
        sorted-length (take (suc d) row),
        length-take-le (suc d) row (omega arith),
        length-drop (suc d) row,
      )

  pub sorted-sign : (t : Bool) → times (not (row_odd (suc d) row)) t ≡ times (orientation (take (suc d) row)) t
  unfolding row_odd
  sorted-sign t = ap (λ s. times s t) (not-not (orientation (take (suc d) row)))

-- what storing a cell leaves
pub gathered : (size d p : ℕ) (ws rows : List ℕ) (signs : List Sign) (row new rows' : List ℕ) (signs' : List Sign)
    (n at : ℕ) (odd t : Bool) →
    d ≤ 7 → list_size d ≤ size → p < 4096 → length rows ≡ 32768 → length signs ≡ 4096 →
    n ≡ suc d → at ≡ p * size + vertex_place 0 → at + n ≤ length ws → row ≡ row_of_eight (take n (drop at ws)) →
    new ≡ row_sorted n row → odd ≡ row_odd n row → t ≡ times (not odd) (sign_of (get_or ws (p * size) 0)) →
    rows' ≡ paste rows (p * 8) new 8 → signs' ≡ set signs p t →
    Gathered size d p ws rows signs rows' signs'
gathered size d p ws rows signs row new rows' signs' n at odd t hd hz hp wide many en ea room is es eo et er eg =
    record {
      wide = ap length er ∙ paste_wide rows new p hp wide new-eight;
      many = ap length eg ∙ length-set signs p t ∙ many;
      new = ap₂ (λ s w. cell s (material_at size ws p) w)
          (ap (λ (xs : List Sign). get_or xs p false) eg ∙ get_or-set_same signs p t false (omega arith) ∙ sign)
          (ap (take (suc d)) (ap (part 8 p) er ∙ paste_here rows new p hp wide new-eight) ∙ front)
          ∙ ap (λ m. cell (times (orientation read.row) read.sign) m (sorted read.row)) (sym (read-material size d p ws hz));
      eight = ap (part 8 p) er ∙ paste_here rows new p hp wide new-eight ∙ whole;
      old = λ q l. ap₂ (λ s w. cell s (material_at size ws q) w)
          (ap (λ (xs : List Sign). get_or xs q false) eg ∙ get_or-set_other signs p q t false (ne_of_lt l))
          (ap (take (suc d)) (ap (part 8 q) er ∙ paste_there rows new p hp wide new-eight q l));
    }
  where
    read : Cell
    read = cell_read size d ws p

    long : length (take n (drop at ws)) ≡ n
    long = length-take-le n (drop at ws) (omega (arith, length-drop at ws))

    eight : length row ≡ 8
    eight = ap length is ∙ eight-long (take n (drop at ws)) n long (omega arith)

    front_is : take n row ≡ take n (drop at ws)
    front_is = ap (take n) is ∙ eight_front (take n (drop at ws)) n long (omega arith)

    rest_is : drop n row ≡ replicate (8 - n) 0
    rest_is = ap (drop n) is ∙ eight-rest (take n (drop at ws)) n long (omega arith)

    es' : new ≡ row_sorted (suc d) row
    es' = es ∙ ap (λ n. row_sorted n row) en

    new-eight : length new ≡ 8
    new-eight = ap length es' ∙ sorted-eight d row hd eight

    row_is : take (suc d) row ≡ (cell_read size d ws p).row
    row_is = ap (λ n. take n row) (sym en) ∙ front_is ∙ ap₂ (λ n at. take n (drop at ws)) en ea ∙ sym (read-row size d p ws hz)

    front : take (suc d) new ≡ sorted (cell_read size d ws p).row
    front = ap (take (suc d)) es' ∙ sorted_front d row hd eight ∙ ap sorted row_is

    count : length (sorted (cell_read size d ws p).row) ≡ suc d
    count = sorted-length (cell_read size d ws p).row ∙ ap length (sym row_is) ∙ length-take-le (suc d) row (omega (arith, eight))

    whole : new ≡ row_of_eight (sorted (cell_read size d ws p).row)
    whole =
        es' ∙ sorted_whole d row hd eight ∙ ap₂ {C = List ℕ} (λ a b. a ++ b) (ap sorted row_is)
        (ap (λ n. drop n row) (sym en) ∙ rest_is ∙ ap (λ k. replicate (8 - k) 0) (en ∙ sym count))

    sign : t ≡ times (orientation (cell_read size d ws p).row) (cell_read size d ws p).sign
    sign =
        et ∙ ap (λ o. times (not o) (sign_of (get_or ws (p * size) 0))) (eo ∙ ap (λ n. row_odd n row) en)
        ∙ sorted-sign d row hd eight (sign_of (get_or ws (p * size) 0))
        ∙ ap₂ times (ap orientation row_is) (sym (read-sign size d p ws hz))

-- The records of the table of what is held, written one after the other or compared; and a list cut into its records.
--   record_placed         a record written in its four parts
--   record_same           a record compared in its parts; its material is its own
--   table_same            a table compared record by record
use mathlib.Core.Path.{◌≡◌, refl, sym, ap, ap₂, ◌∙◌}
use mathlib.Core.Bool.{Bool, true, false, ◌&&◌, true≢false}
use mathlib.Core.List.{List, [], ◌∷◌, ◌++◌}
use Prim.Native.Nat.{ℕ, zero, suc, ◌+◌, ◌*◌, ◌≤◌, ◌<◌}
use native.Mathlib.Omega.{arith}
use native.Mathlib.Nat.{add_comm, add-zero, suc-mul, zero-mul}
use lib.Dec.{eqb}
use lib.ListN.{length, set, drop, take, get_or, length-append, length-drop, length-set, take-append-drop}
use borrow.Author.Tests.{eq-eqb}
use lib.Seq.{drop-drop, ext_get_or, get_or-drop, get_or-take, take_all, take-take}
use Rattle.words.specs.Inner.Placed.{placed}
use Rattle.words.specs.Records.{concat, part, tabulate}
use Rattle.words.proofs.Placed.{placed-length, placed_one, placed_then, placed_word}
use Rattle.words.proofs.Records.{length_tabulated, part_tabulated, tabulate_at, tabulate_ext, tabulate-length}
use Rattle.simplex.specs.Cell.{Sign, same_row}
use Rattle.tables.specs.Inner.Held.{held_words, record_held, run}
use Rattle.simplex.specs.SignWords.{sign_word}
use Rattle.records.specs.Layout.{record_size, material_place, vertex_place, wing_place, table_length}
use Rattle.records.proofs.Parts.{part-within}
use Rattle.matching.proofs.KeptRows.{same_false}
use Rattle.simplex.proofs.Rows.{same_rows}

-- the words of a list are f 0, f 1, ..
pub is_tabulated : (n : ℕ) (f : ℕ → ℕ) (xs : List ℕ) → length xs ≡ n →
    ((k : ℕ) → k < n → get_or xs k 0 ≡ f k) → xs ≡ tabulate n f
is_tabulated n f xs e h =
    ext_get_or 0 xs (tabulate n f) (e ∙ sym (tabulate-length n f)) (λ k l. h k (omega arith) ∙ sym (tabulate_at n f k 0 (omega arith)))

-- a list is its records one after the other
pub parts_of : (n s : ℕ) (ws : List ℕ) → length ws ≡ s * n → concat (tabulate s (λ p. take n (part n p ws))) ≡ ws
parts_of n zero [] e = refl
parts_of n zero (x ∷ ws) e = absurd (omega (arith, zero-mul n))
parts_of n (suc s) ws e =
    ap₂ ◌++◌ (take-take n n (drop (0 * n) ws) (omega arith) ∙ ap (λ m. take n (drop m ws)) (zero-mul n))
    (ap concat (tabulate_ext s (λ p. take n (part n (suc p) ws)) (λ p. take n (part n p (drop n ws)))
    (λ p h. ap (λ (t : List ℕ). take n (take n t)) (ap (λ m. drop m ws) (suc-mul p n ∙ add_comm (p * n) n) ∙ sym (drop-drop (p * n) n ws))))
    ∙ parts_of n s (drop n ws) (omega (arith, length-drop n ws, suc-mul s n)))
    ∙ take-append-drop n ws

-- the first j words of a run written
module _ (n from to j : ℕ) (words buf old new : List ℕ) (room : to + n ≤ length buf)
    (e : old ≡ placed to (take j (run n from words)) buf) where
  many : length (run n from words) ≡ n
  many = tabulate-length n (λ i. get_or words (from + i) 0)

  -- one more, and none where all n are
  pub run_more : j < n → new ≡ set old (to + j) (get_or words (from + j) 0) → new ≡ placed to (take (j + 1) (run n from words)) buf
  run_more l k =
      k ∙ placed_word to j (get_or words (from + j) 0) (run n from words) buf old (omega (arith, many)) (omega (arith, many)) e
      (sym (tabulate_at n (λ i. get_or words (from + i) 0) j 0 l))

  pub run_no_more : n ≤ j → new ≡ old → new ≡ placed to (take (j + 1) (run n from words)) buf
  run_no_more l k =
      k ∙ e ∙ ap (λ (t : List ℕ). placed to t buf) (take_all j (run n from words) (omega (arith, many))
      ∙ sym (take_all (j + 1) (run n from words) (omega (arith, many))))

-- two runs compared
module _ (n from to : ℕ) (xs ys : List ℕ) where
  pub run_other : (j : ℕ) → j < n → (get_or ys (to + j) 0 ≡ get_or xs (from + j) 0 → ⊥) → same_row (run n to ys) (run n from xs) ≡ false
  run_other j l h =
      same_false (run n to ys) (run n from xs)
      (λ e. h (sym (tabulate_at n (λ i. get_or ys (to + i) 0) j 0 l)
      ∙ ap (λ (t : List ℕ). get_or t j 0) e ∙ tabulate_at n (λ i. get_or xs (from + i) 0) j 0 l))

  pub run-same : ((j : ℕ) → j < n → get_or ys (to + j) 0 ≡ get_or xs (from + j) 0) → same_row (run n to ys) (run n from xs) ≡ true
  run-same h = same_rows (run n to ys) (run n from xs) (tabulate_ext n (λ i. get_or ys (to + i) 0) (λ i. get_or xs (from + i) 0) h)

-- a run in two parts
tabulate_split : (m n : ℕ) (f : ℕ → ℕ) → tabulate (m + n) f ≡ tabulate m f ++ tabulate n (λ j. f (m + j))
tabulate_split zero n f =
    ap (λ i. tabulate i f) {x = 0 + n} {y = n} (omega arith) ∙ tabulate_ext n f (λ j. f (0 + j)) (λ j l. ap f {x = j} {y = 0 + j} (omega arith))
tabulate_split (suc m) n f =
    ap (λ i. tabulate i f) {x = suc m + n} {y = suc (m + n)} (omega arith)
    ∙ ap {B = List ℕ} (λ r. f 0 ∷ r) (tabulate_split m n (λ j. f (suc j)) ∙ ap (λ r. tabulate m (λ j. f (suc j)) ++ r)
    (tabulate_ext n (λ j. f (suc (m + j))) (λ j. f (suc m + j)) (λ j l. ap f {x = suc (m + j)} {y = suc m + j} (omega arith))))

-- the parts of a record of the table
run_record : (d at : ℕ) (ws : List ℕ) →
    run (record_size d) at ws
    ≡ get_or ws at 0 ∷ get_or ws (at + material_place) 0 ∷ (run (d + 1) (at + vertex_place 0) ws ++ run (d + 1) (at + wing_place d 0) ws)
run_record d at ws =
    ap (λ n. run n at ws) {x = record_size d} {y = suc (suc (d + 1 + (d + 1)))} (omega arith)
    ∙ ap₂ {C = List ℕ} (λ x r. x ∷ get_or ws (at + material_place) 0 ∷ r) (ap (λ i. get_or ws i 0) (add-zero at))
    (tabulate_split (d + 1) (d + 1) (λ j. get_or ws (at + suc (suc j)) 0)
    ∙ ap₂ {C = List ℕ} (λ a b. a ++ b)
    (tabulate_ext (d + 1) (λ j. get_or ws (at + suc (suc j)) 0) (λ j. get_or ws (at + vertex_place 0 + j) 0)
    (λ j l. ap (λ i. get_or ws i 0) {x = at + suc (suc j)} {y = at + vertex_place 0 + j} (omega arith)))
    (tabulate_ext (d + 1) (λ j. get_or ws (at + suc (suc (d + 1 + j))) 0) (λ j. get_or ws (at + wing_place d 0 + j) 0)
    (λ j l. ap (λ i. get_or ws i 0) {x = at + suc (suc (d + 1 + j))} {y = at + wing_place d 0 + j} (omega arith))))

and_assoc : (a b c : Bool) → (a && (b && c)) ≡ ((a && b) && c)
and_assoc true b c = refl
and_assoc false b c = refl

same-append : (u v a b : List ℕ) → length u ≡ length v → same_row (u ++ a) (v ++ b) ≡ (same_row u v && same_row a b)
same-append [] [] a b e = refl
same-append [] (y ∷ v) a b e = absurd (omega arith)
same-append (x ∷ u) [] a b e = absurd (omega arith)
same-append (x ∷ u) (y ∷ v) a b e = ap (λ t. eqb x y && t) (same-append u v a b (omega arith))
    ∙ and_assoc (eqb x y) (same_row u v) (same_row a b)

-- record p
module _ (d : ℕ) (rows : List ℕ) (signs : List Sign) (wings : List ℕ) (m p : ℕ) where
  abbrev vertices : List ℕ
  vertices = run (d + 1) (p * 8) rows

  abbrev neighbours : List ℕ
  neighbours = run (d + 1) (p * (d + 1)) wings

  pub record_long : length (record_held d rows signs wings m p) ≡ record_size d
  unfolding record_held
  record_long =
      omega (
        arith,
        length-append vertices neighbours,
        tabulate-length (d + 1) (λ j. get_or rows (p * 8 + j) 0),
        tabulate-length (d + 1) (λ j. get_or wings (p * (d + 1) + j) 0),
      )

  -- a record written in its four parts
  module _ (at x : ℕ) (buf one : List ℕ) (room : at + record_size d ≤ length buf) (ex : x ≡ sign_word (get_or signs p false))
      (e : one ≡ placed (at + vertex_place 0) vertices (set (set buf at x) (at + material_place) m)) where
    first : set (set buf at x) (at + material_place) m ≡ placed at (x ∷ m ∷ []) buf
    first =
        placed_one (at + material_place) m (set buf at x) (omega (arith, length-set buf at x))
        ∙ ap (placed (at + material_place) (m ∷ [])) (placed_one at x buf (omega arith))
        ∙ placed_then at (x ∷ []) (m ∷ []) buf (omega arith)

    first_two : one ≡ placed at (x ∷ m ∷ vertices) buf
    first_two = e ∙ ap (placed (at + vertex_place 0) vertices) first ∙ placed_then at (x ∷ m ∷ []) vertices buf (omega arith)

    abbrev head_long_lem : length (x ∷ m ∷ vertices) ≡ 2 + (d + 1)
    head_long_lem = omega (arith, tabulate-length (d + 1) (λ j. get_or rows (p * 8 + j) 0))

    pub part_room : length one ≡ length buf
    part_room = ap length first_two ∙ placed-length at (x ∷ m ∷ vertices) buf (omega (arith, head_long_lem))

    pub record_placed : (w : ℕ) (two : List ℕ) → w ≡ wing_place d 0 → two ≡ placed (at + w) neighbours one →
        two ≡ placed at (record_held d rows signs wings m p) buf
    unfolding record_held
    record_placed w two ew e2 =
        e2 ∙ ap₂ {C = List ℕ} (λ n l. placed n neighbours l) {x = at + w}
        {y = at + length (x ∷ m ∷ vertices)} (omega (arith, head_long_lem)) first_two
        ∙ placed_then at (x ∷ m ∷ vertices) neighbours buf (omega (arith, head_long_lem))
        ∙ ap (λ n. placed at (n ∷ m ∷ (vertices ++ neighbours)) buf) ex

  -- a record compared in its parts; its material is its own
  pub record_same : (at : ℕ) (ws : List ℕ) → m ≡ get_or ws (at + material_place) 0 →
      same_row (run (record_size d) at ws) (record_held d rows signs wings m p)
      ≡ (eqb (get_or ws at 0) (sign_word (get_or signs p false))
      && (same_row (run (d + 1) (at + vertex_place 0) ws) vertices && same_row (run (d + 1) (at + wing_place d 0) ws) neighbours))
  unfolding record_held
  record_same at ws own =
      ap (λ (t : List ℕ). same_row t (sign_word (get_or signs p false) ∷ m ∷ (vertices ++ neighbours))) (run_record d at ws)
      ∙ ap (λ t. eqb (get_or ws at 0) (sign_word (get_or signs p false)) && t)
      (rw (eq-eqb (get_or ws (at + material_place) 0) m (sym own)) refl
      ∙ same-append (run (d + 1) (at + vertex_place 0) ws) vertices (run (d + 1) (at + wing_place d 0) ws) neighbours
      (tabulate-length (d + 1) (λ j. get_or ws (at + vertex_place 0 + j) 0) ∙ sym (tabulate-length (d + 1) (λ j. get_or rows (p * 8 + j) 0))))

-- record p of a list, as a run
part-run : (n p s : ℕ) (ws : List ℕ) → p < s → s * n ≤ length ws → part n p ws ≡ run n (p * n) ws
part-run n p s ws h e =
    is_tabulated n (λ j. get_or ws (p * n + j) 0) (part n p ws) (part-within n p s ws h e)
    (λ k l. get_or-take n (drop (p * n) ws) k 0 l ∙ get_or-drop (p * n) ws k 0)

-- the table
module _ (d : ℕ) (rows : List ℕ) (signs : List Sign) (made : ℕ → ℕ) (wings : List ℕ) (s : ℕ) where
  abbrev pub records : ℕ → List ℕ
  records p = record_held d rows signs wings (made p) p

  pub records_length : length (concat (tabulate s records)) ≡ s * record_size d
  records_length = length_tabulated (record_size d) s records (λ p l. record_long d rows signs wings (made p) p)

  module _ (ws : List ℕ) (long : length ws ≡ table_length d s) where
    pub table_same : ((p : ℕ) → p < s → run (record_size d) (p * record_size d) ws ≡ records p) →
        same_row ws (held_words d s rows signs made wings) ≡ true
    unfolding held_words
    table_same h =
        let n : ℕ = record_size d in
        same_rows ws (concat (tabulate s records))
        (sym (parts_of n s ws long)
        ∙ ap concat (tabulate_ext s (λ p. take n (part n p ws)) records
        (λ p l. take-take n n (drop (p * n) ws) (omega arith) ∙ part-run n p s ws l (omega arith) ∙ h p l)))

    pub table_other : (p : ℕ) → p < s → same_row (run (record_size d) (p * record_size d) ws) (records p) ≡ false →
        same_row ws (held_words d s rows signs made wings) ≡ false
    unfolding held_words
    table_other p l k =
        let n : ℕ = record_size d in
        same_false ws (concat (tabulate s records))
        (λ e. true≢false
        (sym (same_rows (run n (p * n) ws) (records p)
        (sym (part-run n p s ws l (omega arith)) ∙ ap (part n p) e
        ∙ part_tabulated n s p records (λ q m. record_long d rows signs wings (made q) q) l)) ∙ k))

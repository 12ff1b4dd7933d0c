-- A table with one wing set: the cells and the other wings are as they were.
-- Assumes nothing.
use mathlib.Core.Path.{◌≡◌, sym, ap, ◌∙◌}
use mathlib.Core.List.{List}
use Prim.Native.Nat.{ℕ, ◌+◌, ◌*◌, ◌/◌, ◌%◌, ◌≤◌, ◌<◌}
use native.Mathlib.Omega.{arith}
use lib.ListN.{length, get_or, take, set, length-set}
use lib.Seq.{ext_get_or, get_or-set_other, get_or-set_same, get_or-take, length-take-le}
use Rattle.words.specs.Records.{part}
use Rattle.matching.proofs.Quotients.{cell_of_key, place_of_key}
use Rattle.records.specs.Layout.{cell_of, list_size, record_size, table_length, wing_place}
use Rattle.records.specs.Inner.Inside.{wing_in}
use Rattle.records.proofs.Parts.{inside, part_at}
use Rattle.records.proofs.Places.{record_long, wing_at_lem}
use Rattle.linking.specs.Inner.Linking.{SameCells}

-- cells that are the same in both of two steps
pub cells-still : (d s : ℕ) (ws ws' ws'' : List ℕ) → SameCells d s ws ws' → SameCells d s ws' ws'' → SameCells d s ws ws''
cells-still d s ws ws' ws'' x y = record {
  long = y.long ∙ x.long;
  sign = λ q h. y.sign q h ∙ x.sign q h;
  cell = λ q h. y.cell q h ∙ x.cell q h;
}

module _ (d s : ℕ) (ws : List ℕ) (p a x : ℕ) (long : length ws ≡ table_length d s) (hp : p < s) (ha : a ≤ d) where
  at : ℕ
  at = p * record_size d + wing_place d a

  ws' : List ℕ
  ws' = set ws (p * record_size d + wing_place d a) x

  long' : length (set ws (p * record_size d + wing_place d a) x) ≡ table_length d s
  long' = length-set ws (p * record_size d + wing_place d a) x ∙ long

  -- word j of record q is as it was, unless it is that wing
  word_same : (q j : ℕ) → j < record_size d → (q ≡ p → j ≡ wing_place d a → ⊥) →
      get_or (set ws (p * record_size d + wing_place d a) x) (q * record_size d + j) 0 ≡ get_or ws (q * record_size d + j) 0
  word_same q j hj ne =
      get_or-set_other ws (p * record_size d + wing_place d a) (q * record_size d + j) x 0
      (λ e. ne
      (sym (cell_of_key q j (record_size d) hj) ∙ ap (λ i. i / record_size d) e ∙ cell_of_key p (wing_place d a) (record_size d) (omega arith))
      (sym (place_of_key q j (record_size d) hj) ∙ ap (λ i. i % record_size d) e ∙ place_of_key p (wing_place d a) (record_size d) (omega arith)))

  front_word : (q j : ℕ) → j < list_size d →
      get_or (part (record_size d) q (set ws (p * record_size d + wing_place d a) x)) j 0 ≡ get_or (part (record_size d) q ws) j 0
  front_word q j hj =
      part_at (record_size d) q j (set ws (p * record_size d + wing_place d a) x) 0 (omega arith)
      ∙ word_same q j (omega arith) (λ e z. omega (arith, z, hj))
      ∙ sym (part_at (record_size d) q j ws 0 (omega arith))

  -- the words of its cell
  front_same : (q : ℕ) → q < s → take (list_size d) (part (record_size d) q (set ws (p * record_size d + wing_place d a) x))
      ≡ take (list_size d) (part (record_size d) q ws)
  front_same q hq =
      let n = size (set ws (p * record_size d + wing_place d a) x) long' in
      let m = size ws long in
      ext_get_or 0 _ _ (n ∙ sym m)
      (λ j l. let hj : j < list_size d = omega (arith, l, n) in
      get_or-take (list_size d) _ j 0 hj ∙ front_word q j hj ∙ sym (get_or-take (list_size d) (part (record_size d) q ws) j 0 hj))
    where
      size : (xs : List ℕ) → length xs ≡ table_length d s → length (take (list_size d) (part (record_size d) q xs)) ≡ list_size d
      size xs e = length-take-le (list_size d) (part (record_size d) q xs) (omega (arith, record_long d s q xs hq e))

  pub cells_same : SameCells d s ws (set ws (p * record_size d + wing_place d a) x)
  cells_same = record {
    long = length-set ws (p * record_size d + wing_place d a) x;
    sign = λ q hq. front_word q 0 (omega arith);
    cell = λ q hq. ap cell_of (front_same q hq);
  }

  wing_word : (q b : ℕ) (xs : List ℕ) → q < s → b ≤ d → length xs ≡ table_length d s
      → wing_in d xs q b ≡ get_or xs (q * record_size d + wing_place d b) 0
  wing_word q b xs hq hb e =
      wing_at_lem d (part (record_size d) q xs) (record_long d s q xs hq e) b hb ∙ part_at (record_size d) q (wing_place d b) xs 0 (omega arith)

  pub wing_set : wing_in d (set ws (p * record_size d + wing_place d a) x) p a ≡ x
  wing_set =
      wing_word p a (set ws (p * record_size d + wing_place d a) x) hp ha long'
      ∙ get_or-set_same ws (p * record_size d + wing_place d a) x 0
      (omega (arith, inside s (record_size d) p (wing_place d a) hp (omega arith), long))

  pub wing_kept : (q b : ℕ) → q < s → b ≤ d → (q ≡ p → b ≡ a → ⊥) → wing_in d (set ws (p * record_size d + wing_place d a) x) q b ≡ wing_in d ws q b
  wing_kept q b hq hb ne =
      wing_word q b (set ws (p * record_size d + wing_place d a) x) hq hb long'
      ∙ word_same q (wing_place d b) (omega arith) (λ e z. ne e (omega (arith, z))) ∙ sym (wing_word q b ws hq hb long)

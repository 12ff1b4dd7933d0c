-- What the writers of a record with empty wings do.
--   list_more, list_no_more   a turn of a loop that writes a list of n words: one more word, and none where all n are written
--   around                    its sign, its material and its wings
--   blank-placed              a record whose vertices were written first
-- Assumes nothing.
use mathlib.Core.Path.{◌≡◌, sym, ap, ap₂, ◌∙◌}
use mathlib.Core.List.{List, [], ◌∷◌, ◌++◌, append_assoc}
use Prim.Native.Nat.{ℕ, suc, ◌+◌, ◌≤◌, ◌<◌}
use native.Mathlib.Numerals.{add-one}
use native.Mathlib.Omega.{arith}
use lib.ListN.{length, drop, get_or, replicate, set, take, length-append, length-set}
use lib.Seq.{drop_at, length-take-le, take_all, take-append-le, take-take}
use Rattle.words.specs.Inner.Placed.{placed}
use Rattle.words.proofs.Placed.{placed_one, placed_then, placed_word}
use Rattle.simplex.specs.Cell.{Sign, cell}
use Rattle.simplex.specs.SignWords.{sign_word}
use Rattle.records.specs.Layout.{empty, material_place, record_size, vertex_place, wing_place}
use Rattle.gathering.specs.Inner.Gathering.{blank_words}

module _ (n to j : ℕ) (xs buf old new : List ℕ) (long : length xs ≡ n) (room : to + n ≤ length buf)
    (e : old ≡ placed to (take j xs) buf) where
  pub list_more : (x : ℕ) → x ≡ get_or xs j 0 → j < n → new ≡ set old (to + j) x → new ≡ placed to (take (j + 1) xs) buf
  list_more x ex l k = k ∙ placed_word to j x xs buf old (omega arith) (omega arith) e ex

  pub list_no_more : n ≤ j → new ≡ old → new ≡ placed to (take (j + 1) xs) buf
  list_no_more l k =
      k ∙ e ∙ ap (λ (t : List ℕ). placed to t buf) (take_all j xs (omega arith) ∙ sym (take_all (j + 1) xs (omega arith)))

-- a list before the one that was written
put_before : (at : ℕ) (xs ys buf : List ℕ) → at + length xs + length ys ≤ length buf →
    placed at xs (placed (at + length xs) ys buf) ≡ placed at (xs ++ ys) buf
unfolding placed
put_before at xs ys buf room =
    ap₂ {C = List ℕ} (λ a b. a ++ (xs ++ b)) front back
    ∙ ap (λ r. take at buf ++ r)
    (ap (λ n. xs ++ (ys ++ drop n buf)) {x = next + length ys} {y = at + length (xs ++ ys)} (omega (arith, length-append xs ys))
    ∙ sym (append_assoc xs ys (drop (at + length (xs ++ ys)) buf)))
  where
    next : ℕ
    next = at + length xs

    long : length (take next buf) ≡ next
    long = length-take-le next buf (omega arith)

    front : take at (take next buf ++ (ys ++ drop (next + length ys) buf)) ≡ take at buf
    front = take-append-le at (take next buf) (ys ++ drop (next + length ys) buf) (omega (arith, long)) ∙ take-take at next buf (omega arith)

    back : drop next (take next buf ++ (ys ++ drop (next + length ys) buf)) ≡ ys ++ drop (next + length ys) buf
    back = drop_at (take next buf) (ys ++ drop (next + length ys) buf) next long

-- the sign, the material and the wings
module _ (d : ℕ) (t : Sign) (m at : ℕ) (buf : List ℕ) (room : at + record_size d ≤ length buf) where
  pub around : (x w : ℕ) (new : List ℕ) → x ≡ sign_word t → w ≡ wing_place d 0 →
      new ≡ placed (at + w) (replicate (d + 1) empty) (set (set buf at x) (at + material_place) m) →
      new ≡ placed (at + wing_place d 0) (replicate (suc d) empty) (placed at (sign_word t ∷ m ∷ []) buf)
  around x w new ex ew e =
      e ∙ ap₂ {C = List ℕ} (λ n k. placed (at + n) (replicate k empty) (set (set buf at x) (at + material_place) m)) ew (add-one d)
      ∙ ap (placed (at + wing_place d 0) (replicate (suc d) empty)) (head ∙ ap (λ y. placed at (y ∷ m ∷ []) buf) ex)
    where
      head : set (set buf at x) (at + material_place) m ≡ placed at (x ∷ m ∷ []) buf
      head =
          placed_one (at + material_place) m (set buf at x) (omega (arith, length-set buf at x))
          ∙ ap (placed (at + material_place) (m ∷ [])) (placed_one at x buf (omega arith))
          ∙ placed_then at (x ∷ []) (m ∷ []) buf (omega arith)

-- a record whose vertices were written first
module _ (d : ℕ) (t : Sign) (m : ℕ) (row : List ℕ) (long : length row ≡ suc d) (at : ℕ) (buf one : List ℕ)
    (room : at + record_size d ≤ length buf) (e : one ≡ placed (at + vertex_place 0) row buf) where
  pub blank-placed : (two : List ℕ) → two ≡ placed (at + wing_place d 0) (replicate (suc d) empty) (placed at (sign_word t ∷ m ∷ []) one) →
      two ≡ placed at (blank_words d (cell t m row)) buf
  unfolding blank_words
  blank-placed two e2 =
      let front : List ℕ = sign_word t ∷ m ∷ row in
      e2 ∙ ap (λ l. placed (at + wing_place d 0) (replicate (suc d) empty) (placed at (sign_word t ∷ m ∷ []) l)) e
      ∙ ap₂ {C = List ℕ} (λ n l. placed n (replicate (suc d) empty) l) {x = at + wing_place d 0} {y = at + length front} (omega arith)
      (put_before at (sign_word t ∷ m ∷ []) row buf (omega arith))
      ∙ placed_then at front (replicate (suc d) empty) buf (omega arith)

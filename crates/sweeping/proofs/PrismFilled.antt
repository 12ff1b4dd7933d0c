-- The records over one cell have all their words: heads, vertices and sides.
--   prism-filled
-- Assumes nothing.
use Rattle.std.proofs.Common.{◌≡◌, ℕ, suc, ◌+◌, ◌-◌, ◌*◌, ◌<◌, ◌≤◌, List, length, ap, ap₂, arith}
use native.Mathlib.Decide.{dec_lt}
use Rattle.words.specs.Inner.Placed.{placed}
use Rattle.records.specs.Layout.{record_size, material_place, vertex_place, wing_place}
use Rattle.prism.specs.Sides.{Side, side_cell, side_position, side_face, side_place}
use Rattle.prism.proofs.SideLaws.{side_of_position}
use Rattle.sweeping.specs.Inner.Filling.{Right, Kept}
use Rattle.sweeping.specs.Inner.PrismPlaces.{side_at, HeadRight}
use Rattle.sweeping.specs.Inner.SweptWords.{prism_words, Ready}
use Rattle.sweeping.proofs.Filling.{filled}
use Rattle.sweeping.proofs.LevelWords.{split}
use Rattle.sweeping.proofs.SweptWords.{prism-long}

module _ (d v s h : ℕ) (ws : List ℕ) (ready : Ready d v s h ws) (i p : ℕ) (hp : p < s) (at : ℕ) (old new : List ℕ)
    (room : at + length (prism_words d v s h ws i p) ≤ length old) (kept : Kept at (prism_words d v s h ws i p) old new)
    (heads : (k : ℕ) → k ≤ d → HeadRight d at (prism_words d v s h ws i p) new k)
    (vertices : (k j : ℕ) → k ≤ d → j ≤ suc d → Right at (prism_words d v s h ws i p) new (k * record_size (suc d) + vertex_place j))
    (sides : (a l : ℕ) → a ≤ d → l < d → Right at (prism_words d v s h ws i p) new (side_at d a l)) where
  abbrev words : List ℕ
  words = prism_words d v s h ws i p

  -- word r of cell k
  module _ (k r : ℕ) (hk : k ≤ d) (hr : r < record_size (suc d)) where
    abbrev Here : ℕ → Type 0
    Here n = Right at words new (k * record_size (suc d) + n)

    side : (j : ℕ) → 1 ≤ j → j ≤ d → Here (wing_place (suc d) j)
    side j one last =
        let x = side_of_position d k j hk one last in
        let cell : side_cell (side_face d k j) (side_place d k j) ≡ k = ap (λ (y : Side). y.cell) x.pair in
        let position : side_position d (side_face d k j) (side_place d k j) ≡ j = ap (λ (y : Side). y.position) x.pair in
        let place : side_at d (side_face d k j) (side_place d k j) ≡ k * record_size (suc d) + wing_place (suc d) j =
        ap₂ (λ (c n : ℕ). c * record_size (suc d) + wing_place (suc d) n) cell position in
        rw place at (sides (side_face d k j) (side_place d k j) x.face x.place)

    wings : (j : ℕ) → j ≤ suc d → Here (wing_place (suc d) j)
    wings j hj = go (dec_lt j 1) (dec_lt j (suc d))
      where
        go : Dec (j < 1) → Dec (j < suc d) → Here (wing_place (suc d) j)
        go (yes l) m = let here : j ≡ 0 = omega arith in rw here (heads k hk).above
        go (no l) (yes m) = side j (omega arith) (omega arith)
        go (no l) (no m) = let here : j ≡ suc d = omega arith in rw here (heads k hk).below

    word : Here r
    word = go (dec_lt r 1) (dec_lt r 2) (dec_lt r (wing_place (suc d) 0))
      where
        go : Dec (r < 1) → Dec (r < 2) → Dec (r < wing_place (suc d) 0) → Here r
        go (yes l) m n = let here : r ≡ 0 = omega arith in rw here (heads k hk).sign
        go (no l) (yes m) n = let here : r ≡ material_place = omega arith in rw here (heads k hk).material
        go (no l) (no m) (yes n) =
            let here : r ≡ vertex_place (r - 2) = omega arith in
            rw here (vertices k (r - 2) hk (omega arith))
        go (no l) (no m) (no n) =
            let here : r ≡ wing_place (suc d) (r - wing_place (suc d) 0) = omega arith in
            rw here (wings (r - wing_place (suc d) 0) (omega arith))

  all : (e : ℕ) → e < length words → Right at words new e
  all e l =
      let x = split (record_size (suc d)) (d + 1) e (omega (arith, prism-long d v s h ws ready.long i p hp)) in
      let here = x.is in
      rw here (word x.number x.place (omega (arith, x.few)) x.low)

  pub prism-filled : new ≡ placed at words old
  prism-filled = filled at words old room new kept.outside all

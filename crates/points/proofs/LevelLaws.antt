-- Levels of points.
--   part_length           record k of v records of n floats has n floats
--   loaded                a row that was loaded with record k
--   moved-long, part_moved        a moved point has n floats; moved points, point by point
--   length-moved_all, length-level, length-levels
--   levels-none           levels of no points
--   climbed step n i p    the point p after i steps
--   part-level            level i, point by point
-- Assumes nothing.
use mathlib.Core.Path.{◌≡◌, refl, sym, ap, ◌∙◌}
use mathlib.Core.List.{List, []}
use Prim.Native.Nat.{ℕ, zero, suc, ◌*◌, ◌<◌}
use native.Mathlib.Omega.{arith}
use lib.Ieee.{Float}
use lib.ListN.{length, take, drop, length-drop}
use lib.Seq.{length-take-le}
use Rattle.words.specs.Records.{part}
use Rattle.words.proofs.Records.{record_fits, part_tabulated, length_tabulated, concat-none}
use Rattle.points.specs.Levels.{moved_all, level_of, levels}
use Rattle.points.specs.Step.{moved_point}
use Rattle.points.specs.declared.step.Step.{Step}
use Rattle.points.proofs.Moved.{length_moved}

module _ {ℓ} {A : Type ℓ} where
  pub part_length : (n v k : ℕ) (xs : List A) → k < v → length xs ≡ v * n → length (part n k xs) ≡ n
  part_length n v k xs l e = length-take-le n (drop (k * n) xs) (omega (arith, record_fits n v k l, length-drop (k * n) xs))

  -- a row whose first floats are record k, read as a part of m floats
  pub loaded : (n v k m : ℕ) (xs p : List A) → m ≡ n → k < v → length xs ≡ v * n →
      take (length (take m (drop (k * n) xs))) p ≡ take m (drop (k * n) xs) → take n p ≡ part n k xs
  loaded n v k m xs p e l long load =
      let read : take m (drop (k * n) xs) ≡ part n k xs = ap (λ (j : ℕ). take j (drop (k * n) xs)) e in
      ap (λ (j : ℕ). take j p) (sym (ap length read ∙ part_length n v k xs l long)) ∙ load ∙ read

abbrev pub climbed : Step → ℕ → ℕ → List Float → List Float
climbed step n zero p = p
climbed step n (suc i) p = moved_point step n (climbed step n i p)

module _ (step : Step) (n v : ℕ) where
  pub moved-long : (ps : List Float) → length ps ≡ v * n → (k : ℕ) → k < v → length (moved_point step n (part n k ps)) ≡ n
  moved-long ps e k l = length_moved step n (part n k ps) ∙ part_length n v k ps l e

  pub part_moved : (ps : List Float) → length ps ≡ v * n → (k : ℕ) → k < v →
      part n k (moved_all step n v ps) ≡ moved_point step n (part n k ps)
  part_moved ps e k l = part_tabulated n v k (λ p. moved_point step n (part n p ps)) (moved-long ps e) l

  pub length-moved_all : (ps : List Float) → length ps ≡ v * n → length (moved_all step n v ps) ≡ v * n
  length-moved_all ps e = length_tabulated n v (λ p. moved_point step n (part n p ps)) (moved-long ps e)

  pub length-level : (ps : List Float) → length ps ≡ v * n → (i : ℕ) → length (level_of step n v ps i) ≡ v * n
  length-level ps e zero = e
  length-level ps e (suc i) = length-moved_all (level_of step n v ps i) (length-level ps e i)

  pub length-levels : (h : ℕ) (ps : List Float) → length ps ≡ v * n → length (levels step n v h ps) ≡ suc h * (v * n)
  length-levels h ps e = length_tabulated (v * n) (suc h) (level_of step n v ps) (λ i l. length-level ps e i)

  pub part-level : (ps : List Float) → length ps ≡ v * n → (i k : ℕ) → k < v →
      part n k (level_of step n v ps i) ≡ climbed step n i (part n k ps)
  part-level ps e zero k l = refl
  part-level ps e (suc i) k l = part_moved (level_of step n v ps i) (length-level ps e i) k l ∙ ap (moved_point step n) (part-level ps e i k l)

pub levels-none : (step : Step) (n h : ℕ) → levels step n 0 h [] ≡ []
levels-none step n h = concat-none (suc h) (level_of step n 0 []) level
  where
    level : (i : ℕ) → level_of step n 0 [] i ≡ []
    level zero = refl
    level (suc i) = refl

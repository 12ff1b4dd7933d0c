-- Wings from the keys that were seen before.
--   face_count d s             how many faces s cells of dimension d have: none in dimension 0
--   paired k n P m W          the words W with, for each key g below m that was seen before at f, the cell of f at g and the cell of g at f;
--                             k keys belong to a cell
--   key_sign k signs g         the sign of key g: that of its cell times (-1)^position
--   twin_at k n rows P g       whether P names a key below n at g, both keys at position 0, and their cells have the same first vertex
--   Met .. g ..               what pairing key g makes of the words W and of what was found among the keys before it
--   Pairing .. m ..           the words and what was found when the keys below m have been paired
use Rattle.std.specs.Prelude.{◌≡◌, Bool, false, cond, ◌&&◌, ◌||◌, List, ℕ, zero, suc, ◌*◌, ◌/◌, ◌%◌, eqb, get_or, set}
use Rattle.words.specs.Records.{any_below}
use Rattle.simplex.specs.Cell.{Sign, times, alternating}
use Rattle.tables.specs.Inner.Scan.{seen_at, seen_like, seen_twice}

abbrev pub face_count : ℕ → ℕ → ℕ
face_count zero s = 0
face_count (suc d) s = s * suc (suc d)

abbrev pub paired_at : ℕ → ℕ → List ℕ → ℕ → List ℕ → List ℕ
paired_at k n P g W = cond (seen_at n P g) (set (set W g (get_or P g 0 / k)) (get_or P g 0) (g / k)) W

abbrev pub paired : ℕ → ℕ → List ℕ → ℕ → List ℕ → List ℕ
paired k n P zero W = W
paired k n P (suc g) W = paired_at k n P g (paired k n P g W)

abbrev pub key_sign : ℕ → List Sign → ℕ → Sign
key_sign k signs g = times (alternating (g % k)) (get_or signs (g / k) false)

abbrev pub twin_at : ℕ → ℕ → List ℕ → List ℕ → ℕ → Bool
twin_at k n rows P g =
    seen_at n P g && (eqb (g % k) 0 && (eqb (get_or P g 0 % k) 0 && eqb (get_or rows (g / k * 8) 0) (get_or rows (get_or P g 0 / k * 8) 0)))

pub record Met (k n : ℕ) (rows : List ℕ) (signs : List Sign) (P : List ℕ) (g : ℕ) (W : List ℕ)
    (crowded repeated equal : Bool) (X : List ℕ) (crowded' repeated' equal' : Bool) : Type 0 where
  pub wings : X ≡ paired_at k n P g W
  pub twice : crowded' ≡ (seen_twice n P g || crowded)
  pub twin : repeated' ≡ (twin_at k n rows P g || repeated)
  pub like : equal' ≡ (seen_like n P (key_sign k signs) g || equal)

pub record Pairing (k n : ℕ) (rows : List ℕ) (signs : List Sign) (P : List ℕ) (m : ℕ) (W X : List ℕ) (crowded repeated equal : Bool) : Type 0 where
  pub wings : X ≡ paired k n P m W
  pub twice : crowded ≡ any_below m (seen_twice n P)
  pub twin : repeated ≡ any_below m (twin_at k n rows P)
  pub like : equal ≡ any_below m (seen_like n P (key_sign k signs))

-- How the writer of the levels goes on.
--   Moving step n v at d k out    d becomes out: the first k of its v points from `at` on are moved
--   moving_starts, moving_goes, moving_ends
--   copied            what a copy within a buffer writes
--   level_copied      a level that is copied, and then moved, is the moved level
--   Climbing step n v h ps d i out    d becomes out: levels 0 to i of h are written
--   climbing_starts, climbing_goes, climbing_ends
--   inside            where the next level goes
-- Assumes nothing.
use mathlib.Core.Path.{◌≡◌, refl, sym, ap, ◌∙◌}
use mathlib.Core.List.{List, ◌++◌, append_assoc}
use Prim.Native.Nat.{ℕ, suc, ◌+◌, ◌*◌, ◌<◌, ◌≤◌}
use native.Mathlib.Nat.{add-sub_cancel_left, suc-mul, one-mul, zero-mul, add-zero, mul_assoc}
use native.Mathlib.Numerals.{add-one}
use native.Mathlib.Omega.{arith}
use lib.Ieee.{Float}
use lib.ListN.{length, take, drop, length-drop}
use lib.Seq.{length-take-le, drop-drop}
use Rattle.std.specs.List.{copy_within}
use Rattle.words.specs.Records.{tabulate, part, concat}
use Rattle.words.specs.Inner.Placed.{placed}
use Rattle.words.proofs.Records.{record_fits, record_next, read_take, part_tabulated}
use Rattle.words.proofs.Placed.{placed_first, placed-length, placed-read, placed_over}
use Rattle.words.proofs.Writing.{Left, left_starts, left_record, left_records, left_ahead, left_read, put_part}
use Rattle.points.specs.Levels.{moved_all, level_of, levels}
use Rattle.points.specs.Step.{moved_point}
use Rattle.points.specs.declared.step.Step.{Step}
use Rattle.points.proofs.LevelLaws.{moved-long, length-moved_all, length-level, length-levels}

-- the points that are moved
abbrev source : ℕ → ℕ → ℕ → List Float → List Float
source n v at d = take (v * n) (drop at d)

abbrev pub Moving : Step → ℕ → ℕ → ℕ → List Float → ℕ → List Float → Type 0
Moving step n v at d k out =
    Left at (moved_all step n v (source n v at d)) d (at + k * n)
    (concat (drop k (tabulate v (λ p. moved_point step n (part n p (source n v at d))))))
    out

module _ (step : Step) (n v at : ℕ) (d : List Float) (room : at + v * n ≤ length d) where
  long : length (source n v at d) ≡ v * n
  long = length-take-le (v * n) (drop at d) (omega (arith, length-drop at d))

  pub moving_starts : Moving step n v at d 0 d
  moving_starts = rw (zero-mul n, add-zero at) (left_starts at _ d (omega (arith, length-moved_all step n v (source n v at d) long)))

  -- the part that is moved is m floats long, which is n
  pub moving_goes : (k : ℕ) (out last : List Float) (m : ℕ) → m ≡ n → k < v → Moving step n v at d k out →
      last ≡ moved_point step n (take m (drop (at + k * n) out)) →
      Moving step n v at d (k + 1) (take (at + k * n) out ++ (last ++ drop m (drop (at + k * n) out)))
  moving_goes k out last m e l left moved =
      let f : ℕ → List Float = λ p. moved_point step n (part n p (source n v at d)) in
      let fits : k * n + n ≤ v * n = record_fits n v k l in
      let read : take m (drop (at + k * n) out) ≡ part n k (source n v at d) =
      rw (left_ahead _ left, e, ← drop-drop (k * n) at d) (sym (read_take (v * n) (drop at d) (k * n) n (omega (arith, length-drop at d)) fits)) in
      let new : last ≡ f k = moved ∙ ap (moved_point step n) read in
      let size : length (f k) ≡ m = moved-long step n v (source n v at d) long k l ∙ sym e in
      left_record v k f l left _ _ (rw new (put_part (at + k * n) m (f k) out (at + (k + 1) * n) size (omega (arith, record_next n k))))

  pub moving_ends : (k : ℕ) (out : List Float) → v ≤ k → Moving step n v at d k out → out ≡ placed at (moved_all step n v (source n v at d)) d
  moving_ends k out h left = (left_records v k (λ p. moved_point step n (part n p (source n v at d))) h left).content

pub copied : (w from to : ℕ) (d new : List Float) → from + w ≤ length d → new ≡ copy_within d from (from + w) to →
    new ≡ placed to (take w (drop from d)) d
unfolding placed
copied w from to d new h e =
    let size : length (take w (drop from d)) ≡ w = length-take-le w (drop from d) (omega (arith, length-drop from d)) in
    e ∙ rw (add-sub_cancel_left from w, size, append_assoc)

pub level_copied : (step : Step) (n v from to : ℕ) (d : List Float) → from + v * n ≤ to → to + v * n ≤ length d →
    let s = source n v from d in let p = placed to s d in
    placed to (moved_all step n v (source n v to p)) p ≡ placed to (moved_all step n v s) d
level_copied step n v from to d apart room =
    let s = source n v from d in
    let size : length s ≡ v * n = length-take-le (v * n) (drop from d) (omega (arith, length-drop from d)) in
    let read : source n v to (placed to s d) ≡ s = rw size at (placed-read to s d (omega arith)) in
    rw read (placed_over to s (moved_all step n v s) d (omega (arith, length-moved_all step n v s size)) (omega arith))

-- level i + 1 lies within levels 0 to h, after level i
pub inside : (n v h i : ℕ) → i < h → (i * (v * n) + v * n ≤ (i + 1) * (v * n)) × ((i + 1) * (v * n) + v * n ≤ suc h * v * n)
inside n v h i l = omega (arith, record_fits (v * n) (suc h) (i + 1) (omega arith), record_next (v * n) i, mul_assoc (suc h) v n)

abbrev pub Climbing : Step → ℕ → ℕ → ℕ → List Float → List Float → ℕ → List Float → Type 0
Climbing step n v h ps d i out =
    Left 0 (levels step n v h ps) d ((i + 1) * (v * n)) (concat (drop (i + 1) (tabulate (suc h) (level_of step n v ps)))) out

module _ (step : Step) (n v h : ℕ) (ps old : List Float) (long : length ps ≡ v * n) (room : suc h * v * n ≤ length old) where
  all_long : length (levels step n v h ps) ≡ suc h * (v * n)
  all_long = length-levels step n v h ps long

  -- the buffer with the lent points, which are level 0, at its start
  first : ps ++ drop (length ps) old ≡ placed 0 ps old
  first = sym (placed_first ps old)

  fits : length ps ≤ length old
  fits = omega (arith, suc-mul h (v * n), mul_assoc (suc h) v n)

  pub climbing_starts : Climbing step n v h ps (ps ++ drop (length ps) old) 0 (ps ++ drop (length ps) old)
  climbing_starts =
      let d = ps ++ drop (length ps) old in
      let d-long : length d ≡ length old = ap length first ∙ placed-length 0 ps old (omega (arith, fits)) in
      left_record (suc h) 0 (level_of step n v ps) (omega arith)
      (left_starts 0 (levels step n v h ps) d (omega (arith, all_long, mul_assoc (suc h) v n))) _ _
      (record {
        place = omega (arith, one-mul (v * n));
        content = first ∙ sym (placed_over 0 ps ps old (omega arith) (omega (arith, fits))) ∙ ap (placed 0 ps) (sym first);
      })

  pub climbing_goes : (i : ℕ) (d out new : List Float) → i < h → Climbing step n v h ps d i out →
      new ≡ placed ((i + 1) * (v * n)) (moved_all step n v (take (v * n) (drop (i * (v * n)) out))) out → Climbing step n v h ps d (i + 1) new
  climbing_goes i d out new l left e =
      let w = v * n in
      let f = level_of step n v ps in
      let read : take w (drop (i * w) out) ≡ f i =
      left_read _ left refl (i * w) w (omega (arith, record_next w i))
      ∙ part_tabulated w (suc h) i f (λ j m. length-level step n v ps long j) (omega arith) in
      let next : moved_all step n v (take w (drop (i * w) out)) ≡ f (i + 1) = ap (moved_all step n v) read ∙ ap f (sym (add-one i)) in
      left_record (suc h) (i + 1) f (omega arith) left _ _
      (record {
        place = omega (arith, record_next w (i + 1), length-level step n v ps long (i + 1));
        content = e ∙ ap (λ xs. placed ((i + 1) * w) xs out) next;
      })

  pub climbing_ends : (i : ℕ) (out : List Float) → h ≤ i → Climbing step n v h ps (ps ++ drop (length ps) old) i out →
      out ≡ levels step n v h ps ++ drop (length (levels step n v h ps)) old
  climbing_ends i out l left =
      let all = levels step n v h ps in
      (left_records (suc h) (i + 1) (level_of step n v ps) (omega arith) left).content ∙ ap (placed 0 all) first
      ∙ placed_over 0 ps all old (omega (arith, all_long, suc-mul h (v * n))) (omega (arith, fits)) ∙ placed_first all old

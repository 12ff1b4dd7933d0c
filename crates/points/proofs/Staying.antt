-- Points that stay in range, told point by point and level by level.
--   stays_one         the first of the steps that are left
--   levels_stay_lem       all levels are in range if the lent points are and each of them stays in range
-- Assumes nothing.
use mathlib.Core.Path.{◌≡◌, refl, sym, ap, ◌∙◌}
use mathlib.Core.Bool.{true, ◌&&◌}
use mathlib.Core.List.{List}
use Prim.Native.Nat.{ℕ, zero, suc, ◌*◌, ◌<◌}
use native.Mathlib.Nat.{not-suc-le-zero, le_of_suc-le-suc}
use native.Mathlib.Omega.{arith}
use lib.Ieee.{Float}
use lib.ListN.{length}
use Rattle.words.specs.Records.{tabulate, part, all_of}
use Rattle.rules.proofs.Tests.{and_parts}
use Rattle.points.specs.Levels.{level_of, levels}
use Rattle.points.specs.Inner.Stay.{stays_in, all_stay}
use Rattle.points.specs.Step.{in_range, moved_point}
use Rattle.points.specs.declared.step.Step.{Step}
use Rattle.points.proofs.AllOf.{same_test, all_of-concat, all_of-tabulate, all_of-tabulate_at}
use Rattle.points.proofs.LevelLaws.{climbed, part-level}

pub stays_one : (step : Step) (n left rest : ℕ) (p : List Float) → left ≡ suc rest →
    stays_in step n left p ≡ (all_of in_range (moved_point step n p) && stays_in step n rest (moved_point step n p))
stays_one step n left rest p e = rw e

climbed_first : (step : Step) (n i : ℕ) (p : List Float) → climbed step n i (moved_point step n p) ≡ climbed step n (suc i) p
climbed_first step n zero p = refl
climbed_first step n (suc i) p = ap (moved_point step n) (climbed_first step n i p)

stays_each : (step : Step) (n h : ℕ) (p : List Float) → stays_in step n h p ≡ true → (i : ℕ) → i < h
    → all_of in_range (climbed step n (suc i) p) ≡ true
stays_each step n zero p e i l = absurd (not-suc-le-zero l)
stays_each step n (suc h) p e i l =
    let q = moved_point step n p in
    let parts = and_parts (all_of in_range q) (stays_in step n h q) e in
    first_or i l parts.0 (λ j m. ap (all_of in_range) (sym (climbed_first step n (suc j) p)) ∙ stays_each step n h q parts.1 j m)
  where
    first_or : (i : ℕ) → i < suc h → all_of in_range (moved_point step n p) ≡ true →
        ((j : ℕ) → j < h → all_of in_range (climbed step n (suc (suc j)) p) ≡ true) →
        all_of in_range (climbed step n (suc i) p) ≡ true
    first_or zero l a rest = a
    first_or (suc j) l a rest = rest j (le_of_suc-le-suc l)

each_stays : (step : Step) (n h : ℕ) (p : List Float) → ((i : ℕ) → i < h → all_of in_range (climbed step n (suc i) p) ≡ true) →
    stays_in step n h p ≡ true
each_stays step n zero p each = refl
each_stays step n (suc h) p each =
    let q = moved_point step n p in
    let later : stays_in step n h q ≡ true =
    each_stays step n h q (λ i l. ap (all_of in_range) (climbed_first step n (suc i) p) ∙ each (suc i) (omega arith)) in
    rw (each 0 (omega arith), later)

module _ (step : Step) (n v h : ℕ) (ps : List Float) (long : length ps ≡ v * n) where
  moved_at : ℕ → ℕ → List Float
  moved_at i k = moved_point step n (part n k (level_of step n v ps i))

  level-point : (i k : ℕ) → k < v → moved_at i k ≡ climbed step n (suc i) (part n k ps)
  unfolding moved_at
  level-point i k l = ap (moved_point step n) (part-level step n v ps long i k l)

  level_test : (i : ℕ) → all_of in_range (level_of step n v ps (suc i)) ≡ all_of (all_of in_range) (tabulate v (moved_at i))
  unfolding moved_at
  level_test i = all_of-concat in_range (tabulate v (moved_at i))

  all_then_stay : all_of in_range (levels step n v h ps) ≡ true → all_stay step n v h ps ≡ true
  all_then_stay e =
      let at : (i : ℕ) → i < suc h → all_of in_range (level_of step n v ps i) ≡ true =
      all_of-tabulate_at (all_of in_range) (suc h) (level_of step n v ps) (sym (all_of-concat in_range (tabulate (suc h) (level_of step n v ps))) ∙ e)
      in
      all_of-tabulate (stays_in step n h) v (λ k. part n k ps) (λ k l.
      each_stays step n h (part n k ps) (λ i m.
      ap (all_of in_range) (sym (level-point i k l))
      ∙ all_of-tabulate_at (all_of in_range) v (moved_at i) (sym (level_test i) ∙ at (suc i) (omega arith)) k l))

  stay_then_all : all_of in_range ps ≡ true → all_stay step n v h ps ≡ true → all_of in_range (levels step n v h ps) ≡ true
  stay_then_all start e =
      all_of-concat in_range (tabulate (suc h) (level_of step n v ps)) ∙ all_of-tabulate (all_of in_range) (suc h) (level_of step n v ps) level
    where
      level : (i : ℕ) → i < suc h → all_of in_range (level_of step n v ps i) ≡ true
      level zero l = start
      level (suc i) l =
          level_test i
          ∙ all_of-tabulate (all_of in_range) v (moved_at i) (λ k m.
          ap (all_of in_range) (level-point i k m)
          ∙ stays_each step n h (part n k ps) (all_of-tabulate_at (stays_in step n h) v (λ k. part n k ps) e k m) i (le_of_suc-le-suc l))

  pub levels_stay_lem : all_of in_range ps ≡ true → all_of in_range (levels step n v h ps) ≡ all_stay step n v h ps
  levels_stay_lem start = same_test (all_of in_range (levels step n v h ps)) (all_stay step n v h ps) all_then_stay (stay_then_all start)

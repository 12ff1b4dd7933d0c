-- What a step adds on an axis.
--   Adds step n a m               on axis a the step adds m, and does nothing else
--   slide_adds, slant_adds_first, slant_adds_second, turn_adds
--   axis_values                   the values on such an axis, level by level
--   column_at, column-first       a value of level 0, by its place among the floats
-- Assumes nothing.
use mathlib.Core.Path.{◌≡◌, refl, sym, ap, ◌∙◌}
use mathlib.Core.List.{List, map}
use Prim.Native.Nat.{ℕ, zero, suc, ◌+◌, ◌*◌, ◌-◌, ◌<◌, ◌≤◌}
use native.Mathlib.Nat.{zero-add, zero-mul, not-le_of_lt}
use native.Mathlib.Omega.{arith}
use lib.Ieee.{Float, nan, binary64, add}
use lib.ListN.{length, drop, get_or, set}
use lib.Seq.{get_or-set_same, get_or-set_other, get_or-take, get_or-drop}
use Rattle.words.specs.Records.{tabulate, part}
use Rattle.words.proofs.Records.{tabulate_at, tabulate_ext, tabulate-map, part_tabulated}
use Rattle.points.specs.Carrying.{first, on_axis}
use Rattle.points.specs.Inner.Sums.{column}
use Rattle.points.specs.Levels.{level_of, levels, sum_of}
use Rattle.points.specs.Step.{add_at, turned, moved_point}
use Rattle.points.specs.declared.step.Step.{Step}
use Rattle.points.specs.declared.step.Step.TheVariants as S
use Rattle.points.specs.declared.step.Turn.{Turn}
use Rattle.points.proofs.LevelLaws.{climbed, part_length, part-level, length-level}
use Rattle.points.proofs.Moved.{length-add, length-turned, length_moved}

abbrev pub Adds : Step → ℕ → ℕ → Float → Type 0
Adds step n a m = (p : List Float) → length p ≡ n → get_or (moved_point step n p) a nan ≡ add binary64 (get_or p a nan) m

add-here : (a : ℕ) (m : Float) (p : List Float) → a < length p → get_or (add_at a m p) a nan ≡ add binary64 (get_or p a nan) m
unfolding add_at
add-here a m p l = get_or-set_same p a (add binary64 (get_or p a nan) m) nan l

add_elsewhere : (a b : ℕ) (m : Float) (p : List Float) → (a ≡ b → ⊥) → get_or (add_at b m p) a nan ≡ get_or p a nan
unfolding add_at
add_elsewhere a b m p d = get_or-set_other p b a (add binary64 (get_or p b nan) m) nan d

pub slide_adds : (n a : ℕ) (m : Float) → a < n → Adds (S.Slide a m) n a m
unfolding moved_point
slide_adds n a m l p long = add-here a m p (omega (arith, l, long))

pub slant_adds_first : (n a b : ℕ) (x y : Float) → a < n → (a ≡ b → ⊥) → Adds (S.Slant a x b y) n a x
unfolding moved_point
slant_adds_first n a b x y l d p long = add_elsewhere a b y (add_at a x p) d ∙ add-here a x p (omega (arith, l, long))

pub slant_adds_second : (n a b : ℕ) (x y : Float) → b < n → (b ≡ a → ⊥) → Adds (S.Slant a x b y) n b y
unfolding moved_point
slant_adds_second n a b x y l d p long =
    add-here b y (add_at a x p) (omega (arith, l, long, length-add a x p)) ∙ ap (λ (z : Float). add binary64 z y) (add_elsewhere b a x p d)

turn_elsewhere : (t : Turn) (a : ℕ) (p : List Float) → 2 ≤ a → get_or (turned t p) a nan ≡ get_or p a nan
unfolding turned
turn_elsewhere t a p l =
    get_or-set_other (set p 0 _) 1 a _ nan (λ (e : a ≡ 1). not-le_of_lt l (omega (arith, e)))
    ∙ get_or-set_other p 0 a _ nan (λ (e : a ≡ 0). not-le_of_lt l (omega (arith, e)))

pub turn_adds : (n : ℕ) (t : Turn) → 3 ≤ n → Adds (S.Turn t) n (n - 1) t.rise
unfolding moved_point
turn_adds n t l p long =
    add-here (n - 1) t.rise (turned t p) (omega (arith, l, long, length-turned t p))
    ∙ ap (λ (z : Float). add binary64 z t.rise) (turn_elsewhere t (n - 1) p (omega (arith, l)))

-- the values on an axis to which a step adds m, level by level
module _ (step : Step) (n a : ℕ) (m : Float) (adds : Adds step n a m) where
  climbed_long : (i : ℕ) (p : List Float) → length p ≡ n → length (climbed step n i p) ≡ n
  climbed_long zero p long = long
  climbed_long (suc i) p long = length_moved step n (climbed step n i p) ∙ climbed_long i p long

  climbed_adds : (i : ℕ) (p : List Float) → length p ≡ n → get_or (climbed step n i p) a nan ≡ sum_of m i (get_or p a nan)
  climbed_adds zero p long = refl
  climbed_adds (suc i) p long = adds (climbed step n i p) (climbed_long i p long) ∙ ap (λ (z : Float). add binary64 z m) (climbed_adds i p long)

  module _ (v h : ℕ) (ps : List Float) (long : length ps ≡ v * n) where
    value_at : (i k : ℕ) → i < suc h → k < v
        → get_or (part n k (part (v * n) i (levels step n v h ps))) a nan ≡ sum_of m i (get_or (part n k ps) a nan)
    value_at i k l g =
        ap (λ (q : List Float). get_or (part n k q) a nan)
        (part_tabulated (v * n) (suc h) i (level_of step n v ps) (λ j b. length-level step n v ps long j) l)
        ∙ ap (λ (q : List Float). get_or q a nan) (part-level step n v ps long i k g)
        ∙ climbed_adds i (part n k ps) (part_length n v k ps g long)

    pub axis_values : on_axis n v h a (levels step n v h ps) ≡ tabulate (suc h) (λ i. map (sum_of m i) (column n v a ps))
    axis_values =
        tabulate_ext (suc h) _ _ (λ i l.
        tabulate_ext v _ _ (λ k g. value_at i k l g) ∙ sym (tabulate-map (sum_of m i) v (λ k. get_or (part n k ps) a nan)))

pub column_at : (n v a k : ℕ) (ps : List Float) → a < n → k < v → get_or (column n v a ps) k nan ≡ get_or ps (k * n + a) nan
column_at n v a k ps l g =
    tabulate_at v (λ j. get_or (part n j ps) a nan) k nan g ∙ get_or-take n (drop (k * n) ps) a nan l ∙ get_or-drop (k * n) ps a nan

pub column-first : (n v a : ℕ) (ps : List Float) → a < n → 0 < v → first (column n v a ps) ≡ get_or ps a nan
column-first n v a ps l g = column_at n v a 0 ps l g ∙ ap (λ (j : ℕ). get_or ps j nan) (rw (zero-mul n) (zero-add a))

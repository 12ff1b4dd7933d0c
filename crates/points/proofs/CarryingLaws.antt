-- Which axis carries a step, told by the lent points and the sums of one value.
--   stepwise_at, all_stepwise     sums that stand in order, one by one
--   sums-one                      the first of the sums that are left
--   axis_carries_lem                  whether an axis to which the step adds m carries it
--   slide_carries, slant-carries, turn-carries, none-carries      whether the step is carried, by its kind
-- Assumes nothing.
use mathlib.Core.Path.{◌≡◌, refl, sym, ap, ap₂, ◌∙◌}
use mathlib.Core.Bool.{Bool, true, false, ◌&&◌, ◌||◌}
use mathlib.Core.List.{List, [], ◌∷◌, map, map-id}
use Prim.Native.Nat.{ℕ, zero, suc, ◌*◌, ◌-◌, ◌<◌, ◌≤◌}
use native.Mathlib.Nat.{not-suc-le-zero, le_of_suc-le-suc}
use native.Mathlib.Omega.{arith}
use lib.Dec.{eqb}
use lib.Ieee.{Float, nan, binary64, add, lt, eq}
use lib.ListN.{length, get_or}
use borrow.Author.Tests.{ne_eqb}
use Rattle.words.specs.Records.{tabulate, part, all_of}
use Rattle.words.proofs.Records.{tabulate_ext, tabulate-map}
use Rattle.rules.proofs.Tests.{and_parts}
use Rattle.points.specs.Carrying.{first, flat, stepwise_from, gt, rises, falls, carried, on_axis, carries}
use Rattle.points.specs.Inner.Sums.{sums, climbs, axis_carries}
use Rattle.points.specs.Levels.{levels, sum_of}
use Rattle.points.specs.declared.step.Step.{Step}
use Rattle.points.specs.declared.step.Step.TheVariants as S
use Rattle.points.specs.declared.step.Turn.{Turn}
use Rattle.points.proofs.Adding.{Adds, axis_values, slide_adds, slant_adds_first, slant_adds_second, turn_adds}
use Rattle.points.proofs.AllOf.{same_test, all_of-tabulate, all_of-tabulate_at}
use Rattle.points.proofs.EqualSums.{equal-sums, above-number, below-number}

-- the values of one vertex rise, or fall, with its sums
sum_next : (m : Float) (i : ℕ) (x : Float) → sum_of m i (add binary64 x m) ≡ sum_of m (suc i) x
sum_next m zero x = refl
sum_next m (suc i) x = ap (λ (z : Float). add binary64 z m) (sum_next m i x)

sums_are : (m : Float) (h : ℕ) (x : Float) → tabulate h (λ i. sum_of m (suc i) x) ≡ sums m h x
sums_are m zero x = refl
sums_are m (suc h) x =
    ap {B = List Float} (λ r. add binary64 x m ∷ r)
    (tabulate_ext h _ _ (λ i l. sym (sum_next m (suc i) x)) ∙ sums_are m h (add binary64 x m))

module _ (r : Float → Float → Bool) (m : Float) where
  pub stepwise_at : (h : ℕ) (x : Float) → stepwise_from r x (sums m h x) ≡ true → (i : ℕ) → i < h → r (sum_of m i x) (sum_of m (suc i) x) ≡ true
  stepwise_at zero x e i l = absurd (not-suc-le-zero l)
  stepwise_at (suc h) x e zero l = (and_parts (r x (add binary64 x m)) _ e).0
  stepwise_at (suc h) x e (suc i) l =
      rw (sym (sum_next m i x))
      (stepwise_at h (add binary64 x m) (and_parts (r x (add binary64 x m)) _ e).1 i (le_of_suc-le-suc l))

  pub all_stepwise : (h : ℕ) (x : Float) → ((i : ℕ) → i < h → r (sum_of m i x) (sum_of m (suc i) x) ≡ true) → stepwise_from r x (sums m h x) ≡ true
  all_stepwise zero x each = refl
  all_stepwise (suc h) x each =
      rw (each 0 (omega arith)) (all_stepwise h (add binary64 x m) (λ i l. rw (sum_next m i x) (each (suc i) (omega (arith, l)))))

climbs-number : (m : Float) (h : ℕ) (x : Float) → climbs m h x ≡ true → (i : ℕ) → i < h → eq (sum_of m (suc i) x) (sum_of m (suc i) x) ≡ true
climbs-number m h x e = go (stepwise_from lt x (sums m h x)) refl e
  where
    go : (b : Bool) → stepwise_from lt x (sums m h x) ≡ b → (b || stepwise_from gt x (sums m h x)) ≡ true →
        (i : ℕ) → i < h → eq (sum_of m (suc i) x) (sum_of m (suc i) x) ≡ true
    go true r e i l = above-number (sum_of m i x) (sum_of m (suc i) x) (stepwise_at lt m h x r i l)
    go false r e i l = below-number (sum_of m (suc i) x) (sum_of m i x) (stepwise_at gt m h x e i l)

-- equal values stay equal
equal-sum_of : (m x y : Float) (h : ℕ) → eq x y ≡ true → ((i : ℕ) → i < h → eq (sum_of m (suc i) x) (sum_of m (suc i) x) ≡ true) →
    (i : ℕ) → i < suc h → eq (sum_of m i x) (sum_of m i y) ≡ true
equal-sum_of m x y h e number zero l = e
equal-sum_of m x y h e number (suc i) l =
    equal-sums (sum_of m i x) (sum_of m i y) m (equal-sum_of m x y h e number i (omega (arith, l))) (number i (le_of_suc-le-suc l))

all_mapped : (q r : Float → Bool) (f : Float → Float) (ys : List Float) → ((y : Float) → q y ≡ true → r (f y) ≡ true) →
    all_of q ys ≡ true → all_of r (map f ys) ≡ true
all_mapped q r f [] go e = refl
all_mapped q r f (y ∷ ys) go e = let parts = and_parts (q y) (all_of q ys) e in rw (go y parts.0) (all_mapped q r f ys go parts.1)

module _ (m : Float) (h : ℕ) (x : Float) (ys : List Float) where
  abbrev axis : List (List Float)
  axis = tabulate (suc h) (λ i. map (sum_of m i) (x ∷ ys))

  axis_firsts : map first axis ≡ x ∷ sums m h x
  axis_firsts = tabulate-map first (suc h) (λ i. map (sum_of m i) (x ∷ ys)) ∙ ap {B = List Float} (λ r. x ∷ r) (sums_are m h x)

  axis_flat : climbs m h x ≡ true → flat (x ∷ ys) ≡ true → all_of flat axis ≡ true
  axis_flat c e =
      all_of-tabulate flat (suc h) (λ i. map (sum_of m i) (x ∷ ys)) (λ i l.
      all_mapped (eq x) (eq (sum_of m i x)) (sum_of m i) (x ∷ ys) (λ y g. equal-sum_of m x y h g (climbs-number m h x c) i l) e)

  first_flat : all_of flat axis ≡ true → flat (x ∷ ys) ≡ true
  first_flat e = ap flat (sym (map-id (x ∷ ys))) ∙ all_of-tabulate_at flat (suc h) (λ i. map (sum_of m i) (x ∷ ys)) e 0 (omega arith)

  pub axis_carried : carried axis ≡ (flat (x ∷ ys) && climbs m h x)
  unfolding carried
  axis_carried =
      ap (λ (r : List Float). all_of flat axis && (rises r || falls r)) axis_firsts
      ∙ same_test (all_of flat axis && climbs m h x) (flat (x ∷ ys) && climbs m h x)
      (λ e. let parts = and_parts (all_of flat axis) (climbs m h x) e in rw (first_flat parts.0) parts.1)
      (λ e. let parts = and_parts (flat (x ∷ ys)) (climbs m h x) e in rw (axis_flat parts.1 parts.0) parts.1)

-- an axis to which the step adds m carries it exactly if the lent points tell so
pub axis_carries_lem : (step : Step) (n a : ℕ) (m : Float) → Adds step n a m → (v h : ℕ) (ps : List Float) → 0 < v → length ps ≡ v * n →
    carried (on_axis n v h a (levels step n v h ps)) ≡ axis_carries n v h a m ps
axis_carries_lem step n a m adds zero h ps l long = absurd (not-suc-le-zero l)
axis_carries_lem step n a m adds (suc w) h ps l long =
    ap carried (axis_values step n a m adds (suc w) h ps long)
    ∙ axis_carried m h (get_or (part n 0 ps) a nan) (tabulate w (λ k. get_or (part n (suc k) ps) a nan))

-- the first of the sums that are left
pub sums-one : (m : Float) (left rest : ℕ) (y : Float) → left ≡ suc rest → sums m left y ≡ add binary64 y m ∷ sums m rest (add binary64 y m)
sums-one m left rest y e = rw e

-- a step by its kind; without vertices every step is carried
module _ (n v h : ℕ) (ps : List Float) (some : 0 < v) (long : length ps ≡ v * n) where
  used : eqb v 0 ≡ false
  used = ne_eqb v 0 (λ (e : v ≡ 0). not-suc-le-zero (rw e at some))

  one_axis : (b : Bool) → (eqb v 0 || (b || false)) ≡ b
  one_axis true = rw used refl
  one_axis false = rw used refl

  two_axes : (b c : Bool) → (eqb v 0 || (b || (c || false))) ≡ (b || c)
  two_axes true c = rw used refl
  two_axes false c = one_axis c

  pub slide_carries : (a : ℕ) (x : Float) → a < n →
      carries (S.Slide a x) n v h (levels (S.Slide a x) n v h ps) ≡ axis_carries n v h a x ps
  unfolding carries
  slide_carries a x l = one_axis _ ∙ axis_carries_lem (S.Slide a x) n a x (slide_adds n a x l) v h ps some long

  pub slant-carries : (a : ℕ) (x : Float) (b : ℕ) (y : Float) → a < n → b < n → (a ≡ b → ⊥) → let step = S.Slant a x b y in
      carries step n v h (levels step n v h ps) ≡ (axis_carries n v h a x ps || axis_carries n v h b y ps)
  unfolding carries
  slant-carries a x b y l g d =
      let ls = levels (S.Slant a x b y) n v h ps in
      two_axes (carried (on_axis n v h a ls)) (carried (on_axis n v h b ls))
      ∙ ap₂ ◌||◌ (axis_carries_lem (S.Slant a x b y) n a x (slant_adds_first n a b x y l d) v h ps some long)
      (axis_carries_lem (S.Slant a x b y) n b y (slant_adds_second n a b x y g (λ (e : b ≡ a). d (sym e))) v h ps some long)

  pub turn-carries : (t : Turn) → 3 ≤ n → carries (S.Turn t) n v h (levels (S.Turn t) n v h ps) ≡ axis_carries n v h (n - 1) t.rise ps
  unfolding carries
  turn-carries t l = one_axis _ ∙ axis_carries_lem (S.Turn t) n (n - 1) t.rise (turn_adds n t l) v h ps some long

pub none-carries : (step : Step) (n h : ℕ) (ls : List Float) → carries step n 0 h ls ≡ true
unfolding carries
none-carries step n h ls = refl

-- The laws of row 17, and its examples, which are computed.
use mathlib.Core.Path.{◌≡◌, refl, sym, ap, ap₂, ◌∙◌}
use mathlib.Core.Bool.{Bool, true, false, ◌&&◌, ◌||◌, true≢false, and-false, or-true}
use mathlib.Core.List.{List}
use Prim.Native.Nat.{ℕ, zero, suc, ◌*◌, ◌-◌, ◌<◌, ◌≤◌}
use native.Mathlib.Nat.{zero-mul, zero-lt-suc}
use native.Mathlib.Omega.{arith}
use lib.Dec.{T}
use lib.IntN.{ℤ}
use lib.ListN.{length, get_or}
use lib.Ieee.{Float, nan, fin, binary64, eq, lt, fits}
use Rattle.words.specs.Records.{part}
use Rattle.words.proofs.Records.{tabulate_at}
use Rattle.points.specs.declared.step.Step.TheVariants as S
use Rattle.points.specs.declared.step.Turn.{Turn}
use Rattle.points.specs.Levels.{sum_of}
use Rattle.points.specs.Carrying.{first, flat, stepwise_from, gt}
use Rattle.points.specs.Inner.Sums.{column, sums, climbs}
use Rattle.points.proofs.AllOf.{all_of-tabulate, all_of-tabulate_at}
use Rattle.points.proofs.EqualSums.{zeros_equal, equal_unordered}
use Rattle.points.proofs.ZeroAdded.{zero_added}
use Rattle.points.proofs.Adding.{column-first}
use Rattle.points.proofs.CarryingLaws.{stepwise_at, all_stepwise, slide_carries, slant-carries, turn-carries, none-carries}
use Rattle.theorems.specs.Carrying.{Carrying, CarryingExamples, carries_all}
use Rattle.theorems.proofs.Computing.{computing}

false_unless : (b : Bool) → (b ≡ true → ⊥) → b ≡ false
false_unless true h = absurd (h refl)
false_unless false h = refl

-- a slide of some vertices, told by the lent points
module _ (n v h a : ℕ) (m : Float) (ps : List Float) (l : a < n) (long : length ps ≡ v * n) where
  told : 0 < v → carries_all (S.Slide a m) n v h ps ≡ (flat (column n v a ps) && climbs m h (get_or ps a nan))
  told some =
      slide_carries n v h ps some long a m l
      ∙ ap (λ (x : Float). flat (column n v a ps) && climbs m h x) (column-first n v a ps l some)

  level : 0 < v → ((k : ℕ) → k < v → eq (get_or ps a nan) (get_or (part n k ps) a nan) ≡ true) → flat (column n v a ps) ≡ true
  level some each =
      all_of-tabulate (eq (first (column n v a ps))) v (λ k. get_or (part n k ps) a nan)
      (λ k g. ap (λ (x : Float). eq x (get_or (part n k ps) a nan)) (column-first n v a ps l some) ∙ each k g)

  -- what is flat has a first value that equals itself
  itself : 0 < v → flat (column n v a ps) ≡ true → eq (get_or ps a nan) (get_or ps a nan) ≡ true
  itself some f =
      let value = column-first n v a ps l some in
      let front = tabulate_at v (λ k. get_or (part n k ps) a nan) 0 nan some in
      ap₂ eq (sym value) (sym value ∙ front) ∙ all_of-tabulate_at (eq (first (column n v a ps))) v (λ k. get_or (part n k ps) a nan) f 0 some

module _ (n h a : ℕ) (m : Float) (ps : List Float) (l : a < n) where
  abbrev x : Float
  x = get_or ps a nan

  abbrev Flat : ℕ → Type 0
  Flat v = (k : ℕ) → k < v → eq x (get_or (part n k ps) a nan) ≡ true

  climbing : (v : ℕ) → length ps ≡ v * n → Flat v → climbs m h x ≡ true → carries_all (S.Slide a m) n v h ps ≡ true
  climbing zero long even way = none-carries (S.Slide a m) n h _
  climbing (suc w) long even way =
      told n (suc w) h a m ps l long (zero-lt-suc w) ∙ rw (level n (suc w) h a m ps l long (zero-lt-suc w) even, way) refl

  pub upwards : (v : ℕ) → length ps ≡ v * n → Flat v → ((i : ℕ) → i < h → lt (sum_of m i x) (sum_of m (suc i) x) ≡ true) →
      carries_all (S.Slide a m) n v h ps ≡ true
  upwards v long even each = climbing v long even (rw (all_stepwise lt m h x each) refl)

  downwards : (v : ℕ) → length ps ≡ v * n → Flat v → ((i : ℕ) → i < h → lt (sum_of m (suc i) x) (sum_of m i x) ≡ true) →
      carries_all (S.Slide a m) n v h ps ≡ true
  downwards v long even each =
      climbing v long even (rw (all_stepwise gt m h x each) (or-true (stepwise_from lt x (sums m h x))))

  lost : (v : ℕ) → 0 < v → length ps ≡ v * n → (i : ℕ) → i < h → eq (sum_of m i x) (sum_of m (suc i) x) ≡ true →
      carries_all (S.Slide a m) n v h ps ≡ false
  lost v some long i g e =
      let none = equal_unordered (sum_of m i x) (sum_of m (suc i) x) e in
      let up = false_unless (stepwise_from lt x (sums m h x)) (λ r. true≢false (sym (stepwise_at lt m h x r i g) ∙ none.0)) in
      let down = false_unless (stepwise_from gt x (sums m h x)) (λ r. true≢false (sym (stepwise_at gt m h x r i g) ∙ none.1)) in
      told n v h a m ps l long some ∙ rw (up, down) (and-false (flat (column n v a ps)))

nought : (n v h a : ℕ) (s : Bool) (e : ℤ) (ps : List Float) → a < n → 0 < v → 0 < h → length ps ≡ v * n →
    T (fits binary64 (get_or ps a nan)) → carries_all (S.Slide a (fin s 0 e)) n v h ps ≡ false
nought n v h a s e ps l some steps long fit = go (eq (get_or ps a nan) (get_or ps a nan)) refl
  where
    go : (b : Bool) → eq (get_or ps a nan) (get_or ps a nan) ≡ b → carries_all (S.Slide a (fin s 0 e)) n v h ps ≡ false
    go true number = lost n h a (fin s 0 e) ps l v some long 0 steps (zero_added (get_or ps a nan) s e fit number)
    go false none =
        told n v h a (fin s 0 e) ps l long some
        ∙ ap (λ b. b && climbs (fin s 0 e) h (get_or ps a nan))
        (false_unless (flat (column n v a ps)) (λ f. true≢false (sym (itself n v h a (fin s 0 e) ps l long some f) ∙ none)))

slant : (n v h a : ℕ) (x : Float) (b : ℕ) (y : Float) (ps : List Float) → a < n → b < n → (a ≡ b → ⊥) → length ps ≡ v * n →
    carries_all (S.Slant a x b y) n v h ps ≡ (carries_all (S.Slide a x) n v h ps || carries_all (S.Slide b y) n v h ps)
slant n zero h a x b y ps l g d long =
    none-carries (S.Slant a x b y) n h _
    ∙ sym (ap (λ t. t || carries_all (S.Slide b y) n 0 h ps) (none-carries (S.Slide a x) n h _))
slant n (suc w) h a x b y ps l g d long =
    let some = zero-lt-suc w in
    slant-carries n (suc w) h ps some long a x b y l g d
    ∙ sym (ap₂ ◌||◌ (slide_carries n (suc w) h ps some long a x l) (slide_carries n (suc w) h ps some long b y g))

turn : (n v h : ℕ) (t : Turn) (ps : List Float) → 3 ≤ n → length ps ≡ v * n →
    carries_all (S.Turn t) n v h ps ≡ carries_all (S.Slide (n - 1) t.rise) n v h ps
turn n zero h t ps l long = none-carries (S.Turn t) n h _ ∙ sym (none-carries (S.Slide (n - 1) t.rise) n h _)
turn n (suc w) h t ps l long =
    turn-carries n (suc w) h ps (zero-lt-suc w) long t l
    ∙ sym (slide_carries n (suc w) h ps (zero-lt-suc w) long (n - 1) t.rise (omega (arith, l)))

zeros : (s t : Bool) (e g : ℤ) → eq (fin s 0 e) (fin t 0 g) ≡ true
zeros s t e g = zeros_equal (fin s 0 e) (fin t 0 g) s t 1 1 (zero-lt-suc 0) (zero-lt-suc 0) (refl, simp zero-mul) (refl, simp zero-mul)

pub carrying : Carrying
carrying =
    record {
      upwards = λ n v h a m ps l. upwards n h a m ps l v;
      downwards = λ n v h a m ps l. downwards n h a m ps l v;
      lost = λ n v h a m ps l. lost n h a m ps l v;
      nought = nought;
      slant = slant;
      turn = turn;
      zeros = zeros;
      single = λ x e. rw e refl;
      none = none-carries;
    }

pub carrying_examples : CarryingExamples
unfolding computing
carrying_examples =
    record {
      along_itself = refl;
      out_of_plane = refl;
      downhill = refl;
      by_nothing = refl;
      slant-within = refl;
      slant-second = refl;
      turn-within = refl;
      turn_rising = refl;
      unused_vertex = refl;
      swallowed = refl;
      first_step = refl;
      second-step = refl;
      zeros_are_flat = refl;
      meeting = refl;
    }

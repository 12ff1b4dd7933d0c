-- Row 17: a step must leave the solid's own plane. Laws that show what `carries` says, and moves that are computed. Paper, section 6.
--   carries_all step n v h ps      of the levels that move writes
--   Carrying                      the laws
--   square, lifted, point, pair   moves; CarryingExamples, what becomes of them
use Rattle.std.specs.Prelude.{◌≡◌, Bool, true, false, ◌||◌, List, [], ◌∷◌, ◌++◌, ℕ, suc, ◌*◌, ◌-◌, ◌<◌, ◌≤◌, T, ℤ, length, get_or, Float}
use Rattle.std.specs.Float.{nan, fin, binary64}
use Rattle.std.specs.Float.Ieee.{of_bits, eq, lt, fits}
use Rattle.words.specs.Records.{part}
use Rattle.rules.specs.Calls.{accepted, refused}
use Rattle.points.specs.declared.step.Step.{Step}
use Rattle.points.specs.declared.step.Step.TheVariants as S
use Rattle.points.specs.declared.step.Turn.{Turn}
use Rattle.points.specs.Levels.{levels, sum_of}
use Rattle.points.specs.Carrying.{flat, carries}
use Rattle.motion.specs.Move.{MoveInput, move_input, move_outcome}
use Rattle.theorems.specs.Shorthand.{origin, one, minus_one, large, ample}

abbrev pub carries_all : Step → ℕ → ℕ → ℕ → List Float → Bool
carries_all step n v h ps = carries step n v h (levels step n v h ps)

pub record Carrying : Type 0 where
  -- points that are flat on the axis of a slide: it is carried as long as every sum is rounded upwards,
  pub upwards : (n v h a : ℕ) (m : Float) (ps : List Float) → a < n → length ps ≡ v * n →
      ((k : ℕ) → k < v → eq (get_or ps a nan) (get_or (part n k ps) a nan) ≡ true) →
      ((i : ℕ) → i < h → lt (sum_of m i (get_or ps a nan)) (sum_of m (suc i) (get_or ps a nan)) ≡ true) →
      carries_all (S.Slide a m) n v h ps ≡ true
  -- or every sum downwards,
  pub downwards : (n v h a : ℕ) (m : Float) (ps : List Float) → a < n → length ps ≡ v * n →
      ((k : ℕ) → k < v → eq (get_or ps a nan) (get_or (part n k ps) a nan) ≡ true) →
      ((i : ℕ) → i < h → lt (sum_of m (suc i) (get_or ps a nan)) (sum_of m i (get_or ps a nan)) ≡ true) →
      carries_all (S.Slide a m) n v h ps ≡ true
  -- and not if one sum loses the amount
  pub lost : (n v h a : ℕ) (m : Float) (ps : List Float) → a < n → 0 < v → length ps ≡ v * n →
      (i : ℕ) → i < h → eq (sum_of m i (get_or ps a nan)) (sum_of m (suc i) (get_or ps a nan)) ≡ true →
      carries_all (S.Slide a m) n v h ps ≡ false
  -- amount 0, of either sign, never carries, whatever float of 64 bits the first vertex has there
  pub nought : (n v h a : ℕ) (s : Bool) (e : ℤ) (ps : List Float) → a < n → 0 < v → 0 < h → length ps ≡ v * n →
      T (fits binary64 (get_or ps a nan)) → carries_all (S.Slide a (fin s 0 e)) n v h ps ≡ false
  -- a slant is carried where one of its slides is, a turn where the slide by its rise along the last axis is
  pub slant : (n v h a : ℕ) (x : Float) (b : ℕ) (y : Float) (ps : List Float) →
      a < n → b < n → (a ≡ b → ⊥) → length ps ≡ v * n →
      carries_all (S.Slant a x b y) n v h ps ≡ (carries_all (S.Slide a x) n v h ps || carries_all (S.Slide b y) n v h ps)
  pub turn : (n v h : ℕ) (t : Turn) (ps : List Float) → 3 ≤ n → length ps ≡ v * n →
      carries_all (S.Turn t) n v h ps ≡ carries_all (S.Slide (n - 1) t.rise) n v h ps
  -- -0 equals 0; a single vertex is flat; without vertices every step passes
  pub zeros : (s t : Bool) (e g : ℤ) → eq (fin s 0 e) (fin t 0 g) ≡ true
  pub single : (x : Float) → eq x x ≡ true → flat (x ∷ []) ≡ true
  pub none : (step : Step) (n h : ℕ) (ls : List Float) → carries step n 0 h ls ≡ true

-- by their bits: -0, 1 - 2^-53, 2^-53 and 2^-40
abbrev pub minus_zero : Float
minus_zero = of_bits binary64 0x8000000000000000

abbrev pub under_one : Float
under_one = of_bits binary64 0x3fefffffffffffff

abbrev pub half_unit : Float
half_unit = of_bits binary64 0x3ca0000000000000

abbrev pub tiny : Float
tiny = of_bits binary64 0x3d70000000000000

-- a square in the plane of axes 0 and 1, in one step
abbrev pub corners : List Float
corners = (origin ∷ origin ∷ origin ∷ one ∷ origin ∷ origin ∷ []) ++ (origin ∷ one ∷ origin ∷ one ∷ one ∷ origin ∷ [])

abbrev pub square : Step → MoveInput
square step = move_input 3 4 1 step corners ample

-- a fifth vertex above it, whether or not a cell has it
abbrev pub lifted : Step → MoveInput
lifted step = move_input 3 5 1 step (corners ++ (origin ∷ origin ∷ one ∷ [])) ample

-- a point on one axis, slid by m in h steps
abbrev pub point : Float → Float → ℕ → MoveInput
point x m h = move_input 1 1 h (S.Slide 0 m) (x ∷ []) ample

abbrev pub pair : Float → Float → Float → MoveInput
pair x y m = move_input 1 2 1 (S.Slide 0 m) (x ∷ y ∷ []) ample

abbrev pub turning : Float → Step
turning rise = S.Turn (record { c = one; s = origin; rise = rise })

pub record CarryingExamples : Type 0 where
  pub along_itself : move_outcome (square (S.Slide 0 one)) ≡ refused 17
  pub out_of_plane : move_outcome (square (S.Slide 2 one)) ≡ accepted 24
  pub downhill : move_outcome (square (S.Slide 2 minus_one)) ≡ accepted 24
  pub by_nothing : move_outcome (square (S.Slide 2 origin)) ≡ refused 17
  pub slant-within : move_outcome (square (S.Slant 0 one 1 one)) ≡ refused 17
  pub slant-second : move_outcome (square (S.Slant 0 one 2 one)) ≡ accepted 24
  pub turn-within : move_outcome (square (turning origin)) ≡ refused 17
  pub turn_rising : move_outcome (square (turning one)) ≡ accepted 24
  pub unused_vertex : move_outcome (lifted (S.Slide 2 one)) ≡ refused 17
  -- 1,048,575 + 2^-40 is rounded to 1,048,575
  pub swallowed : move_outcome (point large tiny 1) ≡ refused 17
  -- 1 - 2^-53 becomes 1 in the first step, and stays 1 in the second
  pub first_step : move_outcome (point under_one half_unit 1) ≡ accepted 2
  pub second-step : move_outcome (point under_one half_unit 2) ≡ refused 17
  pub zeros_are_flat : move_outcome (pair origin minus_zero one) ≡ accepted 4
  -- 0 and 2^-53 differ, though both become 1
  pub meeting : move_outcome (pair origin half_unit one) ≡ refused 17

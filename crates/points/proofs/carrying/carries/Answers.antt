-- `carries` answers `carries`, by the cases of the step; its rule says that the axes are there. Assumes nothing.
use mathlib.Core.Path.{◌≡◌, sym, ap₂, ◌∙◌, subst}
use mathlib.Core.Bool.{◌||◌}
use mathlib.Core.List.{List}
use Prim.Native.Nat.{ℕ, ◌<◌, ◌≤◌, ◌*◌, ◌-◌}
use native.Mathlib.Omega.{arith}
use lib.Ieee.{Float}
use lib.ListN.{length}
use Rattle.points.specs.Carrying.{carries}
use Rattle.points.specs.Inner.Sums.{axis_carries}
use Rattle.points.specs.Levels.{levels}
use Rattle.points.specs.declared.step.Step.{Step}
use Rattle.points.specs.declared.step.Step.TheVariants as S
use Rattle.points.specs.declared.step.Turn.{Turn}
use Rattle.points.proofs.CarryingLaws.{slide_carries, slant-carries, turn-carries, none-carries}
use Rattle.points.proofs.Moved.{fits_slide, fits_slant, fits_turn}
use Rattle.points.proofs.carrying.carries.Goals as goal
use Rattle.points.proofs.carrying.carries.Goals.{Else-v-eq0}

-- the answer for a step of each kind
module _ (step : Step) (n v h : ℕ) where
  slides : (a : ℕ) (x : Float) (ps : List Float) → 0 < v → length ps ≡ v * n → step ≡ S.Slide a x → a < n →
      axis_carries n v h a x ps ≡ carries step n v h (levels step n v h ps)
  slides a x ps l long is g =
      subst (λ (s : Step). axis_carries n v h a x ps ≡ carries s n v h (levels s n v h ps)) (sym is) (sym (slide_carries n v h ps l long a x g))

  slants : (a : ℕ) (x : Float) (b : ℕ) (y : Float) (ps : List Float) → 0 < v → length ps ≡ v * n → step ≡ S.Slant a x b y →
      (a < n) × (b < n) × (a ≡ b → ⊥) → (axis_carries n v h a x ps || axis_carries n v h b y ps) ≡ carries step n v h (levels step n v h ps)
  slants a x b y ps l long is g =
      subst (λ (s : Step). (axis_carries n v h a x ps || axis_carries n v h b y ps) ≡ carries s n v h (levels s n v h ps)) (sym is)
      (sym (slant-carries n v h ps l long a x b y g.0 g.1 g.2))

  turns : (t : Turn) (ps : List Float) → 0 < v → length ps ≡ v * n → step ≡ S.Turn t → 3 ≤ n →
      axis_carries n v h (n - 1) t.rise ps ≡ carries step n v h (levels step n v h ps)
  turns t ps l long is g =
      subst (λ (s : Step). axis_carries n v h (n - 1) t.rise ps ≡ carries s n v h (levels s n v h ps)) (sym is)
      (sym (turn-carries n v h ps l long t g))

some : (c : Else-v-eq0) → 0 < c.args.v
some c = omega arith

pub returns-then-v-eq0 : goal.returns-then-v-eq0
returns-then-v-eq0 c =
    let a = c.args in
    let none : a.v ≡ 0 = omega arith in
    sym (rw none (none-carries a.step a.n a.h _))

pub axis_carries-requires : goal.axis_carries-requires
axis_carries-requires c =
    (c.requires.0, fits_slide _ _ _ _ c.in-Slide.is c.requires.1, some (goal.at.axis_carries-requires c).Else-v-eq0, c.requires.2)

pub axis_carries-requires-in-Slant : goal.axis_carries-requires-in-Slant
axis_carries-requires-in-Slant c =
    (c.requires.0, (fits_slant _ _ _ _ _ _ c.in-Slant.is c.requires.1).0, some (goal.at.axis_carries-requires-in-Slant c).Else-v-eq0, c.requires.2)

pub axis_carries-requires-in-Slant-2 : goal.axis_carries-requires-in-Slant-2
axis_carries-requires-in-Slant-2 c =
    (c.requires.0, (fits_slant _ _ _ _ _ _ c.in-Slant.is c.requires.1).1, some (goal.at.axis_carries-requires-in-Slant-2 c).Else-v-eq0, c.requires.2)

pub overflow_sub-n : goal.overflow_sub-n
overflow_sub-n c =
    omega (arith, fits_turn _ _ _ c.in-Turn.is c.requires.1)

pub axis_carries-requires-in-Turn : goal.axis_carries-requires-in-Turn
axis_carries-requires-in-Turn c =
    (c.requires.0, omega (arith, fits_turn _ _ _ c.in-Turn.is c.requires.1), some (goal.at.axis_carries-requires-in-Turn c).Else-v-eq0, c.requires.2)

pub returns-in-Slide : goal.returns-in-Slide
returns-in-Slide c =
    let is = c.in-Slide.is in
    c.axis_carries.ensures
    ∙ slides c.args.step _ _ _ _ _ _ (some (goal.at.returns-in-Slide c).Else-v-eq0) c.requires.2 is (fits_slide _ _ _ _ is c.requires.1)

pub returns-in-Slant : goal.returns-in-Slant
returns-in-Slant c =
    let is = c.in-Slant.is in
    ap₂ ◌||◌ c.axis_carries-in-Slant.ensures c.axis_carries-in-Slant-2.ensures
    ∙ slants c.args.step _ _ _ _ _ _ _ _ (some (goal.at.returns-in-Slant c).Else-v-eq0) c.requires.2 is (fits_slant _ _ _ _ _ _ is c.requires.1)

pub returns-in-Turn : goal.returns-in-Turn
returns-in-Turn c =
    let is = c.in-Turn.is in
    c.axis_carries-in-Turn.ensures
    ∙ turns c.args.step _ _ _ _ _ (some (goal.at.returns-in-Turn c).Else-v-eq0) c.requires.2 is (fits_turn _ _ _ is c.requires.1)

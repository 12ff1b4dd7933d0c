-- A step: slide (axis, amount), slant (two axes, an amount each) or turn (cosine, sine, rise). Paper, section 6.
-- Each operation on floats is IEEE 754's on 64 bits, rounded once, to the nearest value.
--   in_range x        rule 4: finite, and of magnitude below 1,048,576
--   on_circle t        c times c plus s times s is within 1 ± 2^-40
--   step_fits n s      rule 5: its axes are among the n of the space, and a turn is on the circle
--   moved_point s n p  a point of n axes after the step
use Rattle.std.specs.Prelude.{Bool, false, not, cond, ◌&&◌, List, [], ◌∷◌, ℕ, ◌-◌, eqb, leb, ltb, get_or, set, Float}
use Rattle.std.specs.Float.{nan, binary64}
use Rattle.std.specs.Float.Ieee.{of_bits, add, sub, mul, neg, lt, le}
use Rattle.points.specs.declared.step.Turn.{Turn}
use Rattle.points.specs.declared.step.Step.{Step}
use Rattle.points.specs.declared.step.Step.TheVariants as S

-- 1,048,576, by its bits
abbrev pub magnitude_limit : Float
magnitude_limit = of_bits binary64 4697254411347427328

unfoldable pub in_range : Float → Bool
in_range x = lt (neg magnitude_limit) x && lt x magnitude_limit

-- 1 - 2^-40 and 1 + 2^-40, by their bits
abbrev pub circle_low : Float
circle_low = of_bits binary64 4607182418800009216

abbrev pub circle_high : Float
circle_high = of_bits binary64 4607182418800021504

unfoldable pub on_circle : Turn → Bool
on_circle t = let q = add binary64 (mul binary64 t.c t.c) (mul binary64 t.s t.s) in cond (lt q circle_low) false (le q circle_high)

unfoldable pub step_fits : ℕ → Step → Bool
step_fits n (S.Slide a x) = ltb a n
step_fits n (S.Slant a x b y) = not (eqb a b) && (ltb a n && ltb b n)
step_fits n (S.Turn t) = leb 3 n && on_circle t

-- the floats that a step holds
abbrev pub step_floats : Step → List Float
step_floats (S.Slide a x) = x ∷ []
step_floats (S.Slant a x b y) = x ∷ y ∷ []
step_floats (S.Turn t) = t.c ∷ t.s ∷ t.rise ∷ []

-- x added on axis a
unfoldable pub add_at : ℕ → Float → List Float → List Float
add_at a x p = set p a (add binary64 (get_or p a nan) x)

-- first times c minus second times s, and first times s plus second times c
unfoldable pub turned : Turn → List Float → List Float
turned t p =
    let x = get_or p 0 nan in
    let y = get_or p 1 nan in
    set (set p 0 (sub binary64 (mul binary64 x t.c) (mul binary64 y t.s))) 1 (add binary64 (mul binary64 x t.s) (mul binary64 y t.c))

unfoldable pub moved_point : Step → ℕ → List Float → List Float
moved_point (S.Slide a x) n p = add_at a x p
moved_point (S.Slant a x b y) n p = add_at b y (add_at a x p)
moved_point (S.Turn t) n p = add_at (n - 1) t.rise (turned t p)

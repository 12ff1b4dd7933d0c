-- The prism identity for one row, for every length and both signs, by induction on the row.
--   OnPairs               a functional on pairs of a lower and an upper row
--   sum_prism f e b w      its sum over the prism cells of a row, cell k with the sign e^k
--   sum_lower, sum_upper    its sum over the faces of the lower, of the upper row
--   prism_faces            the sum over all faces of the prism cells
--   prism_parts            top, bottom, and the prisms of the row's faces
use mathlib.Core.Path.{◌≡◌, refl}
use mathlib.Core.Bool.{Bool, true, false, not}
use mathlib.Core.List.{[], ◌∷◌}
use Prim.Native.Nat.{ℕ, ◌+◌}
use native.Mathlib.Omega.{arith}
use Rattle.simplex.specs.Cell.{Row, times}
use Rattle.simplex.proofs.Sums.{Functional, sum_faces}

abbrev pub OnPairs : Type 0
OnPairs = Bool → Row → Row → ℕ

-- sum of f over the prism cells of a row (lower part, upper part), sign e^k: column b
abbrev pub sum_prism : OnPairs → Bool → Bool → Row → ℕ
sum_prism f e b [] = 0
sum_prism f e b (x ∷ w) = f b (x ∷ w) (x ∷ []) + sum_prism (λ c l u. f c l (x ∷ u)) e (times e b) w

sum_faces_add : (f g : Functional) (s b : Bool) (v : Row)
    → sum_faces (λ c y. f c y + g (times s c) y) b v ≡ sum_faces f b v + sum_faces g (times s b) v
sum_faces_add f g s b [] = refl
sum_faces_add f g true b (x ∷ w) = omega (arith, sum_faces_add (λ c y. f c (x ∷ y)) (λ c y. g c (x ∷ y)) true (not b) w)
sum_faces_add f g false b (x ∷ w) = omega (arith, sum_faces_add (λ c y. f c (x ∷ y)) (λ c y. g c (x ∷ y)) false (not b) w)

sum_prism_add : (f g : OnPairs) (e b : Bool) (v : Row)
    → sum_prism (λ c l u. f c l u + g (not c) l u) e b v ≡ sum_prism f e b v + sum_prism g e (not b) v
sum_prism_add f g e b [] = refl
sum_prism_add f g true b (x ∷ w) = omega (arith, sum_prism_add (λ c l u. f c l (x ∷ u)) (λ c l u. g c l (x ∷ u)) true b w)
sum_prism_add f g false b (x ∷ w) = omega (arith, sum_prism_add (λ c l u. f c l (x ∷ u)) (λ c l u. g c l (x ∷ u)) false (not b) w)

-- the two partial boundaries of (lower, upper)
abbrev pub sum_lower : OnPairs → OnPairs
sum_lower f c l u = sum_faces (λ c' y. f c' y u) c l

abbrev pub sum_upper : OnPairs → OnPairs
sum_upper f c l u = sum_faces (λ c' y. f c' l y) c u

-- e^(n+1)
abbrev pub top : Bool → Row → Bool → Bool
top e [] b = times e b
top e (x ∷ w) b = top e w (times e b)

-- columns of the two sides
abbrev pub prism_faces : OnPairs → Bool → Bool → Row → ℕ
prism_faces f e b v = sum_prism (sum_lower f) e b v + sum_prism (sum_upper f) (not e) (times e (not b)) v

abbrev pub prism_parts : OnPairs → Bool → Bool → Row → ℕ
prism_parts f e b v = f (top e v b) [] v + f (times e (not b)) v [] + sum_faces (λ c y. sum_prism f (not e) c y) b v

pub prism_identity : (f : OnPairs) (e : Bool) (v : Row) →
    prism_faces f e true v + prism_parts f e false v ≡ prism_parts f e true v + prism_faces f e false v
prism_identity f true [] = omega arith
prism_identity f false [] = omega arith
prism_identity f true (x ∷ w) =
    let fx : OnPairs = λ c l u. f c l (x ∷ u) in
    let h : Functional = λ c y. f c (x ∷ y) (x ∷ []) in
    let k : Functional = λ c y. sum_prism fx false c y in
    omega (
      arith,
      prism_identity fx true w,
      sum_prism_add f (sum_upper fx) false true w,
      sum_prism_add f (sum_upper fx) false false w,
      sum_faces_add h k false true w,
      sum_faces_add h k false false w,
    )
prism_identity f false (x ∷ w) =
    let fx : OnPairs = λ c l u. f c l (x ∷ u) in
    let h : Functional = λ c y. f c (x ∷ y) (x ∷ []) in
    let k : Functional = λ c y. sum_prism fx true c y in
    omega (
      arith,
      prism_identity fx false w,
      sum_prism_add f (sum_upper fx) true true w,
      sum_prism_add f (sum_upper fx) true false w,
      sum_faces_add h k true true w,
      sum_faces_add h k true false w,
    )

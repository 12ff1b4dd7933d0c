-- The prism identity for one cell at one level.
--   raised m w            a row with m added to each vertex
--   over_prism f lo hi     a functional summed over the prism of a row between two heights
--   at_height f m          a functional at the copy of a row at a height, with the sign (-1)^d
use mathlib.Core.Path.{◌≡◌, refl, ap, ◌∙◌, fun_ext}
use mathlib.Core.Bool.{Bool, true, false, not}
use mathlib.Core.List.{[], ◌∷◌, ◌++◌, map}
use Prim.Native.Nat.{ℕ, ◌+◌}
use native.Mathlib.Omega.{arith}
use lib.ListN.{length, length-map}
use Rattle.simplex.specs.Cell.{Row, alternating, times}
use Rattle.simplex.proofs.Signs.{not-not, times_flip, times_swap}
use Rattle.simplex.proofs.Sums.{Functional, sum_faces}
use Rattle.prism.proofs.Prism.{OnPairs, prism_identity, prism_faces, prism_parts, sum_lower, sum_prism, sum_upper, top}

-- the sweep
abbrev pub raised : ℕ → Row → Row
raised m = map (λ n. n + m)

sum_faces_append : (f : Functional) (b : Bool) (l r : Row) →
    sum_faces f b (l ++ r) ≡ sum_faces (λ c y. f c (y ++ r)) b l + sum_faces (λ c y. f c (l ++ y)) (times (alternating (length l)) b) r
sum_faces_append f b [] r = omega arith
sum_faces_append f b (x ∷ l) r = rw (← times_flip (alternating (length l)) b) (omega (arith, sum_faces_append (λ c y. f c (x ∷ y)) (not b) l r))

sum_faces_map : (f : Functional) (g : ℕ → ℕ) (b : Bool) (v : Row) → sum_faces f b (map g v) ≡ sum_faces (λ c y. f c (map g y)) b v
sum_faces_map f g b [] = refl
sum_faces_map f g b (x ∷ w) = ap (λ n. f b (map g w) + n) (sum_faces_map (λ c y. f c (g x ∷ y)) g (not b) w)

sum_prism_plus : (f g : OnPairs) (e b : Bool) (v : Row) → sum_prism (λ c l u. f c l u + g c l u) e b v ≡ sum_prism f e b v + sum_prism g e b v
sum_prism_plus f g e b [] = refl
sum_prism_plus f g e b (x ∷ w) = omega (arith, sum_prism_plus (λ c l u. f c l (x ∷ u)) (λ c l u. g c l (x ∷ u)) e (times e b) w)

sum_prism_par : (g : OnPairs) (e b : Bool) (v : Row) →
    sum_prism (λ c l t. g (times (alternating (length l)) c) l t) e b v ≡ sum_prism g (not e) (times (alternating (length v)) b) v
sum_prism_par g e b [] = refl
sum_prism_par g e b (x ∷ w) =
    ap (λ n. g (times (not (alternating (length w))) b) (x ∷ w) (x ∷ []) + n)
    (sum_prism_par (λ c l t. g c l (x ∷ t)) e (times e b) w
    ∙ ap (λ c. sum_prism (λ c l t. g c l (x ∷ t)) (not e) c w) (times_swap (alternating (length w)) e b))

-- each face has one vertex less
sum_faces_len : (F : Bool → Functional) (b : Bool) (v : Row) →
    sum_faces (λ c y. F (alternating (length y)) c y) b v ≡ sum_faces (λ c y. F (not (alternating (length v))) c y) b v
sum_faces_len F b [] = refl
sum_faces_len F b (x ∷ w) =
    rw not-not (ap (λ n. F (alternating (length w)) b w + n) (sum_faces_len (λ p c y. F (not p) c (x ∷ y)) (not b) w ∙ rw not-not refl))

abbrev pub raised_pair : Functional → ℕ → ℕ → OnPairs
raised_pair f lo hi c l t = f c (raised lo l ++ raised hi t)

sum_faces_cell : (f : Functional) (lo hi : ℕ) (c : Bool) (l t : Row) → sum_faces f c (raised lo l ++ raised hi t)
    ≡ sum_lower (raised_pair f lo hi) c l t + sum_upper (raised_pair f lo hi) (times (alternating (length l)) c) l t
sum_faces_cell f lo hi c l t =
    sum_faces_append f c (raised lo l) (raised hi t)
    ∙ rw (length-map, sum_faces_map (λ c y. f c (y ++ raised hi t)) (λ n. n + lo), sum_faces_map (λ c y. f c (raised lo l ++ y)) (λ n. n + hi)) refl

sum_prism_cell : (f : Functional) (lo hi : ℕ) (b : Bool) (v : Row) →
    sum_prism (λ c l t. sum_faces f c (raised lo l ++ raised hi t)) (not (alternating (length v))) b v
    ≡ prism_faces (raised_pair f lo hi) (not (alternating (length v))) b v
sum_prism_cell f lo hi b v =
    ap (λ (g : OnPairs). sum_prism g (not (alternating (length v))) b v) (fun_ext (λ c. fun_ext (λ l. fun_ext (λ t. sum_faces_cell f lo hi c l t))))
    ∙ sum_prism_plus (sum_lower (raised_pair f lo hi))
    (λ c l t. sum_upper (raised_pair f lo hi) (times (alternating (length l)) c) l t) (not (alternating (length v))) b v
    ∙ rw (
      sum_prism_par (sum_upper (raised_pair f lo hi)) (not (alternating (length v))) b v,
      times_flip (not (alternating (length v))) b,
      not-not (alternating (length v)),
    ) refl

top_true : (v : Row) (b : Bool) → top true v b ≡ b
top_true [] b = refl
top_true (x ∷ w) b = top_true w b

top_false : (v : Row) (b : Bool) → top false v b ≡ times (not (alternating (length v))) b
top_false [] b = refl
top_false (x ∷ w) b = top_false w (not b) ∙ times_flip (not (alternating (length w))) b

top_is : (v : Row) (b : Bool) → top (not (alternating (length v))) v b ≡ times (not (alternating (length v))) b
top_is v b = go (not (alternating (length v))) refl
  where
    go : (e : Bool) → not (alternating (length v)) ≡ e → top e v b ≡ times e b
    go true h = top_true v b
    go false h = top_false v b ∙ ap (λ e. times e b) h

-- the sign (-1)^d of a row
abbrev pub dimension_sign : Row → Bool
dimension_sign v = not (alternating (length v))

-- the copy of a chain at height m, with the sign (-1)^d
abbrev pub at_height : Functional → ℕ → Functional
at_height f m c y = f (times (dimension_sign y) c) (raised m y)

-- the prism of a row, as a functional
abbrev pub over_prism : Functional → ℕ → ℕ → Functional
over_prism f lo hi c y = sum_prism (raised_pair f lo hi) (dimension_sign y) c y

append_nil' : (v : Row) → v ++ [] ≡ v
append_nil' [] = refl
append_nil' (x ∷ w) = ap (λ t. x ∷ t) (append_nil' w)

prism_parts_is : (f : Functional) (lo hi : ℕ) (b : Bool) (v : Row) →
    prism_parts (raised_pair f lo hi) (dimension_sign v) b v ≡ at_height f hi b v + at_height f lo (not b) v + sum_faces (over_prism f lo hi) b v
prism_parts_is f lo hi b v =
    rw (top_is v b, append_nil' (raised lo v), sum_faces_len (λ p c y. sum_prism (raised_pair f lo hi) (not p) c y) b v) refl

pub cell_id : (f : Functional) (lo hi : ℕ) (b : Bool) (v : Row) →
    over_prism (sum_faces f) lo hi b v + (at_height f hi (not b) v + at_height f lo b v + sum_faces (over_prism f lo hi) (not b) v)
    ≡ (at_height f hi b v + at_height f lo (not b) v + sum_faces (over_prism f lo hi) b v) + over_prism (sum_faces f) lo hi (not b) v
cell_id f lo hi true v = omega (
  arith,
  prism_identity (raised_pair f lo hi) (dimension_sign v) v,
  sum_prism_cell f lo hi true v,
  sum_prism_cell f lo hi false v,
  prism_parts_is f lo hi true v,
  prism_parts_is f lo hi false v,
)
cell_id f lo hi false v = omega (
  arith,
  prism_identity (raised_pair f lo hi) (dimension_sign v) v,
  sum_prism_cell f lo hi true v,
  sum_prism_cell f lo hi false v,
  prism_parts_is f lo hi true v,
  prism_parts_is f lo hi false v,
)

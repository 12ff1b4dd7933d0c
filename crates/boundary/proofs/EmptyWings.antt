-- The boundary read off the empty wings of a solid's table is the solid's own: the faces that belong to one cell only.
use mathlib.Core.Path.{◌≡◌, refl, sym, ap, ap₂, ◌∙◌, subst}
use mathlib.Core.Bool.{Bool, true, false, cond}
use mathlib.Core.List.{List, [], ◌∷◌, ◌++◌, map}
use Prim.Native.Nat.{ℕ, suc, ◌+◌, ◌≤◌, ◌<◌, zero}
use native.Mathlib.Omega.{arith}
use native.Mathlib.Nat.{add-zero, zero-add}
use lib.Dec.{eqb}
use lib.ListN.{length}
use borrow.Author.Tests.{eqb-true, eqb-false, eq-eqb, ne_eqb, lt-ltb}
use Rattle.records.specs.Layout.{empty}
use Rattle.simplex.specs.Cell.{Cell, Row, Sign, cell, filled, one}
use Rattle.simplex.specs.Chain.{total}
use Rattle.simplex.specs.Faces.{all_faces, faces, keep}
use Rattle.simplex.proofs.Cancel.{lone_in}
use Rattle.simplex.proofs.Each.{All, All_both, All-keep, All-map}
use Rattle.simplex.proofs.FaceCounts.{all_in, faces-filled, facets-none, facets-same, keep_all, keep_append}
use Rattle.simplex.proofs.FaceCounts.{keep_ext, total-faces, two_long}
use Rattle.simplex.proofs.Rows.{Long}
use Rattle.solids.specs.Table.{entries_from, table_of}
use Rattle.solids.specs.Wings.{has_face, neighbour_from, wings_of}
use Rattle.solids.proofs.Neighbours.{Wing, face_in-total, has_filled, neighbour-empty, neighbour_is, others_with, others_with_ge, others_with_pick}
use Rattle.solids.proofs.Neighbours.{total-face_in}
use Rattle.solids.proofs.Solid.{Solid, row_at}
use Rattle.boundary.specs.Boundary.{at_empty, boundary_of, own_boundary}

empty-keep : (g : Row → ℕ) (L : List Cell) → at_empty L (map (λ f. g f.row) L) ≡ keep (λ c. eqb (g c.row) 65535) L
empty-keep g [] = refl
empty-keep g (c ∷ L) = ap (λ r. cond (eqb (g c.row) 65535) (c ∷ r) r) (empty-keep g L)

faces_have : (s : Bool) (m : ℕ) (v : Row) → 2 ≤ length v → All (λ w. has_face w v ≡ true) (faces s m v)
faces_have s m v l =
    All-map (λ w. (0 < total w (faces s m v)) × (filled w ≡ true)) (λ w. has_face w v ≡ true) (faces s m v)
    (λ w h. rw h.1 (lt-ltb 0 (total w (faces true 0 v)) (omega (arith, h.0, total-faces w s m v, total-faces w true 0 v))))
    (All_both (λ w. 0 < total w (faces s m v)) (λ w. filled w ≡ true) (faces s m v) (all_in (faces s m v)) (faces-filled s m v l))

module _ (nv : ℕ) (all : List Cell) (s : Solid nv all) (two : All (λ v. 2 ≤ length v) all) (small : length all ≤ empty) where
  lone_eq : (p : ℕ) (w : Row) → p < length all → has_face w (row_at all p) ≡ true →
      eqb (neighbour_from p 0 w all) 65535 ≡ lone_in (all_faces all) w
  lone_eq p w hp hf = go (eqb (neighbour_from p 0 w all) 65535) refl
    where
      count : others_with p 0 w all + 1 ≡ total w (all_faces all)
      count = omega (
        arith,
        total-face_in w all (has_filled w (row_at all p) hf) s.asc,
        face_in-total w all,
        others_with_pick p 0 w all hp,
        ap (λ m. others_with m 0 w all) (zero-add p),
        ap one hf,
      )

      far : Wing p 0 w all (neighbour_from p 0 w all) → 1 ≤ others_with p 0 w all
      far r = omega (arith, others_with_ge p 0 r.0 w all r.1 r.3, ap one r.4)

      go : (t : Bool) → eqb (neighbour_from p 0 w all) 65535 ≡ t → t ≡ lone_in (all_faces all) w
      go true e = sym (eq-eqb (total w (all_faces all)) 1
          (omega (arith, count, neighbour-empty p 0 w all (omega arith) (eqb-true (neighbour_from p 0 w all) 65535 e))))
      go false e = sym
          (ne_eqb (total w (all_faces all)) 1
          (λ z. omega (arith, count, far (neighbour_is p 0 w all (eqb-false (neighbour_from p 0 w all) 65535 e)))))

  bd_from : (p : ℕ) (cs : List Cell) → All (λ v. 2 ≤ length v) cs →
      p + length cs ≤ length all → ((n : ℕ) → n < length cs → row_at cs n ≡ row_at all (p + n)) →
      boundary_of (entries_from all p cs) ≡ keep (λ c. lone_in (all_faces all) c.row) (all_faces cs)
  bd_from p [] a l h = refl
  bd_from p (c ∷ cs) a l h =
      ap₂ {C = List Cell} (λ a b. a ++ b)
      (ap (keep (λ f. filled f.row)) (empty-keep (λ w. neighbour_from p 0 w all) (faces c.sign c.material c.row))
      ∙ keep_all filled (keep (λ f. eqb (neighbour_from p 0 f.row all) 65535) (faces c.sign c.material c.row))
      (All-keep (λ w. filled w ≡ true) (λ f. eqb (neighbour_from p 0 f.row all) 65535) (faces c.sign c.material c.row)
      (faces-filled c.sign c.material c.row a.0))
      ∙ keep_ext (λ w. has_face w c.row ≡ true) (λ w. eqb (neighbour_from p 0 w all) 65535)
      (lone_in (all_faces all)) (faces c.sign c.material c.row) (faces_have c.sign c.material c.row a.0)
      (λ w e. lone_eq p w (omega arith) (subst (λ v. has_face w v ≡ true) (h 0 (omega arith) ∙ ap (row_at all) (add-zero p)) e)))
      (bd_from (suc p) cs a.1 (omega arith) (λ n k. h (suc n) (omega arith) ∙ ap (row_at all) (omega arith)))
      ∙ sym (keep_append (λ c. lone_in (all_faces all) c.row) (faces c.sign c.material c.row) (all_faces cs))

  pub boundary-told : boundary_of (table_of all) ≡ own_boundary all
  boundary-told = bd_from 0 all two (omega arith) (λ n k. ap (row_at all) (sym (zero-add n)))
      ∙ ap (λ F. keep (λ c. lone_in F c.row) F) (sym (facets-same all two))

-- in dimension 0 both are empty
points_none : (all : List Cell) (p : ℕ) (cs : List Cell) → All (Long 1) cs → boundary_of (entries_from all p cs) ≡ []
points_none all p [] a = refl
points_none all p (c ∷ cs) a =
    ap₂ {C = List Cell} (λ a b. a ++ b) (one-point c.sign c.material c.row (wings_of all p c) a.0) (points_none all (suc p) cs a.1)
  where
    one-point : (s : Sign) (m : ℕ) (v : Row) (ws : List ℕ) → length v ≡ 1 → keep (λ f. filled f.row) (at_empty (faces s m v) ws) ≡ []
    one-point s m [] ws e = refl
    one-point s m (x ∷ []) [] e = refl
    one-point s m (x ∷ []) (w ∷ ws) e = go (eqb w empty)
      where
        go : (t : Bool) → keep (λ f. filled f.row) (cond t (cell s m [] ∷ []) []) ≡ []
        go true = refl
        go false = refl
    one-point s m (x ∷ (y ∷ v)) ws e = absurd (omega arith)

-- for every dimension
pub boundary-own : (nv d : ℕ) (cs : List Cell) → Solid nv cs → All (Long (suc d)) cs → length cs ≤ empty →
    boundary_of (table_of cs) ≡ own_boundary cs
boundary-own nv zero cs s long small = points_none cs 0 cs long ∙ sym (ap (λ F. keep (λ c. lone_in F c.row) F) (facets-none cs long))
boundary-own nv (suc d) cs s long small = boundary-told nv cs s (two_long d cs long) small

-- Boundary faces from a place of a table on, and a walk along them.
--   from_start, from_end      from the first place on all are left, behind the last cell none
--   from_next                 behind its last position a cell is done
--   from_here, from_skip      at a position on the boundary stands a face, at another none
--   between-goes, between_ends    a position passed is told, and the whole cell
--   position-found            a cell that has one has a position on the boundary
--   face_next, face_less      where the walk stops stands one, and behind it one less is left
--   Walked f .. at old p a cur buf    of all faces, put from `at` on by f, those from (p, a) on are left
--   walk_starts, walk_fits, walk_goes, walk_ends      all are left; the next one fits; it is put; none is left
-- Assumes nothing.
use mathlib.Core.Path.{◌≡◌, refl, sym, ap, ◌∙◌, subst}
use mathlib.Core.Bool.{Bool, true, false, cond, ◌&&◌, ◌||◌}
use mathlib.Core.List.{List, [], ◌∷◌, ◌++◌, map}
use Prim.Native.Nat.{ℕ, zero, suc, ◌+◌, ◌≤◌, ◌<◌}
use native.Mathlib.Nat.{lt_of_not-le}
use native.Mathlib.Omega.{arith}
use lib.Dec.{eqb, ltb}
use borrow.Author.Tests.{lt-ltb}
use lib.ListN.{length, drop, drop_of_length-le}
use Rattle.words.specs.Records.{part, concat}
use Rattle.words.specs.Inner.Placed.{Put}
use Rattle.words.proofs.Records.{tabulate-length}
use Rattle.words.proofs.Loops.{drop_next}
use Rattle.words.proofs.Writing.{Left, left_starts, left_ends, left_fits, left_goes}
use Rattle.simplex.specs.Cell.{Row, Cell, filled, no_cell}
use Rattle.simplex.specs.Faces.{faces, keep, without}
use Rattle.simplex.proofs.Faces.{faces-length, face_at_lem}
use Rattle.simplex.proofs.FaceCounts.{without-filled}
use Rattle.records.specs.Layout.{Entry, empty, record_size, table_length, entry_in, entries_of}
use Rattle.records.specs.Inner.Inside.{wing_in}
use Rattle.records.proofs.Places.{record_long, row-long, wings-long, entry_at_lem}
use Rattle.boundary.specs.Boundary.{at_empty, boundary_of}
use Rattle.boundary.specs.Inner.Walk.{table_faces, face_at, on_boundary, entries_from, faces_from, AtFace, NextPosition, Between, NextFace}

-- a face has a vertex, except in dimension 0
filled-face : (d a : ℕ) (w : Row) → length w ≡ suc d → a ≤ d → filled (without a w) ≡ ltb 0 d
filled-face d a [] e h = absurd (omega arith)
filled-face zero zero (x ∷ []) e h = refl
filled-face zero (suc a) (x ∷ []) e h = absurd (omega arith)
filled-face (suc d) a (x ∷ []) e h = absurd (omega arith)
filled-face zero a (x ∷ y ∷ w) e h = absurd (omega arith)
filled-face (suc d) a (x ∷ y ∷ w) e h = without-filled a (x ∷ y ∷ w) (omega arith) (omega arith) ∙ sym (lt-ltb 0 (suc d) (omega arith))

-- a face is kept where its wing is empty and it has a vertex
keep_at : (q : Cell → Bool) (t u : Bool) (f : Cell) (r more : List Cell) → q f ≡ u →
    keep q (cond t (f ∷ r) r) ++ more ≡ cond (u && t) (f ∷ (keep q r ++ more)) (keep q r ++ more)
keep_at q true true f r more e = rw e
keep_at q true false f r more e = rw e
keep_at q false true f r more e = refl
keep_at q false false f r more e = refl

start_all : (es : List Entry) → entries_from 0 es ≡ boundary_of es
start_all [] = refl
start_all (e ∷ es) = refl

module _ (d s : ℕ) (ws : List ℕ) where
  entries_long : length (entries_of d s ws) ≡ s
  entries_long = tabulate-length s (entry_in d ws)

  pub from_start : faces_from d s ws 0 0 ≡ table_faces d s ws
  unfolding faces_from
  from_start = start_all (entries_of d s ws)

  pub from_end : (p a : ℕ) → s ≤ p → faces_from d s ws p a ≡ []
  unfolding faces_from
  from_end p a h = ap (entries_from a) (drop_of_length-le (entries_of d s ws) {i = p} (omega (arith, entries_long)))

module _ (d s : ℕ) (ws : List ℕ) (size : length ws ≡ table_length d s) (p a : ℕ) (hp : p < s) where
  abbrev here : Entry
  here = entry_in d ws p

  abbrev fs : List Cell
  fs = faces here.cell.sign here.cell.material here.cell.row

  entries_next : drop p (entries_of d s ws) ≡ here ∷ drop (p + 1) (entries_of d s ws)
  entries_next =
      drop_next here (entries_of d s ws) p (omega (arith, entries_long d s ws))
      ∙ ap (λ e. e ∷ drop (p + 1) (entries_of d s ws)) (entry_at_lem d s p ws here hp)

  long : length (part (record_size d) p ws) ≡ record_size d
  long = record_long d s p ws hp size

  row : length here.cell.row ≡ suc d
  row = row-long d (part (record_size d) p ws) long

  many : length fs ≡ suc d
  many = faces-length here.cell.sign here.cell.material here.cell.row ∙ row

  pub from_next : d < a → faces_from d s ws p a ≡ faces_from d s ws (p + 1) 0
  unfolding faces_from
  from_next h =
      rw (entries_next, drop_of_length-le fs {i = a} (omega (arith, many))) (sym (start_all (drop (p + 1) (entries_of d s ws))))

  pub between_ends : d < a → (t : Bool) → Between d s ws p p a t → Between d s ws p (p + 1) 0 t
  between_ends h true b = omega (arith, ap length (from_next h))
  between_ends h false b = b ∙ from_next h

  module _ (ha : a ≤ d) where
    faces_next : drop a fs ≡ face_at d ws p a ∷ drop (a + 1) fs
    faces_next =
        drop_next no_cell fs a (omega (arith, many))
        ∙ ap (λ f. f ∷ drop (a + 1) fs) (face_at_lem here.cell.sign here.cell.material here.cell.row a (omega (arith, row)))

    wings_next : drop a here.wings ≡ wing_in d ws p a ∷ drop (a + 1) here.wings
    wings_next = drop_next empty here.wings a (omega (arith, wings-long d (part (record_size d) p ws) long))

    from_at : faces_from d s ws p a
        ≡ cond (on_boundary d ws p a) (face_at d ws p a ∷ faces_from d s ws p (a + 1)) (faces_from d s ws p (a + 1))
    unfolding faces_from
    from_at =
        rw (entries_next, faces_next, wings_next)
        (keep_at (λ f. filled f.row) (eqb (wing_in d ws p a) empty) (ltb 0 d) (face_at d ws p a)
        (at_empty (drop (a + 1) fs) (drop (a + 1) here.wings))
        (boundary_of (drop (p + 1) (entries_of d s ws))) (filled-face d a here.cell.row row ha))

    pub from_here : on_boundary d ws p a ≡ true → faces_from d s ws p a ≡ face_at d ws p a ∷ faces_from d s ws p (a + 1)
    from_here e = rw e at from_at

    pub from_skip : on_boundary d ws p a ≡ false → faces_from d s ws p a ≡ faces_from d s ws p (a + 1)
    from_skip e = rw e at from_at

    pub between-goes : (t : Bool) → Between d s ws p p a t → Between d s ws p p (a + 1) (t || on_boundary d ws p a)
    between-goes t b = go t (on_boundary d ws p a) b refl
      where
        go : (t o : Bool) → Between d s ws p p a t → on_boundary d ws p a ≡ o → Between d s ws p p (a + 1) (t || o)
        go true true b e = omega (arith, ap length (from_here e))
        go true false b e = omega (arith, ap length (from_skip e))
        go false true b e = omega (arith, ap length b, ap length (from_here e))
        go false false b e = b ∙ from_skip e

pub position-found : {d s : ℕ} {ws : List ℕ} {p b : ℕ} → length ws ≡ table_length d s → p < s → Between d s ws p (p + 1) 0 true →
    NextPosition d s ws p 0 b → b ≤ d
position-found {d} {s} {ws} {p} {b} size hp some n =
    let here : b < suc d = lt_of_not-le (λ h. omega (arith, ap length (n.same ∙ from_next d s ws size p b hp h))) in
    omega arith

module _ {d s : ℕ} {ws : List ℕ} (size : length ws ≡ table_length d s) {p a : ℕ} (at : AtFace d s ws p a) (hp : p < s) where
  pub face_next : faces_from d s ws p a ≡ face_at d ws p a ∷ faces_from d s ws p (a + 1)
  face_next = from_here d s ws size p a hp (at.position hp) (at.found hp)

  pub face_less : {q b : ℕ} → NextFace d s ws p (a + 1) q b → length (faces_from d s ws p a) ≡ suc (length (faces_from d s ws q b))
  face_less n = ap length face_next ∙ ap (λ fs. suc (length fs)) n.same

pub record Walked (f : Cell → List ℕ) (d s : ℕ) (ws : List ℕ) (at : ℕ) (old : List ℕ) (p a cur : ℕ) (buf : List ℕ) : Type 0 where
  pub place : AtFace d s ws p a
  pub left : Left at (concat (map f (table_faces d s ws))) old cur (concat (map f (faces_from d s ws p a))) buf

module _ {f : Cell → List ℕ} {d s : ℕ} {ws : List ℕ} {at : ℕ} {old : List ℕ} where
  pub walk_starts : {p a : ℕ} → NextFace d s ws 0 0 p a → at + length (concat (map f (table_faces d s ws))) ≤ length old →
      Walked f d s ws at old p a at old
  walk_starts {p} {a} n h =
      let all = concat (map f (table_faces d s ws)) in
      let same = sym (from_start d s ws) ∙ n.same in
      record { place = n.place; left = subst (λ fs. Left at all old at (concat (map f fs)) old) same (left_starts at all old h) }

  module _ {p a cur : ℕ} {buf : List ℕ} (w : Walked f d s ws at old p a cur buf) where
    pub walk_ends : s ≤ p → Put at (concat (map f (table_faces d s ws))) old cur buf
    walk_ends h = left_ends (rw (from_end d s ws p a h) at w.left)

    module _ (size : length ws ≡ table_length d s) (hp : p < s) where
      here_left : Left at (concat (map f (table_faces d s ws))) old cur (f (face_at d ws p a) ++ concat (map f (faces_from d s ws p (a + 1)))) buf
      here_left = rw (face_next size w.place hp) at w.left

      pub walk_fits : cur + length (f (face_at d ws p a)) ≤ length buf
      walk_fits = left_fits (f (face_at d ws p a)) (concat (map f (faces_from d s ws p (a + 1)))) here_left

      pub walk_goes : {q b next : ℕ} {new : List ℕ} → NextFace d s ws p (a + 1) q b → Put cur (f (face_at d ws p a)) buf next new →
          Walked f d s ws at old q b next new
      walk_goes {q} {b} {next} {new} n put =
          let rest = left_goes (f (face_at d ws p a)) (concat (map f (faces_from d s ws p (a + 1)))) next new here_left put in
          record { place = n.place; left = rw n.same at rest }

-- The three kinds of swept face, and the bound on each.
use mathlib.Core.Path.{◌≡◌, refl, sym, ap, ◌∙◌, subst}
use mathlib.Core.Bool.{Bool, true, false, cond, ◌&&◌, false≢true}
use mathlib.Core.List.{List, [], ◌∷◌, ◌++◌}
use Prim.Native.Nat.{ℕ, zero, suc, ◌+◌, ◌≤◌, ◌<◌}
use native.Mathlib.Omega.{arith}
use native.Mathlib.Decide.{dec_lt, ℕ_discrete}
use lib.Dec.{eqb}
use borrow.Author.Tests.{eqb-true, eq-eqb, ne_eqb}
use Rattle.simplex.specs.Cell.{Cell, Row, filled, one, same_row}
use Rattle.simplex.specs.Chain.{sum_rows, total}
use Rattle.simplex.specs.Faces.{all_faces, facets}
use Rattle.simplex.specs.Sort.{Asc}
use Rattle.simplex.proofs.Cancel.{total-keep}
use Rattle.simplex.proofs.Counts.{count_faces, sum_rows-all_faces, sum_rows_count_faces_zero, sum_rows_le, sum_rows_zero}
use Rattle.simplex.proofs.Rows.{hits, same_row_true}
use Rattle.solids.proofs.Solid.{Solid}
use Rattle.prism.specs.Cells.{sweep_of}
use Rattle.prism.proofs.Decode.{level_in}
use Rattle.prism.proofs.FaceBounds.{base_in, across_levels, lower_in, sweep_bound, upper_in}
use Rattle.prism.proofs.PrismCounts.{doubled, rest}

cond_same : (j h m : ℕ) → j ≡ h → cond (eqb j h) m 0 ≡ m
cond_same j h m e = rw (eq-eqb j h e) refl

pub cond_other : (j h m : ℕ) → (j ≡ h → ⊥) → cond (eqb j h) m 0 ≡ 0
cond_other j h m e = rw (ne_eqb j h e) refl

across_levels_before : (j m f h : ℕ) → h < j → across_levels j m f h ≡ 0
across_levels_before j m f zero l = refl
across_levels_before j m f (suc h) l =
    omega (
      arith,
      across_levels_before j m f h (omega arith),
      cond_other j h m (λ e. omega arith),
      cond_other j h f (λ e. omega arith),
      cond_other j (suc h) f (λ e. omega arith),
    )

across_levels_at : (j m f : ℕ) → across_levels j m f j ≤ f
across_levels_at zero m f = omega arith
across_levels_at (suc j) m f =
    omega (
      arith,
      across_levels_before (suc j) m f j (omega arith),
      cond_other (suc j) j m (λ e. omega arith),
      cond_other (suc j) j f (λ e. omega arith),
      cond_same (suc j) (suc j) f refl,
    )

across_levels_after : (j m f h : ℕ) → j < h → across_levels j m f h ≡ across_levels j m f j + m + f
across_levels_after j m f zero l = absurd (omega arith)
across_levels_after j m f (suc h) l = go (ℕ_discrete j h) (λ n. across_levels_after j m f h (omega arith))
  where
    go : Dec (j ≡ h) → ((j ≡ h → ⊥) → across_levels j m f h ≡ across_levels j m f j + m + f)
        → across_levels j m f (suc h) ≡ across_levels j m f j + m + f
    go (yes e) ih = omega (arith, ap (across_levels j m f) e, cond_same j h m e, cond_same j h f e, cond_other j (suc h) f (λ e. omega arith))
    go (no n) ih = omega (arith, ih n, cond_other j h m n, cond_other j h f n, cond_other j (suc h) f (λ e. omega arith))

pub across_levels_le : (j m f h : ℕ) → across_levels j m f h ≤ m + f + f
across_levels_le j m f h = go (dec_lt j h) (dec_lt h j)
  where
    go : Dec (j < h) → Dec (h < j) → across_levels j m f h ≤ m + f + f
    go (yes l) _ = omega (arith, across_levels_after j m f h l, across_levels_at j m f)
    go (no n) (yes l) = omega (arith, across_levels_before j m f h l)
    go (no n) (no k) = let e : h ≡ j = omega arith in omega (arith, ap (across_levels j m f) e, across_levels_at j m f)

across_levels_zero : (m f h : ℕ) → across_levels 0 m f h ≤ m + f
across_levels_zero m f zero = omega arith
across_levels_zero m f (suc h) = omega (arith, across_levels_after 0 m f (suc h) (omega arith))

no_dbl : (a b : Row) → doubled a b ≡ true → Asc (b ++ a) → ⊥
no_dbl a [] d s = false≢true d
no_dbl [] (y ∷ []) d s = false≢true d
no_dbl (x ∷ a) (y ∷ []) d s = omega (arith, eqb-true y x d)
no_dbl a (y ∷ z ∷ b) d s = no_dbl a (z ∷ b) d s.1

abbrev pub inner_count : List Cell → Row → Row → ℕ
inner_count cs a b = sum_rows (λ v. one (filled b && same_row v (b ++ a))) cs

abbrev pub side_count : List Cell → Row → Row → ℕ
side_count cs a b = sum_rows (count_faces (λ y. one (doubled a b && same_row y (b ++ rest a)))) cs

abbrev pub flat_count : List Cell → Row → Row → ℕ
flat_count cs a b = sum_rows (λ v. one (same_row [] b && same_row v a)) cs

pub data Kind (cs : List Cell) (a b : Row) : Type 0 where
  is_flat : b ≡ [] → inner_count cs a b ≡ 0 → side_count cs a b ≡ 0 → flat_count cs a b ≤ 1 → Kind cs a b
  is_side : doubled a b ≡ true → inner_count cs a b ≡ 0 → side_count cs a b ≡ total (b ++ rest a) (facets cs) → flat_count cs a b ≡ 0 → Kind cs a b
  is_inner : doubled a b ≡ false → inner_count cs a b ≤ 1 → side_count cs a b ≡ 0 → flat_count cs a b ≡ 0 → Kind cs a b

asc_not : (a b : Row) → doubled a b ≡ true → (v : Row) → Asc v → one (same_row v (b ++ a)) ≤ 0
asc_not a b d v s = go (same_row v (b ++ a)) (same_row_true v (b ++ a))
  where
    go : (t : Bool) → (t ≡ true → v ≡ b ++ a) → one t ≤ 0
    go true h = absurd (no_dbl a b d (subst Asc (h refl) s))
    go false h = omega arith

pub kind_of : (nv : ℕ) (cs : List Cell) → Solid nv cs → (a b : Row) → Kind cs a b
kind_of nv cs s a [] = is_flat refl (sum_rows_zero cs) (sum_rows_count_faces_zero cs) (s.distinct a)
kind_of nv cs s a (y ∷ b) = go (doubled a (y ∷ b)) refl
  where
    go : (t : Bool) → doubled a (y ∷ b) ≡ t → Kind cs a (y ∷ b)
    go true e =
        is_side e (omega (arith, sum_rows_le Asc (λ v. one (same_row v ((y ∷ b) ++ a))) (λ v. 0) cs s.asc (asc_not a (y ∷ b) e), sum_rows_zero cs))
        (rw e (sym (sum_rows-all_faces (hits ((y ∷ b) ++ rest a)) cs) ∙ sym (total-keep filled ((y ∷ b) ++ rest a) (all_faces cs))))
        (sum_rows_zero cs)
    go false e = is_inner e (s.distinct ((y ∷ b) ++ a)) (rw e (sum_rows_count_faces_zero cs)) (sum_rows_zero cs)

-- how many faces of swept cells stand on the row w: in all, where its level is the lowest, and where it is the highest
module _ (nv : ℕ) (cs : List Cell) (s : Solid nv cs) (h : ℕ) (w : Row) where
  abbrev inner : ℕ
  inner = inner_count cs (lower_in nv w) (upper_in nv w)

  abbrev side : ℕ
  side = side_count cs (lower_in nv w) (upper_in nv w)

  abbrev flat : ℕ
  flat = flat_count cs (lower_in nv w) (upper_in nv w)

  at_level_lem : (j : ℕ) → level_in nv w ≡ j → total w (all_faces (sweep_of nv h cs)) ≤ across_levels j (inner + inner + side) flat h
  at_level_lem j e = omega (arith, sweep_bound nv h w cs s.rows, ap (λ j. across_levels j (inner + inner + side) flat h) e)

  pub on_any : total w (all_faces (sweep_of nv h cs)) ≤ inner + inner + side + flat + flat
  on_any = omega (arith, at_level_lem _ refl, across_levels_le (level_in nv w) (inner + inner + side) flat h)

  pub on_bottom : level_in nv w ≡ 0 → total w (all_faces (sweep_of nv h cs)) ≤ inner + inner + side + flat
  on_bottom e = omega (arith, at_level_lem 0 e, across_levels_zero (inner + inner + side) flat h)

  pub on_top : level_in nv w ≡ h → total w (all_faces (sweep_of nv h cs)) ≤ flat
  on_top e = omega (arith, at_level_lem h e, across_levels_at h (inner + inner + side) flat)

  -- no row is a face of more than two swept cells
  pub swept_meet : total w (all_faces (sweep_of nv h cs)) ≤ 2
  swept_meet = go (kind_of nv cs s (lower_in nv w) (upper_in nv w))
    where
      go : Kind cs (lower_in nv w) (upper_in nv w) → total w (all_faces (sweep_of nv h cs)) ≤ 2
      go (is_flat e i k f) = omega (arith, on_any)
      go (is_side e i k f) = omega (arith, on_any, s.meet (base_in nv w))
      go (is_inner e i k f) = omega (arith, on_any)

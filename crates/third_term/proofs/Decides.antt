-- Two solids are equal, list order aside, exactly when the boundaries of their sweeps are: materials included.
--   forth             equal solids have equal boundaries: every count of the boundary is a sum over the solid
--   back              the boundary's faces on the solid's own vertices are the solid, turned over
-- Assumes nothing.
use mathlib.Core.Path.{◌≡◌, refl, sym, ap, ap₂, ◌∙◌, fun_ext, subst}
use mathlib.Core.Logic.{◌⊎◌, inl, inr}
use mathlib.Core.Bool.{Bool, true, false, cond, ◌&&◌, and-false}
use mathlib.Core.List.{List, [], ◌∷◌}
use Prim.Native.Nat.{ℕ, zero, ◌+◌, ◌*◌, ◌/◌, ◌≤◌, ◌<◌}
use native.Mathlib.Omega.{arith}
use native.Mathlib.Nat.{zero-mul, add-zero, div-eq_of_lt}
use lib.Dec.{eqb}
use borrow.Author.Tests.{eq-eqb, eqb-false, eqb-true}
use Rattle.simplex.specs.Cell.{Cell, Row, Sign, filled, one, same_row, times}
use Rattle.simplex.specs.Chain.{count_on, of_material, Same, total}
use Rattle.simplex.specs.Faces.{all_faces, facets}
use Rattle.simplex.proofs.Cancel.{count-keep, lone_in, plus-minus, restricted, sum_chain_keep}
use Rattle.simplex.proofs.Counts.{sum_chain_sum_rows, sum_rows_count_faces_zero}
use Rattle.simplex.proofs.Materials.{same_chain, same-material}
use Rattle.simplex.proofs.Rows.{Below, Good, hits, same_row_true}
use Rattle.simplex.proofs.Signs.{not-not}
use Rattle.simplex.proofs.Sums.{Functional, plus_on, sum_chain, sum_chain_all_faces, sum_chain_not, sum_faces}
use Rattle.solids.proofs.Solid.{Solid}
use Rattle.solids.proofs.Tests.{count-sum, seen}
use Rattle.prism.specs.Cells.{sweep_of}
use Rattle.prism.proofs.Decode.{level_in, uppers}
use Rattle.prism.proofs.FaceBounds.{lower_in, upper_in}
use Rattle.prism.proofs.FaceKinds.{side_count}
use Rattle.prism.proofs.Level.{at_height, dimension_sign, raised}
use Rattle.prism.proofs.Pairs.{no_side, off_level}
use Rattle.third_term.proofs.BoundarySum.{bd_is, over_sweep, sum_chain_sweep, swept_boundary}
use Rattle.third_term.proofs.OneMaterial.{made-alone, made-boundary, made_le, made-solid}

-- the faces of a sweep, as a functional of the cells swept
abbrev over_faces : Functional → ℕ → ℕ → Functional
over_faces f nv h = over_sweep (sum_faces (restricted filled f)) nv h

faces-sum : (f : Functional) (nv h : ℕ) (b : Bool) (cs : List Cell) → sum_chain f b (facets (sweep_of nv h cs)) ≡ sum_chain (over_faces f nv h) b cs
faces-sum f nv h b cs =
    sum_chain_keep filled f b (all_faces (sweep_of nv h cs)) ∙ sum_chain_all_faces (restricted filled f) b (sweep_of nv h cs)
    ∙ sum_chain_sweep (sum_faces (restricted filled f)) nv h b cs

-- the count of a signed face of one material, as a sum over the solid's cells of that material
made-sum : (nv h m : ℕ) (cs : List Cell) (s : Sign) (w : Row) →
    count_on s w (of_material m (swept_boundary nv h cs))
    ≡ sum_chain (over_faces (restricted (lone_in (facets (sweep_of nv h cs))) (plus_on w)) nv h) s (of_material m cs)
made-sum nv h m cs s w =
    let lone : Row → Bool = lone_in (facets (sweep_of nv h cs)) in
    count-sum s w (of_material m (swept_boundary nv h cs)) ∙ ap (sum_chain (plus_on w) s) (made-boundary nv h m cs)
    ∙ sum_chain_keep lone (plus_on w) s (facets (sweep_of nv h (of_material m cs)))
    ∙ faces-sum (restricted lone (plus_on w)) nv h s (of_material m cs)

pub forth : (nv h : ℕ) (xa xb : List Cell) → Same xa xb → Same (swept_boundary nv h xa) (swept_boundary nv h xb)
forth nv h xa xb e m s w =
    made-sum nv h m xa s w
    ∙ same-material xa xb e m (over_faces (restricted (lone_in (F xa)) (plus_on w)) nv h) s
    ∙ ap (λ (q : Row → Bool). sum_chain (over_faces (restricted q (plus_on w)) nv h) s (of_material m xb))
    (fun_ext (λ v. ap (λ n. eqb n 1) (totals v)))
    ∙ sym (made-sum nv h m xb s w)
  where
    F : List Cell → List Cell
    F cs = facets (sweep_of nv h cs)

    count : (v : Row) (cs : List Cell) → total v (F cs) ≡ sum_chain (over_faces (λ c y. hits v y) nv h) true cs
    count v cs = sym (sum_chain_sum_rows (hits v) true (F cs)) ∙ faces-sum (λ c y. hits v y) nv h true cs

    -- a face stands as often in the one sweep as in the other
    totals : (v : Row) → total v (F xa) ≡ total v (F xb)
    totals v = count v xa ∙ same_chain xa xb e (over_faces (λ c y. hits v y) nv h) true ∙ sym (count v xb)

low-level : (nv : ℕ) (w : Row) → Good nv w → level_in nv w ≡ 0
low-level nv [] g = refl
low-level nv (x ∷ w) g = div-eq_of_lt g.1.0

low_highs : (nv : ℕ) (w : Row) → Below nv w → uppers nv 0 w ≡ []
low_highs nv [] b = refl
low_highs nv (x ∷ w) b = rw (eq-eqb (x / nv) 0 (div-eq_of_lt b.0)) (low_highs nv w b.1)

pub raised_zero : (nv : ℕ) (v : Row) → raised (zero * nv) v ≡ v
raised_zero nv [] = refl
raised_zero nv (x ∷ v) = ap₂ {C = Row} (λ a b. a ∷ b) (rw (zero-mul nv) (add-zero x)) (raised_zero nv v)

sum_chain_times : (e : Bool) (f : Functional) (b : Bool) (cs : List Cell) → sum_chain (λ c y. f (times e c) y) b cs ≡ sum_chain f (times e b) cs
sum_chain_times true f b cs = refl
sum_chain_times false f b cs = sum_chain_not f b cs

at_bottom : (nv : ℕ) (w : Row) (b : Bool) (cs : List Cell) →
    sum_chain (at_height (plus_on w) (zero * nv)) b cs ≡ sum_chain (plus_on w) (times (dimension_sign w) b) cs
at_bottom nv w b cs =
    ap (λ (f : Functional). sum_chain f b cs) (fun_ext (λ c. fun_ext (λ y. go c y))) ∙ sum_chain_times (dimension_sign w) (plus_on w) b cs
  where
    same : (y : Row) (e c t : Bool) → (t ≡ true → y ≡ w) → one (times (dimension_sign y) c && t) ≡ one (times (dimension_sign w) c && t)
    same y e c true h = rw (h refl) refl
    same y e c false h = rw (and-false (times (dimension_sign y) c), and-false (times (dimension_sign w) c)) refl

    go : (c : Bool) (y : Row) → at_height (plus_on w) (zero * nv) c y ≡ plus_on w (times (dimension_sign w) c) y
    go c y = rw (raised_zero nv y) (same y (dimension_sign y) c (same_row y w) (same_row_true y w))

-- the counts on a row, by signs turned over or not
turned-total : (e : Bool) (w : Row) (cs : List Cell) →
    sum_chain (plus_on w) (times e true) cs + sum_chain (plus_on w) (times e false) cs ≡ total w cs
turned-total true w cs = plus-minus w cs
turned-total false w cs = omega (arith, plus-minus w cs)

turned-back : (e b : Bool) → times e (times e b) ≡ b
turned-back true b = refl
turned-back false b = not-not b

-- on a row of the solid's vertices the sweep's boundary has what the solid has, turned over,
module _ (nv h : ℕ) (some : 0 < h) (w : Row) (g : Good nv w) where
  bottom : (cs : List Cell) → Solid nv cs →
      sum_chain (plus_on w) true (swept_boundary nv h cs) + sum_chain (plus_on w) (times (dimension_sign w) true) cs
      ≡ sum_chain (plus_on w) (times (dimension_sign w) false) cs + sum_chain (plus_on w) false (swept_boundary nv h cs)
  bottom cs s =
      omega (
        arith,
        bd_is nv cs s h (plus_on w),
        at_bottom nv w true cs,
        at_bottom nv w false cs,
        off_level nv cs s h w true apart,
        off_level nv cs s h w false apart,
        no_side nv cs s h w true none,
        no_side nv cs s h w false none,
      )
    where
      apart : level_in nv w ≡ h → ⊥
      apart k = omega (arith, low-level nv w g)

      none : side_count cs (lower_in nv w) (upper_in nv w) ≡ 0
      none = ap (side_count cs (lower_in nv w)) (ap (λ j. uppers nv j w) (low-level nv w g) ∙ low_highs nv w g.1) ∙ sum_rows_count_faces_zero cs

  -- and so it is with each material
  made-bottom : (m : ℕ) (cs : List Cell) → Solid nv cs →
      sum_chain (plus_on w) true (of_material m (swept_boundary nv h cs)) + sum_chain (plus_on w) (times (dimension_sign w) true) (of_material m cs)
      ≡ sum_chain (plus_on w) (times (dimension_sign w) false) (of_material m cs) + sum_chain (plus_on w) false
      (of_material m (swept_boundary nv h cs))
  made-bottom m cs s = go (lone_in F w) refl (lone_in M w) refl
    where
      F : List Cell
      F = facets (sweep_of nv h cs)

      M : List Cell
      M = facets (sweep_of nv h (of_material m cs))

      -- faces of the material, of all, and of what is made of the material alone
      part : (b : Bool) → sum_chain (plus_on w) b (of_material m (swept_boundary nv h cs)) ≡ cond (lone_in F w) (sum_chain (plus_on w) b M) 0
      part b = ap (sum_chain (plus_on w) b) (made-boundary nv h m cs) ∙ count-keep (lone_in F) w b M

      whole : (b : Bool) → sum_chain (plus_on w) b (swept_boundary nv h cs) ≡ cond (lone_in F w) (sum_chain (plus_on w) b F) 0
      whole b = count-keep (lone_in F) w b F

      own : (b : Bool) → sum_chain (plus_on w) b (swept_boundary nv h (of_material m cs)) ≡ cond (lone_in M w) (sum_chain (plus_on w) b M) 0
      own b = count-keep (lone_in M) w b M

      go : (t : Bool) → lone_in F w ≡ t → (u : Bool) → lone_in M w ≡ u →
          sum_chain (plus_on w) true (of_material m (swept_boundary nv h cs)) + sum_chain (plus_on w) (times (dimension_sign w) true)
          (of_material m cs)
          ≡ sum_chain (plus_on w) (times (dimension_sign w) false) (of_material m cs) + sum_chain (plus_on w) false
          (of_material m (swept_boundary nv h cs))
      go true p true q =
          omega (
            arith,
            bottom (of_material m cs) (made-solid nv m cs s),
            rw p at (part true),
            rw p at (part false),
            rw q at (own true),
            rw q at (own false),
          )
      go true p false q =
          omega (
            arith,
            bottom (of_material m cs) (made-solid nv m cs s),
            rw p at (part true),
            rw p at (part false),
            rw q at (own true),
            rw q at (own false),
            eqb-true (total w F) 1 p,
            eqb-false (total w M) 1 q,
            made-alone nv h m cs w,
            plus-minus w M,
          )
      go false p u q =
          omega (
            arith,
            bottom cs s,
            rw p at (part true),
            rw p at (part false),
            rw p at (whole true),
            rw p at (whole false),
            s.distinct w,
            turned-total (dimension_sign w) w cs,
            made_le m (plus_on w) (times (dimension_sign w) true) cs,
            made_le m (plus_on w) (times (dimension_sign w) false) cs,
          )

module _ (nv h : ℕ) (xa xb : List Cell) (sa : Solid nv xa) (sb : Solid nv xb) where
  pub back : 0 < h → Same (swept_boundary nv h xa) (swept_boundary nv h xb) → Same xa xb
  back some e m s w =
      count-sum s w (of_material m xa)
      ∙ go (seen (Good nv) w xa sa.rows) (seen (Good nv) w xb sb.rows)
      ∙ sym (count-sum s w (of_material m xb))
    where
      faces : (b : Bool) → sum_chain (plus_on w) b (of_material m (swept_boundary nv h xa))
          ≡ sum_chain (plus_on w) b (of_material m (swept_boundary nv h xb))
      faces b = sym (count-sum b w (of_material m (swept_boundary nv h xa))) ∙ e m b w ∙ count-sum b w (of_material m (swept_boundary nv h xb))

      once : (cs : List Cell) → Solid nv cs →
          sum_chain (plus_on w) (times (dimension_sign w) true) (of_material m cs)
          + sum_chain (plus_on w) (times (dimension_sign w) false) (of_material m cs) ≤ 1
      once cs c = omega (arith, turned-total (dimension_sign w) w (of_material m cs), (made-solid nv m cs c).distinct w)

      same : Good nv w → (b : Bool) →
          sum_chain (plus_on w) (times (dimension_sign w) b) (of_material m xa)
          ≡ sum_chain (plus_on w) (times (dimension_sign w) b) (of_material m xb)
      same g true =
          omega (arith, made-bottom nv h some w g m xa sa, made-bottom nv h some w g m xb sb, faces true, faces false, once xa sa, once xb sb)
      same g false =
          omega (arith, made-bottom nv h some w g m xa sa, made-bottom nv h some w g m xb sb, faces true, faces false, once xa sa, once xb sb)

      case : Good nv w → sum_chain (plus_on w) s (of_material m xa) ≡ sum_chain (plus_on w) s (of_material m xb)
      case g =
          subst (λ t. sum_chain (plus_on w) t (of_material m xa) ≡ sum_chain (plus_on w) t (of_material m xb)) (turned-back (dimension_sign w) s)
          (same g (times (dimension_sign w) s))

      none : (cs : List Cell) → total w cs ≡ 0 → (b : Bool) → sum_chain (plus_on w) b (of_material m cs) ≡ 0
      none cs z true = omega (arith, plus-minus w cs, made_le m (plus_on w) true cs)
      none cs z false = omega (arith, plus-minus w cs, made_le m (plus_on w) false cs)

      go : (total w xa ≡ 0) ⊎ Good nv w → (total w xb ≡ 0) ⊎ Good nv w →
          sum_chain (plus_on w) s (of_material m xa) ≡ sum_chain (plus_on w) s (of_material m xb)
      go (inl p) (inl q) = none xa p s ∙ sym (none xb q s)
      go (inl p) (inr g) = case g
      go (inr g) q = case g

-- The swept faces that do not stand alone cancel.
use mathlib.Core.Path.{◌≡◌, refl, sym, ap₂, ◌∙◌}
use mathlib.Core.Bool.{Bool, true, false, not, cond, false≢true}
use mathlib.Core.List.{List, [], ◌∷◌, ◌++◌, map}
use Prim.Native.Nat.{ℕ, zero, suc, ◌+◌, ◌*◌, ◌≤◌, ◌<◌}
use native.Mathlib.Omega.{arith}
use native.Mathlib.Decide.{ℕ_discrete}
use lib.Dec.{eqb}
use borrow.Author.Tests.{eqb-true, eqb-false}
use Rattle.simplex.specs.Cell.{Cell, Row, filled, one, same_row, times}
use Rattle.simplex.specs.Chain.{sum_rows, total}
use Rattle.simplex.specs.Faces.{all_faces, faces, facets, prefixed}
use Rattle.simplex.proofs.Cancel.{Balanced, Paired, count-keep, lone_in, on_bal, plus-minus, restricted}
use Rattle.simplex.proofs.Each.{All, All-append}
use Rattle.simplex.proofs.Counts.{cond_le, one_and, sum_chain_le, sum_rows-all_faces}
use Rattle.simplex.proofs.Rows.{Below, Good, hits}
use Rattle.simplex.proofs.Sums.{Functional, plus_on, sum_chain, sum_chain_all_faces, sum_chain_append}
use Rattle.solids.proofs.Solid.{Solid}
use Rattle.prism.specs.Cells.{level, sweep_of}
use Rattle.prism.proofs.Decode.{level_in}
use Rattle.prism.proofs.FaceBounds.{base_in, copies_bound, count_prism_bound, flat_on, lower_in, raised_row, side_on}
use Rattle.prism.proofs.FaceBounds.{upper_in}
use Rattle.prism.proofs.FaceKinds.{Kind, cond_other, flat_count, inner_count, is_flat, is_inner, is_side, kind_of, on_any, on_bottom, on_top}
use Rattle.prism.proofs.FaceKinds.{side_count}
use Rattle.prism.proofs.Level.{at_height, dimension_sign, over_prism, raised, raised_pair}
use Rattle.prism.proofs.Prism.{OnPairs, sum_prism}
use Rattle.prism.proofs.PrismCounts.{count_prism, doubled, rest}
use Rattle.prism.proofs.SweptSums.{sum_chain_level, sweep_id}

sum_prism_le_count_prism : (f : OnPairs) (g : Row → Row → ℕ) (e b : Bool) (v : Row) →
    ((c : Bool) (l u : Row) → f c l u ≤ g l u) → sum_prism f e b v ≤ count_prism g v
sum_prism_le_count_prism f g e b [] h = omega arith
sum_prism_le_count_prism f g e b (x ∷ w) h =
    omega (
      arith,
      h b (x ∷ w) (x ∷ []),
      sum_prism_le_count_prism (λ c l u. f c l (x ∷ u)) (λ l u. g l (x ∷ u)) e (times e b) w (λ c l u. h c l (x ∷ u)),
    )

ind_le : (w : Row) (c : Bool) (y : Row) → plus_on w c y ≤ hits w y
ind_le w true y = omega arith
ind_le w false y = omega arith

All_front : (nv x : ℕ) (cs : List Cell) → x < nv → All (Below nv) cs → All (Below nv) (map (prefixed x) cs)
All_front nv x [] l a = tt
All_front nv x (c ∷ cs) l a = ((l, a.0), All_front nv x cs l a.1)

faces-below : (nv : ℕ) (s : Bool) (m : ℕ) (v : Row) → Below nv v → All (Below nv) (faces s m v)
faces-below nv s m [] b = tt
faces-below nv s m (x ∷ w) b = (b.1, All_front nv x (faces (not s) m w) b.0 (faces-below nv (not s) m w b.1))

all_faces-below : (nv : ℕ) (cs : List Cell) → All (Good nv) cs → All (Below nv) (all_faces cs)
all_faces-below nv [] a = tt
all_faces-below nv (c ∷ cs) a =
    All-append (Below nv) (faces c.sign c.material c.row) (all_faces cs)
    (faces-below nv c.sign c.material c.row a.0.1) (all_faces-below nv cs a.1)

over_prism_bound : (nv i : ℕ) (w : Row) (c : Bool) (y : Row) → Below nv y → over_prism (plus_on w) (i * nv) (suc i * nv) c y ≤ side_on nv w y
over_prism_bound nv i w c y b =
    omega (
      arith,
      sum_prism_le_count_prism (raised_pair (plus_on w) (i * nv) (suc i * nv)) (raised_row (hits w) (i * nv) (suc i * nv))
          (dimension_sign y) c y (λ c l u. ind_le w c (raised (i * nv) l ++ raised (suc i * nv) u)),
      count_prism_bound nv i w y b,
      cond_le (eqb (level_in nv w) i) (side_on nv w y),
    )

-- where the row is no side, the sweep of the faces has nothing on it
sweep_none : (nv h : ℕ) (w : Row) (b : Bool) (F : List Cell) → All (Below nv) F →
    sum_rows (side_on nv w) F ≡ 0 → sum_chain (plus_on w) b (sweep_of nv h F) ≡ 0
sweep_none nv zero w b F a e = refl
sweep_none nv (suc h) w b F a e =
    omega (
      arith,
      sum_chain_append (plus_on w) b (sweep_of nv h F) (level nv h F),
      sweep_none nv h w b F a e,
      sum_chain_level (plus_on w) nv h b F,
      sum_chain_le (Below nv) (over_prism (plus_on w) (h * nv) (suc h * nv)) (side_on nv w) b F a (λ c y q. over_prism_bound nv h w c y q),
    )

-- a functional that is 0 off the row r
sum_chain_off : (nv : ℕ) (r : Row) (f : Functional) (b : Bool) (F : List Cell) →
    All (Below nv) F → ((c : Bool) (y : Row) → Below nv y → f c y ≤ hits r y) →
    sum_chain f b F ≡ sum_chain (restricted (λ y. same_row y r) f) b F
sum_chain_off nv r f b [] a h = refl
sum_chain_off nv r f b (c ∷ F) a h = ap₂ (λ m n. m + n)
    (go (same_row c.row r) (f (times c.sign b) c.row) (h (times c.sign b) c.row a.0)) (sum_chain_off nv r f b F a.1 h)
  where
    go : (t : Bool) (n : ℕ) → n ≤ one t → n ≡ cond t n 0
    go true n l = refl
    go false n l = omega arith

-- where the faces on the side's base row cancel, so do the swept ones
sweep_bal : (nv h : ℕ) (w : Row) (F : List Cell) → All (Below nv) F →
    Balanced (base_in nv w) F → Balanced w (sweep_of nv h F)
sweep_bal nv zero w F a e = refl
sweep_bal nv (suc h) w F a e =
    let r : Row = base_in nv w in
    let f : Functional = over_prism (plus_on w) (h * nv) (suc h * nv) in
    omega (
      arith,
      sum_chain_append (plus_on w) true (sweep_of nv h F) (level nv h F),
      sum_chain_append (plus_on w) false (sweep_of nv h F) (level nv h F),
      sweep_bal nv h w F a e,
      sum_chain_level (plus_on w) nv h true F,
      sum_chain_level (plus_on w) nv h false F,
      sum_chain_off nv r f true F a (off h),
      sum_chain_off nv r f false F a (off h),
      on_bal f r F e,
    )
  where
    off : (h : ℕ) (c : Bool) (y : Row) → Below nv y → over_prism (plus_on w) (h * nv) (suc h * nv) c y ≤ hits (base_in nv w) y
    off h c y q =
        omega (arith, over_prism_bound nv h w c y q, one_and (doubled (lower_in nv w) (upper_in nv w)) (same_row y (base_in nv w)))

at_height_le : (nv i : ℕ) (w : Row) (b : Bool) (cs : List Cell) → All (Good nv) cs →
    sum_chain (at_height (plus_on w) (i * nv)) b cs ≤ cond (eqb (level_in nv w) i) (sum_rows (flat_on nv w) cs) 0
at_height_le nv i w b cs a =
    omega (
      arith,
      sum_chain_le (Good nv) (at_height (plus_on w) (i * nv)) (λ v. hits w (raised (i * nv) v))
          b cs a (λ c y q. ind_le w (times (dimension_sign y) c) (raised (i * nv) y)),
      copies_bound nv i w cs a,
    )

doubled_filled : (a b : Row) → doubled a b ≡ true → filled (b ++ rest a) ≡ true
doubled_filled a [] e = absurd (false≢true e)
doubled_filled a (y ∷ b) e = refl

module _ (nv : ℕ) (cs : List Cell) (s : Solid nv cs) where
  -- the faces of swept cells on w cancel where the copies below and above have nothing on it and the sweep of the faces cancels
  bal : (h : ℕ) (w : Row) →
      ((b : Bool) → sum_chain (at_height (plus_on w) (h * nv)) b cs ≡ 0) → ((b : Bool) → sum_chain (at_height (plus_on w) (0 * nv)) b cs ≡ 0) →
      Balanced w (sweep_of nv h (all_faces cs)) → Balanced w (all_faces (sweep_of nv h cs))
  bal h w top low e = omega (
    arith,
    sweep_id (plus_on w) nv h cs,
    sum_chain_all_faces (plus_on w) true (sweep_of nv h cs),
    sum_chain_all_faces (plus_on w) false (sweep_of nv h cs),
    top true,
    top false,
    low true,
    low false,
  )

  few : (h : ℕ) (w : Row) → lone_in (all_faces (sweep_of nv h cs)) w ≡ false → total w (all_faces (sweep_of nv h cs)) ≤ 1 →
      Balanced w (all_faces (sweep_of nv h cs))
  few h w n l = let z = eqb-false (total w (all_faces (sweep_of nv h cs))) 1 n in omega (arith, plus-minus w (all_faces (sweep_of nv h cs)))

  pub no_side : (h : ℕ) (w : Row) (b : Bool) → side_count cs (lower_in nv w) (upper_in nv w) ≡ 0
      → sum_chain (plus_on w) b (sweep_of nv h (all_faces cs)) ≡ 0
  no_side h w b e = sweep_none nv h w b (all_faces cs) (all_faces-below nv cs s.rows) (sum_rows-all_faces (side_on nv w) cs ∙ e)

  no_copy : (i : ℕ) (w : Row) (b : Bool) → flat_count cs (lower_in nv w) (upper_in nv w) ≡ 0 → sum_chain (at_height (plus_on w) (i * nv)) b cs ≡ 0
  no_copy i w b e = omega (arith, at_height_le nv i w b cs s.rows, cond_le (eqb (level_in nv w) i) (sum_rows (flat_on nv w) cs))

  pub off_level : (i : ℕ) (w : Row) (b : Bool) → (level_in nv w ≡ i → ⊥) → sum_chain (at_height (plus_on w) (i * nv)) b cs ≡ 0
  off_level i w b e = omega (arith, at_height_le nv i w b cs s.rows, cond_other (level_in nv w) i (sum_rows (flat_on nv w) cs) e)

  whole : (r : Row) → filled r ≡ true → Balanced r (facets cs) → Balanced r (all_faces cs)
  whole r n e = omega (arith, rw n at (count-keep filled r true (all_faces cs)), rw n at (count-keep filled r false (all_faces cs)))

  pub swept-paired : (h : ℕ) → Paired (all_faces (sweep_of nv h cs))
  swept-paired h w n = go (kind_of nv cs s (lower_in nv w) (upper_in nv w))
    where
      go_flat : Dec (level_in nv w ≡ h) → Dec (level_in nv w ≡ 0) → side_count cs (lower_in nv w) (upper_in nv w) ≡ 0 →
          inner_count cs (lower_in nv w) (upper_in nv w) ≡ 0 → flat_count cs (lower_in nv w) (upper_in nv w) ≤ 1
          → Balanced w (all_faces (sweep_of nv h cs))
      go_flat (yes e) _ k i f = few h w n (omega (arith, on_top nv cs s h w e))
      go_flat (no e) (yes z) k i f = few h w n (omega (arith, on_bottom nv cs s h w z))
      go_flat (no e) (no z) k i f =
          bal h w (λ b. off_level h w b e) (λ b. off_level 0 w b z) (no_side h w true k ∙ sym (no_side h w false k))

      no_flat : flat_count cs (lower_in nv w) (upper_in nv w) ≡ 0 → Balanced w (sweep_of nv h (all_faces cs))
          → Balanced w (all_faces (sweep_of nv h cs))
      no_flat f = bal h w (λ b. no_copy h w b f) (λ b. no_copy 0 w b f)

      go_side : (t : Bool) → lone_in (facets cs) (base_in nv w) ≡ t → side_count cs (lower_in nv w) (upper_in nv w) ≡ total (base_in nv w) (facets cs)
          →
          doubled (lower_in nv w) (upper_in nv w) ≡ true → inner_count cs (lower_in nv w) (upper_in nv w) ≡ 0 →
          flat_count cs (lower_in nv w) (upper_in nv w) ≡ 0 → Balanced w (all_faces (sweep_of nv h cs))
      go_side true e k y i f = few h w n (omega (arith, on_any nv cs s h w, eqb-true (total (base_in nv w) (facets cs)) 1 e))
      go_side false e k y i f =
          no_flat f (sweep_bal nv h w (all_faces cs) (all_faces-below nv cs s.rows)
          (whole (base_in nv w) (doubled_filled (lower_in nv w) (upper_in nv w) y) (s.paired (base_in nv w) e)))

      go : Kind cs (lower_in nv w) (upper_in nv w) → Balanced w (all_faces (sweep_of nv h cs))
      go (is_flat e i k f) = go_flat (ℕ_discrete (level_in nv w) h) (ℕ_discrete (level_in nv w) 0) k i f
      go (is_side e i k f) = go_side (lone_in (facets cs) (base_in nv w)) refl k e i f
      go (is_inner e i k f) = no_flat f (no_side h w true k ∙ sym (no_side h w false k))

-- The prism identity for a list of cells and all levels.
--   prisms                the prism cells of a row, one after the other
--   swept_parts            top copy, solid, and the sweep of the solid's faces
use mathlib.Core.Path.{◌≡◌, refl, sym, ap, ap₂, ◌∙◌}
use mathlib.Core.Bool.{Bool, true, false, not}
use mathlib.Core.List.{List, [], ◌∷◌, ◌++◌}
use Prim.Native.Nat.{ℕ, zero, suc, ◌+◌, ◌*◌, ◌-◌}
use native.Mathlib.Omega.{arith}
use native.Mathlib.Nat.{suc-mul, zero-mul, zero-add, suc-add}
use lib.ListN.{length, take, drop}
use lib.Seq.{append_snoc}
use Rattle.words.specs.Records.{tabulate}
use Rattle.words.proofs.Records.{tabulate_ext}
use Rattle.simplex.specs.Cell.{Cell, Row, Sign, alternating, cell, times}
use Rattle.simplex.specs.Faces.{all_faces}
use Rattle.simplex.proofs.Signs.{not-not, times_not, times_not_r, times-times}
use Rattle.simplex.proofs.Sums.{Functional, sum_chain, sum_chain_add, sum_chain_all_faces, sum_chain_append, sum_chain_not, sum_faces}
use Rattle.prism.specs.Cells.{level, prism, sweep_of}
use Rattle.prism.proofs.Level.{at_height, cell_id, dimension_sign, over_prism, raised}
use Rattle.prism.proofs.Prism.{sum_prism}

abbrev pub prisms : Sign → Sign → ℕ → ℕ → ℕ → Row → Row → List Cell
prisms e s m lo hi u [] = []
prisms e s m lo hi u (x ∷ w) = cell s m (raised lo (x ∷ w) ++ (u ++ (x + hi) ∷ [])) ∷ prisms e (times e s) m lo hi (u ++ (x + hi) ∷ []) w

alternating-add : (m n : ℕ) → alternating (m + n) ≡ times (alternating m) (alternating n)
alternating-add zero n = rw (zero-add n) refl
alternating-add (suc m) n = rw (suc-add m n) (ap not (alternating-add m n) ∙ sym (times_not (alternating m) (alternating n)))

prisms_are : (d : ℕ) (s : Sign) (m lo hi : ℕ) (u w : Row) →
    prisms (alternating d) s m lo hi u w
    ≡ tabulate (length w) (λ k. cell (times (alternating (k * d)) s) m (raised lo (drop k w) ++ (u ++ raised hi (take (suc k) w))))
prisms_are d s m lo hi u [] = refl
prisms_are d s m lo hi u (x ∷ w) =
    ap₂ {C = List Cell} (λ c cs. c ∷ cs) (rw (zero-mul d) refl)
    (prisms_are d (times (alternating d) s) m lo hi (u ++ (x + hi) ∷ []) w
    ∙ tabulate_ext (length w) _ _
    (λ k h. ap₂ (λ t r. cell t m r) (sign k) (ap (λ r. raised lo (drop k w) ++ r) (append_snoc u (x + hi) (raised hi (take (suc k) w))))))
  where
    sign : (k : ℕ) → times (alternating (k * d)) (times (alternating d) s) ≡ times (alternating (suc k * d)) s
    sign k = sym (times-times (alternating (k * d)) (alternating d) s)
        ∙ ap (λ t. times t s) (sym (alternating-add (k * d) d) ∙ ap alternating (sym (suc-mul k d)))

-- the prism of a cell, one cell after the other
pub prism_is : (nv i : ℕ) (c : Cell) → prism nv i c ≡ prisms (dimension_sign c.row) c.sign c.material (i * nv) (suc i * nv) [] c.row
prism_is nv i c = go c.sign c.material c.row
  where
    go : (s : Sign) (m : ℕ) (w : Row) → prism nv i (cell s m w) ≡ prisms (dimension_sign w) s m (i * nv) (suc i * nv) [] w
    go s m [] = refl
    go s m (x ∷ w) =
        sym (ap (λ e. prisms e s m (i * nv) (suc i * nv) [] (x ∷ w)) sign
        ∙ prisms_are (suc (length w) - 1) s m (i * nv) (suc i * nv) [] (x ∷ w))
      where
        sign : dimension_sign (x ∷ w) ≡ alternating (suc (length w) - 1)
        sign = let e : length w ≡ suc (length w) - 1 = omega arith in not-not (alternating (length w)) ∙ ap alternating e

pub sum_chain_prisms : (f : Functional) (e s b : Bool) (m lo hi : ℕ) (u v : Row) →
    sum_chain f b (prisms e s m lo hi u v) ≡ sum_prism (λ c l t. f c (raised lo l ++ (u ++ raised hi t))) e (times s b) v
sum_chain_prisms f e s b m lo hi u [] = refl
sum_chain_prisms f e s b m lo hi u (x ∷ w) =
    ap (λ n. f (times s b) (raised lo (x ∷ w) ++ (u ++ (x + hi) ∷ [])) + n)
    (sum_chain_prisms f e (times e s) b m lo hi (u ++ (x + hi) ∷ []) w ∙ simp (append_snoc, times-times))

-- two functionals of one value have sums of one value
sum_chain_eq : (F level_parts : Functional) → ((b : Bool) (v : Row) → F b v + level_parts (not b) v ≡ level_parts b v + F (not b) v) →
    (b : Bool) (cs : List Cell) → sum_chain F b cs + sum_chain level_parts (not b) cs ≡ sum_chain level_parts b cs + sum_chain F (not b) cs
sum_chain_eq F level_parts h b [] = refl
sum_chain_eq F level_parts h b (c ∷ cs) = rw (times_not_r c.sign b) (omega (arith, sum_chain_eq F level_parts h b cs, h (times c.sign b) c.row))

pub sum_chain_level : (f : Functional) (nv i : ℕ) (b : Bool) (cs : List Cell) →
    sum_chain f b (level nv i cs) ≡ sum_chain (over_prism f (i * nv) (suc i * nv)) b cs
sum_chain_level f nv i b [] = refl
sum_chain_level f nv i b (c ∷ cs) =
    omega (
      arith,
      sum_chain_append f b (prism nv i c) (level nv i cs),
      ap (sum_chain f b) (prism_is nv i c),
      sum_chain_prisms f (dimension_sign c.row) c.sign b c.material (i * nv) (suc i * nv) [] c.row,
      sum_chain_level f nv i b cs,
    )

abbrev level_parts : Functional → ℕ → ℕ → Functional
level_parts f lo hi c y = at_height f hi c y + at_height f lo (not c) y + sum_faces (over_prism f lo hi) c y

level_parts_sum : (f : Functional) (nv i : ℕ) (b : Bool) (cs : List Cell) →
    sum_chain (level_parts f (i * nv) (suc i * nv)) b cs
    ≡ sum_chain (at_height f (suc i * nv)) b cs + sum_chain (at_height f (i * nv)) (not b) cs + sum_chain f b (level nv i (all_faces cs))
level_parts_sum f nv i b cs =
    let lo = i * nv in let hi = suc i * nv in
    omega (
      arith,
      sum_chain_add (λ c y. at_height f hi c y + at_height f lo (not c) y) (sum_faces (over_prism f lo hi)) b cs,
      sum_chain_add (at_height f hi) (λ c y. at_height f lo (not c) y) b cs,
      sum_chain_not (at_height f lo) b cs,
      sum_chain_level f nv i b (all_faces cs),
      sum_chain_all_faces (over_prism f lo hi) b cs,
    )

level_id : (f : Functional) (nv i : ℕ) (b : Bool) (cs : List Cell) →
    sum_chain (sum_faces f) b (level nv i cs) + sum_chain (level_parts f (i * nv) (suc i * nv)) (not b) cs
    ≡ sum_chain (level_parts f (i * nv) (suc i * nv)) b cs + sum_chain (sum_faces f) (not b) (level nv i cs)
level_id f nv i b cs =
    omega (
      arith,
      sum_chain_eq (over_prism (sum_faces f) (i * nv) (suc i * nv)) (level_parts f (i * nv) (suc i * nv)) go b cs,
      sum_chain_level (sum_faces f) nv i b cs,
      sum_chain_level (sum_faces f) nv i (not b) cs,
    )
  where
    go : (b : Bool) (v : Row) → over_prism (sum_faces f) (i * nv) (suc i * nv) b v + level_parts f (i * nv) (suc i * nv) (not b) v
        ≡ level_parts f (i * nv) (suc i * nv) b v + over_prism (sum_faces f) (i * nv) (suc i * nv) (not b) v
    go true v = cell_id f (i * nv) (suc i * nv) true v
    go false v = cell_id f (i * nv) (suc i * nv) false v

abbrev pub swept_parts : Functional → ℕ → ℕ → Bool → List Cell → ℕ
swept_parts f nv h b cs =
    sum_chain (at_height f (h * nv)) b cs + sum_chain (at_height f (zero * nv)) (not b) cs + sum_chain f b (sweep_of nv h (all_faces cs))

pub sweep_id : (f : Functional) (nv h : ℕ) (cs : List Cell) →
    sum_chain (sum_faces f) true (sweep_of nv h cs) + swept_parts f nv h false cs
    ≡ swept_parts f nv h true cs + sum_chain (sum_faces f) false (sweep_of nv h cs)
sweep_id f nv zero cs = omega arith
sweep_id f nv (suc h) cs =
    omega (
      arith,
      sweep_id f nv h cs,
      level_id f nv h true cs,
      level_parts_sum f nv h true cs,
      level_parts_sum f nv h false cs,
      sum_chain_append (sum_faces f) true (sweep_of nv h cs) (level nv h cs),
      sum_chain_append (sum_faces f) false (sweep_of nv h cs) (level nv h cs),
      sum_chain_append f true (sweep_of nv h (all_faces cs)) (level nv h (all_faces cs)),
      sum_chain_append f false (sweep_of nv h (all_faces cs)) (level nv h (all_faces cs)),
    )

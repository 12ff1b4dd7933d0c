-- The wings that the pairing of face keys leaves are the neighbours told from the cells.
use mathlib.Core.Path.{◌≡◌, refl, sym, ap, ◌∙◌, subst}
use mathlib.Core.Bool.{Bool, true, false}
use mathlib.Core.List.{List, [], ◌∷◌}
use Prim.Native.Nat.{ℕ, zero, suc, ◌+◌, ◌*◌, ◌/◌, ◌%◌, ◌≤◌, ◌<◌}
use native.Mathlib.Omega.{arith}
use native.Mathlib.Decide.{dec_lt, ℕ_discrete}
use native.Mathlib.Nat.{zero-add, div-add-mod', mod-lt}
use lib.ListN.{length, get_or}
use lib.Dec.{eqb}
use borrow.Author.Tests.{eqb-true, eqb-false}
use Rattle.records.specs.Layout.{empty}
use Rattle.simplex.specs.Cell.{Cell, Row, one}
use Rattle.simplex.specs.Chain.{total}
use Rattle.simplex.specs.Faces.{face, facets, without}
use Rattle.simplex.specs.Sort.{Asc}
use Rattle.simplex.proofs.Each.{All}
use Rattle.simplex.proofs.Rows.{Long}
use Rattle.simplex.proofs.Without.{without_inj}
use Rattle.tables.specs.Inner.Held.{Blank, Winged}
use Rattle.tables.specs.Inner.Pairing.{face_count, paired}
use Rattle.solids.specs.Wings.{has_face, neighbour}
use Rattle.tables.proofs.FaceKeys.{facet_cell, facets-length, key_inside}
use Rattle.tables.proofs.Mates.{Mate, paired-alone, paired_mate}
use Rattle.solids.proofs.Neighbours.{Wing, has_face_lem, has_is, neighbour-empty, neighbour_is, others_with_ge}
use Rattle.matching.proofs.Quotients.{cell_of_key, place_of_key}
use Rattle.tables.proofs.Repeats.{Prev}
use Rattle.solids.proofs.Solid.{all_at, row_at}
use Rattle.solids.proofs.Tables.{cell_at, neighbour_of_nothing}

-- two faces of an ascending row differ
faces-apart : (v : Row) (a b : ℕ) → Asc v → a < length v → b < length v → without a v ≡ without b v → a ≡ b
faces-apart v a b s ha hb e = go (dec_lt a b) (dec_lt b a)
  where
    go : Dec (a < b) → Dec (b < a) → a ≡ b
    go (yes l) k = absurd (without_inj v a b s l hb e)
    go (no l) (yes k) = absurd (without_inj v b a s k ha (sym e))
    go (no l) (no k) = omega arith

-- dimension 0: no face has a vertex
module _ (cs : List Cell) (long : All (Long 1) cs) where
  lone : (p a : ℕ) → p < length cs → a < 1 → neighbour p (without a (row_at cs p)) cs ≡ empty
  lone p a hp ha = go (row_at cs p) (all_at (Long 1) cs long p hp)
    where
      go : (w : Row) → length w ≡ 1 → neighbour p (without a w) cs ≡ empty
      go [] e = absurd (omega arith)
      go (x ∷ []) e =
          let z : a ≡ 0 = omega arith in
          ap (λ i. neighbour p (without i (x ∷ [])) cs) z ∙ neighbour_of_nothing p 0 cs
      go (x ∷ (y ∷ w)) e = absurd (omega arith)

module _ (d : ℕ) (cs : List Cell) (long : All (Long (suc d)) cs) where
  -- there are no more faces than d + 1 a cell, and above dimension 0 as many
  pub facets-few : length (facets cs) ≤ length cs * suc d
  facets-few = rw (facets-length d cs long) (go d)
    where
      go : (d : ℕ) → face_count d (length cs) ≤ length cs * suc d
      go zero = omega arith
      go (suc e) = omega arith

  inside : (q b : ℕ) → 1 ≤ d → q < length cs → b < suc d → q * suc d + b < length (facets cs)
  inside q b hd hq hb = rw (facets-length d cs long) (go d hd hb)
    where
      go : (d : ℕ) → 1 ≤ d → b < suc d → q * suc d + b < face_count d (length cs)
      go zero l h = absurd (omega arith)
      go (suc e) l h = key_inside (suc (suc e)) (length cs) q b hq h

  -- the row of key q (d + 1) + b
  row_of : (q b : ℕ) → b < suc d → q * suc d + b < length (facets cs) → row_at (facets cs) (q * suc d + b) ≡ without b (row_at cs q)
  row_of q b hb h =
      ap (λ (c : Cell). c.row) (facet_cell d cs long (q * suc d + b) h).1
      ∙ ap (λ i. without ((q * suc d + b) % suc d) (row_at cs i)) (cell_of_key q b (suc d) hb)
      ∙ ap (λ i. without i (row_at cs q)) (place_of_key q b (suc d) hb)

module _ (d : ℕ) (cs : List Cell) (P W : List ℕ) (long : All (Long (suc d)) cs)
    (asc : All Asc cs) (few : length cs ≤ 4096) (small : length cs * suc d ≤ 32768)
    (prev : Prev (facets cs) P) (meet : (w : Row) → total w (facets cs) ≤ 2)
    (wide : length W ≡ 32768) (blank : (g : ℕ) → g < 32768 → get_or W g 0 ≡ empty) where
  n_small : length (facets cs) ≤ 32768
  n_small = omega (arith, facets-few d cs long)

  row-length : (q : ℕ) → q < length cs → length (row_at cs q) ≡ suc d
  row-length q hq = all_at (Long (suc d)) cs long q hq

  -- wing a of cell p, above dimension 0
  module _ (p a : ℕ) (hd : 1 ≤ d) (hp : p < length cs) (ha : a < suc d) where
    g_inside : p * suc d + a < length (facets cs)
    g_inside = inside d cs long p a hd hp ha

    abbrev Left : ℕ → Type 0
    Left x = get_or (paired (suc d) (length (facets cs)) P (length (facets cs)) W) (p * suc d + a) 0 ≡ x

    -- a neighbour has a key that is the mate
    full : Wing p 0 (without a (row_at cs p)) cs (neighbour p (without a (row_at cs p)) cs) → Left (neighbour p (without a (row_at cs p)) cs)
    full r =
        let q = r.0 in
        let f = has_is (without a (row_at cs p)) (row_at cs q) r.4 in
        let b = f.0 in
        let hb : b < suc d = omega (arith, f.1, row-length q r.1) in
        let hf : q * suc d + b < length (facets cs) = inside d cs long q b hd r.1 hb in
        paired_mate (facets cs) P n_small prev meet (suc d) W (omega (arith, n_small, wide)) (q * suc d + b) (p * suc d + a) (
          hf,
          g_inside,
          (λ z. r.3 (sym (zero-add q ∙ sym (cell_of_key q b (suc d) hb) ∙ ap (λ i. i / suc d) z ∙ cell_of_key p a (suc d) ha))),
          row_of d cs long q b hb hf ∙ f.2 ∙ sym (row_of d cs long p a ha g_inside),
        )
        ∙ cell_of_key q b (suc d) hb ∙ sym (r.2 ∙ zero-add q)

    -- a mate's cell is a neighbour
    none : neighbour p (without a (row_at cs p)) cs ≡ empty → (f : ℕ) → Mate (facets cs) (length (facets cs)) f (p * suc d + a) → ⊥
    none e f m = go (ℕ_discrete (f / suc d) p)
      where
        r : (f / suc d < length cs) × (cell_at (facets cs) f ≡ face (f % suc d) (cell_at cs (f / suc d)))
        r = facet_cell d cs long f m.0

        same : without (f % suc d) (row_at cs (f / suc d)) ≡ without a (row_at cs p)
        same = sym (ap (λ (c : Cell). c.row) r.1) ∙ m.3 ∙ row_of d cs long p a ha g_inside

        hb : (f % suc d) < suc d
        hb = mod-lt f {m = suc d} (omega arith)

        go : Dec ((f / suc d) ≡ p) → ⊥
        go (yes z) =
            let y : a ≡ (f % suc d) =
            faces-apart (row_at cs p) a (f % suc d) (all_at Asc cs asc p hp) (omega (arith, row-length p hp)) (omega (arith, hb, row-length p hp))
            (sym (ap (λ i. without (f % suc d) (row_at cs i)) (sym z) ∙ same)) in
            m.2 (sym (div-add-mod' f (suc d)) ∙ ap (λ i. i * suc d + (f % suc d)) z ∙ ap (λ i. p * suc d + i) (sym y))
        go (no z) =
            let has : has_face (without a (row_at cs p)) (row_at cs (f / suc d)) ≡ true =
            subst (λ v. has_face v (row_at cs (f / suc d)) ≡ true) same (has_face_lem (f % suc d) (row_at cs (f / suc d))
            (omega (arith, hb, row-length (f / suc d) r.0)) (omega (arith, row-length (f / suc d) r.0))) in
            omega (
              arith,
              ap one has,
              others_with_ge p 0 (f / suc d) (without a (row_at cs p)) cs r.0 (λ y. z (sym (y ∙ zero-add (f / suc d)))),
              neighbour-empty p 0 (without a (row_at cs p)) cs (omega arith) e,
            )

    paired_at_lem : Left (neighbour p (without a (row_at cs p)) cs)
    paired_at_lem = go (eqb (neighbour p (without a (row_at cs p)) cs) empty) refl
      where
        go : (t : Bool) → eqb (neighbour p (without a (row_at cs p)) cs) empty ≡ t → Left (neighbour p (without a (row_at cs p)) cs)
        go true e =
            let z = eqb-true (neighbour p (without a (row_at cs p)) cs) empty e in
            paired-alone (facets cs) P n_small prev meet (suc d) W (omega (arith, n_small, wide)) (p * suc d + a) g_inside (none z)
            ∙ blank (p * suc d + a) (omega (arith, g_inside, n_small)) ∙ sym z
        go false e = full (neighbour_is p 0 (without a (row_at cs p)) cs (eqb-false (neighbour p (without a (row_at cs p)) cs) empty e))

-- the words that the pairing of all face keys leaves are the wings
pub paired-winged : (d : ℕ) (cs : List Cell) (P W : List ℕ) → All (Long (suc d)) cs → All Asc cs → length cs ≤ 4096 → length cs * suc d ≤ 32768 →
    Prev (facets cs) P → ((w : Row) → total w (facets cs) ≤ 2) → Blank W →
    Winged d cs (paired (suc d) (face_count d (length cs)) P (face_count d (length cs)) W)
paired-winged zero cs P W long asc few small prev meet blank p a hp ha =
    blank.1 (p * 1 + a) (omega arith) ∙ sym (lone cs long p a hp ha)
paired-winged (suc d) cs P W long asc few small prev meet blank p a hp ha =
    subst (λ n. get_or (paired (suc (suc d)) n P n W) (p * suc (suc d) + a) 0 ≡ neighbour p (without a (row_at cs p)) cs)
    (facets-length (suc d) cs long)
    (paired_at_lem (suc d) cs P W long asc few small prev meet blank.0 blank.1 p a (omega arith) hp ha)

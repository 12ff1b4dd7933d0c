-- The cells of a list and their faces as keys.
--   Holds d rows cs   record p of rows, eight words each, begins with the d + 1 vertices of cell p
use mathlib.Core.Path.{◌≡◌, refl, sym, ap, ◌∙◌, subst}
use mathlib.Core.List.{List, [], ◌∷◌, ◌++◌}
use Prim.Native.Nat.{ℕ, zero, suc, ◌+◌, ◌*◌, ◌/◌, ◌%◌, ◌<◌}
use native.Mathlib.Omega.{arith}
use native.Mathlib.Nat.{zero-mul, zero-add, suc-mul, div-add-mod', mod-lt, div-lt_iff_lt-mul, le_of_suc-le-suc, not-suc-le-zero, mul-le-mul_right}
use lib.ListN.{length, take, length-append, get_or-append}
use lib.Seq.{get_or-append-add}
use Rattle.words.specs.Records.{part}
use Rattle.simplex.specs.Cell.{Cell, same_row, no_cell}
use Rattle.simplex.specs.Faces.{all_faces, face, faces, facets, without}
use Rattle.simplex.proofs.Each.{All}
use Rattle.simplex.proofs.FaceCounts.{facets-none, facets-same, two_long}
use Rattle.simplex.proofs.Faces.{face_at_lem, faces-length}
use Rattle.simplex.proofs.Rows.{Long}
use Rattle.matching.specs.Inner.Matching.{earlier, key_row}
use Rattle.tables.specs.Inner.Pairing.{face_count}
use Rattle.matching.proofs.LastBelow.{last_ext}
use Rattle.matching.proofs.Links.{whole_key}
use Rattle.tables.proofs.Repeats.{prev_in}
use Rattle.solids.proofs.Solid.{row_at}
use Rattle.solids.proofs.Tables.{cell_at}

abbrev pub Holds : ℕ → List ℕ → List Cell → Type 0
Holds d rows cs = (p : ℕ) → p < length cs → take (suc d) (part 8 p rows) ≡ row_at cs p

pub all_faces-length : (n : ℕ) (cs : List Cell) → All (Long n) cs → length (all_faces cs) ≡ length cs * n
all_faces-length n [] long = sym (zero-mul n)
all_faces-length n (c ∷ cs) long =
    omega (
      arith,
      length-append (faces c.sign c.material c.row) (all_faces cs),
      faces-length c.sign c.material c.row,
      long.0,
      all_faces-length n cs long.1,
      suc-mul (length cs) n,
    )

-- face a of cell p
face-cell : (n : ℕ) (cs : List Cell) → All (Long n) cs → (p a : ℕ) → p < length cs → a < n →
    cell_at (all_faces cs) (p * n + a) ≡ face a (cell_at cs p)
face-cell n [] long p a hp ha = absurd (not-suc-le-zero hp)
face-cell n (c ∷ cs) long zero a hp ha =
    rw (zero-mul n, zero-add a)
    (get_or-append (faces c.sign c.material c.row) (all_faces cs) no_cell a
    (omega (arith, faces-length c.sign c.material c.row, long.0))
    ∙ face_at_lem c.sign c.material c.row a (omega (arith, long.0)))
face-cell n (c ∷ cs) long (suc p) a hp ha =
    ap (λ i. cell_at (faces c.sign c.material c.row ++ all_faces cs) i) (go (faces-length c.sign c.material c.row ∙ long.0))
    ∙ get_or-append-add (faces c.sign c.material c.row) (all_faces cs) (p * n + a) no_cell
    ∙ face-cell n cs long.1 p a (le_of_suc-le-suc hp) ha
  where
    go : length (faces c.sign c.material c.row) ≡ n → suc p * n + a ≡ length (faces c.sign c.material c.row) + (p * n + a)
    go e = omega (arith, suc-mul p n)

pub key_inside : (n s p a : ℕ) → p < s → a < n → p * n + a < s * n
key_inside n s p a h l = omega (arith, suc-mul p n, mul-le-mul_right {m = suc p} {n = s} n h)

pub facets-length : (d : ℕ) (cs : List Cell) → All (Long (suc d)) cs → length (facets cs) ≡ face_count d (length cs)
facets-length zero cs long = ap length (facets-none cs long)
facets-length (suc d) cs long = ap length (facets-same cs (two_long d cs long)) ∙ all_faces-length (suc (suc d)) cs long

pub facet_cell : (d : ℕ) (cs : List Cell) → All (Long (suc d)) cs → (g : ℕ) → g < length (facets cs) →
    (g / suc d < length cs) × (cell_at (facets cs) g ≡ face (g % suc d) (cell_at cs (g / suc d)))
facet_cell zero cs long g h = absurd (not-suc-le-zero (subst (λ L. g < length L) (facets-none cs long) h))
facet_cell (suc d) cs long g h =
    let n = suc (suc d) in
    let l : g < length cs * n = subst (λ m. g < m) (facets-length (suc d) cs long) h in
    let hp : g / n < length cs = (div-lt_iff_lt-mul {k = n} {x = g} {y = length cs} (omega arith)).1 l in (
      hp,
      ap (λ L. cell_at L g) (facets-same cs (two_long d cs long))
          ∙ ap (λ i. cell_at (all_faces cs) i) (sym (div-add-mod' g n))
          ∙ face-cell n cs long (g / n) (g % n) hp (mod-lt g {m = n} (omega arith)),
    )

module _ (d : ℕ) (rows : List ℕ) (cs : List Cell) (long : All (Long (suc d)) cs) (holds : Holds d rows cs) where
  pub key_face : (g : ℕ) → g < length (facets cs) → key_row rows (suc d) (suc d) 0 g ≡ row_at (facets cs) g
  key_face g h =
      let r = facet_cell d cs long g h in
      rw (zero-add (g % suc d)) (ap (without (g % suc d)) (holds (g / suc d) r.0) ∙ sym (ap (λ (c : Cell). c.row) r.1))

  pub key_cell : (p : ℕ) → p < length cs → key_row rows (suc d) 1 (suc d) p ≡ row_at cs p
  key_cell p h = whole_key rows (suc d) p ∙ holds p h

-- equal keys are equal rows
pub earlier_prev : (rows : List ℕ) (k w first : ℕ) (L : List Cell) → ((g : ℕ) → g < length L → key_row rows k w first g ≡ row_at L g) →
    (g : ℕ) → g < length L → earlier rows k w first g ≡ prev_in L g
unfolding earlier
earlier_prev rows k w first L key g h =
    last_ext (λ f. same_row (key_row rows k w first f) (key_row rows k w first g)) (λ f. same_row (row_at L f) (row_at L g)) g
    (λ f l. rw (key g h, key f (omega arith)) refl)

-- A list of cells is acceptable exactly when its cells, in ascending order, are a solid.
--   list_of d v cs     the list of these cells, as words
use mathlib.Core.Path.{◌≡◌, ap, ap₂, refl, sym, ◌∙◌}
use Prim.Native.Nat.{◌*◌, ◌<◌, suc, zero, ℕ, ◌≤◌}
use mathlib.Core.Bool.{Bool, false, not, true}
use mathlib.Core.List.{List, [], map, ◌∷◌}
use native.Mathlib.Omega.{arith}
use lib.ListN.{get_or, length, length-drop, length-map}
use lib.Dec.{leb, ltb}
use borrow.Author.Tests.{eqb-false, eqb-true, le-ltb, ltb-false}
use mathlib.Core.Logic.{◌≢◌}
use Rattle.words.specs.Records.{any_of, concat, part, tabulate}
use Rattle.words.proofs.Records.{tabulate_ext, tabulate-length}
use Rattle.rules.specs.Limits.{max_material}
use Rattle.rules.specs.Calls.{first_refusal}
use Rattle.rules.proofs.Accepting.{passes as passes-each}
use Rattle.simplex.specs.Cell.{Cell, Row, Sign}
use Rattle.simplex.specs.Chain.{total}
use Rattle.simplex.specs.Faces.{facets}
use Rattle.simplex.specs.Order.{ascending, itself, sorted}
use Rattle.simplex.specs.Sort.{Asc}
use Rattle.simplex.proofs.Cancel.{Paired, lone_in, plus-minus}
use Rattle.simplex.proofs.Each.{All, All_both, All-map, Each, each_map}
use Rattle.simplex.proofs.Insert.{sort_by_all}
use Rattle.simplex.proofs.Rows.{Below, Filled, Good, Long}
use Rattle.simplex.proofs.Ascending.{ascending_of_asc}
use Rattle.simplex.proofs.Sorting.{sorted_ascends, sorted-length}
use Rattle.simplex.proofs.Sums.{plus_on, sum_chain}
use Rattle.solids.specs.Accept.{Listed, acceptable, bad_material, bad_sign, cell_twice, crowded_face, equal_signs, listed_cells}
use Rattle.solids.specs.Accept.{repeats, solid_of, solid_rules, vertex_beyond, vertex_twice}
use Rattle.simplex.specs.SignWords.{sign_word}
use Rattle.records.specs.Layout.{cell_in, cell_words, cells_of, list_size, list_length}
use Rattle.records.proofs.Parts.{part-within}
use Rattle.solids.proofs.Codec.{cells-back, list_record}
use Rattle.solids.proofs.Solid.{Solid, all_tabulated}
use Rattle.solids.proofs.Tables.{cell_at}
use Rattle.solids.proofs.Tests.{all_below, asc_once, below_all, few_of, none_of, of_few, of_none, once-each, once-signs, signs-once}

pub record Passed (l : Listed) : Type 0 where
  pub sign : bad_sign l ≡ false
  pub vertex : vertex_beyond l.v (listed_cells l) ≡ false
  pub twice : vertex_twice (listed_cells l) ≡ false
  pub material : bad_material (listed_cells l) ≡ false
  pub cell : cell_twice (solid_of l) ≡ false
  pub crowded : crowded_face (facets (solid_of l)) ≡ false
  pub equal : equal_signs (facets (solid_of l)) ≡ false

pub passed : (l : Listed) → acceptable l ≡ true → Passed l
unfolding acceptable solid_rules
passed l e =
    let fine = passes-each solid_rules l refl (sym (eqb-true (first_refusal solid_rules l) 0 e)) in
    record { sign = fine 6; vertex = fine 7; twice = fine 8; material = fine 18; cell = fine 9; crowded = fine 10; equal = fine 11 }

pub passes : (l : Listed) → Passed l → acceptable l ≡ true
unfolding acceptable solid_rules
passes l p = rw (p.sign, p.vertex, p.twice, p.material, p.cell, p.crowded, p.equal) refl

-- rows of records
listed-long : (d s : ℕ) (ws : List ℕ) → length ws ≡ s * list_size d → All (Long (suc d)) (cells_of d s ws)
listed-long d s ws e = all_tabulated (Long (suc d)) s (cell_in d ws)
    (λ p h. rw (length-drop 2 (part (list_size d) p ws), part-within (list_size d) p s ws h (omega arith)) (omega arith))

-- what holds of the rows holds of the sorted rows
all_sorted : (R Q : Row → Type 0) (cs : List Cell) → ((w : Row) → R w → Q (sorted w)) → All R cs → All Q (map ascending cs)
all_sorted R Q [] h a = tt
all_sorted R Q (c ∷ cs) h a = (h c.row a.0, all_sorted R Q cs h a.1)

sorted-below : (nv : ℕ) (w : Row) → Below nv w → Below nv (sorted w)
sorted-below nv w b = from (sorted w) (sort_by_all itself (λ x. x < nv) w (to w b))
  where
    to : (w : Row) → Below nv w → Each (λ x. x < nv) w
    to [] b = tt
    to (x ∷ w) b = (b.0, to w b.1)

    from : (w : Row) → Each (λ x. x < nv) w → Below nv w
    from [] b = tt
    from (x ∷ w) b = (b.0, from w b.1)

long_filled : (n : ℕ) (w : Row) → length w ≡ suc n → Filled w
long_filled n [] e = absurd (omega arith)
long_filled n (x ∷ w) e = tt

pub solid-length : (l : Listed) → length (solid_of l) ≡ l.s
solid-length l = length-map (listed_cells l) ascending ∙ tabulate-length l.s (cell_in l.d l.words)

pub solid-long : (l : Listed) → length l.words ≡ list_length l.d l.s → All (Long (suc l.d)) (solid_of l)
solid-long l e =
    all_sorted (Long (suc l.d)) (Long (suc l.d)) (listed_cells l) (λ w r. sorted-length w ∙ r) (listed-long l.d l.s l.words e)

-- putting a cell in ascending order leaves its material
all_made : (cs : List Cell) → Each (λ c. ltb max_material c.material ≡ false) cs →
    Each (λ c. c.material ≤ max_material) (map ascending cs)
all_made [] a = tt
all_made (c ∷ cs) a = (ltb-false max_material c.material a.0, all_made cs a.1)

-- accepted cells are a solid
pub accepted-solid : (l : Listed) → length l.words ≡ l.s * list_size l.d →
    acceptable l ≡ true → Solid l.v (solid_of l) × All (Long (suc l.d)) (solid_of l)
accepted-solid l e k = (
  record {
    rows = all_sorted (λ w. Long (suc l.d) w × Below l.v w) (Good l.v) cells
        (λ w r. (long_filled l.d (sorted w) (sorted-length w ∙ r.0), sorted-below l.v w r.1))
        (All_both (Long (suc l.d)) (Below l.v) cells long (all_below l.v cells p.vertex));
    asc = all_sorted (λ w. repeats w ≡ false) Asc cells (λ w r. sorted_ascends w (once-each w r))
        (none_of (λ c. repeats c.row) cells p.twice);
    distinct = few_of 1 (solid_of l) p.cell;
    meet = few_of 2 (facets (solid_of l)) p.crowded;
    paired = paired;
    materials = all_made cells (none_of (λ c. ltb max_material c.material) cells p.material);
  },
  solid-long l e,
)
  where
    p : Passed l
    p = passed l k

    cells : List Cell
    cells = listed_cells l

    long : All (Long (suc l.d)) cells
    long = listed-long l.d l.s l.words e

    F : List Cell
    F = facets (solid_of l)

    paired : Paired F
    paired w n =
        let not_one : total w F ≢ 1 = eqb-false (total w F) 1 n in
        omega (arith, plus-minus w F, signs-once F p.equal true w, signs-once F p.equal false w)

abbrev pub list_of : ℕ → ℕ → List Cell → Listed
list_of d v cs = record { d = d; v = v; s = length cs; words = concat (map cell_words cs) }

pub ascending_all : (cs : List Cell) → All Asc cs → map ascending cs ≡ cs
ascending_all [] a = refl
ascending_all (c ∷ cs) a = ap₂ {C = List Cell} (λ b bs. b ∷ bs) (ascending_of_asc c a.0) (ascending_all cs a.1)

-- a list of ascending cells gives them back
pub solid-back : (d v : ℕ) (cs : List Cell) → Solid v cs → All (Long (suc d)) cs → solid_of (list_of d v cs) ≡ cs
solid-back d v cs solid long = ap (map ascending) (cells-back d cs long) ∙ ascending_all cs solid.asc

sign-words : (d : ℕ) (cs : List Cell) → All (Long (suc d)) cs → bad_sign (list_of d 0 cs) ≡ false
sign-words d cs long =
    ap (any_of (λ x. not (leb x 1)))
    (tabulate_ext (length cs) (λ p. get_or (part (list_size d) p (concat (map cell_words cs))) 0 0) (λ p. sign_word (cell_at cs p).sign)
    (λ p h. ap (λ r. get_or r 0 0) (list_record d cs p long h)))
    ∙ go (length cs) (λ p. (cell_at cs p).sign)
  where
    small : (s : Sign) → not (leb (sign_word s) 1) ≡ false
    small true = refl
    small false = refl

    go : (n : ℕ) (f : ℕ → Sign) → any_of (λ x. not (leb x 1)) (tabulate n (λ p. sign_word (f p))) ≡ false
    go zero f = refl
    go (suc n) f = rw (small (f 0)) (go n (λ p. f (suc p)))

-- a solid's cells are accepted
pub solid-accepted : (d v : ℕ) (cs : List Cell) → Solid v cs → All (Long (suc d)) cs → acceptable (list_of d v cs) ≡ true
solid-accepted d v cs solid long =
    passes (list_of d v cs)
    (record {
      sign = sign-words d cs long;
      vertex = ap (vertex_beyond v) (cells-back d cs long) ∙ below_all v cs (All-map (Good v) (Below v) cs (λ w g. g.1) solid.rows);
      twice = ap vertex_twice (cells-back d cs long)
          ∙ of_none (λ c. repeats c.row) cs
          (each_map (λ c. Asc c.row) (λ c. repeats c.row ≡ false) cs (λ c a. asc_once c.row a) solid.asc);
      material = ap bad_material (cells-back d cs long)
          ∙ of_none (λ c. ltb max_material c.material) cs
          (each_map (λ c. c.material ≤ max_material) (λ c. ltb max_material c.material ≡ false) cs
          (λ c. le-ltb max_material c.material) solid.materials);
      cell = ap cell_twice back ∙ of_few 1 cs solid.distinct cs;
      crowded = ap (λ xs. crowded_face (facets xs)) back ∙ of_few 2 F solid.meet F;
      equal = ap (λ xs. equal_signs (facets xs)) back ∙ once-signs F signs F;
    })
  where
    back : solid_of (list_of d v cs) ≡ cs
    back = solid-back d v cs solid long

    F : List Cell
    F = facets cs

    case : (w : Row) (t : Bool) → lone_in F w ≡ t → (sum_chain (plus_on w) true F ≤ 1) × (sum_chain (plus_on w) false F ≤ 1)
    case w true e = omega (arith, plus-minus w F, eqb-true (total w F) 1 e)
    case w false e = omega (arith, plus-minus w F, solid.meet w, solid.paired w e)

    signs : (s : Sign) (w : Row) → sum_chain (plus_on w) s F ≤ 1
    signs true w = (case w (lone_in F w) refl).0
    signs false w = (case w (lone_in F w) refl).1

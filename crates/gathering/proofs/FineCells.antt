-- A cell tested as it is read.
--   Climbed               the first j steps of a row are looked at, of those that are to be; the last vertex seen
--   climbed_none, climbed_more, climbed_no_more     none yet; one more; none where all d are
--   fine_row              all are, and the rest
--   fine_front            a row is fine where a longer one that begins with it is
-- Assumes nothing.
use mathlib.Core.Path.{◌≡◌, refl, sym, ap, ◌∙◌}
use mathlib.Core.Bool.{Bool, true, ◌&&◌}
use mathlib.Core.List.{List}
use Prim.Native.Nat.{ℕ, suc, ◌+◌, ◌≤◌, ◌<◌}
use native.Mathlib.Nat.{not-suc-le-zero}
use native.Mathlib.Numerals.{add-one}
use native.Mathlib.Omega.{arith}
use lib.Dec.{leb, ltb}
use lib.ListN.{get_or, take}
use lib.Seq.{get_or-take}
use borrow.Author.Count.{below_more}
use borrow.Author.Tests.{leb-true, ltb-true}
use Rattle.rules.specs.Limits.{max_material}
use Rattle.rules.proofs.Tests.{and_parts}
use Rattle.gathering.specs.Inner.Gathering.{FineRow}

pub record Climbed (d j : ℕ) (row : List ℕ) (up : Bool) (last : ℕ) : Type 0 where
  pub steps : up ≡ true → (i : ℕ) → i < j → i < d → get_or row i 0 < get_or row (suc i) 0
  pub here : j ≤ d → last ≡ get_or row j 0
  pub done : d ≤ j → last ≡ get_or row d 0

pub climbed_none : (d : ℕ) (row : List ℕ) → Climbed d 0 row true (get_or row 0 0)
climbed_none d row = record {
  steps = λ e i l. absurd (not-suc-le-zero l);
  here = λ l. refl;
  done = λ l. ap (λ i. get_or row i 0) {x = 0} {y = d} (omega arith);
}

module _ (d j : ℕ) (row : List ℕ) (up new : Bool) (last next : ℕ) (old : Climbed d j row up last) where
  pub climbed_more : j < d → new ≡ up && ltb (get_or row j 0) (get_or row (j + 1) 0) → next ≡ get_or row (j + 1) 0 → Climbed d (j + 1) row new next
  climbed_more h eu el = record {
    steps = λ e.
        let r = and_parts up (ltb (get_or row j 0) (get_or row (j + 1) 0)) (sym eu ∙ e) in
        below_more (λ i. i < d → get_or row i 0 < get_or row (suc i) 0) j (old.steps r.0)
        (λ l. omega (arith, ltb-true (get_or row j 0) (get_or row (j + 1) 0) r.1, ap (λ i. get_or row i 0) (add-one j)));
    here = λ l. el;
    done = λ l. el ∙ ap (λ i. get_or row i 0) {x = j + 1} {y = d} (omega arith);
  }

  pub climbed_no_more : d ≤ j → new ≡ up → next ≡ last → Climbed d (j + 1) row new next
  climbed_no_more h eu el = record {
    steps = λ e i l m. old.steps (sym eu ∙ e) i (omega arith) m;
    here = λ l. absurd (omega arith);
    done = λ l. el ∙ old.done h;
  }

pub fine_row : (d v m j : ℕ) (row : List ℕ) (up : Bool) (last w : ℕ) → Climbed d j row up last → d ≤ j → w ≡ last →
    up && (leb m max_material && ltb w v) ≡ true → FineRow d v m row
fine_row d v m j row up last w all h ew e =
    let x = and_parts up (leb m max_material && ltb w v) e in
    let y = and_parts (leb m max_material) (ltb w v) x.1 in
    record {
      material = leb-true m max_material y.0;
      low = omega (arith, ltb-true w v y.1, all.done h);
      up = λ i l. all.steps x.0 i (omega arith) l;
    }

-- the same of a row that is its front, with the same material
pub fine_front : (d v m n : ℕ) (row w : List ℕ) → take (suc d) row ≡ w → m ≡ n → FineRow d v m row → FineRow d v n w
fine_front d v m n row w e em fine =
    let at : (i : ℕ) → i ≤ d → get_or w i 0 ≡ get_or row i 0 =
    λ i l. sym (ap (λ (r : List ℕ). get_or r i 0) e) ∙ get_or-take (suc d) row i 0 (omega arith) in
    record {
      material = omega (arith, fine.material);
      low = omega (arith, at d (omega arith), fine.low);
      up = λ i l. omega (arith, at i (omega arith), at (suc i) (omega arith), fine.up i l);
    }

-- The examples of `decides` hold: counts at one row are computed, and tell the solids apart.
use mathlib.Core.Path.{◌≡◌, refl, ap}
use mathlib.Core.Bool.{true}
use mathlib.Core.List.{List, [], ◌∷◌}
use Prim.Native.Nat.{ℕ}
use native.Mathlib.Omega.{arith}
use lib.ListN.{take}
use Rattle.simplex.specs.Cell.{Cell}
use Rattle.simplex.specs.Chain.{count_on, Same}
use Rattle.simplex.proofs.Materials.{same-made}
use Rattle.third_term.specs.ThirdTerm.{solid, boundary}
use Rattle.third_term.specs.Pairs.{circle, reversed, inlaid, points, exchanged}
use Rattle.third_term.proofs.Examples.{once_in_circle, never_in_reverse, never_in_inlaid}
use Rattle.theorems.specs.Deciding.{Deciding, Equal, swept_ring}
use Rattle.theorems.proofs.Computing.{computing}

apart : Equal circle reversed → ⊥
apart e = omega (arith, once_in_circle, never_in_reverse, e 0 true (0 ∷ 1 ∷ []))

-- the segment from 0 to 1 is of material 0 in the one, of 7 in the other
made-apart : Equal circle inlaid → ⊥
made-apart e = omega (arith, once_in_circle, never_in_inlaid, e 0 true (0 ∷ 1 ∷ []))

-- the bottom copy has the row 0 1 with plus in the one, with minus in the other
swept-apart : Same (swept_ring 1 circle) (swept_ring 1 reversed) → ⊥
unfolding computing
swept-apart e = let z : ◌≡◌ {A = ℕ} 1 0 = e 0 true (0 ∷ 1 ∷ []) in omega arith

swept-made-apart : Same (swept_ring 1 circle) (swept_ring 1 inlaid) → ⊥
unfolding computing
swept-made-apart e = let z : ◌≡◌ {A = ℕ} 1 0 = e 0 true (0 ∷ 1 ∷ []) in omega arith

same_points : Same (solid 0 2 1 points) (solid 0 2 1 exchanged)
unfolding computing
same_points =
    same-made 0 (solid 0 2 1 points) (solid 0 2 1 exchanged) (refl, (refl, tt)) (refl, (refl, tt)) (λ s w. omega arith)

same_boundaries : Same (boundary 0 2 1 points) (boundary 0 2 1 exchanged)
unfolding computing
same_boundaries =
    same-made 0 (boundary 0 2 1 points) (boundary 0 2 1 exchanged)
    (refl, (refl, (refl, (refl, tt)))) (refl, (refl, (refl, (refl, tt)))) (λ s w. omega arith)

pub deciding : Deciding
unfolding computing
deciding =
    record {
      unrefused = (
        record { winged = refl; swept = refl },
        record { winged = refl; swept = refl },
        record { winged = refl; swept = refl },
        record { winged = refl; swept = refl },
        record { winged = refl; swept = refl },
        record { winged = refl; swept = refl },
      );
      different = (apart, swept-apart);
      materials = (made-apart, swept-made-apart);
      equal = (same_points, same_boundaries);
      own = λ t. apart (t.1 (λ m s w. refl));
      signs = λ t. apart (t.1 (λ w. refl));
      materials_aside = λ t. made-apart (t.1 (λ s w. refl));
      solid-signs = λ t. swept-apart (t.0 (λ w. refl));
      count = λ t. apart (t.1 refl);
      -- the top copy has the row 3 5 after one step; after two it is within
      steps = λ t. let z : ◌≡◌ {A = ℕ} 1 0 = t.0 (λ m s w. refl) 0 true (3 ∷ 5 ∷ []) in omega arith;
      twice = λ t. apart (t.1 (λ m s w. refl));
      -- the first cell is on the vertex 0 in the one, 1 in the other
      order = λ t. let z : ◌≡◌ {A = ℕ} 1 0 = ap (λ (cs : List Cell). count_on true (0 ∷ []) (take 1 cs)) (t.1 same_boundaries) in omega arith;
    }

-- When all keys are passed the places are linked, and those that lead are apart.
-- Assumes nothing.
use mathlib.Core.Path.{◌≡◌, sym, ap, ◌∙◌, subst}
use mathlib.Core.Logic.{◌⊎◌, inl, inr}
use mathlib.Core.List.{List}
use Prim.Native.Nat.{ℕ, suc, ◌+◌, ◌*◌, ◌/◌, ◌%◌, ◌≤◌, ◌<◌}
use native.Mathlib.Decide.{dec_lt, ℕ_discrete}
use native.Mathlib.Nat.{div-add-mod', div-lt_iff_lt-mul, mod-lt, mul-le-mul_right, suc-mul}
use native.Mathlib.Omega.{arith}
use lib.ListN.{length}
use Rattle.simplex.specs.Sort.{Asc}
use Rattle.matching.proofs.Quotients.{cell_of_key, place_of_key}
use Rattle.records.specs.Inner.Inside.{wing_in}
use Rattle.soundness.specs.Inner.Certified.{Apart, Linked, face_in, row_in}
use Rattle.soundness.specs.Inner.Hashing.{face_of}
use Rattle.soundness.proofs.FaceRows.{one_cell}
use Rattle.soundness.proofs.Places.{key_inside}
use Rattle.soundness.proofs.Weighing.{face_of_lem}
use Rattle.soundness.specs.Inner.Pairing.{First, MeetsAt, Second, wing_of}

-- cells keep the order of keys
le_cells : (d f g : ℕ) → f ≤ g → f / suc d ≤ g / suc d
le_cells d f g h = go (dec_lt (g / suc d) (f / suc d))
  where
    go : Dec (g / suc d < f / suc d) → f / suc d ≤ g / suc d
    go (yes z) =
        absurd
        (omega (
          arith,
          div-add-mod' f (suc d),
          div-add-mod' g (suc d),
          mod-lt g {m = suc d} (omega arith),
          mul-le-mul_right {m = suc (g / suc d)} {n = f / suc d} (suc d) z,
          suc-mul (g / suc d) (suc d),
        ))
    go (no z) = omega arith

module _ (d s : ℕ) (ws : List ℕ) (small : s ≤ 4096)
    (done : (g : ℕ) → g < s * suc d → First d ws (s * suc d) g ⊎ Second d ws g)
    (long : (p : ℕ) → p < s → length (row_in d ws p) ≡ suc d) (asc : (p : ℕ) → p < s → Asc (row_in d ws p)) where
  cell_of_lem : (g : ℕ) → g < s * suc d → g / suc d < s
  cell_of_lem g h = (div-lt_iff_lt-mul {k = suc d} {x = g} {y = s} (omega arith)).1 h

  place_of : (g : ℕ) → (g % suc d) ≤ d
  place_of g = omega (arith, mod-lt g {m = suc d} (omega arith))

  -- the first of two that meet stands in an earlier cell
  earlier-cell : (f g : ℕ) → f < g → g < s * suc d → MeetsAt d ws f g → f / suc d < g / suc d
  earlier-cell f g k h m = go (ℕ_discrete (f / suc d) (g / suc d))
    where
      go : Dec (f / suc d ≡ g / suc d) → f / suc d < g / suc d
      go (yes e) =
          let y = one_cell d s ws long asc (f / suc d) (f % suc d) (g % suc d) (cell_of_lem f (omega arith)) (place_of f) (place_of g)
          (m.face ∙ ap (λ p. face_in d ws p (g % suc d)) (sym e)) in
          let z : f ≡ g = sym (div-add-mod' f (suc d)) ∙ ap (λ i. i * suc d + (f % suc d)) e
          ∙ ap (λ i. g / suc d * suc d + i) y ∙ div-add-mod' g (suc d) in
          absurd (omega (arith, z, k))
      go (no e) = omega (arith, le_cells d f g (omega arith), e)

  -- a key, by its place
  module _ (g : ℕ) (h : g < s * suc d) where
    linked_at : Linked d s ws (g / suc d) (g % suc d)
    linked_at = go (done g h)
      where
        go : First d ws (s * suc d) g ⊎ Second d ws g → Linked d s ws (g / suc d) (g % suc d)
        go (inl (n, inl e)) = record { leading = λ k z. absurd (z e); following = λ k. absurd (omega (arith, k, e, cell_of_lem g h, small)) }
        go (inl (n, inr r)) =
            let m = r.3 in
            let k = earlier-cell g r.0 r.1 r.2 m in
            record {
              leading = λ j z. (rw m.there (cell_of_lem r.0 r.2), ((r.0 % suc d), place_of r.0, rw m.there m));
              following = λ j. absurd (omega (arith, j, k, m.there));
            }
        go (inr r) =
            let m = r.2 in
            let k = earlier-cell r.0 g r.1 h m in
            record {
              leading = λ j z. absurd (omega (arith, j, k, m.back));
              following = λ j. (r.0 / suc d, (r.0 % suc d), k, place_of r.0, m);
            }

    -- one that leads has no earlier key with its face
    leads_new : g / suc d < wing_of d ws g → (j : ℕ) → j < g → face_of d ws j ≡ face_of d ws g → ⊥
    leads_new lead j k e = go (done g h)
      where
        go : First d ws (s * suc d) g ⊎ Second d ws g → ⊥
        go (inl (n, q)) = n j k e
        go (inr r) = omega (arith, lead, r.2.back, earlier-cell r.0 g r.1 h r.2)

  at_place : (p a : ℕ) → a ≤ d → (Q : ℕ → ℕ → Type 0) → Q ((p * suc d + a) / suc d) ((p * suc d + a) % suc d) → Q p a
  at_place p a ha Q q =
      subst (λ i. Q p i) (place_of_key p a (suc d) (omega arith))
      (subst (λ i. Q i ((p * suc d + a) % suc d)) (cell_of_key p a (suc d) (omega arith)) q)

  to_place : (p a : ℕ) → a ≤ d → (Q : ℕ → ℕ → Type 0) → Q p a → Q ((p * suc d + a) / suc d) ((p * suc d + a) % suc d)
  to_place p a ha Q q =
      subst (λ i. Q i ((p * suc d + a) % suc d)) (sym (cell_of_key p a (suc d) (omega arith)))
      (subst (λ i. Q p i) (sym (place_of_key p a (suc d) (omega arith))) q)

  pub linked : (p a : ℕ) → p < s → a ≤ d → Linked d s ws p a
  linked p a hp ha = at_place p a ha (Linked d s ws) (linked_at (p * suc d + a) (key_inside d s p a hp ha))

  pub apart : Apart d s ws
  apart p a q b hp ha hq hb lp lq e = go (dec_lt (p * suc d + a) (q * suc d + b)) (dec_lt (q * suc d + b) (p * suc d + a))
    where
      same : face_of d ws (p * suc d + a) ≡ face_of d ws (q * suc d + b)
      same = face_of_lem d ws p a ha ∙ e ∙ sym (face_of_lem d ws q b hb)

      go : Dec (p * suc d + a < q * suc d + b) → Dec (q * suc d + b < p * suc d + a) → (p ≡ q) × (a ≡ b)
      go (yes k) j =
          absurd (leads_new (q * suc d + b) (key_inside d s q b hq hb) (to_place q b hb (λ x y. x < wing_in d ws x y) lq) (p * suc d + a) k same)
      go (no k) (yes j) =
          absurd (leads_new (p * suc d + a) (key_inside d s p a hp ha) (to_place p a ha (λ x y. x < wing_in d ws x y) lp) (q * suc d + b) j
          (sym same))
      go (no k) (no j) =
          let g : p * suc d + a ≡ q * suc d + b = omega arith in (
            sym (cell_of_key p a (suc d) (omega arith)) ∙ ap (λ i. i / suc d) g ∙ cell_of_key q b (suc d) (omega arith),
            sym (place_of_key p a (suc d) (omega arith)) ∙ ap (λ i. i % suc d) g ∙ place_of_key q b (suc d) (omega arith),
          )

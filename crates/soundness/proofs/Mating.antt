-- Two places of a table with the same face meet, and no third place has it.
-- Assumes nothing.
use mathlib.Core.Path.{◌≡◌, sym, ap, ◌∙◌, subst}
use mathlib.Core.Logic.{◌⊎◌, inl, inr}
use mathlib.Core.List.{List}
use Prim.Native.Nat.{ℕ, suc, ◌≤◌, ◌<◌}
use native.Mathlib.Omega.{arith}
use native.Mathlib.Decide.{dec_lt}
use lib.ListN.{length}
use Rattle.simplex.specs.Sort.{Asc}
use Rattle.records.specs.Inner.Inside.{wing_in}
use Rattle.soundness.specs.Inner.Certified.{row_in, face_in, Meets, Leads, Linked, Apart}
use Rattle.soundness.proofs.FaceRows.{one_cell}

module _ (d s : ℕ) (ws : List ℕ)
    (long : (p : ℕ) → p < s → length (row_in d ws p) ≡ suc d) (asc : (p : ℕ) → p < s → Asc (row_in d ws p))
    (linked : (p a : ℕ) → p < s → a ≤ d → Linked d s ws p a) (apart : Apart d s ws) where
  -- the leading place that a place goes by
  abbrev Leader : ℕ → ℕ → Type 0
  Leader p a = (q : ℕ) × (b : ℕ) × (q < s) × (b ≤ d) × Leads d ws q b × Meets d ws q b p a

  leader : (p a : ℕ) → p < s → a ≤ d → (Leads d ws p a → ⊥) → Leader p a
  leader p a hp ha not-it =
      let r = (linked p a hp ha).following (omega (arith, not-it)) in
      (r.0, r.1, omega (arith, r.2), r.3, rw r.4.there r.2, r.4)

  module _ (p a q b : ℕ) (hp : p < s) (ha : a ≤ d) (hq : q < s) (hb : b ≤ d) (e : face_in d ws p a ≡ face_in d ws q b)
      (two : (p ≡ q) → (a ≡ b) → ⊥) where
    -- the one leads, the other not
    led : (p a q b : ℕ) → p < s → a ≤ d → q < s → b ≤ d → face_in d ws p a ≡ face_in d ws q b → Leads d ws p a →
        (Leads d ws q b → ⊥) → Meets d ws p a q b
    led p a q b hp ha hq hb e one other =
        let r = leader q b hq hb other in
        let z = apart r.0 r.1 p a r.2 r.3 hp ha r.4 one (r.5.face ∙ sym e) in
        subst (λ x. Meets d ws x a q b) z.0 (subst (λ x. Meets d ws r.0 x q b) z.1 r.5)

    abbrev Either : Type 0
    Either = Meets d ws p a q b ⊎ Meets d ws q b p a

    -- neither leads: both go by one place, whose wing is one cell
    neither : (Leads d ws p a → ⊥) → (Leads d ws q b → ⊥) → ⊥
    neither np nq =
        let r = leader p a hp ha np in
        let t = leader q b hq hb nq in
        let z = apart r.0 r.1 t.0 t.1 r.2 r.3 t.2 t.3 r.4 t.4 (r.5.face ∙ e ∙ sym t.5.face) in
        let m : Meets d ws t.0 t.1 p a = subst (λ x. Meets d ws x t.1 p a) z.0 (subst (λ x. Meets d ws r.0 x p a) z.1 r.5) in
        let y : p ≡ q = sym m.there ∙ t.5.there in
        two y (one_cell d s ws long asc p a b hp ha hb (e ∙ ap (λ x. face_in d ws x b) (sym y)))

    pub meeting : Meets d ws p a q b ⊎ Meets d ws q b p a
    meeting = go (dec_lt p (wing_in d ws p a)) (dec_lt q (wing_in d ws q b))
      where
        go : Dec (Leads d ws p a) → Dec (Leads d ws q b) → Either
        go (yes x) (yes y) = let z = apart p a q b hp ha hq hb x y e in absurd (two z.0 z.1)
        go (yes x) (no y) = inl (led p a q b hp ha hq hb e x y)
        go (no x) (yes y) = inr (led q b p a hq hb hp ha (sym e) y x)
        go (no x) (no y) = absurd (neither x y)

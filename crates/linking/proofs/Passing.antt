-- One more key passed, alone or paired with an earlier one; and what holds when all are passed.
-- Assumes nothing.
use mathlib.Core.Path.{◌≡◌, sym, ap, ◌∙◌, subst}
use mathlib.Core.Logic.{◌⊎◌, inl, inr}
use mathlib.Core.List.{List}
use Prim.Native.Nat.{ℕ, suc, ◌+◌, ◌*◌, ◌/◌, ◌%◌, ◌≤◌, ◌<◌}
use native.Mathlib.Decide.{dec_lt, ℕ_discrete}
use native.Mathlib.Nat.{div-add-mod', div-lt_iff_lt-mul, mod-lt}
use native.Mathlib.Omega.{arith}
use lib.ListN.{get_or}
use Rattle.simplex.specs.Cell.{Cell}
use Rattle.simplex.specs.Faces.{without}
use Rattle.simplex.specs.SignWords.{turned_sign}
use Rattle.records.specs.Layout.{empty}
use Rattle.records.specs.Inner.Inside.{sign_in, vertex_in}
use Rattle.soundness.specs.Inner.Hashing.{face_of}
use Rattle.soundness.specs.Inner.Pairing.{First, MeetsAt, New, Second, wing_of}
use Rattle.linking.specs.Inner.Linking.{Apt, Joined, Linking, SameCells}

module _ (d s : ℕ) (small : s ≤ 4096) where
  cell_of_lem : (g : ℕ) → g < s * suc d → g / suc d < s
  cell_of_lem g h = (div-lt_iff_lt-mul {k = suc d} {x = g} {y = s} (omega arith)).1 h

  -- one more that is new
  pub alone_more : (ws : List ℕ) (m : ℕ) → m < s * suc d → Linking d (s * suc d) ws m → New d ws m → Linking d (s * suc d) ws (m + 1)
  alone_more ws m hm l new = record { done = λ g h. go g h (dec_lt g m); ahead = λ g h k. l.ahead g h (omega arith) }
    where
      go : (g : ℕ) → g < m + 1 → Dec (g < m) → First d ws (m + 1) g ⊎ Second d ws g
      go g h (yes k) = later (l.done g k)
        where
          later : First d ws m g ⊎ Second d ws g → First d ws (m + 1) g ⊎ Second d ws g
          later (inl (n, inl e)) = inl (n, inl e)
          later (inl (n, inr r)) = inl (n, inr (r.0, r.1, omega (arith, r.2), r.3))
          later (inr r) = inr r
      go g h (no k) =
          let e : m ≡ g = omega arith in
          subst (λ x. First d ws (m + 1) x ⊎ Second d ws x) e (inl (new, inl (l.ahead m hm (omega arith))))

  -- the faces of two tables with the same cells
  pub face-same : (ws ws' : List ℕ) → SameCells d s ws ws' → (g : ℕ) → g < s * suc d → face_of d ws' g ≡ face_of d ws g
  face-same ws ws' same g h = ap (λ (c : Cell). without (g % suc d) c.row) (same.cell (g / suc d) (cell_of_lem g h))

  -- one more that has the face of an earlier one without a wing
  module _ (ws ws' : List ℕ) (f m : ℕ) (hf : f < m) (hm : m < s * suc d) (l : Linking d (s * suc d) ws m)
      (apt : Apt d ws (f / suc d) (f % suc d) (m / suc d) (m % suc d)) (now : Joined d s ws ws' (f / suc d) (f % suc d) (m / suc d) (m % suc d)) where
    hfs : f < s * suc d
    hfs = omega arith

    -- a key is told by its place
    same_key : (g h : ℕ) → g / suc d ≡ h / suc d → g % suc d ≡ h % suc d → g ≡ h
    same_key g h e z = omega (arith, div-add-mod' g (suc d), div-add-mod' h (suc d), ap (λ i. i * suc d) e, z)

    rest : (g : ℕ) → g < s * suc d → (g ≡ f → ⊥) → (g ≡ m → ⊥) → wing_of d ws' g ≡ wing_of d ws g
    rest g h n k =
        now.rest (g / suc d) (g % suc d) (cell_of_lem g h) (omega (arith, mod-lt g {m = suc d} (omega arith))) (λ e z. n (same_key g f e z))
        (λ e z. k (same_key g m e z))

    row_same : (g : ℕ) → g < s * suc d → face_of d ws' g ≡ face_of d ws g
    row_same = face-same ws ws' now.same

    vertex-same : (g : ℕ) → g < s * suc d → vertex_in d ws' (g / suc d) (g % suc d) ≡ vertex_in d ws (g / suc d) (g % suc d)
    vertex-same g h = ap (λ (c : Cell). get_or c.row (g % suc d) 0) (now.same.cell (g / suc d) (cell_of_lem g h))

    turn-same : (g : ℕ) → g < s * suc d → turned_sign (sign_in d ws' (g / suc d)) (g % suc d) ≡ turned_sign (sign_in d ws (g / suc d)) (g % suc d)
    turn-same g h = ap (λ x. turned_sign x (g % suc d)) (now.same.sign (g / suc d) (cell_of_lem g h))

    -- what does not turn on wings
    meets_from : (g h : ℕ) → g < s * suc d → h < s * suc d → wing_of d ws' g ≡ h / suc d → wing_of d ws' h ≡ g / suc d →
        face_of d ws g ≡ face_of d ws h → (vertex_in d ws (g / suc d) (g % suc d) ≡ vertex_in d ws (h / suc d) (h % suc d) → ⊥) →
        (turned_sign (sign_in d ws (g / suc d)) (g % suc d) ≡ turned_sign (sign_in d ws (h / suc d)) (h % suc d) → ⊥) → MeetsAt d ws' g h
    meets_from g h hg hh t b e v w = record {
      there = t;
      back = b;
      face = row_same g hg ∙ e ∙ sym (row_same h hh);
      apex = λ z. v (sym (vertex-same g hg) ∙ z ∙ vertex-same h hh);
      opposite = λ z. w (sym (turn-same g hg) ∙ z ∙ turn-same h hh);
    }

    new-same : (g : ℕ) → g < s * suc d → New d ws g → New d ws' g
    new-same g h n j l e = n j l (sym (row_same j (omega arith)) ∙ e ∙ row_same g h)

    -- a key that meets another has a cell for its wing
    full : (g h : ℕ) → h < s * suc d → MeetsAt d ws g h → wing_of d ws g ≡ empty → ⊥
    full g h hh m e = omega (arith, m.there, cell_of_lem h hh, e, small)

    full_back : (g h : ℕ) → g < s * suc d → MeetsAt d ws g h → wing_of d ws h ≡ empty → ⊥
    full_back g h hg m e = omega (arith, m.back, cell_of_lem g hg, e, small)

    -- so those that met before meet still
    meets_same : (g h : ℕ) → g < m → h < m → MeetsAt d ws g h → MeetsAt d ws' g h
    meets_same g h lg lh k =
        let hg : g < s * suc d = omega arith in
        let hh : h < s * suc d = omega arith in
        let g-not : g ≡ f → ⊥ = λ z. full g h hh k (ap (wing_of d ws) z ∙ apt.bare) in
        let h-not : h ≡ f → ⊥ = λ z. full_back g h hg k (ap (wing_of d ws) z ∙ apt.bare) in
        meets_from g h hg hh (rest g hg g-not (λ z. omega (arith, z, lg)) ∙ k.there) (rest h hh h-not (λ z. omega (arith, z, lh)) ∙ k.back)
        k.face k.apex k.opposite

    pub pair_more : Linking d (s * suc d) ws' (m + 1)
    pair_more = record {
      done = λ g h. go g h (dec_lt g m) (ℕ_discrete g f);
      ahead = λ g h k. rest g h (λ z. omega (arith, z, k, hf)) (λ z. omega (arith, z, k)) ∙ l.ahead g h (omega arith);
    }
      where
        paired : MeetsAt d ws' f m
        paired = meets_from f m hfs hm now.there now.back apt.face apt.apex apt.opposite

        go : (g : ℕ) → g < m + 1 → Dec (g < m) → Dec (g ≡ f) → First d ws' (m + 1) g ⊎ Second d ws' g
        go g h (no k) t = let e : m ≡ g = omega arith in subst (λ x. First d ws' (m + 1) x ⊎ Second d ws' x) e (inr (f, hf, paired))
        go g h (yes k) (yes z) = subst (λ x. First d ws' (m + 1) x ⊎ Second d ws' x) (sym z) (first (l.done f hf))
          where
            first : First d ws m f ⊎ Second d ws f → First d ws' (m + 1) f ⊎ Second d ws' f
            first (inl (n, q)) = inl (new-same f hfs n, inr (m, hf, omega arith, paired))
            first (inr r) = absurd (full_back r.0 f (omega (arith, r.1, hfs)) r.2 apt.bare)
        go g h (yes k) (no z) = other (l.done g k)
          where
            other : First d ws m g ⊎ Second d ws g → First d ws' (m + 1) g ⊎ Second d ws' g
            other (inl (n, inl e)) = inl (new-same g (omega arith) n, inl (rest g (omega arith) z (λ y. omega (arith, y, k)) ∙ e))
            other (inl (n, inr r)) =
                inl (new-same g (omega arith) n, inr (r.0, r.1, omega (arith, r.2), meets_same g r.0 k r.2 r.3))
            other (inr r) = inr (r.0, r.1, meets_same r.0 g (omega (arith, r.1, k)) k r.2)

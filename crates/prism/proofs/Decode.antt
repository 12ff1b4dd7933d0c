-- What a swept row tells: its level, its lower vertices, its upper vertices.
use mathlib.Core.Path.{◌≡◌, refl, ap, ap₂, ◌∙◌, subst}
use mathlib.Core.Bool.{Bool, true, false, cond}
use mathlib.Core.List.{[], ◌∷◌, ◌++◌, map}
use Prim.Native.Nat.{ℕ, suc, ◌+◌, ◌*◌, ◌/◌, ◌%◌, ◌≤◌, ◌<◌}
use native.Mathlib.Omega.{arith}
use native.Mathlib.Nat.{add-mul-div_right, div-eq_of_lt, add-mul-mod_self_right, mod-eq_of_lt}
use lib.Dec.{eqb}
use borrow.Author.Tests.{eq-eqb, ne_eqb}
use Rattle.simplex.specs.Cell.{Row, one, same_row}
use Rattle.simplex.proofs.Rows.{Below, Filled, same_row_refl, same_row_true}
use Rattle.prism.proofs.Level.{raised}
use Rattle.prism.proofs.PrismCounts.{hits_pair}

pub level_of_lem : (nv x i : ℕ) → x < nv → (x + i * nv) / nv ≡ i
level_of_lem nv x i h = add-mul-div_right x i (omega arith) ∙ rw (div-eq_of_lt h) (omega arith)

base : (nv x i : ℕ) → x < nv → (x + i * nv) % nv ≡ x
base nv x i h = add-mul-mod_self_right x i nv ∙ mod-eq_of_lt h

-- the level of the first vertex
abbrev pub level_in : ℕ → Row → ℕ
level_in nv [] = 0
level_in nv (n ∷ w) = n / nv

abbrev pub bases : ℕ → Row → Row
bases nv = map (λ n. n % nv)

-- the vertices of level i at the front, and those after them
abbrev pub lowers : ℕ → ℕ → Row → Row
lowers nv i [] = []
lowers nv i (n ∷ w) = cond (eqb (n / nv) i) (n % nv ∷ lowers nv i w) []

abbrev pub uppers : ℕ → ℕ → Row → Row
uppers nv i [] = []
uppers nv i (n ∷ w) = cond (eqb (n / nv) i) (uppers nv i w) (n % nv ∷ bases nv w)

bases_up : (nv i : ℕ) (v : Row) → Below nv v → bases nv (raised (i * nv) v) ≡ v
bases_up nv i [] b = refl
bases_up nv i (x ∷ w) b = ap₂ {C = Row} (λ a r. a ∷ r) (base nv x i b.0) (bases_up nv i w b.1)

at_level_lem : (nv x i : ℕ) → x < nv → eqb ((x + i * nv) / nv) i ≡ true
at_level_lem nv x i h = eq-eqb _ i (level_of_lem nv x i h)

above : (nv x i : ℕ) → x < nv → eqb ((x + suc i * nv) / nv) i ≡ false
above nv x i h = ne_eqb _ i (λ e. omega (arith, level_of_lem nv x (suc i) h))

pub lows_cell : (nv i : ℕ) (l u : Row) → Below nv l → Below nv u → lowers nv i (raised (i * nv) l ++ raised (suc i * nv) u) ≡ l
lows_cell nv i [] [] bl bu = refl
lows_cell nv i [] (y ∷ u) bl bu = rw (above nv y i bu.0) refl
lows_cell nv i (x ∷ l) u bl bu = rw (at_level_lem nv x i bl.0) (ap₂ {C = Row} (λ a r. a ∷ r) (base nv x i bl.0) (lows_cell nv i l u bl.1 bu))

pub highs_cell : (nv i : ℕ) (l u : Row) → Below nv l → Below nv u → uppers nv i (raised (i * nv) l ++ raised (suc i * nv) u) ≡ u
highs_cell nv i [] [] bl bu = refl
highs_cell nv i [] (y ∷ u) bl bu = rw (above nv y i bu.0) (bases_up nv (suc i) (y ∷ u) bu)
highs_cell nv i (x ∷ l) u bl bu = rw (at_level_lem nv x i bl.0) (highs_cell nv i l u bl.1 bu)

fin : (i j : ℕ) (a b l u : Row) → j ≡ i → a ≡ l → b ≡ u → 1 ≤ cond (eqb j i) (hits_pair a b l u) 0
fin i j a b l u p q r = rw (p, q, r, eq-eqb i i refl, same_row_refl u, same_row_refl l) (omega arith)

-- a row is at most one swept cell
pub decode : (nv i : ℕ) (w l u : Row) → Below nv l → Below nv u → Filled l →
    one (same_row (raised (i * nv) l ++ raised (suc i * nv) u) w)
    ≤ cond (eqb (level_in nv w) i) (hits_pair (lowers nv (level_in nv w) w) (uppers nv (level_in nv w) w) l u) 0
decode nv i w [] u bl bu n = absurd n
decode nv i w (x ∷ l) u bl bu n =
    go (same_row (raised (i * nv) (x ∷ l) ++ raised (suc i * nv) u) w) (same_row_true (raised (i * nv) (x ∷ l) ++ raised (suc i * nv) u) w)
  where
    go : (t : Bool) → (t ≡ true → raised (i * nv) (x ∷ l) ++ raised (suc i * nv) u ≡ w) →
        one t ≤ cond (eqb (level_in nv w) i) (hits_pair (lowers nv (level_in nv w) w) (uppers nv (level_in nv w) w) (x ∷ l) u) 0
    go false h = omega arith
    go true h =
        let e : level_in nv w ≡ i = subst (λ w. level_in nv w ≡ i) (h refl) (level_of_lem nv x i bl.0) in
        fin i (level_in nv w) (lowers nv (level_in nv w) w) (uppers nv (level_in nv w) w) (x ∷ l) u e
        (ap (λ k. lowers nv k w) e ∙ subst (λ w. lowers nv i w ≡ x ∷ l) (h refl) (lows_cell nv i (x ∷ l) u bl bu))
        (ap (λ k. uppers nv k w) e ∙ subst (λ w. uppers nv i w ≡ u) (h refl) (highs_cell nv i (x ∷ l) u bl bu))

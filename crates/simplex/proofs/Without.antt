-- Rows less the vertex at a position.
use mathlib.Core.Path.{◌≡◌, refl, sym, ap, ap₂, ◌∙◌, subst}
use mathlib.Core.List.{[], ◌∷◌, ◌++◌, map, head-eq_of_cons-eq, tail-eq_of_cons-eq}
use Prim.Native.Nat.{ℕ, zero, suc, ◌+◌, ◌≤◌, ◌<◌}
use native.Mathlib.Omega.{arith}
use native.Mathlib.Nat.{zero-add, suc-add, le_of_suc-le-suc, not-suc-le-zero}
use lib.ListN.{length, take, drop}
use Rattle.simplex.specs.Cell.{Row}
use Rattle.simplex.specs.Faces.{without}
use Rattle.simplex.specs.Sort.{Asc}

pub without-map : (g : ℕ → ℕ) (j : ℕ) (v : Row) → without j (map g v) ≡ map g (without j v)
without-map g j [] = refl
without-map g zero (x ∷ v) = refl
without-map g (suc j) (x ∷ v) = ap {B = Row} (λ r. g x ∷ r) (without-map g j v)

pub without_left : (j : ℕ) (l r : Row) → j < length l → without j (l ++ r) ≡ without j l ++ r
without_left j [] r h = absurd (not-suc-le-zero h)
without_left zero (x ∷ l) r h = refl
without_left (suc j) (x ∷ l) r h = ap {B = Row} (λ r. x ∷ r) (without_left j l r (le_of_suc-le-suc h))

pub without-right : (j : ℕ) (l r : Row) → without (length l + j) (l ++ r) ≡ l ++ without j r
without-right j [] r = rw (zero-add j) refl
without-right j (x ∷ l) r = rw (suc-add (length l) j) (ap {B = Row} (λ r. x ∷ r) (without-right j l r))

pub drop-face : (k j : ℕ) (v : Row) → without j (drop k v) ≡ drop k (without (k + j) v)
drop-face zero j v = rw (zero-add j) refl
drop-face (suc k) j [] = refl
drop-face (suc k) j (x ∷ v) = rw (suc-add k j) (drop-face k j v)

pub drop-face_ge : (a m : ℕ) (v : Row) → a ≤ m → drop m (without a v) ≡ drop (suc m) v
drop-face_ge a zero [] h = refl
drop-face_ge a (suc m) [] h = refl
drop-face_ge zero m (x ∷ v) h = refl
drop-face_ge (suc a) zero (x ∷ v) h = absurd (not-suc-le-zero h)
drop-face_ge (suc a) (suc m) (x ∷ v) h = drop-face_ge a m v (le_of_suc-le-suc h)

pub take-face_lt : (a m : ℕ) (v : Row) → m ≤ a → take m (without a v) ≡ take m v
take-face_lt a zero v h = refl
take-face_lt a (suc m) [] h = refl
take-face_lt zero (suc m) (x ∷ v) h = absurd (not-suc-le-zero h)
take-face_lt (suc a) (suc m) (x ∷ v) h = ap {B = Row} (λ r. x ∷ r) (take-face_lt a m v (le_of_suc-le-suc h))

pub take-face_ge : (a m : ℕ) (v : Row) → a ≤ m → take m (without a v) ≡ without a (take (suc m) v)
take-face_ge a zero [] h = refl
take-face_ge a (suc m) [] h = refl
take-face_ge zero m (x ∷ v) h = refl
take-face_ge (suc a) zero (x ∷ v) h = absurd (not-suc-le-zero h)
take-face_ge (suc a) (suc m) (x ∷ v) h = ap {B = Row} (λ r. x ∷ r) (take-face_ge a m v (le_of_suc-le-suc h))

pub asc_tail : (x : ℕ) (v : Row) → Asc (x ∷ v) → Asc v
asc_tail x [] s = tt
asc_tail x (y ∷ v) s = s.1

asc_head : (x y : ℕ) (v r : Row) → Asc (x ∷ v) → v ≡ y ∷ r → x < y
asc_head x y v r s e = (subst (λ (t : Row). Asc (x ∷ t)) e s).0

pub without_inj : (v : Row) (b c : ℕ) → Asc v → b < c → c < length v → without b v ≡ without c v → ⊥
without_inj [] b c s l h e = not-suc-le-zero h
without_inj (x ∷ v) b zero s l h e = not-suc-le-zero l
without_inj (x ∷ v) zero (suc c) s l h e = omega (arith, asc_head x x v (without c v) s e)
without_inj (x ∷ v) (suc b) (suc c) s l h e = without_inj v b c (asc_tail x v s) (le_of_suc-le-suc l) (le_of_suc-le-suc h) (tail-eq_of_cons-eq e)

pub two_faces : (v u : Row) (b c a z : ℕ) → Asc v → Asc u → b < c → c < length v →
    a < length u → z < length u → without b v ≡ without a u → without c v ≡ without z u → v ≡ u
two_faces [] u b c a z sv su l hc ha hz e f = absurd (not-suc-le-zero hc)
two_faces (x ∷ v) [] b c a z sv su l hc ha hz e f = absurd (not-suc-le-zero ha)
two_faces (x ∷ v) (y ∷ u) b zero a z sv su l hc ha hz e f = absurd (not-suc-le-zero l)
two_faces (x ∷ v) (y ∷ u) zero (suc c) zero zero sv su l hc ha hz e f = absurd (omega (arith, asc_head x x v (without c v) sv (e ∙ sym f)))
two_faces (x ∷ v) (y ∷ u) zero (suc c) zero (suc z) sv su l hc ha hz e f = ap₂ {C = Row} (λ a b. a ∷ b) (head-eq_of_cons-eq f) e
two_faces (x ∷ v) (y ∷ u) zero (suc c) (suc a) zero sv su l hc ha hz e f =
    absurd (omega (arith, asc_head x y v (without a u) sv e, asc_head y x u (without c v) su (sym f)))
two_faces (x ∷ v) (y ∷ u) zero (suc c) (suc a) (suc z) sv su l hc ha hz e f =
    absurd (omega (arith, asc_head x y v (without a u) sv e, head-eq_of_cons-eq f))
two_faces (x ∷ v) (y ∷ u) (suc b) (suc c) zero zero sv su l hc ha hz e f =
    absurd (without_inj v b c (asc_tail x v sv) (le_of_suc-le-suc l) (le_of_suc-le-suc hc) (tail-eq_of_cons-eq (e ∙ sym f)))
two_faces (x ∷ v) (y ∷ u) (suc b) (suc c) zero (suc z) sv su l hc ha hz e f =
    absurd (omega (arith, asc_head y x u (without b v) su (sym e), head-eq_of_cons-eq f))
two_faces (x ∷ v) (y ∷ u) (suc b) (suc c) (suc a) zero sv su l hc ha hz e f =
    absurd (omega (arith, asc_head y x u (without c v) su (sym f), head-eq_of_cons-eq e))
two_faces (x ∷ v) (y ∷ u) (suc b) (suc c) (suc a) (suc z) sv su l hc ha hz e f =
    ap₂ {C = Row} (λ a b. a ∷ b) (head-eq_of_cons-eq e)
    (two_faces v u b c a z (asc_tail x v sv) (asc_tail y u su) (le_of_suc-le-suc l) (le_of_suc-le-suc hc)
    (le_of_suc-le-suc ha) (le_of_suc-le-suc hz) (tail-eq_of_cons-eq e) (tail-eq_of_cons-eq f))

pub without-length : (a : ℕ) (w : Row) → a < length w → suc (length (without a w)) ≡ length w
without-length a [] h = absurd (not-suc-le-zero h)
without-length zero (x ∷ w) h = refl
without-length (suc a) (x ∷ w) h = ap suc (without-length a w (le_of_suc-le-suc h))

-- Floats that are equal as numbers have equal sums.
--   equal-sums                    if x equals y, then x + m equals y + m, unless it is a NaN
--   zeros_equal                   zeros are equal, whatever their signs
--   sum_zeros                     the sum of zeros is one
--   equal_unordered               of equal values neither is below the other
--   above-number, below-number    what is above something, or below it, equals itself: it is no NaN
-- Assumes nothing.
use mathlib.Core.Path.{◌≡◌, refl, sym, ap, ap₂, ◌∙◌}
use mathlib.Core.Bool.{Bool, true, false, cond, beq, ◌&&◌, ◌||◌, or-true, true≢false, false≢true}
use Prim.Native.Nat.{ℕ, zero, suc, ◌+◌, ◌*◌, ◌-◌, ◌<◌}
use native.Mathlib.Nat.{add-mul, mul_comm, mul_assoc, mul_left_comm, mul-mul-mul_comm, mul-sub, mul-pos, zero-mul, zero-add, sub-zero}
use native.Mathlib.Nat.{le_refl, zero-lt-suc, suc-ne-zero, not-suc-le-zero, lt_of_mul-lt-mul_right, mul-lt-mul_of_pos_right}
use lib.Dec.{eqb, ltb}
use lib.IntN.{ℤ}
use lib.Pow.{pow_pos}
use lib.Ieee.{Float, nan, inf, fin, Format, binary64, prec, emax, low, up, down, sum, round, add, below, level, lt, eq}
use lib.Ieee.Exact.{HasValue, round_exact}
use lib.Ieee.Fits.{down_pos}
use lib.Ieee.Scale.{round_same}
use borrow.Author.Tests.{eqb-true, eq-eqb, ltb-true, lt-ltb, le-ltb}
use Rattle.rules.proofs.Tests.{and_parts}
use Rattle.points.proofs.AllOf.{same_test}

-- the fractions a / c and b / c, and the same ones over another denominator
module _ (a b c a' b' c' : ℕ) (C : 0 < c) (C' : 0 < c') (p : a * c' ≡ a' * c) (q : b * c' ≡ b' * c) where
  less_then : a < b → a' < b'
  less_then l = lt_of_mul-lt-mul_right c (rw (sym p, sym q) (mul-lt-mul_of_pos_right l C'))

  taken : (a - b) * c' ≡ (a' - b') * c
  taken =
      mul_comm (a - b) c' ∙ mul-sub c' a b
      ∙ ap₂ ◌-◌ (mul_comm c' a ∙ p ∙ mul_comm a' c) (mul_comm c' b ∙ q ∙ mul_comm b' c)
      ∙ sym (mul-sub c a' b') ∙ mul_comm c (a' - b')

module _ (a b c a' b' c' : ℕ) (C : 0 < c) (C' : 0 < c') (p : a * c' ≡ a' * c) (q : b * c' ≡ b' * c) where
  less_same : ltb a b ≡ ltb a' b'
  less_same =
      same_test (ltb a b) (ltb a' b')
      (λ t. lt-ltb a' b' (less_then a b c a' b' c' C C' p q (ltb-true a b t)))
      (λ t. lt-ltb a b (less_then a' b' c' a b c C' C (sym p) (sym q) (ltb-true a' b' t)))

module _ (a b c a' b' c' : ℕ) (C : 0 < c) (C' : 0 < c') (p : a * c' ≡ a' * c) (q : b * c' ≡ b' * c) where
  sum_same : (f : Format) (s t : Bool) → sum f s a t b c ≡ sum f s a' t b' c'
  unfolding sum
  sum_same f s t =
      let below = less_same a b c a' b' c' C C' p q in
      let above = less_same b a c b' a' c' C C' q p in
      ap₂ (cond (beq s t)) (round_same f s (a + b) c (a' + b') c' C C' (add-mul a b c' ∙ ap₂ ◌+◌ p q ∙ sym (add-mul a' b' c)))
      (rw below (ap₂ (cond (ltb a' b')) (round_same f t (b - a) c (b' - a') c' C C' (taken b a c b' a' c' C C' q p))
      (rw above (round_same f (s && ltb b' a') (a - b) c (a' - b') c' C C' (taken a b c a' b' c' C C' p q)))))

nothing : (m c : ℕ) → 0 < c → m * c ≡ 0 → m ≡ 0
nothing zero c C h = refl
nothing (suc m) c C h = absurd (not-suc-le-zero (rw h at (mul-pos (zero-lt-suc m) C)))

-- zeros are equal, whatever their signs
pub zeros_equal : (x y : Float) (s t : Bool) (c d : ℕ) → 0 < c → 0 < d → HasValue x s 0 c → HasValue y t 0 d → eq x y ≡ true
unfolding eq
zeros_equal nan y s t c d C D hx hy = absurd hx
zeros_equal (inf u) y s t c d C D hx hy = absurd hx
zeros_equal (fin u m e) nan s t c d C D hx hy = absurd hy
zeros_equal (fin u m e) (inf w) s t c d C D hx hy = absurd hy
zeros_equal (fin u m e) (fin w n g) s t c d C D hx hy =
    let x = nothing (m * up e) c C (hx.1 ∙ zero-mul (down e)) in
    let y = nothing (n * up g) d D (hy.1 ∙ zero-mul (down g)) in
    rw (x, y, zero-mul (down g), zero-mul (down e)) (or-true (beq u w))

round_zero : (f : Format) (s : Bool) (c : ℕ) → 0 < c → HasValue (round f s 0 c) s 0 c
round_zero f s c C = round_exact f s 0 c 0 0 C (pow_pos (prec f)) (pow_pos (low f + suc (emax f))) (simp (zero-mul))

-- a zero added to b / c, whatever the zero's sign: b / c rounded, or a zero
sum_zero : (f : Format) (s t : Bool) (b c : ℕ) → sum f s 0 t (suc b) c ≡ round f t (suc b) c
unfolding sum
sum_zero f true true b c = ap (λ (z : ℕ). round f true z c) (zero-add (suc b))
sum_zero f true false b c = rw (lt-ltb 0 (suc b) (zero-lt-suc b), sub-zero (suc b)) refl
sum_zero f false true b c = rw (lt-ltb 0 (suc b) (zero-lt-suc b), sub-zero (suc b)) refl
sum_zero f false false b c = ap (λ (z : ℕ). round f false z c) (zero-add (suc b))

pub sum_zeros : (f : Format) (s t : Bool) (c : ℕ) → 0 < c → (u : Bool) × HasValue (sum f s 0 t 0 c) u 0 c
unfolding sum
sum_zeros f true true c C = (true, round_zero f true c C)
sum_zeros f true false c C = (false, round_zero f false c C)
sum_zeros f false true c C = (false, round_zero f false c C)
sum_zeros f false false c C = (false, round_zero f false c C)

-- 0 and b / c, 0 and b' / c'
zero_sums : (f : Format) (s s' t : Bool) (b c b' c' : ℕ) → 0 < c → 0 < c' → b * c' ≡ b' * c →
    eq (sum f s 0 t b c) (sum f s 0 t b c) ≡ true → eq (sum f s 0 t b c) (sum f s' 0 t b' c') ≡ true
zero_sums f s s' t zero c zero c' C C' q number =
    let l = sum_zeros f s t c C in
    let r = sum_zeros f s' t c' C' in
    zeros_equal _ _ l.0 r.0 c c' C C' l.1 r.1
zero_sums f s s' t zero c (suc b') c' C C' q number = absurd (suc-ne-zero b' (nothing (suc b') c C (sym q ∙ zero-mul c')))
zero_sums f s s' t (suc b) c zero c' C C' q number = absurd (suc-ne-zero b (nothing (suc b) c' C' (q ∙ zero-mul c)))
zero_sums f s s' t (suc b) c (suc b') c' C C' q number =
    rw (sym (sum_zero f s t b c ∙ round_same f t (suc b) c (suc b') c' C C' q ∙ sym (sum_zero f s' t b' c'))) number

-- K / e and L / d are one value, with one sign or zero, and P / g is added to each
module _ (t : Bool) (K L P e d g : ℕ) (E : 0 < e) (D : 0 < d) (G : 0 < g) (h : K * d ≡ L * e) where
  first-same : K * g * (d * g) ≡ L * g * (e * g)
  first-same = mul-mul-mul_comm K g d g ∙ ap (λ (z : ℕ). z * (g * g)) h ∙ mul-mul-mul_comm L e g g

  second-same : P * e * (d * g) ≡ P * d * (e * g)
  second-same = simp (mul_assoc, mul_left_comm)

  same_sign : (s : Bool) → sum binary64 s (K * g) t (P * e) (e * g) ≡ sum binary64 s (L * g) t (P * d) (d * g)
  same_sign s = sum_same _ _ _ _ _ _ (mul-pos E G) (mul-pos D G) first-same second-same binary64 s t

  both_zero : (s s' : Bool) → eqb (K * d) 0 ≡ true → let x = sum binary64 s (K * g) t (P * e) (e * g) in
      eq x x ≡ true → eq x (sum binary64 s' (L * g) t (P * d) (d * g)) ≡ true
  both_zero s s' z number =
      let none = eqb-true (K * d) 0 z in
      let k : K * g ≡ 0 = ap (λ (m : ℕ). m * g) (nothing K d D none) ∙ zero-mul g in
      let l : L * g ≡ 0 = ap (λ (m : ℕ). m * g) (nothing L e E (sym h ∙ none)) ∙ zero-mul g in
      rw (k, l) (zero_sums binary64 s s' t (P * e) (e * g) (P * d) (d * g) (mul-pos E G) (mul-pos D G) second-same (rw k at number))

  value_sums : (s s' : Bool) → (beq s s' || eqb (K * d) 0) ≡ true → let x = sum binary64 s (K * g) t (P * e) (e * g) in
      eq x x ≡ true → eq x (sum binary64 s' (L * g) t (P * d) (d * g)) ≡ true
  value_sums true true z number = rw (sym (same_sign true)) number
  value_sums false false z number = rw (sym (same_sign false)) number
  value_sums true false z number = both_zero true false z number
  value_sums false true z number = both_zero false true z number

pub equal-sums : (x y m : Float) → eq x y ≡ true → eq (add binary64 x m) (add binary64 x m) ≡ true →
    eq (add binary64 x m) (add binary64 y m) ≡ true
unfolding eq add
equal-sums nan y m e number = absurd (false≢true e)
equal-sums (inf s) nan m e number = absurd (false≢true e)
equal-sums (inf true) (inf true) m e number = number
equal-sums (inf false) (inf false) m e number = number
equal-sums (inf true) (inf false) m e number = absurd (false≢true e)
equal-sums (inf false) (inf true) m e number = absurd (false≢true e)
equal-sums (inf s) (fin t l d) m e number = absurd (false≢true e)
equal-sums (fin s k c) nan m e number = absurd (false≢true e)
equal-sums (fin s k c) (inf t) m e number = absurd (false≢true e)
equal-sums (fin s k c) (fin t l d) nan e number = absurd (false≢true number)
equal-sums (fin s k c) (fin t l d) (inf u) e number = number
equal-sums (fin s k c) (fin t l d) (fin u p g) e number =
    let parts = and_parts (eqb (k * up c * down d) (l * up d * down c)) (beq s t || eqb (k * up c * down d) 0) e in
    value_sums u (k * up c) (l * up d) (p * up g) (down c) (down d) (down g) (down_pos c) (down_pos d) (down_pos g)
    (eqb-true _ _ parts.0) s t parts.1 number

-- what is compared is a number
equals_itself : (s : Bool) (m : ℕ) (e : ℤ) → eq (fin s m e) (fin s m e) ≡ true
unfolding eq
equals_itself true m e = rw (eq-eqb (m * up e * down e) (m * up e * down e) refl) refl
equals_itself false m e = rw (eq-eqb (m * up e * down e) (m * up e * down e) refl) refl

none_above : (x : Float) → lt x nan ≡ false
unfolding lt
none_above nan = refl
none_above (inf s) = refl
none_above (fin s m c) = refl

pub above-number : (x y : Float) → lt x y ≡ true → eq y y ≡ true
unfolding eq
above-number x nan e = absurd (true≢false (sym e ∙ none_above x))
above-number x (inf true) e = refl
above-number x (inf false) e = refl
above-number x (fin t n d) e = equals_itself t n d

pub below-number : (x y : Float) → lt x y ≡ true → eq x x ≡ true
unfolding lt eq
below-number nan y e = absurd (false≢true e)
below-number (inf true) y e = refl
below-number (inf false) y e = refl
below-number (fin s m c) y e = equals_itself s m c

-- of two equal values neither is below the other
unordered : (s t : Bool) (a b : ℕ) → level s a t b ≡ true → (below s a t b ≡ false) × (below t b s a ≡ false)
unordered s t a b e =
    let parts = and_parts (eqb a b) (beq s t || eqb a 0) e in
    rw (sym (eqb-true a b parts.0)) (go s t parts.1)
  where
    none : ltb a a ≡ false
    none = le-ltb a a (le_refl a)

    zero_sum : eqb a 0 ≡ true → ltb 0 (a + a) ≡ false
    zero_sum z = rw (eqb-true a 0 z) refl

    go : (s t : Bool) → (beq s t || eqb a 0) ≡ true → (below s a t a ≡ false) × (below t a s a ≡ false)
    go true true z = (none, none)
    go false false z = (none, none)
    go true false z = (zero_sum z, refl)
    go false true z = (refl, zero_sum z)

pub equal_unordered : (x y : Float) → eq x y ≡ true → (lt x y ≡ false) × (lt y x ≡ false)
unfolding eq lt
equal_unordered nan y e = absurd (false≢true e)
equal_unordered (inf s) nan e = absurd (false≢true e)
equal_unordered (inf true) (inf true) e = (refl, refl)
equal_unordered (inf false) (inf false) e = (refl, refl)
equal_unordered (inf true) (inf false) e = absurd (false≢true e)
equal_unordered (inf false) (inf true) e = absurd (false≢true e)
equal_unordered (inf s) (fin t n d) e = absurd (false≢true e)
equal_unordered (fin s m c) nan e = absurd (false≢true e)
equal_unordered (fin s m c) (inf t) e = absurd (false≢true e)
equal_unordered (fin s m c) (fin t n d) e = unordered s t (m * up c * down d) (n * up d * down c) e

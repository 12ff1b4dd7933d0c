-- Codes of rows, and of a row less a vertex.
--   code_drop, code_half, code_split      a digit more in front, a digit less, and the digits before and from a place on
--   code_face         the code of a face from the digits before the vertex left out and those behind it
--   code_below        how large a code is
--   code_same         rows of one length with equal codes are equal
use mathlib.Core.Path.{◌≡◌, refl, sym, ap, ap₂, ◌∙◌, subst}
use mathlib.Core.List.{[], ◌∷◌}
use Prim.Native.Nat.{ℕ, zero, suc, ◌+◌, ◌*◌, ◌/◌, ◌%◌, ◌^◌, ◌≤◌, ◌<◌}
use native.Mathlib.Nat.{add-mul, mul_assoc, mul-one, not-suc-le-zero, one-le-pow, pow-le-pow_right, pow-suc, pow-zero, zero-div, zero-mul}
use native.Mathlib.Numerals.{add-one}
use native.Mathlib.Omega.{arith}
use lib.Arith.{digits_div, digits_lt, digits_mod}
use lib.ListN.{length, length-drop, get_or, take, drop}
use Rattle.simplex.specs.Cell.{Row}
use Rattle.simplex.specs.Faces.{without}
use Rattle.simplex.proofs.Without.{without-length}
use Rattle.soundness.specs.Inner.Coding.{code_of, Under}

-- a row, by its places
pub under_at : (b : ℕ) (w : Row) → ((j : ℕ) → j < length w → get_or w j 0 < b) → Under b w
under_at b [] h = tt
under_at b (x ∷ w) h = (h 0 (omega arith), under_at b w (λ j l. h (suc j) (omega arith)))

pub under-without : (b a : ℕ) (w : Row) → Under b w → Under b (without a w)
under-without b a [] u = tt
under-without b zero (x ∷ w) u = u.1
under-without b (suc a) (x ∷ w) u = (u.0, under-without b a w u.1)

pub under-take : (b a : ℕ) (w : Row) → Under b w → Under b (take a w)
under-take b zero w u = tt
under-take b (suc a) [] u = tt
under-take b (suc a) (x ∷ w) u = (u.0, under-take b a w u.1)

pub under_drop : (b a : ℕ) (w : Row) → Under b w → Under b (drop a w)
under_drop b zero w u = u
under_drop b (suc a) [] u = tt
under_drop b (suc a) (x ∷ w) u = under_drop b a w u.1

take_long : (a : ℕ) (w : Row) → a ≤ length w → length (take a w) ≡ a
take_long zero w h = refl
take_long (suc a) [] h = absurd (not-suc-le-zero h)
take_long (suc a) (x ∷ w) h = ap suc (take_long a w (omega arith))

pub code_drop : (b j : ℕ) (w : Row) → j < length w → code_of b (drop j w) ≡ code_of b (drop (suc j) w) * b + get_or w j 0
code_drop b j [] h = absurd (not-suc-le-zero h)
code_drop b zero (x ∷ w) h = refl
code_drop b (suc j) (x ∷ w) h = code_drop b j w (omega arith)

-- the digits before place a, and those from it on
pub code_split : (b a : ℕ) (w : Row) → code_of b w ≡ code_of b (drop a w) * b ^ a + code_of b (take a w)
code_split b zero w = omega (arith, ap (λ i. code_of b w * i) (pow-zero b), mul-one (code_of b w))
code_split b (suc a) [] = omega (arith, zero-mul (b ^ suc a))
code_split b (suc a) (x ∷ w) =
    ap (λ i. i * b + x) (code_split b a w)
    ∙ omega (
      arith,
      add-mul (code_of b (drop a w) * b ^ a) (code_of b (take a w)) b,
      mul_assoc (code_of b (drop a w)) (b ^ a) b,
      ap (λ i. code_of b (drop a w) * i) (pow-suc b a),
    )

pub code_half : (b j : ℕ) (w : Row) → Under b w → code_of b (drop (suc j) w) ≡ code_of b (drop j w) / b
code_half b zero [] u = sym (zero-div b)
code_half b (suc j) [] u = sym (zero-div b)
code_half b zero (x ∷ w) u = sym (digits_div (code_of b w) u.0)
code_half b (suc j) (x ∷ w) u = code_half b j w u.1

pub code_face : (b a : ℕ) (w : Row) → a < length w → code_of b (without a w) ≡ code_of b (take a w) + code_of b (drop (suc a) w) * b ^ a
code_face b a [] h = absurd (not-suc-le-zero h)
code_face b zero (x ∷ w) h = omega (arith, ap (λ i. code_of b w * i) (pow-zero b), mul-one (code_of b w))
code_face b (suc a) (x ∷ w) h =
    ap (λ i. i * b + x) (code_face b a w (omega arith))
    ∙ omega (
      arith,
      add-mul (code_of b (take a w)) (code_of b (drop (suc a) w) * b ^ a) b,
      mul_assoc (code_of b (drop (suc a) w)) (b ^ a) b,
      ap (λ i. code_of b (drop (suc a) w) * i) (pow-suc b a),
    )

pub code_below : (b : ℕ) (w : Row) → Under b w → code_of b w < b ^ length w
code_below b [] u = omega (arith, pow-zero b)
code_below b (x ∷ w) u = rw (pow-suc b (length w)) (digits_lt (code_below b w u.1) u.0)

pub code_same : (b : ℕ) (v w : Row) → length v ≡ length w → Under b v → Under b w → code_of b v ≡ code_of b w → v ≡ w
code_same b [] [] l hv hw e = refl
code_same b [] (y ∷ w) l hv hw e = absurd (omega (arith, l))
code_same b (x ∷ v) [] l hv hw e = absurd (omega (arith, l))
code_same b (x ∷ v) (y ∷ w) l hv hw e =
    let head : x ≡ y = sym (digits_mod (code_of b v) hv.0) ∙ ap (λ i. i % b) e ∙ digits_mod (code_of b w) hw.0 in
    let tail : code_of b v ≡ code_of b w = sym (digits_div (code_of b v) hv.0) ∙ ap (λ i. i / b) e ∙ digits_div (code_of b w) hw.0 in
    ap₂ ◌∷◌ head (code_same b v w (omega (arith, l)) hv.1 hw.1 tail)

-- the vertices of a row from some place on, as a number within a bound
pub code_fits : (b d j n : ℕ) (w : Row) → 0 < b → length w ≡ suc d → Under b w → b ^ suc d ≤ n → code_of b (drop j w) < n
code_fits b d j n w hb l u most =
    let e = length-drop j w in
    let k = pow-le-pow_right {n = b} hb {i = length (drop j w)} {j = suc d} (omega (arith, e, l)) in
    omega (arith, code_below b (drop j w) (under_drop b j w u), k, most)

module _ (b d a : ℕ) (w : Row) (hb : 0 < b) (l : length w ≡ suc d) (u : Under b w) where
  -- and a face
  pub face_fits : (n : ℕ) → a ≤ d → b ^ suc d ≤ n → code_of b (without a w) < n
  face_fits n ha most =
      let e : length (without a w) ≡ d = omega (arith, without-length a w (omega (arith, l))) in
      let k = pow-le-pow_right {n = b} hb {i = d} {j = suc d} (omega arith) in
      omega (arith, subst (λ i. code_of b (without a w) < b ^ i) e (code_below b (without a w) (under-without b a w u)), k, most)

  -- a face has the digits of the row but for one
  pub face_code : a ≤ d → code_of b w % b ^ a + code_of b w / b ^ a / b * b ^ a ≡ code_of b (without a w)
  face_code ha =
      let e = take_long a w (omega (arith, l)) in
      let low = subst (λ i. code_of b (take a w) < b ^ i) e (code_below b (take a w) (under-take b a w u)) in
      let split = code_split b a w in
      let rest : code_of b w % b ^ a ≡ code_of b (take a w) = ap (λ i. i % b ^ a) split ∙ digits_mod (code_of b (drop a w)) low in
      let from : code_of b w / b ^ a ≡ code_of b (drop a w) = ap (λ i. i / b ^ a) split ∙ digits_div (code_of b (drop a w)) low in
      ap (λ i. i + code_of b w / b ^ a / b * b ^ a) rest ∙ ap (λ i. code_of b (take a w) + i / b * b ^ a) from
      ∙ ap (λ i. code_of b (take a w) + i * b ^ a) (sym (code_half b a w u)) ∙ sym (code_face b a w (omega (arith, l)))

  -- what the digit at place a counts, and that it fits
  pub one_more : (one n : ℕ) → one ≡ b ^ a → a ≤ d → b ^ suc d ≤ n → (one * b ≡ b ^ (a + 1)) × (one * b ≤ n) × (0 < one)
  one_more one n e ha most =
      let s : one * b ≡ b ^ (a + 1) = ap (λ i. i * b) e ∙ sym (pow-suc b a) ∙ ap (λ i. b ^ i) (sym (add-one a)) in
      let k = pow-le-pow_right {n = b} hb {i = a + 1} {j = suc d} (omega arith) in
      (s, omega (arith, s, k, most), omega (arith, e, one-le-pow a b hb))

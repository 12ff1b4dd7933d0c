-- The digits of a number n below 10^20.
--   digits_value          read back they are n
--   digits-some, no_leading_zero      there is a first byte, and it is 48 only for n = 0
--   digits_are_digits     each byte is 48 to 57, of any n
--   digits-one, digits_more       one digit, or those of n / 10 and one more
--   digits-length         there are at most 20
--   digits-log            from 10^k on and below 10^(k + 1) there are k + 1
--   digit-less            with the last of the first m + 1 digits in its place, the first m are left
-- Assumes nothing.
use mathlib.Core.Path.{◌≡◌, refl, ◌∙◌, sym, ap}
use mathlib.Core.Bool.{Bool, true, false, cond, ◌&&◌}
use mathlib.Core.List.{List, [], ◌∷◌, ◌++◌}
use Prim.Native.Nat.{ℕ, zero, suc, ◌+◌, ◌*◌, ◌-◌, ◌/◌, ◌^◌, ◌≤◌, ◌<◌}
use native.Mathlib.Nat.{pow-suc}
use native.Mathlib.Omega.{arith}
use native.Mathlib.Decide.{dec_lt}
use lib.Dec.{ltb}
use lib.ListN.{length, get_or, length-append, get_or-append, take, set}
use lib.Seq.{length-take-le, take-take, take_at}
use borrow.Author.Tests.{lt-ltb, le-ltb, le-leb}
use Rattle.words.specs.Records.{all_of}
use Rattle.words.specs.Inner.Placed.{placed}
use Rattle.words.proofs.Placed.{placed-last}
use Rattle.printing.specs.Decimal.{digit, digits_up_to, digits}
use Rattle.printing.specs.Reading.{is_digit, value_of}

value_snoc : (bs : List ℕ) (b n : ℕ) → value_of (bs ++ b ∷ []) n ≡ value_of bs n * 10 + (b - 48)
value_snoc [] b n = refl
value_snoc (x ∷ bs) b n = value_snoc bs b (n * 10 + (x - 48))

-- one digit, or those of n / 10 and one more
one-digit : (k n : ℕ) → n < 10 → digits_up_to k n ≡ digit n ∷ []
one-digit zero n h = refl
one-digit (suc k) n h = rw (lt-ltb n 10 h)

more_digits : (k n : ℕ) → 10 ≤ n → digits_up_to (suc k) n ≡ digits_up_to k (n / 10) ++ digit n ∷ []
more_digits k n h = rw (le-ltb n 10 h)

tenth_below : (k n : ℕ) → n < 10 ^ suc k → n / 10 < 10 ^ k
tenth_below k n h = let e = pow-suc 10 k in omega arith

-- what holds of one digit, and with one digit more, holds of all digits of a number
module _ (P : ℕ → List ℕ → Type 0) (one : (n : ℕ) → n < 10 → P n (digit n ∷ []))
    (more : (n : ℕ) (bs : List ℕ) → 10 ≤ n → P (n / 10) bs → P n (bs ++ digit n ∷ [])) where
  next_digits : (k n : ℕ) → P (n / 10) (digits_up_to k (n / 10)) → Dec (n < 10) → P n (digits_up_to (suc k) n)
  next_digits k n h (yes p) = rw (one-digit (suc k) n p) (one n p)
  next_digits k n h (no p) = rw (more_digits k n (omega arith)) (more n (digits_up_to k (n / 10)) (omega arith) h)

  up_to : (k n : ℕ) → n < 10 ^ suc k → P n (digits_up_to k n)
  up_to zero n h = one n h
  up_to (suc k) n h = next_digits k n (up_to k (n / 10) (tenth_below (suc k) n h)) (dec_lt n 10)

  by_digits : (n : ℕ) → n < 10 ^ 20 → P n (digits n)
  unfolding digits
  by_digits n h = up_to 19 n h

pub digits_value : (n : ℕ) → n < 10 ^ 20 → value_of (digits n) 0 ≡ n
digits_value =
    by_digits (λ n bs. value_of bs 0 ≡ n)
    (λ n h. omega arith)
    (λ n bs h e. value_snoc bs (digit n) 0 ∙ omega arith)

-- there is a first byte, and if it is 48, the number is 0
abbrev Leading : ℕ → List ℕ → Type 0
Leading n bs = (0 < length bs) × (get_or bs 0 0 ≡ 48 → n ≡ 0)

leading : (n : ℕ) → n < 10 ^ 20 → Leading n (digits n)
leading =
    by_digits Leading
    (λ n h. (omega arith, λ e. omega arith))
    (λ n bs h p. (
      simp length-append (omega arith),
      λ e.
          absurd (let z = p.1 (sym (get_or-append bs (digit n ∷ []) 0 0 p.0) ∙ e) in omega arith),
    ))

pub digits-some : (n : ℕ) → n < 10 ^ 20 → 0 < length (digits n)
digits-some n h = (leading n h).0

pub no_leading_zero : (n : ℕ) → n < 10 ^ 20 → get_or (digits n) 0 0 ≡ 48 → n ≡ 0
no_leading_zero n h = (leading n h).1

and_step : (a b c : Bool) → (b ≡ true → c ≡ true) → (a && b) ≡ true → (a && c) ≡ true
and_step true b c f e = f e
and_step false b c f e = e

all_snoc : (bs : List ℕ) (b : ℕ) → all_of is_digit bs ≡ true → is_digit b ≡ true → all_of is_digit (bs ++ b ∷ []) ≡ true
all_snoc [] b p q = rw q
all_snoc (x ∷ bs) b p q = and_step (is_digit x) (all_of is_digit bs) (all_of is_digit (bs ++ b ∷ [])) (λ e. all_snoc bs b e q) p

digit_is_digit : (n : ℕ) → is_digit (digit n) ≡ true
digit_is_digit n = rw (le-leb 48 (digit n) (omega arith), le-leb (digit n) 57 (omega arith))

either : (P : List ℕ → Type 0) (t : Bool) {a b : List ℕ} → P a → P b → P (cond t a b)
either P true p q = p
either P false p q = q

one-digits : (n : ℕ) → all_of is_digit (digit n ∷ []) ≡ true
one-digits n = all_snoc [] (digit n) refl (digit_is_digit n)

up_to_are_digits : (k n : ℕ) → all_of is_digit (digits_up_to k n) ≡ true
up_to_are_digits zero n = one-digits n
up_to_are_digits (suc k) n =
    either (λ bs. all_of is_digit bs ≡ true) (ltb n 10) (one-digits n)
    (all_snoc (digits_up_to k (n / 10)) (digit n) (up_to_are_digits k (n / 10)) (digit_is_digit n))

pub digits_are_digits : (n : ℕ) → all_of is_digit (digits n) ≡ true
unfolding digits
digits_are_digits n = up_to_are_digits 19 n

-- a digit more to spare changes nothing
spare_next : (k n : ℕ) → digits_up_to (suc k) (n / 10) ≡ digits_up_to k (n / 10) → Dec (n < 10) →
    digits_up_to (suc (suc k)) n ≡ digits_up_to (suc k) n
spare_next k n e (yes p) = one-digit (suc (suc k)) n p ∙ sym (one-digit (suc k) n p)
spare_next k n e (no p) =
    more_digits (suc k) n (omega arith) ∙ ap (λ (bs : List ℕ). bs ++ digit n ∷ []) e ∙ sym (more_digits k n (omega arith))

spare : (k n : ℕ) → n < 10 ^ suc k → digits_up_to (suc k) n ≡ digits_up_to k n
spare zero n h = one-digit 1 n h ∙ sym (one-digit 0 n h)
spare (suc k) n h = spare_next k n (spare k (n / 10) (tenth_below (suc k) n h)) (dec_lt n 10)

pub digits-one : (n : ℕ) → n < 10 → digits n ≡ digit n ∷ []
unfolding digits
digits-one n h = one-digit 19 n h

pub digits_more : (n : ℕ) → 10 ≤ n → n < 10 ^ 20 → digits n ≡ digits (n / 10) ++ digit n ∷ []
unfolding digits
digits_more n h l =
    more_digits 18 n h ∙ ap (λ (bs : List ℕ). bs ++ digit n ∷ []) (sym (spare 18 (n / 10) (tenth_below 19 n l)))

up_to_length : (k n : ℕ) → length (digits_up_to k n) ≤ suc k
up_to_length zero n = omega arith
up_to_length (suc k) n =
    either (λ bs. length bs ≤ suc (suc k)) (ltb n 10) (omega arith)
    (omega (arith, length-append (digits_up_to k (n / 10)) (digit n ∷ []), up_to_length k (n / 10)))

pub digits-length : (n : ℕ) → length (digits n) ≤ 20
unfolding digits
digits-length n = up_to_length 19 n

-- from 10^k on and below 10^(k + 1) there are k + 1 digits
abbrev Logged : ℕ → List ℕ → Type 0
Logged n bs = (k : ℕ) → 10 ^ k ≤ n → n < 10 * 10 ^ k → length bs ≡ suc k

one-logged : (n : ℕ) → n < 10 → Logged n (digit n ∷ [])
one-logged n h zero low high = refl
one-logged n h (suc k) low high = let e = pow-suc 10 k in absurd (omega arith)

more-logged : (n : ℕ) (bs : List ℕ) → 10 ≤ n → Logged (n / 10) bs → Logged n (bs ++ digit n ∷ [])
more-logged n bs h l zero low high = absurd (omega arith)
more-logged n bs h l (suc k) low high =
    let e = pow-suc 10 k in
    let less = l k (omega arith) (omega arith) in
    omega (arith, length-append bs (digit n ∷ []))

pub digits-log : (n k : ℕ) → n < 10 ^ 20 → 10 ^ k ≤ n → n < 10 * 10 ^ k → length (digits n) ≡ suc k
digits-log n k h = by_digits Logged one-logged more-logged n h k

-- the last of the first m + 1 digits, and those before it
module _ (at m d : ℕ) (less all buf : List ℕ) (is : less ++ d ∷ [] ≡ take (suc m) all) (there : suc m ≤ length all)
    (room : at + m < length buf) where
  before : length less ≡ m
  before = omega (arith, length-append less (d ∷ []), ap length is, length-take-le (suc m) all there)

  pub digits-before : take m all ≡ less
  digits-before = sym (take-take m (suc m) all (omega arith)) ∙ sym (ap (take m) is) ∙ take_at less (d ∷ []) m before

  pub digit-placed : placed at (take m all) (set buf (at + m) d) ≡ placed at (take (suc m) all) buf
  digit-placed =
      let last = placed-last at less d buf (omega (arith, before)) in
      rw (digits-before, sym is) (sym (rw before at last))

-- one digit less is left of the first m + 1 digits of a number
module _ (at m rest : ℕ) (all buf : List ℕ) (small : rest < 10 ^ 20) (is : digits rest ≡ take (suc m) all)
    (there : suc m ≤ length all) (room : at + m < length buf) where
  abbrev Less : Type 0
  Less = (0 < m → digits (rest / 10) ≡ take m all)
      × (placed at (take m all) (set buf (at + m) (digit rest)) ≡ placed at (take (suc m) all) buf)

  less_by : Dec (rest < 10) → Less
  less_by (yes p) =
      let one : [] ++ digit rest ∷ [] ≡ take (suc m) all = sym (digits-one rest p) ∙ is in
      (λ h. absurd (omega (arith, ap length one, length-take-le (suc m) all there)), digit-placed at m (digit rest) [] all buf one there room)
  less_by (no p) =
      let more : digits (rest / 10) ++ digit rest ∷ [] ≡ take (suc m) all = sym (digits_more rest (omega arith) small) ∙ is in (
        λ h. sym (digits-before at m (digit rest) (digits (rest / 10)) all buf more there room),
        digit-placed at m (digit rest) (digits (rest / 10)) all buf more there room,
      )

  pub digit-less : Less
  digit-less = less_by (dec_lt rest 10)

-- Numbers in print. Text is a list of bytes. Paper, section 8.
--   digits n          a whole number in decimal, without leading zeros
--   thousandths x     the magnitude of a float in thousandths, to the nearest, of two equally near the even one
--   coordinate x      a float with three decimals; what rounds to zero has no minus
use Rattle.std.specs.Prelude.{Bool, false, cond, ◌&&◌, List, [], ◌∷◌, ◌++◌, ℕ, zero, suc, ◌+◌, ◌*◌, ◌/◌, ◌%◌, ltb, Float}
use Rattle.std.specs.Float.{nan, inf, fin}
use Rattle.std.specs.Float.Ieee.{up, down}
use Rattle.std.specs.Float.Ieee.Nearest.{closest}
use Rattle.words.specs.Text.{ascii}

-- the byte of a digit
abbrev pub digit : ℕ → ℕ
digit n = 48 + n % 10

-- at most k digits more than one
abbrev pub digits_up_to : ℕ → ℕ → List ℕ
digits_up_to zero n = digit n ∷ []
digits_up_to (suc k) n = let r = digits_up_to k (n / 10) ++ digit n ∷ [] in cond (ltb n 10) (digit n ∷ []) r

-- every number printed is below 10^20
unfoldable pub digits : ℕ → List ℕ
digits n = digits_up_to 19 n

-- a float is m times up e / down e; `closest a b` is a / b rounded as IEEE 754 does: down below a half, up above it, and
-- at a half to the even one
unfoldable pub thousandths : Float → ℕ
thousandths nan = 0
thousandths (inf s) = 0
thousandths (fin s m e) = closest (1000 * (m * up e)) (down e)

abbrev pub negative : Float → Bool
negative nan = false
negative (inf s) = s
negative (fin s m e) = s

-- a minus sign where the value is negative and not printed as zero
abbrev pub minus_of : Float → List ℕ
minus_of x = cond (negative x && ltb 0 (thousandths x)) (ascii "-") []

abbrev pub three_digits : ℕ → List ℕ
three_digits t = digit (t / 100) ∷ digit (t / 10) ∷ digit t ∷ []

unfoldable pub coordinate : Float → List ℕ
coordinate x = minus_of x ++ (digits (thousandths x / 1000) ++ (ascii "." ++ three_digits (thousandths x)))

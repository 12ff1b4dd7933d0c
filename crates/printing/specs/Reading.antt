-- A reader of the numbers in print.
--   value_of bs n          the number n with the digits bs after its own
--   unsigned text         without a leading minus
--   whole_part, decimals   the bytes before the first point, and after it
--   in_thousandths text    the magnitude of a text with three decimals, in thousandths
use Rattle.std.specs.Prelude.{Bool, cond, ◌&&◌, List, [], ◌∷◌, ℕ, ◌+◌, ◌*◌, ◌-◌, eqb, leb}

abbrev pub is_digit : ℕ → Bool
is_digit b = leb 48 b && leb b 57

abbrev pub value_of : List ℕ → ℕ → ℕ
value_of [] n = n
value_of (b ∷ bs) n = value_of bs (n * 10 + (b - 48))

abbrev pub unsigned : List ℕ → List ℕ
unsigned [] = []
unsigned (b ∷ bs) = cond (eqb b 45) bs (b ∷ bs)

abbrev pub whole_part : List ℕ → List ℕ
whole_part [] = []
whole_part (b ∷ bs) = let r = whole_part bs in cond (eqb b 46) [] (b ∷ r)

abbrev pub decimals : List ℕ → List ℕ
decimals [] = []
decimals (b ∷ bs) = let r = decimals bs in cond (eqb b 46) bs r

abbrev pub in_thousandths : List ℕ → ℕ
in_thousandths text = value_of (whole_part (unsigned text)) 0 * 1000 + value_of (decimals text) 0

-- Pieces and lines of text: one space between fields, a line feed after each line.
--   minus_text s t             a minus sign for a negative number of t thousandths, if t is not 0
--   decimals_text t            the point and the three decimals of t thousandths
--   thousandths_text s t       a number of t thousandths
--   field n                   a number's field with the space before it
--   fields ws                 the fields of a list of numbers
--   point_field x              a coordinate's field with the space before it
--   point_fields xs            the fields of a list of coordinates
--   rest_of_line fs             fields after the first, and the line feed
--   line f fs                 a line of these fields
use Rattle.std.specs.Prelude.{Bool, cond, ◌&&◌, List, [], ◌∷◌, ◌++◌, map, ℕ, ◌/◌, ltb, Float}
use Rattle.words.specs.Records.{concat}
use Rattle.words.specs.Text.{ascii}
use Rattle.printing.specs.Decimal.{digits, three_digits, coordinate}

abbrev pub minus_text : Bool → ℕ → List ℕ
minus_text s t = cond (s && ltb 0 t) (ascii "-") []

abbrev pub decimals_text : ℕ → List ℕ
decimals_text t = ascii "." ++ three_digits t

abbrev pub thousandths_text : Bool → ℕ → List ℕ
thousandths_text s t = minus_text s t ++ (digits (t / 1000) ++ decimals_text t)

abbrev pub field : ℕ → List ℕ
field n = 32 ∷ digits n

abbrev pub fields : List ℕ → List ℕ
fields ws = concat (map field ws)

abbrev pub point_field : Float → List ℕ
point_field x = 32 ∷ coordinate x

abbrev pub point_fields : List Float → List ℕ
point_fields xs = concat (map point_field xs)

-- each field with a space before it
abbrev pub rest_of_line : List (List ℕ) → List ℕ
rest_of_line [] = 10 ∷ []
rest_of_line (f ∷ fs) = 32 ∷ (f ++ rest_of_line fs)

abbrev pub line : List ℕ → List (List ℕ) → List ℕ
line f fs = f ++ rest_of_line fs

-- A cell: a sign, a material and a row of vertex numbers. A cell of dimension d has d + 1 vertices. Paper, section 2.
--   Sign              true is plus, false is minus
--   Row               vertex numbers; position i counts from 0
--   Cell              sign, material (a number) and row
--   no_cell            what stands for a cell past the end of a list
--   times s t         the product of two signs
--   alternating n     (-1)^n
--   same_row v w       whether two rows have the same vertices in the same places
--   filled w          whether a row has a vertex
--   one t             1 where a test passes, 0 where it fails
use Rattle.std.specs.Prelude.{Bool, true, false, not, ◌&&◌, List, [], ◌∷◌, ℕ, zero, suc, eqb}

abbrev pub Sign : Type 0
Sign = Bool

abbrev pub Row : Type 0
Row = List ℕ

pub record Cell : Type 0 where
  pub sign : Sign
  pub material : ℕ
  pub row : Row

abbrev pub cell : Sign → ℕ → Row → Cell
cell s m w = record { sign = s; material = m; row = w }

abbrev pub no_cell : Cell
no_cell = cell true 0 []

abbrev pub times : Sign → Sign → Sign
times true t = t
times false t = not t

abbrev pub alternating : ℕ → Sign
alternating zero = true
alternating (suc n) = not (alternating n)

abbrev pub same_row : Row → Row → Bool
same_row [] [] = true
same_row [] (y ∷ w) = false
same_row (x ∷ v) [] = false
same_row (x ∷ v) (y ∷ w) = eqb x y && same_row v w

abbrev pub filled : Row → Bool
filled [] = false
filled (x ∷ w) = true

abbrev pub one : Bool → ℕ
one true = 1
one false = 0

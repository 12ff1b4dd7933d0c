-- Lines by their pieces.
--   fields-append         the fields of joined lists
--   line_of_numbers       a line of numbers is its word, their fields and the line feed
--   line_of_two           the same of two lists of numbers
--   line_of_points        and of numbers and coordinates
-- Assumes nothing.
use mathlib.Core.Path.{◌≡◌, refl, sym, ap, ◌∙◌}
use mathlib.Core.List.{List, [], ◌∷◌, ◌++◌, map, append_assoc}
use Prim.Native.Nat.{ℕ}
use lib.Ieee.{Float}
use Rattle.printing.specs.Decimal.{digits, coordinate}
use Rattle.printing.specs.Fields.{field, fields, point_field, point_fields, rest_of_line, line}

pub fields-append : (xs ys : List ℕ) → fields (xs ++ ys) ≡ fields xs ++ fields ys
fields-append [] ys = refl
fields-append (x ∷ xs) ys = ap (λ (l : List ℕ). field x ++ l) (fields-append xs ys) ∙ sym (append_assoc (field x) (fields xs) (fields ys))

-- the fields of numbers come first
rest_numbers : (ws : List ℕ) (fs : List (List ℕ)) → rest_of_line (map digits ws ++ fs) ≡ fields ws ++ rest_of_line fs
rest_numbers [] fs = refl
rest_numbers (w ∷ ws) fs = ap (λ (l : List ℕ). field w ++ l) (rest_numbers ws fs) ∙ sym (append_assoc (field w) (fields ws) (rest_of_line fs))

rest-points : (xs : List Float) → rest_of_line (map coordinate xs) ≡ point_fields xs ++ 10 ∷ []
rest-points [] = refl
rest-points (x ∷ xs) = ap (λ (l : List ℕ). point_field x ++ l) (rest-points xs) ∙ sym (append_assoc (point_field x) (point_fields xs) (10 ∷ []))

pub rest_of_numbers : (ws : List ℕ) → rest_of_line (map digits ws) ≡ fields ws ++ 10 ∷ []
rest_of_numbers [] = refl
rest_of_numbers (w ∷ ws) = ap (λ (l : List ℕ). field w ++ l) (rest_of_numbers ws) ∙ sym (append_assoc (field w) (fields ws) (10 ∷ []))

module _ (word : List ℕ) where
  pub line_of_numbers : (ws : List ℕ) → line word (map digits ws) ≡ word ++ (fields ws ++ 10 ∷ [])
  line_of_numbers ws = ap (λ (l : List ℕ). word ++ l) (rest_of_numbers ws)

  pub line_of_two : (xs ys : List ℕ) → line word (map digits (xs ++ ys)) ≡ word ++ (fields xs ++ (fields ys ++ 10 ∷ []))
  line_of_two xs ys =
      line_of_numbers (xs ++ ys)
      ∙ ap (λ (l : List ℕ). word ++ (l ++ 10 ∷ [])) (fields-append xs ys)
      ∙ ap (λ (l : List ℕ). word ++ l) (append_assoc (fields xs) (fields ys) (10 ∷ []))

  pub line_of_points : (ws : List ℕ) (xs : List Float) →
      line word (map digits ws ++ map coordinate xs) ≡ word ++ (fields ws ++ (point_fields xs ++ 10 ∷ []))
  line_of_points ws xs =
      ap (λ (l : List ℕ). word ++ l) (rest_numbers ws (map coordinate xs) ∙ ap (λ (l : List ℕ). fields ws ++ l) (rest-points xs))

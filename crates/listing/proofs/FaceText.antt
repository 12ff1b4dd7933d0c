-- The line of a face.
--   sign_text_lem             its sign, from the sign word
--   take_more             one number more behind those of a row
--   fields-one, fields_two    its numbers: its vertices, and in version 2 its material
--   face-line             its sign, and these
--   line-length           its length; line_short: at most 256 bytes
-- Assumes nothing.
use mathlib.Core.Path.{◌≡◌, refl, ap, ◌∙◌}
use mathlib.Core.List.{List, [], ◌∷◌, ◌++◌, map, append-nil}
use mathlib.Core.Bool.{true, false, cond}
use Prim.Native.Nat.{ℕ, zero, suc, ◌+◌, ◌≤◌, ◌<◌}
use native.Mathlib.Nat.{le_of_suc-le-suc, not-suc-le-zero}
use native.Mathlib.Omega.{arith}
use lib.ListN.{length, take, set, length-append}
use Rattle.rules.specs.Limits.{with_materials}
use Rattle.simplex.specs.Cell.{Sign, Cell}
use Rattle.simplex.specs.SignWords.{sign_of, sign_word}
use Rattle.printing.specs.Decimal.{digits}
use Rattle.printing.specs.Fields.{fields, rest_of_line, line}
use Rattle.printing.proofs.Bounds.{fields-length}
use Rattle.printing.proofs.FieldText.{rest_of_numbers}
use Rattle.listing.specs.Lines.{sign_text, face_fields, face_line}

pub sign_text_lem : (s : Sign) → sign_text (sign_of (sign_word s)) ≡ sign_text s
sign_text_lem true = refl
sign_text_lem false = refl

sign-length : (s : Sign) → length (sign_text s) ≡ 1
sign-length true = refl
sign-length false = refl

-- one number more behind the first n of a row
pub take_more : (n : ℕ) (row : List ℕ) (x : ℕ) → n < length row → take (n + 1) (set row n x) ≡ take n row ++ x ∷ []
take_more n [] x h = absurd (not-suc-le-zero h)
take_more zero (y ∷ row) x h = refl
take_more (suc n) (y ∷ row) x h =
    ap (λ k. take k (y ∷ set row n x)) {x = suc n + 1} {y = suc (n + 1)} (omega arith)
    ∙ ap {B = List ℕ} (λ r. y ∷ r) (take_more n row x (le_of_suc-le-suc h))

module _ (k : ℕ) (f : Cell) where
  pub fields-one : with_materials k ≡ false → face_fields k f ≡ f.row
  fields-one e = ap (λ t. f.row ++ cond t (f.material ∷ []) []) e ∙ append-nil f.row

  pub fields_two : with_materials k ≡ true → face_fields k f ≡ f.row ++ f.material ∷ []
  fields_two e = ap (λ t. f.row ++ cond t (f.material ∷ []) []) e

  pub face-line : (sign row : List ℕ) → sign ≡ sign_text f.sign → row ≡ face_fields k f → face_line k f ≡ line sign (map digits row)
  unfolding face_line
  face-line sign row e h = rw (e, h)

  pub line-length : length (face_line k f) ≡ 2 + length (fields (face_fields k f))
  unfolding face_line
  line-length =
      omega (
        arith,
        length-append (sign_text f.sign) (rest_of_line (map digits (face_fields k f))),
        sign-length f.sign,
        ap length (rest_of_numbers (face_fields k f)),
        length-append (fields (face_fields k f)) (10 ∷ []),
      )

  pub line_short : length (face_fields k f) ≤ 8 → length (face_line k f) ≤ 256
  line_short h = omega (arith, line-length, fields-length (face_fields k f))

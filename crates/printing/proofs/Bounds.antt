-- Bounds on the lengths of numbers in print.
--   minus_short           a minus sign is one byte at most
--   thousandths-length    the pieces of a number of thousandths
--   coordinate-length     a coordinate has at most 25
--   fields-length         k fields have at most 21 k
-- Assumes nothing.
use mathlib.Core.Path.{◌≡◌, ◌∙◌}
use mathlib.Core.Bool.{Bool, true, false, cond, ◌&&◌}
use mathlib.Core.List.{List, [], ◌∷◌, ◌++◌}
use Prim.Native.Nat.{ℕ, ◌+◌, ◌*◌, ◌/◌, ◌≤◌}
use native.Mathlib.Omega.{arith}
use lib.Dec.{ltb}
use lib.Ieee.{Float}
use lib.ListN.{length, length-append}
use Rattle.words.specs.Text.{ascii}
use Rattle.printing.specs.Decimal.{digits, thousandths, negative, coordinate}
use Rattle.printing.specs.Fields.{minus_text, decimals_text, thousandths_text, fields}
use Rattle.printing.proofs.Digits.{digits-length}

one_at_most : (b : Bool) → length (cond b (ascii "-") []) ≤ 1
one_at_most true = omega arith
one_at_most false = omega arith

pub minus_short : (s : Bool) (t : ℕ) → length (minus_text s t) ≤ 1
minus_short s t = one_at_most (s && ltb 0 t)

pub thousandths-length : (s : Bool) (t : ℕ) → length (thousandths_text s t) ≡ length (minus_text s t) + (length (digits (t / 1000)) + 4)
thousandths-length s t = length-append (minus_text s t) (digits (t / 1000) ++ decimals_text t) ∙ rw length-append

pub coordinate-length : (x : Float) → length (coordinate x) ≤ 25
unfolding coordinate
coordinate-length x =
    let t = thousandths x in
    omega (arith, thousandths-length (negative x) t, minus_short (negative x) t, digits-length (t / 1000))

pub fields-length : (ws : List ℕ) → length (fields ws) ≤ 21 * length ws
fields-length [] = omega arith
fields-length (w ∷ ws) = omega (arith, length-append (digits w) (fields ws), digits-length w, fields-length ws)

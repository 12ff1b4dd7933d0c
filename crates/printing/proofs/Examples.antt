-- Numbers in print, computed.
use mathlib.Core.Path.{◌≡◌, refl}
use mathlib.Core.List.{[], ◌∷◌}
use lib.Ieee.{binary64, of_bits}
use lib.ListN.{replicate}
use Rattle.words.specs.Text.{ascii}
use Rattle.printing.specs.Decimal.{digits, thousandths, minus_of}
use Rattle.printing.specs.Fields.{line}
use Rattle.printing.specs.Inner.Advanced.{advanced}
use Rattle.printing.specs.declared.line_writer.LineWriter.{LineWriter}

pub six-digits : digits 123456 ≡ ascii "123456"
unfolding digits
six-digits = refl

-- the largest 64-bit number
pub twenty_digits : digits 18446744073709551615 ≡ ascii "18446744073709551615"
unfolding digits
twenty_digits = refl

-- 0.0625 and 0.1875, by their bits: 62.5 and 187.5 thousandths
pub half_downwards : thousandths (of_bits binary64 0x3fb0000000000000) ≡ 62
unfolding of_bits thousandths
half_downwards = refl

pub half_upwards : thousandths (of_bits binary64 0x3fc8000000000000) ≡ 188
unfolding of_bits thousandths
half_upwards = refl

-- one bit above the one and below the other
pub above_half : thousandths (of_bits binary64 0x3fb0000000000001) ≡ 63
unfolding of_bits thousandths
above_half = refl

pub below_half : thousandths (of_bits binary64 0x3fc7ffffffffffff) ≡ 187
unfolding of_bits thousandths
below_half = refl

-- -0.0001, by its bits
pub no_minus : minus_of (of_bits binary64 0xbf1a36e2eb1c432d) ≡ []
unfolding of_bits thousandths
no_minus = refl

-- a writer at place 1 of four bytes
abbrev writer : LineWriter
writer = record { buf = record { ref_ptr = (0, 0); ghost_name = 0; now = replicate 4 0 }; at = 1 }

pub two_further : (advanced writer (ascii "12")).at ≡ 3
two_further = refl

pub one_line : line (ascii "v") (ascii "7" ∷ ascii "0.500" ∷ []) ≡ ascii "v 7 0.500\n"
one_line = refl

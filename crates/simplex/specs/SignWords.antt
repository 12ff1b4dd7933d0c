-- Signs as 16-bit words: 0 is plus, 1 is minus. Paper, section 3.
--   sign_of x              the sign of a word
--   sign_word s            the word of a sign
--   turned_sign w n        the sign word w turned over n times: its sign times (-1)^n
use Rattle.std.specs.Prelude.{true, false, ℕ, eqb}
use Rattle.simplex.specs.Cell.{Sign, times, alternating}

abbrev pub sign_of : ℕ → Sign
sign_of x = eqb x 0

abbrev pub sign_word : Sign → ℕ
sign_word true = 0
sign_word false = 1

abbrev pub turned_sign : ℕ → ℕ → ℕ
turned_sign w n = sign_word (times (alternating n) (sign_of w))

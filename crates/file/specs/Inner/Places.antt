-- A cell of a file of version k, from a place of the bytes on.
--   material_from k b at           its material: 0 in version 1
--   cell_words_from k b at m        its words: sign word, material and m vertices
use Rattle.std.specs.Prelude.{cond, List, ◌∷◌, ℕ, ◌+◌, eqb, get_or}
use Rattle.words.specs.Bytes.{word16, words_from}
use Rattle.rules.specs.Limits.{with_materials}
use Rattle.simplex.specs.SignWords.{sign_word}
use Rattle.file.specs.File.{cell_head}

abbrev pub material_from : ℕ → List ℕ → ℕ → ℕ
material_from k b at = cond (with_materials k) (word16 b (at + 1)) 0

abbrev pub cell_words_from : ℕ → List ℕ → ℕ → ℕ → List ℕ
cell_words_from k b at m = sign_word (eqb (get_or b at 0) 43) ∷ material_from k b at ∷ words_from b (at + cell_head k) m

-- Lists written into a buffer in any order. Words of a list are counted from its place `at` in the buffer.
--   Right at xs buf e         word e of the list stands in the buffer
--   Outside at n old new      the buffer is as it was but for n words
--   Kept at xs old new        it is as it was but for words of the list, and what was right is right
use Rattle.std.specs.Prelude.{◌≡◌, ℕ, ◌+◌, ◌<◌, ◌≤◌, List, length, slice_index}

abbrev pub Right : ℕ → List ℕ → List ℕ → ℕ → Type 0
Right at xs buf e = slice_index buf (at + e) ≡ slice_index xs e

pub record Outside (at n : ℕ) (old new : List ℕ) : Type 0 where
  pub same : length new ≡ length old
  pub before : (x : ℕ) → x < at → slice_index new x ≡ slice_index old x
  pub behind : (x : ℕ) → at + n ≤ x → slice_index new x ≡ slice_index old x

pub record Kept (at : ℕ) (xs old new : List ℕ) : Type 0 where
  pub outside : Outside at (length xs) old new
  pub right : (e : ℕ) → Right at xs old e → Right at xs new e

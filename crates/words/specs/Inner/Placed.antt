-- A list written into a lent buffer.
--   placed at xs buf          the buffer with xs from the place `at` on
--   Put at xs old next new    old became new when xs was put at `at`, and `next` is the place behind it
use Rattle.std.specs.Prelude.{◌≡◌, List, ◌++◌, ℕ, ◌+◌, length, take, drop}

module _ {A : Type 0} where
  unfoldable pub placed : ℕ → List A → List A → List A
  placed at xs buf = take at buf ++ (xs ++ drop (at + length xs) buf)

  pub record Put (at : ℕ) (xs old : List A) (next : ℕ) (new : List A) : Type 0 where
    pub place : next ≡ at + length xs
    pub content : new ≡ placed at xs old

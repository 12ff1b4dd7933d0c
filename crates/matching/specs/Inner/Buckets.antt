-- The bucket of a key, by which keys are linked first.
--   term v                    the weight of a vertex
--   weight w                  the weight of a row: a sum, so that one vertex less is one term less
--   bucket_of w                the bucket of a row
--   bucket_at key f            that of key f, where key f is its row
use Rattle.std.specs.Prelude.{[], ◌∷◌, ℕ, ◌+◌, ◌*◌, ◌%◌}
use Rattle.simplex.specs.Cell.{Row}

unfoldable pub term : ℕ → ℕ
term v = v * (v * (v + 5903) + 12421)

abbrev pub weight : Row → ℕ
weight [] = 0
weight (v ∷ w) = term v + weight w

unfoldable pub bucket_of : Row → ℕ
bucket_of w = weight w % 32749

abbrev pub bucket_at : (ℕ → Row) → ℕ → ℕ
bucket_at key f = bucket_of (key f)

-- Values on an axis that a step adds to.
--   column n v a ps       the values of v points of n axes on axis a
--   sums m h x            x with m added 1 to h times, each sum rounded
--   climbs m h x          x rises at each of h sums, or falls at each
--   axis_carries           what tells whether axis a carries a step that adds m to it: the lent points, and the first one's sums
use Rattle.std.specs.Prelude.{Bool, ◌&&◌, ◌||◌, List, [], ◌∷◌, ℕ, zero, suc, get_or, Float}
use Rattle.std.specs.Float.{nan, binary64}
use Rattle.std.specs.Float.Ieee.{add, lt}
use Rattle.words.specs.Records.{tabulate, part}
use Rattle.points.specs.Carrying.{first, flat, stepwise_from, gt}

abbrev pub column : ℕ → ℕ → ℕ → List Float → List Float
column n v a ps = tabulate v (λ k. get_or (part n k ps) a nan)

abbrev pub sums : Float → ℕ → Float → List Float
sums m zero x = []
sums m (suc h) x = add binary64 x m ∷ sums m h (add binary64 x m)

abbrev pub climbs : Float → ℕ → Float → Bool
climbs m h x = stepwise_from lt x (sums m h x) || stepwise_from gt x (sums m h x)

abbrev pub axis_carries : ℕ → ℕ → ℕ → ℕ → Float → List Float → Bool
axis_carries n v h a m ps = flat (column n v a ps) && climbs m h (first (column n v a ps))

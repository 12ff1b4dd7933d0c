-- The numbers and the length first; then the room is as large as the table needs. Assumes nothing.
use mathlib.Core.Path.{◌≡◌, sym, ap, ◌∙◌}
use mathlib.Core.Bool.{not, true}
use Prim.Native.Nat.{ℕ, suc, ◌*◌, ◌≤◌, ◌<◌}
use native.Mathlib.Omega.{arith}
use lib.Dec.{leb}
use borrow.Author.Tests.{leb-true}
use Rattle.rules.specs.Limits.{max_dimension}
use Rattle.rules.specs.Shapes.{shape_ok}
use Rattle.rules.proofs.InLimits.{Limits, limits_are}
use Rattle.rules.proofs.Tests.{and_parts}
use Rattle.records.specs.Inner.Inside.{Table}
use Rattle.soundness.specs.Inner.Coding.{base_of}
use Rattle.soundness.proofs.Places.{few_keys}
use Rattle.soundness.proofs.rooms.is_certified.Goals as goal
use Rattle.soundness.proofs.rooms.is_certified.Goals.{Else-not-within, Else-table-table_words, Start, Then-n-v}

inside : (c : Else-not-within) → let a = c.args in shape_ok max_dimension a.d a.v a.s ≡ true
inside c = sym c.within.ensures ∙ c.if-not-within.false

limits : (c : Else-not-within) → let a = c.args in Limits max_dimension a.d a.v a.s
limits c = limits_are _ _ _ _ (ap not (inside c))

few : (c : Else-table-table_words) → let a = c.args in a.s * suc a.d ≤ 32768
few c = let l = limits (goal.at.Else-table-table_words c).Else-not-within in few_keys _ _ l.dimension l.cells

-- what the room for all places asks
abbrev Fits : Start → Type 0
Fits s =
    let a = s.args in
    Table a.d a.s a.table.now × (1 ≤ a.d) × (a.s * suc a.d ≤ 32768) × (shape_ok max_dimension a.d a.v a.s ≡ true)

fits : (c : Else-table-table_words) → Fits (goal.at.Else-table-table_words c).Start
fits c =
    let i = (goal.at.Else-table-table_words c).Else-not-within in
    let a = c.args in
    let l = limits i in (
      record {
        dimension = l.dimension;
        cells = l.cells;
        long = c.if-table-table_words.false ∙ c.table_words.ensures;
      },
      c.requires,
      few c,
      inside i,
    )

-- by codes: what a room for m places asks, with so many known words and buckets
abbrev FitsCodes : Start → ℕ → ℕ → ℕ → Type 0
FitsCodes s m known buckets =
    let a = s.args in
    Table a.d a.s a.table.now × (1 ≤ a.d) × (a.s * suc a.d ≤ m) × (shape_ok max_dimension a.d a.v a.s ≡ true) × (a.v ≤ base_of a.d)
    × (m * 3 ≤ known) × (known ≤ 65536) × (0 < buckets) × (buckets ≤ 65536)

-- the count of places
abbrev places : Then-n-v → ℕ
places c = c.wings_words-n.result

few-places : (c : Then-n-v) → (places c ≤ 16384) × (c.args.v ≤ base_of c.args.d)
few-places c =
    let r = and_parts (leb (places c) 16384) (leb c.args.v c.base.result) c.if-n-v.true in
    let low = leb-true c.args.v c.base.result r.1 in
    (leb-true (places c) 16384 r.0, omega (arith, low, c.base.ensures))

coded : (c : Then-n-v) (m known buckets : ℕ) → places c ≤ m → (m * 3 ≤ known) × (known ≤ 65536) × (0 < buckets) × (buckets ≤ 65536) →
    FitsCodes (goal.at.Then-n-v c).Start m known buckets
coded c m known buckets l long =
    let k = fits (goal.at.Then-n-v c).Else-table-table_words in
    (k.0, k.1, omega (arith, c.wings_words-n.ensures, l), k.3, (few-places c).1, long.0, long.1, long.2, long.3)

pub table_words-requires : goal.table_words-requires
table_words-requires c = let l = limits c in (l.dimension, l.cells)

pub wings_words-n-requires : goal.wings_words-n-requires
wings_words-n-requires c = let l = limits (goal.at.wings_words-n-requires c).Else-not-within in (l.dimension, l.cells)

pub coded-requires : goal.coded-requires
coded-requires c =
    coded (goal.at.coded-requires c).Then-n-v 256 768 512 c.if-n-le256.true (omega arith)

pub coded-requires-then-n-le1024 : goal.coded-requires-then-n-le1024
coded-requires-then-n-le1024 c =
    coded (goal.at.coded-requires-then-n-le1024 c).Then-n-v 1024 3072 2048 c.if-n-le1024.true (omega arith)

pub coded-requires-then-n-le2048 : goal.coded-requires-then-n-le2048
coded-requires-then-n-le2048 c =
    coded (goal.at.coded-requires-then-n-le2048 c).Then-n-v 2048 6144 4096 c.if-n-le2048.true (omega arith)

pub coded-requires-then-n-le4096 : goal.coded-requires-then-n-le4096
coded-requires-then-n-le4096 c =
    coded (goal.at.coded-requires-then-n-le4096 c).Then-n-v 4096 12288 8192 c.if-n-le4096.true (omega arith)

pub coded-requires-then-n-le8192 : goal.coded-requires-then-n-le8192
coded-requires-then-n-le8192 c =
    coded (goal.at.coded-requires-then-n-le8192 c).Then-n-v 8192 24576 16384 c.if-n-le8192.true (omega arith)

pub coded-requires-then-n-v : goal.coded-requires-then-n-v
coded-requires-then-n-v c =
    let k = (goal.at.coded-requires-then-n-v c).Then-n-v in coded k 16384 49152 24576 (few-places k).0 (omega arith)

pub in_32768-requires : goal.in_32768-requires
in_32768-requires c = fits (goal.at.in_32768-requires c).Else-table-table_words

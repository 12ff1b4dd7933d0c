-- The list is decoded and its table tried; then table and wings are written. Assumes nothing.
use mathlib.Core.Path.{◌≡◌, ap, ◌∙◌}
use mathlib.Core.Bool.{not}
use native.Mathlib.Omega.{arith}
use lib.ListN.{length}
use Rattle.words.specs.Bytes.{words16}
use Rattle.words.proofs.Bytes.{words_count}
use Rattle.rules.specs.Limits.{max_dimension}
use Rattle.rules.proofs.InLimits.{Limits, limits_are}
use Rattle.records.specs.Layout.{list_length}
use Rattle.direct.proofs.Directly.{decoded_whole, direct_keeps, direct_writes}
use Rattle.direct.proofs.lent.write_lent.Goals as goal
use Rattle.direct.proofs.lent.write_lent.Goals.{After-decode, Start}

limits : (s : Start) → Limits max_dimension s.args.d s.args.v s.args.s
limits s = limits_are max_dimension s.args.d s.args.v s.args.s (ap not s.requires.lent.0.shape)

-- the decoded words
whole : (c : After-decode) → let a = (c.args) in c.decode.new.out ≡ words16 a.cells.now
whole c =
    let a = c.args in
    decoded_whole a.cells.now a.list.now _ (list_length a.d a.s) c.requires.lent.0.size c.requires.list_len.0 c.decode.ensures

long : (c : After-decode) → let a = (c.args) in length c.decode.new.out ≡ list_length a.d a.s
long c =
    omega (arith, ap length (whole c), words_count c.args.cells.now, c.requires.lent.0.size)

pub try_table-requires : goal.try_table-requires
try_table-requires c =
    let l = limits (goal.at.try_table-requires c).Start in
    let b = c.requires.lent.1 in record {
      le_d = (c.requires.lent.0.some, l.dimension, l.cells, long (goal.at.try_table-requires c).After-decode, c.requires.list_len.1);
      d_in_bounds = (b.hash_room, b.next_room, b.heads, b.few-heads);
      by_index = b.blank;
    }

pub uploaded_bytes-requires : goal.uploaded_bytes-requires
uploaded_bytes-requires c =
    let l = limits (goal.at.uploaded_bytes-requires c).Start in (
      record { dimension = l.dimension; cells = l.cells; long = c.try_table.auto.table ∙ c.requires.list_len.1 },
      long (goal.at.uploaded_bytes-requires c).After-decode,
      c.requires.lent.0.further,
    )

pub returns-then-try_table : goal.returns-then-try_table
returns-then-try_table c =
    let a = c.args in
    let made = c.try_table.ensures.made c.if-try_table.true in
    direct_writes a.d a.v a.s a.cells.now a.table.now a.uploaded.now _ _ _ _ c.requires.lent.0.size
    (whole (goal.at.returns-then-try_table c).After-decode)
    made.0 made.1 c.encode.ensures c.uploaded_bytes.ensures

pub returns : goal.returns
returns c =
    let a = c.args in
    direct_keeps a.d a.v a.s a.cells.now a.table.now a.uploaded.now

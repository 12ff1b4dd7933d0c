-- The call sweep for a host: each return is the outcome of its row, and the room is as large as the table and its sweep need. Assumes nothing.
use mathlib.Core.Path.{◌≡◌, sym, ap, ◌∙◌}
use mathlib.Core.Bool.{true, not, ◌&&◌}
use Prim.Native.Nat.{ℕ, suc, ◌*◌, ◌≤◌}
use native.Mathlib.Nat.{mul-le-mul}
use native.Mathlib.Omega.{arith}
use borrow.Author.Rules.{rules}
use borrow.Author.Tests.{leb-true}
use lib.Dec.{leb}
use lib.ListN.{length}
use mir.Syntax.{w64}
use mir.ValLaws.{to_z-of_z}
use Rattle.rules.specs.Limits.{max_cells, max_source, steps_ok}
use Rattle.rules.specs.Shapes.{shape_ok}
use Rattle.rules.proofs.InLimits.{SweepLimits, sweep_limits_are}
use Rattle.rules.proofs.Tests.{and_parts}
use Rattle.records.specs.Layout.{table_length}
use Rattle.prism.specs.Swept.{swept_cells}
use Rattle.direct.proofs.Room.{table_fits}
use Rattle.winged.specs.Host.{words_in}
use Rattle.winged.specs.Inner.Sent.{SweepRoom}
use Rattle.winged.proofs.Inward.{point-words, steps-some, sweep_large, sweep_outside, sweep_refused, sweep_wrong}
use Rattle.winged.proofs.host.sweep_told.Goals as goal
use Rattle.winged.proofs.host.sweep_told.Goals.{After-sweep_size-m, After-table_words-n, Else-h-s-gt-MAX_CELLS, Else-not-in_limits, Else-table-n}

inside : (c : Else-not-in_limits) → let a = c.args in (shape_ok max_source a.d a.v a.s && steps_ok a.h) ≡ true
inside c = sym c.in_limits.ensures ∙ c.if-not-in_limits.false

limits : (c : Else-not-in_limits) → let a = c.args in SweepLimits a.d a.v a.s a.h
limits c = sweep_limits_are _ _ _ _ (ap not (inside c))

steps : (c : Else-not-in_limits) → 1 ≤ c.args.h
steps c = let a = c.args in steps-some a.d a.v a.s a.h (inside c)

-- the words that the table should have
twice : (n : After-table_words-n) → n.table_words-n.result * 2 ≡ table_length n.args.d n.args.s * 2
twice n = ap (λ x. x * 2) n.table_words-n.ensures

-- the table has its length, and the sweep no more cells than any
size : (c : Else-table-n) → let a = c.args in length a.table.now ≡ table_length a.d a.s * 2
size c = c.if-table-n.false ∙ twice (goal.at.Else-table-n c).After-table_words-n

few : (c : Else-not-in_limits) → let a = c.args in swept_cells a.d a.s a.h ≤ 1835008
few c =
    let a = c.args in
    let l = limits c in
    mul-le-mul {n₁ = a.h} {m₁ = a.s * suc a.d} {n₂ = 64} {m₂ = 28672} l.steps
    (mul-le-mul {n₁ = a.s} {m₁ = suc a.d} {n₂ = 4096} {m₂ = 7} l.cells (omega (arith, l.dimension)))

cells : (c : Else-h-s-gt-MAX_CELLS) → let a = c.args in swept_cells a.d a.s a.h ≤ max_cells
cells c = omega (arith, c.if-h-s-gt-MAX_CELLS.false)

-- a room for the table and its sweep
abbrev words : After-sweep_size-m → ℕ
words c = c.table_words-n.result

abbrev Room : After-sweep_size-m → ℕ → ℕ → Type 0
Room c k m = let a = c.args in SweepRoom a.d a.s a.h a.table.now k m

room : (c : After-sweep_size-m) (k m : ℕ) → words c ≤ k → c.sweep_size-m.result ≤ m → Room c k m
room c k m solid swept =
    record {
      size = size (goal.at.After-sweep_size-m c).Else-table-n;
      solid = omega (arith, solid, c.table_words-n.ensures);
      swept = omega (arith, swept, c.sweep_size-m.ensures.0);
    }

small : (c : After-sweep_size-m) (k m : ℕ) → (leb c.sweep_size-m.result m && leb (words c) k) ≡ true → Room c k m
small c k m e =
    let both = and_parts (leb c.sweep_size-m.result m) (leb (words c) k) e in
    room c k m (leb-true (words c) k both.1) (leb-true c.sweep_size-m.result m both.0)

wide : (c : After-sweep_size-m) (k m : ℕ) → m * 3 ≤ k * 8 → c.sweep_size-m.result ≤ m → Room c k m
wide c k m shares swept =
    room c k m (omega (arith, shares, swept, c.sweep_size-m.ensures.1, c.table_words-n.ensures)) swept

-- the largest has room for every sweep
largest : (c : After-sweep_size-m) (k : ℕ) → words c ≤ k → Room c k 73728
largest c k solid =
    let a = c.args in
    let l = limits (goal.at.After-sweep_size-m c).Else-not-in_limits in
    let few = cells (goal.at.After-sweep_size-m c).Else-h-s-gt-MAX_CELLS in
    record {
      size = size (goal.at.After-sweep_size-m c).Else-table-n;
      solid = omega (arith, solid, c.table_words-n.ensures);
      swept = table_fits (suc a.d) (swept_cells a.d a.s a.h) (omega (arith, l.dimension)) few;
    }

every : (c : After-sweep_size-m) → words c ≤ 16384
every c =
    let a = c.args in
    omega (
      arith,
      point-words a.d a.s a.h (steps (goal.at.After-sweep_size-m c).Else-not-in_limits),
      cells (goal.at.After-sweep_size-m c).Else-h-s-gt-MAX_CELLS,
      c.table_words-n.ensures,
    )

pub returns-then-not-in_limits : goal.returns-then-not-in_limits
returns-then-not-in_limits c =
    let a = c.args in
    let row = sweep_outside a.d a.v a.s a.h a.table.now (words_in a.swept.now)
    (sym c.in_limits.ensures ∙ c.if-not-in_limits.true) in
    let is = sweep_refused a.d a.v a.s a.h a.table.now a.swept.now 2 row in
    record {
      answer = to_z-of_z w64 _ (search rules) ∙ c.answered.ensures ∙ is.0;
      buffer = is.1;
    }

pub table_words-n-requires : goal.table_words-n-requires
table_words-n-requires c = let l = limits c in (omega arith, l.cells)

pub overflow_mul-n : goal.overflow_mul-n
overflow_mul-n c =
    let l = limits (goal.at.overflow_mul-n c).Else-not-in_limits in
    let a = c.args in
    omega (arith, c.table_words-n.ensures, table_fits a.d a.s (omega arith) l.cells)

pub returns-then-table-n : goal.returns-then-table-n
returns-then-table-n c =
    let a = c.args in
    let row = sweep_wrong a.d a.v a.s a.h a.table.now (words_in a.swept.now) (inside (goal.at.returns-then-table-n c).Else-not-in_limits)
    (λ e. c.if-table-n.true (e ∙ sym (twice (goal.at.returns-then-table-n c).After-table_words-n))) in
    let is = sweep_refused a.d a.v a.s a.h a.table.now a.swept.now 3 row in
    record {
      answer = to_z-of_z w64 _ (search rules) ∙ c.answered-then-table-n.ensures ∙ is.0;
      buffer = is.1;
    }

pub overflow_add-d : goal.overflow_add-d
overflow_add-d c = let l = limits (goal.at.overflow_add-d c).Else-not-in_limits in omega (arith, l.dimension)

pub overflow_mul-s : goal.overflow_mul-s
overflow_mul-s c = let l = limits (goal.at.overflow_mul-s c).Else-not-in_limits in search rules

pub overflow_mul-h : goal.overflow_mul-h
overflow_mul-h c = omega (arith, few (goal.at.overflow_mul-h c).Else-not-in_limits)

pub returns-then-h-s-gt-MAX_CELLS : goal.returns-then-h-s-gt-MAX_CELLS
returns-then-h-s-gt-MAX_CELLS c =
    let a = c.args in
    let ok = inside (goal.at.returns-then-h-s-gt-MAX_CELLS c).Else-not-in_limits in
    let long = size (goal.at.returns-then-h-s-gt-MAX_CELLS c).Else-table-n in
    let row = sweep_large a.d a.v a.s a.h a.table.now (words_in a.swept.now) ok long (omega (arith, c.if-h-s-gt-MAX_CELLS.true)) in
    let is = sweep_refused a.d a.v a.s a.h a.table.now a.swept.now 12 row in
    record {
      answer = to_z-of_z w64 _ (search rules) ∙ c.answered-then-h-s-gt-MAX_CELLS.ensures ∙ is.0;
      buffer = is.1;
    }

pub sweep_size-m-requires : goal.sweep_size-m-requires
sweep_size-m-requires c =
    let o = (goal.at.sweep_size-m-requires c).Else-not-in_limits in
    let l = limits o in
    (l.dimension, steps o, cells c)

pub in_room-requires : goal.in_room-requires
in_room-requires c = (small (goal.at.in_room-requires c).After-sweep_size-m 320 2560 c.if-m-n.true, omega arith, omega arith)

pub in_room-requires-then-m-n-2 : goal.in_room-requires-then-m-n-2
in_room-requires-then-m-n-2 c = (small (goal.at.in_room-requires-then-m-n-2 c).After-sweep_size-m 320 5120 c.if-m-n-2.true, omega arith, omega arith)

pub in_room-requires-then-m-le5120 : goal.in_room-requires-then-m-le5120
in_room-requires-then-m-le5120 c = (
  wide (goal.at.in_room-requires-then-m-le5120 c).After-sweep_size-m 1920 5120
      (omega arith) c.if-m-le5120.true,
  omega arith,
  omega arith,
)

pub in_room-requires-then-m-n-3 : goal.in_room-requires-then-m-n-3
in_room-requires-then-m-n-3 c = (small (goal.at.in_room-requires-then-m-n-3 c).After-sweep_size-m 640 10240 c.if-m-n-3.true, omega arith, omega arith)

pub in_room-requires-then-m-le10240 : goal.in_room-requires-then-m-le10240
in_room-requires-then-m-le10240 c = (
  wide (goal.at.in_room-requires-then-m-le10240 c).After-sweep_size-m 3840 10240
      (omega arith) c.if-m-le10240.true,
  omega arith,
  omega arith,
)

pub in_room-requires-then-m-n-4 : goal.in_room-requires-then-m-n-4
in_room-requires-then-m-n-4 c = (
  small (goal.at.in_room-requires-then-m-n-4 c).After-sweep_size-m 2560 20480 c.if-m-n-4.true,
  omega arith,
  omega arith,
)

pub in_room-requires-then-m-le20480 : goal.in_room-requires-then-m-le20480
in_room-requires-then-m-le20480 c = (
  wide (goal.at.in_room-requires-then-m-le20480 c).After-sweep_size-m 7680 20480
      (omega arith) c.if-m-le20480.true,
  omega arith,
  omega arith,
)

pub in_room-requires-then-m-n-5 : goal.in_room-requires-then-m-n-5
in_room-requires-then-m-n-5 c = (
  small (goal.at.in_room-requires-then-m-n-5 c).After-sweep_size-m 2560 40960 c.if-m-n-5.true,
  omega arith,
  omega arith,
)

pub in_room-requires-then-n-le4608 : goal.in_room-requires-then-n-le4608
in_room-requires-then-n-le4608 c = (
  largest (goal.at.in_room-requires-then-n-le4608 c).After-sweep_size-m 4608 c.if-n-le4608.true,
  omega arith,
  omega arith,
)

pub in_room-requires-2 : goal.in_room-requires-2
in_room-requires-2 c = (
  largest (goal.at.in_room-requires-2 c).After-sweep_size-m 16384 (every
      (goal.at.in_room-requires-2 c).After-sweep_size-m),
  omega arith,
  omega arith,
)

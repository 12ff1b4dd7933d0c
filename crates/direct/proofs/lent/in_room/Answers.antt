-- The tests one after the other; then the room is as large as the list needs. Assumes nothing.
use mathlib.Core.Path.{◌≡◌, sym, ap, ◌∙◌}
use mathlib.Core.Bool.{false≢true, not, true, false}
use Prim.Native.Nat.{◌*◌}
use native.Mathlib.Omega.{arith}
use Rattle.rules.specs.Limits.{max_dimension}
use Rattle.rules.specs.Shapes.{shape_ok}
use Rattle.rules.proofs.InLimits.{Limits, limits_are}
use Rattle.direct.specs.Inner.Direct.{Direct, Lent}
use Rattle.direct.proofs.Directly.{direct_keeps}
use Rattle.direct.proofs.Room.{list_fits}
use Rattle.direct.proofs.lent.in_room.Goals as goal
use Rattle.direct.proofs.lent.in_room.Goals.{Else-not-within, Else-uploaded-n, Start}

-- where it is not tried
abbrev Kept : Start → Type 0
Kept s =
    let a = s.args in
    (false ≡ true → Lent a.d a.v a.s a.cells.now a.table.now a.uploaded.now)
    × Direct a.d a.v a.s a.cells.now a.table.now a.uploaded.now a.table.now a.uploaded.now false

kept : (s : Start) → Kept s
kept s =
    let a = s.args in
    ((λ z. absurd (false≢true z)), direct_keeps a.d a.v a.s a.cells.now a.table.now a.uploaded.now)

inside : (c : Else-not-within) → let a = c.args in shape_ok max_dimension a.d a.v a.s ≡ true
inside c = sym c.within.ensures ∙ c.if-not-within.false

limits : (c : Else-not-within) → let a = c.args in Limits max_dimension a.d a.v a.s
limits c = limits_are _ _ _ _ (ap not (inside c))

lent : (c : Else-uploaded-n) → let a = c.args in Lent a.d a.v a.s a.cells.now a.table.now a.uploaded.now
lent c =
    record {
      some = omega (arith, c.if-d-eq0.false);
      shape = inside (goal.at.Else-uploaded-n c).Else-not-within;
      size = c.if-cells-list_words.false ∙ ap (λ x. x * 2) c.list_words.ensures;
      room = omega (arith, c.if-table-table_words.false, c.table_words.ensures);
      further = omega (arith, c.if-uploaded-n.false, c.wings_words-n.ensures);
    }

pub returns-then-d-eq0 : goal.returns-then-d-eq0
returns-then-d-eq0 c = let k = kept (goal.at.returns-then-d-eq0 c).Start in record { lent = k.0; direct = k.1 }

pub returns-then-not-within : goal.returns-then-not-within
returns-then-not-within c = let k = kept (goal.at.returns-then-not-within c).Start in record { lent = k.0; direct = k.1 }

pub list_words-requires : goal.list_words-requires
list_words-requires c = let l = limits c in (l.dimension, l.cells)

pub overflow_mul-list_words : goal.overflow_mul-list_words
overflow_mul-list_words c = let l = limits (goal.at.overflow_mul-list_words c).Else-not-within in
    omega (arith, c.list_words.ensures, list_fits _ _ l.dimension l.cells)

pub returns-then-cells-list_words : goal.returns-then-cells-list_words
returns-then-cells-list_words c = let k = kept (goal.at.returns-then-cells-list_words c).Start in record { lent = k.0; direct = k.1 }

pub table_words-requires : goal.table_words-requires
table_words-requires c = let l = limits (goal.at.table_words-requires c).Else-not-within in (l.dimension, l.cells)

pub returns-then-table-table_words : goal.returns-then-table-table_words
returns-then-table-table_words c = let k = kept (goal.at.returns-then-table-table_words c).Start in record { lent = k.0; direct = k.1 }

pub wings_words-n-requires : goal.wings_words-n-requires
wings_words-n-requires c = let l = limits (goal.at.wings_words-n-requires c).Else-not-within in (l.dimension, l.cells)

pub returns-then-uploaded-n : goal.returns-then-uploaded-n
returns-then-uploaded-n c = let k = kept (goal.at.returns-then-uploaded-n c).Start in record { lent = k.0; direct = k.1 }

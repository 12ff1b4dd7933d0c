-- The vertices are written, and then what stands around them. Assumes nothing.
use mathlib.Core.Path.{◌≡◌, ap, ◌∙◌}
use Prim.Native.Nat.{suc, ◌+◌}
use native.Mathlib.Numerals.{add-one}
use native.Mathlib.Omega.{arith}
use lib.ListN.{length, take}
use lib.Seq.{length-take-le}
use Rattle.words.specs.Inner.Placed.{placed}
use Rattle.records.specs.Layout.{vertex_place}
use Rattle.gathering.proofs.Blanks.{blank-placed}
use Rattle.gathering.proofs.blank.write_blank.Goals as goal
use Rattle.gathering.proofs.blank.write_blank.Goals.{After-store, Start}

long : (s : Start) → length (take (suc s.args.d) s.args.row) ≡ suc s.args.d
long s = length-take-le (suc s.args.d) s.args.row (omega arith)

stored : (c : After-store) → let a = (c.args) in
    c.store.new.table ≡ placed (a.at + vertex_place 0) (take (suc a.d) a.row) a.table.now
stored c =
    let a = (c.args) in
    c.store.ensures ∙ ap (λ n. placed (a.at + vertex_place 0) (take n a.row) a.table.now) (add-one a.d)

pub returns : goal.returns
returns c =
    let a = c.args in
    blank-placed a.d a.sign a.material _ (long (goal.at.returns c).Start) a.at a.table.now _ c.requires.2 (stored (goal.at.returns c).After-store) _
    c.surround.ensures

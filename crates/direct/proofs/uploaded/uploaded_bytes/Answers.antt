-- The dimension is the number that it was found to be. Assumes nothing.
use mathlib.Core.Path.{◌≡◌, sym, ap, ◌∙◌, subst}
use mathlib.Core.List.{List}
use Prim.Native.Nat.{ℕ, ◌*◌, ◌≤◌}
use lib.ListN.{length}
use borrow.Author.Rules.{rules}
use Rattle.words.specs.Bytes.{bytes_of}
use Rattle.words.specs.Inner.Placed.{placed}
use Rattle.records.specs.Layout.{list_length, wings_length}
use Rattle.records.specs.Inner.Inside.{Table}
use Rattle.wing.specs.Inner.Uploaded.{uploaded_rows}
use Rattle.direct.proofs.uploaded.uploaded_bytes.Goals as goal
use Rattle.direct.proofs.uploaded.uploaded_bytes.Goals.{Start}

-- what is asked for each dimension
abbrev Asked : Start → ℕ → Type 0
Asked s d =
    let a = s.args in
    Table d a.s a.table.now × (length a.cells.now ≡ list_length d a.s) × (wings_length d a.s * 2 ≤ length a.out.now)

at : (k : ℕ) (s : Start) → s.args.d ≡ k → Asked s k
at k s e = subst (Asked s) e s.requires

back : (k : ℕ) (s : Start) (new : List ℕ) → let a = s.args in a.d ≡ k →
    new ≡ placed 0 (bytes_of (uploaded_rows k a.s a.cells.now a.table.now)) a.out.now →
    new ≡ placed 0 (bytes_of (uploaded_rows a.d a.s a.cells.now a.table.now)) a.out.now
back k s new e w =
    let a = s.args in
    w ∙ ap (λ (d : ℕ). placed 0 (bytes_of (uploaded_rows d a.s a.cells.now a.table.now)) a.out.now) (sym e)

pub uploaded_all-requires : goal.uploaded_all-requires
uploaded_all-requires c = at 1 (search rules) c.if-d-eq1.true

pub returns-then-d-eq1 : goal.returns-then-d-eq1
returns-then-d-eq1 c =
    back 1 (search rules) _ c.if-d-eq1.true c.uploaded_all.ensures

pub uploaded_all-requires-then-d-eq2 : goal.uploaded_all-requires-then-d-eq2
uploaded_all-requires-then-d-eq2 c = at 2 (search rules) c.if-d-eq2.true

pub returns-then-d-eq2 : goal.returns-then-d-eq2
returns-then-d-eq2 c =
    back 2 (search rules) _ c.if-d-eq2.true c.uploaded_all-then-d-eq2.ensures

pub uploaded_all-requires-then-d-eq3 : goal.uploaded_all-requires-then-d-eq3
uploaded_all-requires-then-d-eq3 c = at 3 (search rules) c.if-d-eq3.true

pub returns-then-d-eq3 : goal.returns-then-d-eq3
returns-then-d-eq3 c =
    back 3 (search rules) _ c.if-d-eq3.true c.uploaded_all-then-d-eq3.ensures

pub uploaded_all-requires-then-d-eq4 : goal.uploaded_all-requires-then-d-eq4
uploaded_all-requires-then-d-eq4 c = at 4 (search rules) c.if-d-eq4.true

pub returns-then-d-eq4 : goal.returns-then-d-eq4
returns-then-d-eq4 c =
    back 4 (search rules) _ c.if-d-eq4.true c.uploaded_all-then-d-eq4.ensures

pub uploaded_all-requires-then-d-eq5 : goal.uploaded_all-requires-then-d-eq5
uploaded_all-requires-then-d-eq5 c = at 5 (search rules) c.if-d-eq5.true

pub returns-then-d-eq5 : goal.returns-then-d-eq5
returns-then-d-eq5 c =
    back 5 (search rules) _ c.if-d-eq5.true c.uploaded_all-then-d-eq5.ensures

pub uploaded_all-requires-then-d-eq6 : goal.uploaded_all-requires-then-d-eq6
uploaded_all-requires-then-d-eq6 c = at 6 (search rules) c.if-d-eq6.true

pub returns-then-d-eq6 : goal.returns-then-d-eq6
returns-then-d-eq6 c =
    back 6 (search rules) _ c.if-d-eq6.true c.uploaded_all-then-d-eq6.ensures

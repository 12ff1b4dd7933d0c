-- The dimension that the compiler knows is the list's; longer rows are tested when all are written. Assumes nothing.
use mathlib.Core.Path.{◌≡◌, refl, sym, subst, ◌∙◌}
use mathlib.Core.Bool.{Bool, true}
use mathlib.Core.List.{List}
use Prim.Native.Nat.{ℕ, ◌≤◌, ◌<◌}
use lib.ListN.{length, get_or}
use Rattle.words.specs.Records.{part}
use Rattle.rules.proofs.Tests.{and_parts}
use Rattle.records.specs.Layout.{list_length, list_size, table_length}
use Rattle.soundness.specs.Inner.Certified.{Fine}
use Rattle.gathering.specs.Inner.Gathering.{blank_table}
use Rattle.gathering.proofs.gather.Goals as goal
use Rattle.gathering.proofs.gather.Goals.{Start}

abbrev Asked : Start → ℕ → Type 0
Asked s d =
    let a = s.args in
    (d ≤ 7) × (a.s ≤ 4096) × (length a.cells.now ≡ list_length d a.s) × (length a.table.now ≡ table_length d a.s)

abbrev Whole : Start → List ℕ → Bool → ℕ → Type 0
Whole s out r d =
    let a = s.args in
    (out ≡ blank_table d a.s a.cells.now)
    × (r ≡ true → (p : ℕ) → p < a.s → Fine d a.v out p)
    × (r ≡ true → (p : ℕ) → p < a.s → get_or (part (list_size d) p a.cells.now) 0 0 ≤ 1)

there : (s : Start) (k : ℕ) → s.args.d ≡ k → Asked s k
there s k e = subst (Asked s) e s.requires

back : (s : Start) (k : ℕ) (out : List ℕ) (r : Bool) → s.args.d ≡ k → Whole s out r k → Whole s out r s.args.d
back s k out r e = subst (Whole s out r) (sym e)

pub gather_all-requires : goal.gather_all-requires
gather_all-requires c = there (goal.at.gather_all-requires c).Start 1 c.if-d-eq1.true

pub returns-then-d-eq1 : goal.returns-then-d-eq1
returns-then-d-eq1 c =
    let r = back (goal.at.returns-then-d-eq1 c).Start 1 _ _ c.if-d-eq1.true (
      c.gather_all.ensures.table,
      c.gather_all.ensures.fine refl,
      c.gather_all.ensures.signs,
    ) in record { table = r.0; fine = r.1; signs = r.2 }

pub gather_all-requires-then-d-eq2 : goal.gather_all-requires-then-d-eq2
gather_all-requires-then-d-eq2 c = there (goal.at.gather_all-requires-then-d-eq2 c).Start 2 c.if-d-eq2.true

pub returns-then-d-eq2 : goal.returns-then-d-eq2
returns-then-d-eq2 c =
    let r = back (goal.at.returns-then-d-eq2 c).Start 2 _ _ c.if-d-eq2.true (
      c.gather_all-then-d-eq2.ensures.table,
      c.gather_all-then-d-eq2.ensures.fine refl,
      c.gather_all-then-d-eq2.ensures.signs,
    ) in record { table = r.0; fine = r.1; signs = r.2 }

pub gather_all-requires-then-d-eq3 : goal.gather_all-requires-then-d-eq3
gather_all-requires-then-d-eq3 c = there (goal.at.gather_all-requires-then-d-eq3 c).Start 3 c.if-d-eq3.true

pub returns-then-d-eq3 : goal.returns-then-d-eq3
returns-then-d-eq3 c =
    let r = back (goal.at.returns-then-d-eq3 c).Start 3 _ _ c.if-d-eq3.true (
      c.gather_all-then-d-eq3.ensures.table,
      c.gather_all-then-d-eq3.ensures.fine refl,
      c.gather_all-then-d-eq3.ensures.signs,
    ) in record { table = r.0; fine = r.1; signs = r.2 }

pub gather_all-requires-then-d-eq4 : goal.gather_all-requires-then-d-eq4
gather_all-requires-then-d-eq4 c = there (goal.at.gather_all-requires-then-d-eq4 c).Start 4 c.if-d-eq4.true

pub returns-then-d-eq4 : goal.returns-then-d-eq4
returns-then-d-eq4 c =
    let r = back (goal.at.returns-then-d-eq4 c).Start 4 _ _ c.if-d-eq4.true (
      c.gather_all-then-d-eq4.ensures.table,
      c.gather_all-then-d-eq4.ensures.fine refl,
      c.gather_all-then-d-eq4.ensures.signs,
    ) in record { table = r.0; fine = r.1; signs = r.2 }

pub all_fine-fine-requires : goal.all_fine-fine-requires
all_fine-fine-requires c =
    record { dimension = c.requires.0; cells = c.requires.1; long = c.gather_wide-signed.auto.table ∙ c.requires.3 }

pub returns : goal.returns
returns c =
    let both = and_parts c.gather_wide-signed.result c.all_fine-fine.result in
    record {
      table = c.gather_wide-signed.ensures.table;
      fine = (λ z. c.all_fine-fine.ensures (both z).1);
      signs = (λ z. c.gather_wide-signed.ensures.signs (both z).0);
    }

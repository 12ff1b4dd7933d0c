-- `read_cells` answers `read_outcome`, and leaves the buffer as `read_cells` says: what read's rules refuse it refuses, and the rest
-- it writes. Assumes nothing.
use mathlib.Core.Path.{◌≡◌}
use lib.ListN.{length}
use Rattle.std.proofs.lemmas.Result.{err_from_is_err_and}
use Rattle.rules.specs.Calls.{first_refusal}
use Rattle.read.specs.Read.{ReadInput, read_input, read_rules}
use Rattle.read.proofs.Order.{Passed, passed, refuses, accepts}
use Rattle.read.proofs.read_cells.Goals as goal
use Rattle.read.proofs.read_cells.Goals.{In_ok-first_refusal, Start}

abbrev input : Start → ReadInput
input c = read_input c.args.bytes.now (length c.args.cells.now) c.args.space

none : (c : In_ok-first_refusal) → 0 ≡ first_refusal read_rules (input (goal.at.In_ok-first_refusal c).Start)
none c = c.in_ok-first_refusal.ensures

fine : (c : In_ok-first_refusal) → Passed (input (goal.at.In_ok-first_refusal c).Start)
fine c = passed (input (goal.at.In_ok-first_refusal c).Start) (none c)

pub returns-in_err-first_refusal : goal.returns-in_err-first_refusal
returns-in_err-first_refusal c =
    let p = err_from_is_err_and c.from_residual.result c.from_residual.ensures.1 in
    let i = input (goal.at.returns-in_err-first_refusal c).Start in
    let r = refuses i c.args.cells.now c.in_err-first_refusal.field-0.0 c.in_err-first_refusal.ensures in
    record { answer = rw (p.1, p.2) r.0; cells = r.1 }

pub write_cells-requires : goal.write_cells-requires
write_cells-requires c = let f = fine (goal.at.write_cells-requires c).In_ok-first_refusal in (f.whole, f.cells)

pub header_of-requires : goal.header_of-requires
header_of-requires c = let f = fine (goal.at.header_of-requires c).In_ok-first_refusal in (f.long, f.amounts)

pub returns : goal.returns
returns c =
    let k = goal.at.returns c in
    let r = accepts (input k.Start) c.args.cells.now c.header_of.result _ (none k.In_ok-first_refusal) c.header_of.ensures c.write_cells.ensures in
    record { answer = r.0; cells = r.1 }

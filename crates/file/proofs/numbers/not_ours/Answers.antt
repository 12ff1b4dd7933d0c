-- `not_ours` answers row 1. Assumes nothing.
use mathlib.Core.Path.{◌≡◌, refl, sym, ap, ◌∙◌}
use mathlib.Core.Bool.{true, false, not}
use lib.ListN.{length, take}
use borrow.Author.Tests.{lt-ltb, le-ltb}
use Rattle.rules.specs.Limits.{version_ok}
use Rattle.simplex.specs.Cell.{same_row}
use Rattle.file.specs.File.{mark}
use Rattle.file.proofs.Mark.{same_as_row}
use Rattle.file.proofs.numbers.not_ours.Goals as goal

pub returns-then-b-lt40 : goal.returns-then-b-lt40
returns-then-b-lt40 c = rw (lt-ltb _ 40 c.if-b-lt40.true) refl

pub returns-then-starts_with : goal.returns-then-starts_with
returns-then-starts_with c =
    let b = c.args.b.now in
    let same : same_row (take 3 b) mark ≡ true = sym (same_as_row mark (take 3 b)) ∙ sym c.starts_with.ensures.value ∙ c.if-starts_with.true in
    rw (le-ltb (length b) 40 c.if-b-lt40.false, same) (ap not (c.version_ok.ensures ∙ ap version_ok c.version.ensures.0))

pub returns : goal.returns
returns c =
    let b = c.args.b.now in
    let same : same_row (take 3 b) mark ≡ false = sym (same_as_row mark (take 3 b)) ∙ sym c.starts_with.ensures.value ∙ c.if-starts_with.false in
    rw (le-ltb (length b) 40 c.if-b-lt40.false, same) refl

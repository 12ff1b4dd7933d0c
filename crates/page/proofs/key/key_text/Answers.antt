-- `key::key_text` meets its contract: the front of the page is what is printed, and goes to the lent bytes if they are enough. Assumes nothing.
use mathlib.Core.Path.{◌≡◌, sym, subst}
use mathlib.Core.List.{List}
use Prim.Native.Nat.{ℕ}
use native.Mathlib.Omega.{arith}
use borrow.Author.Rules.{rules}
use lib.ListN.{length, take}
use lib.Seq.{length-take-le}
use Rattle.words.specs.Inner.Placed.{Put}
use Rattle.page.proofs.Printed.{text_short, text_fits}
use Rattle.page.proofs.key.key_text.Goals as goal
use Rattle.page.proofs.key.key_text.Goals.{After-print_page-n}

abbrev page : After-print_page-n → List ℕ
page c = c.print_page-n.new.page

cut : (c : After-print_page-n) → length (take c.print_page-n.result (page c)) ≡ c.print_page-n.result
cut c = length-take-le c.print_page-n.result (page c) c.print_page-n.ensures.fits

-- by itself, so that a page of another length is refused here whatever print_page's own proof says
pub print_page-n-requires : goal.print_page-n-requires
print_page-n-requires c = search rules

pub returns-then-text-n : goal.returns-then-text-n
returns-then-text-n c =
    let a = c.args in
    let both = text_short a.input.now a.text.now (omega (arith, c.if-text-n.true, c.print_page-n.ensures.count)) in
    record { answer = both.0; buffer = both.1 }

pub slice_bounds-put_text-end : goal.slice_bounds-put_text-end
slice_bounds-put_text-end c = sym (cut (goal.at.slice_bounds-put_text-end c).After-print_page-n)

pub put_text-requires : goal.put_text-requires
put_text-requires c = omega (arith, cut (goal.at.put_text-requires c).After-print_page-n, c.if-text-n.false)

pub returns : goal.returns
returns c =
    let a = c.args in
    let new = c.put_text.new.buf in
    let both = text_fits a.input.now a.text.now new c.put_text.result (omega (arith, c.if-text-n.false, c.print_page-n.ensures.count))
    (subst (λ (t : List ℕ). Put 0 t a.text.now c.put_text.result new) c.print_page-n.ensures.bytes c.put_text.ensures) in
    record { answer = both.0; buffer = both.1 }

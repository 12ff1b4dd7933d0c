-- `key::print_page` meets its contract: the key is on the page already, or the line for the refusal is put there. Assumes nothing.
use mathlib.Core.Path.{◌≡◌, sym, ap, ◌∙◌, subst}
use mathlib.Core.List.{List}
use Prim.Native.Nat.{ℕ, ◌≤◌}
use lib.ListN.{length, take}
use Rattle.rules.specs.Calls.{refused}
use Rattle.page.specs.Key.{spoken}
use Rattle.page.proofs.Printed.{printed_key, printed-refused, put_front}
use Rattle.page.proofs.key.print_page.Goals as goal

pub returns-in-Ok : goal.returns-in-Ok
returns-in-Ok c =
    let a = c.args in
    let t = printed_key a.input.now c.in-Ok.n a.page.now c.page_key.new.page c.in-Ok.ensures.page c.in-Ok.ensures.answer in
    record { count = t.0; fits = t.1.0; bytes = t.1.1 }

pub returns-in-Err : goal.returns-in-Err
returns-in-Err c =
    let a = c.args in
    let k = c.from.result in
    let new = c.put_refused.new.page in
    let text =
    ap (λ j. spoken (refused j)) c.from.ensures
    ∙ sym (printed-refused a.input.now _ a.page.now c.page_key.new.page c.in-Err.ensures.page c.in-Err.ensures.answer).0 in
    let t = subst (λ (t : List ℕ). (c.put_refused.result ≡ length t)
    × ((c.put_refused.result ≤ length new) × (take c.put_refused.result new ≡ t))) text
    (put_front (spoken (refused k)) _ new c.put_refused.result c.put_refused.ensures) in
    record { count = t.0; fits = t.1.0; bytes = t.1.1 }

-- `print_to`: the lent bytes are enough for what is printed. Assumes nothing.
use mathlib.Core.Path.{◌≡◌, sym}
use mathlib.Core.List.{List}
use Prim.Native.Nat.{ℕ, ◌≤◌}
use lib.ListN.{length, take}
use lib.Seq.{length-take-le}
use Rattle.std.specs.Prelude.{Result, Ok, Err}
use Rattle.std.specs.Result.{result_unwrap_or}
use Rattle.rules.specs.Numbers.{outcome_of}
use Rattle.rules.specs.declared.refusal.Refusal.{Refusal}
use Rattle.page.specs.Key.{byte_room, printed, text_outcome, text_buffer}
use Rattle.key.proofs.Fits.{text-written, text_taken}
use Rattle.key.proofs.print_to.Goals as goal

-- what is written, whatever is answered: no refusal is
front : (input text new : List ℕ) → length text ≡ byte_room → (r : Result ℕ Refusal) → outcome_of r ≡ text_outcome input (length text) →
    new ≡ text_buffer input text → (result_unwrap_or r 0 ≤ length new) × (take (result_unwrap_or r 0) new ≡ printed input)
front input text new room (Ok n) answer buffer = text-written input text room new n answer buffer
front input text new room (Err _) answer buffer = absurd (text_taken input text room _ answer)

pub returns : goal.returns
returns c =
    let e = c.key_text.ensures in
    let w = front c.args.input.now c.args.text.now c.key_text.new.text c.requires c.key_text.result e.answer e.buffer in
    rw c.unwrap_or.ensures (record { fits = (w.0, sym (length-take-le _ _ w.0)); bytes = w.1 })

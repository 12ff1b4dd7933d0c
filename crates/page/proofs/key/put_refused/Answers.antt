-- `key::put_refused` meets its contract: the word, the number, the line feed. Assumes nothing.
use mathlib.Core.List.{List, ◌++◌}
use Prim.Native.Nat.{ℕ}
use native.Mathlib.Omega.{arith}
use lib.ListN.{length-append}
use Rattle.words.specs.Text.{ascii}
use Rattle.printing.specs.Decimal.{digits}
use Rattle.printing.proofs.Digits.{digits-length}
use Rattle.words.proofs.Writing.{Left, left_starts, left_goes, left_last, left_fits}
use Rattle.page.proofs.key.put_refused.Goals as goal
use Rattle.page.proofs.key.put_refused.Goals.{Start}

abbrev word : List ℕ
word = ascii "refused "

abbrev rest : Start → List ℕ
rest s = digits s.args.k ++ ascii "\n"

-- the whole line is to be written
all : (s : Start) → Left 0 (word ++ rest s) s.args.page.now 0 (word ++ rest s) s.args.page.now
all s = left_starts 0 (word ++ rest s) s.args.page.now
    (omega (arith, s.requires, length-append (digits s.args.k) (ascii "\n"), digits-length s.args.k))

pub put_number-end-requires : goal.put_number-end-requires
put_number-end-requires c =
    let one = left_goes word (rest (goal.at.put_number-end-requires c).Start) _ _
    (all (goal.at.put_number-end-requires c).Start) c.put_text-at.ensures in
    left_fits (digits c.args.k) (ascii "\n") one

pub put_byte-requires : goal.put_byte-requires
put_byte-requires c =
    let one = left_goes word (rest (goal.at.put_byte-requires c).Start) _ _ (all (goal.at.put_byte-requires c).Start) c.put_text-at.ensures in
    let two = left_goes (digits c.args.k) (ascii "\n") _ _ one c.put_number-end.ensures in
    omega (arith, two.room)

pub returns : goal.returns
returns c =
    let one = left_goes word (rest (goal.at.returns c).Start) _ _ (all (goal.at.returns c).Start) c.put_text-at.ensures in
    let two = left_goes (digits c.args.k) (ascii "\n") _ _ one c.put_number-end.ensures in
    left_last (ascii "\n") _ _ two c.put_byte.ensures

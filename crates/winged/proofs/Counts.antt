-- The count of an accepted call is at most the room that it was lent.
--   text-within, list-within, move_within, read-within    of key_text, and of list, move and read on bytes
--   read_small                so read's is no large number
-- Assumes nothing.
use mathlib.Core.Path.{◌≡◌, refl, ap}
use mathlib.Core.Bool.{Bool, true, false, cond, ◌&&◌}
use mathlib.Core.List.{List}
use Prim.Native.Nat.{ℕ, ◌*◌, ◌/◌, ◌≤◌, ◌<◌}
use native.Mathlib.Omega.{arith}
use lib.Dec.{eqb, ltb}
use lib.ListN.{length}
use borrow.Author.Tests.{ltb-false}
use Rattle.rules.specs.Limits.{max_dimension, axes_ok, version_ok}
use Rattle.rules.specs.Shapes.{shape_ok}
use Rattle.rules.specs.Calls.{Outcome, accepted, refused}
use Rattle.rules.proofs.Accepting.{accepted_by}
use Rattle.records.specs.Layout.{table_length}
use Rattle.motion.specs.Move.{moved_length}
use Rattle.file.specs.Tests.{cells_length}
use Rattle.read.specs.declared.Header.{Header}
use Rattle.read.specs.Read.{ReadInput, read_input, read_rules, read_outcome, header_of}
use Rattle.read.proofs.Order.{passed_each}
use Rattle.list.specs.List.{ListInput, list_outcome}
use Rattle.hosting.specs.Lists.{by_bytes, host_list_input, host_list_outcome}
use Rattle.hosting.specs.Moves.{MoveTold, told_move, host_move_rules, host_move_outcome}
use Rattle.hosting.specs.Reads.{told_size, word_count, with_header, host_read_outcome}
use Rattle.page.specs.Key.{printed, text_outcome}
use Rattle.page.proofs.Staged.{list-long}
use Rattle.winged.specs.Inner.Sent.{count_of}

pub text-within : (b : List ℕ) (room : ℕ) → count_of (text_outcome b room) ≤ room
unfolding text_outcome
text-within b room = go (ltb room (length (printed b))) refl
  where
    go : (t : Bool) → ltb room (length (printed b)) ≡ t → count_of (cond t (refused 15) (accepted (length (printed b)))) ≤ room
    go true e = omega arith
    go false e = ltb-false room (length (printed b)) e

listed : (i : ListInput) → count_of (list_outcome i) ≤ i.room
listed i = go (list_outcome i) refl
  where
    go : (o : Outcome ℕ) → list_outcome i ≡ o → count_of o ≤ i.room
    go (accepted k) e = let l = list-long i k e in omega (arith, l.0, l.1)
    go (refused k) e = omega arith

by_bytes_lem : (numbers lengths : Bool) (o : Outcome ℕ) (m : ℕ) → count_of o ≤ m → count_of (by_bytes numbers lengths o) ≤ m
by_bytes_lem false lengths o m h = omega arith
by_bytes_lem true false o m h = omega arith
by_bytes_lem true true o m h = h

pub list-within : (k d n v s : ℕ) (table points out : List ℕ) → count_of (host_list_outcome k d n v s table points out) ≤ length out
unfolding host_list_outcome
list-within k d n v s table points out =
    by_bytes_lem (version_ok k && (shape_ok max_dimension d v s && axes_ok n))
    (eqb (length table) (table_length d s * 2) && eqb (length points) (v * n * 8))
    (list_outcome (host_list_input k d n v s table points out)) (length out) (listed (host_list_input k d n v s table points out))

pub move_within : (i : MoveTold) → count_of (host_move_outcome i) ≤ i.room
unfolding host_move_outcome host_move_rules
move_within i = go (host_move_outcome i) refl
  where
    go : (o : Outcome ℕ) → host_move_outcome i ≡ o → count_of o ≤ i.room
    go (accepted k) e =
        let by = accepted_by host_move_rules (λ i. moved_length (told_move i)) i k refl e in
        omega (arith, by.0, ltb-false i.room (moved_length (told_move i)) (by.1 15))
    go (refused k) e = omega arith

pub read-within : (b header cells points : List ℕ) → count_of (host_read_outcome b header cells points) ≤ length cells / 2
unfolding host_read_outcome read_outcome read_rules
read-within b header cells points = go (read_outcome i) refl
  where
    i : ReadInput
    i = read_input b (length cells / 2) (length points / 8)

    pick : (t : Bool) → cells_length b ≤ length cells / 2 → count_of (cond t (refused 15) (accepted (cells_length b))) ≤ length cells / 2
    pick true h = omega arith
    pick false h = h

    go : (o : Outcome Header) → read_outcome i ≡ o → count_of (with_header (length header) (word_count b o)) ≤ length cells / 2
    go (accepted x) e =
        let by = accepted_by read_rules (λ i. header_of i.bytes) i x refl e in
        pick (ltb (length header) told_size) (passed_each i by.1).cells
    go (refused k) e = omega arith

pub read_small : (o : Outcome ℕ) (b header cells points : List ℕ) → o ≡ host_read_outcome b header cells points →
    length cells < 18446744073709551616 → count_of o < 9223372036854775808
read_small o b header cells points e h = omega (arith, ap count_of e, read-within b header cells points)

-- The call list: each return is a rule's, and only an accepted call writes. Assumes nothing.
use mathlib.Core.Path.{◌≡◌, sym, ap, ◌∙◌}
use mathlib.Core.Bool.{Bool, true, false, not}
use Prim.Native.Nat.{◌*◌}
use lib.Dec.{eqb, ltb}
use lib.ListN.{length}
use borrow.Author.Tests.{eqb-true, ltb-false, not-false}
use Rattle.words.proofs.Placed.{placed_first}
use Rattle.rules.proofs.InLimits.{ListLimits, list_limits_are}
use Rattle.rules.proofs.Tests.{and_parts, is_less, not_less}
use Rattle.records.specs.Inner.Inside.{Table}
use Rattle.records.specs.Layout.{table_length}
use Rattle.boundary.specs.Inner.Walk.{table_faces}
use Rattle.listing.specs.Lines.{key_text}
use Rattle.listing.specs.Inner.Parts.{Points}
use Rattle.list.specs.List.{ListInput, list_input, list_text, list_rules}
use Rattle.list.proofs.Order.{refuses, accepts}
use Rattle.list.proofs.list.Goals as goal
use Rattle.list.proofs.list.Goals.{Else-not-all_in_range, Else-not-numbers_fit, Else-out-bytes, Start, Then-out-bytes}

abbrev input : Start → ListInput
input s = let a = s.args in list_input a.version a.d a.n a.v a.s a.table.now a.points.now (length a.out.now)

limits : (c : Else-not-numbers_fit) → let a = c.args in ListLimits a.d a.n a.v a.s
limits c = list_limits_are c.args.version _ _ _ _ (ap not (sym c.numbers_fit.ensures ∙ c.if-not-numbers_fit.false))

-- what the tests say of the table and the points
told : (c : Else-not-all_in_range) → let a = c.args in Table a.d a.s a.table.now × Points a.n a.v a.points.now
told c =
    let a = c.args in
    let l = limits (goal.at.Else-not-all_in_range c).Else-not-numbers_fit in
    let fit = ap not (sym c.lengths_fit.ensures ∙ c.if-not-lengths_fit.false) in
    let long = and_parts (eqb (length a.table.now) (table_length a.d a.s)) (eqb (length a.points.now) (a.v * a.n)) (not-false _ fit) in
    let ranged = not-false _ (ap not (sym c.all_in_range.ensures ∙ c.if-not-all_in_range.false)) in (
      record { dimension = l.dimension; cells = l.cells; long = eqb-true _ _ long.0 },
      record { axes = l.axes; vertices = l.vertices; long = eqb-true _ _ long.1; ranged = ranged },
    )

-- the test of the room, of the key's text
abbrev short_of : Start → Bool
unfolding list_text
short_of s =
    let a = s.args in
    ltb (length a.out.now) (length (list_text (list_input a.version a.d a.n a.v a.s a.table.now a.points.now 0)))

short : (c : Then-out-bytes) → short_of (goal.at.Then-out-bytes c).Start ≡ true
unfolding list_text
short c = ap (ltb _) (sym c.key_size-size.ensures.text) ∙ is_less _ _ c.if-out-bytes.true

enough : (c : Else-out-bytes) → short_of (goal.at.Else-out-bytes c).Start ≡ false
unfolding list_text
enough c = ap (ltb _) (sym c.key_size-size.ensures.text) ∙ not_less _ _ c.if-out-bytes.false

pub returns-then-not-numbers_fit : goal.returns-then-not-numbers_fit
unfolding list_rules
returns-then-not-numbers_fit c =
    let both = refuses (input (goal.at.returns-then-not-numbers_fit c).Start) c.args.out.now 2 cc in
    record { answer = both.0; buffer = both.1 }

pub lengths_fit-requires : goal.lengths_fit-requires
lengths_fit-requires c = let l = limits c in (l.dimension, l.axes, l.vertices, l.cells)

pub returns-then-not-lengths_fit : goal.returns-then-not-lengths_fit
unfolding list_rules
returns-then-not-lengths_fit c =
    let both = refuses (input (goal.at.returns-then-not-lengths_fit c).Start) c.args.out.now 3 cc in
    record { answer = both.0; buffer = both.1 }

pub returns-then-not-all_in_range : goal.returns-then-not-all_in_range
unfolding list_rules
returns-then-not-all_in_range c =
    let both = refuses (input (goal.at.returns-then-not-all_in_range c).Start) c.args.out.now 4 cc in
    record { answer = both.0; buffer = both.1 }

pub returns-then-not-is_sound : goal.returns-then-not-is_sound
unfolding list_rules
returns-then-not-is_sound c =
    let both = refuses (input (goal.at.returns-then-not-is_sound c).Start) c.args.out.now 14 cc in
    record { answer = both.0; buffer = both.1 }

pub key_size-size-requires : goal.key_size-size-requires
key_size-size-requires c = told (goal.at.key_size-size-requires c).Else-not-all_in_range

pub returns-then-out-bytes : goal.returns-then-out-bytes
unfolding list_rules list_text
returns-then-out-bytes c =
    let p = goal.at.returns-then-out-bytes c in
    let both = refuses (input p.Start) c.args.out.now 15 (cc (short p.Then-out-bytes)) in
    record { answer = both.0; buffer = both.1 }

pub put_key-requires : goal.put_key-requires
unfolding list_text
put_key-requires c =
    let t = told (goal.at.put_key-requires c).Else-not-all_in_range in
    (t.0, t.1, c.key_size-size.ensures.faces, ltb-false _ _ (enough (goal.at.put_key-requires c).Else-out-bytes))

pub returns : goal.returns
unfolding list_rules list_text
returns c =
    let a = c.args in
    let p = goal.at.returns c in
    let both = accepts (input p.Start) a.out.now _ _ (cc (enough p.Else-out-bytes)) c.key_size-size.ensures.text
    (c.put_key.ensures.content
    ∙ placed_first (key_text a.version a.d a.n a.v a.points.now (table_faces a.d a.s a.table.now)) a.out.now) in
    record { answer = both.0; buffer = both.1 }

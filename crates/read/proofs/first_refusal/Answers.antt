-- `first_refusal` answers the number of the first rule of read that applies: each return is a rule's, and what the tests before
-- rule out is what the later ones require. Assumes nothing.
use mathlib.Core.Path.{◌≡◌, sym, ◌∙◌}
use mathlib.Core.Bool.{true}
use mathlib.Core.List.{List}
use Prim.Native.Nat.{ℕ, ◌≤◌}
use lib.ListN.{length}
use Rattle.words.specs.Records.{all_of, tabulate}
use Rattle.rules.proofs.Refusing.{first_is, none_is}
use Rattle.points.specs.Step.{in_range}
use Rattle.file.specs.File.{header_size, amount_of, file_length}
use Rattle.read.specs.Read.{ReadInput, read_input, read_rules}
use Rattle.read.proofs.Order.{ours_long, right-length, floats_parts}
use Rattle.read.proofs.first_refusal.Goals as goal
use Rattle.read.proofs.first_refusal.Goals.{Else-not_ours, Else-out_of_range, Else-wrong_length, Start}

abbrev bytes : Start → List ℕ
bytes s = s.args.b.now

abbrev input : Start → ReadInput
input s = read_input (bytes s) s.args.room s.args.space

long : (c : Else-not_ours) → header_size ≤ length (bytes (goal.at.Else-not_ours c).Start)
long c = ours_long (bytes (goal.at.Else-not_ours c).Start) (sym c.not_ours.ensures ∙ c.if-not_ours.false)

whole : (c : Else-wrong_length) → length (bytes (goal.at.Else-wrong_length c).Start) ≡ file_length (bytes (goal.at.Else-wrong_length c).Start)
whole c = right-length (bytes (goal.at.Else-wrong_length c).Start) (sym c.wrong_length.ensures ∙ c.if-wrong_length.false)

ranged : (c : Else-out_of_range) → all_of in_range (tabulate 3 (amount_of (bytes (goal.at.Else-out_of_range c).Start))) ≡ true
ranged c = (floats_parts (bytes (goal.at.Else-out_of_range c).Start) (sym c.out_of_range.ensures ∙ c.if-out_of_range.false)).0

pub returns-then-not_ours : goal.returns-then-not_ours
unfolding read_rules
returns-then-not_ours c = sym (first_is read_rules (input (goal.at.returns-then-not_ours c).Start) 1 (cc))

pub outside_limits-requires : goal.outside_limits-requires
outside_limits-requires c = long c

pub returns-then-outside_limits : goal.returns-then-outside_limits
unfolding read_rules
returns-then-outside_limits c = sym (first_is read_rules (input (goal.at.returns-then-outside_limits c).Start) 2 (cc))

pub wrong_length-requires : goal.wrong_length-requires
wrong_length-requires c = long (goal.at.wrong_length-requires c).Else-not_ours

pub returns-then-wrong_length : goal.returns-then-wrong_length
unfolding read_rules
returns-then-wrong_length c = sym (first_is read_rules (input (goal.at.returns-then-wrong_length c).Start) 3 (cc))

pub out_of_range-requires : goal.out_of_range-requires
out_of_range-requires c = whole c

pub returns-then-out_of_range : goal.returns-then-out_of_range
unfolding read_rules
returns-then-out_of_range c = sym (first_is read_rules (input (goal.at.returns-then-out_of_range c).Start) 4 (cc))

pub step_unfit-requires : goal.step_unfit-requires
step_unfit-requires c = (long (goal.at.step_unfit-requires c).Else-not_ours, ranged c)

pub returns-then-step_unfit : goal.returns-then-step_unfit
unfolding read_rules
returns-then-step_unfit c = sym (first_is read_rules (input (goal.at.returns-then-step_unfit c).Start) 5 (cc))

pub bad_sign-requires : goal.bad_sign-requires
bad_sign-requires c = whole (goal.at.bad_sign-requires c).Else-wrong_length

pub returns-then-bad_sign : goal.returns-then-bad_sign
unfolding read_rules
returns-then-bad_sign c = sym (first_is read_rules (input (goal.at.returns-then-bad_sign c).Start) 6 (cc))

pub bad_vertex-requires : goal.bad_vertex-requires
bad_vertex-requires c = whole (goal.at.bad_vertex-requires c).Else-wrong_length

pub returns-then-bad_vertex : goal.returns-then-bad_vertex
unfolding read_rules
returns-then-bad_vertex c = sym (first_is read_rules (input (goal.at.returns-then-bad_vertex c).Start) 7 (cc))

pub vertex_twice-requires : goal.vertex_twice-requires
vertex_twice-requires c = whole (goal.at.vertex_twice-requires c).Else-wrong_length

pub returns-then-vertex_twice : goal.returns-then-vertex_twice
unfolding read_rules
returns-then-vertex_twice c = sym (first_is read_rules (input (goal.at.returns-then-vertex_twice c).Start) 8 (cc))

pub bad_material-requires : goal.bad_material-requires
bad_material-requires c = whole (goal.at.bad_material-requires c).Else-wrong_length

pub returns-then-bad_material : goal.returns-then-bad_material
unfolding read_rules
returns-then-bad_material c = sym (first_is read_rules (input (goal.at.returns-then-bad_material c).Start) 18 (cc))

pub no_room-requires : goal.no_room-requires
no_room-requires c = long (goal.at.no_room-requires c).Else-not_ours

pub returns-then-no_room : goal.returns-then-no_room
unfolding read_rules
returns-then-no_room c = sym (first_is read_rules (input (goal.at.returns-then-no_room c).Start) 15 (cc))

pub returns : goal.returns
unfolding read_rules
returns c = sym (none_is read_rules (input (goal.at.returns c).Start) (cc))

-- The program's calls, each told what the call before it wrote.
--   counted o         the count of a text's bytes, or the refusal
--   page_after o page       the page with the text from its start; as it was after a refusal
--   list_key           list
--   moved_key          move, then list in the form of version k: d and s of the swept table, v of the solid
--   swept_key          sweep, then those
--   winged_key         wing, then those
use Rattle.std.specs.Prelude.{List, ℕ, suc, length, Float}
use Rattle.rules.specs.Limits.{swept_vertices}
use Rattle.rules.specs.Calls.{Outcome, accepted, refused, written}
use Rattle.solids.specs.Table.{table_of_list}
use Rattle.wing.specs.Wing.{wing_input, wing_outcome}
use Rattle.prism.specs.Swept.{swept_cells}
use Rattle.sweep.specs.Sweep.{swept_words, sweep_outcome, sweep_input}
use Rattle.motion.specs.Move.{move_input, moved_levels, move_outcome}
use Rattle.points.specs.declared.step.Step.{Step}
use Rattle.list.specs.List.{ListInput, list_input, list_text, list_outcome}
use Rattle.page.specs.Key.{word_room, float_room, then_call}

abbrev pub counted : Outcome (List ℕ) → Outcome ℕ
counted (accepted text) = accepted (length text)
counted (refused n) = refused n

abbrev pub page_after : Outcome (List ℕ) → List ℕ → List ℕ
page_after (accepted text) page = written text page
page_after (refused n) page = page

unfoldable pub list_key : ListInput → Outcome (List ℕ)
list_key i = then_call (list_outcome i) (λ k. accepted (list_text i))

unfoldable pub moved_key : ℕ → ℕ → ℕ → ℕ → ℕ → ℕ → Step → List ℕ → List Float → ℕ → Outcome (List ℕ)
moved_key k d n v s h step table points room =
    let i = move_input n v h step points float_room in
    then_call (move_outcome i) (λ m. list_key (list_input k d n (swept_vertices v h) s table (moved_levels i) room))

unfoldable pub swept_key : ℕ → ℕ → ℕ → ℕ → ℕ → ℕ → Step → List ℕ → List Float → ℕ → Outcome (List ℕ)
swept_key k d n v s h step table points room =
    let i = sweep_input d v s h table word_room in
    then_call (sweep_outcome i) (λ w. moved_key k (suc d) n v (swept_cells d s h) h step (swept_words i) points room)

unfoldable pub winged_key : ℕ → ℕ → ℕ → ℕ → ℕ → ℕ → Step → List ℕ → List Float → ℕ → Outcome (List ℕ)
winged_key k d n v s h step cells points room =
    let i = wing_input d v s cells word_room word_room in
    then_call (wing_outcome i) (λ t. swept_key k d n v s h step (table_of_list i.list) points room)

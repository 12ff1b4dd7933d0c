-- Refusal 14 never comes out of the program: wing's table is sound, so sweep does not say it; the swept table is sound, so list does not.
--   blames n rs x         whether a rule with the number n applies
--   blamed                so it is where the call is refused with n
--   wing_sound            the table of an accepted list
--   sweep_sound           the swept table, where sweep accepts that table
-- Assumes nothing.
use mathlib.Core.Path.{◌≡◌, refl, sym, ap, ap₂, ◌∙◌}
use mathlib.Core.Bool.{Bool, true, false, cond, ◌&&◌, ◌||◌, and-false, true≢false}
use mathlib.Core.List.{List, [], ◌∷◌}
use Prim.Native.Nat.{ℕ, zero, suc, ◌≤◌}
use native.Mathlib.Omega.{arith}
use lib.Dec.{eqb, ltb}
use lib.ListN.{length, take, replicate, length-replicate}
use borrow.Author.Tests.{eq-eqb}
use Rattle.rules.specs.Limits.{max_dimension, swept_vertices}
use Rattle.rules.specs.Shapes.{shape_ok}
use Rattle.rules.specs.Calls.{Rule, first_refusal, Outcome, accepted, refused, outcome, decide}
use Rattle.rules.proofs.Accepting.{accepted_by}
use Rattle.solids.specs.Accept.{solid_of, solid_rules}
use Rattle.records.specs.Layout.{table_length, table_words}
use Rattle.solids.specs.Table.{sound, table_of, table_of_list}
use Rattle.wing.specs.Wing.{WingInput, wing_input, wing_outcome, wing_buffer, wing_rules}
use Rattle.solids.proofs.Accepted.{accepted-solid, solid-length}
use Rattle.solids.proofs.OwnTable.{table-sound}
use Rattle.prism.specs.Swept.{swept_cells}
use Rattle.sweep.specs.Sweep.{SweepInput, sweep_outcome, sweep_buffer, sweep_rules, swept_length, swept_words, sweep_input}
use Rattle.motion.specs.Move.{MoveInput, move_outcome, move_rules, moved_length}
use Rattle.read.specs.declared.Header.{Header}
use Rattle.file.specs.Tests.{file_words}
use Rattle.read.specs.Read.{ReadInput, header_of, read_outcome, read_rules}
use Rattle.list.specs.List.{ListInput, list_text, list_outcome, list_rules}
use Rattle.page.specs.Key.{input_limit, word_room, then_call, read_in, wing_in, sweep_in, move_in, list_in, calls_on, key_outcome}
use Rattle.wing.proofs.Acceptance.{winged_is}
use Rattle.wing.proofs.Lengths.{winged_front}
use Rattle.page.proofs.Staged.{swept_front}
use Rattle.third_term.specs.ThirdTerm.{Sitting, Unrefused, to_wing, to_sweep, table_written, swept_written}
use Rattle.third_term.proofs.Run.{swept-sound}
use Rattle.theorems.specs.NeverUnsound.{NeverUnsound}

refused_by : {A : Type 0} (k n : ℕ) (a : A) → outcome k a ≡ refused n → k ≡ n
refused_by zero n a e = let z : ◌≡◌ {A = ℕ} 0 1 = cc in absurd (omega arith)
refused_by (suc k) n a e = cc

module _ {I : Type 0} where
  abbrev blames : ℕ → List (Rule I) → I → Bool
  blames n [] x = false
  blames n (r ∷ rs) x = (eqb r.number n && r.applies x) || blames n rs x

  first_blamed : (rs : List (Rule I)) (x : I) (n : ℕ) → 1 ≤ n → first_refusal rs x ≡ n → blames n rs x ≡ true
  first_blamed [] x n h e = absurd (omega arith)
  first_blamed (r ∷ rs) x n h e = go (r.applies x) e (first_blamed rs x n h)
    where
      go : (t : Bool) → cond t r.number (first_refusal rs x) ≡ n → (first_refusal rs x ≡ n → blames n rs x ≡ true) →
          ((eqb r.number n && t) || blames n rs x) ≡ true
      go true e later = rw (eq-eqb r.number n e) refl
      go false e later = rw (and-false (eqb r.number n)) (later e)

  blamed : {A : Type 0} (rs : List (Rule I)) (answer : I → A) (x : I) (n : ℕ) → 1 ≤ n → decide rs answer x ≡ refused n →
      blames n rs x ≡ true
  blamed rs answer x n h e = first_blamed rs x n h (refused_by (first_refusal rs x) n (answer x) e)

-- a refusal of two calls is that of the first, or the first accepts and it is that of the second
never_then : {A B : Type 0} (o : Outcome A) (next : A → Outcome B) (n : ℕ) →
    (o ≡ refused n → ⊥) → ((a : A) → o ≡ accepted a → next a ≡ refused n → ⊥) →
    then_call o next ≡ refused n → ⊥
never_then (accepted a) next n here later e = later a refl e
never_then {A} (refused m) next n here later e = let same : m ≡ n = cc in here (ap {B = Outcome A} refused same)

-- calls that have no row 14
read_never : (i : ReadInput) → read_outcome i ≡ refused 14 → ⊥
unfolding read_outcome read_rules
read_never i e = true≢false (sym (blamed read_rules (λ i. header_of i.bytes) i 14 (omega arith) e))

wing_never : (i : WingInput) → wing_outcome i ≡ refused 14 → ⊥
unfolding wing_outcome wing_rules solid_rules
wing_never i e = true≢false (sym (blamed wing_rules (λ i. table_length i.list.d i.list.s) i 14 (omega arith) e))

move_never : (i : MoveInput) → move_outcome i ≡ refused 14 → ⊥
unfolding move_outcome move_rules
move_never i e = true≢false (sym (blamed move_rules moved_length i 14 (omega arith) e))

-- the two that have it, told a sound table
sweep_never : (i : SweepInput) → sound i.d i.v i.s i.table ≡ true → sweep_outcome i ≡ refused 14 → ⊥
unfolding sweep_outcome sweep_rules
sweep_never i whole e = true≢false (sym (rw whole at (blamed sweep_rules swept_length i 14 (omega arith) e)))

list_never : (i : ListInput) → sound i.d i.v i.s i.table ≡ true → list_outcome i ≡ refused 14 → ⊥
unfolding list_outcome list_rules
list_never i whole e = true≢false (sym (rw whole at (blamed list_rules (λ i. length (list_text i)) i 14 (omega arith) e)))

wing_sound : (i : WingInput) (n : ℕ) → wing_outcome i ≡ accepted n →
    sound i.list.d i.list.v i.list.s (table_of_list i.list) ≡ true
unfolding table_of_list
wing_sound i n e =
    let l = i.list in
    let facts = winged_is i n e in
    let solid = accepted-solid l facts.size facts.cells in
    let count = solid-length l in
    ap (λ k. sound l.d l.v k (table_words (table_of (solid_of l)))) (sym count)
    ∙ table-sound l.d l.v (solid_of l) solid.0 solid.1 (ap (shape_ok max_dimension l.d l.v) count ∙ facts.shape)

sweep_count : (i : SweepInput) (n : ℕ) → sweep_outcome i ≡ accepted n → n ≡ swept_length i
unfolding sweep_outcome sweep_rules
sweep_count i n e = (accepted_by sweep_rules swept_length i n refl e).0

-- the calls as a sitting, with a buffer of the program's room
module _ (d v s h : ℕ) (ws buf : List ℕ) (room : length buf ≡ word_room) (n k : ℕ)
    (winged : wing_outcome (wing_input d v s ws word_room word_room) ≡ accepted n)
    (swept : sweep_outcome (sweep_input d v s h (table_of_list (wing_input d v s ws word_room word_room).list) word_room) ≡ accepted k) where
  abbrev table : List ℕ
  table = table_of_list (wing_input d v s ws word_room word_room).list

  abbrev sitting : Sitting
  sitting = record { s = s; cells = ws; table_buffer = buf; uploaded_buffer = buf; swept_buffer = buf }

  first : wing_outcome (to_wing d v h sitting) ≡ accepted n
  first = ap (λ r. wing_outcome (wing_input d v s ws r r)) room ∙ winged

  table_is : table_written d v h sitting ≡ table
  table_is =
      ap (λ m. take m (wing_buffer (to_wing d v h sitting) buf)) (sym (winged_is (to_wing d v h sitting) n first).count)
      ∙ (winged_front (to_wing d v h sitting) buf (wing_buffer (to_wing d v h sitting) buf) n refl first).1

  second : sweep_outcome (to_sweep d v h sitting) ≡ accepted k
  second = ap₂ (λ t r. sweep_outcome (sweep_input d v s h t r)) table_is room ∙ swept

  unrefused : Unrefused d v h sitting
  unrefused = record {
    winged = first ∙ ap accepted (winged_is (to_wing d v h sitting) n first).count;
    swept = second ∙ ap accepted (sweep_count (to_sweep d v h sitting) k second);
  }

  swept_is : swept_written d v h sitting ≡ swept_words (sweep_input d v s h table word_room)
  swept_is =
      ap (λ m. take m (sweep_buffer (to_sweep d v h sitting) buf)) (sym (sweep_count (to_sweep d v h sitting) k second))
      ∙ (swept_front d v s h (table_written d v h sitting) (length buf) k second buf (sweep_buffer (to_sweep d v h sitting) buf) refl).1
      ∙ ap₂ {C = List ℕ} (λ t r. swept_words (sweep_input d v s h t r)) table_is room

  sweep_sound : sound (suc d) (swept_vertices v h) (swept_cells d s h) (swept_words (sweep_input d v s h table word_room)) ≡ true
  sweep_sound = ap (sound (suc d) (swept_vertices v h) (swept_cells d s h)) (sym swept_is) ∙ swept-sound d v h sitting unrefused

calls_never : (b : List ℕ) (x : Header) → calls_on b x ≡ refused 14 → ⊥
calls_never b x =
    never_then (wing_outcome (wing_in b x)) _ 14 (wing_never (wing_in b x)) (λ n winged.
    never_then (sweep_outcome (sweep_in b x)) _ 14 (sweep_never (sweep_in b x) (wing_sound (wing_in b x) n winged)) (λ k swept.
    never_then (move_outcome (move_in b x)) _ 14 (move_never (move_in b x)) (λ m moved.
    never_then (list_outcome (list_in b x)) _ 14
    (list_never (list_in b x)
    (sweep_sound x.d x.v x.s x.h (file_words b) (replicate word_room 0) (length-replicate {A = ℕ} word_room 0) n k winged swept))
    (λ j listed e. let z : ◌≡◌ {A = ℕ} 0 1 = cc in omega arith))))

pub never_unsound : NeverUnsound
unfolding key_outcome
never_unsound b e = go (ltb input_limit (length b)) e
  where
    go : (t : Bool) → cond t (refused 3) (then_call (read_outcome (read_in b)) (calls_on b)) ≡ refused 14 → ⊥
    go true e = let z : ◌≡◌ {A = ℕ} 3 14 = cc in omega arith
    go false e = never_then (read_outcome (read_in b)) (calls_on b) 14 (read_never (read_in b)) (λ x ok. calls_never b x) e

-- The call sweep: each return is a rule's, and only an accepted call writes. Assumes nothing.
use mathlib.Core.Path.{◌≡◌, refl, sym, ap, ◌∙◌}
use mathlib.Core.Bool.{false, not, ◌&&◌, ◌||◌}
use mathlib.Core.List.{List, ◌++◌}
use Prim.Native.Nat.{ℕ}
use native.Mathlib.Omega.{arith}
use lib.Dec.{eqb, ltb}
use lib.ListN.{length, drop}
use borrow.Author.Tests.{not-false}
use Rattle.words.proofs.Placed.{placed_first}
use Rattle.rules.specs.Limits.{max_source, max_vertices, max_cells, steps_ok, swept_vertices}
use Rattle.rules.specs.Shapes.{shape_ok}
use Rattle.rules.proofs.Tests.{differs, agrees, is_less, not_less}
use Rattle.rules.proofs.InLimits.{SweepLimits, sweep_limits_are}
use Rattle.records.specs.Layout.{table_length}
use Rattle.solids.specs.Table.{sound}
use Rattle.prism.specs.Swept.{swept_cells}
use Rattle.sweeping.specs.Inner.SweptWords.{all_words, Ready}
use Rattle.sweeping.proofs.SoundTable.{sound_ready}
use Rattle.sweep.specs.Sweep.{sweep_input, swept_length, sweep_rules}
use Rattle.sweep.proofs.Order.{refuses, accepts, small}
use Rattle.sweep.proofs.CallWords.{call_words, call_long}
use Rattle.sweep.proofs.sweep.Goals as goal
use Rattle.sweep.proofs.sweep.Goals.{After-in_limits, After-is_sound, After-too_large, Else-out-swept_words, Else-table-table_words}
use Rattle.sweep.proofs.sweep.Goals.{Else-not-in_limits, Else-not-is_sound, Else-too_large}

-- the rows are what the code tests
two : (c : After-in_limits) → let a = c.args in
    not (shape_ok max_source a.d a.v a.s && steps_ok a.h) ≡ not c.in_limits.result
two c = ap not (sym c.in_limits.ensures)

twelve : (c : After-too_large) → let a = c.args in
    (ltb max_vertices (swept_vertices a.v a.h) || ltb max_cells (swept_cells a.d a.s a.h)) ≡ c.too_large.result
twelve c = sym c.too_large.ensures

fourteen : (c : After-is_sound) → let a = c.args in
    not (sound a.d a.v a.s a.table.now) ≡ not c.is_sound.result
fourteen c = ap not (sym c.is_sound.ensures)

-- and where they pass
two-passes : (c : Else-not-in_limits) → let a = c.args in not (shape_ok max_source a.d a.v a.s && steps_ok a.h) ≡ false
two-passes c = two (goal.at.Else-not-in_limits c).After-in_limits ∙ ap not c.if-not-in_limits.false

three-passes : (c : Else-table-table_words) → let a = c.args in not (eqb (length a.table.now) (table_length a.d a.s)) ≡ false
three-passes c = agrees _ _ (c.if-table-table_words.false ∙ c.table_words.ensures)

twelve-passes : (c : Else-too_large) → let a = c.args in
    (ltb max_vertices (swept_vertices a.v a.h) || ltb max_cells (swept_cells a.d a.s a.h)) ≡ false
twelve-passes c = twelve (goal.at.Else-too_large c).After-too_large ∙ c.if-too_large.false

fourteen-passes : (c : Else-not-is_sound) → let a = c.args in not (sound a.d a.v a.s a.table.now) ≡ false
fourteen-passes c = fourteen (goal.at.Else-not-is_sound c).After-is_sound ∙ ap not c.if-not-is_sound.false

fifteen-passes : (c : Else-out-swept_words) → let a = c.args in
    ltb (length a.out.now) (swept_length (sweep_input a.d a.v a.s a.h a.table.now 0)) ≡ false
fifteen-passes c = ap (ltb (length c.args.out.now)) (sym c.swept_words.ensures) ∙ not_less _ _ c.if-out-swept_words.false

limits : (c : Else-not-in_limits) → let a = c.args in SweepLimits a.d a.v a.s a.h
limits c = sweep_limits_are _ _ _ _ (two-passes c)

ready : (c : Else-not-is_sound) → let a = c.args in Ready a.d a.v a.s a.h a.table.now
ready c =
    let l = limits (goal.at.Else-not-is_sound c).Else-not-in_limits in
    let a = c.args in
    let few = small a.d a.v a.s a.h (twelve-passes (goal.at.Else-not-is_sound c).Else-too_large) in
    sound_ready _ _ _ _ _ l.dimension few.0 few.1 (not-false _ (fourteen-passes c))

pub returns-then-not-in_limits : goal.returns-then-not-in_limits
unfolding sweep_rules
returns-then-not-in_limits c =
    let a = c.args in
    let r = refuses (sweep_input a.d a.v a.s a.h a.table.now (length a.out.now)) a.out.now 2
    (rw (two (goal.at.returns-then-not-in_limits c).After-in_limits ∙ ap not c.if-not-in_limits.true) refl) in
    record {
      answer = r.0;
      buffer = r.1;
    }

pub table_words-requires : goal.table_words-requires
table_words-requires c = let l = limits c in (omega arith, l.cells)

pub returns-then-table-table_words : goal.returns-then-table-table_words
unfolding sweep_rules
returns-then-table-table_words c =
    let a = c.args in
    let r = refuses (sweep_input a.d a.v a.s a.h a.table.now (length a.out.now)) a.out.now 3
    (rw (
      two-passes (goal.at.returns-then-table-table_words c).Else-not-in_limits,
      differs _ _ (λ e. c.if-table-table_words.true (e ∙ sym c.table_words.ensures)),
    ) refl) in
    record {
      answer = r.0;
      buffer = r.1;
    }

pub too_large-requires : goal.too_large-requires
too_large-requires c = two-passes (goal.at.too_large-requires c).Else-not-in_limits

pub returns-then-too_large : goal.returns-then-too_large
unfolding sweep_rules
returns-then-too_large c =
    let a = c.args in
    let r = refuses (sweep_input a.d a.v a.s a.h a.table.now (length a.out.now)) a.out.now 12
    (rw (
      two-passes (goal.at.returns-then-too_large c).Else-not-in_limits,
      three-passes (goal.at.returns-then-too_large c).Else-table-table_words,
      twelve (goal.at.returns-then-too_large c).After-too_large ∙ c.if-too_large.true,
    ) refl) in
    record {
      answer = r.0;
      buffer = r.1;
    }

pub returns-then-not-is_sound : goal.returns-then-not-is_sound
unfolding sweep_rules
returns-then-not-is_sound c =
    let a = c.args in
    let r = refuses (sweep_input a.d a.v a.s a.h a.table.now (length a.out.now)) a.out.now 14
    (rw (
      two-passes (goal.at.returns-then-not-is_sound c).Else-not-in_limits,
      three-passes (goal.at.returns-then-not-is_sound c).Else-table-table_words,
      twelve-passes (goal.at.returns-then-not-is_sound c).Else-too_large,
      fourteen (goal.at.returns-then-not-is_sound c).After-is_sound
          ∙ ap not c.if-not-is_sound.true,
    ) refl) in
    record {
      answer = r.0;
      buffer = r.1;
    }

pub swept_words-requires : goal.swept_words-requires
swept_words-requires c = let l = limits (goal.at.swept_words-requires c).Else-not-in_limits in (l.dimension, l.cells, l.steps, (ready c).cells)

pub returns-then-out-swept_words : goal.returns-then-out-swept_words
unfolding sweep_rules
returns-then-out-swept_words c =
    let a = c.args in
    let r = refuses (sweep_input a.d a.v a.s a.h a.table.now (length a.out.now)) a.out.now 15 (rw (
      two-passes (goal.at.returns-then-out-swept_words c).Else-not-in_limits,
      three-passes (goal.at.returns-then-out-swept_words c).Else-table-table_words,
      twelve-passes (goal.at.returns-then-out-swept_words c).Else-too_large,
      fourteen-passes (goal.at.returns-then-out-swept_words c).Else-not-is_sound,
      ap (ltb (length a.out.now)) (sym c.swept_words.ensures) ∙ is_less _ _ c.if-out-swept_words.true,
    ) refl) in
    record {
      answer = r.0;
      buffer = r.1;
    }

pub write_swept-requires : goal.write_swept-requires
write_swept-requires c =
    let a = c.args in
    record {
      ready = ready (goal.at.write_swept-requires c).Else-not-is_sound;
      room = omega (
        arith,
        c.if-out-swept_words.false,
        c.swept_words.ensures,
        call_long a.d a.v a.s a.h a.table.now (ready (goal.at.write_swept-requires c).Else-not-is_sound).long 0,
      );
    }

pub returns : goal.returns
unfolding sweep_rules
returns c =
    let a = c.args in
    let words = call_words a.d a.v a.s a.h a.table.now (length a.out.now) in
    let r = accepts (sweep_input a.d a.v a.s a.h a.table.now (length a.out.now)) a.out.now c.write_swept.result c.write_swept.new.out (rw (
      two-passes (goal.at.returns c).Else-not-in_limits,
      three-passes (goal.at.returns c).Else-table-table_words,
      twelve-passes (goal.at.returns c).Else-too_large,
      fourteen-passes (goal.at.returns c).Else-not-is_sound,
      fifteen-passes (goal.at.returns c).Else-out-swept_words,
    ) refl) (c.write_swept.ensures.place ∙ call_long a.d a.v a.s a.h a.table.now (ready (goal.at.returns c).Else-not-is_sound).long 0)
    (c.write_swept.ensures.words ∙ placed_first (all_words a.d a.v a.s a.h a.table.now) a.out.now
    ∙ ap (λ (l : List ℕ). l ++ drop (length l) a.out.now) (sym words)) in
    record {
      answer = r.0;
      buffer = r.1;
    }

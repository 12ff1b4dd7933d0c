-- The call wing on bytes: each return is the outcome of its row, and the call is lent the decoded words. Assumes nothing.
use mathlib.Core.Path.{◌≡◌, refl, sym, ap, ◌∙◌}
use mathlib.Core.Bool.{true, not}
use mathlib.Core.List.{List}
use Prim.Native.Nat.{ℕ, ◌*◌, ◌≤◌}
use native.Mathlib.Omega.{arith}
use lib.ListN.{length, take}
use lib.Seq.{length-take-le}
use Rattle.words.specs.Bytes.{words16, bytes_of}
use Rattle.rules.specs.Limits.{max_dimension, max_cells}
use Rattle.rules.specs.Shapes.{shape_ok}
use Rattle.rules.specs.Calls.{after}
use Rattle.rules.specs.Numbers.{outcome_of}
use Rattle.records.specs.Layout.{list_length}
use Rattle.solids.specs.Accept.{Listed}
use Rattle.solids.specs.Table.{table_of_list}
use Rattle.solids.specs.Uploaded.{uploaded_of_list}
use Rattle.wing.specs.Wing.{wing_input, wing_outcome}
use Rattle.rules.proofs.InLimits.{Limits, limits_are}
use Rattle.winged.specs.Host.{words_in}
use Rattle.direct.proofs.WordBytes.{decoded_front}
use Rattle.direct.proofs.Room.{list_fits}
use Rattle.winged.proofs.Inward.{wing_outside, wing_wrong, wing_right}
use Rattle.winged.proofs.reading.wing_words.Goals as goal
use Rattle.winged.proofs.reading.wing_words.Goals.{After-decode, After-list_words-n, Else-not-within}

inside : (c : Else-not-within) → let a = c.args in shape_ok max_dimension a.d a.v a.s ≡ true
inside c = sym c.within.ensures ∙ c.if-not-within.false

limits : (c : Else-not-within) → let a = c.args in Limits max_dimension a.d a.v a.s
limits c = limits_are _ _ _ _ (ap not (inside c))

-- the words that the cells should have
twice : (c : After-list_words-n) → let a = c.args in c.list_words-n.result * 2 ≡ list_length a.d a.s * 2
twice c = ap (λ n. n * 2) c.list_words-n.ensures

few : (c : After-list_words-n) → c.list_words-n.result ≤ list_length max_dimension max_cells
few c =
    let l = limits (goal.at.After-list_words-n c).Else-not-within in
    let a = c.args in
    omega (arith, c.list_words-n.ensures, list_fits a.d a.s l.dimension l.cells)

-- the decoded words
front : (c : After-decode) → (c.list_words-n.result ≤ length c.decode.new.out)
    × (take c.list_words-n.result c.decode.new.out ≡ words16 c.args.cells.now)
front c =
    decoded_front c.args.cells.now c.decode.new.out _ _ c.decode.ensures c.if-cells-n.false

pub returns-then-not-within : goal.returns-then-not-within
returns-then-not-within c =
    let a = c.args in
    record {
      answer = wing_outside a.d a.v a.s a.cells.now _ _ (sym c.within.ensures ∙ c.if-not-within.true);
      buffer = refl;
      uploaded = refl;
    }

pub list_words-n-requires : goal.list_words-n-requires
list_words-n-requires c = let l = limits c in (l.dimension, l.cells)

pub overflow_mul-n : goal.overflow_mul-n
overflow_mul-n c = omega (arith, few c)

pub returns-then-cells-n : goal.returns-then-cells-n
returns-then-cells-n c =
    let a = c.args in
    let shape = inside (goal.at.returns-then-cells-n c).Else-not-within in
    let words = twice (goal.at.returns-then-cells-n c).After-list_words-n in
    record {
      answer = wing_wrong a.d a.v a.s a.cells.now _ _ shape (λ e. c.if-cells-n.true (e ∙ sym words));
      buffer = refl;
      uploaded = refl;
    }

pub decode-requires : goal.decode-requires
decode-requires c = omega (arith, few (goal.at.decode-requires c).After-list_words-n, c.if-cells-n.false)

pub slice_bounds-list-end : goal.slice_bounds-list-end
slice_bounds-list-end c = (front (goal.at.slice_bounds-list-end c).After-decode).0

pub slice_bounds-wing_list-end : goal.slice_bounds-wing_list-end
slice_bounds-wing_list-end c = sym (length-take-le _ _ (front (goal.at.slice_bounds-wing_list-end c).After-decode).0)

pub returns : goal.returns
returns c =
    let a = c.args in
    let words = (front (goal.at.returns c).After-decode).1 in
    let x = length a.out.now in
    let y = words_in a.uploaded.now in
    let list : List ℕ → Listed = λ ws. record { d = a.d; v = a.v; s = a.s; words = ws } in
    let o = outcome_of c.wing_list.result in record {
      answer = c.wing_list.ensures.answer ∙ ap (λ ws. wing_outcome (wing_input a.d a.v a.s ws x y)) words
          ∙ wing_right a.d a.v a.s a.cells.now x y (c.if-cells-n.false ∙ twice (goal.at.returns c).After-list_words-n);
      buffer = c.wing_list.ensures.buffer ∙ ap (λ ws. after o (table_of_list (list ws)) a.out.now) words;
      uploaded = c.wing_list.ensures.uploaded ∙ ap (λ ws. after o (bytes_of (uploaded_of_list (list ws))) a.uploaded.now) words;
    }

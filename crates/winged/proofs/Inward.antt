-- Wing and sweep on bytes.
--   wing_outside, wing_wrong, wing_right      the outcome, as the code finds it
--   wing_after, uploaded_after    the buffers, as its outcome says
--   wing_host             the answer and the lent bytes, as the host's definitions say: room beyond the largest table changes nothing
--   wing_long             the count is that of the answer's words
--   sweep-..              the same of sweep
--   sweep_refused         a refusal, as the host's definitions say
--   point-words, solid-words    words of a table, by those of its sweep
--   room_arrays           the arrays of a room for a sweep
-- Assumes nothing.
use mathlib.Core.Path.{◌≡◌, refl, sym, ap, ◌∙◌}
use mathlib.Core.Bool.{Bool, true, false, not, ◌&&◌, ◌||◌}
use mathlib.Core.List.{List, []}
use Prim.Native.Nat.{ℕ, suc, ◌+◌, ◌*◌, ◌≤◌, ◌<◌}
use native.Mathlib.Nat.{mul-add, mul-le-mul, mul-le-mul_right, mul-suc, one-mul}
use native.Mathlib.Omega.{arith}
use lib.Dec.{leb, ltb}
use lib.ListN.{length, replicate, length-replicate}
use borrow.Author.Tests.{eq-eqb, leb-true, le-leb, le-ltb, lt-ltb, ltb-false, ne_eqb}
use Rattle.words.specs.Bytes.{words16, bytes_of}
use Rattle.words.specs.Inner.Placed.{placed}
use Rattle.words.proofs.Placed.{placed_first}
use Rattle.words.proofs.Bytes.{words_count}
use Rattle.rules.specs.Limits.{max_cells, max_dimension, max_source, max_steps, max_vertices, steps_ok, swept_vertices}
use Rattle.rules.specs.Shapes.{shape_ok}
use Rattle.rules.specs.Calls.{Outcome, accepted, refused, after, written}
use Rattle.rules.proofs.Tests.{and_parts}
use Rattle.solids.specs.Accept.{Listed, solid_rules}
use Rattle.records.specs.Layout.{list_length, record_size, table_length}
use Rattle.solids.specs.Table.{table_of_list}
use Rattle.solids.specs.Uploaded.{uploaded_of_list}
use Rattle.wing.specs.Wing.{WingInput, wing_input, wing_outcome, wing_buffer, wing_rules}
use Rattle.rules.proofs.InLimits.{limits_are}
use Rattle.wing.specs.Inner.Uploaded.{uploaded_rows}
use Rattle.wing.proofs.Order as wing
use Rattle.wing.proofs.Acceptance.{winged_is}
use Rattle.wing.proofs.UploadedRows.{rows_are}
use Rattle.prism.specs.Swept.{swept_cells}
use Rattle.sweep.specs.Sweep.{SweepInput, sweep_outcome, sweep_buffer, sweep_rules, swept_words, sweep_input}
use Rattle.sweep.proofs.Order as sweep
use Rattle.direct.proofs.Room.{table_fits}
use Rattle.winged.specs.Host.{host_answer, words_in, host_list, host_wing, host_wing_outcome, host_wing_buffer, host_uploaded_buffer}
use Rattle.winged.specs.Host.{host_sweep_input, host_sweep, host_sweep_outcome, host_sweep_buffer}
use Rattle.winged.specs.Inner.Sent.{lesser, small_table, table_room, wing_read, sweep_read, SweepRoom}
use Rattle.winged.proofs.Hosting.{hosted-accepted, hosted-right, hosted_wrong}
use Rattle.wing.proofs.Lengths.{accepted-long}
use Rattle.sweep.proofs.CallWords.{swept-long}
use Rattle.winged.proofs.Outward.{room_cut}

pub wing_after : (o : Outcome ℕ) (i : WingInput) (out : List ℕ) → o ≡ wing_outcome i →
    wing_buffer i out ≡ after o (table_of_list i.list) out
unfolding wing_buffer
wing_after o i out e = ap (λ q. after q (table_of_list i.list) out) (sym e)

-- the further bytes, written from the list's table
pub uploaded_after : (i : WingInput) (k : ℕ) (table out : List ℕ) → wing_outcome i ≡ accepted k → table ≡ table_of_list i.list →
    (new : List ℕ) →
    new ≡ placed 0 (bytes_of (uploaded_rows i.list.d i.list.s i.list.words table)) out →
    new ≡ written (bytes_of (uploaded_of_list i.list)) out
uploaded_after i k table out e t new w =
    let l = i.list in
    w ∙ ap (λ (xs : List ℕ). placed 0 (bytes_of xs) out) (ap (uploaded_rows l.d l.s l.words) t ∙ rows_are l (winged_is i k e).size)
    ∙ placed_first (bytes_of (uploaded_of_list l)) out

pub sweep_after : (o : Outcome ℕ) (i : SweepInput) (out : List ℕ) → o ≡ sweep_outcome i → sweep_buffer i out ≡ after o (swept_words i) out
unfolding sweep_buffer
sweep_after o i out e = ap (λ q. after q (swept_words i) out) (sym e)

module _ (d v s : ℕ) (cells : List ℕ) (x y : ℕ) where
  abbrev wing_told : WingInput
  wing_told = wing_input d v s (words16 cells) x y

  pub wing_outside : shape_ok max_dimension d v s ≡ false → refused 2 ≡ wing_read d v s cells x y
  unfolding wing_read wing_rules
  wing_outside e = rw e (wing.refuses wing_told [] 2 (rw e)).0

  pub wing_wrong : shape_ok max_dimension d v s ≡ true → (length cells ≡ list_length d s * 2 → ⊥) → refused 3 ≡ wing_read d v s cells x y
  unfolding wing_read wing_rules
  wing_wrong ok n =
      sym (hosted_wrong (shape_ok max_dimension d v s) cells (list_length d s) (wing_outcome wing_told) ok n
      (λ w. sym (wing.refuses wing_told [] 3 (rw (ok, ne_eqb (length (words16 cells)) (list_length d s) w))).0))

  pub wing_right : length cells ≡ list_length d s * 2 → wing_outcome wing_told ≡ wing_read d v s cells x y
  unfolding wing_read
  wing_right e = sym (hosted-right (shape_ok max_dimension d v s) cells (list_length d s) (wing_outcome wing_told) e)

-- an array that is long enough for the table of so many cells, if there is such a table
pub small_fits : (d s most : ℕ) → small_table d s most ≡ true → d ≤ max_dimension → s ≤ max_cells → table_length d s ≤ most
small_fits d s most e hd hs =
    let low : (ltb max_cells s || leb (table_length d s) most) ≡ true =
    rw (le-ltb max_dimension d hd) at e in
    leb-true (table_length d s) most (rw (le-ltb max_cells s hs) at low)

pub all_small : (d s : ℕ) → small_table d s table_room ≡ true
all_small d s = go (ltb max_dimension d) (ltb max_cells s) refl refl
  where
    go : (x y : Bool) → ltb max_dimension d ≡ x → ltb max_cells s ≡ y → (x || (y || leb (table_length d s) table_room)) ≡ true
    go true y e f = refl
    go false true e f = refl
    go false false e f =
        le-leb (table_length d s) table_room (table_fits d s (ltb-false max_dimension d e) (ltb-false max_cells s f))

module _ (d v s most : ℕ) (small : small_table d s most ≡ true) where
  wing_same : (ws : List ℕ) (x y : ℕ) → wing_outcome (wing_input d v s ws (lesser x most) y) ≡ wing_outcome (wing_input d v s ws x y)
  unfolding wing_outcome wing_rules solid_rules
  wing_same ws x y = go (shape_ok max_dimension d v s) refl
    where
      go : (t : Bool) → shape_ok max_dimension d v s ≡ t →
          wing_outcome (wing_input d v s ws (lesser x most) y) ≡ wing_outcome (wing_input d v s ws x y)
      go true e = let l = limits_are max_dimension d v s (ap not e) in
          rw (room_cut x most (table_length d s) (small_fits d s most small l.dimension l.cells)) refl
      go false e = rw e refl

  wing_room : (cells : List ℕ) (x y : ℕ) → wing_read d v s cells (lesser x most) y ≡ wing_read d v s cells x y
  unfolding wing_read
  wing_room cells x y = rw (wing_same (words16 cells) x y) refl

-- with so many words of room as are lent
module _ (d v s : ℕ) (cells out further : List ℕ) where
  abbrev host_told : Listed
  host_told = host_list d v s cells

  pub wing_host : (x most : ℕ) (o : Outcome ℕ) → small_table d s most ≡ true → x ≡ lesser (words_in out) most →
      o ≡ wing_read d v s cells x (words_in further) →
      (host_answer o ≡ host_wing d v s cells out further)
      × (after o (bytes_of (table_of_list host_told)) out ≡ host_wing_buffer d v s cells out further)
      × (after o (bytes_of (uploaded_of_list host_told)) further ≡ host_uploaded_buffer d v s cells out further)
  unfolding wing_read host_wing host_wing_outcome host_wing_buffer host_uploaded_buffer
  wing_host x most o small room e =
      let q = e ∙ ap (λ r. wing_read d v s cells r (words_in further)) room ∙ wing_room d v s most small cells (words_in out) (words_in further) in (
        ap host_answer q,
        ap (λ r. after r (bytes_of (table_of_list host_told)) out) q,
        ap (λ r. after r (bytes_of (uploaded_of_list host_told)) further) q,
      )

pub wing_long : (d v s : ℕ) (cells : List ℕ) (x y k : ℕ) → wing_read d v s cells x y ≡ accepted k →
    k ≡ length (table_of_list (host_list d v s cells))
unfolding wing_read
wing_long d v s cells x y k e =
    accepted-long (wing_input d v s (words16 cells) x y) k
    (hosted-accepted (shape_ok max_dimension d v s) cells (wing_outcome (wing_input d v s (words16 cells) x y)) k e)

or_right : (a : Bool) {b : Bool} → b ≡ true → (a || b) ≡ true
or_right true e = refl
or_right false e = e

pub steps-some : (d v s h : ℕ) → (shape_ok max_source d v s && steps_ok h) ≡ true → 1 ≤ h
steps-some d v s h ok = leb-true 1 h (and_parts (leb 1 h) (leb h max_steps) (and_parts (shape_ok max_source d v s) (steps_ok h) ok).1).0

-- a table has at most 4 words for each cell of its sweep, of one dimension or more at most 3, and that has at least 8
pub point-words : (d s h : ℕ) → 1 ≤ h → table_length d s ≤ swept_cells d s h * 4
point-words d s h steps =
    omega
    (arith, mul-suc s d, mul-add s (d + d) 3, mul-add s d d, one-mul (s * suc d), mul-le-mul_right {m = 1} {n = h} (s * suc d) steps)

pub solid-words : (d s h : ℕ) → 1 ≤ h → 1 ≤ d → table_length d s * 8 ≤ table_length (suc d) (swept_cells d s h) * 3
solid-words d s h steps some =
    let n = swept_cells d s h in
    let more : n * 8 ≤ table_length (suc d) n =
    mul-le-mul {n₁ = n} {m₁ = 8} {n₂ = n} {m₂ = record_size (suc d)} (omega arith) (omega arith) in
    let least : s * 1 ≤ s * d = mul-le-mul {n₁ = s} {m₁ = 1} {n₂ = s} {m₂ = d} (omega arith) some in
    omega
    (arith, more, least, mul-suc s d, mul-add s (d + d) 3, mul-add s d d, one-mul (s * suc d), mul-le-mul_right {m = 1} {n = h} (s * suc d) steps)

-- the arrays of a room, as the code makes them
pub room_arrays : {d s h : ℕ} {table : List ℕ} {k m : ℕ} → SweepRoom d s h table k m →
    SweepRoom d s h table (length (replicate {A = ℕ} k 0)) (length (replicate {A = ℕ} m 0))
room_arrays {k = k} {m = m} r = rw (length-replicate {A = ℕ} k 0, length-replicate {A = ℕ} m 0) r

module _ (d v s h : ℕ) (table : List ℕ) (x : ℕ) where
  pub sweep_outside : (shape_ok max_source d v s && steps_ok h) ≡ false → refused 2 ≡ sweep_read d v s h table x
  unfolding sweep_read sweep_rules
  sweep_outside e = rw e (sweep.refuses (sweep_input d v s h (words16 table) x) [] 2 (rw e)).0

  pub sweep_wrong : (shape_ok max_source d v s && steps_ok h) ≡ true → (length table ≡ table_length d s * 2 → ⊥) →
      refused 3 ≡ sweep_read d v s h table x
  unfolding sweep_read sweep_rules
  sweep_wrong ok n =
      sym (hosted_wrong (shape_ok max_source d v s && steps_ok h) table (table_length d s)
      (sweep_outcome (sweep_input d v s h (words16 table) x)) ok n
      (λ w. sym (sweep.refuses (sweep_input d v s h (words16 table) x) [] 3 (rw (ok, ne_eqb (length (words16 table)) (table_length d s) w))).0))

  pub sweep_right : length table ≡ table_length d s * 2 → sweep_outcome (sweep_input d v s h (words16 table) x) ≡ sweep_read d v s h table x
  unfolding sweep_read
  sweep_right e =
      sym (hosted-right (shape_ok max_source d v s && steps_ok h) table (table_length d s) (sweep_outcome (sweep_input d v s h (words16 table) x)) e)

  pub sweep_large : (shape_ok max_source d v s && steps_ok h) ≡ true → length table ≡ table_length d s * 2 → max_cells < swept_cells d s h →
      refused 12 ≡ sweep_read d v s h table x
  unfolding sweep_rules
  sweep_large ok e n =
      let right = eq-eqb (length (words16 table)) (table_length d s) (omega (arith, words_count table)) in
      let large = or_right (ltb max_vertices (swept_vertices v h)) (lt-ltb max_cells (swept_cells d s h) n) in
      (sweep.refuses (sweep_input d v s h (words16 table) x) [] 12 (rw (ok, right, large))).0 ∙ sweep_right e

sweep_room : (d v s h most : ℕ) → table_length (suc d) (swept_cells d s h) ≤ most → (table : List ℕ) (x : ℕ) →
    sweep_read d v s h table (lesser x most) ≡ sweep_read d v s h table x
unfolding sweep_read sweep_outcome sweep_rules
sweep_room d v s h most fits table x = rw (room_cut x most (table_length (suc d) (swept_cells d s h)) fits) refl

pub sweep_long : (d v s h : ℕ) (table : List ℕ) (x k : ℕ) → sweep_read d v s h table x ≡ accepted k →
    k ≡ length (swept_words (sweep_input d v s h (words16 table) x))
unfolding sweep_read
sweep_long d v s h table x k e =
    swept-long d v s h (words16 table) x k
    (hosted-accepted (shape_ok max_source d v s && steps_ok h) table (sweep_outcome (sweep_input d v s h (words16 table) x)) k e)

pub sweep_host : (d v s h : ℕ) (table out : List ℕ) (x most : ℕ) (o : Outcome ℕ) →
    table_length (suc d) (swept_cells d s h) ≤ most → x ≡ lesser (words_in out) most → o ≡ sweep_read d v s h table x →
    (host_answer o ≡ host_sweep d v s h table out)
    × (after o (bytes_of (swept_words (sweep_input d v s h (words16 table) x))) out ≡ host_sweep_buffer d v s h table out)
unfolding sweep_read host_sweep host_sweep_outcome host_sweep_buffer swept_words
sweep_host d v s h table out x most o small room e =
    let q = e ∙ ap (sweep_read d v s h table) room ∙ sweep_room d v s h most small table (words_in out) in
    (ap host_answer q, ap (λ r. after r (bytes_of (swept_words (host_sweep_input d v s h table out))) out) q)

pub sweep_refused : (d v s h : ℕ) (table out : List ℕ) (k : ℕ) → refused k ≡ sweep_read d v s h table (words_in out) →
    (host_answer (refused k) ≡ host_sweep d v s h table out) × (out ≡ host_sweep_buffer d v s h table out)
unfolding sweep_read host_sweep host_sweep_outcome host_sweep_buffer
sweep_refused d v s h table out k e =
    (ap host_answer e, ap (λ r. after r (bytes_of (swept_words (host_sweep_input d v s h table out))) out) e)

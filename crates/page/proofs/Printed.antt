-- The key of a file's bytes, and the text that is printed.
--   key_long, key_refused, key_read       the outcome: too long, refused by read, or that of the calls after it
--   FileFacts b x         lengths and numbers of a file with the header x
--   file_facts            a file that read accepts has them
--   cells_front, points_front     what read leaves at the front of its buffers
--   printed_key, printed-refused  what is printed, by the outcome
--   put_front             the front of a page that a text was put to
--   text_short, text_fits         key_text's answer and the lent bytes
-- Assumes nothing.
use mathlib.Core.Path.{◌≡◌, refl, sym, ap, ◌∙◌}
use mathlib.Core.Bool.{not, ◌&&◌}
use mathlib.Core.List.{List, ◌++◌}
use Prim.Native.Nat.{ℕ, suc, ◌+◌, ◌*◌, ◌≤◌, ◌<◌}
use native.Mathlib.Omega.{arith}
use lib.Dec.{leb}
use lib.Ieee.{Float}
use lib.ListN.{length, take, drop, length-append}
use lib.Seq.{take_at}
use borrow.Author.Tests.{lt-ltb, le-ltb, not-false}
use Rattle.rules.specs.Limits.{max_source, max_cells, axes_ok, steps_ok, within}
use Rattle.rules.specs.Shapes.{shape_ok}
use Rattle.rules.specs.Calls.{Outcome, accepted, refused, after}
use Rattle.rules.proofs.Accepting.{accepted_by, front_of}
use Rattle.rules.proofs.Tests.{and_parts}
use Rattle.rules.proofs.InLimits.{limits_are}
use Rattle.records.specs.Layout.{list_length}
use Rattle.read.specs.declared.Header.{Header}
use Rattle.file.specs.File.{dimension_of, axes_of, vertex_count_of, cell_count_of, steps_of, kind_of, file_points}
use Rattle.file.specs.Tests.{numbers_ok, file_words}
use Rattle.read.specs.Read.{header_of, read_outcome, read_cells, read_points, read_rules}
use Rattle.read.proofs.Order.{passed_each}
use Rattle.file.proofs.Parts.{points-length}
use Rattle.file.proofs.Stores.{words_count}
use Rattle.words.specs.Inner.Placed.{placed, Put}
use Rattle.page.specs.Key.{input_limit, byte_room, float_room, read_in, key_outcome, spoken, printed, text_outcome, text_buffer}
use Rattle.page.specs.Inner.Stages.{counted, page_after, list_key, moved_key, swept_key, winged_key}

pub record FileFacts (b : List ℕ) (x : Header) : Type 0 where
  pub dimension : x.d ≤ max_source
  pub cells : x.s ≤ max_cells
  pub words : list_length x.d x.s ≡ length (file_words b)
  pub floats : x.v * x.n ≡ length (file_points b)
  pub few_floats : x.v * x.n ≤ float_room

module _ (b : List ℕ) where
  pub key_long : input_limit < length b → key_outcome b ≡ refused 3
  unfolding key_outcome
  key_long h = rw (lt-ltb input_limit (length b) h) refl

  pub key_refused : length b ≤ input_limit → (k : ℕ) → read_outcome (read_in b) ≡ refused k → key_outcome b ≡ refused k
  unfolding key_outcome
  key_refused h k e = rw (le-ltb input_limit (length b) h, e) refl

  module _ (x : Header) (e : read_outcome (read_in b) ≡ accepted x) where
    pub key_read : length b ≤ input_limit →
        key_outcome b ≡ winged_key x.version x.d x.n x.v x.s x.h x.step (file_words b) (file_points b) byte_room
    unfolding key_outcome winged_key swept_key moved_key list_key
    key_read h = rw (le-ltb input_limit (length b) h, e) refl

    pub file_facts : FileFacts b x
    unfolding read_outcome read_rules header_of
    file_facts =
        let by = accepted_by read_rules (λ i. header_of i.bytes) (read_in b) x refl e in
        let d = ap (λ (y : Header). y.d) by.0 in
        let s = ap (λ (y : Header). y.s) by.0 in
        let words = ap (λ (y : Header). list_length y.d y.s) by.0 in
        let floats = ap (λ (y : Header). y.v * y.n) by.0 in
        let numbers = not-false (numbers_ok b) (by.1 2) in
        let shape =
        (and_parts (shape_ok max_source (dimension_of b) (vertex_count_of b) (cell_count_of b))
        ((axes_ok (axes_of b) && leb (suc (dimension_of b)) (axes_of b)) && (steps_ok (steps_of b) && within 1 3 (kind_of b))) numbers).0 in
        let l = limits_are max_source (dimension_of b) (vertex_count_of b) (cell_count_of b) (ap not shape) in
        let fine = passed_each (read_in b) by.1 in
        record {
          dimension = omega (arith, d, l.dimension);
          cells = omega (arith, s, l.cells);
          words = words ∙ sym (words_count b fine.whole);
          floats = floats ∙ sym (points-length b);
          few_floats = omega (arith, floats, fine.points);
        }

    pub cells_front : (out w : List ℕ) → w ≡ read_cells (read_in b) out →
        (list_length x.d x.s ≤ length w) × (take (list_length x.d x.s) w ≡ file_words b)
    unfolding read_cells
    cells_front out w c = front_of (file_words b) out w (list_length x.d x.s) (c ∙ ap (λ o. after o (file_words b) out) e) file_facts.words

    pub points_front : (out w : List Float) → w ≡ read_points (read_in b) out → (x.v * x.n ≤ length w) × (take (x.v * x.n) w ≡ file_points b)
    unfolding read_points
    points_front out w c = front_of (file_points b) out w (x.v * x.n) (c ∙ ap (λ o. after o (file_points b) out) e) file_facts.floats

  pub printed_key : (n : ℕ) (page w : List ℕ) → w ≡ page_after (key_outcome b) page → accepted n ≡ counted (key_outcome b) →
      (n ≡ length (printed b)) × ((n ≤ length w) × (take n w ≡ printed b))
  unfolding printed
  printed_key n page w e c = go (key_outcome b) e c
    where
      go : (o : Outcome (List ℕ)) → w ≡ page_after o page → accepted n ≡ counted o → (n ≡ length (spoken o)) ×
          ((n ≤ length w) × (take n w ≡ spoken o))
      go (accepted text) e c = let long : n ≡ length text = cc in (long, front_of text page w n e long)
      go (refused k) e c = let z : ◌≡◌ {A = ℕ} 0 1 = cc in absurd (omega arith)

  pub printed-refused : (n : ℕ) (page w : List ℕ) → w ≡ page_after (key_outcome b) page →
      refused n ≡ counted (key_outcome b) → (printed b ≡ spoken (refused n)) × (w ≡ page)
  unfolding printed
  printed-refused n page w e c = go (key_outcome b) e c
    where
      go : (o : Outcome (List ℕ)) → w ≡ page_after o page → refused n ≡ counted o → (spoken o ≡ spoken (refused n)) × (w ≡ page)
      go (accepted text) e c = let z : ◌≡◌ {A = ℕ} 0 1 = cc in absurd (omega arith)
      go (refused k) e c = let same : k ≡ n = cc in (ap (λ j. spoken (refused j)) same, e)

  pub text_short : (out : List ℕ) → length out < length (printed b) → (refused 15 ≡ text_outcome b (length out)) × (out ≡ text_buffer b out)
  unfolding text_outcome text_buffer
  text_short out h = rw (lt-ltb (length out) (length (printed b)) h) (refl, refl)

  pub text_fits : (out new : List ℕ) (r : ℕ) → length (printed b) ≤ length out → Put 0 (printed b) out r new →
      (accepted r ≡ text_outcome b (length out)) × (new ≡ text_buffer b out)
  unfolding text_outcome text_buffer placed
  text_fits out new r h p =
      let place : r ≡ length (printed b) = omega (arith, p.place) in
      let skip : 0 + length (printed b) ≡ length (printed b) = omega arith in
      rw (le-ltb (length out) (length (printed b)) h) (ap accepted place, p.content ∙ ap (λ k. printed b ++ drop k out) skip)

pub put_front : (text old new : List ℕ) (r : ℕ) → Put 0 text old r new → (r ≡ length text) × ((r ≤ length new) × (take r new ≡ text))
unfolding placed
put_front text old new r p =
    let rest = drop (0 + length text) old in
    let place : r ≡ length text = omega (arith, p.place) in
    (place, (omega (arith, ap length p.content, length-append text rest), ap (take r) p.content ∙ take_at text rest r (sym place)))

-- The call read on bytes: rows 1 to 8 and 18 by the file alone, then the room.
--   tests b               the first refusal among them, 0 if none
--   Passed                what a file without a refusal is, and passed, that one that is read with room enough is such
--   read-refused          a refusal, and the lent bytes as they were
--   read_short, read_fits     row 15, and an accepted file
--   read-accepts, read_refuses, read_roomy, words_roomy     read, with room enough
--   words-read            the cells' words at the front of their array
--   numbers_put, header_put, points_put, read_done      the parts, as the code writes them
-- Assumes nothing.
use mathlib.Core.Path.{◌≡◌, refl, sym, ap, ap₂, ◌∙◌}
use mathlib.Core.Bool.{Bool, true, false, not, cond, ◌&&◌, ◌||◌}
use mathlib.Core.List.{List, [], ◌∷◌, ◌++◌}
use Prim.Native.Nat.{ℕ, zero, suc, ◌+◌, ◌-◌, ◌*◌, ◌/◌, ◌≤◌}
use native.Mathlib.Nat.{mul-le-mul}
use native.Mathlib.Omega.{arith}
use lib.Dec.{leb, ltb}
use lib.ListN.{length, take, drop, length-append, length-drop}
use lib.Seq.{length-take-le}
use borrow.Author.Tests.{leb-true, le-ltb, ltb-false, not-false}
use Rattle.words.specs.Bytes.{bytes_of}
use Rattle.words.specs.Inner.Placed.{placed}
use Rattle.words.proofs.Bytes.{bytes-length}
use Rattle.words.proofs.Placed.{placed_first, placed_then}
use Rattle.rules.specs.Calls.{Outcome, accepted, refused, outcome, after, written, first_refusal}
use Rattle.rules.specs.Limits.{max_source, max_axes, axes_ok, steps_ok, within}
use Rattle.rules.specs.Shapes.{shape_ok}
use Rattle.rules.proofs.Accepting.{passes, front_of}
use Rattle.rules.proofs.Answers.{or_else, first_refusal-append}
use Rattle.rules.proofs.InLimits.{limits_are}
use Rattle.rules.proofs.Tests.{and_parts}
use Rattle.records.specs.Layout.{list_size}
use Rattle.solids.proofs.Tests.{or_false}
use Rattle.file.specs.File.{header_size, dimension_of, axes_of, vertex_count_of, cell_count_of, steps_of, kind_of, axis_of, point_count, cells_start}
use Rattle.file.specs.File.{file_length}
use Rattle.file.specs.Tests.{numbers_ok, cells_length, file_words}
use Rattle.file.proofs.Stores.{words_count}
use Rattle.read.specs.declared.Header.{Header}
use Rattle.read.specs.Read.{read_input, read_tests, read_rules, read_outcome, read_cells, header_of}
use Rattle.read.proofs.Order.{ours_long, right-length}
use Rattle.hosting.specs.Inner.Rooms.{word_room, float_room}
use Rattle.hosting.specs.Reads.{told_size, header_bytes, header_words, point_bytes, word_count, with_header}
use Rattle.hosting.specs.Reads.{host_read_outcome, host_read_header, host_read_cells, host_read_points}

unfoldable pub tests : List ℕ → ℕ
tests b = first_refusal read_tests (read_input b 0 0)

pub record Passed (b : List ℕ) : Type 0 where
  pub none : tests b ≡ 0
  pub header : header_size ≤ length b
  pub whole : length b ≡ file_length b
  pub words : cells_length b ≤ word_room
  pub floats : point_count b ≤ float_room

module _ (b : List ℕ) where
  split : (c p : ℕ) →
      read_outcome (read_input b c p) ≡ outcome (or_else (tests b) (cond (ltb c (cells_length b) || ltb p (point_count b)) 15 0)) (header_of b)
  unfolding read_outcome read_rules tests
  split c p = ap (λ k. outcome k (header_of b)) (first_refusal-append read_tests (drop (length read_tests) read_rules) (read_input b c p) refl)

  facts : tests b ≡ 0 → Passed b
  unfolding read_rules tests
  facts e =
      let by = passes read_tests (read_input b 0 0) refl (sym e) in
      let rest = (axes_ok (axes_of b) && leb (suc (dimension_of b)) (axes_of b)) && (steps_ok (steps_of b) && within 1 3 (kind_of b)) in
      let numbers = and_parts (shape_ok max_source (dimension_of b) (vertex_count_of b) (cell_count_of b)) rest (not-false (numbers_ok b) (by 2)) in
      let l = limits_are max_source (dimension_of b) (vertex_count_of b) (cell_count_of b) (ap not numbers.0) in
      let both = and_parts (axes_ok (axes_of b) && leb (suc (dimension_of b)) (axes_of b)) (steps_ok (steps_of b) && within 1 3 (kind_of b)) numbers.1
      in
      let axes =
      and_parts (leb 1 (axes_of b)) (leb (axes_of b) max_axes) (and_parts (axes_ok (axes_of b)) (leb (suc (dimension_of b)) (axes_of b)) both.0).0 in
      record {
        none = e;
        header = ours_long b (by 1);
        whole = right-length b (by 3);
        words = mul-le-mul {m₁ = list_size (dimension_of b)} {m₂ = list_size max_source} l.cells (omega (arith, l.dimension));
        floats = mul-le-mul l.vertices (leb-true (axes_of b) max_axes axes.1);
      }

  -- the outcome with room enough
  abbrev pub roomy : Outcome ℕ
  roomy = word_count b (read_outcome (read_input b word_room float_room))

  accepts : tests b ≡ 0 → accepted (cells_length b) ≡ roomy
  accepts e =
      let f = facts e in
      rw (split word_room float_room, e, le-ltb word_room (cells_length b) f.words, le-ltb float_room (point_count b) f.floats) refl

  refuses : (k : ℕ) → tests b ≡ suc k → (c p : ℕ) → read_outcome (read_input b c p) ≡ refused (suc k)
  refuses k e c p = rw (split c p, e) refl

  pub passed : (n : ℕ) → accepted n ≡ roomy → Passed b × (n ≡ cells_length b)
  passed n a = go (tests b) refl
    where
      go : (t : ℕ) → tests b ≡ t → Passed b × (n ≡ cells_length b)
      go zero e = let f = accepts e in (facts e, cc)
      go (suc k) e = let f = refuses k e word_room float_room in let z : ◌≡◌ {A = ℕ} 0 1 = cc in absurd (omega arith)

  module _ (header cells points : List ℕ) where
    -- the outcome, and the three buffers by it
    abbrev pub Told : Outcome ℕ → List ℕ → List ℕ → List ℕ → Type 0
    Told o h c p =
        (o ≡ host_read_outcome b header cells points)
        × ((h ≡ host_read_header b header cells points)
        × ((c ≡ host_read_cells b header cells points) × (p ≡ host_read_points b header cells points)))

    told : (o : Outcome ℕ) → o ≡ host_read_outcome b header cells points →
        Told o (after o (header_bytes b) header) (after o (bytes_of (file_words b)) cells) (after o (point_bytes b) points)
    unfolding host_read_header host_read_cells host_read_points
    told o e = (
      e,
      (
        ap (λ (r : Outcome ℕ). after r (header_bytes b) header) e,
        (ap (λ (r : Outcome ℕ). after r (bytes_of (file_words b)) cells) e, ap (λ (r : Outcome ℕ). after r (point_bytes b) points) e),
      ),
    )

    same : (k : ℕ) → refused k ≡ roomy → refused k ≡ host_read_outcome b header cells points
    unfolding host_read_outcome
    same k a = go (tests b) refl
      where
        go : (t : ℕ) → tests b ≡ t →
            refused k ≡ with_header (length header) (word_count b (read_outcome (read_input b (length cells / 2) (length points / 8))))
        go zero e = let f = accepts e in let z : ◌≡◌ {A = ℕ} 0 1 = cc in absurd (omega arith)
        go (suc j) e =
            let f = refuses j e word_room float_room in
            let n : k ≡ suc j = cc in
            rw (refuses j e (length cells / 2) (length points / 8)) (ap {B = Outcome ℕ} refused n)

    pub read-refused : (k : ℕ) → refused k ≡ roomy → Told (refused k) header cells points
    read-refused k a = told (refused k) (same k a)

    abbrev pub short : Bool
    short = ltb (length header) told_size || (ltb (length cells / 2) (cells_length b) || ltb (length points / 8) (point_count b))

    pick : tests b ≡ 0 → host_read_outcome b header cells points ≡ cond short (refused 15) (accepted (cells_length b))
    unfolding host_read_outcome
    pick e = go (ltb (length header) told_size) refl (ltb (length cells / 2) (cells_length b) || ltb (length points / 8) (point_count b)) refl
      where
        go : (x : Bool) → ltb (length header) told_size ≡ x → (y : Bool) →
            (ltb (length cells / 2) (cells_length b) || ltb (length points / 8) (point_count b)) ≡ y →
            with_header (length header) (word_count b (read_outcome (read_input b (length cells / 2) (length points / 8))))
            ≡ cond short (refused 15) (accepted (cells_length b))
        go true p true q = rw (split (length cells / 2) (length points / 8), e, p, q) refl
        go true p false q = rw (split (length cells / 2) (length points / 8), e, p, q, p) refl
        go false p true q = rw (split (length cells / 2) (length points / 8), e, p, q) refl
        go false p false q = rw (split (length cells / 2) (length points / 8), e, p, q, p) refl

    pub read_short : Passed b → short ≡ true → Told (refused 15) header cells points
    read_short f s = told (refused 15) (sym (pick f.none ∙ rw s refl))

    pub read_fits : Passed b → short ≡ false →
        Told (accepted (cells_length b)) (written (header_bytes b) header) (written (bytes_of (file_words b)) cells) (written (point_bytes b) points)
    read_fits f s = told (accepted (cells_length b)) (sym (pick f.none ∙ rw s refl))

    pub rooms : short ≡ false → (told_size ≤ length header) × (cells_length b ≤ length cells / 2) × (point_count b ≤ length points / 8)
    rooms s =
        let one = or_false (ltb (length header) told_size) (ltb (length cells / 2) (cells_length b) || ltb (length points / 8) (point_count b)) s in
        let two = or_false (ltb (length cells / 2) (cells_length b)) (ltb (length points / 8) (point_count b)) one.1 in (
          ltb-false (length header) told_size one.0,
          ltb-false (length cells / 2) (cells_length b) two.0,
          ltb-false (length points / 8) (point_count b) two.1,
        )

  pub read-accepts : (x : Header) → accepted x ≡ read_outcome (read_input b word_room float_room) → accepted (cells_length b) ≡ roomy
  read-accepts x e = rw (sym e) refl

  pub read_refuses : (k : ℕ) → refused k ≡ read_outcome (read_input b word_room float_room) → refused k ≡ roomy
  read_refuses k e = rw (sym e) refl

  -- with the room told by the array's length
  pub read_roomy : (words : List ℕ) → length words ≡ word_room → (o : Outcome Header) →
      o ≡ read_outcome (read_input b (length words) float_room) →
      o ≡ read_outcome (read_input b word_room float_room)
  read_roomy words l o e = e ∙ ap (λ n. read_outcome (read_input b n float_room)) l

  pub words_roomy : (words : List ℕ) → length words ≡ word_room → (w : List ℕ) →
      w ≡ read_cells (read_input b (length words) float_room) words →
      w ≡ read_cells (read_input b word_room float_room) words
  words_roomy words l w e = e ∙ ap (λ n. read_cells (read_input b n float_room) words) l

  whole_read : tests b ≡ 0 → read_outcome (read_input b word_room float_room) ≡ accepted (header_of b)
  whole_read e =
      let f = facts e in
      rw (split word_room float_room, e, le-ltb word_room (cells_length b) f.words, le-ltb float_room (point_count b) f.floats) refl

  pub words-read : (n : ℕ) → accepted n ≡ roomy → (old w : List ℕ) → w ≡ read_cells (read_input b word_room float_room) old →
      (n ≤ length w) × (take n w ≡ file_words b)
  unfolding read_cells
  words-read n a old w e =
      let f = passed n a in
      front_of (file_words b) old w n (e ∙ ap (λ (o : Outcome Header). after o (file_words b) old) (whole_read f.0.none))
      (f.1 ∙ sym (words_count b f.0.whole))

  pub numbers_put : (d n v s h : ℕ) (rest : List ℕ) → d ≡ dimension_of b → n ≡ axes_of b → v ≡ vertex_count_of b →
      s ≡ cell_count_of b → h ≡ steps_of b →
      bytes_of (d ∷ n ∷ v ∷ s ∷ h ∷ kind_of b ∷ axis_of b 0 ∷ axis_of b 1 ∷ []) ++ rest ≡ bytes_of (header_words b) ++ rest
  numbers_put d n v s h rest e1 e2 e3 e4 e5 = rw (e1, e2, e3, e4, e5) refl

  -- the words of the header, then the file's floats, then its version
  pub header_put : (header mid floats new : List ℕ) → header_size ≤ length b → told_size ≤ length header →
      mid ≡ bytes_of (header_words b) ++ drop 16 header → floats ≡ placed 16 (take 24 (drop 16 b)) mid →
      new ≡ placed 40 (take 2 (drop 3 b)) floats → new ≡ written (header_bytes b) header
  unfolding header_bytes
  header_put header mid floats new hb h em ef en =
      en ∙ ap₂ {C = List ℕ} (λ n l. placed n (take 2 (drop 3 b)) l) {x = 40} {y = 0 + length front} (omega (arith, long))
      (ef ∙ ap (placed 16 (take 24 (drop 16 b))) (em ∙ sym (placed_first (bytes_of (header_words b)) header))
      ∙ placed_then 0 (bytes_of (header_words b)) (take 24 (drop 16 b)) header (omega arith))
      ∙ placed_then 0 front (take 2 (drop 3 b)) header (omega (arith, long))
      ∙ placed_first (header_bytes b) header
    where
      front : List ℕ
      front = bytes_of (header_words b) ++ take 24 (drop 16 b)

      long : length front ≡ 40
      long =
          omega (
            arith,
            length-append (bytes_of (header_words b)) (take 24 (drop 16 b)),
            length-take-le 24 (drop 16 b) (omega (arith, length-drop 16 b)),
          )

  pub points_put : (end : ℕ) (points new : List ℕ) → end ≡ cells_start b → new ≡ placed 0 (take (end - 40) (drop 40 b)) points →
      new ≡ written (point_bytes b) points
  unfolding point_bytes
  points_put end points new e en =
      let n : end - 40 ≡ point_count b * 8 = omega (arith, e) in
      en ∙ ap (λ m. placed 0 (take m (drop 40 b)) points) n ∙ placed_first (point_bytes b) points

  -- an accepted file, as the code wrote its parts
  module _ (header cells points : List ℕ) where
    pub read_done : Passed b → short header cells points ≡ false → (n : ℕ) → n ≡ cells_length b →
        (ws : List ℕ) → ws ≡ file_words b → (h c p : List ℕ) →
        h ≡ written (header_bytes b) header → c ≡ bytes_of ws ++ drop (length ws * 2) cells → p ≡ written (point_bytes b) points →
        Told header cells points (accepted n) h c p
    read_done f s n en ws ew h c p eh ec ep =
        let t = read_fits header cells points f s in (
          ap accepted en ∙ t.0,
          (
            eh ∙ t.1.0,
            (
              ec ∙ ap (λ x. bytes_of x ++ drop (length x * 2) cells) ew
                  ∙ ap (λ k. bytes_of (file_words b) ++ drop k cells) (sym (bytes-length (file_words b))) ∙ t.1.1.0,
              ep ∙ t.1.1.1,
            ),
          ),
        )

-- Lists written piece by piece: by a loop, or by one call after another.
--   Left at all old cur rest buf      on the way from old to `all` at `at`: buf is reached, and `rest` is left, at `cur`
--   left_starts, left_goes, left_ends     all is left; a piece less is; nothing is
--   left_last                         and with the last piece put
--   left_word                         one element less
--   left_next, left_none              of a list: the element at a place less, set; no element is left
--   left_value, left_values           of tabulated elements: one less; none is left
--   left_item, left_items             of the lists of a list's elements: one less; none is left
--   left_record, left_records         of tabulated lists: one less; none is left
--   left_fits, left_item_fits, left_record_fits     the piece has room
--   left_ahead                        ahead of what is written the buffer is as it was
--   left_read                         and what is written is read
--   put_nothing                       nothing put
--   put_first                         put at the start: the list, and the buffer's rest
--   put_part                          put into a part that was lent to a call
-- Assumes nothing.
use mathlib.Core.Path.{◌≡◌, refl, sym, ap, ◌∙◌}
use mathlib.Core.List.{List, [], ◌∷◌, ◌++◌, map, append_assoc, append-nil}
use Prim.Native.Nat.{ℕ, ◌+◌, ◌≤◌, ◌<◌}
use native.Mathlib.Nat.{add-zero}
use native.Mathlib.Omega.{arith}
use lib.ListN.{length, drop, get_or, set, length-append, drop_of_length-le, take}
use lib.Seq.{drop-drop}
use Rattle.words.specs.Records.{tabulate, concat}
use Rattle.words.specs.Inner.Placed.{placed, Put}
use Rattle.words.proofs.Loops.{drop_next}
use Rattle.words.proofs.Records.{tabulate-length, tabulate_at, read_front}
use Rattle.words.proofs.Placed.{placed_first, placed-none, placed-length, placed_then, placed_one, placed-behind}

module _ {A : Type 0} where
  pub put_nothing : (at : ℕ) (old : List A) → Put at [] old at old
  put_nothing at old = record { place = sym (add-zero at); content = sym (placed-none at old) }

  -- one list behind another, and one behind an element
  pub put_then : {at cur next : ℕ} {xs ys old buf new : List A} → Put at xs old cur buf → Put cur ys buf next new → cur ≤ length old →
      Put at (xs ++ ys) old next new
  put_then {at} {cur} {next} {xs} {ys} {old} {buf} {new} p q h =
      record {
        place = omega (arith, p.place, q.place, length-append xs ys);
        content = q.content ∙ rw (p.place, p.content) (placed_then at xs ys old (omega (arith, p.place)));
      }

  pub put_cons : {at cur next : ℕ} {x : A} {ys old buf new : List A} → Put at (x ∷ []) old cur buf →
      Put cur ys buf next new → at < length old →
      Put at (x ∷ ys) old next new
  put_cons p q h = put_then p q (omega (arith, p.place))

  pub put_first : {xs old new : List A} {next : ℕ} → Put 0 xs old next new → new ≡ xs ++ drop (length xs) old
  put_first {xs} {old} p = p.content ∙ placed_first xs old

  -- a part of a buffer after a call that was lent it
  pub put_part : (at m : ℕ) (xs old : List A) (next : ℕ) → length xs ≡ m → next ≡ at + m →
      Put at xs old next (take at old ++ (xs ++ drop m (drop at old)))
  unfolding placed
  put_part at m xs old next e n = record { place = rw e n; content = rw (drop-drop m at old, e) }

  pub record Left (at : ℕ) (all old : List A) (cur : ℕ) (rest buf : List A) : Type 0 where
    pub done : List A
    pub parts : done ++ rest ≡ all
    pub put : Put at done old cur buf
    pub room : cur + length rest ≤ length buf
    pub same : length buf ≡ length old

  pub left_starts : (at : ℕ) (all old : List A) → at + length all ≤ length old → Left at all old at all old
  left_starts at all old h = record { done = []; parts = refl; put = put_nothing at old; room = h; same = refl }

  pub left_ends : {at : ℕ} {all old : List A} {cur : ℕ} {buf : List A} → Left at all old cur [] buf → Put at all old cur buf
  left_ends l = rw (sym l.parts ∙ append-nil l.done) l.put

  module _ {at : ℕ} {all old : List A} {cur : ℕ} {buf : List A} where
    pub left_fits : (a b : List A) → Left at all old cur (a ++ b) buf → cur + length a ≤ length buf
    left_fits a b l = omega (arith, l.room, length-append a b)

    pub left_goes : (a b : List A) (next : ℕ) (new : List A) → Left at all old cur (a ++ b) buf → Put cur a buf next new →
        Left at all old next b new
    left_goes a b next new l p =
        let fits = left_fits a b l in
        let same : length new ≡ length buf = ap length p.content ∙ placed-length cur a buf fits in
        let placed-done : length (placed at l.done old) ≡ length old = sym (ap length l.put.content) ∙ l.same in
        record {
          done = l.done ++ a;
          parts = append_assoc l.done a b ∙ l.parts;
          put =
              record {
                place = omega (arith, l.put.place, p.place, length-append l.done a);
                content =
                    p.content
                    ∙ rw (l.put.place, l.put.content) (placed_then at l.done a old (omega (arith, l.put.place, l.same)));
              };
          room = omega (arith, l.room, p.place, length-append a b);
          same = same ∙ l.same;
        }

    pub left_last : (a : List A) (next : ℕ) (new : List A) → Left at all old cur a buf → Put cur a buf next new → Put at all old next new
    left_last a next new l p = left_ends (left_goes a [] next new (rw append-nil l) p)

    pub left_word : (x : A) (rest : List A) (next : ℕ) → next ≡ cur + 1 → Left at all old cur (x ∷ rest) buf →
        Left at all old next rest (set buf cur x)
    left_word x rest next e l =
        left_goes (x ∷ []) rest next (set buf cur x) l (record { place = e; content = placed_one cur x buf (omega (arith, l.room)) })

    -- element k of a list of which those from k on are left
    module _ (z : A) (xs : List A) (k : ℕ) (h : k < length xs) (l : Left at all old cur (drop k xs) buf) where
      pub left_next : (next : ℕ) (x : A) → x ≡ get_or xs k z → next ≡ cur + 1 → Left at all old next (drop (k + 1) xs) (set buf cur x)
      left_next next x e n = rw e (left_word (get_or xs k z) (drop (k + 1) xs) next n (rw (drop_next z xs k h) at l))

    pub left_none : (xs : List A) (k : ℕ) → length xs ≤ k → Left at all old cur (drop k xs) buf → Put at all old cur buf
    left_none xs k h l = left_ends (rw (drop_of_length-le xs h) at l)

    -- element k of n tabulated ones of which those from k on are left
    pub left_value : (n k : ℕ) (f : ℕ → A) (next : ℕ) (x : A) → k < n →
        Left at all old cur (drop k (tabulate n f)) buf → x ≡ f k → next ≡ cur + 1 →
        Left at all old next (drop (k + 1) (tabulate n f)) (set buf cur x)
    left_value n k f next x h l e here =
        left_next x (tabulate n f) k (omega (arith, tabulate-length n f)) l next x (e ∙ sym (tabulate_at n f k x h)) here

    pub left_values : (n k : ℕ) (f : ℕ → A) → n ≤ k → Left at all old cur (drop k (tabulate n f)) buf → Put at all old cur buf
    left_values n k f h l = left_none (tabulate n f) k (omega (arith, tabulate-length n f)) l

    -- list k of n tabulated ones of which those from k on are left
    module _ (n k : ℕ) (f : ℕ → List A) (h : k < n) (l : Left at all old cur (concat (drop k (tabulate n f))) buf) where
      next_record : concat (drop k (tabulate n f)) ≡ f k ++ concat (drop (k + 1) (tabulate n f))
      next_record = ap concat (drop_next [] (tabulate n f) k (omega (arith, tabulate-length n f))) ∙ rw (tabulate_at n f k [] h)

      pub left_record_fits : cur + length (f k) ≤ length buf
      left_record_fits = left_fits (f k) (concat (drop (k + 1) (tabulate n f))) (rw next_record at l)

      pub left_record : (next : ℕ) (new : List A) → Put cur (f k) buf next new → Left at all old next (concat (drop (k + 1) (tabulate n f))) new
      left_record next new p = left_goes (f k) (concat (drop (k + 1) (tabulate n f))) next new (rw next_record at l) p

    pub left_records : (n k : ℕ) (f : ℕ → List A) → n ≤ k → Left at all old cur (concat (drop k (tabulate n f))) buf →
        Put at all old cur buf
    left_records n k f h l =
        let none : length (tabulate n f) ≤ k = omega (arith, tabulate-length n f) in
        left_ends (rw (drop_of_length-le (tabulate n f) none) at l)

    -- the same of the elements of a list, each by a list of its own
    module _ {B : Type 0} (g : B → List A) (z : B) (xs : List B) (k : ℕ)
        (h : k < length xs) (l : Left at all old cur (concat (map g (drop k xs))) buf) where
      pub left_item_fits : cur + length (g (get_or xs k z)) ≤ length buf
      left_item_fits = left_fits (g (get_or xs k z)) (concat (map g (drop (k + 1) xs))) (rw (drop_next z xs k h) at l)

      pub left_item : (next : ℕ) (new : List A) → Put cur (g (get_or xs k z)) buf next new →
          Left at all old next (concat (map g (drop (k + 1) xs))) new
      left_item next new p = left_goes (g (get_or xs k z)) (concat (map g (drop (k + 1) xs))) next new (rw (drop_next z xs k h) at l) p

    pub left_items : {B : Type 0} (g : B → List A) (xs : List B) (k : ℕ) → length xs ≤ k →
        Left at all old cur (concat (map g (drop k xs))) buf →
        Put at all old cur buf
    left_items g xs k h l = left_ends (rw (drop_of_length-le xs h) at l)

    pub left_ahead : (rest : List A) → Left at all old cur rest buf → drop cur buf ≡ drop cur old
    left_ahead rest l = rw (l.put.place, l.put.content) (placed-behind at l.done old (omega (arith, l.put.place, l.room, l.same)))

    -- what is written from the start on is read there
    pub left_read : (rest : List A) → Left at all old cur rest buf → at ≡ 0 → (p n : ℕ) → p + n ≤ cur →
        take n (drop p buf) ≡ take n (drop p all)
    left_read rest l e p n h =
        let start : Put 0 l.done old cur buf = rw e at l.put in
        rw (put_first start, sym l.parts)
        (read_front l.done (drop (length l.done) old) p n (omega arith) ∙ sym (read_front l.done rest p n (omega arith)))

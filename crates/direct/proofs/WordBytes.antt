-- Words written as bytes.
--   bytes-append, bytes-concat    the bytes of lists one after the other are those of each
--   bytes_fit, left_bytes         the two bytes of one word more of a list
--   left_copied                   the same, copied as a list of two
--   decoded_front                 the decoded words stand at the front of the array
-- Assumes nothing.
use mathlib.Core.Path.{◌≡◌, refl, sym, ap, ◌∙◌}
use mathlib.Core.List.{List, [], ◌∷◌, ◌++◌}
use Prim.Native.Nat.{ℕ, zero, suc, ◌+◌, ◌*◌, ◌/◌, ◌%◌, ◌≤◌, ◌<◌}
use native.Mathlib.Omega.{arith}
use lib.ListN.{length, take, drop, get_or, set, length-append}
use lib.Seq.{take_at}
use Rattle.std.specs.Int.{to_le_bytes, w16}
use Rattle.words.specs.Bytes.{words16, bytes_of}
use Rattle.words.specs.Records.{concat, tabulate}
use Rattle.words.proofs.Bytes.{words_count}
use Rattle.words.proofs.Loops.{drop_next}
use Rattle.words.proofs.Writing.{Left, left_goes, left_word, put_part}

pub bytes-append : (xs ys : List ℕ) → bytes_of (xs ++ ys) ≡ bytes_of xs ++ bytes_of ys
bytes-append [] ys = refl
bytes-append (x ∷ xs) ys = rw (bytes-append xs ys) refl

pub bytes-concat : (n : ℕ) (f : ℕ → List ℕ) → bytes_of (concat (tabulate n f)) ≡ concat (tabulate n (λ p. bytes_of (f p)))
bytes-concat zero f = refl
bytes-concat (suc n) f =
    bytes-append (f 0) (concat (tabulate n (λ p. f (suc p)))) ∙ ap (λ r. bytes_of (f 0) ++ r) (bytes-concat n (λ p. f (suc p)))

module _ {at : ℕ} {all old : List ℕ} {cur : ℕ} {buf : List ℕ} (xs : List ℕ) (k : ℕ) (h : k < length xs)
    (l : Left at all old cur (bytes_of (drop k xs)) buf) where
  next : Left at all old cur (bytes_of (get_or xs k 0 ∷ drop (k + 1) xs)) buf
  next = rw (drop_next 0 xs k h) at l

  pub bytes_fit : cur + 2 ≤ length buf
  bytes_fit = omega (arith, next.room)

  pub left_bytes : (x : ℕ) → x ≡ get_or xs k 0 →
      Left at all old (cur + 2) (bytes_of (drop (k + 1) xs)) (set (set buf cur (x % 256)) (cur + 1) (x / 256 % 256))
  left_bytes x e = left_word (x / 256 % 256) _ (cur + 2) (omega arith) (left_word (x % 256) _ (cur + 1) refl (rw (← e) at next))

  pub left_copied : (x m : ℕ) (bytes : List ℕ) → x ≡ get_or xs k 0 → m ≡ 2 → bytes ≡ to_le_bytes w16 x →
      Left at all old (cur + 2) (bytes_of (drop (k + 1) xs)) (take cur buf ++ (bytes ++ drop m (drop cur buf)))
  left_copied x m bytes e em eb =
      left_goes (to_le_bytes w16 x) (bytes_of (drop (k + 1) xs)) (cur + 2) _ (rw (← e) at next)
      (rw eb (put_part cur m (to_le_bytes w16 x) buf (cur + 2) (sym em) (omega arith)))

pub decoded_front : (cells w rest : List ℕ) (n : ℕ) → w ≡ words16 cells ++ rest → length cells ≡ n * 2 →
    (n ≤ length w) × (take n w ≡ words16 cells)
decoded_front cells w rest n e h =
    let count : length (words16 cells) ≡ n = omega (arith, words_count cells) in
    (omega (arith, ap length e, length-append (words16 cells) rest), ap (take n) e ∙ take_at (words16 cells) rest n count)

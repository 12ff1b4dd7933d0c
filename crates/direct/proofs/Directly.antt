-- What is written where the call is accepted.
--   decoded_whole     an array as long as the list holds the list
--   direct_writes     the bytes of its table, and of its wings in uploaded order
-- Assumes nothing.
use mathlib.Core.Path.{◌≡◌, refl, sym, ap, ap₂, ◌∙◌}
use mathlib.Core.Bool.{true, false, false≢true}
use mathlib.Core.List.{List, ◌++◌, append-nil}
use Prim.Native.Nat.{ℕ, ◌*◌, ◌/◌}
use native.Mathlib.Omega.{arith}
use lib.ListN.{length, drop, drop_of_length-le}
use Rattle.words.specs.Bytes.{words16, bytes_of}
use Rattle.words.specs.Inner.Placed.{placed}
use Rattle.words.proofs.Bytes.{bytes-length, words_count}
use Rattle.words.proofs.Placed.{placed_first}
use Rattle.rules.specs.Calls.{first_refusal, written}
use Rattle.records.specs.Layout.{list_length}
use Rattle.solids.specs.Accept.{solid_rules}
use Rattle.solids.specs.Table.{table_of_list}
use Rattle.solids.specs.Uploaded.{uploaded_of_list}
use Rattle.tables.specs.Inner.Tabled.{list_with}
use Rattle.wing.specs.Inner.Uploaded.{uploaded_rows}
use Rattle.wing.proofs.UploadedRows.{rows_are}
use Rattle.direct.specs.Inner.Direct.{bytes_list, Direct}

pub decoded_whole : (cells list w : List ℕ) (n : ℕ) → length cells ≡ n * 2 → length list ≡ n →
    w ≡ words16 cells ++ drop (length cells / 2) list → w ≡ words16 cells
decoded_whole cells list w n size long e =
    e ∙ ap (λ (r : List ℕ). words16 cells ++ r) (drop_of_length-le list {i = length cells / 2} (omega arith)) ∙ append-nil (words16 cells)

pub direct_writes : (d v s : ℕ) (cells table uploaded list words table' uploaded' : List ℕ) → length cells ≡ list_length d s * 2 →
    list ≡ words16 cells → 0 ≡ first_refusal solid_rules (list_with d v s list) → table_of_list (list_with d v s list) ≡ words →
    table' ≡ bytes_of words ++ drop (length words * 2) table → uploaded' ≡ placed 0 (bytes_of (uploaded_rows d s list words)) uploaded →
    Direct d v s cells table uploaded table' uploaded' true
direct_writes d v s cells table uploaded list words table' uploaded' size e none made wrote put =
    let l = bytes_list d v s cells in
    let t : words ≡ table_of_list l = sym made ∙ ap (λ (ws : List ℕ). table_of_list (list_with d v s ws)) e in
    record {
      accepts = λ z. none ∙ ap (λ (ws : List ℕ). first_refusal solid_rules (list_with d v s ws)) e;
      writes = λ z.
          wrote ∙ ap (λ (n : ℕ). bytes_of words ++ drop n table) (sym (bytes-length words))
          ∙ ap (λ (xs : List ℕ). written (bytes_of xs) table) t;
      uploads = λ z.
          put ∙ ap (λ (xs : List ℕ). placed 0 (bytes_of xs) uploaded)
          (ap₂ (uploaded_rows d s) e t ∙ rows_are l (omega (arith, words_count cells)))
          ∙ placed_first (bytes_of (uploaded_of_list l)) uploaded;
      keeps = λ z. absurd (false≢true (sym z));
    }

pub direct_keeps : (d v s : ℕ) (cells table uploaded : List ℕ) → Direct d v s cells table uploaded table uploaded false
direct_keeps d v s cells table uploaded = record {
  accepts = λ z. absurd (false≢true z);
  writes = λ z. absurd (false≢true z);
  uploads = λ z. absurd (false≢true z);
  keeps = λ z. (refl, refl);
}

-- The call wing from bytes to bytes where nothing refuses it.
--   bytes_list d v s cells     the list that the bytes hold
--   Lent                      numbers, length and rooms of a call that can be tried so
--   Buckets                   arrays in which its faces are paired: long enough, and all buckets empty
--   Direct .. r               r says whether the call is accepted and all is written; if not, nothing is
use Rattle.std.specs.Prelude.{◌≡◌, Bool, true, false, List, ℕ, suc, ◌*◌, ◌≤◌, ◌<◌, length, get_or}
use Rattle.words.specs.Bytes.{words16, bytes_of}
use Rattle.rules.specs.Calls.{first_refusal, written}
use Rattle.rules.specs.Limits.{max_dimension}
use Rattle.rules.specs.Shapes.{shape_ok}
use Rattle.records.specs.Layout.{empty, list_length, table_length, wings_length}
use Rattle.solids.specs.Accept.{Listed, solid_rules}
use Rattle.solids.specs.Table.{table_of_list}
use Rattle.solids.specs.Uploaded.{uploaded_of_list}

abbrev pub bytes_list : ℕ → ℕ → ℕ → List ℕ → Listed
bytes_list d v s cells = record { d = d; v = v; s = s; words = words16 cells }

pub record Lent (d v s : ℕ) (cells table uploaded : List ℕ) : Type 0 where
  pub some : 1 ≤ d
  pub shape : shape_ok max_dimension d v s ≡ true
  pub size : length cells ≡ list_length d s * 2
  pub room : table_length d s * 2 ≤ length table
  pub further : wings_length d s * 2 ≤ length uploaded

pub record Buckets (d s : ℕ) (hash head next : List ℕ) : Type 0 where
  pub hash_room : s * suc d ≤ length hash
  pub next_room : s * suc d ≤ length next
  pub heads : 0 < length head
  pub few-heads : length head ≤ 65536
  pub blank : (b : ℕ) → b < length head → get_or head b 0 ≡ empty

pub record Direct (d v s : ℕ) (cells table uploaded table' uploaded' : List ℕ) (r : Bool) : Type 0 where
  pub accepts : r ≡ true → 0 ≡ first_refusal solid_rules (bytes_list d v s cells)
  pub writes : r ≡ true → table' ≡ written (bytes_of (table_of_list (bytes_list d v s cells))) table
  pub uploads : r ≡ true → uploaded' ≡ written (bytes_of (uploaded_of_list (bytes_list d v s cells))) uploaded
  pub keeps : r ≡ false → (table' ≡ table) × (uploaded' ≡ uploaded)

-- The call list on bytes, in the form of version k: a table's words and its points' floats, decoded. Paper, section 10.
--   by_bytes numbers lengths o     row 2 by the numbers, row 3 by the lengths in bytes, then the outcome o of what is decoded
--   host_list_outcome (the count of bytes), host_list_buffer
use Rattle.std.specs.Prelude.{Bool, not, cond, ◌&&◌, List, ℕ, ◌*◌, eqb, length}
use Rattle.words.specs.Bytes.{words16}
use Rattle.rules.specs.Calls.{Outcome, refused, after}
use Rattle.records.specs.Layout.{table_length}
use Rattle.list.specs.List.{ListInput, numbers_fit, list_input, list_text, list_outcome}
use Rattle.hosting.specs.Floats.{floats64}

abbrev pub by_bytes : Bool → Bool → Outcome ℕ → Outcome ℕ
by_bytes numbers lengths o = cond (not numbers) (refused 2) (cond (not lengths) (refused 3) o)

module _ (k d n v s : ℕ) (table points out : List ℕ) where
  abbrev pub host_list_input : ListInput
  host_list_input = list_input k d n v s (words16 table) (floats64 points) (length out)

  -- two bytes for each word of the table, eight for each float of the points
  unfoldable pub host_list_outcome : Outcome ℕ
  host_list_outcome =
      by_bytes (numbers_fit k d n v s) (eqb (length table) (table_length d s * 2) && eqb (length points) (v * n * 8))
      (list_outcome host_list_input)

  unfoldable pub host_list_buffer : List ℕ
  host_list_buffer = after host_list_outcome (list_text host_list_input) out

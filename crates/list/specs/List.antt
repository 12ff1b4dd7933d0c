-- The call list: it takes a table and its points and writes the key's text, in the form of a version. Paper, sections 8 and 9.
--   list_input         what the call is told
--   list_text          the key's text
--   numbers_fit k d n v s      row 2 of the numbers by themselves
--   list_tests         its refusals in order, but for row 15
--   list_rules, list_outcome (the count of bytes), list_buffer
use Rattle.std.specs.Prelude.{Bool, not, ◌&&◌, List, [], ◌∷◌, ◌++◌, ℕ, ◌*◌, eqb, length, Float}
use Rattle.words.specs.Records.{all_of}
use Rattle.rules.specs.Limits.{max_dimension, axes_ok, version_ok}
use Rattle.rules.specs.Shapes.{shape_ok}
use Rattle.rules.specs.Calls.{Rule, refuse, no_room, Outcome, decide, after}
use Rattle.records.specs.Layout.{entries_of, table_length}
use Rattle.solids.specs.Table.{sound}
use Rattle.boundary.specs.Boundary.{boundary_of}
use Rattle.points.specs.Step.{in_range}
use Rattle.listing.specs.Lines.{key_text}

pub record ListInput : Type 0 where
  pub version : ℕ
  pub d : ℕ
  pub n : ℕ
  pub v : ℕ
  pub s : ℕ
  pub table : List ℕ
  pub points : List Float
  pub room : ℕ

-- the input of a call told these numbers and lists, with room for so many bytes
abbrev pub list_input : ℕ → ℕ → ℕ → ℕ → ℕ → List ℕ → List Float → ℕ → ListInput
list_input k d n v s table points room = record { version = k; d = d; n = n; v = v; s = s; table = table; points = points; room = room }

unfoldable pub list_text : ListInput → List ℕ
list_text i = key_text i.version i.d i.n i.v i.points (boundary_of (entries_of i.d i.s i.table))

abbrev pub list_length : ListInput → ℕ
list_length i = length (list_text i)

-- 2: the version, the shape and the axes are within their limits
abbrev pub numbers_fit : ℕ → ℕ → ℕ → ℕ → ℕ → Bool
numbers_fit k d n v s = version_ok k && (shape_ok max_dimension d v s && axes_ok n)

abbrev pub list_tests : List (Rule ListInput)
list_tests =
    refuse 2 (λ i. not (numbers_fit i.version i.d i.n i.v i.s))
    ∷ refuse 3 (λ i. not (eqb (length i.table) (table_length i.d i.s) && eqb (length i.points) (i.v * i.n)))
    ∷ refuse 4 (λ i. not (all_of in_range i.points))
    ∷ refuse 14 (λ i. not (sound i.d i.v i.s i.table))
    ∷ []

unfoldable pub list_rules : List (Rule ListInput)
list_rules = list_tests ++ no_room (λ i. i.room) list_length ∷ []

unfoldable pub list_outcome : ListInput → Outcome ℕ
list_outcome i = decide list_rules list_length i

unfoldable pub list_buffer : ListInput → List ℕ → List ℕ
list_buffer i out = after (list_outcome i) (list_text i) out

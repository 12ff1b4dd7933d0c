-- What the cases of an answer mean: numbers of the refusal table. Paper, section 9.
--   number_of r        the number of a refusal in the refusal table
--   verdict_of v       the number of the refusal, 0 where the tests pass
--   outcome_of a       the count that was written, or the number of the refusal
use Rattle.std.specs.Prelude.{ℕ, Result, Ok, Err}
use Rattle.rules.specs.Calls.{Outcome, accepted, refused}
use Rattle.rules.specs.declared.refusal.Refusal.{Refusal}
use Rattle.rules.specs.declared.refusal.Refusal.TheVariants as R

abbrev pub number_of : Refusal → ℕ
number_of R.NotOurs = 1
number_of R.OutsideLimits = 2
number_of R.WrongLength = 3
number_of R.FloatRange = 4
number_of R.StepUnfit = 5
number_of R.BadSign = 6
number_of R.BadVertex = 7
number_of R.VertexTwice = 8
number_of R.CellTwice = 9
number_of R.CrowdedFace = 10
number_of R.EqualSigns = 11
number_of R.SweptTooLarge = 12
number_of R.MovedOutOfRange = 13
number_of R.Unsound = 14
number_of R.NoRoom = 15
number_of R.StaysInPlane = 17
number_of R.BadMaterial = 18

abbrev pub verdict_of : Result Unit Refusal → ℕ
verdict_of (Ok _) = 0
verdict_of (Err r) = number_of r

abbrev pub outcome_of : Result ℕ Refusal → Outcome ℕ
outcome_of (Ok n) = accepted n
outcome_of (Err r) = refused (number_of r)

-- What is printed for small inputs, computed.
use mathlib.Core.Path.{◌≡◌, refl}
use mathlib.Core.List.{List, [], ◌∷◌, ◌++◌}
use Prim.Native.Nat.{ℕ}
use lib.ListN.{length, replicate}
use lib.Ieee.{binary64, of_bits}
use Rattle.words.specs.Records.{tabulate, concat}
use Rattle.rules.specs.Calls.{accepted, refused}
use Rattle.solids.proofs.Computing.{computing}
use Rattle.wing.specs.Wing.{wing_rules, wing_outcome}
use Rattle.sweep.specs.Sweep.{sweep_rules, sweep_outcome}
use Rattle.points.specs.declared.step.Step.TheVariants as S
use Rattle.points.proofs.Computing.{computing as points-computing}
use Rattle.motion.specs.Move.{moved_levels, move_rules, move_outcome}
use Rattle.file.specs.File.{file_points, file_cells}
use Rattle.file.specs.Tests.{file_words}
use Rattle.read.specs.declared.Header.{Header}
use Rattle.read.specs.Read.{read_rules, read_outcome}
use Rattle.printing.specs.Decimal.{digits}
use Rattle.page.specs.Key.{list_in, calls_on, key_outcome, printed, text_outcome}

-- no bytes: ten are printed, "refused 1" and a line feed
pub ten_bytes : text_outcome [] 10 ≡ accepted 10
unfolding computing points-computing read_rules read_outcome digits key_outcome printed text_outcome
ten_bytes = refl

-- a point slid in one step, and bytes that say one vertex and one axis
abbrev slid : Header
slid = record { version = 1; d = 0; n = 1; v = 1; s = 1; h = 1; step = S.Slide 0 (of_bits binary64 0) }

pub points_of_both_levels : length (list_in (replicate 6 0 ++ (1 ∷ 1 ∷ [])) slid).points ≡ 2
unfolding points-computing file_points moved_levels
points_of_both_levels = refl

-- one cell of dimension 7, moved on axis 1 of one: too much for sweep, and unfit for move; read would not let it through
abbrev eight : List ℕ
eight = replicate 5 0 ++ (7 ∷ 1 ∷ 8 ∷ 0 ∷ 1 ∷ []) ++ replicate 94 0 ++ (43 ∷ concat (tabulate 8 (λ p. p ∷ 0 ∷ [])))

abbrev unfit : Header
unfit = record { version = 1; d = 7; n = 1; v = 8; s = 1; h = 1; step = S.Slide 1 (of_bits binary64 0) }

pub sweep_before_move : calls_on eight unfit ≡ refused 2
unfolding computing points-computing file_points file_cells file_words wing_rules wing_outcome sweep_rules sweep_outcome moved_levels move_rules
    move_outcome
sweep_before_move = refl

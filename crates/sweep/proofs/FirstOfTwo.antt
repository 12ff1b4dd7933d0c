-- Two faults at once: the first row that applies is told. A refused call leaves the lent words as they were.
use mathlib.Core.Path.{◌≡◌, refl}
use mathlib.Core.List.{[], ◌∷◌}
use Rattle.rules.specs.Calls.{refused}
use Rattle.solids.proofs.Computing.{computing}
use Rattle.sweep.specs.Sweep.{sweep_input, swept_words, sweep_rules, sweep_outcome, sweep_buffer}

-- dimension 7, and no words
pub limits_before-length : sweep_outcome (sweep_input 7 1 1 1 [] 0) ≡ refused 2
unfolding computing sweep_rules sweep_outcome
limits_before-length = refl

-- a point among 4,096 vertices, and no words
pub length-before-size : sweep_outcome (sweep_input 0 4096 1 1 [] 0) ≡ refused 3
unfolding computing sweep_rules sweep_outcome
length-before-size = refl

-- a point among 4,096 vertices that is its own neighbour
pub size-before-sound : sweep_outcome (sweep_input 0 4096 1 1 (0 ∷ 0 ∷ 0 ∷ 0 ∷ []) 0) ≡ refused 12
unfolding computing sweep_rules sweep_outcome
size-before-sound = refl

-- a point that is its own neighbour, and no room
pub sound-before-room : sweep_outcome (sweep_input 0 1 1 1 (0 ∷ 0 ∷ 0 ∷ 0 ∷ []) 0) ≡ refused 14
unfolding computing sweep_rules sweep_outcome
sound-before-room = refl

-- a point of material 1,000
pub material-unsound : sweep_outcome (sweep_input 0 1 1 1 (0 ∷ 1000 ∷ 0 ∷ 65535 ∷ []) 6) ≡ refused 14
unfolding computing sweep_rules sweep_outcome
material-unsound = refl

-- a point, whose sweep has six words
pub untouched : sweep_buffer (sweep_input 0 1 1 1 (0 ∷ 7 ∷ 0 ∷ 65535 ∷ []) 2) (7 ∷ 7 ∷ []) ≡ 7 ∷ 7 ∷ []
unfolding computing swept_words sweep_rules sweep_outcome sweep_buffer
untouched = refl

-- Sweeps, computed: without cells it needs no room; swept cells have the material of their cell.
use mathlib.Core.Path.{◌≡◌, refl}
use mathlib.Core.List.{[], ◌∷◌}
use Rattle.rules.specs.Calls.{accepted}
use Rattle.solids.proofs.Computing.{computing}
use Rattle.sweep.specs.Sweep.{sweep_input, swept_words, sweep_rules, sweep_outcome}

pub nothing-swept : sweep_outcome (sweep_input 2 3 0 1 [] 0) ≡ accepted 0
unfolding computing sweep_rules sweep_outcome
nothing-swept = refl

-- two points, of materials 7 and 9
pub materials-kept : swept_words (sweep_input 0 2 2 1 (0 ∷ 7 ∷ 0 ∷ 65535 ∷ 1 ∷ 9 ∷ 1 ∷ 65535 ∷ []) 12)
    ≡ 0 ∷ 7 ∷ 0 ∷ 2 ∷ 65535 ∷ 65535 ∷ 1 ∷ 9 ∷ 1 ∷ 3 ∷ 65535 ∷ 65535 ∷ []
unfolding computing swept_words
materials-kept = refl

-- Refusal 14 is never the program's: each table that it lends to a call was written by wing or by sweep.
use Rattle.std.specs.Prelude.{◌≡◌, List, ℕ}
use Rattle.rules.specs.Calls.{refused}
use Rattle.page.specs.Key.{key_outcome}

abbrev pub NeverUnsound : Type 0
NeverUnsound = (b : List ℕ) → key_outcome b ≡ refused 14 → ⊥

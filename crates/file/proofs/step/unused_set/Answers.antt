-- `unused_set` answers `unused_set`, kind by kind. Assumes nothing.
use mathlib.Core.Path.{◌≡◌, sym, ◌∙◌}
use mathlib.Core.List.{List}
use Prim.Native.Nat.{ℕ}
use Rattle.file.specs.File.{kind_of}
use Rattle.file.proofs.StepKinds.{unused_slide, unused_slant, unused_turn}
use Rattle.file.proofs.step.unused_set.Goals as goal
use Rattle.file.proofs.step.unused_set.Goals.{After-byte_at-kind, Else-kind-eq1}

abbrev bytes : After-byte_at-kind → List ℕ
bytes c = c.args.b.now

-- not the first kind
not-slide : (c : Else-kind-eq1) → kind_of (bytes (goal.at.Else-kind-eq1 c).After-byte_at-kind) ≡ 1 → ⊥
not-slide c h = c.if-kind-eq1.false (c.byte_at-kind.ensures.0 ∙ h)

pub returns-then-kind-eq1 : goal.returns-then-kind-eq1
returns-then-kind-eq1 c =
    cc (unused_slide (bytes (goal.at.returns-then-kind-eq1 c).After-byte_at-kind) (sym c.byte_at-kind.ensures.0 ∙ c.if-kind-eq1.true))

pub returns-then-kind-eq2 : goal.returns-then-kind-eq2
returns-then-kind-eq2 c =
    let slant = unused_slant (bytes (goal.at.returns-then-kind-eq2 c).After-byte_at-kind) (not-slide (goal.at.returns-then-kind-eq2 c).Else-kind-eq1)
    (sym c.byte_at-kind.ensures.0 ∙ c.if-kind-eq2.true) in
    rw c.word64-then-kind-eq2.ensures (sym slant)

pub returns : goal.returns
returns c =
    cc (unused_turn (bytes (goal.at.returns c).After-byte_at-kind) (not-slide (goal.at.returns c).Else-kind-eq1)
    (λ h. c.if-kind-eq2.false (c.byte_at-kind.ensures.0 ∙ h)))

-- `step_unfit` answers row 5. Assumes nothing.
use Rattle.file.proofs.step.step_unfit.Goals as goal

pub returns : goal.returns
returns c = cc

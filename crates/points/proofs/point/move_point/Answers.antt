-- `move_point` leaves `moved_point`, by the cases of the step; its rule says that the axes are there. Assumes nothing.
use mathlib.Core.Path.{sym}
use native.Mathlib.Omega.{arith}
use Rattle.points.specs.Step.{moved_point}
use Rattle.points.proofs.Moved.{fits_slide, fits_slant, fits_turn}
use Rattle.points.proofs.point.move_point.Goals as goal

pub add_at-requires : goal.add_at-requires
add_at-requires c =
    let fits = fits_slide _ _ _ _ c.in-Slide.is c.requires.1 in
    omega arith

pub add_at-requires-in-Slant : goal.add_at-requires-in-Slant
add_at-requires-in-Slant c =
    let fits = fits_slant _ _ _ _ _ _ c.in-Slant.is c.requires.1 in
    omega arith

pub add_at-requires-in-Slant-2 : goal.add_at-requires-in-Slant-2
add_at-requires-in-Slant-2 c =
    let fits = fits_slant _ _ _ _ _ _ c.in-Slant.is c.requires.1 in
    omega arith

pub overflow_sub-last : goal.overflow_sub-last
overflow_sub-last c = let fits = fits_turn _ _ _ c.in-Turn.is c.requires.1 in omega arith

pub turn-requires : goal.turn-requires
turn-requires c =
    let fits = fits_turn _ _ _ c.in-Turn.is c.requires.1 in
    omega arith

pub add_at-requires-in-Turn : goal.add_at-requires-in-Turn
add_at-requires-in-Turn c =
    let fits = fits_turn _ _ _ c.in-Turn.is c.requires.1 in
    omega arith

pub returns-in-Slide : goal.returns-in-Slide
unfolding moved_point
returns-in-Slide c = rw c.in-Slide.is c.add_at.ensures

pub returns-in-Slant : goal.returns-in-Slant
unfolding moved_point
returns-in-Slant c =
    rw (c.in-Slant.is, sym c.add_at-in-Slant.ensures) c.add_at-in-Slant-2.ensures

pub returns-in-Turn : goal.returns-in-Turn
unfolding moved_point
returns-in-Turn c =
    rw (c.in-Turn.is, sym c.turn.ensures) c.add_at-in-Turn.ensures

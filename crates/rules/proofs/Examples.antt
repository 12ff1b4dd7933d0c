-- The last refusal, the largest sizes and the smallest, computed.
use mathlib.Core.Path.{◌≡◌, refl}
use mathlib.Core.Bool.{true, false}
use Rattle.rules.specs.Limits.{sizes_ok}
use Rattle.rules.specs.Numbers.{number_of}
use Rattle.rules.specs.declared.refusal.Refusal.TheVariants as R

pub no_room_is_15 : number_of R.NoRoom ≡ 15
no_room_is_15 = refl

pub largest_sizes : sizes_ok 4096 4096 ≡ true
largest_sizes = refl

pub a_cell_too_many : sizes_ok 4096 4097 ≡ false
a_cell_too_many = refl

pub nothing_at_all : sizes_ok 0 0 ≡ true
nothing_at_all = refl

pub vertices-alone : sizes_ok 4096 0 ≡ true
vertices-alone = refl

pub a_cell_on_no_vertex : sizes_ok 0 1 ≡ false
a_cell_on_no_vertex = refl

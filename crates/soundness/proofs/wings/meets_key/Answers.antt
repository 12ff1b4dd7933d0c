-- A key's cell and position. Assumes nothing.
use Prim.Native.Nat.{suc}
use native.Mathlib.Nat.{div-lt_iff_lt-mul, mod-lt}
use native.Mathlib.Numerals.{add-one}
use native.Mathlib.Omega.{arith}
use Rattle.soundness.proofs.wings.meets_key.Goals as goal

pub meets-requires : goal.meets-requires
meets-requires c =
    let a = c.args in
    let t = c.requires.0 in
    rw (add-one a.d) (
      record {
        dimension = t.dimension;
        long = t.long;
        number = (div-lt_iff_lt-mul {k = suc a.d} {x = a.f} {y = a.s} (omega arith)).1 c.requires.1;
      },
      record { dimension = t.dimension; long = t.long; number = c.requires.2 },
      omega (arith, mod-lt a.f {m = suc a.d} (omega arith)),
      c.requires.3,
    )

pub returns : goal.returns
returns c = λ e.
    rw (add-one c.args.d) at (c.meets.ensures e)

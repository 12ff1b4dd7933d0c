-- Assumes nothing.
use mathlib.Core.Path.{◌≡◌, ap}
use Prim.Native.Nat.{suc, ◌+◌, ◌*◌, ◌<◌}
use native.Mathlib.Numerals.{add-one}
use native.Mathlib.Omega.{arith}
use Rattle.soundness.proofs.Places.{few_keys, key_inside}
use Rattle.soundness.proofs.keys.key.Goals as goal
use Rattle.soundness.proofs.keys.key.Goals.{Start}

-- the number as the code makes it
made : (s : Start) → let a = s.args in (a.p * (a.d + 1) + a.a ≡ a.p * suc a.d + a.a) × (a.p * suc a.d + a.a < 32768)
made s =
    let a = s.args in (
      ap (λ n. a.p * n + a.a) (add-one a.d),
      omega (
        arith,
        key_inside a.d a.s a.p a.a s.requires.2 s.requires.3,
        few_keys a.d a.s s.requires.0 s.requires.1,
      ),
    )

pub overflow_mul-result : goal.overflow_mul-result
overflow_mul-result c = omega (arith, made c)

pub overflow_add-result-2 : goal.overflow_add-result-2
overflow_add-result-2 c = omega (arith, made c)

pub returns : goal.returns
returns c =
    let a = c.args in
    let few = few_keys a.d a.s c.requires.0 c.requires.1 in
    let in_all = key_inside a.d a.s a.p a.a c.requires.2 c.requires.3 in
    ((made c).0, omega (arith, (made c).0), few)

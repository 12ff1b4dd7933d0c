-- One key more. Assumes nothing.
use mathlib.Core.Path.{refl, ap, ◌∙◌}
use Prim.Native.Nat.{suc, ◌+◌, ◌*◌, ◌<◌}
use native.Mathlib.Omega.{arith}
use lib.ListN.{length-set, set}
use Rattle.simplex.specs.SignWords.{turned_sign}
use Rattle.soundness.specs.Inner.Certified.{face_in}
use Rattle.soundness.specs.Inner.Coding.{code_of, mixed}
use Rattle.soundness.proofs.KnownKeys.{coded_more, rooms_less, rooms_more, turned_bit}
use Rattle.soundness.proofs.codes.put_key.Goals as goal
use Rattle.soundness.proofs.codes.put_key.Goals.{After-key-g}

-- the key is one of all
inside : (k : After-key-g) → k.key-g.result < k.args.s * suc k.args.d
inside k = k.key-g.ensures.1

pub overflow_add-code : goal.overflow_add-code
overflow_add-code c =
    omega (arith, c.requires.5, c.from.ensures, c.turned.ensures, turned_bit c.sign.result c.args.a)

-- the places of the second and the third word
pub bounds-known-g-2 : goal.bounds-known-g-2
bounds-known-g-2 c =
    omega (
      arith,
      inside (goal.at.bounds-known-g-2 c).After-key-g,
      c.requires.3.known_room,
      length-set c.args.known.now (c.key-g.result * 3) c.wing.result,
    )

pub bounds-known-g-3 : goal.bounds-known-g-3
bounds-known-g-3 c =
    let g = c.key-g.result * 3 in
    omega (
      arith,
      inside (goal.at.bounds-known-g-3 c).After-key-g,
      c.requires.3.known_room,
      length-set c.args.known.now g c.wing.result,
      length-set (set c.args.known.now g c.wing.result) (g + 1) c.args.p,
    )

pub returns : goal.returns
returns c =
    let a = c.args in
    let r = c.requires.3 in
    let e = c.key-g.ensures.0 in record {
      told = coded_more a.d a.b a.table.now a.p a.a c.key-g.result e c.requires.1 a.hash.now a.code.now a.known.now
          (rooms_less _ _ a.hash.now a.code.now a.known.now (inside (goal.at.returns c).After-key-g) r) c.requires.6
          _ _ _ _ _ (c.mixed.ensures ∙ ap mixed c.requires.4)
          (ap (λ i. i * 2 + c.from.result) c.requires.4
          ∙ ap (λ i. code_of a.b (face_in a.d a.table.now a.p a.a) * 2 + i)
          (c.from.ensures ∙ c.turned.ensures ∙ ap (λ i. turned_sign i a.a) c.sign.ensures))
          c.wing.ensures refl c.vertex.ensures;
      room = rooms_more _ c.key-g.result _ _ _ _ _ a.hash.now a.code.now a.known.now r;
    }

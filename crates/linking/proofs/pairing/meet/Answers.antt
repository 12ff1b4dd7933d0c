-- A key's cell and position, and the pairing. Assumes nothing.
use mathlib.Core.Path.{ap₂}
use mathlib.Core.Bool.{false≢true}
use Prim.Native.Nat.{suc, ◌/◌, ◌%◌, ◌<◌}
use native.Mathlib.Nat.{div-lt_iff_lt-mul, mod-lt}
use native.Mathlib.Numerals.{add-one}
use native.Mathlib.Omega.{arith}
use Rattle.records.specs.Inner.Inside.{Inside, vertex_in}
use Rattle.linking.specs.Inner.Linking.{Apt}
use Rattle.linking.proofs.pairing.meet.Goals as goal
use Rattle.linking.proofs.pairing.meet.Goals.{Start, Then-is_apt}

-- the cell of f, and p
insides : (s : Start) → let a = s.args in
    Inside a.d a.s (a.f / suc a.d) a.table.now × Inside a.d a.s a.p a.table.now × (a.f % suc a.d < suc a.d)
insides s =
    let a = s.args in
    let t = s.requires.0 in (
      record {
        dimension = t.dimension;
        long = t.long;
        number = (div-lt_iff_lt-mul {k = suc a.d} {x = a.f} {y = a.s} (omega arith)).1 s.requires.1;
      },
      record { dimension = t.dimension; long = t.long; number = s.requires.2 },
      mod-lt a.f {m = suc a.d} (omega arith),
    )

-- what was tested, at the key's place
tested : (c : Then-is_apt) → let a = (c.args) in
    Apt a.d a.table.now (a.f / suc a.d) (a.f % suc a.d) a.p a.a
tested c = rw (add-one c.args.d) at (c.is_apt.ensures c.if-is_apt.true)

pub is_apt-requires : goal.is_apt-requires
is_apt-requires c =
    let i = insides (goal.at.is_apt-requires c).Start in
    rw (add-one c.args.d) (i.0, i.1, omega (arith, i.2), c.requires.3)

pub join-requires : goal.join-requires
join-requires c =
    let i = insides (goal.at.join-requires c).Start in
    let a = c.args in
    rw (add-one a.d) (
      i.0,
      i.1,
      omega (arith, i.2),
      c.requires.3,
      c.requires.0.cells,
      λ e z. (tested (goal.at.join-requires c).Then-is_apt).apex (ap₂ (λ q b. vertex_in a.d a.table.now q b) e z),
    )

pub returns-then-is_apt : goal.returns-then-is_apt
returns-then-is_apt c = λ z.
    (tested (goal.at.returns-then-is_apt c).Then-is_apt, rw (add-one c.args.d) at c.join.ensures)

pub returns : goal.returns
returns c = λ e. absurd (false≢true e)

-- The first level from the table, the second from the first, the others raised. Assumes nothing.
use Rattle.std.proofs.Common.{◌≡◌, ℕ, ◌+◌, ◌-◌, ◌*◌, ◌≤◌, ap, ◌∙◌, one-mul, zero-mul, arith}
use Rattle.words.proofs.Records.{record_next}
use Rattle.sweeping.proofs.SweptWords.{level-long}
use Rattle.sweeping.proofs.writing.next_level.Goals as goal

-- where level i begins, from level i - 2
begins : (n i : ℕ) → 2 ≤ i → i * n ≡ (i - 2) * n + n + n
begins n i h =
    ap (λ (m : ℕ). m * n) {x = i} {y = i - 2 + 1 + 1} (omega arith) ∙ record_next n (i - 2 + 1)
    ∙ ap (λ (m : ℕ). m + n) (record_next n (i - 2))

pub write_level-behind-requires : goal.write_level-behind-requires
write_level-behind-requires g c =
    let a = c.args in
    let long = level-long g.row.D a.v a.s a.h a.table.now c.requires.ready.long 0 in
    record {
      ready = c.requires.ready;
      at = omega (arith, c.requires.at.0);
      room = omega (arith, long, c.requires.at.1, c.requires.room);
    }

pub returns-then-i-eq0 : goal.returns-then-i-eq0
returns-then-i-eq0 g c =
    rw (c.if-i-eq0.true, zero-mul c.args.n) c.write_level-behind.ensures.words

pub second_level-requires : goal.second_level-requires
second_level-requires g c =
    let a = c.args in
    let one : a.i * a.n ≡ a.n = ap (λ m. m * a.n) c.if-i-eq1.true ∙ one-mul a.n in record {
      ready = c.requires.ready;
      at = (omega (arith, c.requires.at.0, c.if-i-eq1.true), c.requires.at.1);
      below = (λ e l. rw (zero-mul a.n) at (c.requires.below 0 e (omega (arith, c.if-i-eq1.true)) l));
      room = omega (arith, one, c.requires.room);
    }

pub returns-then-i-eq1 : goal.returns-then-i-eq1
returns-then-i-eq1 g c =
    rw (c.if-i-eq1.true, one-mul c.args.n) c.second_level.ensures

pub raise_level-requires : goal.raise_level-requires
raise_level-requires g c =
    let a = c.args in
    let two : 2 ≤ a.i = omega (arith, c.if-i-eq0.false, c.if-i-eq1.false) in
    let below = c.requires.below in record {
      ready = c.requires.ready;
      at = (omega (arith, c.requires.at.0, two), c.requires.at.1);
      below = (
        (λ x l. below (a.i - 2) x (omega (arith, two)) l),
        (λ x l. rw (record_next a.n (a.i - 2)) at (below (a.i - 2 + 1) x (omega (arith, two)) l)),
      );
      room = omega (arith, c.requires.room, begins a.n a.i (two));
    }

pub returns : goal.returns
returns g c =
    let a = c.args in
    let two : 2 ≤ a.i = omega (arith, c.if-i-eq0.false, c.if-i-eq1.false) in
    let level : a.i - 2 + 2 ≡ a.i = omega (arith, two) in
    rw (begins a.n a.i (two)) (rw level at c.raise_level.ensures)

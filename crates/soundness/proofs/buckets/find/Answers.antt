-- The goals that the search leaves. Assumes nothing.
use mathlib.Core.Path.{◌≡◌, ap, ◌∙◌}
use mathlib.Core.Logic.{⊎_elim}
use Prim.Native.Nat.{ℕ, ◌<◌}
use native.Mathlib.Omega.{arith}
use lib.ListN.{get_or, length}
use Rattle.soundness.specs.Inner.Hashing.{bucket_in}
use Rattle.soundness.proofs.Chaining.{past_end, past_next, past_start}
use Rattle.soundness.proofs.buckets.find.Goals as goal
use Rattle.soundness.proofs.buckets.find.Invariants.{Other}
use Rattle.soundness.proofs.buckets.find.Goals.{After-from-j, At-loop, Else-f}

-- what is looked at is a key before g
lower : (c : Else-f) → c.loop.f < c.args.g
lower c =
    ⊎_elim {C = c.loop.f < c.args.g} (λ z. absurd (c.if-f.false z)) (λ r. r.0)
    (c.loop.invariant c.requires.0).0

-- so it has a hash and a link
here : (c : After-from-j) → let a = c.args in
    (c.from-j.result < 32768) × (c.from-j.result < length a.hash.now) × (c.from-j.result < length a.next.now)
here c =
    let l = lower (goal.at.After-from-j c).Else-f in
    omega (arith, l, c.from-j.ensures, c.requires.1, c.requires.2, c.requires.3)

-- at the end none has it
none : (c : At-loop) → c.loop.f ≡ 65535 → let a = c.args in (j : ℕ) → j < a.g → Other a.hash.now a.g j
none c e j l z =
    let a = c.args in
    let k = c.requires.0 in
    let r = k.kept j l in
    let same = r.2 ∙ z in
    past_end k.bk (Other a.hash.now a.g) _ a.g _ (c.loop.invariant k) e r.0 (omega (arith, r.1, l))
    (r.3 ∙ ap (bucket_in a.buckets) same) same

pub loop-init : goal.loop-init
loop-init c k =
    let a = c.args in
    past_start k.bk (Other a.hash.now a.g) _ a.g _ (omega (arith, c.requires.1)) k.last

pub returns-then-f : goal.returns-then-f
returns-then-f c =
    record {
      none = (λ e. none (goal.at.returns-then-f c).At-loop c.if-f.true);
      found = (λ l. absurd (omega (arith, l, c.requires.1)));
    }

pub offset_bounds-hash-j : goal.offset_bounds-hash-j
offset_bounds-hash-j c = let h = here c in omega (arith, h.0)

pub bounds-hash-j : goal.bounds-hash-j
bounds-hash-j c = let h = here (goal.at.bounds-hash-j c).After-from-j in omega (arith, h.1)

pub returns-then-hash-j : goal.returns-then-hash-j
returns-then-hash-j c =
    let h = here (goal.at.returns-then-hash-j c).After-from-j in
    record {
      none = (λ e. absurd (omega (arith, h.0, e)));
      found = (λ l. c.if-hash-j.true);
    }

pub offset_bounds-next-j : goal.offset_bounds-next-j
offset_bounds-next-j c = let h = here (goal.at.offset_bounds-next-j c).After-from-j in omega (arith, h.0)

pub bounds-next-j : goal.bounds-next-j
bounds-next-j c = let h = here (goal.at.bounds-next-j c).After-from-j in omega (arith, h.2)

pub loop-preserved : goal.loop-preserved
loop-preserved c k =
    let a = c.args in
    let f = c.loop.f in
    let past = c.loop.invariant k in
    let e : c.from-j.result ≡ f = c.from-j.ensures in
    let own : k.bk f < a.buckets =
    ⊎_elim {C = k.bk f < a.buckets} (λ z. absurd (c.if-f.false z)) (λ r. omega (arith, r.1, k.low)) past.0 in
    past_next k.bk (Other a.hash.now a.g) _ a.g f _ (omega (arith, c.requires.1)) past c.if-f.false
    (λ z. c.if-hash-j.false (ap (λ j. get_or a.hash.now j 0) e ∙ z)) (ap (λ j. get_or a.next.now j 0) e
    ∙ k.links f (lower (goal.at.loop-preserved c).Else-f) own)

pub returns-then-f-2 : goal.returns-then-f-2
returns-then-f-2 c =
    record {
      none = (λ e. none (goal.at.returns-then-f-2 c).At-loop c.if-f-2.true);
      found = (λ l. absurd (omega (arith, l, c.requires.1)));
    }

pub returns-else-f-2 : goal.returns-else-f-2
returns-else-f-2 c = record {
  none = (λ e. absurd (omega (arith, c.requires.1, e)));
  found = (λ l. absurd (omega (arith, l)));
}

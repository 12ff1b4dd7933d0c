-- The goals that the search leaves. Assumes nothing.
use mathlib.Core.Path.{◌≡◌, subst, subst⁻¹}
use mathlib.Core.Logic.{⊎_elim, inl, inr}
use Prim.Native.Nat.{ℕ, ◌+◌, ◌<◌, ◌≤◌}
use native.Mathlib.Nat.{lt_trans}
use native.Mathlib.Omega.{arith}
use lib.ListN.{get_or}
use Rattle.matching.specs.Inner.Links.{last_of}
use Rattle.matching.specs.Inner.Classes.{key_digit, class_at, Visiting}
use Rattle.matching.proofs.Earlier.{rank, rank_is, rank_none, rank_under, last_of_lem}
use Rattle.matching.proofs.Parting.{visiting_start, visiting_down, visited, parted_class, seen_next}
use Rattle.matching.proofs.Keys.part_class.Goals as goal
use Rattle.matching.proofs.Keys.part_class.Goals.{After-from-g, Start}

few : (s : Start) → s.args.n ≤ 32768
few s = omega (arith, s.requires.worded.1, s.requires.worded.0.keyed.most)

-- the digits of the keys
abbrev digits : Start → ℕ → ℕ
digits s = let a = s.args in key_digit a.rows.now a.self.k a.self.w a.self.first a.j

-- the number of the key at f, which is one of the class
abbrev key : After-from-g → ℕ
key c = c.from-g.result

at : (c : After-from-g) → (key c < c.args.n) × (get_or c.args.class.now (key c) 0 ≡ c.args.c)
at c =
    let a = c.args in
    subst⁻¹ (λ (g : ℕ). (g < a.n) × (get_or a.class.now g 0 ≡ a.c)) c.from-g.ensures
    (⊎_elim (λ e. absurd (c.loop-f-test.true e)) (λ h. h) c.loop-f.invariant.1)

-- what stands above it
above : (c : After-from-g) → rank c.loop-f.f ≡ key c + 1
above c = omega (arith, rank_is c.loop-f.f (omega (arith, (at c).0, few (goal.at.After-from-g c).Start, c.from-g.ensures)), c.from-g.ensures)

visiting : (c : After-from-g) → let a = c.args in let l = c.loop-f in
    Visiting a.n a.class.now (digits (goal.at.After-from-g c).Start) l.class l.seen a.c (key c + 1)
visiting c =
    let a = c.args in
    let l = c.loop-f in
    subst (λ (m : ℕ). Visiting a.n a.class.now (digits (goal.at.After-from-g c).Start) l.class l.seen a.c m) (above c) l.invariant.0

-- the link from it
linked : (c : After-from-g) → let a = c.args in
    get_or a.prev.now (key c) 0 ≡ last_of (class_at a.class.now) a.c (key c)
linked c = c.requires.by_index (key c) (at c).0 (at c).1

pub overflow_cast-f : goal.overflow_cast-f
overflow_cast-f c = omega (arith, few c, c.requires.worded.2)

pub loop-f-init : goal.loop-f-init
loop-f-init c =
    let a = c.args in
    let e = c.requires.worded.3 in (
      visiting_down a.n a.class.now (digits c) (few c) a.class.now a.seen.now a.c a.n a.c (omega arith) e
          (visiting_start a.n a.class.now (digits c) (few c) a.seen.now a.c c.requires.class_len.0 c.requires.class_len.1),
      last_of_lem (class_at a.class.now) a.c a.n a.c (omega (arith, few c)) e,
    )

pub digit-x-requires : goal.digit-x-requires
digit-x-requires c =
    (c.requires.worded.0, omega (arith, (at c).0, c.requires.worded.1))

pub visit-requires : goal.visit-requires
visit-requires c =
    let i = few (goal.at.visit-requires c).Start in record {
      c_bound = (omega (arith, c.requires.worded.2), omega (arith, (at (goal.at.visit-requires c).After-from-g).0), c.digit-x.ensures.1);
      x_bound = (λ t. omega (arith, ((visiting (goal.at.visit-requires c).After-from-g).mine c.digit-x.result c.digit-x.ensures.1 t).1));
    }

pub offset_bounds-prev-g : goal.offset_bounds-prev-g
offset_bounds-prev-g c = omega (arith, (at (goal.at.offset_bounds-prev-g c).After-from-g).0, few (goal.at.offset_bounds-prev-g c).Start)

pub bounds-prev-g : goal.bounds-prev-g
bounds-prev-g c = omega (arith, (at (goal.at.bounds-prev-g c).After-from-g).0, few (goal.at.bounds-prev-g c).Start)

pub loop-f-smaller : goal.loop-f-smaller
loop-f-smaller c =
    let a = c.args in
    let b = (at (goal.at.loop-f-smaller c).After-from-g).0 in
    let i = few (goal.at.loop-f-smaller c).Start in
    omega (
      arith,
      rank_under (class_at a.class.now) a.c (key (goal.at.loop-f-smaller c).After-from-g) _ (omega arith)
          (linked (goal.at.loop-f-smaller c).After-from-g),
      above (goal.at.loop-f-smaller c).After-from-g,
    )

pub loop-f-preserved : goal.loop-f-preserved
loop-f-preserved c =
    let a = c.args in
    let b = (at (goal.at.loop-f-preserved c).After-from-g).0 in
    let i = few (goal.at.loop-f-preserved c).Start in (
      visiting_down a.n a.class.now (digits (goal.at.loop-f-preserved c).Start) i _ _ a.c (key (goal.at.loop-f-preserved c).After-from-g) _
          (omega arith) (linked (goal.at.loop-f-preserved c).After-from-g)
          (visited a.n a.class.now (digits (goal.at.loop-f-preserved c).Start) i _ _ a.c (key (goal.at.loop-f-preserved c).After-from-g) b
          (at (goal.at.loop-f-preserved c).After-from-g).1 (omega (arith, c.digit-x.ensures.0, c.digit-x.ensures.1))
          (visiting (goal.at.loop-f-preserved c).After-from-g) _ _ _ c.digit-x.ensures.0 c.visit.ensures),
      ⊎_elim (λ h. inl h) (λ h. inr (lt_trans h.0 b, h.1))
          (last_of_lem (class_at a.class.now) a.c (key (goal.at.loop-f-preserved c).After-from-g) _ (omega arith)
          (linked (goal.at.loop-f-preserved c).After-from-g)),
    )

pub returns : goal.returns
returns c =
    let a = c.args in
    let l = c.loop-f in
    let v = subst (λ (m : ℕ). Visiting a.n a.class.now (digits (goal.at.returns c).Start) l.class l.seen a.c m)
    (rank_none l.f c.loop-f-test.false) l.invariant.0 in record {
      parted = parted_class a.n a.class.now (digits (goal.at.returns c).Start) (few (goal.at.returns c).Start) l.class l.seen a.c v;
      seen = seen_next a.n a.class.now (digits (goal.at.returns c).Start) (few (goal.at.returns c).Start) l.class l.seen a.c v;
    }

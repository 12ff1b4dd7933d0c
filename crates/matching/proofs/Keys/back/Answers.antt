-- The goals that the search leaves. Assumes nothing.
use mathlib.Core.Path.{◌≡◌, sym, ◌∙◌}
use Prim.Native.Nat.{ℕ, ◌<◌}
use native.Mathlib.Nat.{div-lt_iff_lt-mul, mod-lt, lt_trans}
use native.Mathlib.Omega.{arith}
use Rattle.simplex.specs.Cell.{Row, same_row}
use Rattle.matching.specs.Inner.Matching.{key_row, earlier}
use Rattle.matching.specs.Inner.Buckets.{bucket_at}
use Rattle.matching.proofs.Earlier.{rank_is, rank_under, walk_start, walk_below, walk_found, walk_end, walk_next}
use Rattle.matching.proofs.Links.{compared}
use Rattle.matching.proofs.Keys.back.Goals as goal
use Rattle.matching.proofs.Keys.back.Goals.{After-same_key, In-loop-f, Start}

-- the rows of the keys
abbrev keys : Start → ℕ → Row
keys s = let a = s.args in key_row a.rows.now a.self.k a.self.w a.self.first

-- f is a key before g
lower : (c : In-loop-f) → c.loop-f.f < c.args.g
lower c = (walk_below (keys (goal.at.In-loop-f c).Start) _ _ c.loop-f.invariant c.loop-f-test.true).0

-- the comparison is that of the two keys
compares : (c : After-same_key) →
    c.same_key.result ≡ same_row (keys (goal.at.After-same_key c).Start c.loop-f.f) (keys (goal.at.After-same_key c).Start c.args.g)
compares c =
    let a = c.args in
    let x = (c.place_of-there) in
    let y = (c.place_of-here) in
    compared a.rows.now a.self.k _ a.self.first _ _ _ _ _ _ x.ensures.0 x.ensures.1 y.ensures.0 y.ensures.1 _ c.same_key.ensures

pub place_of-here-requires : goal.place_of-here-requires
place_of-here-requires c = (omega arith, c.requires.keyed.0.some, c.requires.keyed.0.most, c.requires.keyed.1)

pub loop-f-init : goal.loop-f-init
loop-f-init c =
    walk_start (keys (goal.at.loop-f-init c).Start) _ _ (omega arith) (c.requires.linked _ (omega arith))

pub returns-then-left-eq0 : goal.returns-then-left-eq0
returns-then-left-eq0 c = λ h. absurd (omega arith)

pub overflow_cast-x : goal.overflow_cast-x
overflow_cast-x c = omega (arith, lower (goal.at.overflow_cast-x c).In-loop-f)

pub place_of-there-requires : goal.place_of-there-requires
place_of-there-requires c =
    (omega (arith, lower (goal.at.place_of-there-requires c).In-loop-f), c.requires.keyed.0.some, c.requires.keyed.0.most, c.requires.keyed.1)

pub overflow_add-a : goal.overflow_add-a
overflow_add-a c =
    omega (arith, mod-lt c.loop-f.f c.requires.keyed.0.some, c.requires.keyed.0.most, c.requires.keyed.0.start)

pub overflow_add-b : goal.overflow_add-b
overflow_add-b c =
    omega (arith, mod-lt c.args.g c.requires.keyed.0.some, c.requires.keyed.0.most, c.requires.keyed.0.start)

pub same_key-requires : goal.same_key-requires
same_key-requires c = (
  c.requires.keyed.0.long,
  c.requires.keyed.0.vertices,
  omega (
    arith,
    (div-lt_iff_lt-mul {y = 4096} c.requires.keyed.0.some).1
        (lt_trans (lower (goal.at.same_key-requires c).In-loop-f) c.requires.keyed.2),
    c.place_of-there.ensures.0,
  ),
  omega (arith, (div-lt_iff_lt-mul {y = 4096} c.requires.keyed.0.some).1 c.requires.keyed.2, c.place_of-here.ensures.0),
)

pub returns-then-same_key : goal.returns-then-same_key
unfolding earlier
returns-then-same_key c =
    λ h. sym (walk_found (keys (goal.at.returns-then-same_key c).Start) _ _ c.loop-f.invariant c.loop-f-test.true
    (sym (compares (goal.at.returns-then-same_key c).After-same_key) ∙ c.if-same_key.true))

pub offset_bounds-prev-x : goal.offset_bounds-prev-x
offset_bounds-prev-x c = omega (arith, lower (goal.at.offset_bounds-prev-x c).In-loop-f)

pub bounds-prev-x : goal.bounds-prev-x
bounds-prev-x c = omega (arith, lower (goal.at.bounds-prev-x c).In-loop-f)

pub loop-f-smaller : goal.loop-f-smaller
loop-f-smaller c =
    let f = c.loop-f.f in
    let h = lower (goal.at.loop-f-smaller c).In-loop-f in
    omega (
      arith,
      rank_under (bucket_at (keys (goal.at.loop-f-smaller c).Start)) _ f _ (omega arith) (c.requires.linked f (omega arith)),
      rank_is f (omega arith),
    )

pub loop-f-preserved : goal.loop-f-preserved
loop-f-preserved c =
    let h = lower (goal.at.loop-f-preserved c).In-loop-f in
    walk_next (keys (goal.at.loop-f-preserved c).Start) _ _ _ (omega arith) c.loop-f.invariant c.loop-f-test.true
    (sym (compares (goal.at.loop-f-preserved c).After-same_key) ∙ c.if-same_key.false) (c.requires.linked _ (omega arith))

pub returns : goal.returns
unfolding earlier
returns c =
    λ h. sym (walk_end (keys (goal.at.returns c).Start) _ _ c.loop-f.invariant c.loop-f-test.false)

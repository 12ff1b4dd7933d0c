-- Each return is a case of the laws of Faults. Assumes nothing.
--   held              the cells that are held
--   after-pair        what pairing found, in the words of those laws
use mathlib.Core.Bool.{true, false}
use mathlib.Core.List.{List, []}
use mathlib.Core.Logic.{inr}
use mathlib.Core.Path.{◌≡◌, refl, sym, ap, ◌∙◌}
use Prim.Native.Nat.{ℕ, ◌+◌, ◌*◌}
use native.Mathlib.Nat.{mul-le-mul, mul-le-mul_right, not-suc-le-zero}
use native.Mathlib.Omega.{arith}
use lib.ListN.{length-replicate}
use Rattle.simplex.specs.Cell.{Cell}
use Rattle.solids.specs.Accept.{cell_twice}
use Rattle.tables.specs.Inner.Held.{Winged, faults, held_cells}
use Rattle.tables.specs.Inner.Pairing.{face_count}
use Rattle.tables.proofs.Adjacent.{face-count}
use Rattle.tables.proofs.Faults.{found_9, found_10, found_11, found_none, found-wings, twins_are}
use Rattle.tables.proofs.adjacency.adjacent.Goals as goal
use Rattle.tables.proofs.adjacency.adjacent.Goals.{After-pair-found, Start}

abbrev held : Start → (ℕ → ℕ) → List Cell
held s made = let a = s.args in held_cells a.d a.s a.rows.now a.signs.now made

nine : (s : Start) (made : ℕ → ℕ) → cell_twice (held s made) ≡ true → 9 ≡ faults (held s made)
nine s made = let a = s.args in found_9 _ _ a.rows.now a.signs.now made s.requires.d_bound.0 s.requires.d_bound.1 s.requires.d_bound.2

-- what pairing found
module _ (p : After-pair-found) (made : ℕ → ℕ) where
  abbrev start : Start
  start = (goal.at.After-pair-found p).Start

  abbrev keys : List ℕ
  keys = p.earlier_equal.new.prev

  abbrev faces : ℕ
  faces = start.args.s * (start.args.d + 1)

  some : start.args.d ≡ 0 → ⊥
  some = p.if-d-eq0.false

  counted : faces ≡ face_count start.args.d start.args.s
  counted = sym (face-count start.args.d start.args.s some)

  ten : cell_twice (held start made) ≡ false → p.pair-found.result.crowded ≡ true → 10 ≡ faults (held start made)
  ten once e =
      let a = start.args in
      found_10 a.d a.s a.rows.now a.signs.now made p.requires.d_bound.0 p.requires.d_bound.1 p.requires.d_bound.2 keys faces counted
      p.earlier_equal.ensures.by_index once (sym p.pair-found.ensures.twice ∙ e)

  module _ (met : p.pair-found.result.crowded ≡ false) where
    twin : cell_twice (held start made) ≡ p.pair-found.result.repeated
    twin =
        let a = start.args in
        twins_are a.d a.s a.rows.now a.signs.now made p.requires.d_bound.0 p.requires.d_bound.1 p.requires.d_bound.2 keys faces counted
        p.earlier_equal.ensures.by_index (sym p.pair-found.ensures.twice ∙ met) some
        ∙ sym p.pair-found.ensures.twin

    eleven : cell_twice (held start made) ≡ false → p.pair-found.result.equal ≡ true → 11 ≡ faults (held start made)
    eleven once e =
        let a = start.args in
        found_11 a.d a.s a.rows.now a.signs.now made p.requires.d_bound.0 p.requires.d_bound.1 p.requires.d_bound.2 keys faces counted
        p.earlier_equal.ensures.by_index (sym p.pair-found.ensures.twice ∙ met) once (sym p.pair-found.ensures.like ∙ e)

    none : cell_twice (held start made) ≡ false → p.pair-found.result.equal ≡ false → 0 ≡ faults (held start made)
    none once e =
        let a = start.args in
        found_none a.d a.s a.rows.now a.signs.now made p.requires.d_bound.0 p.requires.d_bound.1 p.requires.d_bound.2 keys faces counted
        p.earlier_equal.ensures.by_index (sym p.pair-found.ensures.twice ∙ met) once (sym p.pair-found.ensures.like ∙ e)

    wings : (X : List ℕ) → X ≡ p.pair-found.new.wings → Winged start.args.d (held start made) X
    wings X e =
        let a = start.args in
        found-wings a.d a.s a.rows.now a.signs.now made p.requires.d_bound.0 p.requires.d_bound.1 p.requires.d_bound.2 keys faces counted
        p.earlier_equal.ensures.by_index (sym p.pair-found.ensures.twice ∙ met) a.wings.now X p.requires.rows_value p.requires.d_bound.3
        (e ∙ p.pair-found.ensures.wings)

pub returns-then-any_repeated : goal.returns-then-any_repeated
returns-then-any_repeated c =
    record {
      fault = (λ made. nine (goal.at.returns-then-any_repeated c).Start made (sym (c.any_repeated.ensures c.args.signs.now made)
          ∙ c.if-any_repeated.true));
      wings = (λ made z. absurd (omega (arith, z)));
    }

-- points have no faces
pub returns-then-d-eq0 : goal.returns-then-d-eq0
returns-then-d-eq0 c =
    let a = c.args in
    let empty : 0 ≡ face_count a.d a.s = sym (ap (λ (d : ℕ). face_count d a.s) c.if-d-eq0.true) in record {
      fault = (λ made. found_none _ _ a.rows.now a.signs.now made c.requires.d_bound.0 c.requires.d_bound.1 c.requires.d_bound.2 [] 0 empty
          (λ g l. absurd (not-suc-le-zero l)) refl (sym (c.any_repeated.ensures a.signs.now made) ∙ c.if-any_repeated.false) refl);
      wings = λ made z.
          found-wings _ _ a.rows.now a.signs.now made c.requires.d_bound.0
          c.requires.d_bound.1 c.requires.d_bound.2 [] 0 empty (λ g l. absurd (not-suc-le-zero l)) refl a.wings.now _ c.requires.rows_value
          c.requires.d_bound.3 refl;
    }

pub overflow_add-k : goal.overflow_add-k
overflow_add-k c = omega arith

pub earlier_equal-requires : goal.earlier_equal-requires
earlier_equal-requires c = (
  record {
    long = c.requires.d_bound.2;
    vertices = omega arith;
    some = omega arith;
    most = omega arith;
    start = omega arith;
    alike = inr (omega arith);
  },
  omega arith,
  length-replicate {A = ℕ} 32768 65535,
)

pub overflow_mul-s : goal.overflow_mul-s
overflow_mul-s c =
    let a = c.args in
    omega (arith, mul-le-mul {n₁ = a.s} {m₁ = a.d + 1} {n₂ = 4096} {m₂ = 8} (omega arith) (omega arith))

pub pair-found-requires : goal.pair-found-requires
pair-found-requires c =
    let a = c.args in
    (omega arith, omega arith, mul-le-mul_right {n = 4096} (a.d + 1) c.requires.d_bound.1, c.requires.d_bound.3.0)

pub returns-then-any_repeated-2 : goal.returns-then-any_repeated-2
returns-then-any_repeated-2 c =
    let s = (goal.at.returns-then-any_repeated-2 c).Start in record {
      fault = (λ made. nine s made (sym (c.any_repeated-then-found.ensures s.args.signs.now made) ∙ c.if-any_repeated-2.true));
      wings = (λ made z. absurd (omega (arith, z)));
    }

pub returns-then-found : goal.returns-then-found
returns-then-found c =
    let s = (goal.at.returns-then-found c).Start in record {
      fault = (λ made. ten (goal.at.returns-then-found c).After-pair-found made (sym (c.any_repeated-then-found.ensures s.args.signs.now made)
          ∙ c.if-any_repeated-2.false) (cc));
      wings = (λ made z. absurd (omega (arith, z)));
    }

pub returns-then-found-2 : goal.returns-then-found-2
returns-then-found-2 c =
    record {
      fault = (λ made. nine (goal.at.returns-then-found-2 c).Start made (twin (goal.at.returns-then-found-2 c).After-pair-found made c.if-found.false
          ∙ c.if-found-2.true));
      wings = (λ made z. absurd (omega (arith, z)));
    }

pub returns-then-found-3 : goal.returns-then-found-3
returns-then-found-3 c =
    let met = c.if-found.false in record {
      fault = (λ made. eleven (goal.at.returns-then-found-3 c).After-pair-found made met
          (twin (goal.at.returns-then-found-3 c).After-pair-found made met ∙ c.if-found-2.false) c.if-found-3.true);
      wings = (λ made z. absurd (omega (arith, z)));
    }

pub returns : goal.returns
returns c =
    let met = c.if-found.false in
    record {
      fault = (λ made. none (goal.at.returns c).After-pair-found made met (twin (goal.at.returns c).After-pair-found made met ∙ c.if-found-2.false)
          c.if-found-3.false);
      wings = (λ made z. wings (goal.at.returns c).After-pair-found made met _ refl);
    }

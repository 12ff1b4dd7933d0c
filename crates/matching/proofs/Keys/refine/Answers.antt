-- The goals that the search leaves. Assumes nothing.
use mathlib.Core.Path.{◌≡◌, sym, subst, subst⁻¹, ◌∙◌}
use mathlib.Core.List.{List}
use Prim.Native.Nat.{ℕ, ◌+◌, ◌≤◌, ◌<◌}
use native.Mathlib.Omega.{arith}
use lib.ListN.{length-replicate, get_or-replicate}
use Rattle.matching.specs.Inner.Classes.{key_digit, Parted, Seen}
use Rattle.matching.proofs.Refining.{refine_start, refine_none, chain_start, chain, refine_more}
use Rattle.matching.proofs.Keys.refine.Goals as goal
use Rattle.matching.proofs.Keys.refine.Goals.{In-loop-c, Start, then-from-c, else-from-c}

few : (s : Start) → s.args.n ≤ 32768
few s = omega (arith, s.requires.worded.1, s.requires.worded.0.keyed.most)

-- the digits of the keys
abbrev digits : Start → ℕ → ℕ
digits s = let a = s.args in key_digit a.rows.now a.self.k a.self.w a.self.first a.j

in_table : (c : In-loop-c) → c.loop-c.c < 32768
in_table c = omega (arith, few (goal.at.In-loop-c c).Start)

pub loop-c-init : goal.loop-c-init
loop-c-init c = (
  refine_start _ _ _ c.requires.worded.3,
  record { under = λ y l. omega (arith, get_or-replicate {A = ℕ} 4096 y 0 0 l); seen_long = length-replicate {A = ℕ} 4096 0 },
)

pub offset_bounds-class-c : goal.offset_bounds-class-c
offset_bounds-class-c c = omega (arith, in_table c)

pub bounds-class-c : goal.bounds-class-c
bounds-class-c c = omega (arith, in_table (goal.at.bounds-class-c c).In-loop-c)

pub part_class-requires : goal.part_class-requires
part_class-requires c =
    let a = c.args in
    let l = c.loop-c in
    let is = sym c.from.ensures ∙ c.if-from-c.true in record {
      worded = (
        c.requires.worded.0,
        c.requires.worded.1,
        c.loop-c-test.true,
        chain_start a.n a.class.now (digits (goal.at.part_class-requires c).Start) (few (goal.at.part_class-requires c).Start) c.requires.worded.2
            l.class l.c c.loop-c-test.true l.invariant.0 is,
      );
      by_index = chain a.n a.class.now (digits (goal.at.part_class-requires c).Start) (few (goal.at.part_class-requires c).Start) c.requires.worded.2
          l.class l.c c.loop-c-test.true l.invariant.0 is
          a.prev.now c.requires.linked;
      class_len = (l.invariant.0.new_long, l.invariant.1);
    }

pub loop-c-preserved : goal.loop-c-preserved
loop-c-preserved c =
    let a = c.args in
    let l = c.loop-c in
    let few = few (goal.at.loop-c-preserved c).Start in
    let P : List ℕ → Type 0 = Parted (λ b. b < l.c + 1) a.n a.class.now (digits (goal.at.loop-c-preserved c).Start) in
    let S : List ℕ → Type 0 = λ x. Seen x (l.c + 1) in (
      elim c.if-from-c.branch [
        | then-from-c h ↦ subst⁻¹ P h.class-is
            (refine_more a.n a.class.now (digits (goal.at.loop-c-preserved c).Start) few c.requires.worded.2 l.class l.c c.loop-c-test.true
            l.invariant.0
            (sym c.from.ensures ∙ h.if-from-c.true) _ h.part_class.ensures.parted)
        | else-from-c h ↦ subst⁻¹ P h.class-is
            (refine_none a.n a.class.now (digits (goal.at.loop-c-preserved c).Start) few c.requires.worded.2 l.class l.c c.loop-c-test.true
            l.invariant.0
            (λ q. h.if-from-c.false (c.from.ensures ∙ q)))
      ],
      elim c.if-from-c.branch [
        | then-from-c h ↦ subst⁻¹ S h.seen-is h.part_class.ensures.seen
        | else-from-c h ↦ subst⁻¹ S h.seen-is (record { under = λ y b. omega (arith, l.invariant.1.under y b); seen_long = l.invariant.1.seen_long })
      ],
    )

pub returns : goal.returns
returns c =
    let a = c.args in
    let l = c.loop-c in
    let e : l.c ≡ a.n = omega arith in
    subst (λ (m : ℕ). Parted (λ b. b < m) a.n a.class.now (digits (goal.at.returns c).Start) l.class) e l.invariant.0

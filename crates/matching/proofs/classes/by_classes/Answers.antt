-- The goals that the search leaves. Assumes nothing.
use mathlib.Core.Path.{◌≡◌, refl, sym, subst, ◌∙◌}
use Prim.Native.Nat.{ℕ, ◌-◌, ◌*◌, ◌/◌, ◌≤◌}
use native.Mathlib.Omega.{arith}
use Rattle.matching.specs.Inner.Classes.{key_digit, Worded, Classed}
use Rattle.matching.proofs.Classing.{classed_start, answered, alike-kept, key_long}
use Rattle.matching.proofs.KeptRows.{kept-few}
use Rattle.matching.proofs.Links.{filled_front}
use Rattle.matching.proofs.classes.by_classes.Goals as goal
use Rattle.matching.proofs.classes.by_classes.Goals.{After-kept-m, In-loop-j, Start}

few : (s : Start) → s.args.n ≤ 32768
few s = omega (arith, s.requires.keyed.1, s.requires.keyed.0.most)

most : (c : After-kept-m) → c.kept-m.result ≤ 8
most c =
    omega (arith, c.kept-m.ensures, kept-few c.args.k c.args.first c.requires.keyed.0.vertices)

-- the word that is read in a turn
worded : (c : In-loop-j) → let a = c.args in
    Worded a.rows.now a.k a.w a.first a.part (c.loop-j.j / 2)
worded c =
    let a = c.args in
    record {
      keyed = c.requires.keyed.0;
      cut = c.requires.keyed.2;
      inside = λ i l. omega (arith, alike-kept a.k a.w a.first i c.requires.keyed.0.alike l, c.kept-m.ensures, c.loop-j-test.true);
    }

pub returns-then-n-eq0 : goal.returns-then-n-eq0
returns-then-n-eq0 c =
    record {
      answered = record { long = c.requires.class_len.1; each = λ g l. absurd (omega arith); behind = λ g l. refl };
      class_len_2 = c.requires.class_len.0;
    }

pub overflow_mul-m : goal.overflow_mul-m
overflow_mul-m c = omega (arith, most c)

pub overflow_cast-n : goal.overflow_cast-n
overflow_cast-n c = omega (arith, few (goal.at.overflow_cast-n c).Start)

pub loop-j-init : goal.loop-j-init
loop-j-init c =
    let a = c.args in
    let f = filled_front a.n (a.n - 1) a.class.now c.fill.new.self (omega (arith, few (goal.at.loop-j-init c).Start))
    (c.fill.ensures.after (λ y e. e)) in
    (classed_start _ _ _ (f.long ∙ c.requires.class_len.0) f.each, c.requires.class_len.1, (λ g h. refl))

pub pass-requires : goal.pass-requires
pass-requires c =
    let i = c.loop-j.invariant in
    record {
      worded = (worded (goal.at.pass-requires c).In-loop-j, c.requires.keyed.1, i.1);
      classed = i.0;
    }

pub loop-j-preserved : goal.loop-j-preserved
loop-j-preserved c =
    (c.pass.ensures.classed_2, c.pass.ensures.prev_len.0, (λ g h. c.pass.ensures.prev_len.1 g h ∙ c.loop-j.invariant.2 g h))

pub link-requires : goal.link-requires
link-requires c =
    (few (goal.at.link-requires c).Start, c.loop-j.invariant.0.named, c.loop-j.invariant.1)

pub returns : goal.returns
returns c =
    let a = c.args in
    let i = c.loop-j.invariant in
    let e : c.loop-j.j ≡ c.kept-m.result * 2 = omega arith in record {
      answered = record {
        long = c.link.ensures.linked.1;
        each =
            answered a.rows.now a.k a.w a.first a.n c.kept-m.result c.loop-j.class c.link.new.prev
            (subst (λ (j : ℕ). Classed a.n (key_digit a.rows.now a.k a.w a.first) c.loop-j.class j) e i.0)
            (λ g h. key_long a.rows.now a.k a.w a.first g c.requires.keyed.0 (omega (arith, c.requires.keyed.1)) ∙ sym c.kept-m.ensures)
            c.link.ensures.linked.0;
        behind = λ g h. c.link.ensures.behind g h ∙ i.2 g h;
      };
      class_len_2 = i.0.class_long;
    }

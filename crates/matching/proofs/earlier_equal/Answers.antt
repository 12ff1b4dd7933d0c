-- The keys of all cells are linked, then answered along the links, or else by their classes.
use mathlib.Core.Path.{refl, ◌∙◌}
use Prim.Native.Nat.{◌*◌, ◌≤◌}
use native.Mathlib.Nat.{div-le_self, mul-le-mul_right}
use native.Mathlib.Omega.{arith}
use Rattle.matching.proofs.earlier_equal.Goals as goal
use Rattle.matching.proofs.earlier_equal.Goals.{Start}

most : (c : Start) → c.args.s * c.args.w ≤ 4096 * c.args.w
most c = mul-le-mul_right _ c.requires.1

pub overflow_add-part : goal.overflow_add-part
overflow_add-part c = omega (arith, div-le_self 1048576 c.args.w)

pub overflow_mul-s : goal.overflow_mul-s
overflow_mul-s c = omega (arith, most (goal.at.overflow_mul-s c).Start)

pub settle-requires : goal.settle-requires
settle-requires c =
    record {
      keyed = (c.requires.0, refl, most (goal.at.settle-requires c).Start, c.link.ensures.prev_len.0);
      linked = c.link.ensures.linked;
    }

pub returns-then-settle : goal.returns-then-settle
returns-then-settle c =
    record {
      prev_len = c.settle.ensures.prev_len;
      by_index = c.settle.ensures.g_after c.if-settle.true;
      behind = λ g h. c.settle.ensures.behind g h ∙ c.link.ensures.behind g h;
    }

pub overflow_mul-s-2 : goal.overflow_mul-s-2
overflow_mul-s-2 c = omega (arith, most (goal.at.overflow_mul-s-2 c).Start)

pub by_classes-requires : goal.by_classes-requires
by_classes-requires c =
    record {
      keyed = (c.requires.0, most (goal.at.by_classes-requires c).Start, refl);
      class_len = (c.link.ensures.prev_len.1, c.settle.ensures.prev_len);
    }

pub returns : goal.returns
returns c =
    let e = c.by_classes.ensures.answered in
    record {
      prev_len = e.long;
      by_index = e.each;
      behind = λ g h. e.behind g h ∙ c.settle.ensures.behind g h ∙ c.link.ensures.behind g h;
    }

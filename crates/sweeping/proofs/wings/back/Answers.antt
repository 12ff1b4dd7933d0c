-- The goals that the search leaves. Assumes nothing.
use Rattle.std.proofs.Common.{◌≡◌, sym, ap, ◌∙◌, arith, rules}
use Rattle.sweeping.specs.Inner.SweptWords.{solid_wing}
use Rattle.sweeping.proofs.Searching.{back_after, back_none, back-here, back_next, back_all}
use Rattle.sweeping.proofs.wings.back.Goals as goal

pub loop-b-init : goal.loop-b-init
loop-b-init c = let a = c.args in back_none (solid_wing a.d a.s a.table.now) a.p a.q a.d

pub loop-b-preserved-then-from-p : goal.loop-b-preserved-then-from-p
loop-b-preserved-then-from-p c =
    let a = c.args in
    back-here (solid_wing a.d a.s a.table.now) a.p a.q a.d c.loop-b.b (search rules) (omega arith)
    (sym c.wing.ensures ∙ sym c.from.ensures ∙ c.if-from-p.true)

pub loop-b-preserved : goal.loop-b-preserved
loop-b-preserved c =
    let a = c.args in
    c.loop-b.invariant
    ∙ back_next (solid_wing a.d a.s a.table.now) a.p a.q a.d c.loop-b.b (search rules) (omega arith)
    (λ e. c.if-from-p.false (c.from.ensures ∙ c.wing.ensures ∙ e))

pub returns : goal.returns
returns c =
    let a = c.args in
    let w = solid_wing a.d a.s a.table.now in
    let last : c.loop-b.b ≡ 0 = omega arith in
    c.loop-b.invariant ∙ ap (back_after w a.p a.q a.d) last ∙ back_all w a.p a.q a.d

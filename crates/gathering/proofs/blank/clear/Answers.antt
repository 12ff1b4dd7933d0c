-- The wings lie between what is before and behind them. Assumes nothing.
use mathlib.Core.List.{List, ◌++◌}
use mathlib.Core.Path.{◌≡◌, refl, sym, ap, ◌∙◌}
use Prim.Native.Nat.{ℕ, ◌+◌, ◌-◌}
use native.Mathlib.Omega.{arith}
use lib.ListN.{drop, length, length-drop, length-replicate, replicate, take}
use lib.Seq.{length-take-le}
use Rattle.words.proofs.Writing.{put_part}
use Rattle.records.specs.Layout.{empty}
use Rattle.gathering.proofs.blank.clear.Goals as goal

pub returns : goal.returns
returns c =
    let a = c.args in
    let k : a.to + a.n - a.to ≡ a.n = omega arith in
    let long : length (take (a.to + a.n - a.to) (drop a.to a.table.now)) ≡ a.n =
    length-take-le _ (drop a.to a.table.now) (omega (arith, length-drop a.to a.table.now)) ∙ k in
    let e : c.fill.new.self ≡ replicate a.n empty = c.fill.ensures.after (λ y h. h) ∙ ap (λ (m : ℕ). replicate m empty) long in
    ap (λ (t : List ℕ). take a.to a.table.now ++ (t ++ drop (a.to + a.n - a.to) (drop a.to a.table.now))) e
    ∙ (put_part a.to (a.to + a.n - a.to) (replicate a.n empty) a.table.now _ (length-replicate {A = ℕ} a.n empty ∙ sym k) refl).content

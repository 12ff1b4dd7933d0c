-- What is across a face: `face_first` and `face_back`. Assumes nothing.
use Rattle.std.proofs.Common.{◌≡◌, ℕ, ◌<◌, sym, refl, ap, ◌∙◌, arith, eq-eqb, ne_eqb}
use Rattle.records.specs.Layout.{empty}
use Rattle.prism.specs.Wings.{back_to, cell_number}
use Rattle.sweeping.specs.Inner.SweptWords.{solid_wing}
use Rattle.sweeping.proofs.wings.across_face.Goals as goal
use Rattle.sweeping.proofs.wings.across_face.Goals.{After-from-q, Else-w, Start}

abbrev wing_here : Start → ℕ
wing_here c = solid_wing c.args.d c.args.s c.args.table.now c.args.p c.args.a

full : (c : Else-w) → wing_here (goal.at.Else-w c).Start ≡ empty → ⊥
full c e = c.if-w.false (c.wing-w.ensures ∙ e)

-- the cell across
across : (c : After-from-q) → c.from-q.result ≡ wing_here (goal.at.After-from-q c).Start
across c = c.from-q.ensures ∙ c.wing-w.ensures

low : (c : After-from-q) → c.from-q.result < c.args.s
low c =
    omega (arith, across c, c.requires.ready.across _ _ c.requires.at.1 c.requires.at.2 (full (goal.at.After-from-q c).Else-w))

pub returns-then-w : goal.returns-then-w
returns-then-w c =
    let none = eq-eqb _ _ (sym c.wing-w.ensures ∙ c.if-w.true) in
    record {
      first = rw none refl;
      back = rw none refl;
    }

pub cell_number-first-requires : goal.cell_number-first-requires
cell_number-first-requires c = (c.requires.ready.cells, c.requires.at.0, low c, omega arith)

pub back-back-requires : goal.back-back-requires
back-back-requires c =
    let ready = c.requires.ready in
    record { dimension = omega (arith, ready.dimension); long = ready.long; number = low (goal.at.back-back-requires c).After-from-q }

pub returns : goal.returns
returns c =
    let a = c.args in
    let some = ne_eqb _ _ (full (goal.at.returns c).Else-w) in record {
      first = rw some (c.cell_number-first.ensures ∙ ap (λ (q : ℕ). cell_number a.d a.s a.i q 0) (across (goal.at.returns c).After-from-q));
      back = rw some
          (c.back-back.ensures ∙ ap (λ (q : ℕ). back_to (solid_wing a.d a.s a.table.now) a.p q a.d) (across (goal.at.returns c).After-from-q));
    }

-- The call wing where it was tried directly: accepted, or as it was.
--   direct_accepted       what the host is told where nothing refuses the list
--   direct_host           the answer and the lent bytes, where the call was accepted
--   kept-host             where nothing was written, what is told of the lent bytes as they are is told of them as they were
-- Assumes nothing.
use mathlib.Core.Path.{◌≡◌, refl, sym, ap, ap₂, ◌∙◌}
use mathlib.Core.Bool.{Bool, true, false}
use mathlib.Core.List.{List}
use Prim.Native.Nat.{ℕ}
use native.Mathlib.Omega.{arith}
use lib.IntN.{ℤ, pos}
use lib.ListN.{length}
use borrow.Author.Tests.{eq-eqb, le-ltb}
use Rattle.words.specs.Bytes.{words16, bytes_of}
use Rattle.words.proofs.Bytes.{words_count}
use Rattle.rules.specs.Limits.{max_dimension}
use Rattle.rules.specs.Shapes.{shape_ok}
use Rattle.rules.specs.Calls.{accepted, after, first_refusal}
use Rattle.records.specs.Layout.{list_length, table_length, wings_length}
use Rattle.solids.specs.Accept.{acceptable, solid_rules}
use Rattle.solids.specs.Table.{table_of_list}
use Rattle.solids.specs.Uploaded.{uploaded_of_list}
use Rattle.solids.proofs.Accepted.{Passed, passed}
use Rattle.wing.specs.Wing.{wing_outcome, wing_rules}
use Rattle.direct.specs.Inner.Direct.{Direct, Lent}
use Rattle.winged.specs.Host.{host_answer, host_list, host_wing_input, host_wing, host_wing_outcome, host_wing_buffer, host_uploaded_buffer, words_in}
use Rattle.winged.proofs.Hosting.{hosted-right}

module _ (d v s : ℕ) (cells out further : List ℕ) where
  module _ (lent : Lent d v s cells out further) where
    none_passed : 0 ≡ first_refusal solid_rules (host_list d v s cells) → Passed (host_list d v s cells)
    unfolding acceptable
    none_passed none = passed (host_list d v s cells) (eq-eqb (first_refusal solid_rules (host_list d v s cells)) 0 (sym none))

    wing_accepted : Passed (host_list d v s cells) → wing_outcome (host_wing_input d v s cells out further) ≡ accepted (table_length d s)
    unfolding wing_outcome wing_rules solid_rules
    wing_accepted p =
        let right = eq-eqb (length (words16 cells)) (list_length d s) (omega (arith, words_count cells, lent.size)) in
        let room = le-ltb (words_in out) (table_length d s) (omega (arith, lent.room)) in
        let more = le-ltb (words_in further) (wings_length d s) (omega (arith, lent.further)) in
        rw (lent.shape, right, p.sign, p.vertex, p.twice, p.material, p.cell, p.crowded, p.equal, room, more) refl

    direct_accepted : 0 ≡ first_refusal solid_rules (host_list d v s cells) → accepted (table_length d s) ≡ host_wing_outcome d v s cells out further
    unfolding host_wing_outcome
    direct_accepted none =
        sym (hosted-right (shape_ok max_dimension d v s) cells (list_length d s) (wing_outcome (host_wing_input d v s cells out further)) lent.size
        ∙ wing_accepted (none_passed none))

    pub direct_host : (k : ℕ) (out' further' : List ℕ) (t : Bool) → k ≡ table_length d s → t ≡ true → Direct d v s cells out further out' further' t →
        (pos k ≡ host_wing d v s cells out further) × (out' ≡ host_wing_buffer d v s cells out further)
        × (further' ≡ host_uploaded_buffer d v s cells out further)
    unfolding host_wing host_wing_buffer host_uploaded_buffer
    direct_host k out' further' t e q w =
        let o = direct_accepted (w.accepts q) in
        let l = host_list d v s cells in (
          ap pos e ∙ ap host_answer o,
          w.writes q ∙ ap (λ r. after r (bytes_of (table_of_list l)) out) o,
          w.uploads q ∙ ap (λ r. after r (bytes_of (uploaded_of_list l)) further) o,
        )

  pub kept-host : (out' further' out'' further'' : List ℕ) (r : ℤ) (t : Bool) → t ≡ false → Direct d v s cells out further out' further' t →
      (r ≡ host_wing d v s cells out' further') × (out'' ≡ host_wing_buffer d v s cells out' further')
      × (further'' ≡ host_uploaded_buffer d v s cells out' further') →
      (r ≡ host_wing d v s cells out further) × (out'' ≡ host_wing_buffer d v s cells out further)
      × (further'' ≡ host_uploaded_buffer d v s cells out further)
  kept-host out' further' out'' further'' r t q w told =
      let same = w.keeps q in (
        told.0 ∙ ap₂ (host_wing d v s cells) same.0 same.1,
        told.1 ∙ ap₂ (host_wing_buffer d v s cells) same.0 same.1,
        told.2 ∙ ap₂ (host_uploaded_buffer d v s cells) same.0 same.1,
      )

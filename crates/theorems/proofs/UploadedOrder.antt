-- Neighbours in the seller's own order: the laws, and the computed examples.
use mathlib.Core.Path.{◌≡◌, refl, sym, ap, ◌∙◌}
use mathlib.Core.List.{map}
use Prim.Native.Nat.{ℕ, ◌<◌}
use lib.ListN.{get_or}
use Rattle.rules.specs.Calls.{accepted}
use Rattle.simplex.specs.Order.{places}
use Rattle.simplex.specs.Sort.{Up}
use Rattle.simplex.proofs.Removed.{places-once}
use Rattle.records.specs.Layout.{cell_in, empty}
use Rattle.solids.specs.Accept.{solid_of}
use Rattle.solids.proofs.Uploaded.{through_places, uploaded_ascending, uploaded_length_lem, uploaded_part, written-wings}
use Rattle.wing.specs.Wing.{WingInput, wing_outcome}
use Rattle.wing.proofs.Acceptance.{winged_is}
use Rattle.theorems.specs.UploadedOrder.{UploadedExamples, UploadedOrder, table_record, uploaded_record, uploaded_vertices}
use Rattle.theorems.proofs.Computing.{computing}

module _ (i : WingInput) (n p : ℕ) (ok : wing_outcome i ≡ accepted n) (h : p < i.list.s) where
  sent : map (λ j. get_or (uploaded_record i p) j empty) (places (uploaded_vertices i p)) ≡ table_record i p
  sent =
      let l = i.list in
      let size = (winged_is i n ok).size in
      ap (λ ws. map (λ j. get_or ws j empty) (places (uploaded_vertices i p))) (uploaded_part l size p h)
      ∙ through_places (solid_of l) p (cell_in l.d l.words p) ∙ sym (written-wings l size p h)

  ascending : Up (uploaded_vertices i p) → uploaded_record i p ≡ table_record i p
  ascending u =
      let l = i.list in
      let size = (winged_is i n ok).size in
      uploaded_part l size p h ∙ uploaded_ascending (solid_of l) p (cell_in l.d l.words p) u ∙ sym (written-wings l size p h)

pub uploaded_order : UploadedOrder
uploaded_order =
    record {
      sent = sent;
      once = λ w j. places-once j w;
      ascending = ascending;
      count = λ i n ok. uploaded_length_lem i.list (winged_is i n ok).size;
    }

pub uploaded_examples : UploadedExamples
unfolding computing
uploaded_examples =
    record {
      stood = refl;
      written = refl;
      table = refl;
      orders = (refl, refl, refl, refl, refl, refl);
      rooms = (refl, refl, refl);
      untouched = (refl, refl);
      host = refl;
    }

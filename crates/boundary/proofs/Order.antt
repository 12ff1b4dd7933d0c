-- The call faces by its rules: refused by the first that applies, or accepted where none does.
--   face_count i       the count of boundary faces, which the call answers
-- Assumes nothing.
use mathlib.Core.Path.{◌≡◌, refl, ap, ◌∙◌}
use mathlib.Core.List.{List}
use Prim.Native.Nat.{ℕ}
use lib.ListN.{length}
use Rattle.rules.specs.Calls.{accepted, refused, written}
use Rattle.rules.proofs.Refusing.{First, None, refused-first, accepted-none, kept, put}
use Rattle.records.specs.Layout.{faces_words}
use Rattle.boundary.specs.Faces.{FacesInput, boundary_cells, faces_rules, faces_outcome, faces_buffer}

abbrev pub face_count : FacesInput → ℕ
face_count i = length (boundary_cells i)

module _ (i : FacesInput) (out : List ℕ) where
  pub refuses : (n : ℕ) → First faces_rules i n → (refused n ≡ faces_outcome i) × (out ≡ faces_buffer i out)
  unfolding faces_rules faces_outcome faces_buffer
  refuses n h = let e = refused-first faces_rules face_count i refl n h in (e, kept _ n (faces_words (boundary_cells i)) out e)

  pub accepts : (k : ℕ) (new : List ℕ) → None faces_rules i → k ≡ face_count i → new ≡ written (faces_words (boundary_cells i)) out →
      (accepted k ≡ faces_outcome i) × (new ≡ faces_buffer i out)
  unfolding faces_outcome faces_buffer
  accepts k new h e w = let o = accepted-none faces_rules face_count i h in (ap accepted e ∙ o, w ∙ put _ _ (faces_words (boundary_cells i)) out o)

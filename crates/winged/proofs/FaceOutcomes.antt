-- What faces answers a host, row by row, and what it leaves in the lent bytes.
--   told-refused, told-accepted       from the table's words
--   host-outside, host_wrong, host-right      from the table's bytes
-- Assumes nothing.
use mathlib.Core.Path.{◌≡◌, refl, sym, ap, ◌∙◌}
use mathlib.Core.Bool.{true, false}
use mathlib.Core.List.{List, [], ◌++◌}
use Prim.Native.Nat.{ℕ, ◌*◌}
use lib.IntN.{pos, neg_ℤ}
use lib.ListN.{length, drop}
use borrow.Author.Tests.{ne_eqb}
use Rattle.words.specs.Bytes.{words16, bytes_of}
use Rattle.rules.specs.Limits.{max_dimension}
use Rattle.rules.specs.Shapes.{shape_ok}
use Rattle.rules.specs.Calls.{Outcome, accepted, refused, after}
use Rattle.records.specs.Layout.{face_size, faces_words, table_length}
use Rattle.boundary.specs.Faces.{boundary_cells, faces_rules, faces_outcome}
use Rattle.boundary.proofs.Order.{refuses}
use Rattle.winged.specs.Host.{host_answer, in_words, host_faces_input, host_faces_outcome, host_faces, host_faces_buffer}
use Rattle.winged.specs.Inner.Sent.{faces_in, faces_answer, faces_after}
use Rattle.winged.proofs.Hosting.{hosted-right, hosted_wrong}

-- the words of the faces
abbrev pub words_for : ℕ → ℕ → ℕ → List ℕ → List ℕ → List ℕ
words_for d v s ws out = faces_words (boundary_cells (faces_in d v s ws out))

module _ (d v s : ℕ) (ws out : List ℕ) where
  told : (o : Outcome ℕ) → faces_outcome (faces_in d v s ws out) ≡ o →
      (host_answer (in_words d v s ws out o) ≡ faces_answer d v s ws out)
      × (after o (bytes_of (words_for d v s ws out)) out ≡ faces_after d v s ws out)
  unfolding faces_answer faces_after
  told o e = (ap (λ q. host_answer (in_words d v s ws out q)) (sym e), ap (λ q. after q (bytes_of (words_for d v s ws out)) out) (sym e))

  pub told-refused : (n : ℕ) → faces_outcome (faces_in d v s ws out) ≡ refused n →
      (neg_ℤ (pos n) ≡ faces_answer d v s ws out) × (out ≡ faces_after d v s ws out)
  told-refused n e = told (refused n) e

  pub told-accepted : (n : ℕ) → faces_outcome (faces_in d v s ws out) ≡ accepted n →
      (pos (n * face_size d) ≡ faces_answer d v s ws out)
      × (bytes_of (words_for d v s ws out) ++ drop (length (bytes_of (words_for d v s ws out))) out ≡ faces_after d v s ws out)
  told-accepted n e = told (accepted n) e

module _ (d v s : ℕ) (table out : List ℕ) where
  hosted-told : (o : Outcome ℕ) → host_faces_outcome d v s table out ≡ o →
      (host_answer (in_words d v s table out o) ≡ host_faces d v s table out)
      × (after o (bytes_of (words_for d v s (words16 table) out)) out ≡ host_faces_buffer d v s table out)
  unfolding host_faces host_faces_buffer
  hosted-told o e =
      (ap (λ q. host_answer (in_words d v s table out q)) (sym e), ap (λ q. after q (bytes_of (words_for d v s (words16 table) out)) out) (sym e))

  host-refused : (n : ℕ) → host_faces_outcome d v s table out ≡ refused n →
      (neg_ℤ (pos n) ≡ host_faces d v s table out) × (out ≡ host_faces_buffer d v s table out)
  host-refused n e = hosted-told (refused n) e

  outside : shape_ok max_dimension d v s ≡ false → host_faces_outcome d v s table out ≡ refused 2
  unfolding host_faces_outcome faces_rules
  outside e = rw e (sym (refuses (host_faces_input d v s table out) [] 2 (rw e)).0)

  wrong : shape_ok max_dimension d v s ≡ true → (length table ≡ table_length d s * 2 → ⊥) → host_faces_outcome d v s table out ≡ refused 3
  unfolding host_faces_outcome faces_rules
  wrong ok n =
      hosted_wrong (shape_ok max_dimension d v s) table (table_length d s) (faces_outcome (host_faces_input d v s table out)) ok n
      (λ w. sym (refuses (host_faces_input d v s table out) [] 3 (rw (ok, ne_eqb (length (words16 table)) (table_length d s) w))).0)

  right : length table ≡ table_length d s * 2 → host_faces_outcome d v s table out ≡ faces_outcome (faces_in d v s (words16 table) out)
  unfolding host_faces_outcome
  right e = hosted-right (shape_ok max_dimension d v s) table (table_length d s) (faces_outcome (host_faces_input d v s table out)) e

  pub host-outside : shape_ok max_dimension d v s ≡ false →
      (neg_ℤ (pos 2) ≡ host_faces d v s table out) × (out ≡ host_faces_buffer d v s table out)
  host-outside e = host-refused 2 (outside e)

  pub host_wrong : shape_ok max_dimension d v s ≡ true → (length table ≡ table_length d s * 2 → ⊥) →
      (neg_ℤ (pos 3) ≡ host_faces d v s table out) × (out ≡ host_faces_buffer d v s table out)
  host_wrong ok n = host-refused 3 (wrong ok n)

  -- the count of words does not look at the table
  in_words_lem : (o : Outcome ℕ) → in_words d v s (words16 table) out o ≡ in_words d v s table out o
  in_words_lem (accepted n) = refl
  in_words_lem (refused n) = refl

  pub host-right : length table ≡ table_length d s * 2 →
      (faces_answer d v s (words16 table) out ≡ host_faces d v s table out)
      × (faces_after d v s (words16 table) out ≡ host_faces_buffer d v s table out)
  unfolding faces_answer faces_after
  host-right e =
      let o = faces_outcome (faces_in d v s (words16 table) out) in
      let h = hosted-told o (right e) in
      (ap host_answer (in_words_lem o) ∙ h.0, h.1)

-- Whether a vertex comes again among the m that stand from a place: those from number k on decide.
--   again_goes, again_stops, again_ends
-- Assumes nothing.
use mathlib.Core.Path.{◌≡◌, sym, ap, ap₂, ◌∙◌}
use mathlib.Core.Bool.{Bool, true, false}
use mathlib.Core.List.{List, ◌∷◌}
use Prim.Native.Nat.{ℕ, ◌+◌, ◌-◌, ◌*◌, ◌<◌, ◌≤◌}
use native.Mathlib.Omega.{arith}
use lib.Dec.{eqb}
use lib.ListN.{length, drop, drop_of_length-le}
use Rattle.words.specs.Records.{any_of}
use Rattle.words.specs.Bytes.{word16, words_from}
use Rattle.words.proofs.Bytes.{words_get, words_drop, words-length}
use Rattle.words.proofs.Loops.{drop_next}
use Rattle.solids.specs.Accept.{repeats}

module _ (b : List ℕ) (at m k : ℕ) (whole : Bool) (w : whole ≡ repeats (drop k (words_from b at m))) where
  -- x is vertex k
  module _ (h : k < m) (x : ℕ) (e : x ≡ word16 b (at + k * 2)) where
    next : drop k (words_from b at m) ≡ x ∷ drop (k + 1) (words_from b at m)
    next =
        drop_next 0 (words_from b at m) k (omega (arith, words-length b at m))
        ∙ ap (λ y. y ∷ drop (k + 1) (words_from b at m)) (words_get b at m k h ∙ sym e)

    -- those behind it, where the code looks for them
    behind : words_from b (at + k * 2 + 2) (m - k - 1) ≡ drop (k + 1) (words_from b at m)
    behind =
        let i : at + k * 2 + 2 ≡ at + (k + 1) * 2 = omega arith in
        let j : m - k - 1 ≡ m - (k + 1) = omega arith in
        ap₂ (words_from b) i j ∙ sym (words_drop b at m (k + 1))

    pub again_goes : any_of (eqb x) (words_from b (at + k * 2 + 2) (m - k - 1)) ≡ false → whole ≡ repeats (drop (k + 1) (words_from b at m))
    again_goes t = w ∙ rw (next, rw behind at t)

    pub again_stops : any_of (eqb x) (words_from b (at + k * 2 + 2) (m - k - 1)) ≡ true → true ≡ whole
    again_stops t = sym (w ∙ rw (next, rw behind at t))

  pub again_ends : m ≤ k → false ≡ whole
  again_ends h =
      let none : length (words_from b at m) ≤ k = omega (arith, words-length b at m) in
      sym (w ∙ rw (drop_of_length-le (words_from b at m) none))

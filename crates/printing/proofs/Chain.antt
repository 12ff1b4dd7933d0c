-- A line that writers write, piece by piece.
--   goes_on               a writer that is advanced by a piece with room stands behind it, in as many bytes
--   LeftAt n line ys h rest     the writer h has `rest` of the line left to write, which begins at n in bytes that were ys
--   left_next             after its next piece the rest is left
--   line_fits, feed_fits, line_ends     of a line of a word, two pieces and the line feed: these have room, and so has the line feed
--                         after the others; where it is put, all of the line is
-- Assumes nothing.
use mathlib.Core.Path.{◌≡◌, refl, ap, subst}
use mathlib.Core.List.{List, [], ◌∷◌, ◌++◌}
use Prim.Native.Nat.{ℕ, ◌+◌, ◌<◌, ◌≤◌}
use native.Mathlib.Omega.{arith}
use lib.ListN.{length, length-append}
use denote.Ref.{MutBor}
use Rattle.words.specs.Inner.Placed.{Put}
use Rattle.words.proofs.Placed.{placed-length}
use Rattle.words.proofs.Writing.{Left, left_starts, left_goes, left_last}
use Rattle.printing.specs.declared.line_writer.LineWriter.{LineWriter}
use Rattle.printing.specs.Inner.Advanced.{writer_at, advanced}

pub goes_on : (h k : LineWriter) (text : List ℕ) → k ≡ advanced h text → h.at + length text ≤ length h.buf.now →
    (k.at ≡ h.at + length text) × (length k.buf.now ≡ length h.buf.now)
goes_on h k text e l = rw e (refl, placed-length h.at text h.buf.now l)

module _ (n : ℕ) (line ys : List ℕ) where
  abbrev pub LeftAt : LineWriter → List ℕ → Type 0
  LeftAt h rest = Left n line ys h.at rest h.buf.now

  pub left_next : (h : LineWriter) (text rest : List ℕ) → LeftAt h (text ++ rest) → LeftAt (advanced h text) rest
  left_next h text rest l = left_goes text rest _ _ l (record { place = refl; content = refl })

module _ (n : ℕ) (word a b line : List ℕ) (pieces : line ≡ word ++ (a ++ (b ++ 10 ∷ []))) where
  pub line_fits : (k : ℕ) → n + length line ≤ k → n + (length word + (length a + length b)) ≤ k
  line_fits k l =
      omega (
        arith,
        ap length pieces,
        length-append word (a ++ (b ++ 10 ∷ [])),
        length-append a (b ++ 10 ∷ []),
        length-append b (10 ∷ []),
      )

  -- w is the writer that has only the line feed left, and x are the lent bytes
  module _ (x : MutBor (List ℕ)) (w : LineWriter) (e : w ≡ advanced (advanced (advanced (writer_at x n) word) a) b)
      (fits : n + length line ≤ length x.now) where
    left : LeftAt n line x.now w (10 ∷ [])
    left =
        let h = advanced (writer_at x n) word in
        rw e (left_next n line x.now (advanced h a) b _ (left_next n line x.now h a _ (left_next n line x.now (writer_at x n) word _
        (subst (λ l. Left n line x.now n l x.now) pieces (left_starts n line x.now fits)))))

    pub feed_fits : w.at < length w.buf.now
    feed_fits = omega (arith, left.room)

    pub line_ends : (next : ℕ) (ys zs : List ℕ) → Put w.at (10 ∷ []) w.buf.now next ys → zs ≡ ys → Put n line x.now next zs
    line_ends next ys zs p s = rw s (left_last (10 ∷ []) next ys left p)

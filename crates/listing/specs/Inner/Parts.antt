-- What the parts of the listing are told.
--   Points n v ps         the floats are v points of n axes, in range
--   VertexOf n p ps       point p is among them
--   SizeOf k fs n m       n faces, whose lines have m bytes
--   KeySize .. n m        n faces, in a key of m bytes
use Rattle.std.specs.Prelude.{◌≡◌, true, List, ℕ, ◌+◌, ◌*◌, ◌≤◌, ◌<◌, Float, length}
use Rattle.words.specs.Records.{all_of}
use Rattle.simplex.specs.Cell.{Cell}
use Rattle.points.specs.Step.{in_range}
use Rattle.listing.specs.Lines.{face_lines, key_text}

pub record Points (n v : ℕ) (ps : List Float) : Type 0 where
  pub axes : n ≤ 8
  pub vertices : v ≤ 4096
  pub long : length ps ≡ v * n
  pub ranged : all_of in_range ps ≡ true

pub record VertexOf (n p : ℕ) (ps : List Float) : Type 0 where
  pub axes : n ≤ 8
  pub number : p < 4096
  pub within : p * n + n ≤ length ps
  pub ranged : all_of in_range ps ≡ true

pub record SizeOf (k : ℕ) (fs : List Cell) (n m : ℕ) : Type 0 where
  pub faces : n ≡ length fs
  pub bytes : m ≡ length (face_lines k fs)

pub record KeySize (k d n v : ℕ) (ps : List Float) (fs : List Cell) (count bytes : ℕ) : Type 0 where
  pub faces : count ≡ length fs
  pub text : bytes ≡ length (key_text k d n v ps fs)

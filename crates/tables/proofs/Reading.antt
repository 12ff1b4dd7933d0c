-- What the loop that reads a row does in one turn.
use mathlib.Core.Path.{◌≡◌, sym, ap, ◌∙◌}
use mathlib.Core.List.{List}
use Prim.Native.Nat.{ℕ, ◌+◌, ◌-◌, ◌≤◌, ◌<◌}
use native.Mathlib.Omega.{arith}
use native.Mathlib.Nat.{not-suc-le-zero}
use native.Mathlib.Decide.{dec_lt}
use lib.ListN.{length, take, drop, get_or, set, replicate, length-append, length-drop, length-set, length-replicate, get_or-replicate, get_or-append}
use lib.Seq.{drop_at, ext_get_or, get_or-append-add, get_or-drop, get_or-set_other, get_or-set_same, get_or-take, length-take-le}
use lib.Seq.{take_at}
use Rattle.tables.specs.Inner.Held.{row_of_eight}

-- of the n words from at, the first j are in the row; the places behind n are 0
abbrev pub Read : ℕ → ℕ → List ℕ → ℕ → List ℕ → Type 0
Read n at ws j row = (length row ≡ 8) × ((i : ℕ) → i < j → i < n → get_or row i 0 ≡ get_or ws (at + i) 0)
    × ((i : ℕ) → n ≤ i → i < 8 → get_or row i 0 ≡ 0)

module _ (n at : ℕ) (ws : List ℕ) (j : ℕ) (row new : List ℕ) (read : Read n at ws j row) where
  -- one more word read, and none where all n are
  pub read_more : j < 8 → j < n → new ≡ set row j (get_or ws (at + j) 0) → Read n at ws (j + 1) new
  read_more h k e = (
    ap length e ∙ length-set row j (get_or ws (at + j) 0) ∙ read.0,
    (λ i l m. ap (λ (r : List ℕ). get_or r i 0) e ∙ go i (dec_lt i j) l m),
    (λ i l m. ap (λ (r : List ℕ). get_or r i 0) e ∙ get_or-set_other row j i (get_or ws (at + j) 0) 0 (λ e. omega arith) ∙ read.2 i l m),
  )
    where
      go : (i : ℕ) → Dec (i < j) → i < j + 1 → i < n → get_or (set row j (get_or ws (at + j) 0)) i 0 ≡ get_or ws (at + i) 0
      go i (yes k) l m = get_or-set_other row j i (get_or ws (at + j) 0) 0 (λ e. omega arith) ∙ read.1 i k m
      go i (no k) l m =
          let same : j ≡ i = omega arith in
          ap (λ m. get_or (set row j (get_or ws (at + j) 0)) m 0) (sym same)
          ∙ get_or-set_same row j (get_or ws (at + j) 0) 0 (omega (arith, read.0)) ∙ ap (λ m. get_or ws (at + m) 0) same

  pub read_no_more : n ≤ j → new ≡ row → Read n at ws (j + 1) new
  read_no_more h e = (
    ap length e ∙ read.0,
    (λ i l m. ap (λ (r : List ℕ). get_or r i 0) e ∙ read.1 i (omega arith) m),
    (λ i l m. ap (λ (r : List ℕ). get_or r i 0) e ∙ read.2 i l m),
  )

-- nothing read yet: eight zeros
pub read_none : (n at : ℕ) (ws : List ℕ) → Read n at ws 0 (replicate 8 0)
read_none n at ws = (length-replicate {A = ℕ} 8 0, (λ i l m. absurd (not-suc-le-zero l)), (λ i l m. get_or-replicate 8 i 0 0 m))

-- n vertices as a row of eight
module _ (w : List ℕ) (n : ℕ) (long : length w ≡ n) (h : n ≤ 8) where
  pub eight-long : length (row_of_eight w) ≡ 8
  eight-long = omega (arith, length-append w (replicate (8 - length w) 0), length-replicate {A = ℕ} (8 - length w) 0)

  pub eight_front : take n (row_of_eight w) ≡ w
  eight_front = take_at w (replicate (8 - length w) 0) n long

  pub eight-rest : drop n (row_of_eight w) ≡ replicate (8 - n) 0
  eight-rest = drop_at w (replicate (8 - length w) 0) n long ∙ ap (λ k. replicate (8 - k) 0) long

-- all read
module _ (n at : ℕ) (ws : List ℕ) (j : ℕ) (row : List ℕ) (read : Read n at ws j row) (h : n ≤ j) (l : n ≤ 8) (room : at + n ≤ length ws) where
  abbrev vertices : List ℕ
  vertices = take n (drop at ws)

  long : length vertices ≡ n
  long = length-take-le n (drop at ws) (omega (arith, length-drop at ws))

  place : (i : ℕ) → Dec (i < n) → i < 8 → get_or row i 0 ≡ get_or (row_of_eight vertices) i 0
  place i (yes m) k =
      read.1 i (omega arith) m
      ∙ sym (get_or-append vertices (replicate (8 - length vertices) 0) 0 i (omega (arith, long))
      ∙ get_or-take n (drop at ws) i 0 m ∙ get_or-drop at ws i 0)
  place i (no m) k =
      let behind : i ≡ length vertices + (i - n) = omega (arith, long) in
      read.2 i (omega arith) k
      ∙ sym (ap (λ k. get_or (row_of_eight vertices) k 0) behind ∙ get_or-append-add vertices (replicate (8 - length vertices) 0) (i - n) 0
      ∙ get_or-replicate (8 - length vertices) (i - n) 0 0 (omega (arith, long)))

  pub read_all : row ≡ row_of_eight vertices
  read_all = ext_get_or 0 row (row_of_eight vertices) (read.0 ∙ sym (eight-long vertices n long l))
      (λ i k. place i (dec_lt i n) (omega (arith, read.0)))

-- What the pairing of keys leaves: at each key the cell of the other key with its row, or 65535.
--   Mate L m f g      keys f and g below m are two, with one row
use mathlib.Core.Path.{◌≡◌, refl, sym, ap, ◌∙◌}
use mathlib.Core.Bool.{Bool, true, false, cond, true≢false}
use mathlib.Core.List.{List}
use Prim.Native.Nat.{ℕ, zero, suc, ◌/◌, ◌≤◌, ◌<◌}
use native.Mathlib.Omega.{arith}
use native.Mathlib.Nat.{not-suc-le-zero}
use lib.ListN.{length, get_or, set, length-set}
use lib.Seq.{get_or-set_same, get_or-set_other}
use native.Mathlib.Decide.{ℕ_discrete}
use Rattle.simplex.specs.Cell.{Cell, Row}
use Rattle.simplex.specs.Chain.{total}
use Rattle.tables.specs.Inner.Pairing.{paired}
use Rattle.tables.specs.Inner.Scan.{seen_at}
use Rattle.tables.proofs.Repeats.{Prev, is_seen, seen_is, seen_only}
use Rattle.solids.proofs.Solid.{row_at}

abbrev pub Mate : List Cell → ℕ → ℕ → ℕ → Type 0
Mate L m f g = (f < m) × (g < m) × (f ≡ g → ⊥) × (row_at L f ≡ row_at L g)

pub paired-length : (k n : ℕ) (P : List ℕ) (m : ℕ) (W : List ℕ) → length (paired k n P m W) ≡ length W
paired-length k n P zero W = refl
paired-length k n P (suc g) W = go (seen_at n P g) (paired-length k n P g W)
  where
    go : (t : Bool) → length (paired k n P g W) ≡ length W →
        length (cond t (set (set (paired k n P g W) g (get_or P g 0 / k)) (get_or P g 0) (g / k)) (paired k n P g W)) ≡ length W
    go true e = length-set (set (paired k n P g W) g (get_or P g 0 / k)) (get_or P g 0) (g / k) ∙ length-set (paired k n P g W) g (get_or P g 0 / k)
        ∙ e
    go false e = e

-- two words of a list set
two_first : (W : List ℕ) (f g x y : ℕ) → g < length W → (f ≡ g → ⊥) → get_or (set (set W g x) f y) g 0 ≡ x
two_first W f g x y h n = get_or-set_other (set W g x) f g y 0 (λ e. n (sym e)) ∙ get_or-set_same W g x 0 h

two_second : (W : List ℕ) (f g x y : ℕ) → f < length W → get_or (set (set W g x) f y) f 0 ≡ y
two_second W f g x y h = get_or-set_same (set W g x) f y 0 (rw (length-set W g x) h)

two_other : (W : List ℕ) (f g j x y : ℕ) → (j ≡ f → ⊥) → (j ≡ g → ⊥) → get_or (set (set W g x) f y) j 0 ≡ get_or W j 0
two_other W f g j x y a b = get_or-set_other (set W g x) f j y 0 a ∙ get_or-set_other W g j x 0 b

module _ (L : List Cell) (P : List ℕ) (small : length L ≤ 32768) (prev : Prev L P)
    (meet : (w : Row) → total w L ≤ 2) (k : ℕ) (W : List ℕ) (room : length L ≤ length W) where
  abbrev after : ℕ → List ℕ
  after m = paired k (length L) P m W

  abbrev Kept : ℕ → Type 0
  Kept m = (f g : ℕ) → Mate L m f g → get_or (after m) g 0 ≡ f / k

  abbrev Alone : ℕ → Type 0
  Alone m = (g : ℕ) → g < length L → ((f : ℕ) → Mate L m f g → ⊥) → get_or (after m) g 0 ≡ get_or W g 0

  in_room_lem : (m g : ℕ) → g < length L → g < length (after m)
  in_room_lem m g h = omega (arith, paired-length k (length L) P m W)

  only_seen : (f g : ℕ) → f < g → g < length L → row_at L f ≡ row_at L g → get_or P g 0 ≡ f
  only_seen = seen_only L P small prev meet

  -- one more key that was seen at f
  module _ (m : ℕ) (hm : m < length L) (e : seen_at (length L) P m ≡ true) (kept : Kept m) (alone : Alone m) where
    f : ℕ
    f = get_or P m 0

    is : (f < m) × (row_at L f ≡ row_at L m)
    unfolding f
    is = seen_is L P small prev m hm e

    abbrev next : List ℕ
    next = set (set (after m) m (get_or P m 0 / k)) (get_or P m 0) (m / k)

    kept_more : (j g : ℕ) → Mate L (suc m) j g → get_or next g 0 ≡ j / k
    unfolding f
    kept_more j g r = go (ℕ_discrete g m) (ℕ_discrete g f)
      where
        -- the other key of g, if that is neither m nor f, was there before
        old : (g ≡ m → ⊥) → (g ≡ f → ⊥) → Mate L m j g
        old a b =
            let hg : g < m = omega (arith, r.1) in
            let jm : j ≡ m → ⊥ = λ z. b (sym (only_seen g m hg hm (sym r.3 ∙ ap (row_at L) z))) in
            (omega (arith, r.0), hg, r.2, r.3)

        third : g ≡ f → j ≡ m
        third z = other (ℕ_discrete j m)
          where
            other : Dec (j ≡ m) → j ≡ m
            other (yes y) = y
            other (no y) =
                let hj : j < m = omega (arith, r.0) in
                let same : get_or P m 0 ≡ j = only_seen j m hj hm (r.3 ∙ ap (row_at L) z ∙ is.1) in
                absurd (r.2 (sym same ∙ sym z))

        go : Dec (g ≡ m) → Dec (g ≡ f) → get_or next g 0 ≡ j / k
        go (yes z) s =
            let hj : j < m = omega (arith, r.0, r.2, z) in
            let same : get_or P m 0 ≡ j = only_seen j m hj hm (r.3 ∙ ap (row_at L) z) in
            ap (λ i. get_or next i 0) z
            ∙ two_first (after m) (get_or P m 0) m (get_or P m 0 / k) (m / k) (in_room_lem m m hm) (λ y. omega (arith, is.0, y))
            ∙ ap (λ i. i / k) same
        go (no z) (yes s) =
            ap (λ i. get_or next i 0) s
            ∙ two_second (after m) (get_or P m 0) m (get_or P m 0 / k) (m / k) (in_room_lem m (get_or P m 0) (omega (arith, is.0)))
            ∙ ap (λ i. i / k) (sym (third s))
        go (no z) (no s) = two_other (after m) (get_or P m 0) m g (get_or P m 0 / k) (m / k) s z ∙ kept j g (old z s)

    alone_more : (g : ℕ) → g < length L → ((j : ℕ) → Mate L (suc m) j g → ⊥) → get_or next g 0 ≡ get_or W g 0
    unfolding f
    alone_more g hg none = go (ℕ_discrete g m) (ℕ_discrete g f)
      where
        go : Dec (g ≡ m) → Dec (g ≡ f) → get_or next g 0 ≡ get_or W g 0
        go (yes z) s = absurd (none f (omega (arith, is.0), omega arith, (λ y. omega (arith, is.0, y)), is.1 ∙ ap (row_at L) (sym z)))
        go (no z) (yes s) = absurd (none m (omega arith, omega (arith, is.0), (λ y. z (sym y)), sym is.1 ∙ ap (row_at L) (sym s)))
        go (no z) (no s) =
            two_other (after m) (get_or P m 0) m g (get_or P m 0 / k) (m / k) s z
            ∙ alone g hg (λ j r. none j (omega (arith, r.0), omega (arith, r.1), r.2, r.3))

  -- one more key that was not seen
  module _ (m : ℕ) (hm : m < length L) (e : seen_at (length L) P m ≡ false) (kept : Kept m) where
    kept_same : (j g : ℕ) → Mate L (suc m) j g → get_or (after m) g 0 ≡ j / k
    kept_same j g r = go (ℕ_discrete j m) (ℕ_discrete g m)
      where
        not_seen : (i : ℕ) → i < m → row_at L i ≡ row_at L m → ⊥
        not_seen i l q = true≢false (cc (is_seen L P small prev i m l hm q).0)

        go : Dec (j ≡ m) → Dec (g ≡ m) → get_or (after m) g 0 ≡ j / k
        go (yes a) b = absurd (not_seen g (omega (arith, r.1, r.2, a)) (sym r.3 ∙ ap (row_at L) a))
        go (no a) (yes b) = absurd (not_seen j (omega (arith, r.0, r.2, b)) (r.3 ∙ ap (row_at L) b))
        go (no a) (no b) = kept j g (omega (arith, r.0), omega (arith, r.1), r.2, r.3)

  both : (m : ℕ) → m ≤ length L → Kept m × Alone m
  both zero h = ((λ f g r. absurd (not-suc-le-zero r.0)), (λ g l none. refl))
  both (suc m) h = go (seen_at (length L) P m) refl (both m (omega arith))
    where
      go : (t : Bool) → seen_at (length L) P m ≡ t → Kept m × Alone m →
          ((j g : ℕ) → Mate L (suc m) j g → get_or (cond t (set (set (after m) m (get_or P m 0 / k)) (get_or P m 0) (m / k)) (after m)) g 0 ≡ j / k)
          × ((g : ℕ) → g < length L → ((j : ℕ) → Mate L (suc m) j g → ⊥) →
          get_or (cond t (set (set (after m) m (get_or P m 0 / k)) (get_or P m 0) (m / k)) (after m)) g 0 ≡ get_or W g 0)
      go true e r = (kept_more m h e r.0 r.1, alone_more m h e r.0 r.1)
      go false e r = (kept_same m h e r.0, (λ g l none. r.1 g l (λ j s. none j (omega (arith, s.0), omega (arith, s.1), s.2, s.3))))

  -- a key with a mate has the mate's cell
  pub paired_mate : (f g : ℕ) → Mate L (length L) f g → get_or (paired k (length L) P (length L) W) g 0 ≡ f / k
  paired_mate f g r = (both (length L) (omega arith)).0 f g r

  -- a key with none has what stood there
  pub paired-alone : (g : ℕ) → g < length L → ((f : ℕ) → Mate L (length L) f g → ⊥) → get_or (paired k (length L) P (length L) W) g 0 ≡ get_or W g 0
  paired-alone g h none = (both (length L) (omega arith)).1 g h none

-- What was seen at a key, by whether its number f is below n; and one more key paired.
use mathlib.Core.Path.{◌≡◌, refl, sym, ap, ap₂, ◌∙◌}
use mathlib.Core.Bool.{Bool, false, ◌&&◌, ◌||◌}
use mathlib.Core.List.{List}
use Prim.Native.Nat.{ℕ, ◌/◌, ◌%◌, ◌≤◌, ◌<◌, ◌+◌, ◌*◌}
use native.Mathlib.Numerals.{add-one}
use lib.Dec.{eqb}
use lib.ListN.{length, get_or, set}
use borrow.Author.Tests.{lt-ltb, le-ltb}
use Rattle.words.specs.Records.{any_below}
use Rattle.simplex.specs.Cell.{Sign, alternating, times}
use Rattle.tables.specs.Inner.Pairing.{Met, Pairing, key_sign, paired, paired_at, twin_at}
use Rattle.tables.specs.Inner.Scan.{seen_at, seen_like, seen_twice}
use Rattle.tables.proofs.Mates.{paired-length}

module _ (n : ℕ) (P : List ℕ) (g f : ℕ) (e : f ≡ get_or P g 0) where
  pub twice_at : f < n → seen_twice n P g ≡ seen_at n P f
  twice_at l = rw (sym e, lt-ltb f n l) refl

  pub twice_not : n ≤ f → seen_twice n P g ≡ false
  twice_not l = rw (sym e, le-ltb f n l) refl

  pub like_at : (sg : ℕ → Sign) → f < n → seen_like n P sg g ≡ times (sg g) (sg f)
  like_at sg l = rw (sym e, lt-ltb f n l) refl

  pub like_not : (sg : ℕ → Sign) → n ≤ f → seen_like n P sg g ≡ false
  like_not sg l = rw (sym e, le-ltb f n l) refl

  pub pair_yes : (k : ℕ) (W : List ℕ) → f < n → paired_at k n P g W ≡ set (set W g (f / k)) f (g / k)
  pair_yes k W l = rw (sym e, lt-ltb f n l) refl

  pub pair_no : (k : ℕ) (W : List ℕ) → n ≤ f → paired_at k n P g W ≡ W
  pair_no k W l = rw (sym e, le-ltb f n l) refl

  pub twin_at_lem : (k : ℕ) (rows : List ℕ) → f < n →
      twin_at k n rows P g ≡ (eqb (g % k) 0 && (eqb (f % k) 0 && eqb (get_or rows (g / k * 8) 0) (get_or rows (f / k * 8) 0)))
  twin_at_lem k rows l = rw (sym e, lt-ltb f n l) refl

  pub twin_not : (k : ℕ) (rows : List ℕ) → n ≤ f → twin_at k n rows P g ≡ false
  twin_not k rows l = rw (sym e, le-ltb f n l) refl

module _ (k n : ℕ) (rows : List ℕ) (signs : List Sign) (P : List ℕ) (g : ℕ) (W : List ℕ) (c r e : Bool) where
  module _ (f : ℕ) (is : f ≡ get_or P g 0) where
    -- key g, at position a of cell p, was not seen before
    pub met_none : n ≤ f → Met k n rows signs P g W c r e W c r e
    met_none l =
        record {
          wings = sym (pair_no n P g f is k W l);
          twice = ap (λ t. t || c) (sym (twice_not n P g f is l));
          twin = ap (λ t. t || r) (sym (twin_not n P g f is k rows l));
          like = ap (λ t. t || e) (sym (like_not n P g f is (key_sign k signs) l));
        }

    -- or was seen at f, at position b of cell q
    module _ (p a q b : ℕ) (ep : g / k ≡ p) (ea : g % k ≡ a) (eq : q ≡ f / k) (eb : b ≡ f % k) (l : f < n) where
      pub met_seen : (X : List ℕ) (c' r' e' : Bool) → X ≡ set (set W g q) f p → c' ≡ (seen_at n P f || c) →
          r' ≡ ((eqb a 0 && (eqb b 0 && eqb (get_or rows (p * 8) 0) (get_or rows (q * 8) 0))) || r) →
          e' ≡ (times (times (alternating a) (get_or signs p false)) (times (alternating b) (get_or signs q false)) || e) →
          Met k n rows signs P g W c r e X c' r' e'
      met_seen X c' r' e' hX hc hr he =
          let places : (eqb (g % k) 0 && (eqb (f % k) 0 && eqb (get_or rows (g / k * 8) 0) (get_or rows (f / k * 8) 0)))
          ≡ (eqb a 0 && (eqb b 0 && eqb (get_or rows (p * 8) 0) (get_or rows (q * 8) 0))) = rw (ea, sym eb, ep, sym eq) refl in
          let signed : times (key_sign k signs g) (key_sign k signs f)
          ≡ times (times (alternating a) (get_or signs p false)) (times (alternating b) (get_or signs q false)) = rw (ea, sym eb, ep, sym eq) refl in
          record {
            wings = hX ∙ ap₂ {C = List ℕ} (λ x y. set (set W g x) f y) eq (sym ep) ∙ sym (pair_yes n P g f is k W l);
            twice = hc ∙ ap (λ t. t || c) (sym (twice_at n P g f is l));
            twin = hr ∙ ap (λ t. t || r) (sym (twin_at_lem n P g f is k rows l ∙ places));
            like = he ∙ ap (λ t. t || e) (sym (like_at n P g f is (key_sign k signs) l ∙ signed));
          }

  -- one more key paired
  pub pairing_more : (X Y : List ℕ) (c' r' e' : Bool) → Pairing k n rows signs P g W X c r e → Met k n rows signs P g X c r e Y c' r' e' →
      Pairing k n rows signs P (g + 1) W Y c' r' e'
  pairing_more X Y c' r' e' h m =
      record {
        wings = m.wings ∙ ap (paired_at k n P g) h.wings ∙ ap (λ i. paired k n P i W) (sym (add-one g));
        twice = m.twice ∙ ap (λ t. seen_twice n P g || t) h.twice ∙ ap (λ i. any_below i (seen_twice n P)) (sym (add-one g));
        twin = m.twin ∙ ap (λ t. twin_at k n rows P g || t) h.twin ∙ ap (λ i. any_below i (twin_at k n rows P)) (sym (add-one g));
        like = m.like ∙ ap (λ t. seen_like n P (key_sign k signs) g || t) h.like
            ∙ ap (λ i. any_below i (seen_like n P (key_sign k signs))) (sym (add-one g));
      }

  pub pairing_none : Pairing k n rows signs P 0 W W false false false
  pairing_none = record { wings = refl; twice = refl; twin = refl; like = refl }

-- the words that are paired stay as many
pub pairing_long : (k n : ℕ) (rows : List ℕ) (signs : List Sign) (P : List ℕ) (g : ℕ) (W X : List ℕ) (c r e : Bool) →
    Pairing k n rows signs P g W X c r e → length X ≡ length W
pairing_long k n rows signs P g W X c r e h = ap length h.wings ∙ paired-length k n P g W

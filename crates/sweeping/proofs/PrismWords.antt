-- The words of the records over one cell, by swept cell and kind.
--   inside-prism          word r of cell k is inside
--   sign_at_lem, material_at_lem, vertex_at, above_at_lem, below_at      what they are
--   side_at_lem, back_low, side-low       the sides, from what is across a face; they are words
--   head_kept, head_right     four stores make a head right
--   head_stays, heads_more    it stays so; one head more
-- Assumes nothing.
use Rattle.std.proofs.Common.{◌≡◌, ℕ, suc, ◌+◌, ◌-◌, ◌*◌, ◌<◌, ◌≤◌, Bool, true, false, cond, eqb, ltb, List, length, get_or, set, sym, refl, ◌∙◌}
use Rattle.std.proofs.Common.{ap₂, arith, le-ltb, eq-eqb, ne_eqb}
use native.Mathlib.Decide.{dec_lt}
use borrow.Author.Tests.{eqb-false}
use Rattle.records.specs.Inner.Inside.{sign_in, material_in}
use Rattle.records.specs.Layout.{empty, record_size, material_place, vertex_place, wing_place}
use Rattle.records.proofs.Parts.{inside}
use Rattle.simplex.specs.SignWords.{turned_sign}
use Rattle.prism.specs.Sides.{side_cell, side_position}
use Rattle.prism.specs.Wings.{cell_number, back_to, wing_above, wing_below, wing_aside}
use Rattle.prism.proofs.SideLaws.{side_bounds, face_of_side}
use Rattle.sweeping.specs.Inner.Across.{face_first, face_back, side_word}
use Rattle.sweeping.specs.Inner.Filling.{Kept}
use Rattle.sweeping.specs.Inner.PrismPlaces.{side_at, HeadRight}
use Rattle.sweeping.specs.Inner.RecordWords.{swept_vertex}
use Rattle.sweeping.specs.Inner.SweptWords.{solid_wing, prism_words, Ready}
use Rattle.sweeping.proofs.Bounds.{number-inside}
use Rattle.sweeping.proofs.Filling.{Stored, stored, kept_then}
use Rattle.sweeping.proofs.LevelWords.{prism_at}
use Rattle.sweeping.proofs.RecordLaws.{word_sign, word_material, word_vertex, word_wing}
use Rattle.sweeping.proofs.SweptWords.{prism-long}

module _ (d v s h : ℕ) (ws : List ℕ) (ready : Ready d v s h ws) (i p : ℕ) (hi : i < h) (hp : p < s) where
  abbrev words : List ℕ
  words = prism_words d v s h ws i p

  abbrev wing : ℕ → ℕ → ℕ
  wing = solid_wing d s ws

  pub inside-prism : (k r : ℕ) → k ≤ d → r < record_size (suc d) → k * record_size (suc d) + r < length words
  inside-prism k r hk hr =
      omega (arith, prism-long d v s h ws ready.long i p hp, inside (d + 1) (record_size (suc d)) k r (omega arith) hr)

  module _ (k : ℕ) (hk : k ≤ d) where
    pub sign_at_lem : get_or words (k * record_size (suc d) + 0) 0 ≡ turned_sign (sign_in d ws p) (k * d)
    sign_at_lem = prism_at d v s h ws ready.long i p hp k 0 hk (omega arith) ∙ word_sign d v s h ws i p k ready.long hp hk

    pub material_at_lem : get_or words (k * record_size (suc d) + material_place) 0 ≡ material_in d ws p
    material_at_lem =
        prism_at d v s h ws ready.long i p hp k material_place hk (omega arith) ∙ word_material d v s h ws i p k ready.long hp hk

    pub vertex_at : (j : ℕ) → j ≤ d + 1 → get_or words (k * record_size (suc d) + vertex_place j) 0 ≡ swept_vertex d v s ws i p k j
    vertex_at j hj =
        prism_at d v s h ws ready.long i p hp k (vertex_place j) hk (omega arith)
        ∙ word_vertex d v s h ws i p k ready.long hp hk j hj

    pub above_at_lem : get_or words (k * record_size (suc d) + wing_place (suc d) 0) 0
        ≡ cond (ltb k d) (cell_number d s i p 0 + suc k) (wing_above d s h (λ q a. 0) i p d)
    above_at_lem =
        prism_at d v s h ws ready.long i p hp k (wing_place (suc d) 0) hk (omega arith)
        ∙ word_wing d v s h ws i p k ready.long hp hk 0 (omega arith) ∙ go (ltb k d) refl
      where
        go : (t : Bool) → ltb k d ≡ t →
            wing_above d s h wing i p k ≡ cond (ltb k d) (cell_number d s i p 0 + suc k) (wing_above d s h (λ q a. 0) i p d)
        go true e = rw e (omega arith)
        go false e = rw (e, le-ltb d d (omega arith)) refl

    pub below_at : get_or words (k * record_size (suc d) + wing_place (suc d) (suc d)) 0
        ≡ cond (eqb k 0) (wing_below d s h (λ q a. 0) i p 0) (cell_number d s i p 0 + (k - 1))
    below_at =
        prism_at d v s h ws ready.long i p hp k (wing_place (suc d) (suc d)) hk (omega arith)
        ∙ word_wing d v s h ws i p k ready.long hp hk (suc d) (omega arith)
        ∙ rw (ne_eqb (suc d) 0 (λ q. omega arith), eq-eqb (suc d) (suc d) refl) (go (eqb k 0) refl)
      where
        go : (t : Bool) → eqb k 0 ≡ t →
            wing_below d s h wing i p k ≡ cond (eqb k 0) (wing_below d s h (λ q a. 0) i p 0) (cell_number d s i p 0 + (k - 1))
        go true e = rw e refl
        go false e = rw e (omega arith)

  module _ (a l : ℕ) (ha : a ≤ d) (hl : l < d) where
    abbrev first : ℕ
    first = face_first d s wing i p a

    abbrev back : ℕ
    back = face_back d wing p a

    record Side : Type 0 where
      pub word : side_word first back l ≡ wing_aside d s h wing i p a l
      pub fits : wing_aside d s h wing i p a l ≤ 65535

    side-empty : eqb (wing p a) empty ≡ true → Side
    side-empty none = record { word = rw none refl; fits = rw none (omega arith) }

    side_full : eqb (wing p a) empty ≡ false → Side
    side_full some =
        let n = eqb-false (wing p a) empty some in
        let q = wing p a in
        let b = back_to wing p q d in
        let hb : b ≤ d = ready.back p a hp ha n in
        let hq : q < s = ready.across p a hp ha n in
        let few = number-inside d s h i q (side_cell b l) hi hq (side_bounds d b l hb hl).cell in
        let low = number-inside d s h i q 0 hi hq (omega arith) in
        record {
          word = rw (some, ne_eqb (cell_number d s i q 0) empty (λ e. omega (arith, low, ready.cells))) (omega arith);
          fits = rw some (omega (arith, few, ready.cells));
        }

    side_is : Side
    side_is = go (eqb (wing p a) empty) refl
      where
        go : (t : Bool) → eqb (wing p a) empty ≡ t → Side
        go true e = side-empty e
        go false e = side_full e

    pub side-low : side_word first back l ≤ 65535
    side-low = omega (arith, side_is.word, side_is.fits)

    pub side-inside : side_at d a l < length words
    side-inside =
        let b = side_bounds d a l ha hl in
        inside-prism (side_cell a l) (wing_place (suc d) (side_position d a l)) b.cell (omega (arith, b.below))

    pub side_at_lem : get_or words (side_at d a l) 0 ≡ side_word first back l
    side_at_lem =
        let b = side_bounds d a l ha hl in
        let f = face_of_side d a l ha hl in
        let c = side_cell a l in
        let j = side_position d a l in
        prism_at d v s h ws ready.long i p hp c (wing_place (suc d) j) b.cell (omega (arith, b.below))
        ∙ word_wing d v s h ws i p c ready.long hp b.cell j (omega (arith, b.below))
        ∙ rw (ne_eqb j 0 (λ q. omega (arith, b.above)), ne_eqb j (suc d) (λ q. omega (arith, b.below)))
        (ap₂ (wing_aside d s h wing i p) f.face f.place ∙ sym side_is.word)

  pub back_low : (a : ℕ) → a ≤ d → face_back d wing p a ≤ d
  back_low a ha = go (eqb (wing p a) empty) refl
    where
      go : (t : Bool) → eqb (wing p a) empty ≡ t → face_back d wing p a ≤ d
      go true e = rw e (omega arith)
      go false e = rw e (ready.back p a hp ha (eqb-false (wing p a) empty e))

  module _ (k at : ℕ) (hk : k ≤ d) (old : List ℕ) (room : at + length words ≤ length old) (w x y z : ℕ)
      (ew : w ≡ get_or words (k * record_size (suc d) + 0) 0) (ex : x ≡ get_or words (k * record_size (suc d) + material_place) 0)
      (ey : y ≡ get_or words (k * record_size (suc d) + wing_place (suc d) 0) 0)
      (ez : z ≡ get_or words (k * record_size (suc d) + wing_place (suc d) (suc d)) 0)
      (e f g m : ℕ) (pe : e ≡ at + (k * record_size (suc d) + 0)) (pf : f ≡ at + (k * record_size (suc d) + material_place))
      (pg : g ≡ at + (k * record_size (suc d) + wing_place (suc d) 0))
      (pm : m ≡ at + (k * record_size (suc d) + wing_place (suc d) (suc d))) where
    abbrev one : List ℕ
    one = set old e w

    abbrev two : List ℕ
    two = set one f x

    abbrev three : List ℕ
    three = set two g y

    abbrev four : List ℕ
    four = set three m z

    s1 : Stored at words old one (k * record_size (suc d) + 0)
    s1 = stored at words old _ w e room (inside-prism k 0 hk (omega arith)) pe ew

    s2 : Stored at words one two (k * record_size (suc d) + material_place)
    s2 = stored at words one _ x f (omega (arith, s1.kept.outside.same)) (inside-prism k material_place hk (omega arith)) pf ex

    k2 : Kept at words old two
    k2 = kept_then at words old one two s1.kept s2.kept

    s3 : Stored at words two three (k * record_size (suc d) + wing_place (suc d) 0)
    s3 = stored at words two _ y g (omega (arith, k2.outside.same)) (inside-prism k (wing_place (suc d) 0) hk (omega arith)) pg ey

    k3 : Kept at words old three
    k3 = kept_then at words old two three k2 s3.kept

    s4 : Stored at words three four (k * record_size (suc d) + wing_place (suc d) (suc d))
    s4 =
        stored at words three _ z m (omega (arith, k3.outside.same)) (inside-prism k (wing_place (suc d) (suc d)) hk (omega arith)) pm ez

    pub head_kept : Kept at words old four
    head_kept = kept_then at words old three four k3 s4.kept

    pub head_right : HeadRight d at words four k
    head_right =
        record {
          sign = s4.kept.right _ (s3.kept.right _ (s2.kept.right _ s1.right));
          material = s4.kept.right _ (s3.kept.right _ s2.right);
          above = s4.kept.right _ s3.right;
          below = s4.right;
        }

pub head_stays : (d at : ℕ) (words old new : List ℕ) (k : ℕ) → Kept at words old new → HeadRight d at words old k → HeadRight d at words new k
head_stays d at words old new k kept r =
    record {
      sign = kept.right _ r.sign;
      material = kept.right _ r.material;
      above = kept.right _ r.above;
      below = kept.right _ r.below;
    }

pub heads_more : (d at : ℕ) (words old new : List ℕ) (k : ℕ) → Kept at words old new →
    ((q : ℕ) → q < k → HeadRight d at words old q) → HeadRight d at words new k → (q : ℕ) → q < k + 1 → HeadRight d at words new q
heads_more d at words old new k kept all one q h = go (dec_lt q k)
  where
    go : Dec (q < k) → HeadRight d at words new q
    go (yes l) = head_stays d at words old new q kept (all q l)
    go (no l) = let here : q ≡ k = omega arith in rw here one

-- From level to level each word goes on as it went, but for the wings that join levels.
--   Steps a b z           z goes on from a and b
--   ahead_is              what goes on from a and b is z
--   steps_at              word r of a record, at three levels
-- Assumes nothing.
use Rattle.std.proofs.Common.{◌≡◌, ℕ, suc, ◌+◌, ◌-◌, ◌*◌, ◌<◌, ◌≤◌, Bool, true, false, eqb, List, get_or, sym, refl, ap, ◌∙◌, suc-mul, arith}
use Rattle.std.proofs.Common.{lt-ltb, ne_eqb, eqb-true, le-leb}
use native.Mathlib.Decide.{dec_lt, dec_le}
use borrow.Author.Tests.{eqb-false, lt-leb}
use Rattle.words.proofs.Records.{record_next}
use Rattle.records.specs.Layout.{empty, record_size, material_place, vertex_place, wing_place}
use Rattle.records.specs.Inner.Inside.{sign_in, material_in}
use Rattle.simplex.specs.SignWords.{turned_sign}
use Rattle.prism.specs.Cells.{at_level}
use Rattle.prism.specs.Sides.{side_pair, side_face, side_place}
use Rattle.prism.specs.Wings.{cell_number, back_to, wing_aside, swept_wing}
use Rattle.prism.proofs.SideLaws.{side_bounds, side_of_position}
use Rattle.sweeping.specs.Inner.Raising.{Ahead}
use Rattle.sweeping.specs.Inner.RecordWords.{swept_vertex}
use Rattle.sweeping.specs.Inner.SweptWords.{solid_wing, record_words, Ready}
use Rattle.sweeping.proofs.Bounds.{number-inside, vertex-inside}
use Rattle.sweeping.proofs.RecordLaws.{word_sign, word_material, word_vertex, word_wing}

pub data Steps (a b z : ℕ) : Type 0 where
  still : a ≡ b → z ≡ b → Steps a b z
  goes : a ≤ b → z ≡ b + (b - a) → z ≤ 65535 → Steps a b z

pub ahead_is : {a b r z : ℕ} → Ahead a b r → Steps a b z → r ≡ z
ahead_is x (still e f) = x.still e ∙ sym f
ahead_is x (goes l e f) = x.goes l (omega arith) ∙ sym e

-- t more at each level
even : (c t i a b z : ℕ) → a ≡ c + i * t → b ≡ c + (i + 1) * t → z ≡ c + (i + 2) * t → z ≤ 65535 → Steps a b z
even c t i a b z ea eb ez fits =
    let one = record_next t i in
    let two : (i + 2) * t ≡ i * t + t + t =
    ap (λ n. n * t) {x = i + 2} {y = i + 1 + 1} (omega arith) ∙ record_next t (i + 1) ∙ ap (λ n. n + t) one in
    goes (omega (arith, ea, eb, one)) (omega (arith, ea, eb, ez, one, two)) fits

module _ (d v s h : ℕ) (ws : List ℕ) (ready : Ready d v s h ws) (i : ℕ) (hi : i + 2 < h) where
  abbrev wing : ℕ → ℕ → ℕ
  wing = solid_wing d s ws

  numbers : (q c : ℕ) → q < s → c ≤ d → Steps (cell_number d s i q c) (cell_number d s (i + 1) q c) (cell_number d s (i + 2) q c)
  numbers q c hq hc =
      even (c + q * suc d) (s * suc d) i _ _ _ refl refl refl
      (omega (arith, number-inside d s h (i + 2) q c hi hq hc, ready.cells))

  vertices : (x : ℕ) → x < v → Steps (at_level v i x) (at_level v (i + 1) x) (at_level v (i + 2) x)
  vertices x hx =
      even x v i _ _ _ refl refl refl (omega (arith, vertex-inside v h (i + 2) x (omega arith) hx, ready.vertices))

  above : (x : ℕ) → x < v → Steps (at_level v (suc i) x) (at_level v (suc (i + 1)) x) (at_level v (suc (i + 2)) x)
  above x hx =
      even (x + v) v i _ _ _ (omega (arith, suc-mul i v)) (omega (arith, suc-mul (i + 1) v)) (omega (arith, suc-mul (i + 2) v))
      (omega (arith, vertex-inside v h (suc (i + 2)) x (omega arith) hx, ready.vertices))

  module _ (p k : ℕ) (hp : p < s) (hk : k ≤ d) where
    abbrev Three : (ℕ → ℕ) → Type 0
    Three f = Steps (f i) (f (i + 1)) (f (i + 2))

    vertex-steps : (j : ℕ) → j ≤ d + 1 → Three (λ l. swept_vertex d v s ws l p k j)
    vertex-steps j hj = go (dec_le (k + j) d)
      where
        go : Dec (k + j ≤ d) → Three (λ l. swept_vertex d v s ws l p k j)
        go (yes l) = rw (le-leb (k + j) d l) (vertices _ (ready.low p (k + j) hp l))
        go (no l) = rw (lt-leb (k + j) d (omega arith)) (above _ (ready.low p (k + j - suc d) hp (omega arith)))

    aside_steps : (a l : ℕ) → a ≤ d → l < d → Three (λ n. wing_aside d s h wing n p a l)
    aside_steps a l ha hl = go (eqb (wing p a) empty) refl
      where
        go : (t : Bool) → eqb (wing p a) empty ≡ t → Three (λ n. wing_aside d s h wing n p a l)
        go true e = rw e (still refl refl)
        go false e =
            let some = eqb-false (wing p a) empty e in
            let b = back_to wing p (wing p a) d in
            rw e (numbers (wing p a) (side_pair d b l).cell (ready.across p a hp ha some)
            (side_bounds d b l (ready.back p a hp ha some) hl).cell)

    wing_steps : (j : ℕ) → j ≤ d + 1 → (k ≡ 0 → j ≡ suc d → ⊥) → (k ≡ d → j ≡ 0 → ⊥) → Three (λ n. swept_wing d s h wing n p k j)
    wing_steps j hj bottom top = go (eqb j 0) (eqb j (suc d)) refl refl
      where
        go : (t u : Bool) → eqb j 0 ≡ t → eqb j (suc d) ≡ u → Three (λ n. swept_wing d s h wing n p k j)
        go true u e f =
            let not : k ≡ d → ⊥ = λ q. top q (eqb-true j 0 e) in
            let less : k < d = omega arith in
            rw (e, lt-ltb k d less) (numbers p (suc k) hp less)
        go false true e f =
            let more : k ≡ 0 → ⊥ = λ q. bottom q (eqb-true j (suc d) f) in
            rw (e, f, ne_eqb k 0 more) (numbers p (k - 1) hp (omega arith))
        go false false e f =
            let zero-out : j ≡ 0 → ⊥ = eqb-false j 0 e in
            let last_out : j ≡ suc d → ⊥ = eqb-false j (suc d) f in
            let at = side_of_position d k j hk (omega arith) (omega arith) in
            rw (e, f) (aside_steps (side_face d k j) (side_place d k j) at.face at.place)

    abbrev word : ℕ → ℕ → ℕ
    word n r = get_or (record_words d v s h ws n p k) r 0

    pub steps_at : (r : ℕ) → r < record_size (suc d) → (k ≡ 0 → r ≡ wing_place (suc d) (suc d) → ⊥) →
        (k ≡ d → r ≡ wing_place (suc d) 0 → ⊥) → Steps (word i r) (word (i + 1) r) (word (i + 2) r)
    steps_at r hr bottom top = go (dec_lt r 1) (dec_lt r 2) (dec_lt r (wing_place (suc d) 0))
      where
        go : Dec (r < 1) → Dec (r < 2) → Dec (r < wing_place (suc d) 0) → Steps (word i r) (word (i + 1) r) (word (i + 2) r)
        go (yes l) m n =
            let here : r ≡ 0 = omega arith in
            let is : (x : ℕ) → word x 0 ≡ turned_sign (sign_in d ws p) (k * d) = λ x. word_sign d v s h ws x p k ready.long hp hk in
            rw (here, is i, is (i + 1), is (i + 2)) (still refl refl)
        go (no l) (yes m) n =
            let here : r ≡ material_place = omega arith in
            let is : (x : ℕ) → word x material_place ≡ material_in d ws p = λ x. word_material d v s h ws x p k ready.long hp hk in
            rw (here, is i, is (i + 1), is (i + 2)) (still refl refl)
        go (no l) (no m) (yes n) =
            let here : r ≡ vertex_place (r - 2) = omega arith in
            let is : (x : ℕ) → word x r ≡ swept_vertex d v s ws x p k (r - 2) =
            λ x. ap (word x) here ∙ word_vertex d v s h ws x p k ready.long hp hk (r - 2) (omega arith) in
            rw (is i, is (i + 1), is (i + 2)) (vertex-steps (r - 2) (omega arith))
        go (no l) (no m) (no n) =
            let j = r - wing_place (suc d) 0 in
            let here : r ≡ wing_place (suc d) j = omega arith in
            let is : (x : ℕ) → word x r ≡ swept_wing d s h wing x p k j =
            λ x. ap (word x) here ∙ word_wing d v s h ws x p k ready.long hp hk j (omega arith) in
            rw (is i, is (i + 1), is (i + 2))
            (wing_steps j (omega arith) (λ q e. bottom q (omega arith)) (λ q e. top q (omega arith)))

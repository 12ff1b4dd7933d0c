-- Weights of vertices and rows.
use mathlib.Core.Path.{◌≡◌, refl, sym, ap, subst⁻¹, ◌∙◌}
use mathlib.Core.Bool.{Bool, true, false, cond}
use mathlib.Core.List.{List, [], ◌∷◌}
use Prim.Native.Nat.{ℕ, zero, suc, ◌+◌, ◌-◌, ◌*◌, ◌%◌, ◌^◌, ◌≤◌, ◌<◌}
use native.Mathlib.Nat.{lt_of_le_of_lt, mul-le-mul}
use native.Mathlib.Numerals.{add-one}
use native.Mathlib.Omega.{arith}
use native.Mathlib.Decide.{dec_lt}
use lib.Dec.{lit<, ltb}
use lib.ListN.{length, take, get_or, set, length-set, length-take}
use lib.Seq.{get_or-set_other, get_or-set_same, take_all}
use borrow.Author.Tests.{ltb-true, ltb-false}
use Rattle.simplex.specs.Cell.{Row}
use Rattle.simplex.specs.Faces.{without}
use Rattle.words.specs.Records.{part}
use Rattle.matching.specs.Inner.Matching.{cell_row}
use Rattle.matching.specs.Inner.Buckets.{term, weight, bucket_of}
use Rattle.matching.proofs.KeptRows.{cell_at_lem, take_past}

-- the products that make a term
pub inner_below : (v : ℕ) → v < 65536 → v * (v + 5903) < 2 ^ 33
inner_below v h = lt_of_le_of_lt (mul-le-mul {n₂ = 65536} {m₂ = 71439} (omega arith) (omega arith)) (lit< tt)

pub outer_below : (v : ℕ) → v < 65536 → v * (v * (v + 5903) + 12421) < 2 ^ 50
outer_below v h =
    lt_of_le_of_lt (mul-le-mul {n₂ = 65536} {m₂ = 2 ^ 33 + 12421} (omega arith) (omega (arith, inner_below v h))) (lit< tt)

term_zero : term 0 ≡ 0
unfolding term
term_zero = refl

-- one vertex more; past the end there is none, of weight 0
pub weight-take : (j : ℕ) (w : Row) → weight (take (suc j) w) ≡ weight (take j w) + term (get_or w j 0)
weight-take zero [] = omega (arith, term_zero)
weight-take (suc j) [] = omega (arith, term_zero)
weight-take zero (x ∷ w) = omega arith
weight-take (suc j) (x ∷ w) = omega (arith, weight-take j w)

-- one vertex less
pub weight-without : (a : ℕ) (w : Row) → term (get_or w a 0) + weight (without a w) ≡ weight w
weight-without zero [] = omega (arith, term_zero)
weight-without (suc a) [] = omega (arith, term_zero)
weight-without zero (x ∷ w) = refl
weight-without (suc a) (x ∷ w) = omega (arith, weight-without a w)

module _ (rows : List ℕ) (p : ℕ) where
  -- the weights of the first j of k vertices, and their sum
  pub record Weighed (k j sum : ℕ) (terms : List ℕ) : Type 0 where
    pub long : length terms ≡ 8
    pub each : (a : ℕ) → a < j → a < k → get_or terms a 0 ≡ term (get_or rows (p * 8 + a) 0)
    pub total : sum ≡ weight (take j (cell_row rows k p))

  module _ (k j sum : ℕ) (terms : List ℕ) (most : k ≤ 8) (l : j < 8) (w : Weighed k j sum terms) where
    pub weighed_more : (t : ℕ) → j < k → t ≡ term (get_or rows (p * 8 + j) 0) → Weighed k (j + 1) (sum + t) (set terms j t)
    weighed_more t h e =
        record {
          long = length-set terms j t ∙ w.long;
          each = λ a m n. go a (dec_lt a j) m n;
          total = subst⁻¹ (λ (m : ℕ). sum + t ≡ weight (take m (cell_row rows k p))) (add-one j)
              (omega (arith, weight-take j (cell_row rows k p), w.total, ap term (cell_at_lem rows k p j most h)));
        }
      where
        go : (a : ℕ) → Dec (a < j) → a < j + 1 → a < k → get_or (set terms j t) a 0 ≡ term (get_or rows (p * 8 + a) 0)
        go a (yes m) n h = get_or-set_other terms j a t 0 (λ e. omega arith) ∙ w.each a m h
        go a (no m) n h =
            let same : j ≡ a = omega arith in
            ap (λ i. get_or (set terms j t) i 0) (sym same) ∙ get_or-set_same terms j t 0 (omega (arith, w.long))
            ∙ e ∙ ap (λ i. term (get_or rows (p * 8 + i) 0)) same

    pub weighed_no_more : k ≤ j → Weighed k (j + 1) sum terms
    weighed_no_more h =
        record {
          long = w.long;
          each = λ a m n. w.each a (omega arith) n;
          total = w.total ∙ ap weight (take_all j (cell_row rows k p) (omega (arith, length-take k (part 8 p rows)))
              ∙ sym (take_all (j + 1) (cell_row rows k p) (omega (arith, length-take k (part 8 p rows)))));
        }

  -- all are weighed
  pub weighed_all : (k j sum : ℕ) (terms : List ℕ) → k ≤ j → Weighed k j sum terms →
      ((a : ℕ) → a < k → get_or terms a 0 ≡ term (get_or rows (p * 8 + a) 0)) × (sum ≡ weight (cell_row rows k p))
  weighed_all k j sum terms h w =
      ((λ a l. w.each a (omega arith) l), w.total ∙ ap weight (take_all j (cell_row rows k p) (omega (arith, length-take k (part 8 p rows)))))

  module _ (k a sum : ℕ) (terms : List ℕ) (most : k ≤ 8) (e : sum ≡ weight (cell_row rows k p))
      (each : (a : ℕ) → a < k → get_or terms a 0 ≡ term (get_or rows (p * 8 + a) 0)) where
    whole_less : a < k → get_or terms a 0 + weight (without a (cell_row rows k p)) ≡ sum
    whole_less l = omega (arith, weight-without a (cell_row rows k p), ap term (cell_at_lem rows k p a most l), each a l)

    pub term-within : a < k → get_or terms a 0 ≤ sum
    term-within l = omega (arith, whole_less l)

    pub bucket_of_lem : cond (ltb a k) (sum - get_or terms a 0) sum % 32749 ≡ bucket_of (without a (cell_row rows k p))
    unfolding bucket_of
    bucket_of_lem = ap (λ (x : ℕ). x % 32749) (go (ltb a k) refl)
      where
        go : (t : Bool) → ltb a k ≡ t → cond t (sum - get_or terms a 0) sum ≡ weight (without a (cell_row rows k p))
        go true l = omega (arith, whole_less (ltb-true a k l))
        go false l = e ∙ ap weight (sym (take_past k a (part 8 p rows) (ltb-false a k l)))

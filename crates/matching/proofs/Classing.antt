-- Keys classed by their first digits: at first all are of one class, at last each class has the keys of one row.
use mathlib.Core.Path.{◌≡◌, refl, sym, ap, ◌∙◌}
use mathlib.Core.Logic.{◌⊎◌, inl, inr}
use mathlib.Core.Bool.{Bool, true, false, cond}
use mathlib.Core.List.{List}
use Prim.Native.Nat.{ℕ, ◌+◌, ◌-◌, ◌*◌, ◌/◌, ◌%◌, ◌<◌, ◌≤◌}
use native.Mathlib.Nat.{div-lt_iff_lt-mul, mod-lt}
use native.Mathlib.Omega.{arith}
use lib.Dec.{eqb, ltb}
use lib.ListN.{length, get_or}
use borrow.Author.Count.{below_more}
use borrow.Author.Tests.{eqb-true, eqb-false, eq-eqb, ne_eqb, lt-ltb}
use Rattle.simplex.specs.Cell.{Row, same_row}
use Rattle.matching.specs.Inner.Links.{last_of, Linked}
use Rattle.matching.specs.Inner.Matching.{Keyed, key_row, earlier}
use Rattle.matching.specs.Inner.Classes.{class_at, key_digit, Picks, Parted, Classed}
use Rattle.matching.proofs.KeptRows.{key_length, same_true, same_false}
use Rattle.matching.proofs.LastBelow.{last_ext}

pub classed_start : (n : ℕ) (digit : ℕ → ℕ → ℕ) (class : List ℕ) → length class ≡ 32768 → ((g : ℕ) → g < n → get_or class g 0 ≡ n - 1) →
    Classed n digit class 0
classed_start n digit class long all = record {
  named = record {
    within = λ g l. omega (arith, all g l);
    last = λ g l. ap (λ (c : ℕ). get_or class c 0) (all g l) ∙ all (n - 1) (omega arith) ∙ sym (all g l);
  };
  same = λ f g lf lg e i l. absurd (omega arith);
  one = λ f g lf lg h. all f lf ∙ sym (all g lg);
  class_long = long;
}

-- classes by j digits, parted by digit j
module _ (n : ℕ) (digit : ℕ → ℕ → ℕ) (class new : List ℕ) (j : ℕ) (k : Classed n digit class j)
    (p : Parted (λ b. b < n) n class (digit j) new) where
  pick : (g : ℕ) → g < n → Picks n class (digit j) new g
  pick g l = p.picks g l (k.named.within g l).1

  pub classed_more : Classed n digit new (j + 1)
  classed_more = record {
    named = record { within = λ g l. ((pick g l).0, (pick g l).1); last = λ g l. (pick g l).4 };
    same = same;
    one = λ f g lf lg all. p.one f g lf lg (k.named.within g lg).1 (k.one f g lf lg (λ i h. all i (omega arith))) (all j (omega arith));
    class_long = p.new_long;
  }
    where
      same : (f g : ℕ) → f < n → g < n → get_or new f 0 ≡ get_or new g 0 → (i : ℕ) → i < j + 1 → digit i f ≡ digit i g
      same f g lf lg e =
          below_more _ j
          (k.same f g lf lg (sym (pick f lf).2 ∙ ap (λ (x : ℕ). get_or class x 0) e ∙ (pick g lg).2))
          (sym (pick f lf).3 ∙ ap (digit j) e ∙ (pick g lg).3)

-- a digit that all keys have alike parts nothing
pub classed_flat : (n : ℕ) (digit : ℕ → ℕ → ℕ) (class : List ℕ) (j : ℕ) → Classed n digit class j → ((g : ℕ) → g < n → digit j g ≡ 0) →
    Classed n digit class (j + 1)
classed_flat n digit class j k flat = record {
  named = k.named;
  same = λ f g lf lg e. below_more _ j (k.same f g lf lg e) (flat f lf ∙ sym (flat g lg));
  one = λ f g lf lg all. k.one f g lf lg (λ i h. all i (omega arith));
  class_long = k.class_long;
}

-- words whose digits are the same are the same
module _ (rows : List ℕ) (k w first : ℕ) where
  abbrev word : ℕ → ℕ → ℕ
  word i g = get_or (key_row rows k w first g) i 0

  upper : (i g : ℕ) → key_digit rows k w first (i * 2) g ≡ word i g / 4096
  unfolding key_digit
  upper i g =
      let h : i * 2 / 2 ≡ i = omega arith in
      let z : (i * 2) % 2 ≡ 0 = omega arith in
      ap (λ (t : Bool). cond t (word (i * 2 / 2) g / 4096) (word (i * 2 / 2) g % 4096)) (eq-eqb _ 0 z) ∙ ap (λ (a : ℕ). word a g / 4096) h

  lower : (i g : ℕ) → key_digit rows k w first (i * 2 + 1) g ≡ word i g % 4096
  unfolding key_digit
  lower i g =
      let h : (i * 2 + 1) / 2 ≡ i = omega arith in
      let z : (i * 2 + 1) % 2 ≡ 0 → ⊥ = λ e. omega arith in
      ap (λ (t : Bool). cond t (word ((i * 2 + 1) / 2) g / 4096) (word ((i * 2 + 1) / 2) g % 4096)) (ne_eqb _ 0 z)
      ∙ ap (λ (a : ℕ). word a g % 4096) h

  same_word : (m f g : ℕ) → ((i : ℕ) → i < m * 2 → key_digit rows k w first i f ≡ key_digit rows k w first i g) → (i : ℕ) → i < m →
      word i f ≡ word i g
  same_word m f g all i l =
      let a = sym (upper i f) ∙ all (i * 2) (omega arith) ∙ upper i g in
      let b = sym (lower i f) ∙ all (i * 2 + 1) (omega arith) ∙ lower i g in
      omega (arith, a, b)

  same-digit : (i f g : ℕ) → key_row rows k w first f ≡ key_row rows k w first g → key_digit rows k w first i f ≡ key_digit rows k w first i g
  unfolding key_digit
  same-digit i f g q = ap (λ (r : Row). let x = get_or r (i / 2) 0 in cond (eqb (i % 2) 0) (x / 4096) (x % 4096)) q

  -- keys of one class have the same row
  module _ (n m : ℕ) (class prev : List ℕ) (c : Classed n (key_digit rows k w first) class (m * 2))
      (long : (g : ℕ) → g < n → length (key_row rows k w first g) ≡ m) where
    same_class : (f g : ℕ) → f < n → g < n →
        eqb (get_or class f 0) (get_or class g 0) ≡ same_row (key_row rows k w first f) (key_row rows k w first g)
    same_class f g lf lg = go (eqb (get_or class f 0) (get_or class g 0)) refl
      where
        go : (t : Bool) → eqb (get_or class f 0) (get_or class g 0) ≡ t → t ≡ same_row (key_row rows k w first f) (key_row rows k w first g)
        go true e =
            sym (same_true (key_row rows k w first f) (key_row rows k w first g) (long f lf ∙ sym (long g lg))
            (λ i l. same_word m f g (c.same f g lf lg (eqb-true _ _ e)) i (omega (arith, long f lf))))
        go false e =
            sym (same_false (key_row rows k w first f) (key_row rows k w first g)
            (λ q. eqb-false _ _ e (c.one f g lf lg (λ i l. same-digit i f g q))))

    pub answered : Linked (class_at class) prev n → (g : ℕ) → g < n → get_or prev g 0 ≡ earlier rows k w first g
    unfolding last_of earlier
    answered links g l = links g l ∙ last_ext _ _ g (λ f h. same_class f g (omega arith) l)

-- all keys are as long as the first
pub alike-kept : (k w first i : ℕ) → (w ≡ 1) ⊎ (first + w ≤ k) → i < w → cond (ltb (first + i) k) (k - 1) k ≡ cond (ltb first k) (k - 1) k
alike-kept k w first i (inl e) l = let z : first + i ≡ first = omega arith in ap (λ (x : ℕ). cond (ltb x k) (k - 1) k) z
alike-kept k w first i (inr h) l = rw (lt-ltb (first + i) k (omega arith), lt-ltb first k (omega arith))

pub key_long : (rows : List ℕ) (k w first g : ℕ) → Keyed rows k w first → g < 4096 * w →
    length (key_row rows k w first g) ≡ cond (ltb first k) (k - 1) k
key_long rows k w first g h l =
    key_length rows k (g / w) h.long h.vertices (omega (arith, (div-lt_iff_lt-mul {y = 4096} h.some).1 l)) (first + g % w)
    ∙ alike-kept k w first (g % w) h.alike (mod-lt g h.some)

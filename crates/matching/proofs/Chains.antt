-- One more key linked by its class, where the last key of each class keeps the link of the next.
use mathlib.Core.Path.{◌≡◌, sym, ap, subst⁻¹, ◌∙◌}
use mathlib.Core.Bool.{Bool, cond}
use mathlib.Core.List.{List}
use Prim.Native.Nat.{ℕ, ◌+◌, ◌<◌, ◌≤◌}
use native.Mathlib.Nat.{not-suc-le-zero}
use native.Mathlib.Decide.{dec_lt, ℕ_discrete}
use native.Mathlib.Numerals.{add-one}
use native.Mathlib.Omega.{arith}
use lib.ListN.{length, get_or, set, length-set}
use lib.Seq.{get_or-set_same, get_or-set_other}
use borrow.Author.Tests.{eq-eqb, ne_eqb}
use Rattle.matching.specs.Inner.Links.{last_of}
use Rattle.matching.specs.Inner.Classes.{class_at, Named, Chaining}

-- the last of class b before m + 1
module _ (class : List ℕ) (m b : ℕ) where
  last-own : get_or class m 0 ≡ b → last_of (class_at class) b (m + 1) ≡ m
  unfolding last_of
  last-own e = ap (last_of (class_at class) b) (add-one m) ∙ ap (λ (t : Bool). cond t m (last_of (class_at class) b m)) (eq-eqb _ _ e)

  last_other : (get_or class m 0 ≡ b → ⊥) → last_of (class_at class) b (m + 1) ≡ last_of (class_at class) b m
  unfolding last_of
  last_other d = ap (last_of (class_at class) b) (add-one m) ∙ ap (λ (t : Bool). cond t m (last_of (class_at class) b m)) (ne_eqb _ _ d)

pub chaining_start : (class prev : List ℕ) (n : ℕ) → ((g : ℕ) → g < n → get_or prev g 0 ≡ 65535) → length prev ≡ 32768 → Chaining class prev n 0
unfolding last_of
chaining_start class prev n none long = record {
  links = λ f l. absurd (not-suc-le-zero l);
  heads = λ c m l e. none c l;
  prev_long = long;
}

module _ (class prev : List ℕ) (n m c : ℕ) (few : n ≤ 32768) (l : m < n) (named : Named n class) (e : c ≡ get_or class m 0)
    (k : Chaining class prev n m) where
  h : ℕ
  h = get_or prev c 0

  -- what the last key of the class has is the link of m
  held : h ≡ last_of (class_at class) (get_or class m 0) m
  unfolding h
  held =
      k.heads c (omega (arith, (named.within m l).0)) (omega (arith, (named.within m l).1))
      (ap (λ (i : ℕ). get_or class i 0) e ∙ named.last m l ∙ sym e)
      ∙ ap (λ (b : ℕ). last_of (class_at class) b m) e

  at : get_or (set (set prev c m) m h) m 0 ≡ h
  at = get_or-set_same (set prev c m) m h 0 (omega (arith, length-set prev c m, k.prev_long))

  other : (f : ℕ) → (f ≡ m → ⊥) → get_or (set (set prev c m) m h) f 0 ≡ get_or (set prev c m) f 0
  other f d = get_or-set_other (set prev c m) m f h 0 d

  pub chaining_more : Chaining class (set (set prev c m) m (get_or prev c 0)) n (m + 1)
  unfolding h
  chaining_more = record {
    links = λ f b. link f b (dec_lt f m);
    heads = λ b a lb eb. head b a lb eb (ℕ_discrete (get_or class m 0) b);
    prev_long = length-set (set prev c m) m h ∙ length-set prev c m ∙ k.prev_long;
  }
    where
      link : (f : ℕ) → f < m + 1 → Dec (f < m) → get_or (set (set prev c m) m h) f 0 ≡ last_of (class_at class) (get_or class f 0) f
      link f b (yes t) =
          other f (λ q. omega arith) ∙ get_or-set_other prev c f m 0 (λ q. omega (arith, (named.within m l).0)) ∙ k.links f t
      link f b (no t) =
          let q : f ≡ m = omega arith in
          subst⁻¹ (λ (i : ℕ). get_or (set (set prev c m) m h) i 0 ≡ last_of (class_at class) (get_or class i 0) i) q (at ∙ held)

      head : (b : ℕ) → m + 1 ≤ b → b < n → get_or class b 0 ≡ b → Dec (get_or class m 0 ≡ b) →
          get_or (set (set prev c m) m h) b 0 ≡ last_of (class_at class) b (m + 1)
      head b a lb eb (yes q) =
          other b (λ z. omega arith)
          ∙ subst⁻¹ (λ (i : ℕ). get_or (set prev c m) i 0 ≡ m) (sym (e ∙ q)) (get_or-set_same prev c m 0 (omega (arith, k.prev_long, q)))
          ∙ sym (last-own class m b q)
      head b a lb eb (no q) =
          other b (λ z. omega arith) ∙ get_or-set_other prev c b m 0 (λ z. q (sym e ∙ sym z)) ∙ k.heads b (omega arith) lb eb
          ∙ sym (last_other class m b q)

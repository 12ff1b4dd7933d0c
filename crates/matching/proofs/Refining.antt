-- Classes are parted one after the other, each in the list in which those before it are parted.
use mathlib.Core.Path.{◌≡◌, refl, sym, ap, subst⁻¹, ◌∙◌}
use mathlib.Core.Logic.{⊎_elim}
use mathlib.Core.Bool.{Bool, true, false}
use mathlib.Core.List.{List}
use Prim.Native.Nat.{ℕ, ◌+◌, ◌<◌, ◌≤◌}
use native.Mathlib.Decide.{dec_lt}
use native.Mathlib.Omega.{arith}
use lib.Dec.{eqb}
use lib.ListN.{length, get_or}
use borrow.Author.Tests.{eqb-true, eqb-false, eq-eqb, ne_eqb}
use Rattle.matching.specs.Inner.Links.{last_of, Linked}
use Rattle.matching.specs.Inner.Classes.{class_at, Named, Picks, Parted}
use Rattle.matching.proofs.Earlier.{last_passes, last_bounds}
use Rattle.matching.proofs.LastBelow.{last_ext}

-- before the first class
pub refine_start : (n : ℕ) (old : List ℕ) (digit : ℕ → ℕ) → length old ≡ 32768 → Parted (λ b. b < 0) n old digit old
refine_start n old digit long = record {
  picks = λ g l b. absurd (omega arith);
  one = λ f g lf lg b. absurd (omega arith);
  rest = λ g l b. refl;
  new_long = long;
}

module _ (n : ℕ) (old : List ℕ) (digit : ℕ → ℕ) (few : n ≤ 32768) (named : Named n old) (now : List ℕ) (c : ℕ) (l : c < n)
    (p : Parted (λ b. b < c) n old digit now) where
  -- a key of class c or later is not visited yet
  later : (g : ℕ) → g < n → c ≤ get_or old g 0 → get_or now g 0 ≡ get_or old g 0
  later g lg b = p.rest g lg (λ h. omega arith)

  own : get_or now c 0 ≡ get_or old c 0
  own = later c l (named.within c l).0

  -- there is no class c
  pub refine_none : (get_or now c 0 ≡ c → ⊥) → Parted (λ b. b < c + 1) n old digit now
  refine_none none = record {
    picks = λ g lg b. p.picks g lg (less g lg b);
    one = λ f g lf lg b. p.one f g lf lg (less g lg b);
    rest = λ g lg b. p.rest g lg (λ h. b (omega arith));
    new_long = p.new_long;
  }
    where
      other : (g : ℕ) → g < n → get_or old g 0 ≡ c → ⊥
      other g lg e = none (own ∙ ap (λ (i : ℕ). get_or old i 0) (sym e) ∙ named.last g lg ∙ e)

      less : (g : ℕ) → g < n → get_or old g 0 < c + 1 → get_or old g 0 < c
      less g lg b = omega (arith, other g lg)

  -- its keys are the same in both lists
  module _ (is : get_or now c 0 ≡ c) where
    to : (g : ℕ) → g < n → get_or now g 0 ≡ c → get_or old g 0 ≡ c
    to g lg e = go (dec_lt (get_or old g 0) c)
      where
        go : Dec (get_or old g 0 < c) → get_or old g 0 ≡ c
        go (yes h) = absurd (omega (arith, ap (λ (i : ℕ). get_or old i 0) (sym e) ∙ (p.picks g lg h).2, own))
        go (no h) = sym (later g lg (omega arith)) ∙ e

    from : (g : ℕ) → g < n → get_or old g 0 ≡ c → get_or now g 0 ≡ c
    from g lg e = later g lg (omega arith) ∙ e

    same_keys : (m : ℕ) → m ≤ n → last_of (class_at old) c m ≡ last_of (class_at now) c m
    unfolding last_of
    same_keys m h = last_ext _ _ m (λ g b. go g (omega arith) (eqb (get_or old g 0) c) refl)
      where
        go : (g : ℕ) → g < n → (t : Bool) → eqb (get_or old g 0) c ≡ t → t ≡ eqb (get_or now g 0) c
        go g lg true e = sym (eq-eqb _ _ (from g lg (eqb-true _ _ e)))
        go g lg false e = sym (ne_eqb _ _ (λ q. eqb-false _ _ e (to g lg q)))

    -- the class is named by its last key
    pub chain_start : c ≡ last_of (class_at now) c n
    unfolding last_of
    chain_start =
        let b = last_bounds (λ f. eqb (get_or now f 0) c) n c l (eq-eqb _ _ is) in
        ⊎_elim (λ h. absurd (omega (arith, b.0)))
        (λ h. let q = to _ h.0 (eqb-true _ _ h.1) in omega (arith, b.1, q, (named.within _ h.0).0))
        (last_passes (λ f. eqb (get_or now f 0) c) n)

    pub chain : (prev : List ℕ) → Linked (class_at old) prev n → (f : ℕ) → f < n → get_or now f 0 ≡ c →
        get_or prev f 0 ≡ last_of (class_at now) c f
    chain prev links f lf e =
        links f lf ∙ ap (λ (b : ℕ). last_of (class_at old) b f) (to f lf e) ∙ same_keys f (omega arith)

    pub refine_more : (new : List ℕ) → Parted (λ b. b ≡ c) n now digit new → Parted (λ b. b < c + 1) n old digit new
    refine_more new s = record {
      picks = λ g lg b. pick g lg (dec_lt (get_or old g 0) c) b;
      one = λ f g lf lg b ec ed. alike f g lf lg (dec_lt (get_or old g 0) c) b ec ed;
      rest = λ g lg b. s.rest g lg (λ h. b (omega (arith, to g lg h))) ∙ later g lg (omega arith);
      new_long = s.new_long;
    }
      where
        -- a key of an earlier class stays
        stays : (g : ℕ) → g < n → get_or old g 0 < c → get_or new g 0 ≡ get_or now g 0
        stays g lg h = s.rest g lg (λ q. omega (arith, to g lg q))

        pick : (g : ℕ) → g < n → Dec (get_or old g 0 < c) → get_or old g 0 < c + 1 → Picks n old digit new g
        pick g lg (yes h) b =
            let u = p.picks g lg h in
            subst⁻¹ (λ (r : ℕ). (g ≤ r) × (r < n) × (get_or old r 0 ≡ get_or old g 0) × (digit r ≡ digit g) × (get_or new r 0 ≡ r)) (stays g lg h)
            (u.0, u.1, u.2, u.3, stays _ u.1 (omega (arith, u.2)) ∙ u.4)
        pick g lg (no h) b =
            let e : get_or old g 0 ≡ c = omega arith in
            let u = s.picks g lg (from g lg e) in
            (u.0, u.1, to _ u.1 (u.2 ∙ from g lg e) ∙ sym e, u.3, u.4)

        alike : (f g : ℕ) → f < n → g < n → Dec (get_or old g 0 < c) → get_or old g 0 < c + 1 → get_or old f 0 ≡ get_or old g 0 →
            digit f ≡ digit g → get_or new f 0 ≡ get_or new g 0
        alike f g lf lg (yes h) b ec ed = stays f lf (omega arith) ∙ p.one f g lf lg h ec ed ∙ sym (stays g lg h)
        alike f g lf lg (no h) b ec ed =
            let e : get_or old g 0 ≡ c = omega arith in
            s.one f g lf lg (from g lg e) (from f lf (ec ∙ e) ∙ sym (from g lg e)) ed

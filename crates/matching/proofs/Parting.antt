-- A class is parted by a digit: each of its keys is visited, from the last down.
use mathlib.Core.Path.{◌≡◌, refl, sym, ap, subst, subst⁻¹, ◌∙◌}
use mathlib.Core.Logic.{◌⊎◌, inl, inr}
use mathlib.Core.Bool.{Bool, true, false, cond}
use mathlib.Core.List.{List}
use Prim.Native.Nat.{ℕ, ◌+◌, ◌-◌, ◌<◌, ◌≤◌}
use native.Mathlib.Nat.{eq-or-lt_of_le}
use native.Mathlib.Decide.{dec_lt, ℕ_discrete}
use native.Mathlib.Omega.{arith}
use lib.Dec.{ltb}
use lib.ListN.{length, get_or, set, length-set}
use lib.Seq.{get_or-set_same, get_or-set_other}
use borrow.Author.Tests.{ltb-true, ltb-false}
use Rattle.matching.specs.Inner.Links.{last_of}
use Rattle.matching.specs.Inner.Classes.{class_at, Picks, Parted, tag, Seen, Visited, Visiting}
use Rattle.matching.proofs.Earlier.{rank, rank_under, none_above}

module _ (n : ℕ) (old : List ℕ) (digit : ℕ → ℕ) (few : n ≤ 32768) where
  -- key g of class c is visited
  module _ (new seen : List ℕ) (c g : ℕ) (l : g < n) (e : get_or old g 0 ≡ c) (small : digit g < 4096)
      (v : Visiting n old digit new seen c (g + 1)) where
    store : (x : ℕ) → get_or (set new g x) g 0 ≡ x
    store x = get_or-set_same new g x 0 (omega (arith, v.new_long))

    -- what was visited before stays, and what is not visited yet
    picked : (x f : ℕ) → g < f → Picks n old digit new f → Picks n old digit (set new g x) f
    picked x f m p =
        subst⁻¹ (λ (r : ℕ). (f ≤ r) × (r < n) × (get_or old r 0 ≡ get_or old f 0) × (digit r ≡ digit f) × (get_or (set new g x) r 0 ≡ r))
        (get_or-set_other new g f x 0 (λ q. omega arith))
        (p.0, p.1, p.2, p.3, get_or-set_other new g (get_or new f 0) x 0 (λ q. omega (arith, p.0)) ∙ p.4)

    unvisited : (x f : ℕ) → f < n → (get_or old f 0 ≡ c → f < g) → get_or (set new g x) f 0 ≡ get_or old f 0
    unvisited x f lf b =
        get_or-set_other new g f x 0 (λ q. omega (arith, b (ap (λ (i : ℕ). get_or old i 0) q ∙ e)))
        ∙ v.rest f lf (λ h. omega (arith, b h))

    -- its digit was not seen in this class
    visit_new : get_or seen (digit g) 0 < tag c → Visiting n old digit (set new g g) (set seen (digit g) (tag c + g)) c g
    visit_new fresh = record {
      here = λ f lf b m. go f lf b (eq-or-lt_of_le m);
      rest = λ f lf b. unvisited g f lf b;
      mine = λ y ly t. met y ly t (ℕ_discrete y (digit g));
      new_long = length-set new g g ∙ v.new_long;
      seen_long = length-set seen (digit g) (tag c + g) ∙ v.seen_long;
    }
      where
        put : get_or (set seen (digit g) (tag c + g)) (digit g) 0 ≡ tag c + g
        put = get_or-set_same seen (digit g) (tag c + g) 0 (omega (arith, v.seen_long))

        T : ℕ → Type 0
        T f = Picks n old digit (set new g g) f × (get_or (set seen (digit g) (tag c + g)) (digit f) 0 ≡ tag c + get_or (set new g g) f 0)

        go : (f : ℕ) → f < n → get_or old f 0 ≡ c → (g ≡ f) ⊎ (g < f) → T f
        go f lf b (inl q) =
            subst T q (
              subst⁻¹ (λ (r : ℕ). (g ≤ r) × (r < n) × (get_or old r 0 ≡ get_or old g 0) × (digit r ≡ digit g) × (get_or (set new g g) r 0 ≡ r))
                  (store g)
                  (omega arith, l, refl, refl, store g),
              put ∙ ap (λ (i : ℕ). tag c + i) (sym (store g)),
            )
        go f lf b (inr m) =
            let t = v.here f lf b (omega arith) in (
              picked g f m t.0,
              get_or-set_other seen (digit g) (digit f) (tag c + g) 0
                  (λ q. omega (arith, ap (λ (i : ℕ). get_or seen i 0) q, t.1, fresh))
                  ∙ t.1 ∙ ap (λ (i : ℕ). tag c + i) (sym (get_or-set_other new g f g 0 (λ q. omega arith))),
            )

        M : ℕ → ℕ → Type 0
        M y s = (g ≤ s) × (s < n) × (get_or old s 0 ≡ c) × (digit s ≡ y) × (get_or (set new g g) s 0 ≡ s)

        met : (y : ℕ) → y < 4096 → tag c ≤ get_or (set seen (digit g) (tag c + g)) y 0 → Dec (y ≡ digit g) →
            M y (get_or (set seen (digit g) (tag c + g)) y 0 - tag c)
        met y ly t (yes q) =
            let s : get_or (set seen (digit g) (tag c + g)) (digit g) 0 - tag c ≡ g = omega (arith, put) in
            subst⁻¹ (λ (y : ℕ). M y (get_or (set seen (digit g) (tag c + g)) y 0 - tag c)) q
            (subst⁻¹ (M (digit g)) s (omega arith, l, e, refl, store g))
        met y ly t (no d) =
            let o = get_or-set_other seen (digit g) y (tag c + g) 0 d in
            let u = v.mine y ly (omega arith) in
            subst⁻¹ (λ (w : ℕ). M y (w - tag c)) o
            (omega (arith, u.0), u.1, u.2, u.3, get_or-set_other new g _ g 0 (λ q. omega (arith, u.0)) ∙ u.4)

    -- it was, at the key that seen has
    visit_old : tag c ≤ get_or seen (digit g) 0 → Visiting n old digit (set new g (get_or seen (digit g) 0 - tag c)) seen c g
    visit_old h = record {
      here = λ f lf b m. go f lf b (eq-or-lt_of_le m);
      rest = λ f lf b. unvisited s f lf b;
      mine = λ y ly t. let u = v.mine y ly t in
          (omega (arith, u.0), u.1, u.2, u.3, get_or-set_other new g _ s 0 (λ q. omega (arith, u.0)) ∙ u.4);
      new_long = length-set new g s ∙ v.new_long;
      seen_long = v.seen_long;
    }
      where
        s : ℕ
        s = get_or seen (digit g) 0 - tag c

        T : ℕ → Type 0
        T f = Picks n old digit (set new g s) f × (get_or seen (digit f) 0 ≡ tag c + get_or (set new g s) f 0)

        go : (f : ℕ) → f < n → get_or old f 0 ≡ c → (g ≡ f) ⊎ (g < f) → T f
        go f lf b (inl q) =
            let u = v.mine (digit g) small h in
            subst T q (
              subst⁻¹ (λ (r : ℕ). (g ≤ r) × (r < n) × (get_or old r 0 ≡ get_or old g 0) × (digit r ≡ digit g) × (get_or (set new g s) r 0 ≡ r))
                  (store s)
                  (omega (arith, u.0), u.1, u.2 ∙ sym e, u.3, get_or-set_other new g s s 0 (λ q. omega (arith, u.0)) ∙ u.4),
              omega (arith, store s),
            )
        go f lf b (inr m) =
            let t = v.here f lf b (omega arith) in
            (picked s f m t.0, t.1 ∙ ap (λ (i : ℕ). tag c + i) (sym (get_or-set_other new g f s 0 (λ q. omega arith))))

    pub visited : (x : ℕ) (next now : List ℕ) → x ≡ digit g → Visited c g x new seen next now → Visiting n old digit next now c g
    visited x next now ex h =
        subst⁻¹ (λ (a : List ℕ). Visiting n old digit a now c g) h.0
        (subst⁻¹ (λ (b : List ℕ). Visiting n old digit (set new g (cond (ltb (get_or seen x 0) (tag c)) g (get_or seen x 0 - tag c))) b c g) h.1
        (subst⁻¹ F ex (go (ltb (get_or seen (digit g) 0) (tag c)) refl)))
      where
        F : ℕ → Type 0
        F y =
            let t = ltb (get_or seen y 0) (tag c) in
            Visiting n old digit (set new g (cond t g (get_or seen y 0 - tag c))) (cond t (set seen y (tag c + g)) seen) c g

        go : (t : Bool) → ltb (get_or seen (digit g) 0) (tag c) ≡ t →
            Visiting n old digit (set new g (cond t g (get_or seen (digit g) 0 - tag c))) (cond t (set seen (digit g) (tag c + g)) seen) c g
        go true q = visit_new (ltb-true _ _ q)
        go false q = visit_old (ltb-false _ _ q)

  -- before class c is parted
  pub visiting_start : (seen : List ℕ) (c : ℕ) → length old ≡ 32768 → Seen seen c → Visiting n old digit old seen c n
  visiting_start seen c long s = record {
    here = λ g l b m. absurd (omega arith);
    rest = λ g l b. refl;
    mine = λ y l t. absurd (omega (arith, s.under y l));
    new_long = long;
    seen_long = s.seen_long;
  }

  module _ (new seen : List ℕ) (c : ℕ) where
    -- between key m and the last of the class before it there is none of the class
    pub visiting_down : (m x : ℕ) → m ≤ n → x ≡ last_of (class_at old) c m → Visiting n old digit new seen c m →
        Visiting n old digit new seen c (rank x)
    visiting_down m x l e v =
        record {
          here = λ g lg b r. go g lg b r (dec_lt g m);
          rest = λ g lg b. v.rest g lg (λ h. omega (arith, b h, under));
          mine = λ y ly t. let u = v.mine y ly t in (omega (arith, u.0, under), u.1, u.2, u.3, u.4);
          new_long = v.new_long;
          seen_long = v.seen_long;
        }
      where
        under : rank x ≤ m
        under = rank_under (class_at old) c m x (omega arith) e

        go : (g : ℕ) → g < n → get_or old g 0 ≡ c → rank x ≤ g → Dec (g < m) →
            Picks n old digit new g × (get_or seen (digit g) 0 ≡ tag c + get_or new g 0)
        go g lg b r (yes h) = absurd (none_above (class_at old) c m x (omega arith) e g h b r)
        go g lg b r (no h) = v.here g lg b (omega arith)

    -- class c is parted
    pub parted_class : Visiting n old digit new seen c 0 → Parted (λ b. b ≡ c) n old digit new
    parted_class v = record {
      picks = λ g l b. (v.here g l b (omega arith)).0;
      one = λ f g lf lg b ec ed. omega (
        arith,
        (v.here f lf (ec ∙ b) (omega arith)).1,
        (v.here g lg b (omega arith)).1,
        ap (λ (x : ℕ). get_or seen x 0) ed,
      );
      rest = λ g l b. v.rest g l (λ h. absurd (b h));
      new_long = v.new_long;
    }

    pub seen_next : Visiting n old digit new seen c 0 → Seen seen (c + 1)
    seen_next v = record { under = λ y l. go y l (dec_lt (get_or seen y 0) (tag c)); seen_long = v.seen_long }
      where
        go : (y : ℕ) → y < 4096 → Dec (get_or seen y 0 < tag c) → get_or seen y 0 < tag (c + 1)
        go y l (yes h) = omega arith
        go y l (no h) = omega (arith, (v.mine y l (omega arith)).1)

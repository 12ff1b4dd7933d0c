-- Numbers chained by buckets, and a chain followed. bk f is the bucket of number f.
--   chained-none, chained_more    no number chained, and one more
--   chained_same, chained_skip    another bucket for a number beyond, and a number left out
--   chains-none, chains_more, chains_skip, chain_of       the same of a list of hashes, and a chain of it
--   Past Q b i f          the numbers below i in bucket b beyond f have been passed, and Q holds of them; f is the next of them, or 65535
--   past_start, past_next, past_end       the walk
use mathlib.Core.Path.{◌≡◌, refl, sym, ap, ◌∙◌, subst, subst⁻¹}
use mathlib.Core.Logic.{◌⊎◌, inl, inr, ⊎_elim}
use mathlib.Core.Bool.{Bool, true, false, cond}
use mathlib.Core.List.{List}
use Prim.Native.Nat.{ℕ, zero, suc, ◌+◌, ◌≤◌, ◌<◌}
use native.Mathlib.Decide.{dec_lt, ℕ_discrete}
use native.Mathlib.Nat.{not-suc-le-zero}
use native.Mathlib.Numerals.{add-one}
use native.Mathlib.Omega.{arith}
use lib.Dec.{eqb}
use lib.ListN.{length, get_or, set, length-set}
use lib.Seq.{get_or-set_same, get_or-set_other}
use borrow.Author.Tests.{eq-eqb, eqb-true, eqb-false, ne_eqb}
use Rattle.matching.proofs.Earlier.{last_bounds, last_passes}
use Rattle.soundness.specs.Inner.Hashing.{last_in, Chain, Chained, Chains, Kept, bucket_at}

-- the last of none
pub chained-none : (bk : ℕ → ℕ) (n : ℕ) (head next : List ℕ) → ((b : ℕ) → b < n → get_or head b 0 ≡ 65535) → Chained bk n head next 0
unfolding last_in
chained-none bk n head next fresh = record { heads = fresh; links = λ f l k. absurd (not-suc-le-zero l) }

module _ (bk : ℕ → ℕ) (n : ℕ) (head next : List ℕ) (m b : ℕ) (room : n ≤ length head) (more : m < length next)
    (e : b ≡ bk m) (hb : b < n) (old : Chained bk n head next m) where
  heads_more : (c : ℕ) → c < n → get_or (set head b m) c 0 ≡ last_in bk c (m + 1)
  unfolding last_in
  heads_more c l = subst⁻¹ (λ (i : ℕ). get_or (set head b m) c 0 ≡ last_in bk c i) (add-one m) (go (eqb (bk m) c) refl)
    where
      go : (t : Bool) → eqb (bk m) c ≡ t → get_or (set head b m) c 0 ≡ cond t m (last_in bk c m)
      go true q =
          subst (λ (i : ℕ). get_or (set head b m) i 0 ≡ m) (e ∙ eqb-true (bk m) c q) (get_or-set_same head b m 0 (omega arith))
      go false q = get_or-set_other head b c m 0 (λ r. eqb-false (bk m) c q (sym (r ∙ e))) ∙ old.heads c l

  links_more : (f : ℕ) → f < m + 1 → bk f < n → get_or (set next m (get_or head b 0)) f 0 ≡ last_in bk (bk f) f
  links_more f l k = go (ℕ_discrete f m)
    where
      go : Dec (f ≡ m) → get_or (set next m (get_or head b 0)) f 0 ≡ last_in bk (bk f) f
      go (yes z) =
          subst⁻¹ (λ (i : ℕ). get_or (set next m (get_or head b 0)) i 0 ≡ last_in bk (bk i) i) z
          (get_or-set_same next m (get_or head b 0) 0 more ∙ old.heads b hb ∙ ap (λ c. last_in bk c m) e)
      go (no z) = get_or-set_other next m f (get_or head b 0) 0 z ∙ old.links f (omega arith) k

  pub chained_more : Chained bk n (set head b m) (set next m (get_or head b 0)) (m + 1)
  chained_more = record { heads = heads_more; links = links_more }

-- the last does not depend on what is behind
last-same : (bk bk' : ℕ → ℕ) (b m : ℕ) → ((f : ℕ) → f < m → bk f ≡ bk' f) → last_in bk b m ≡ last_in bk' b m
unfolding last_in
last-same bk bk' b zero h = refl
last-same bk bk' b (suc m) h =
    ap (λ x. cond (eqb x b) m (last_in bk b m)) (h m (omega arith))
    ∙ ap (λ (x : ℕ). cond (eqb (bk' m) b) m x) (last-same bk bk' b m (λ f l. h f (omega arith)))

chained_same : (bk bk' : ℕ → ℕ) (n : ℕ) (head next : List ℕ) (m : ℕ) → ((f : ℕ) → f < m → bk f ≡ bk' f) → Chained bk n head next m →
    Chained bk' n head next m
chained_same bk bk' n head next m h old = record {
  heads = λ b l. old.heads b l ∙ last-same bk bk' b m h;
  links = λ f l k. old.links f l (omega (arith, h f l, k)) ∙ last-same bk bk' (bk f) f (λ j l'. h j (omega arith))
      ∙ ap (λ c. last_in bk' c f) (h f l);
}

chained_skip : (bk : ℕ → ℕ) (n : ℕ) (head next : List ℕ) (m : ℕ) → n ≤ bk m → Chained bk n head next m → Chained bk n head next (m + 1)
unfolding last_in
chained_skip bk n head next m out old = record {
  heads = λ c l. subst⁻¹ (λ (i : ℕ). get_or head c 0 ≡ last_in bk c i) (add-one m)
      (old.heads c l ∙ ap (λ t. cond t m (last_in bk c m)) (sym (ne_eqb (bk m) c (λ z. omega (arith, z, l, out)))));
  links = λ f l k. old.links f (below f l k (ℕ_discrete f m)) k;
}
  where
    below : (f : ℕ) → f < m + 1 → bk f < n → Dec (f ≡ m) → f < m
    below f l k (yes z) = absurd (omega (arith, k, out, ap bk z))
    below f l k (no z) = omega arith

-- a bucket b for number m
abbrev with_bucket : (ℕ → ℕ) → ℕ → ℕ → ℕ → ℕ
with_bucket bk m b f = cond (eqb f m) b (bk f)

bucket_here : (bk : ℕ → ℕ) (m b : ℕ) → with_bucket bk m b m ≡ b
bucket_here bk m b = ap (λ t. cond t b (bk m)) (eq-eqb m m refl)

bucket_other : (bk : ℕ → ℕ) (m b f : ℕ) → f < m → with_bucket bk m b f ≡ bk f
bucket_other bk m b f l = ap (λ t. cond t b (bk f)) (ne_eqb f m (λ z. omega (arith, z, l)))

pub chains-none : (hash head next : List ℕ) → 0 < length head → length head ≤ 65536 → ((b : ℕ) → b < length head → get_or head b 0 ≡ 65535) →
    Chains hash head next 0
chains-none hash head next some few blank = record {
  some = some;
  few = few;
  bk = λ f. 0;
  kept = λ f l. absurd (not-suc-le-zero l);
  chained = chained-none (λ f. 0) (length head) head next blank;
}

-- the chain of a bucket
pub chain_of : (hash head next : List ℕ) (g b first : ℕ) → Chains hash head next g → b ≡ bucket_at (length head) hash g → b < length head →
    first ≡ get_or head b 0 → Chain (length head) hash next g first
chain_of hash head next g b first c e hb f = record {
  bk = c.bk;
  kept = c.kept;
  links = c.chained.links;
  low = omega (arith, e, hb);
  last = f ∙ c.chained.heads b hb ∙ ap (λ i. last_in c.bk i g) e;
}

module _ (hash head next : List ℕ) (g : ℕ) (old : Chains hash head next g) where
  -- of the numbers before g each is kept as it was
  kept_other : (b : ℕ) → Kept (with_bucket old.bk g b) (length head) hash g
  kept_other b f l = let r = old.kept f l in (r.0, r.1, r.2, bucket_other old.bk g b r.0 (omega (arith, r.1, l)) ∙ r.3)

  same : (b : ℕ) (f : ℕ) → f < g → old.bk f ≡ with_bucket old.bk g b f
  same b f l = sym (bucket_other old.bk g b f l)

  pub chains_more : (b : ℕ) → g < length next → b ≡ bucket_at (length head) hash g → b < length head →
      Chains hash (set head b g) (set next g (get_or head b 0)) (g + 1)
  chains_more b more e hb = record {
    some = rw (length-set head b g) old.some;
    few = rw (length-set head b g) old.few;
    bk = with_bucket old.bk g b;
    kept = subst⁻¹ (λ n. Kept (with_bucket old.bk g b) n hash (g + 1)) (length-set head b g) (λ f l. go f l (ℕ_discrete f g));
    chained = subst⁻¹ (λ n. Chained (with_bucket old.bk g b) n (set head b g) (set next g (get_or head b 0)) (g + 1)) (length-set head b g)
        (chained_more (with_bucket old.bk g b) (length head) head next g b (omega arith) more (sym (bucket_here old.bk g b)) hb
        (chained_same old.bk (with_bucket old.bk g b) (length head) head next g (same b) old.chained));
  }
    where
      go : (f : ℕ) → f < g + 1 → Dec (f ≡ g) →
          (j : ℕ) × (j ≤ f) × (get_or hash j 0 ≡ get_or hash f 0) × (with_bucket old.bk g b j ≡ bucket_at (length head) hash j)
      go f l (yes z) = (g, omega arith, ap (λ i. get_or hash i 0) (sym z), bucket_here old.bk g b ∙ e)
      go f l (no z) = kept_other b f (omega arith)

  -- left out, since an earlier number has its hash
  pub chains_skip : (r : ℕ) → r < g → get_or hash r 0 ≡ get_or hash g 0 → Chains hash head next (g + 1)
  chains_skip r h e = record {
    some = old.some;
    few = old.few;
    bk = with_bucket old.bk g (length head);
    kept = λ f l. go f l (ℕ_discrete f g);
    chained = chained_skip (with_bucket old.bk g (length head)) (length head) head next g
        (omega (arith, bucket_here old.bk g (length head)))
        (chained_same old.bk (with_bucket old.bk g (length head)) (length head) head next g (same (length head)) old.chained);
  }
    where
      go : (f : ℕ) → f < g + 1 → Dec (f ≡ g) →
          (j : ℕ) × (j ≤ f) × (get_or hash j 0 ≡ get_or hash f 0) × (with_bucket old.bk g (length head) j ≡ bucket_at (length head) hash j)
      go f l (yes z) =
          let k = kept_other (length head) r h in
          (k.0, omega (arith, k.1, h, z), k.2 ∙ e ∙ ap (λ i. get_or hash i 0) (sym z), k.3)
      go f l (no z) = kept_other (length head) f (omega arith)

abbrev pub Past : (ℕ → ℕ) → (ℕ → Type 0) → ℕ → ℕ → ℕ → Type 0
Past bk Q b i f = ((f ≡ 65535) ⊎ ((f < i) × (bk f ≡ b))) × ((j : ℕ) → j < i → bk j ≡ b → (f ≡ 65535) ⊎ (f < j) → Q j)

module _ (bk : ℕ → ℕ) (Q : ℕ → Type 0) (b i : ℕ) where
  -- the last below m in the bucket: nothing lies between
  between : (m j : ℕ) → j < m → bk j ≡ b → (last_in bk b m ≡ 65535) ⊎ (last_in bk b m < j) → m ≤ 65535 → ⊥
  unfolding last_in
  between m j l e (inl z) few = let r = last_bounds (λ f. eqb (bk f) b) m j l (eq-eqb (bk j) b e) in omega (arith, r.0, z, few)
  between m j l e (inr z) few = let r = last_bounds (λ f. eqb (bk f) b) m j l (eq-eqb (bk j) b e) in omega (arith, r.1, z)

  is_last : (m : ℕ) → (last_in bk b m ≡ 65535) ⊎ ((last_in bk b m < m) × (bk (last_in bk b m) ≡ b))
  unfolding last_in
  is_last m = ⊎_elim (λ z. inl z) (λ r. inr (r.0, eqb-true _ _ r.1)) (last_passes (λ f. eqb (bk f) b) m)

  pub past_start : (x : ℕ) → i ≤ 65535 → x ≡ last_in bk b i → Past bk Q b i x
  past_start x few e = subst⁻¹ (Past bk Q b i) e (is_last i, (λ j l k z. absurd (between i j l k z few)))

  pub past_next : (f x : ℕ) → i ≤ 65535 → Past bk Q b i f → (f ≡ 65535 → ⊥) → Q f → x ≡ last_in bk (bk f) f → Past bk Q b i x
  past_next f x few past ne q e =
      let h = ⊎_elim {C = (f < i) × (bk f ≡ b)} (λ z. absurd (ne z)) (λ r. r) past.0 in
      subst⁻¹ (Past bk Q b i) (e ∙ ap (λ c. last_in bk c f) h.1) (
        ⊎_elim (λ z. inl z) (λ r. inr (omega (arith, r.0, h.0), r.1)) (is_last f),
        λ j l k z. go j l k z h (dec_lt f j) (ℕ_discrete j f),
      )
    where
      go : (j : ℕ) → j < i → bk j ≡ b → (last_in bk b f ≡ 65535) ⊎ (last_in bk b f < j) → (f < i) × (bk f ≡ b) → Dec (f < j) → Dec (j ≡ f) → Q j
      go j l k z h (yes y) t = past.1 j l k (inr y)
      go j l k z h (no y) (yes t) = subst⁻¹ Q t q
      go j l k z h (no y) (no t) = absurd (between f j (omega arith) k z (omega (arith, h.0, few)))

  pub past_end : (f : ℕ) → Past bk Q b i f → f ≡ 65535 → (j : ℕ) → j < i → bk j ≡ b → Q j
  past_end f past z j l k = past.1 j l k (inl z)

-- One more key passed: alone, with or without a wing, or met by an earlier key that waits; and the end, where none waits.
--   total_put, total_less, total-none     sums with one number put, and sums of nothing
--   passed_alone, passed_waits, passed_met        one more key
--   all_done              where none waits all keys are first or second
--   as_alike, with_hashes     what is known of the hashes left out, and put back
--   pass_none, pass_hashed, pass_coded, pass_alone, pass_waits, pass_met   no key, and one more, of a table with its keys in their buckets
use mathlib.Core.Path.{◌≡◌, refl, sym, ap, ◌∙◌, subst}
use mathlib.Core.Logic.{◌⊎◌, inl, inr}
use mathlib.Core.Bool.{cond}
use mathlib.Core.List.{List}
use Prim.Native.Nat.{ℕ, zero, suc, ◌+◌, ◌*◌, ◌-◌, ◌/◌, ◌%◌, ◌≤◌, ◌<◌}
use native.Mathlib.Decide.{ℕ_discrete}
use native.Mathlib.Nat.{div-add-mod', div-lt_iff_lt-mul, mod-lt, not-suc-le-zero}
use native.Mathlib.Numerals.{add-one}
use native.Mathlib.Omega.{arith}
use lib.Dec.{eqb}
use lib.ListN.{length, get_or}
use borrow.Author.Tests.{eq-eqb, ne_eqb}
use Rattle.simplex.specs.Sort.{Asc}
use Rattle.records.specs.Layout.{empty}
use Rattle.soundness.specs.Inner.Certified.{face_in, row_in}
use Rattle.soundness.specs.Inner.Hashing.{Alike, Chains, Hashes, face_of}
use Rattle.soundness.specs.Inner.Pairing.{First, MeetsAt, New, Paired, Passing, PassingAlike, Second, total, wing_of}
use Rattle.records.specs.Inner.Inside.{Table}
use Rattle.records.proofs.Places.{record_long, row-long}
use Rattle.soundness.proofs.FaceRows.{one_cell}
use Rattle.soundness.specs.Inner.Coding.{Coded}
use Rattle.soundness.proofs.KnownKeys.{coded_alike}
use Rattle.soundness.proofs.Weighing.{hashes_alike}

-- x with y put at f
abbrev put : (ℕ → ℕ) → ℕ → ℕ → ℕ → ℕ
put x f y g = cond (eqb g f) y (x g)

put_here : (x : ℕ → ℕ) (f y : ℕ) → put x f y f ≡ y
put_here x f y = ap (λ t. cond t y (x f)) (eq-eqb f f refl)

put_other : (x : ℕ → ℕ) (f y g : ℕ) → (g ≡ f → ⊥) → put x f y g ≡ x g
put_other x f y g ne = ap (λ t. cond t y (x g)) (ne_eqb g f ne)

-- what is put at m or behind it does not count
total_put : (m f y : ℕ) (x : ℕ → ℕ) → m ≤ f → total m (put x f y) ≡ total m x
total_put zero f y x h = refl
total_put (suc m) f y x h = omega (arith, total_put m f y x (omega arith), put_other x f y m (λ z. omega (arith, z, h)))

-- nothing put for something
total_less : (m f : ℕ) (x : ℕ → ℕ) → f < m → 1 ≤ x f → total m (put x f 0) + 1 ≤ total m x
total_less zero f x h k = absurd (not-suc-le-zero h)
total_less (suc m) f x h k = go (ℕ_discrete f m) (λ l. total_less m f x l k)
  where
    go : Dec (f ≡ m) → (f < m → total m (put x f 0) + 1 ≤ total m x) → total (suc m) (put x f 0) + 1 ≤ total (suc m) x
    go (yes e) r =
        subst (λ i. total (suc i) (put x f 0) + 1 ≤ total (suc i) x) e
        (omega (arith, total_put f f 0 x (omega arith), put_here x f 0, k))
    go (no e) r = omega (arith, r (omega (arith, h, e)), put_other x f 0 m (λ z. e (sym z)))

total-none : (m g : ℕ) (x : ℕ → ℕ) → g < m → total m x ≡ 0 → x g ≡ 0
total-none zero g x h e = absurd (not-suc-le-zero h)
total-none (suc m) g x h e = go (ℕ_discrete g m) (λ l. total-none m g x l (omega (arith, e)))
  where
    go : Dec (g ≡ m) → (g < m → x g ≡ 0) → x g ≡ 0
    go (yes z) r = let k : x m ≡ 0 = omega (arith, e) in ap x z ∙ k
    go (no z) r = r (omega (arith, h, z))

module _ (d : ℕ) (ws : List ℕ) (m n : ℕ) (old : Paired d ws m n) where
  abbrev State : (ℕ → ℕ) → ℕ → Type 0
  State x g = (First d ws (m + 1) g ⊎ Second d ws g) ⊎ (New d ws g × (1 ≤ x g))

  -- a key passed before, where as many wait for it
  still : (x : ℕ → ℕ) (g : ℕ) → g < m → x g ≡ old.waits g → State x g
  still x g h e = go (old.done g h)
    where
      go : (First d ws m g ⊎ Second d ws g) ⊎ (New d ws g × (1 ≤ old.waits g)) → State x g
      go (inl (inl (k, inl z))) = inl (inl (k, inl z))
      go (inl (inl (k, inr r))) = inl (inl (k, inr (r.0, r.1, omega (arith, r.2), r.3)))
      go (inl (inr r)) = inl (inr r)
      go (inr (k, l)) = inr (k, omega (arith, e, l))

  -- with y put at m, where key m is in such a state
  more : (y k : ℕ) → total m old.waits + y ≤ k → State (put old.waits m y) m → Paired d ws (m + 1) k
  more y k h here = record {
    waits = put old.waits m y;
    few = rw (add-one m) (omega (arith, total_put m m y old.waits (omega arith), put_here old.waits m y));
    done = λ g l. go g l (ℕ_discrete g m);
  }
    where
      go : (g : ℕ) → g < m + 1 → Dec (g ≡ m) → State (put old.waits m y) g
      go g l (yes e) = subst (State (put old.waits m y)) (sym e) here
      go g l (no e) = still (put old.waits m y) g (omega arith) (put_other old.waits m y g e)

  pub passed_alone : New d ws m → wing_of d ws m ≡ empty → Paired d ws (m + 1) n
  passed_alone new e = more 0 n (omega (arith, old.few)) (inl (inl (new, inl e)))

  pub passed_waits : New d ws m → Paired d ws (m + 1) (n + 1)
  passed_waits new = more 1 (n + 1) (omega (arith, old.few)) (inr (new, omega (arith, put_here old.waits m 1)))

module _ (d s : ℕ) (ws : List ℕ) (small : s ≤ 4096)
    (long : (p : ℕ) → p < s → length (row_in d ws p) ≡ suc d) (up : (p : ℕ) → p < s → Asc (row_in d ws p))
    (m n f : ℕ) (hm : m < s * suc d) (hf : f < m) (old : Paired d ws m n) (now : MeetsAt d ws f m) where
  cell_of_lem : (g : ℕ) → g < s * suc d → g / suc d < s
  cell_of_lem g h = (div-lt_iff_lt-mul {k = suc d} {x = g} {y = s} (omega arith)).1 h

  place_of : (g : ℕ) → (g % suc d) ≤ d
  place_of g = omega (arith, mod-lt g {m = suc d} (omega arith))

  -- no other key meets it
  met_once : (h : ℕ) → h < s * suc d → wing_of d ws f ≡ h / suc d → face_of d ws f ≡ face_of d ws h → h ≡ m
  met_once h hh e z =
      let c : h / suc d ≡ m / suc d = sym e ∙ now.there in
      let y = one_cell d s ws long up (h / suc d) (h % suc d) (m % suc d) (cell_of_lem h hh) (place_of h) (place_of m)
      (sym z ∙ now.face ∙ ap (λ p. face_in d ws p (m % suc d)) (sym c)) in
      sym (div-add-mod' h (suc d)) ∙ ap (λ i. i * suc d + (h % suc d)) c ∙ ap (λ i. m / suc d * suc d + i) y ∙ div-add-mod' m (suc d)

  pub passed_met : (1 ≤ n) × Paired d ws (m + 1) (n - 1)
  passed_met = go (old.done f hf)
    where
      paired : New d ws f → 1 ≤ old.waits f → (1 ≤ n) × Paired d ws (m + 1) (n - 1)
      paired new k =
          let less = total_less m f old.waits hf k in (
            omega (arith, less, old.few),
            record {
              waits = put (put old.waits f 0) m 0;
              few = rw (add-one m) (omega (
                arith,
                less,
                old.few,
                total_put m m 0 (put old.waits f 0) (omega arith),
                put_here (put old.waits f 0) m 0,
              ));
              done = λ g l. state g l (ℕ_discrete g m) (ℕ_discrete g f);
            },
          )
        where
          state : (g : ℕ) → g < m + 1 → Dec (g ≡ m) → Dec (g ≡ f) → State d ws m n old (put (put old.waits f 0) m 0) g
          state g l (yes e) t = subst (State d ws m n old (put (put old.waits f 0) m 0)) (sym e) (inl (inr (f, hf, now)))
          state g l (no e) (yes t) =
              subst (State d ws m n old (put (put old.waits f 0) m 0)) (sym t) (inl (inl (new, inr (m, hf, omega arith, now))))
          state g l (no e) (no t) =
              still d ws m n old (put (put old.waits f 0) m 0) g (omega arith)
              (put_other (put old.waits f 0) m 0 g e ∙ put_other old.waits f 0 g t)

      go : (First d ws m f ⊎ Second d ws f) ⊎ (New d ws f × (1 ≤ old.waits f)) → (1 ≤ n) × Paired d ws (m + 1) (n - 1)
      go (inl (inl (k, inl z))) = absurd (omega (arith, z, now.there, cell_of_lem m hm, small))
      go (inl (inl (k, inr r))) = let z = met_once r.0 (omega (arith, r.2)) r.3.there r.3.face in absurd (omega (arith, z, r.2))
      go (inl (inr r)) = let z = met_once r.0 (omega (arith, r.1)) r.2.back (sym r.2.face) in absurd (omega (arith, z, r.1))
      go (inr (k, l)) = paired k l

pub all_done : (d : ℕ) (ws : List ℕ) (m : ℕ) → Paired d ws m 0 → (g : ℕ) → g < m → First d ws m g ⊎ Second d ws g
all_done d ws m p g h = go (p.done g h)
  where
    go : (First d ws m g ⊎ Second d ws g) ⊎ (New d ws g × (1 ≤ p.waits g)) → First d ws m g ⊎ Second d ws g
    go (inl r) = r
    go (inr (k, l)) = absurd (omega (arith, l, total-none m g p.waits h (omega (arith, p.few))))

pub pass_none : (d s : ℕ) (ws hash head next : List ℕ) → Table d s ws → ((p : ℕ) → p < s → Asc (row_in d ws p)) → s * suc d ≤ length hash →
    s * suc d ≤ length next → Alike d ws hash (s * suc d) → Chains hash head next 0 → PassingAlike d s ws hash head next 0 0
pass_none d s ws hash head next t up wide deep alike chains = record {
  table = t;
  up = up;
  wide = wide;
  deep = deep;
  alike = alike;
  chains = chains;
  paired = record { waits = λ g. 0; few = omega arith; done = λ g l. absurd (not-suc-le-zero l) };
  low = omega arith;
}

-- the same, where the hashes are known
pub as_alike : (d s : ℕ) (ws hash head next : List ℕ) (m n : ℕ) → Passing d s ws hash head next m n → PassingAlike d s ws hash head next m n
as_alike d s ws hash head next m n p = record {
  table = p.table;
  up = p.up;
  wide = p.wide;
  deep = p.deep;
  alike = hashes_alike d ws hash (s * suc d) p.hashed;
  chains = p.chains;
  paired = p.paired;
  low = p.low;
}

pub with_hashes : (d s : ℕ) (ws hash head next : List ℕ) (m n : ℕ) → Hashes d ws hash (s * suc d) → PassingAlike d s ws hash head next m n →
    Passing d s ws hash head next m n
with_hashes d s ws hash head next m n hashed p = record {
  table = p.table;
  up = p.up;
  wide = p.wide;
  deep = p.deep;
  hashed = hashed;
  chains = p.chains;
  paired = p.paired;
  low = p.low;
}

pub pass_hashed : (d s : ℕ) (ws hash head next : List ℕ) → Table d s ws → ((p : ℕ) → p < s → Asc (row_in d ws p)) → s * suc d ≤ length hash →
    s * suc d ≤ length next → Hashes d ws hash (s * suc d) → Chains hash head next 0 → Passing d s ws hash head next 0 0
pass_hashed d s ws hash head next t up wide deep hashed chains =
    with_hashes d s ws hash head next 0 0 hashed (pass_none d s ws hash head next t up wide deep (hashes_alike d ws hash (s * suc d) hashed) chains)

-- where the codes are known
pub pass_coded : (d s : ℕ) (ws hash code known head next : List ℕ) → Table d s ws → ((p : ℕ) → p < s → Asc (row_in d ws p)) →
    s * suc d ≤ length next → Coded d s ws hash code known → Chains hash head next 0 → PassingAlike d s ws hash head next 0 0
pass_coded d s ws hash code known head next t up deep coded chains =
    pass_none d s ws hash head next t up coded.room.hash_room deep (coded_alike d s ws hash code known coded) chains

module _ (d s : ℕ) (ws hash head next head' next' : List ℕ) (m n : ℕ) (old : PassingAlike d s ws hash head next m n) (hm : m < s * suc d)
    (long : length next' ≡ length next) (chains : Chains hash head' next' (m + 1)) where
  with_key : (k : ℕ) → k ≤ m + 1 → Paired d ws (m + 1) k → PassingAlike d s ws hash head' next' (m + 1) k
  with_key k h paired = record {
    table = old.table;
    up = old.up;
    wide = old.wide;
    deep = omega (arith, old.deep, long);
    alike = old.alike;
    chains = chains;
    paired = paired;
    low = h;
  }

  -- a key whose hash no earlier one has
  abbrev Alone : Type 0
  Alone = (j : ℕ) → j < m → get_or hash j 0 ≡ get_or hash m 0 → ⊥

  new : Alone → New d ws m
  new none j l z = none j l (old.alike j m (omega arith) hm z)

  pub pass_alone : Alone → wing_of d ws m ≡ empty → PassingAlike d s ws hash head' next' (m + 1) n
  pass_alone none e = with_key n (omega (arith, old.low)) (passed_alone d ws m n old.paired (new none) e)

  pub pass_waits : Alone → PassingAlike d s ws hash head' next' (m + 1) (n + 1)
  pass_waits none = with_key (n + 1) (omega (arith, old.low)) (passed_waits d ws m n old.paired (new none))

  pub pass_met : (f : ℕ) → f < m → MeetsAt d ws f m → (1 ≤ n) × PassingAlike d s ws hash head' next' (m + 1) (n - 1)
  pass_met f hf now =
      let size : (p : ℕ) → p < s → length (row_in d ws p) ≡ suc d = λ p h. row-long d _ (record_long d s p ws h old.table.long) in
      let r = passed_met d s ws old.table.cells size old.up m n f hm hf old.paired now in
      (r.0, with_key (n - 1) (omega (arith, old.low)) r.1)

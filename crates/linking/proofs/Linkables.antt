-- A table before its keys are linked, and one more key that is in its bucket, alone or paired.
-- Assumes nothing.
use mathlib.Core.Path.{◌≡◌, refl, sym, ap, ◌∙◌}
use mathlib.Core.List.{List}
use Prim.Native.Nat.{ℕ, suc, ◌+◌, ◌*◌, ◌/◌, ◌%◌, ◌≤◌, ◌<◌}
use native.Mathlib.Nat.{div-lt_iff_lt-mul, mod-lt, not-suc-le-zero}
use native.Mathlib.Omega.{arith}
use lib.ListN.{length, get_or}
use Rattle.records.specs.Layout.{empty}
use Rattle.records.specs.Inner.Inside.{Table, wing_in}
use Rattle.soundness.specs.Inner.Hashing.{Chains, Hashes, hash_of}
use Rattle.soundness.proofs.Chaining.{chains-none}
use Rattle.linking.specs.Inner.Linking.{Apt, Joined, Linkable, Linking, SameCells}
use Rattle.linking.proofs.Passing.{alone_more, face-same, pair_more}

module _ (d s : ℕ) (ws hash head next head' next' : List ℕ) (g : ℕ) (old : Linkable d s ws hash head next g) (hg : g < s * suc d)
    (long : length next' ≡ length next) (chains : Chains hash head' next' (g + 1)) where
  more : (ws' : List ℕ) → SameCells d s ws ws' → Linking d (s * suc d) ws' (g + 1) → Linkable d s ws' hash head' next' (g + 1)
  more ws' same linking = record {
    table = record { dimension = old.table.dimension; cells = old.table.cells; long = same.long ∙ old.table.long };
    wide = old.wide;
    deep = omega (arith, old.deep, long);
    hashed = λ j l. old.hashed j l ∙ ap hash_of (sym (face-same d s old.table.cells ws ws' same j l));
    chains = chains;
    linking = linking;
  }

  -- where no key before it has its hash
  pub alone : ((j : ℕ) → j < g → get_or hash j 0 ≡ get_or hash g 0 → ⊥) →
      SameCells d s ws ws × Linkable d s ws hash head' next' (g + 1)
  alone none =
      let same : SameCells d s ws ws = record { long = refl; sign = λ q h. refl; cell = λ q h. refl } in (
        same,
        more ws same (alone_more d s old.table.cells ws g hg old.linking
            (λ j l z. none j l (old.hashed j (omega arith) ∙ ap hash_of z ∙ sym (old.hashed g hg)))),
      )

  -- where it is paired
  pub paired : (ws' : List ℕ) (f : ℕ) → f < g → Apt d ws (f / suc d) (f % suc d) (g / suc d) (g % suc d) →
      Joined d s ws ws' (f / suc d) (f % suc d) (g / suc d) (g % suc d) →
      SameCells d s ws ws' × Linkable d s ws' hash head' next' (g + 1)
  paired ws' f l apt now =
      (now.same, more ws' now.same (pair_more d s old.table.cells ws ws' f g l hg old.linking apt now))

-- before the first key
pub begins : (d s : ℕ) (ws hash head next : List ℕ) → Table d s ws → s * suc d ≤ length hash → s * suc d ≤ length next →
    0 < length head → length head ≤ 65536 → Hashes d ws hash (s * suc d) → ((b : ℕ) → b < length head → get_or head b 0 ≡ 65535) →
    ((p a : ℕ) → p < s → a ≤ d → wing_in d ws p a ≡ empty) → Linkable d s ws hash head next 0
begins d s ws hash head next t wide deep some few hashed fresh bare = record {
  table = t;
  wide = wide;
  deep = deep;
  hashed = hashed;
  chains = chains-none hash head next some few fresh;
  linking = record {
    done = λ g l. absurd (not-suc-le-zero l);
    ahead = λ g l k. bare (g / suc d) (g % suc d) ((div-lt_iff_lt-mul {k = suc d} {x = g} {y = s} (omega arith)).1 l)
        (omega (arith, mod-lt g {m = suc d} (omega arith)));
  };
}

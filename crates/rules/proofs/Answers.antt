-- What an answer means determines it, and how lists of rules join.
--   refusal_of n               the refusal with the number n
--   number_of_range            refusals are numbered 1 to 18,
--   number_of_injective        each differently
--   outcome_of_injective       so the outcome determines the answer
--   refused_with, passed_with  the refusal that the tests of a part have found, or that they pass
--   all_numbered rs            whether every rule has a number from 1 on, so that 0 says that none applies
--   first_refusal-append       of rules rs and then qs, the first refusal is that of rs, or that of qs where rs has none
--   first_refusal-refused, first_refusal_passed     its two cases
--   first_refusal-on_part       rules on a part of the input refuse what they refuse of the part
-- Assumes nothing.
use mathlib.Core.Path.{◌≡◌, refl, ap, ◌∙◌, sym}
use mathlib.Core.Bool.{Bool, true, false, cond, ◌&&◌, true≢false}
use mathlib.Core.List.{List, [], ◌∷◌, ◌++◌, map}
use Prim.Native.Nat.{ℕ, zero, suc, ◌≤◌, ◌<◌}
use native.Mathlib.Omega.{arith}
use lib.Dec.{eqb, leb}
use borrow.Author.Tests.{leb-true}
use Rattle.rules.specs.Limits.{within}
use Rattle.rules.specs.Calls.{Rule, on_part, first_refusal, Outcome, accepted, refused}
use Rattle.rules.specs.Numbers.{number_of, verdict_of, outcome_of}
use Rattle.rules.specs.declared.refusal.Refusal.{Refusal}
use Rattle.rules.specs.declared.refusal.Refusal.TheVariants as R
use Rattle.std.specs.Prelude.{Result, Ok, Err, is_err}
use Rattle.rules.proofs.Tests.{and_parts}

refusals : List Refusal
refusals =
    R.NotOurs ∷ R.OutsideLimits ∷ R.WrongLength ∷ R.FloatRange ∷ R.StepUnfit ∷ R.BadSign ∷ R.BadVertex ∷ R.VertexTwice
    ∷ R.CellTwice ∷ R.CrowdedFace ∷ R.EqualSigns ∷ R.SweptTooLarge ∷ R.MovedOutOfRange ∷ R.Unsound ∷ R.NoRoom
    ∷ R.StaysInPlane ∷ R.BadMaterial ∷ []

numbered_as : ℕ → List Refusal → Refusal
numbered_as n [] = R.NotOurs
numbered_as n (r ∷ rs) = cond (eqb (number_of r) n) r (numbered_as n rs)

pub refusal_of : ℕ → Refusal
refusal_of n = numbered_as n refusals

numbered : (r : Refusal) → (refusal_of (number_of r) ≡ r) × (within 1 18 (number_of r) ≡ true)
unfolding refusals numbered_as refusal_of
numbered R.NotOurs = (refl, refl)
numbered R.OutsideLimits = (refl, refl)
numbered R.WrongLength = (refl, refl)
numbered R.FloatRange = (refl, refl)
numbered R.StepUnfit = (refl, refl)
numbered R.BadSign = (refl, refl)
numbered R.BadVertex = (refl, refl)
numbered R.VertexTwice = (refl, refl)
numbered R.CellTwice = (refl, refl)
numbered R.CrowdedFace = (refl, refl)
numbered R.EqualSigns = (refl, refl)
numbered R.SweptTooLarge = (refl, refl)
numbered R.MovedOutOfRange = (refl, refl)
numbered R.Unsound = (refl, refl)
numbered R.NoRoom = (refl, refl)
numbered R.StaysInPlane = (refl, refl)
numbered R.BadMaterial = (refl, refl)

pub number_of_range : (r : Refusal) → (1 ≤ number_of r) × (number_of r ≤ 18)
number_of_range r =
    let parts = and_parts (leb 1 (number_of r)) (leb (number_of r) 18) (numbered r).1 in
    (leb-true 1 (number_of r) parts.0, leb-true (number_of r) 18 parts.1)

pub number_of_injective : (r q : Refusal) → number_of r ≡ number_of q → r ≡ q
number_of_injective r q e = sym (numbered r).0 ∙ ap refusal_of e ∙ (numbered q).0

accepted_injective : (n m : ℕ) → accepted n ≡ accepted m → n ≡ m
accepted_injective n m e = cc

refused_injective : (n m : ℕ) → ◌≡◌ {A = Outcome ℕ} (refused n) (refused m) → n ≡ m
refused_injective n m e = cc

accepted_not_refused : (n m : ℕ) → accepted n ≡ refused m → ⊥
accepted_not_refused n m e = let z : ◌≡◌ {A = ℕ} 0 1 = cc in omega arith

pub outcome_of_injective : (a b : Result ℕ Refusal) → outcome_of a ≡ outcome_of b → a ≡ b
outcome_of_injective (Ok n) (Ok m) e = ap Ok (accepted_injective n m e)
outcome_of_injective (Err r) (Err q) e = ap Err (number_of_injective r q (refused_injective (number_of r) (number_of q) e))
outcome_of_injective (Ok n) (Err q) e = absurd (accepted_not_refused n (number_of q) e)
outcome_of_injective (Err r) (Ok m) e = absurd (accepted_not_refused m (number_of r) (sym e))

-- what tests of a part have found: a refusal, whose number it is,
pub refused_with : (v : Result Unit Refusal) → is_err v ≡ true → (r : Refusal) × (number_of r ≡ verdict_of v)
refused_with (Err r) e = (r, refl)
refused_with (Ok _) e = absurd (true≢false (sym e))

-- or none
pub passed_with : (v : Result Unit Refusal) → is_err v ≡ false → verdict_of v ≡ 0
passed_with (Err r) e = absurd (true≢false e)
passed_with (Ok _) e = refl

-- n, or k where n is 0
abbrev pub or_else : ℕ → ℕ → ℕ
or_else zero k = k
or_else (suc n) k = suc n

or_else_positive : (n k : ℕ) → 1 ≤ n → or_else n k ≡ n
or_else_positive zero k h = absurd (omega arith)
or_else_positive (suc n) k h = refl

-- one rule before a list
append-one : (t : Bool) (n j k m : ℕ) → 1 ≤ n → j ≡ or_else k m → cond t n j ≡ or_else (cond t n k) m
append-one true n j k m h e = sym (or_else_positive n m h)
append-one false n j k m h e = e

module _ {I : Type 0} where
  -- whether every rule of a list has a number from 1 on: refl shows it of a list that is written out
  abbrev pub all_numbered : List (Rule I) → Bool
  all_numbered [] = true
  all_numbered (r ∷ rs) = leb 1 r.number && all_numbered rs

  pub first_refusal-append : (rs qs : List (Rule I)) (x : I) → all_numbered rs ≡ true →
      first_refusal (rs ++ qs) x ≡ or_else (first_refusal rs x) (first_refusal qs x)
  first_refusal-append [] qs x h = refl
  first_refusal-append (r ∷ rs) qs x h =
      let parts = and_parts (leb 1 r.number) (all_numbered rs) h in
      append-one (r.applies x) r.number (first_refusal (rs ++ qs) x) (first_refusal rs x) (first_refusal qs x)
      (leb-true 1 r.number parts.0) (first_refusal-append rs qs x parts.1)

  pub first_refusal-refused : (rs qs : List (Rule I)) (x : I) → all_numbered rs ≡ true → 0 < first_refusal rs x →
      first_refusal (rs ++ qs) x ≡ first_refusal rs x
  first_refusal-refused rs qs x h p = first_refusal-append rs qs x h ∙ or_else_positive (first_refusal rs x) (first_refusal qs x) p

  pub first_refusal_passed : (rs qs : List (Rule I)) (x : I) → all_numbered rs ≡ true → first_refusal rs x ≡ 0 →
      first_refusal (rs ++ qs) x ≡ first_refusal qs x
  first_refusal_passed rs qs x h e = first_refusal-append rs qs x h ∙ rw e

pub first_refusal-on_part : {I J : Type 0} (part : J → I) (rs : List (Rule I)) (x : J) →
    first_refusal (map (on_part part) rs) x ≡ first_refusal rs (part x)
first_refusal-on_part part [] x = refl
first_refusal-on_part part (r ∷ rs) x = rw (first_refusal-on_part part rs x)

-- What is left of a list, one element further.
--   lines_rest, lines_end         of the lines f 0, f 1, ..
--   point-within                  point p is among the floats
--   vertex-line                   the line of point p, from a part of the floats
--   point-ranged                  which are in range
-- Assumes nothing.
use mathlib.Core.Path.{◌≡◌, sym, ap, ◌∙◌, subst}
use mathlib.Core.Bool.{true}
use mathlib.Core.List.{List, [], ◌∷◌, ◌++◌, map}
use Prim.Native.Nat.{ℕ, suc, ◌+◌, ◌-◌, ◌*◌, ◌≤◌, ◌<◌}
use native.Mathlib.Nat.{suc-mul, mul-le-mul_right}
use native.Mathlib.Numerals.{add-one}
use native.Mathlib.Omega.{arith}
use lib.ListN.{length, take, drop, length-drop, drop_of_length-le}
use lib.Ieee.{Float, nan}
use lib.Seq.{drop-cons, length-take-le, get_or-take, get_or-drop}
use Rattle.words.specs.Records.{tabulate, part, concat, all_of}
use Rattle.words.proofs.Records.{tabulate-length, tabulate_at}
use Rattle.words.proofs.Loops.{all_at}
use Rattle.points.specs.Step.{in_range}
use Rattle.points.proofs.AllOf.{all_of_true}
use Rattle.printing.specs.Decimal.{digits, coordinate}
use Rattle.printing.specs.Fields.{line}
use Rattle.listing.specs.Lines.{vertex_word, vertex_line}

module _ (n : ℕ) (f : ℕ → List ℕ) where
  pub lines_rest : (p : ℕ) → p < n → concat (drop p (tabulate n f)) ≡ f p ++ concat (drop (p + 1) (tabulate n f))
  lines_rest p h =
      ap concat (drop-cons (tabulate n f) p [] (subst (λ (k : ℕ). p < k) (sym (tabulate-length n f)) h))
      ∙ ap (λ (l : List ℕ). l ++ concat (drop (suc p) (tabulate n f))) (tabulate_at n f p [] h)
      ∙ ap (λ (k : ℕ). f p ++ concat (drop k (tabulate n f))) (sym (add-one p))

  pub lines_end : (p : ℕ) → n ≤ p → concat (drop p (tabulate n f)) ≡ []
  lines_end p h = ap concat (drop_of_length-le (tabulate n f) (subst (λ (k : ℕ). k ≤ p) (sym (tabulate-length n f)) h))

part_length : (n p : ℕ) (xs : List Float) → p * n + n ≤ length xs → length (part n p xs) ≡ n
part_length n p xs w = length-take-le n (drop (p * n) xs) (omega (arith, length-drop (p * n) xs))

-- point p is within the floats of v points
pub point-within : (n v p len : ℕ) → len ≡ v * n → p < v → p * n + n ≤ len
point-within n v p len e h = omega (arith, e, suc-mul p n, mul-le-mul_right {m = suc p} {n = v} n h)

-- point p as a part of the floats
module _ (n p : ℕ) (ps : List Float) where
  abbrev pub point_here : List Float
  point_here = take (p * n + n - p * n) (drop (p * n) ps)

  point-here : part n p ps ≡ point_here
  point-here =
      let axes : n ≡ p * n + n - p * n = omega arith in
      ap (λ (k : ℕ). take k (drop (p * n) ps)) axes

  pub vertex-line : vertex_line n ps p ≡ line vertex_word (map digits (p ∷ []) ++ map coordinate point_here)
  unfolding vertex_line
  vertex-line = ap (λ (xs : List Float). line vertex_word (digits p ∷ map coordinate xs)) point-here

  pub point-ranged : p * n + n ≤ length ps → all_of in_range ps ≡ true → all_of in_range point_here ≡ true
  point-ranged within e =
      subst (λ (xs : List Float). all_of in_range xs ≡ true) point-here
      (all_of_true in_range nan (part n p ps) (λ k h.
      let l = subst (λ (m : ℕ). k < m) (part_length n p ps within) h in
      ap in_range (get_or-take n (drop (p * n) ps) k nan l ∙ get_or-drop (p * n) ps k nan)
      ∙ all_at in_range nan ps (p * n + k) e (omega (arith, within))))

-- How many of the n words from a place on are below x, counted one by one.
--   rank_under, rank_over     the next is below x, or is not
--   rank_behind       there is no next
--   rank_all          all are counted
use mathlib.Core.Path.{◌≡◌, refl, sym, ap, ◌∙◌}
use mathlib.Core.List.{List, [], ◌∷◌}
use Prim.Native.Nat.{ℕ, zero, suc, ◌+◌, ◌≤◌, ◌<◌}
use native.Mathlib.Nat.{le_of_suc-le-suc, not-suc-le-zero}
use native.Mathlib.Numerals.{add-one}
use native.Mathlib.Omega.{arith}
use lib.Dec.{ltb}
use lib.ListN.{length, get_or, take, drop, length-drop}
use lib.Seq.{get_or-drop, get_or-take, length-take-le, take_all}
use borrow.Author.Tests.{lt-ltb, le-ltb}
use Rattle.simplex.specs.Cell.{Row, one}
use Rattle.simplex.specs.Order.{below}

below_next : (x i : ℕ) (w : Row) → i < length w → below x (take (suc i) w) ≡ one (ltb (get_or w i 0) x) + below x (take i w)
below_next x i [] h = absurd (not-suc-le-zero h)
below_next x zero (y ∷ w) h = refl
below_next x (suc i) (y ∷ w) h = omega (arith, below_next x i w (le_of_suc-le-suc h))

module _ (n at : ℕ) (ws : List ℕ) (x i r : ℕ) (room : at + n ≤ length ws) (e : r ≡ below x (take i (take n (drop at ws)))) where
  abbrev w : Row
  w = take n (drop at ws)

  long : length w ≡ n
  long = length-take-le n (drop at ws) (omega (arith, length-drop at ws))

  next : i < n → below x (take (i + 1) w) ≡ one (ltb (get_or ws (at + i) 0) x) + r
  next h =
      ap (λ m. below x (take m w)) (add-one i) ∙ below_next x i w (omega (arith, long))
      ∙ omega (arith, e, ap (λ y. one (ltb y x)) (get_or-take n (drop at ws) i 0 h ∙ get_or-drop at ws i 0))

  pub rank_under : i < n → get_or ws (at + i) 0 < x → r + 1 ≡ below x (take (i + 1) w)
  rank_under h l = omega (arith, next h, ap one (lt-ltb (get_or ws (at + i) 0) x l))

  pub rank_over : i < n → x ≤ get_or ws (at + i) 0 → r ≡ below x (take (i + 1) w)
  rank_over h l = omega (arith, next h, ap one (le-ltb (get_or ws (at + i) 0) x l))

  pub rank_behind : n ≤ i → r ≡ below x (take (i + 1) w)
  rank_behind h = e ∙ ap (below x) (take_all i w (omega (arith, long)) ∙ sym (take_all (i + 1) w (omega (arith, long))))

  pub rank_all : n ≤ i → r ≡ below x w
  rank_all h = e ∙ ap (below x) (take_all i w (omega (arith, long)))

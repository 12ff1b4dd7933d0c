-- Lists written in any order.
--   outside-none, outside_set     nothing is written; one word of the n is
--   kept-none, kept_then          nothing is written; a list is kept twice
--   kept_set, set-right           one right word is written, and is right
--   Stored, stored                one word is written into what there was
--   rights_from, rights_more      one right word more
--   placed_right, placed_outside  a list that is placed is right, and the rest is as it was
--   filled                        with all words right the list is placed
-- Assumes nothing.
use Rattle.std.proofs.Common.{◌≡◌, ℕ, ◌+◌, ◌-◌, ◌<◌, ◌≤◌, Bool, true, false, eqb, List, length, get_or, drop, set, sym, refl, ap, ◌∙◌, arith}
use Rattle.std.proofs.Common.{length-set, get_or-drop, get_or-set_other, get_or-take, get_or-set_same, ext_get_or, eqb-true}
use native.Mathlib.Decide.{dec_lt}
use borrow.Author.Tests.{eqb-false}
use Rattle.words.specs.Inner.Placed.{placed}
use Rattle.words.proofs.Placed.{placed-length, placed-before, placed-read, placed-behind}
use Rattle.sweeping.specs.Inner.Filling.{Right, Outside, Kept}

pub outside-none : (at n : ℕ) (old : List ℕ) → Outside at n old old
outside-none at n old = record { same = refl; before = λ x l. refl; behind = λ x l. refl }

pub outside_set : (at n e w : ℕ) (old buf : List ℕ) → e < n → Outside at n old buf → Outside at n old (set buf (at + e) w)
outside_set at n e w old buf he o =
    record {
      same = length-set buf (at + e) w ∙ o.same;
      before = λ x l. get_or-set_other buf (at + e) x w 0 (λ q. omega arith) ∙ o.before x l;
      behind = λ x l. get_or-set_other buf (at + e) x w 0 (λ q. omega arith) ∙ o.behind x l;
    }

module _ (at : ℕ) (xs : List ℕ) where
  pub kept-none : (old : List ℕ) → Kept at xs old old
  kept-none old = record { outside = outside-none at (length xs) old; right = λ e r. r }

  pub kept_then : (old mid new : List ℕ) → Kept at xs old mid → Kept at xs mid new → Kept at xs old new
  kept_then old mid new k l =
      record {
        outside =
            record {
              same = l.outside.same ∙ k.outside.same;
              before = λ x h. l.outside.before x h ∙ k.outside.before x h;
              behind = λ x h. l.outside.behind x h ∙ k.outside.behind x h;
            };
        right = λ e r. l.right e (k.right e r);
      }

  module _ (old buf : List ℕ) (e w : ℕ) (room : at + length xs ≤ length old) (he : e < length xs) (k : Kept at xs old buf)
      (is : w ≡ get_or xs e 0) where
    pub set-right : Right at xs (set buf (at + e) w) e
    set-right = get_or-set_same buf (at + e) w 0 (omega (arith, k.outside.same)) ∙ is

    pub kept_set : Kept at xs old (set buf (at + e) w)
    kept_set = record { outside = outside_set at (length xs) e w old buf he k.outside; right = λ f r. go f (eqb f e) refl r }
      where
        go : (f : ℕ) (t : Bool) → eqb f e ≡ t → Right at xs old f → Right at xs (set buf (at + e) w) f
        go f true q r = rw (eqb-true f e q) set-right
        go f false q r = get_or-set_other buf (at + e) (at + f) w 0 (λ z. eqb-false f e q (omega arith)) ∙ k.right f r

  pub record Stored (old new : List ℕ) (e : ℕ) : Type 0 where
    pub kept : Kept at xs old new
    pub right : Right at xs new e

  pub stored : (old : List ℕ) (e w x : ℕ) → at + length xs ≤ length old → e < length xs → x ≡ at + e → w ≡ get_or xs e 0 →
      Stored old (set old x w) e
  stored old e w x room he here is =
      rw here (record {
        kept = kept_set old old e w room he (kept-none old) is;
        right = set-right old old e w room he (kept-none old) is;
      })

  -- of places given one after the other, from one on, one more is right
  pub rights_from : (old new : List ℕ) (f : ℕ → ℕ) (first k : ℕ) → Kept at xs old new →
      ((m : ℕ) → first ≤ m → m < k → Right at xs old (f m)) → Right at xs new (f k) → (m : ℕ) → first ≤ m → m < k + 1 → Right at xs new (f m)
  rights_from old new f first k kept all one m g h = go (dec_lt m k)
    where
      go : Dec (m < k) → Right at xs new (f m)
      go (yes l) = kept.right (f m) (all m g l)
      go (no l) = let here : m ≡ k = omega arith in rw here one

  pub rights_more : (old new : List ℕ) (f : ℕ → ℕ) (k : ℕ) → Kept at xs old new → ((m : ℕ) → m < k → Right at xs old (f m)) →
      Right at xs new (f k) → (m : ℕ) → m < k + 1 → Right at xs new (f m)
  rights_more old new f k kept all one m h = rights_from old new f 0 k kept (λ q l. all q) one m (omega arith) h

  module _ (old : List ℕ) (room : at + length xs ≤ length old) where
    abbrev whole : List ℕ
    whole = placed at xs old

    pub placed_right : (e : ℕ) → e < length xs → Right at xs whole e
    placed_right e h =
        sym (get_or-drop at whole e 0) ∙ sym (get_or-take (length xs) (drop at whole) e 0 h)
        ∙ ap (λ (l : List ℕ). get_or l e 0) (placed-read at xs old (omega arith))

    behind_at : (e : ℕ) → get_or whole (at + length xs + e) 0 ≡ get_or old (at + length xs + e) 0
    behind_at e =
        sym (get_or-drop (at + length xs) whole e 0) ∙ ap (λ (l : List ℕ). get_or l e 0) (placed-behind at xs old room)
        ∙ get_or-drop (at + length xs) old e 0

    pub placed_outside : Outside at (length xs) old whole
    placed_outside =
        record {
          same = placed-length at xs old room;
          before = λ x l. placed-before at xs old x 0 l (omega arith);
          behind = λ x l.
              let here : x ≡ at + length xs + (x - (at + length xs)) = omega arith in rw here (behind_at (x - (at + length xs)));
        }

    pub filled : (new : List ℕ) → Outside at (length xs) old new → ((e : ℕ) → e < length xs → Right at xs new e) → new ≡ placed at xs old
    filled new o all =
        ext_get_or 0 new whole (o.same ∙ sym placed_outside.same) (λ x less. go x (dec_lt x at) (dec_lt x (at + length xs)))
      where
        go : (x : ℕ) → Dec (x < at) → Dec (x < at + length xs) → get_or new x 0 ≡ get_or whole x 0
        go x (yes l) m = o.before x l ∙ sym (placed_outside.before x l)
        go x (no l) (yes m) =
            let here : x ≡ at + (x - at) = omega arith in
            rw here (all (x - at) (omega arith) ∙ sym (placed_right (x - at) (omega arith)))
        go x (no l) (no m) = o.behind x (omega arith) ∙ sym (placed_outside.behind x (omega arith))

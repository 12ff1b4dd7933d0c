-- What is known of the keys of a table, key by key; and keys that meet.
--   three             the words of one key put
--   coded_more, rooms_more    one more key
--   coded_alike       keys with equal faces have equal hashes
--   coded_met         when two keys meet
use mathlib.Core.Path.{◌≡◌, sym, ap, ◌∙◌, subst, subst⁻¹}
use mathlib.Core.List.{List}
use Prim.Native.Nat.{ℕ, zero, suc, ◌+◌, ◌*◌, ◌-◌, ◌/◌, ◌%◌, ◌≤◌, ◌<◌}
use native.Mathlib.Decide.{dec_lt}
use native.Mathlib.Nat.{add-zero, div-lt_iff_lt-mul, mod-lt}
use native.Mathlib.Omega.{arith}
use lib.Arith.{digits_div}
use lib.ListN.{length, length-set, get_or, set}
use lib.Seq.{get_or-set_same, get_or-set_other}
use Rattle.matching.proofs.Quotients.{cell_of_key, place_of_key}
use mathlib.Core.Bool.{Bool, true, false}
use Rattle.simplex.specs.Cell.{alternating, times}
use Rattle.simplex.specs.SignWords.{sign_of, sign_word, turned_sign}
use Rattle.simplex.proofs.Without.{without-length}
use Rattle.records.specs.Inner.Inside.{Table, sign_in, vertex_in, wing_in}
use Rattle.records.proofs.Places.{record_long, row-long}
use Rattle.soundness.specs.Inner.Certified.{Fine, face_in, row_in}
use Rattle.soundness.specs.Inner.Hashing.{Alike, face_of}
use Rattle.soundness.specs.Inner.Pairing.{MeetsAt, wing_of}
use Rattle.soundness.specs.Inner.Coding.{apex_at, Coded, code_of, CodedTo, mixed, Rooms, sign_at, Under}
use Rattle.soundness.proofs.Coding.{code_same, under_at, under-without}
use Rattle.soundness.proofs.Filled.{filled_more}

-- the three words of key g put
abbrev pub three : List ℕ → ℕ → ℕ → ℕ → ℕ → List ℕ
three xs g w q v = set (set (set xs (g * 3) w) (g * 3 + 1) q) (g * 3 + 2) v

pub three_long : (xs : List ℕ) (g w q v : ℕ) → length (three xs g w q v) ≡ length xs
three_long xs g w q v =
    length-set (set (set xs (g * 3) w) (g * 3 + 1) q) (g * 3 + 2) v ∙ length-set (set xs (g * 3) w) (g * 3 + 1) q ∙ length-set xs (g * 3) w

three_other : (xs : List ℕ) (g w q v j : ℕ) → j < g * 3 → get_or (three xs g w q v) j 0 ≡ get_or xs j 0
three_other xs g w q v j h =
    get_or-set_other (set (set xs (g * 3) w) (g * 3 + 1) q) (g * 3 + 2) j v 0 (λ z. omega (arith, z, h))
    ∙ get_or-set_other (set xs (g * 3) w) (g * 3 + 1) j q 0 (λ z. omega (arith, z, h)) ∙ get_or-set_other xs (g * 3) j w 0 (λ z. omega (arith, z, h))

three_put : (xs : List ℕ) (g w q v : ℕ) → g * 3 + 3 ≤ length xs → (get_or (three xs g w q v) (g * 3) 0 ≡ w)
    × (get_or (three xs g w q v) (g * 3 + 1) 0 ≡ q) × (get_or (three xs g w q v) (g * 3 + 2) 0 ≡ v)
three_put xs g w q v h =
    let one = length-set xs (g * 3) w in
    let two = length-set (set xs (g * 3) w) (g * 3 + 1) q in (
      get_or-set_other (set (set xs (g * 3) w) (g * 3 + 1) q) (g * 3 + 2) (g * 3) v 0 (λ z. omega (arith, z))
          ∙ get_or-set_other (set xs (g * 3) w) (g * 3 + 1) (g * 3) q 0 (λ z. omega (arith, z)) ∙ get_or-set_same xs (g * 3) w 0 (omega (arith, h)),
      get_or-set_other (set (set xs (g * 3) w) (g * 3 + 1) q) (g * 3 + 2) (g * 3 + 1) v 0 (λ z. omega (arith, z))
          ∙ get_or-set_same (set xs (g * 3) w) (g * 3 + 1) q 0 (omega (arith, h, one)),
      get_or-set_same (set (set xs (g * 3) w) (g * 3 + 1) q) (g * 3 + 2) v 0 (omega (arith, h, one, two)),
    )

module _ (d b : ℕ) (ws : List ℕ) (p a g : ℕ) (e : g ≡ p * suc d + a) (ha : a ≤ d) where
  -- what holds of the place holds of its key
  at_key : (Q : ℕ → ℕ → Type 0) → Q p a → Q (g / suc d) (g % suc d)
  at_key Q q =
      subst (λ i. Q (i / suc d) (i % suc d)) (sym e)
      (subst (λ i. Q i ((p * suc d + a) % suc d)) (sym (cell_of_key p a (suc d) (omega arith)))
      (subst (λ i. Q p i) (sym (place_of_key p a (suc d) (omega arith))) q))

  module _ (hash code known : List ℕ) (room : Rooms (suc g) hash code known) (old : CodedTo d b ws hash code known (p * suc d + a)) where
    one : (at : ℕ → ℕ) (xs : List ℕ) (x : ℕ) → g < length xs → ((i : ℕ) → i < p * suc d + a → get_or xs i 0 ≡ at i) → x ≡ at g →
        (i : ℕ) → i < p * suc d + (a + 1) → get_or (set xs g x) i 0 ≡ at i
    one at xs x l was is i k = filled_more at xs g x l (λ i h. was i (omega (arith, e, h))) is i (omega (arith, e, k))

    -- three words more: word k of each key is as it was, and the new one's is y
    word : (at : ℕ → ℕ) (w q v k y : ℕ) → k < 3 → ((i : ℕ) → i < p * suc d + a → get_or known (i * 3 + k) 0 ≡ at i) →
        get_or (three known g w q v) (g * 3 + k) 0 ≡ y → y ≡ at g → (i : ℕ) → i < p * suc d + (a + 1)
        → get_or (three known g w q v) (i * 3 + k) 0 ≡ at i
    word at w q v k y hk was put is i l = go (dec_lt i g)
      where
        go : Dec (i < g) → get_or (three known g w q v) (i * 3 + k) 0 ≡ at i
        go (yes h) = three_other known g w q v (i * 3 + k) (omega (arith, h, hk)) ∙ was i (omega (arith, e, h))
        go (no h) =
            let z : g ≡ i = omega (arith, e, h, l) in
            subst (λ j. get_or (three known g w q v) (j * 3 + k) 0 ≡ at j) z (put ∙ is)

    pub coded_more : (h c w q v : ℕ) → h ≡ mixed (code_of b (face_in d ws p a)) →
        c ≡ code_of b (face_in d ws p a) * 2 + turned_sign (sign_in d ws p) a → w ≡ wing_in d ws p a → q ≡ p → v ≡ vertex_in d ws p a →
        CodedTo d b ws (set hash g h) (set code g c) (three known g w q v) (p * suc d + (a + 1))
    coded_more h c w q v eh ec ew eq ev =
        let put = three_put known g w q v (omega (arith, room.known_room)) in
        let first : (i : ℕ) → i * 3 + 0 ≡ i * 3 = λ i. add-zero (i * 3) in
        record {
          hash_is = one (λ i. mixed (code_of b (face_of d ws i))) hash h room.hash_room old.hash_is
              (at_key (λ i j. h ≡ mixed (code_of b (face_in d ws i j))) eh);
          code_is = one (λ i. code_of b (face_of d ws i) * 2 + sign_at d ws i) code c room.code_room old.code_is
              (at_key (λ i j. c ≡ code_of b (face_in d ws i j) * 2 + turned_sign (sign_in d ws i) j) ec);
          wing_is = λ i l. subst (λ j. get_or (three known g w q v) j 0 ≡ wing_of d ws i) (first i)
              (word (λ i. wing_of d ws i) w q v 0 w (omega arith)
              (λ i k. subst⁻¹ (λ j. get_or known j 0 ≡ wing_of d ws i) (first i) (old.wing_is i k))
              (subst⁻¹ (λ j. get_or (three known g w q v) j 0 ≡ w) (first g) put.0) (at_key (λ i j. w ≡ wing_in d ws i j) ew) i l);
          cell_is = word (λ i. i / suc d) w q v 1 q (omega arith) old.cell_is put.1 (at_key (λ i j. q ≡ i) eq);
          apex_is = word (λ i. apex_at d ws i) w q v 2 v (omega arith) old.apex_is put.2 (at_key (λ i j. v ≡ vertex_in d ws i j) ev);
        }

pub rooms_more : (n g h c w q v : ℕ) (hash code known : List ℕ) → Rooms n hash code known →
    Rooms n (set hash g h) (set code g c) (three known g w q v)
rooms_more n g h c w q v hash code known r = record {
  hash_room = omega (arith, r.hash_room, length-set hash g h);
  code_room = omega (arith, r.code_room, length-set code g c);
  known_room = omega (arith, r.known_room, three_long known g w q v);
}

pub rooms_less : (m n : ℕ) (hash code known : List ℕ) → m ≤ n → Rooms n hash code known → Rooms m hash code known
rooms_less m n hash code known l r = record {
  hash_room = omega (arith, l, r.hash_room);
  code_room = omega (arith, l, r.code_room);
  known_room = omega (arith, l, r.known_room);
}

-- a sign word is one bit
pub turned_bit : (w n : ℕ) → turned_sign w n ≤ 1
turned_bit w n = go (times (alternating n) (sign_of w))
  where
    go : (t : Bool) → sign_word t ≤ 1
    go true = omega arith
    go false = omega arith

-- as many keys, counted another way
pub coded_at : {d b : ℕ} {ws hash code known : List ℕ} (m n : ℕ) → m ≡ n → CodedTo d b ws hash code known m →
    CodedTo d b ws hash code known n
coded_at m n e x = record {
  hash_is = λ g l. x.hash_is g (omega (arith, l, e));
  code_is = λ g l. x.code_is g (omega (arith, l, e));
  wing_is = λ g l. x.wing_is g (omega (arith, l, e));
  cell_is = λ g l. x.cell_is g (omega (arith, l, e));
  apex_is = λ g l. x.apex_is g (omega (arith, l, e));
}

module _ (d s : ℕ) (ws hash code known : List ℕ) (x : Coded d s ws hash code known) where
  pub coded_alike : Alike d ws hash (s * suc d)
  coded_alike j g hj hg e = x.told.hash_is j hj ∙ ap (λ w. mixed (code_of x.base w)) e ∙ sym (x.told.hash_is g hg)

  module _ (t : Table d s ws) (f g : ℕ) (hf : f < s * suc d) (hg : g < s * suc d) where
    cell_of_lem : (k : ℕ) → k < s * suc d → k / suc d < s
    cell_of_lem k h = (div-lt_iff_lt-mul {k = suc d} {x = k} {y = s} (omega arith)).1 h

    size : (k : ℕ) → k < s * suc d → suc (length (face_of d ws k)) ≡ suc d
    size k h =
        let l = row-long d _ (record_long d s (k / suc d) ws (cell_of_lem k h) t.long) in
        without-length (k % suc d) (row_in d ws (k / suc d)) (omega (arith, l, mod-lt k {m = suc d} (omega arith))) ∙ l

    under : (k : ℕ) → k < s * suc d → Under x.base (face_of d ws k)
    under k h = under-without x.base (k % suc d) (row_in d ws (k / suc d)) (x.under (k / suc d) (cell_of_lem k h))

    -- the code without its last bit
    half : (k : ℕ) → k < s * suc d → get_or code k 0 / 2 ≡ code_of x.base (face_of d ws k)
    half k h =
        ap (λ i. i / 2) (x.told.code_is k h)
        ∙ digits_div (code_of x.base (face_of d ws k)) {m = 2} (omega (arith, turned_bit (sign_in d ws (k / suc d)) (k % suc d)))

    face : get_or code f 0 / 2 ≡ get_or code g 0 / 2 → face_of d ws f ≡ face_of d ws g
    face e =
        code_same x.base (face_of d ws f) (face_of d ws g) (omega (arith, size f hf, size g hg)) (under f hf) (under g hg)
        (sym (half f hf) ∙ e ∙ half g hg)

    pub coded_met : get_or known (f * 3) 0 ≡ get_or known (g * 3 + 1) 0 → get_or known (g * 3) 0 ≡ get_or known (f * 3 + 1) 0 →
        (get_or known (f * 3 + 2) 0 ≡ get_or known (g * 3 + 2) 0 → ⊥) →
        get_or code f 0 / 2 ≡ get_or code g 0 / 2 → (get_or code f 0 ≡ get_or code g 0 → ⊥) → MeetsAt d ws f g
    coded_met there back apart same other = record {
      there = sym (x.told.wing_is f hf) ∙ there ∙ x.told.cell_is g hg;
      back = sym (x.told.wing_is g hg) ∙ back ∙ x.told.cell_is f hf;
      face = face same;
      apex = λ z. apart (x.told.apex_is f hf ∙ z ∙ sym (x.told.apex_is g hg));
      opposite = λ z. other (x.told.code_is f hf ∙ ap (λ w. code_of x.base w * 2 + sign_at d ws f) (face same)
          ∙ ap (λ i. code_of x.base (face_of d ws g) * 2 + i) z ∙ sym (x.told.code_is g hg));
    }

-- fine records have all vertices below the base
pub fine_under : (d v b s p : ℕ) (ws : List ℕ) → Table d s ws → p < s → Fine d v ws p → v ≤ b → Under b (row_in d ws p)
fine_under d v b s p ws t hp fine most =
    let l : length (row_in d ws p) ≡ suc d = row-long d _ (record_long d s p ws hp t.long) in
    under_at b (row_in d ws p) (λ j h. low (d - j) j (omega (arith, h, l)))
  where
    low : (k j : ℕ) → j + k ≡ d → vertex_in d ws p j < b
    low zero j e = let z : d ≡ j = omega (arith, e) in subst (λ i. vertex_in d ws p i < b) z (omega (arith, fine.low, most))
    low (suc k) j e = omega (arith, fine.up j (omega (arith, e)), low k (suc j) (omega (arith, e)))

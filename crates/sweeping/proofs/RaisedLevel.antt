-- A level raised from those below and joined to its neighbours has all its words.
--   joined-level          where the words but those of the joining wings are right
--   raised_level, stepped_level      raised from the two below; from the one below
-- Assumes nothing.
use Rattle.std.proofs.Common.{◌≡◌, ℕ, suc, ◌+◌, ◌*◌, ◌<◌, ◌≤◌, Bool, true, false, eqb, List, length, get_or, sym, refl, ap, ◌∙◌, zero-mul, arith}
use Rattle.std.proofs.Common.{eqb-true}
use borrow.Author.Tests.{eqb-false}
use Rattle.words.specs.Inner.Placed.{placed}
use Rattle.records.specs.Layout.{record_size, wing_place}
use Rattle.records.proofs.Parts.{inside}
use Rattle.sweeping.specs.Inner.Filling.{Right, Outside, Kept}
use Rattle.sweeping.specs.Inner.Raising.{prism_size, step_of, Raised, Stepped, SteppedLevel}
use Rattle.sweeping.specs.Inner.SweptWords.{level_words, record_words, Ready}
use Rattle.sweeping.proofs.Filling.{filled}
use Rattle.sweeping.proofs.Joining.{bottom, top}
use Rattle.sweeping.proofs.LevelStep.{Moves, by_record, step_at, stepped_is}
use Rattle.sweeping.proofs.LevelSteps.{ahead_is, steps_at}
use Rattle.sweeping.proofs.LevelWords.{Place, place_of, word_at}
use Rattle.sweeping.proofs.SweptWords.{level-long}

module _ (d v s h : ℕ) (ws : List ℕ) (ready : Ready d v s h ws) (i n at : ℕ) (size : n ≡ s * prism_size d) (old mid new : List ℕ)
    (room : at + n ≤ length old) where
  abbrev level : List ℕ
  level = level_words d v s h ws i

  long : length level ≡ n
  long = level-long d v s h ws ready.long i ∙ sym size

  module _ (moved : Outside at n old mid) (kept : Kept at level mid new) (below : (p : ℕ) → p < s → Right at level new (bottom d p))
      (above : (p : ℕ) → p < s → Right at level new (top d p))
      (going : (e : ℕ) → e < n → (x : Place d s e) → (x.k ≡ 0 → x.r ≡ wing_place (suc d) (suc d) → ⊥) →
      (x.k ≡ d → x.r ≡ wing_place (suc d) 0 → ⊥) → get_or mid (at + e) 0 ≡ get_or (record_words d v s h ws i x.p x.k) x.r 0) where
    module _ (e : ℕ) (he : e < n) (x : Place d s e) where
      at_level_lem : get_or level e 0 ≡ get_or (record_words d v s h ws i x.p x.k) x.r 0
      at_level_lem =
          ap (λ m. get_or level m 0) x.is ∙ word_at d v s h ws ready.long i x.p x.cell x.k x.r x.swept x.place

      -- a word that is raised
      raises : (x.k ≡ 0 → x.r ≡ wing_place (suc d) (suc d) → ⊥) → (x.k ≡ d → x.r ≡ wing_place (suc d) 0 → ⊥) → Right at level new e
      raises b t = kept.right e (going e he x b t ∙ sym at_level_lem)

      -- a word that is joined
      first : x.k ≡ 0 → x.r ≡ wing_place (suc d) (suc d) → Right at level new e
      first k r =
          let here : e ≡ bottom d x.p =
          x.is ∙ ap (λ m. x.p * prism_size d + (m * record_size (suc d) + x.r)) k
          ∙ omega (arith, r, zero-mul (record_size (suc d))) in
          rw here (below x.p x.cell)

      last : x.k ≡ d → x.r ≡ wing_place (suc d) 0 → Right at level new e
      last k r =
          let here : e ≡ top d x.p =
          x.is ∙ ap (λ m. x.p * prism_size d + (m * record_size (suc d) + x.r)) k ∙ omega (arith, r) in
          rw here (above x.p x.cell)

      right : Right at level new e
      right =
          go (eqb x.k 0) (eqb x.r (wing_place (suc d) (suc d))) (eqb x.k d) (eqb x.r (wing_place (suc d) 0)) refl refl refl refl
        where
          go : (a b c f : Bool) → eqb x.k 0 ≡ a → eqb x.r (wing_place (suc d) (suc d)) ≡ b → eqb x.k d ≡ c →
              eqb x.r (wing_place (suc d) 0) ≡ f → Right at level new e
          go true true c f p q r t = first (eqb-true x.k 0 p) (eqb-true x.r _ q)
          go true false true true p q r t = last (eqb-true x.k d r) (eqb-true x.r _ t)
          go true false true false p q r t = raises (λ k z. eqb-false x.r _ q z) (λ k z. eqb-false x.r _ t z)
          go true false false f p q r t = raises (λ k z. eqb-false x.r _ q z) (λ k z. eqb-false x.k d r k)
          go false b true true p q r t = last (eqb-true x.k d r) (eqb-true x.r _ t)
          go false b true false p q r t = raises (λ k z. eqb-false x.k 0 p k) (λ k z. eqb-false x.r _ t z)
          go false b false f p q r t = raises (λ k z. eqb-false x.k 0 p k) (λ k z. eqb-false x.k d r k)

    outside : Outside at (length level) old new
    outside =
        record {
          same = kept.outside.same ∙ moved.same;
          before = λ y l. kept.outside.before y l ∙ moved.before y l;
          behind = λ y l. kept.outside.behind y l ∙ moved.behind y (omega (arith, long));
        }

    pub joined-level : new ≡ placed at level old
    joined-level =
        filled at level old (omega (arith, long)) new outside
        (λ e l. let he : e < n = omega (arith, long) in right e he (place_of d s e (rw size at he)))

-- a word of a level that stands in its place
module _ (d v s h : ℕ) (ws : List ℕ) (ready : Ready d v s h ws) (l n at : ℕ) (buf : List ℕ)
    (stands : (e : ℕ) → e < n → Right at (level_words d v s h ws l) buf e) (e : ℕ) (he : e < n) (x : Place d s e) where
  stands_at : get_or buf (at + e) 0 ≡ get_or (record_words d v s h ws l x.p x.k) x.r 0
  stands_at =
      stands e he ∙ ap (λ m. get_or (level_words d v s h ws l) m 0) x.is
      ∙ word_at d v s h ws ready.long l x.p x.cell x.k x.r x.swept x.place

module _ (d v s h : ℕ) (ws : List ℕ) (ready : Ready d v s h ws) (i n at : ℕ) (hi : i + 2 < h) (size : n ≡ s * prism_size d)
    (old mid new : List ℕ) (room : at + n + n + n ≤ length old) (low : (e : ℕ) → e < n → Right at (level_words d v s h ws i) old e)
    (high : (e : ℕ) → e < n → Right (at + n) (level_words d v s h ws (i + 1)) old e) (raised : Raised n at old mid)
    (kept : Kept (at + n + n) (level_words d v s h ws (i + 2)) mid new)
    (below : (p : ℕ) → p < s → Right (at + n + n) (level_words d v s h ws (i + 2)) new (bottom d p))
    (above : (p : ℕ) → p < s → Right (at + n + n) (level_words d v s h ws (i + 2)) new (top d p)) where
  pub raised_level : new ≡ placed (at + n + n) (level_words d v s h ws (i + 2)) old
  raised_level = joined-level d v s h ws ready (i + 2) n (at + n + n) size old mid new room raised.outside kept below above
      (λ e he x b t. ahead_is (raised.ahead e he)
      (rw (stands_at d v s h ws ready i n at old low e he x, stands_at d v s h ws ready (i + 1) n (at + n) old high e he x)
      (steps_at d v s h ws ready i hi x.p x.k x.cell x.swept x.r x.place b t)))

module _ (d v s h : ℕ) (ws : List ℕ) (ready : Ready d v s h ws) (n : ℕ) (hi : 1 < h) (size : n ≡ s * prism_size d)
    (old mid new : List ℕ) (room : n + n ≤ length old) (low : (e : ℕ) → e < n → Right 0 (level_words d v s h ws 0) old e)
    (c : ℕ) (cells : c ≡ s * suc d) (given : SteppedLevel d v c n c old mid) (kept : Kept n (level_words d v s h ws 1) mid new)
    (below : (p : ℕ) → p < s → Right n (level_words d v s h ws 1) new (bottom d p))
    (above : (p : ℕ) → p < s → Right n (level_words d v s h ws 1) new (top d p)) where
  stepped : SteppedLevel d v (s * suc d) n (s * suc d) old mid
  stepped = rw cells at given

  pub stepped_level : new ≡ placed n (level_words d v s h ws 1) old
  stepped_level = joined-level d v s h ws ready 1 n n size old mid new room stepped.outside kept below above
      (λ e he x b t.
      let q = x.p * suc d + x.k in
      let few : q < s * suc d = inside s (suc d) x.p x.k x.cell (omega (arith, x.swept)) in
      let here : q * record_size (suc d) + x.r ≡ e = sym (x.is ∙ by_record d x.p x.k x.r) in
      let step : Stepped (get_or old e 0) (step_of d v (s * suc d) x.r) (get_or mid (n + e) 0) =
      rw here at (stepped.steps q x.r few x.place) in
      let is : get_or old e 0 ≡ get_or (record_words d v s h ws 0 x.p x.k) x.r 0 =
      ap (λ m. get_or old m 0) {x = e} {y = 0 + e} (omega arith) ∙ stands_at d v s h ws ready 0 n 0 old low e he x in
      let moves : Moves (step_of d v (s * suc d) x.r) (get_or old e 0) (get_or (record_words d v s h ws 1 x.p x.k) x.r 0) =
      rw is (step_at d v s h ws ready 0 hi x.p x.k x.cell x.swept x.r x.place b t) in
      stepped_is step moves)

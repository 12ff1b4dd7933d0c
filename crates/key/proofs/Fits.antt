-- What is printed fits the program's buffer of 65,536 bytes.
--   Fits o            a key of at most so many bytes, or a refusal
--   then_fits         a call after another
--   printed_fits      what is printed for any input
--   text-written      so key_text, lent that buffer, writes it,
--   text_taken        and does not refuse
-- Assumes nothing.
use mathlib.Core.Path.{◌≡◌, refl, ap, ◌∙◌}
use mathlib.Core.Bool.{Bool, true, false, cond}
use mathlib.Core.List.{List, [], ◌∷◌, ◌++◌}
use Prim.Native.Nat.{ℕ, zero, suc, ◌/◌, ◌≤◌}
use native.Mathlib.Omega.{arith}
use lib.Dec.{ltb}
use lib.ListN.{length, take, length-append}
use borrow.Author.Tests.{le-ltb}
use Rattle.words.specs.Text.{ascii}
use Rattle.rules.specs.Calls.{Outcome, accepted, refused, after}
use Rattle.rules.proofs.Accepting.{front_of}
use Rattle.wing.specs.Wing.{wing_outcome}
use Rattle.sweep.specs.Sweep.{sweep_outcome}
use Rattle.motion.specs.Move.{move_outcome}
use Rattle.read.specs.declared.Header.{Header}
use Rattle.read.specs.Read.{read_outcome}
use Rattle.printing.specs.Decimal.{digit, digits, digits_up_to}
use Rattle.list.specs.List.{list_text, list_outcome}
use Rattle.page.specs.Key.{input_limit, byte_room, then_call, read_in, wing_in, sweep_in, move_in, list_in, calls_on, key_outcome, spoken, printed}
use Rattle.page.specs.Key.{text_outcome, text_buffer}
use Rattle.page.proofs.Staged.{list-long}

digits_short : (k n : ℕ) → length (digits_up_to k n) ≤ suc k
digits_short zero n = omega arith
digits_short (suc k) n = go (digits_short k (n / 10)) (ltb n 10)
  where
    more : List ℕ
    more = digits_up_to k (n / 10) ++ digit n ∷ []

    go : length (digits_up_to k (n / 10)) ≤ suc k → (t : Bool) → length (cond t (digit n ∷ []) more) ≤ suc (suc k)
    go h true = omega arith
    go h false = omega (arith, length-append (digits_up_to k (n / 10)) (digit n ∷ []))

abbrev Fits : Outcome (List ℕ) → Type 0
Fits (accepted text) = length text ≤ byte_room
Fits (refused n) = Unit {0}

then_fits : {A : Type 0} (o : Outcome A) (next : A → Outcome (List ℕ)) → ((a : A) → o ≡ accepted a → Fits (next a)) → Fits (then_call o next)
then_fits (accepted a) next f = f a refl
then_fits (refused n) next f = tt

module _ (b : List ℕ) where
  calls_fit : (x : Header) → Fits (calls_on b x)
  calls_fit x =
      then_fits (wing_outcome (wing_in b x)) (λ t. then_call (sweep_outcome (sweep_in b x)) (λ w. then_call (move_outcome (move_in b x)) (λ m.
      then_call (list_outcome (list_in b x)) (λ k. accepted (list_text (list_in b x)))))) (λ t e.
      then_fits (sweep_outcome (sweep_in b x)) (λ w. then_call (move_outcome (move_in b x)) (λ m.
      then_call (list_outcome (list_in b x)) (λ k. accepted (list_text (list_in b x))))) (λ w e.
      then_fits (move_outcome (move_in b x)) (λ m. then_call (list_outcome (list_in b x)) (λ k. accepted (list_text (list_in b x)))) (λ m e.
      then_fits (list_outcome (list_in b x)) (λ k. accepted (list_text (list_in b x))) (λ k e. (list-long (list_in b x) k e).1))))

  key_fits : Fits (key_outcome b)
  unfolding key_outcome
  key_fits = go (ltb input_limit (length b))
    where
      go : (t : Bool) → Fits (cond t (refused 3) (then_call (read_outcome (read_in b)) (calls_on b)))
      go true = tt
      go false = then_fits (read_outcome (read_in b)) (calls_on b) (λ x e. calls_fit x)

  pub printed_fits : length (printed b) ≤ byte_room
  unfolding printed digits
  printed_fits = go (key_outcome b) key_fits
    where
      go : (o : Outcome (List ℕ)) → Fits o → length (spoken o) ≤ byte_room
      go (accepted text) h = h
      go (refused n) h =
          omega (
            arith,
            length-append (ascii "refused ") (digits_up_to 19 n ++ ascii "\n"),
            length-append (digits_up_to 19 n) (ascii "\n"),
            digits_short 19 n,
          )

  module _ (out : List ℕ) (room : length out ≡ byte_room) where
    enough : ltb (length out) (length (printed b)) ≡ false
    enough = le-ltb (length out) (length (printed b)) (omega (arith, room, printed_fits))

    taken : text_outcome b (length out) ≡ accepted (length (printed b))
    unfolding text_outcome
    taken = rw enough refl

    pub text-written : (new : List ℕ) (n : ℕ) → accepted n ≡ text_outcome b (length out) →
        new ≡ text_buffer b out → (n ≤ length new) × (take n new ≡ printed b)
    unfolding text_buffer
    text-written new n a e =
        let count : n ≡ length (printed b) = let q = a ∙ taken in cc in
        front_of (printed b) out new n (e ∙ ap (λ o. after o (printed b) out) taken) count

    pub text_taken : (k : ℕ) → refused k ≡ text_outcome b (length out) → ⊥
    text_taken k e = let q = e ∙ taken in let z : ◌≡◌ {A = ℕ} 0 1 = cc in omega arith

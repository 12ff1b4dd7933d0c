-- What a call answers, and what it leaves in a lent buffer. Paper, section 9.
--   Rule A            a row of the refusal table: its number, and the test on the call's input
--   no_room            row 15, which every call tries last
--   first_refusal      the number of the first rule that applies, 0 if none does
--   Outcome A         accepted with values, or refused with a number
--   decide            accepted with the answer if no rule applies, else refused by the first that does
--   after             a lent buffer after the call: the answer from its start, or as it was
-- Rules are listed in the order in which they are tried.
use Rattle.std.specs.Prelude.{Bool, cond, List, [], ◌∷◌, ◌++◌, ℕ, zero, suc, ltb, length, drop}

pub record Rule (A : Type 0) : Type 0 where
  pub number : ℕ
  pub applies : A → Bool

abbrev pub refuse : {A : Type 0} → ℕ → (A → Bool) → Rule A
refuse n test = record { number = n; applies = test }

-- the same rule on a part of a larger input
abbrev pub on_part : {A B : Type 0} → (B → A) → Rule A → Rule B
on_part part r = refuse r.number (λ x. r.applies (part x))

-- row 15: the answer does not fit in the room lent
abbrev pub no_room : {A : Type 0} → (A → ℕ) → (A → ℕ) → Rule A
no_room room needed = refuse 15 (λ x. ltb (room x) (needed x))

abbrev pub first_refusal : {A : Type 0} → List (Rule A) → A → ℕ
first_refusal [] x = 0
first_refusal (r ∷ rs) x = let k = first_refusal rs x in cond (r.applies x) r.number k

pub data Outcome (A : Type 0) : Type 0 where
  accepted : A → Outcome A
  refused : ℕ → Outcome A

abbrev pub outcome : {A : Type 0} → ℕ → A → Outcome A
outcome zero a = accepted a
outcome (suc n) a = refused (suc n)

abbrev pub decide : {I A : Type 0} → List (Rule I) → (I → A) → I → Outcome A
decide rules answer x = outcome (first_refusal rules x) (answer x)

-- xs written from the start of the buffer, and no further
abbrev pub written : {A : Type 0} → List A → List A → List A
written xs buf = xs ++ drop (length xs) buf

abbrev pub after : {A B : Type 0} → Outcome A → List B → List B → List B
after (accepted a) xs buf = written xs buf
after (refused n) xs buf = buf

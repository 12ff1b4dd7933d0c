-- An answer goes to the host: the count and the bytes of its words, or minus the refusal's number. Assumes nothing.
use mathlib.Core.Path.{◌≡◌, sym, ap, ◌∙◌}
use mathlib.Core.List.{◌++◌}
use Prim.Native.Nat.{ℕ, ◌*◌, ◌^◌, ◌<◌, ◌≤◌}
use native.Mathlib.Omega.{arith}
use borrow.Author.Rules.{rules}
use lib.IntN.{pos, neg_ℤ}
use lib.ListN.{length, take, drop}
use lib.Seq.{length-take-le}
use mir.Syntax.{w64}
use mir.ValLaws.{to_z_pos, to_z-of_z}
use Rattle.words.specs.Bytes.{bytes_of}
use Rattle.rules.specs.Numbers.{outcome_of}
use Rattle.std.specs.Prelude.{Result}
use Rattle.rules.specs.declared.refusal.Refusal.{Refusal}
use Rattle.winged.specs.Host.{host_answer}
use Rattle.winged.specs.Inner.Sent.{count_of, sent}
use Rattle.winged.proofs.sending.send.Goals as goal
use Rattle.winged.proofs.sending.send.Goals.{In-Ok}

-- the count that the answer has
fits : (c : In-Ok) → (c.in-Ok.n ≤ length c.args.words.now) × (c.in-Ok.n * 2 ≤ length c.args.out.now)
fits c =
    let n = ap (λ (a : Result ℕ Refusal). count_of (outcome_of a)) c.in-Ok.is in
    (omega (arith, n, c.requires.0), omega (arith, n, c.requires.1))

-- so it is no large number
small : (c : In-Ok) → c.in-Ok.n < 2 ^ 63
small c = omega (arith, (fits c).1)

front : (c : In-Ok) → length (take c.in-Ok.n c.args.words.now) ≡ c.in-Ok.n
front c = length-take-le _ _ (fits c).0

pub slice_bounds-encode-end : goal.slice_bounds-encode-end
slice_bounds-encode-end c = sym (front c)

pub encode-requires : goal.encode-requires
encode-requires c = omega (arith, (fits (goal.at.encode-requires c).In-Ok).1, front (goal.at.encode-requires c).In-Ok)

pub overflow_cast-result : goal.overflow_cast-result
overflow_cast-result c = record { sfits = omega (arith, small (goal.at.overflow_cast-result c).In-Ok) }

pub returns-in-Ok : goal.returns-in-Ok
returns-in-Ok c =
    let n = c.in-Ok.n in record {
      answer = to_z_pos w64 n (small (goal.at.returns-in-Ok c).In-Ok)
          ∙ ap (λ (a : Result ℕ Refusal). host_answer (outcome_of a)) (sym c.in-Ok.is);
      buffer = c.encode.ensures
          ∙ ap (λ m. bytes_of (take n c.args.words.now) ++ drop (m * 2) c.args.out.now) (front (goal.at.returns-in-Ok c).In-Ok)
          ∙ ap (λ (a : Result ℕ Refusal). sent (outcome_of a) c.args.words.now c.args.out.now) (sym c.in-Ok.is);
    }

pub returns-in-Err : goal.returns-in-Err
returns-in-Err c =
    record {
      answer = to_z-of_z w64 _ (search rules) ∙ c.minus.ensures ∙ ap (λ k. neg_ℤ (pos k)) c.from.ensures
          ∙ ap (λ (a : Result ℕ Refusal). host_answer (outcome_of a)) (sym c.in-Err.is);
      buffer = ap (λ (a : Result ℕ Refusal). sent (outcome_of a) c.args.words.now c.args.out.now) (sym c.in-Err.is);
    }

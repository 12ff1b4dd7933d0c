-- The table is decoded, and the call is lent its words. Assumes nothing.
use mathlib.Core.Path.{◌≡◌, sym, ap, ◌∙◌}
use Prim.Native.Nat.{◌/◌, ◌≤◌}
use native.Mathlib.Omega.{arith}
use lib.ListN.{length, take}
use lib.Seq.{length-take-le}
use Rattle.words.specs.Bytes.{words16}
use Rattle.sweep.specs.Sweep.{sweep_buffer, sweep_input, sweep_outcome}
use Rattle.direct.proofs.WordBytes.{decoded_front}
use Rattle.winged.proofs.Inward.{sweep_after, sweep_right}
use Rattle.winged.proofs.host.sweep_decoded.Goals as goal
use Rattle.winged.proofs.host.sweep_decoded.Goals.{After-decode}

-- the decoded words
front : (c : After-decode) → let a = (c.args) in
    (length a.table.now / 2 ≤ length c.decode.new.out)
    × (take (length a.table.now / 2) c.decode.new.out ≡ words16 a.table.now)
front c =
    let a = c.args in
    decoded_front a.table.now c.decode.new.out _ (length a.table.now / 2) c.decode.ensures (omega (arith, c.requires.0))

pub slice_bounds-sweep-end : goal.slice_bounds-sweep-end
slice_bounds-sweep-end c = (front (goal.at.slice_bounds-sweep-end c).After-decode).0

pub slice_bounds-sweep-end-2 : goal.slice_bounds-sweep-end-2
slice_bounds-sweep-end-2 c = sym (length-take-le _ _ (front (goal.at.slice_bounds-sweep-end-2 c).After-decode).0)

pub returns : goal.returns
returns c =
    let a = c.args in
    let words = (front (goal.at.returns c).After-decode).1 in
    let x = length a.out.now in
    let o = c.sweep.ensures.answer ∙ ap (λ ws. sweep_outcome (sweep_input a.d a.v a.s a.h ws x)) words in record {
      answer = o ∙ sweep_right a.d a.v a.s a.h a.table.now x c.requires.0;
      buffer = c.sweep.ensures.buffer ∙ ap (λ ws. sweep_buffer (sweep_input a.d a.v a.s a.h ws x) a.out.now) words
          ∙ sweep_after _ (sweep_input a.d a.v a.s a.h (words16 a.table.now) x) a.out.now o;
    }

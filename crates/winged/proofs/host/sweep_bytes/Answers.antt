-- The call sweep from bytes to bytes. Assumes nothing.
use mathlib.Core.Path.{sym, ◌∙◌}
use Prim.Native.Nat.{◌*◌, ◌≤◌}
use borrow.Author.Rules.{rules}
use lib.ListN.{length, take}
use lib.Seq.{length-take-le}
use mir.Syntax.{w64}
use mir.ValLaws.{to_z-of_z}
use Rattle.words.specs.Bytes.{words16}
use Rattle.sweep.specs.Sweep.{swept_words, sweep_input}
use Rattle.rules.specs.Numbers.{outcome_of}
use Rattle.winged.proofs.Outward.{room_fits, Relayed, lent_fits, lent_long, send_fits, relayed}
use Rattle.winged.proofs.Inward.{sweep_host, sweep_long}
use Rattle.winged.proofs.host.sweep_bytes.Goals as goal
use Rattle.winged.proofs.host.sweep_bytes.Goals.{After-room-m, After-sweep_decoded-a}

-- the room
m : (r : After-room-m) → (r.room-m.result ≤ length r.args.words.now) × (r.room-m.result * 2 ≤ length r.args.swept.now)
m r = room_fits r.room-m.result r.args.words.now r.args.swept.now r.room-m.ensures

-- what the call leaves in it
relay : (c : After-sweep_decoded-a) →
    let a = c.args in
    Relayed a.words.now a.swept.now c.sweep_decoded-a.new.out
    (swept_words (sweep_input a.d a.v a.s a.h (words16 a.table.now) (length (take c.room-m.result a.words.now))))
    c.room-m.result (outcome_of c.sweep_decoded-a.result)
relay c =
    let a = c.args in
    let r = (goal.at.After-sweep_decoded-a c).After-room-m in
    let call = c.sweep_decoded-a in
    record {
      room = (m r).1;
      same = call.auto.out ∙ length-take-le c.room-m.result a.words.now (m r).0;
      long = λ k e. sweep_long a.d a.v a.s a.h a.table.now _ k (sym call.ensures.answer ∙ e);
      content = call.ensures.buffer;
    }

pub slice_bounds-sweep_decoded-end : goal.slice_bounds-sweep_decoded-end
slice_bounds-sweep_decoded-end c = (m (goal.at.slice_bounds-sweep_decoded-end c).After-room-m).0

pub slice_bounds-sweep_decoded-end-2 : goal.slice_bounds-sweep_decoded-end-2
slice_bounds-sweep_decoded-end-2 c = sym (length-take-le _ _ (m (goal.at.slice_bounds-sweep_decoded-end-2 c).After-room-m).0)

pub sweep_decoded-a-requires : goal.sweep_decoded-a-requires
sweep_decoded-a-requires c = (c.requires.size, c.requires.solid)

pub slice_bounds-send-end : goal.slice_bounds-send-end
slice_bounds-send-end c = lent_fits (relay (goal.at.slice_bounds-send-end c).After-sweep_decoded-a)

pub slice_bounds-send-end-2 : goal.slice_bounds-send-end-2
slice_bounds-send-end-2 c = sym (lent_long (relay (goal.at.slice_bounds-send-end-2 c).After-sweep_decoded-a))

pub send-requires : goal.send-requires
send-requires c = send_fits (relay (goal.at.send-requires c).After-sweep_decoded-a)

pub returns : goal.returns
returns c =
    let a = c.args in
    let send = c.send in
    let room = length-take-le c.room-m.result a.words.now (m (goal.at.returns c).After-room-m).0 ∙ c.room-m.ensures in
    let host = sweep_host a.d a.v a.s a.h a.table.now a.swept.now _ _ _ c.requires.swept room c.sweep_decoded-a.ensures.answer in
    record {
      answer = to_z-of_z w64 _ (search rules) ∙ send.ensures.answer ∙ host.0;
      buffer = send.ensures.buffer ∙ relayed (relay (goal.at.returns c).After-sweep_decoded-a) ∙ host.1;
    }

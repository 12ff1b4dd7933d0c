-- The call wing from bytes to bytes. Assumes nothing.
use mathlib.Core.Path.{sym, ◌∙◌}
use Prim.Native.Nat.{◌*◌, ◌≤◌}
use borrow.Author.Rules.{rules}
use lib.ListN.{length}
use lib.Seq.{length-take-le}
use mir.Syntax.{w64}
use mir.ValLaws.{to_z-of_z}
use Rattle.solids.specs.Table.{table_of_list}
use Rattle.winged.specs.Host.{host_list}
use Rattle.rules.specs.Numbers.{outcome_of}
use Rattle.winged.proofs.Outward.{room_fits, Relayed, lent_fits, lent_long, send_fits, relayed}
use Rattle.winged.proofs.Inward.{wing_host, wing_long}
use Rattle.winged.proofs.host.wing_bytes.Goals as goal
use Rattle.winged.proofs.host.wing_bytes.Goals.{After-room-m, After-wing_words-a}

-- the room
m : (r : After-room-m) → (r.room-m.result ≤ length r.args.words.now) × (r.room-m.result * 2 ≤ length r.args.table.now)
m r = room_fits r.room-m.result r.args.words.now r.args.table.now r.room-m.ensures

-- what the call leaves in it
relay : (c : After-wing_words-a) →
    let a = c.args in
    Relayed a.words.now a.table.now c.wing_words-a.new.out
    (table_of_list (host_list a.d a.v a.s a.cells.now))
    c.room-m.result (outcome_of c.wing_words-a.result)
relay c =
    let a = c.args in
    let r = (goal.at.After-wing_words-a c).After-room-m in
    let call = c.wing_words-a in
    record {
      room = (m r).1;
      same = call.auto.out ∙ length-take-le c.room-m.result a.words.now (m r).0;
      long = λ k e. wing_long a.d a.v a.s a.cells.now _ _ k (sym call.ensures.answer ∙ e);
      content = call.ensures.buffer;
    }

pub slice_bounds-wing_words-end : goal.slice_bounds-wing_words-end
slice_bounds-wing_words-end c = (m c).0

pub slice_bounds-wing_words-end-2 : goal.slice_bounds-wing_words-end-2
slice_bounds-wing_words-end-2 c = sym (length-take-le _ _ (m (goal.at.slice_bounds-wing_words-end-2 c).After-room-m).0)

pub slice_bounds-send-end : goal.slice_bounds-send-end
slice_bounds-send-end c = lent_fits (relay (goal.at.slice_bounds-send-end c).After-wing_words-a)

pub slice_bounds-send-end-2 : goal.slice_bounds-send-end-2
slice_bounds-send-end-2 c = sym (lent_long (relay (goal.at.slice_bounds-send-end-2 c).After-wing_words-a))

pub send-requires : goal.send-requires
send-requires c = send_fits (relay (goal.at.send-requires c).After-wing_words-a)

pub returns : goal.returns
returns c =
    let a = c.args in
    let send = c.send in
    let room = length-take-le c.room-m.result a.words.now (m (goal.at.returns c).After-room-m).0 ∙ c.room-m.ensures in
    let host = wing_host a.d a.v a.s a.cells.now a.table.now a.uploaded.now _
    (length a.words.now) _ c.requires room c.wing_words-a.ensures.answer in
    record {
      answer = to_z-of_z w64 _ (search rules) ∙ send.ensures.answer ∙ host.0;
      buffer = send.ensures.buffer ∙ relayed (relay (goal.at.returns c).After-wing_words-a) ∙ host.1;
      uploaded = c.wing_words-a.ensures.uploaded ∙ host.2;
    }

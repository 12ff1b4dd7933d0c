-- The table is decoded into the room, and its faces are told from its words. Assumes nothing.
use mathlib.Core.Path.{◌≡◌, sym, ap, ◌∙◌}
use Prim.Native.Nat.{◌/◌, ◌≤◌}
use native.Mathlib.Omega.{arith}
use borrow.Author.Rules.{rules}
use lib.ListN.{length, take}
use lib.Seq.{length-take-le}
use mir.Syntax.{w64}
use mir.ValLaws.{to_z-of_z}
use Rattle.words.specs.Bytes.{words16}
use Rattle.direct.proofs.WordBytes.{decoded_front}
use Rattle.winged.specs.Inner.Sent.{faces_answer, faces_after}
use Rattle.winged.proofs.FaceOutcomes.{host-right}
use Rattle.winged.proofs.faces.in_room.Goals as goal
use Rattle.winged.proofs.faces.in_room.Goals.{After-decode}

-- the decoded words
front : (g : _) (c : After-decode g) → let a = (c.args) in
    (length a.table.now / 2 ≤ length c.decode.new.out)
    × (take (length a.table.now / 2) c.decode.new.out ≡ words16 a.table.now)
front g c =
    let a = c.args in
    decoded_front a.table.now c.decode.new.out _ (length a.table.now / 2) c.decode.ensures (omega (arith, c.requires.1))

pub shared_whole_as_front-faces_from : goal.shared_whole_as_front-faces_from
shared_whole_as_front-faces_from g c = omega (arith, (front g (goal.at.shared_whole_as_front-faces_from g c).After-decode).0)

pub slice_bounds-faces_from-end : goal.slice_bounds-faces_from-end
slice_bounds-faces_from-end g c = sym (length-take-le _ _ (front g (goal.at.slice_bounds-faces_from-end g c).After-decode).0)

pub faces_from-requires : goal.faces_from-requires
faces_from-requires g c =
    (c.requires.0, length-take-le _ _ (front g (goal.at.faces_from-requires g c).After-decode).0 ∙ omega (arith, c.requires.1))

pub returns : goal.returns
returns g c =
    let a = c.args in
    let words = (front g (goal.at.returns g c).After-decode).1 in
    let host = host-right a.d a.v a.s a.table.now a.faces.now c.requires.1 in record {
      answer = to_z-of_z w64 _ (search rules) ∙ c.faces_from.ensures.answer
          ∙ ap (λ ws. faces_answer a.d a.v a.s ws a.faces.now) words ∙ host.0;
      buffer = c.faces_from.ensures.buffer ∙ ap (λ ws. faces_after a.d a.v a.s ws a.faces.now) words ∙ host.1;
    }

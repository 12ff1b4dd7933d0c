-- The two places of a segment. Assumes nothing.
use mathlib.Core.Path.{◌≡◌, sym, ap, ◌∙◌}
use Prim.Native.Nat.{◌+◌, ◌*◌, ◌<◌}
use native.Mathlib.Nat.{add-zero}
use native.Mathlib.Omega.{arith}
use lib.ListN.{length, set, length-set}
use Rattle.soundness.specs.Inner.Certified.{row_in}
use Rattle.soundness.specs.Inner.Hashing.{face_of, hash_of, linear}
use Rattle.soundness.proofs.FaceRows.{size_in}
use Rattle.soundness.proofs.Filled.{filled_more}
use Rattle.soundness.proofs.Weighing.{face_of_lem, segment_hash}
use Rattle.soundness.proofs.hashing.hash_segment.Goals as goal
use Rattle.soundness.proofs.hashing.hash_segment.Goals.{Start}

-- there is room for both
room : (s : Start) → let a = s.args in (a.p * 2 + 1 < length a.hash.now) × (a.p < 4096)
room s = omega (arith, s.requires.0.number, s.requires.1, s.requires.2)

pub bounds-hash-p-2 : goal.bounds-hash-p-2
bounds-hash-p-2 c = let long = length-set c.args.hash.now (c.args.p * 2) (c.linear-y.result) in
    omega (arith, room (goal.at.bounds-hash-p-2 c).Start, long)

pub returns : goal.returns
returns c =
    let a = c.args in
    let ws = a.table.now in
    let h = segment_hash (row_in 1 ws a.p) (size_in 1 a.s a.p ws c.requires.0) in
    let one = filled_more (λ g. hash_of (face_of 1 ws g)) a.hash.now (a.p * 2) _ (omega (arith, room (goal.at.returns c).Start)) c.requires.3
    (c.linear-y.ensures ∙ ap linear c.vertex-2.ensures ∙ sym h.0 ∙ ap hash_of (sym (face_of_lem 1 ws a.p 0 (omega arith)))
    ∙ ap (λ g. hash_of (face_of 1 ws g)) (add-zero (a.p * 2))) in
    let now = set a.hash.now (a.p * 2) c.linear-y.result in
    let long : length now ≡ length a.hash.now = length-set a.hash.now _ _ in
    let two = filled_more (λ g. hash_of (face_of 1 ws g)) now (a.p * 2 + 1) _ (omega (arith, room (goal.at.returns c).Start, long)) one
    (c.linear-x.ensures ∙ ap linear c.vertex.ensures ∙ sym h.1 ∙ ap hash_of (sym (face_of_lem 1 ws a.p 1 (omega arith)))) in
    record {
      hashed = (λ i l. two i (omega arith));
      long = length-set now _ _ ∙ long;
    }

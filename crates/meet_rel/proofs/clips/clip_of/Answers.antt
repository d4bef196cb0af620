-- Answers to the goals of `clip_of` in src/clips.rt.
use Rattle.std.proofs.Common.{refl}
use Rattle.meet_rel.specs.declared.clips.Clip.{Clip}
use Rattle.meet_rel.proofs.PieceClips.{range_of, proper_of}
use Rattle.meet_rel.proofs.clips.clip_of.Goals as goal

pub tri-requires : goal.tri-requires
tri-requires c = range_of c.args.tin.now c.args.piece.now c.requires

pub returns-clause-proper : goal.returns-clause-proper
returns-clause-proper c =
    let piece = c.args.piece.now in
    let clip : Clip = record { a = piece.a; b = piece.b; tri = c.tri.result } in
    proper_of c.args.tin.now piece clip c.tri.ensures.limits c.requires
    (record { a_is = refl; b_is = refl; tri_is = c.tri.ensures.corners }) c.tri.ensures.near c.tri.ensures.positive

-- Answers to the goals of `is_on_line` in src/walks.rt.
use Rattle.seg_walk.proofs.NearCorners.{near_each, near_both, near_place}
use Rattle.seg_walk.proofs.walks.is_on_line.Goals as goal

pub turn-requires : goal.turn-requires
turn-requires c =
    record {
      near = (
        near_both c.args.tin.now c.args.a c.args.b c.requires.limits c.requires.has_a c.requires.near_b,
        near_place c.args.tin.now c.args.corner c.args.a c.place.result c.requires.corner c.place.ensures.place
            (near_each c.args.tin.now c.args.a c.requires.limits c.requires.has_a),
        near_place c.args.tin.now c.args.corner c.args.b c.place.result c.requires.corner c.place.ensures.place
            c.requires.near_b,
      );
    }

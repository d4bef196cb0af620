-- Answers to the goals of `has_inside` in src/boxes.rt.
use Rattle.std.proofs.Common.{refl}
use Rattle.tin_index.proofs.InBox.{near_box}
use Rattle.tin_index.proofs.boxes.has_inside.Goals as goal

pub is_left_of_all-requires-clause-near_point : goal.is_left_of_all-requires-clause-near_point
is_left_of_all-requires-clause-near_point c =
    near_box c.args.t.now c.args.p c.low.result c.high.result c.low.ensures c.high.ensures c.requires.near
    (c.if-not-is_up_to.ensures.0 refl) (c.if-not-is_up_to-2.ensures.0 refl)

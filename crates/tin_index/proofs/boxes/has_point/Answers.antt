-- Answers to the goals of `has_point` in src/boxes.rt.
use Rattle.std.proofs.Common.{refl}
use Rattle.tin_base.proofs.TriangleLemmas.TestAnswers.{no, denied}
use Rattle.tin_index.proofs.InBox.{not_low, not_high, near_box}
use Rattle.tin_index.proofs.boxes.has_point.Goals as goal

pub returns-then-not-is_up_to : goal.returns-then-not-is_up_to
returns-then-not-is_up_to c = no (not_low c.args.t.now c.args.p c.low.result c.low.ensures
    (denied c.if-not-is_up_to.ensures))

pub returns-then-not-is_up_to-2 : goal.returns-then-not-is_up_to-2
returns-then-not-is_up_to-2 c = no (not_high c.args.t.now c.args.p c.high.result c.high.ensures
    (denied c.if-not-is_up_to-2.ensures))

pub holds-requires-clause-near_point : goal.holds-requires-clause-near_point
holds-requires-clause-near_point c =
    near_box c.args.t.now c.args.p c.low.result c.high.result c.low.ensures c.high.ensures c.requires.near
    (c.if-not-is_up_to.ensures.0 refl) (c.if-not-is_up_to-2.ensures.0 refl)

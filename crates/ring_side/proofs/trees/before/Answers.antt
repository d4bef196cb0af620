-- Answers to the goals of `before` in src/trees.rt.
use Rattle.std.proofs.Common.{arith}
use Rattle.ring_side.proofs.RingBoxes.RingParts.{before_first, before_later}
use Rattle.ring_side.proofs.trees.before.Goals as goal

pub returns-then-place-eq0 : goal.returns-then-place-eq0
returns-then-place-eq0 c = before_first c.args.ring.now c.args.place _ (omega arith) c.requires

pub returns-else-place-eq0 : goal.returns-else-place-eq0
returns-else-place-eq0 c = before_later c.args.ring.now c.args.place _ (omega arith) c.requires

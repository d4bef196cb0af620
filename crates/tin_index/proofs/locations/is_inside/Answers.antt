-- Answers to the goals of `is_inside` in src/locations.rt.
use Rattle.std.proofs.Common.{arith}
use Rattle.tin_index.proofs.Inside.{only_in}
use Rattle.tin_index.proofs.locations.is_inside.Goals as goal

pub returns : goal.returns
returns c = λ yes. only_in c.args.tin.now c.args.triangle c.tri.result c.args.p c.show_soundness.ensures.limits
    c.show_soundness.ensures.sound (omega arith) c.tri.ensures.corners c.tri.ensures.positive (c.has_inside.ensures yes)

-- Answers to the goals of `entries_of` in src/members.rt.
use Rattle.std.proofs.Common.{arith}
use Rattle.topo_check.proofs.KindNumbers.{numbered_more}
use Rattle.topo_check.proofs.members.entries_of.Goals as goal

pub loop-number-preserved : goal.loop-number-preserved
loop-number-preserved c = (
  omega (arith, c.loop-number-test.true, c.requires),
  numbered_more c.args.kinds.now c.loop-number.number
      c.loop-number.entries.items c.push.new.self.items (omega (arith, c.loop-number-test.true, c.requires))
      c.loop-number.invariant.1 c.in_ok-push.ensures.items,
)

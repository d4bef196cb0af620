-- Answers to the goals of `empty_lists_keep_sides` in src/laws.rt.
use Rattle.ring_side.proofs.SideMembers.{none_keeps}
use Rattle.ring_side.proofs.laws.empty_lists_keep_sides.Goals as goal

pub returns : goal.returns
returns c = none_keeps

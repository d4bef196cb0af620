-- Answers to the goals of `lists_are_all_side_changes` in src/laws.rt.
use Rattle.ring_side.proofs.SideMembers.{all_sides}
use Rattle.ring_side.proofs.laws.lists_are_all_side_changes.Goals as goal

pub returns : goal.returns
returns c = all_sides

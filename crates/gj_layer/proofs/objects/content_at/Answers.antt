-- Answers to the goals of `content_at` in src/objects.rt.
use Rattle.gj_layer.proofs.Members.MemberFinds.{found_within, content_found}
use Rattle.std.proofs.Common.{arith}
use Rattle.gj_layer.proofs.objects.content_at.Goals as goal

pub node_at-node-requires : goal.node_at-node-requires
node_at-node-requires c = grind (arith, found_within, c.in-Some.is)

pub returns-in-Some : goal.returns-in-Some
returns-in-Some c bytes object past one are = grind (arith, content_found, c.in-Some.is, c.node_at-node.ensures)

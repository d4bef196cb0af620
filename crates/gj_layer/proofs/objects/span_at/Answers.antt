-- Answers to the goals of `span_at` in src/objects.rt.
use Rattle.gj_layer.proofs.Members.MemberFinds.{found_within, span_found}
use Rattle.std.proofs.Common.{arith}
use Rattle.gj_layer.proofs.objects.span_at.Goals as goal

pub node_at-node-requires : goal.node_at-node-requires
node_at-node-requires c = let (bytes, object, past, one, are) =
    c.requires in found_within c.args.doc.now.nodes bytes object past c.args.value c.in-Some.value one c.in-Some.is are

pub returns-in-Some : goal.returns-in-Some
returns-in-Some c bytes object past one what are = grind (arith, span_found, c.in-Some.is, c.node_at-node.ensures)

-- Answers to the goals of `part_at` in src/nodes.rt.
use Rattle.std.proofs.Common.{subst, Option, ℕ}
use Rattle.layer_features.specs.InsideNodes.{IsFoundAs}
use Rattle.layer_features.proofs.Elements.{part_there}
use Rattle.layer_features.proofs.nodes.part_at.Goals as goal

pub returns-in-Some : goal.returns-in-Some
returns-in-Some c bytes found are =
    part_there c.args.doc.now.nodes bytes c.in-Some.value found c.node_at.result c.text_of.result
    (subst (λ (value : Option ℕ). IsFoundAs c.args.doc.now.nodes bytes value found) c.in-Some.is are) c.node_at.ensures
    c.text_of.ensures

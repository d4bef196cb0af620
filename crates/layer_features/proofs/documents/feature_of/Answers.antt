-- Answers to the goals of `feature_of` in src/documents.rt.
use Rattle.std.proofs.Common.{codes}
use Rattle.layer_features.specs.JsonFeatures.{asked_for, member_of}
use Rattle.layer_features.proofs.Elements.{feature_there}
use Rattle.layer_features.proofs.documents.feature_of.Goals as goal

pub returns : goal.returns
returns c start is h =
    feature_there (asked_for c.args.name) c.args.doc.now.nodes c.args.bytes.now c.args.count c.args.value start is
    c.node_at-node.result c.part_at.result c.name_of.result h c.node_at-node.ensures
    (c.part_at.ensures c.args.bytes.now (member_of (codes "id") c.args.value start is)
    (c.member_of.ensures.found start is h)) (c.name_of.ensures start is h)

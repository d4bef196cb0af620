-- Answers to the goals of `text_at` in src/elements.rt.
use Rattle.std.proofs.Common.{◌∙◌}
use Rattle.tin_file.proofs.DocumentValues.There.{node_within}
use Rattle.tin_file.proofs.DocumentValues.SpelledTexts.{text_is, text_begins, text_ends}
use Rattle.tin_file.proofs.elements.text_at.Goals as goal

pub node_at-node-requires : goal.node_at-node-requires
node_at-node-requires c = node_within c.args.doc.now.nodes c.args.bytes.now c.args.value c.requires

pub part-requires : goal.part-requires
part-requires c = record {
  order = text_begins c.args.doc.now.nodes c.args.bytes.now c.args.value c.node_at-node.result c.node_at-node.ensures
      c.requires;
  within = text_ends c.args.doc.now.nodes c.args.bytes.now c.args.value c.node_at-node.result c.node_at-node.ensures
      c.requires;
}

pub returns : goal.returns
returns c is there =
    c.part.ensures ∙ text_is c.args.doc.now.nodes c.args.bytes.now c.args.value c.node_at-node.result
    c.node_at-node.ensures is there

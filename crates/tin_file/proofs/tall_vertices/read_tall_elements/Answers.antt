-- Answers to the goals of `read_tall_elements` in src/tall_vertices.rt.
use Rattle.std.proofs.Common.{◌∙◌, sym, ap₂}
use Rattle.tin_file.specs.TallVertices.{tall_from}
use Rattle.tin_file.proofs.DocumentValues.There.{as_many}
use Rattle.tin_file.proofs.VerticalComponent.TallElements.{tall_in_so, not_tall_in_so}
use Rattle.tin_file.proofs.tall_vertices.read_tall_elements.Goals as goal

pub returns-then-values-columns-clause-tall : goal.returns-then-values-columns-clause-tall
returns-then-values-columns-clause-tall c all h =
    not_tall_in_so c.args.how c.args.columns c.args.row all
    (λ many. c.if-values-columns.true (as_many c.args.doc.now.nodes c.args.bytes.now c.args.values.now all h ∙ many))

pub returns-clause-tall : goal.returns-clause-tall
returns-clause-tall c all h =
    c.combine_tall.ensures.tall
    ∙ ap₂ tall_from (c.read_corner-vertex.ensures.vertex all h) (c.read_offset-offset.ensures.offset all h)
    ∙ tall_in_so c.args.how c.args.columns c.args.row all
    (sym (as_many c.args.doc.now.nodes c.args.bytes.now c.args.values.now all h) ∙ c.if-values-columns.false)

-- Answers to the goals of `read_vertex` in src/vertices.rt.
use Rattle.std.proofs.Common.{sym, ◌∙◌, refl, subst}
use Rattle.tin_file.specs.InsideNodes.{AreThere, AreNodes}
use Rattle.tin_file.specs.Vertices.{vertex_of, vertex_in}
use Rattle.tin_file.proofs.DocumentValues.There.{node_within}
use Rattle.tin_file.proofs.DocumentValues.Sequels.{equals_is}
use Rattle.tin_file.proofs.FileRows.RowElements.{is_array_there, nodes_listed, of_elements, no_vertex_row}
use Rattle.tin_file.proofs.vertices.read_vertex.Goals as goal

pub holds_array-requires : goal.holds_array-requires
holds_array-requires c = node_within c.args.doc.now.nodes c.args.bytes.now c.args.value c.requires.node

pub returns-then-not-holds_array-clause-vertex : goal.returns-then-not-holds_array-clause-vertex
returns-then-not-holds_array-clause-vertex c is there =
    no_vertex_row c.args.how c.args.columns c.args.row is
    (sym c.if-not-holds_array.true ∙ c.holds_array.ensures c.args.bytes.now is there)

pub list_elements-requires : goal.list_elements-requires
list_elements-requires c = (
  c.args.bytes.now,
  is_array_there c.args.doc.now.nodes c.args.bytes.now c.args.value c.requires.node
      (λ value there. sym c.if-not-holds_array.false ∙ c.holds_array.ensures c.args.bytes.now value there),
)

pub read_vertex_numbers-requires : goal.read_vertex_numbers-requires
read_vertex_numbers-requires c = record {
  columns = c.requires.columns;
  nodes = subst (AreNodes c.args.doc.now.nodes c.args.bytes.now) (sym c.deref.ensures.value)
      (nodes_listed c.args.doc.now.nodes c.args.bytes.now c.args.value
      (is_array_there c.args.doc.now.nodes c.args.bytes.now c.args.value c.requires.node
      (λ value there. sym c.if-not-holds_array.false ∙ c.holds_array.ensures c.args.bytes.now value there))
      c.list_elements.new.numbers.items c.in_ok-list_elements.ensures);
}

pub returns-clause-vertex : goal.returns-clause-vertex
returns-clause-vertex c is there =
    equals_is c.read_vertex_numbers.result (vertex_of c.args.how c.args.columns c.args.row is)
    (of_elements c.args.doc.now.nodes c.args.bytes.now c.args.value (vertex_of c.args.how c.args.columns c.args.row)
    (vertex_in c.args.how c.args.columns c.args.row)
    (λ _ _. refl) is there (sym c.if-not-holds_array.false ∙ c.holds_array.ensures c.args.bytes.now is there)
    c.list_elements.new.numbers.items c.in_ok-list_elements.ensures c.read_vertex_numbers.result
    (λ all are. c.read_vertex_numbers.ensures.vertex all
    (subst (λ numbers. AreThere c.args.doc.now.nodes c.args.bytes.now numbers all) (sym c.deref.ensures.value)
    are)))

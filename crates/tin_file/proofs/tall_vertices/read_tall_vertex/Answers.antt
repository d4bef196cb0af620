-- Answers to the goals of `read_tall_vertex` in src/tall_vertices.rt.
use Rattle.std.proofs.Common.{sym, ◌∙◌, refl, subst}
use Rattle.tin_file.specs.InsideNodes.{AreThere, AreNodes}
use Rattle.tin_file.specs.TallVertices.{tall_of, tall_in}
use Rattle.tin_file.proofs.DocumentValues.There.{node_within}
use Rattle.tin_file.proofs.VerticalComponent.TallElements.{no_tall_row}
use Rattle.tin_file.proofs.DocumentValues.Sequels.{equals_is}
use Rattle.tin_file.proofs.FileRows.RowElements.{is_array_there, nodes_listed, of_elements}
use Rattle.tin_file.proofs.tall_vertices.read_tall_vertex.Goals as goal

pub holds_array-requires : goal.holds_array-requires
holds_array-requires c = node_within c.args.doc.now.nodes c.args.bytes.now c.args.value c.requires.node

pub returns-then-not-holds_array-clause-tall : goal.returns-then-not-holds_array-clause-tall
returns-then-not-holds_array-clause-tall c is there =
    no_tall_row c.args.how c.args.columns c.args.row is
    (sym c.if-not-holds_array.true ∙ c.holds_array.ensures c.args.bytes.now is there)

pub list_elements-requires : goal.list_elements-requires
list_elements-requires c = (
  c.args.bytes.now,
  is_array_there c.args.doc.now.nodes c.args.bytes.now c.args.value c.requires.node
      (λ value there. sym c.if-not-holds_array.false ∙ c.holds_array.ensures c.args.bytes.now value there),
)

pub read_tall_elements-requires-clause-nodes : goal.read_tall_elements-requires-clause-nodes
read_tall_elements-requires-clause-nodes c =
    subst (AreNodes c.args.doc.now.nodes c.args.bytes.now) (sym c.deref.ensures.value)
    (nodes_listed c.args.doc.now.nodes c.args.bytes.now c.args.value
    (is_array_there c.args.doc.now.nodes c.args.bytes.now c.args.value c.requires.node
    (λ value there. sym c.if-not-holds_array.false ∙ c.holds_array.ensures c.args.bytes.now value there))
    c.list_elements.new.numbers.items c.in_ok-list_elements.ensures)

pub returns-clause-tall : goal.returns-clause-tall
returns-clause-tall c is there =
    equals_is c.read_tall_elements.result (tall_of c.args.how c.args.columns c.args.row is)
    (of_elements c.args.doc.now.nodes c.args.bytes.now c.args.value (tall_of c.args.how c.args.columns c.args.row)
    (tall_in c.args.how c.args.columns c.args.row)
    (λ _ _. refl) is there (sym c.if-not-holds_array.false ∙ c.holds_array.ensures c.args.bytes.now is there)
    c.list_elements.new.numbers.items c.in_ok-list_elements.ensures c.read_tall_elements.result
    (λ all are. c.read_tall_elements.ensures.tall all
    (subst (λ numbers. AreThere c.args.doc.now.nodes c.args.bytes.now numbers all) (sym c.deref.ensures.value)
    are)))

-- Answers to the goals of `read_triangle` in src/triangles.rt.
use Rattle.std.proofs.Common.{length, sym, ◌∙◌, refl, subst}
use Rattle.tin_file.specs.InsideNodes.{AreThere, AreNodes}
use Rattle.tin_file.specs.Triangles.{triangle_of, triangle_in}
use Rattle.tin_file.specs.RowContents.{placed_or_fault}
use Rattle.tin_file.proofs.DocumentValues.There.{node_within}
use Rattle.tin_file.proofs.FileRows.PlacedRows.{placed_gives}
use Rattle.tin_file.proofs.FileRows.RowElements.{is_array_there, nodes_listed, of_elements, no_triangle_row}
use Rattle.tin_file.proofs.triangles.read_triangle.Goals as goal

pub holds_array-requires : goal.holds_array-requires
holds_array-requires c = node_within c.args.doc.now.nodes c.args.bytes.now c.args.value c.requires.node

pub returns-then-not-holds_array : goal.returns-then-not-holds_array
returns-then-not-holds_array c is there =
    no_triangle_row c.args.columns (length c.args.numbers.now) c.args.triangle is
    (sym c.if-not-holds_array.true ∙ c.holds_array.ensures c.args.bytes.now is there)

pub list_elements-requires : goal.list_elements-requires
list_elements-requires c = (
  c.args.bytes.now,
  is_array_there c.args.doc.now.nodes c.args.bytes.now c.args.value c.requires.node
      (λ value there. sym c.if-not-holds_array.false ∙ c.holds_array.ensures c.args.bytes.now value there),
)

pub read_corner_numbers-requires : goal.read_corner_numbers-requires
read_corner_numbers-requires c = record {
  columns = c.requires.columns;
  few = c.requires.few;
  nodes = subst (AreNodes c.args.doc.now.nodes c.args.bytes.now) (sym c.deref.ensures.value)
      (nodes_listed c.args.doc.now.nodes c.args.bytes.now c.args.value
      (is_array_there c.args.doc.now.nodes c.args.bytes.now c.args.value c.requires.node
      (λ value there. sym c.if-not-holds_array.false ∙ c.holds_array.ensures c.args.bytes.now value there))
      c.list_elements.new.numbers.items c.in_ok-list_elements.ensures);
}

pub returns : goal.returns
returns c is there =
    placed_gives c.args.numbers.now c.read_corner_numbers.result
    (triangle_of c.args.columns (length c.args.numbers.now) c.args.triangle is)
    (of_elements c.args.doc.now.nodes c.args.bytes.now c.args.value
    (λ value. placed_or_fault c.args.numbers.now
    (triangle_of c.args.columns (length c.args.numbers.now) c.args.triangle value))
    (λ all. placed_or_fault c.args.numbers.now
    (triangle_in c.args.columns (length c.args.numbers.now) c.args.triangle all))
    (λ _ _. refl) is there (sym c.if-not-holds_array.false ∙ c.holds_array.ensures c.args.bytes.now is there)
    c.list_elements.new.numbers.items c.in_ok-list_elements.ensures c.read_corner_numbers.result
    (λ all are. c.read_corner_numbers.ensures all (subst
    (λ numbers. AreThere c.args.doc.now.nodes c.args.bytes.now numbers all) (sym c.deref.ensures.value) are)))

-- Answers to the goals of `find_list` in src/elements.rt.
use Rattle.std.proofs.Common.{sym, ◌∙◌}
use Rattle.tin_file.specs.Keys.{needed_value}
use Rattle.tin_file.proofs.DocumentValues.There.{node_within, members_there}
use Rattle.tin_file.proofs.DocumentValues.MemberFinds.{value_found, array_found, list_found, list_not_found}
use Rattle.tin_file.proofs.elements.find_list.Goals as goal

pub holds_array-requires : goal.holds_array-requires
holds_array-requires c =
    let nodes = c.args.doc.now.nodes in let bytes = c.args.bytes.now in
    let (members, h) = members_there c.args.doc.now bytes c.requires.read c.requires.object in
    node_within nodes bytes c.in_ok-value.value
    (value_found nodes bytes c.in_ok-value.value (needed_value c.args.which members) (c.in_ok-value.ensures members h))

pub returns-then-not-holds_array : goal.returns-then-not-holds_array
returns-then-not-holds_array c members h =
    let nodes = c.args.doc.now.nodes in let bytes = c.args.bytes.now in
    list_not_found nodes bytes c.args.which c.in_ok-value.value (needed_value c.args.which members)
    (c.in_ok-value.ensures members h)
    (λ value there. sym c.if-not-holds_array.true ∙ c.holds_array.ensures bytes value there)

pub list_elements-requires : goal.list_elements-requires
list_elements-requires c =
    let nodes = c.args.doc.now.nodes in let bytes = c.args.bytes.now in
    let (members, h) = members_there c.args.doc.now bytes c.requires.read c.requires.object in (
      bytes,
      array_found nodes bytes c.in_ok-value.value (needed_value c.args.which members) (c.in_ok-value.ensures members h)
          (λ value there. sym c.if-not-holds_array.false ∙ c.holds_array.ensures bytes value there),
    )

pub returns : goal.returns
returns c members h =
    let nodes = c.args.doc.now.nodes in let bytes = c.args.bytes.now in
    list_found nodes bytes c.args.which c.in_ok-value.value (needed_value c.args.which members)
    (c.in_ok-value.ensures members h)
    (λ value there. sym c.if-not-holds_array.false ∙ c.holds_array.ensures bytes value there)
    c.list_elements.new.numbers.items c.in_ok-list_elements.ensures

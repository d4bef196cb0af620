-- Answers to the goals of `read_vertex_columns` in src/columns.rt.
use Rattle.std.proofs.Common.{◌∙◌, sym}
use Rattle.std.specs.Prelude.{codes, length}
use Rattle.tin_file.proofs.DocumentValues.There.{as_many}
use Rattle.tin_file.proofs.FileRows.NamedPlaces.{vertex_columns_so, vertex_columns_inside, place_so}
use Rattle.tin_file.proofs.columns.read_vertex_columns.Goals as goal

pub returns-clause-columns : goal.returns-clause-columns
returns-clause-columns c all h =
    c.place_vertex_columns.ensures
    ∙ vertex_columns_so all (length c.args.values.now)
    (as_many c.args.doc.now.nodes c.args.bytes.now c.args.values.now all h)
    (sym (c.are_texts.ensures all h) ∙ c.if-not-are_texts.false)
    c.find_place-source_x.result (place_so all c.as_slice.result.now (codes "source_x") c.find_place-source_x.result
    (c.find_place-source_x.ensures all h) c.as_slice.ensures)
    c.find_place-source_y.result (place_so all c.as_slice-2.result.now (codes "source_y") c.find_place-source_y.result
    (c.find_place-source_y.ensures all h) c.as_slice-2.ensures)
    c.find_place-target_x.result (place_so all c.as_slice-3.result.now (codes "target_x") c.find_place-target_x.result
    (c.find_place-target_x.ensures all h) c.as_slice-3.ensures)
    c.find_place-target_y.result (place_so all c.as_slice-4.result.now (codes "target_y") c.find_place-target_y.result
    (c.find_place-target_y.ensures all h) c.as_slice-4.ensures)

pub returns-clause-inside : goal.returns-clause-inside
returns-clause-inside c =
    let (all, h) = c.requires.nodes in
    rw c.place_vertex_columns.ensures (vertex_columns_inside all (length c.args.values.now)
    (as_many c.args.doc.now.nodes c.args.bytes.now c.args.values.now all h)
    c.find_place-source_x.result (place_so all c.as_slice.result.now (codes "source_x") c.find_place-source_x.result
    (c.find_place-source_x.ensures all h) c.as_slice.ensures)
    c.find_place-source_y.result (place_so all c.as_slice-2.result.now (codes "source_y") c.find_place-source_y.result
    (c.find_place-source_y.ensures all h) c.as_slice-2.ensures)
    c.find_place-target_x.result (place_so all c.as_slice-3.result.now (codes "target_x") c.find_place-target_x.result
    (c.find_place-target_x.ensures all h) c.as_slice-3.ensures)
    c.find_place-target_y.result (place_so all c.as_slice-4.result.now (codes "target_y") c.find_place-target_y.result
    (c.find_place-target_y.ensures all h) c.as_slice-4.ensures))

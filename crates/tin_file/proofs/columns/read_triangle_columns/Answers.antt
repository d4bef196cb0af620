-- Answers to the goals of `read_triangle_columns` in src/columns.rt.
use Rattle.std.proofs.Common.{◌∙◌, sym}
use Rattle.std.specs.Prelude.{codes, length}
use Rattle.tin_file.proofs.DocumentValues.There.{as_many}
use Rattle.tin_file.proofs.FileRows.NamedPlaces.{triangle_columns_so, triangle_columns_inside, place_so}
use Rattle.tin_file.proofs.columns.read_triangle_columns.Goals as goal

pub returns-clause-columns : goal.returns-clause-columns
returns-clause-columns c all h =
    c.place_triangle_columns.ensures
    ∙ triangle_columns_so all (length c.args.values.now)
    (as_many c.args.doc.now.nodes c.args.bytes.now c.args.values.now all h)
    (sym (c.are_texts.ensures all h) ∙ c.if-not-are_texts.false)
    c.find_place-first.result (place_so all c.as_slice.result.now (codes "idx_vertex1") c.find_place-first.result
    (c.find_place-first.ensures all h) c.as_slice.ensures)
    c.find_place-second.result (place_so all c.as_slice-2.result.now (codes "idx_vertex2") c.find_place-second.result
    (c.find_place-second.ensures all h) c.as_slice-2.ensures)
    c.find_place-third.result (place_so all c.as_slice-3.result.now (codes "idx_vertex3") c.find_place-third.result
    (c.find_place-third.ensures all h) c.as_slice-3.ensures)

pub returns-clause-inside : goal.returns-clause-inside
returns-clause-inside c =
    let (all, h) = c.requires.nodes in
    rw c.place_triangle_columns.ensures (triangle_columns_inside all (length c.args.values.now)
    (as_many c.args.doc.now.nodes c.args.bytes.now c.args.values.now all h)
    c.find_place-first.result (place_so all c.as_slice.result.now (codes "idx_vertex1") c.find_place-first.result
    (c.find_place-first.ensures all h) c.as_slice.ensures)
    c.find_place-second.result (place_so all c.as_slice-2.result.now (codes "idx_vertex2") c.find_place-second.result
    (c.find_place-second.ensures all h) c.as_slice-2.ensures)
    c.find_place-third.result (place_so all c.as_slice-3.result.now (codes "idx_vertex3") c.find_place-third.result
    (c.find_place-third.ensures all h) c.as_slice-3.ensures))
